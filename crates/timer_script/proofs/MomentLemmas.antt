-- What went to a peer at a moment between two calls of its server.
use Rattle.std.proofs.Common.{◌≡◌, ℕ, ◌≤◌, Bool, true, false, List, [], ◌∷◌, ◌++◌, length, Option, Some, Result, Ok, Err, ◌⊎◌, refl, sym, ap, subst, ◌∙◌, arith, append_assoc, append-nil, length-append, inl, inr}
use Rattle.std.proofs.lemmas.Grind.{flat_map-append}
use Rattle.std.proofs.lemmas.List.{nil_from_length}
use Rattle.timer_script.specs.Types.{Event, FacilityState, ServeFault}
use Rattle.timer_script.specs.declared.cutter.OnBadLine.TheVariants.{Report}
use Rattle.timer_script.specs.declared.fault.ServeFault.TheVariants as faults
use Rattle.timer_script.specs.Cutter.{PassesEvents, HasSeen}
use Rattle.timer_script.specs.Decorator.{AddsNothing}
use Rattle.timer_script.specs.Peer.{PeerState, PeerCall, Came, Went, Flush, Told}
use Rattle.timer_script.specs.Service.{came_in, came_of, gone_in, gone_of, IsPromptBy, HasTalkedBy, HasTalked, Server, Sides, server_with, HasAnsweredPart, HasAnsweredReads, HasAnsweredSomeReads, IsAnsweredWith, HasServedPeer, HasAnsweredAll, last_line}
use Rattle.timer_script.specs.Replayed.{BeginsWith, IsAnsweredFirst, IsEndIf, IsAnswerSoFar, AreWholeAnswers}
use Rattle.timer_script.proofs.CutterLines.{stop_report}
use Rattle.timer_script.proofs.FeedLemmas.{no_feed_long}
use Rattle.timer_script.proofs.ReplayLemmas.{passes_first, part_first}
use Rattle.timer_script.proofs.ServiceLemmas.{prompt}
use Rattle.timer_script.proofs.ServicePieces.{part_of, plain_reads, plain_some}
use Rattle.timer_script.proofs.TextLemmas.{end_line_is}

-- ---- the next read

record NextRead (back : List PeerCall) : Type 0 where
  pub before : List PeerCall
  pub bytes : List ℕ
  pub later : List PeerCall
  pub parts : back ≡ before ++ Came bytes ∷ later
  pub quiet : came_of before ≡ []

next_after : (call : PeerCall) {back : List PeerCall} → came_in call ≡ [] → NextRead back → NextRead (call ∷ back)
next_after call none n = record {
  before = call ∷ n.before;
  bytes = n.bytes;
  later = n.later;
  parts = ap (λ l. call ∷ l) n.parts;
  quiet = ap (λ b. b ++ came_of n.before) none ∙ n.quiet;
}

next_read : (back : List PeerCall) → (came_of back ≡ []) ⊎ NextRead back
next_read [] = inl refl
next_read (Came bytes ∷ back) = inr (record { before = []; bytes = bytes; later = back; parts = refl; quiet = refl })
next_read (Went text ∷ back) = elim (next_read back) [ inl none ↦ inl none | inr n ↦ inr (next_after (Went text) refl n) ]
next_read (Flush ∷ back) = elim (next_read back) [ inl none ↦ inl none | inr n ↦ inr (next_after Flush refl n) ]
next_read (Told text ∷ back) = elim (next_read back) [ inl none ↦ inl none | inr n ↦ inr (next_after (Told text) refl n) ]

-- before a read what went is an answer
answered_then : (Answers StateIs : List ℕ → List ℕ → Type 0) (came gone : List ℕ) (flushed : Bool) (front : List PeerCall) (bytes : List ℕ)
    (later : List PeerCall) → IsPromptBy Answers StateIs came gone flushed (front ++ Came bytes ∷ later)
    → Answers (came ++ came_of front) (gone ++ gone_of front)
answered_then Answers StateIs came gone flushed [] bytes later h = simp append-nil h.1
answered_then Answers StateIs came gone flushed (Came more ∷ front) bytes later h =
    subst (λ c. Answers c (gone ++ gone_of front)) (append_assoc came more (came_of front))
    (answered_then Answers StateIs (came ++ more) gone flushed front bytes later h.3)
answered_then Answers StateIs came gone flushed (Went text ∷ front) bytes later h =
    subst (λ g. Answers (came ++ came_of front) g) (append_assoc gone text (gone_of front))
    (answered_then Answers StateIs came (gone ++ text) false front bytes later h)
answered_then Answers StateIs came gone flushed (Flush ∷ front) bytes later h =
    answered_then Answers StateIs came gone true front bytes later h
answered_then Answers StateIs came gone flushed (Told text ∷ front) bytes later h =
    answered_then Answers StateIs came gone flushed front bytes later h.3

-- ---- an answer so far

begins-trans : (a b c : List ℕ) → BeginsWith a b → BeginsWith b c → BeginsWith a c
begins-trans a b c f g = (g.0 ++ f.0, f.1 ∙ ap (λ t. t ++ f.0) g.1 ∙ append_assoc c g.0 f.0)

-- the answer to a part of what came
part_answered : {before : FacilityState} {came : List ℕ} {events : List Event} (seen unseen text : List ℕ) → came ≡ seen ++ unseen
    → PassesEvents Report seen events → HasAnsweredPart AddsNothing before events text → IsAnsweredFirst before came text
part_answered {events = events} seen unseen text parts passes part = λ again more whole goes_on w.
    let h = passes_first (unseen ++ more) passes
    (subst (λ c. PassesEvents Report c w.events) (ap (λ c. c ++ more) parts ∙ append_assoc seen unseen more) w.passes) in
    part_first h.0 h.1 goes_on part (plain_reads w.answered)

whole_answered : {before after : FacilityState} {came : List ℕ} {events : List Event} (text : List ℕ) → PassesEvents Report came events
    → HasAnsweredReads AddsNothing before events after text → IsAnsweredFirst before came text
whole_answered {came = came} {events = events} text passes answered =
    part_answered came [] text (sym (append-nil came)) passes
    (part_of events [] text [] (sym (append-nil events)) (sym (append-nil text)) (plain_reads answered) (inl refl))

-- such an answer, and no line of the end
so_far_of : {before : FacilityState} {came : List ℕ} (answer gone : List ℕ) → IsAnsweredFirst before came answer → BeginsWith answer gone
    → IsAnswerSoFar before came gone
so_far_of answer gone first front = record {
  answer = answer;
  first = first;
  end = [];
  end_is = inl refl;
  front = subst (λ a. BeginsWith a gone) (sym (append-nil answer)) front;
}

all_of : (text : List ℕ) → BeginsWith text text
all_of text = ([], sym (append-nil text))

-- ---- however serving ends

record TalkSoFar {F : Type 0} (server : Server F) (old new : PeerState) : Type 0 where
  pub came : List ℕ
  pub gone : List ℕ
  pub flushed : Bool
  pub talked : HasTalked server old new came gone flushed
  pub so_far : IsAnswerSoFar server.before came gone

seen_so_far : {F : Type 0} (before : FacilityState) (contents : F → Option (List ℕ)) (old new : Sides F) (came seen unseen : List ℕ)
    (events : List Event) (sent unsent : List ℕ) (flushed : Bool) → came ≡ seen ++ unseen
    → HasSeen Report contents old.faults new.faults seen events → HasAnsweredSomeReads AddsNothing before events (sent ++ unsent)
    → HasTalked (server_with Report AddsNothing before contents) old.peer new.peer came sent flushed
    → TalkSoFar (server_with Report AddsNothing before contents) old.peer new.peer
seen_so_far before contents old new came seen unseen events sent unsent flushed parts is_seen part talked = record {
  came = came;
  gone = sent;
  flushed = flushed;
  talked = talked;
  so_far = so_far_of (sent ++ unsent) sent (elim is_seen [
    | inl passed ↦ part_answered seen unseen (sent ++ unsent) parts passed.passes (plain_some part)
    | inr stopped ↦ absurd (stop_report Report stopped.1.stop refl)
  ]) (unsent, refl);
}

end_so_far : {F : Type 0} (before : FacilityState) (contents : F → Option (List ℕ)) (old new : PeerState) (came : List ℕ) (events : List Event)
    (sent unsent : List ℕ) (flushed : Bool) → PassesEvents Report came events
    → HasAnsweredAll (server_with Report AddsNothing before contents) new events (sent ++ unsent)
    → HasTalked (server_with Report AddsNothing before contents) old new came sent flushed
    → TalkSoFar (server_with Report AddsNothing before contents) old new
end_so_far before contents old new came events sent unsent flushed passes all talked = record {
  came = came;
  gone = sent;
  flushed = flushed;
  talked = talked;
  so_far = record {
    answer = all.decorated;
    first = whole_answered all.decorated passes
        (record { outs = all.answered.outs; runs = all.answered.played.runs; added = all.added });
    end = last_line all.answered.after;
    end_is = inr (all.answered.after, refl);
    front = (unsent, sym all.text_is);
  };
}

ended_so_far : {F : Type 0} (before : FacilityState) (contents : F → Option (List ℕ)) (old new : Sides F) (result : Result Bool ServeFault)
    → HasServedPeer (server_with Report AddsNothing before contents) old new result
    → TalkSoFar (server_with Report AddsNothing before contents) old.peer new.peer
ended_so_far before contents old new (Ok clean) (came, events, text, reached, all, talked, good) =
    end_so_far before contents old.peer new.peer came events text [] true reached.passed.passes
    (subst (HasAnsweredAll (server_with Report AddsNothing before contents) new.peer events) (sym (append-nil text)) all) talked
ended_so_far before contents old new (Err faults.Read) (s, h, failed, good) = record {
  came = h.came;
  gone = h.so_far.sent;
  flushed = true;
  talked = h.so_far.talked;
  so_far = so_far_of h.so_far.sent h.so_far.sent (whole_answered h.so_far.sent h.passed.passes h.so_far.answered) (all_of h.so_far.sent);
}
ended_so_far before contents old new (Err faults.TooLong) (s, h, long, good) = record {
  came = h.came;
  gone = h.so_far.sent;
  flushed = true;
  talked = h.so_far.talked;
  so_far = so_far_of h.so_far.sent h.so_far.sent (whole_answered h.so_far.sent h.passed.passes h.so_far.answered) (all_of h.so_far.sent);
}
ended_so_far before contents old new (Err (faults.Bad n)) h = absurd (stop_report Report h.0 refl)
ended_so_far before contents old new (Err faults.OutOfMemory) (h, good) =
    seen_so_far before contents old new h.came h.passed.seen h.passed.unseen h.events h.some.sent [] true h.passed.parts h.passed.passed
    h.some.answered h.some.talked
ended_so_far before contents old new (Err faults.Write) (h, reading, writing) = elim h [
  | inl part ↦ (
      let p = part.2 in
      seen_so_far before contents old new p.came p.came [] p.events p.some.sent part.0 part.1 (sym (append-nil p.came)) p.passed
      p.some.answered p.some.talked
      )
  | inr all ↦ end_so_far before contents old.peer new.peer all.0 all.1 all.2 all.3 all.4 all.6.passed.passes all.7 all.8
]

-- ---- at each moment

known_calls : {Answers StateIs : List ℕ → List ℕ → Type 0} {old new : PeerState} {came gone : List ℕ} {flushed : Bool} (calls : List PeerCall)
    → old.calls ≡ Some [] → new.calls ≡ Some calls → (talked : HasTalkedBy Answers StateIs old new came gone flushed) → calls ≡ talked.calls
known_calls calls none known talked = rw (none, known) at talked.grows

pub so_far_then : {F : Type 0} (before : FacilityState) (contents : F → Option (List ℕ)) (old new : Sides F)
    (result : Result Bool ServeFault) (calls front back : List PeerCall) → old.peer.calls ≡ Some [] → new.peer.calls ≡ Some calls
    → calls ≡ front ++ back → HasServedPeer (server_with Report AddsNothing before contents) old new result
    → IsAnswerSoFar before (came_of front) (gone_of front)
so_far_then before contents old new result calls front back none known parts h = elim (next_read back) [
  | inr n ↦ (
      let S = server_with Report AddsNothing before contents in
      let now : List PeerCall = front ++ n.before in
      let is : calls ≡ now ++ Came n.bytes ∷ n.later = parts ∙ ap (λ b. front ++ b) n.parts ∙ sym (append_assoc front n.before (Came n.bytes ∷ n.later)) in
      let p = subst (IsPromptBy _ _ [] [] true) is (prompt S old new result calls none known h) in
      let a : IsAnsweredWith Report AddsNothing before (came_of now) (gone_of now) = answered_then _ _ [] [] true now n.bytes n.later p in
      let came : came_of now ≡ came_of front =
      flat_map-append came_in front n.before ∙ ap (λ t. came_of front ++ t) n.quiet ∙ append-nil (came_of front) in
      so_far_of (gone_of now) (gone_of front) (subst (λ c. IsAnsweredFirst before c (gone_of now)) came (whole_answered (gone_of now) a.passes a.answered))
      (gone_of n.before, flat_map-append gone_in front n.before)
      )
  | inl quiet ↦ (
      let t = ended_so_far before contents old new result h in
      let is = known_calls calls none known t.talked in
      let came : t.came ≡ came_of front = sym t.talked.came_is ∙ ap came_of (sym is ∙ parts) ∙ flat_map-append came_in front back
      ∙ ap (λ c. came_of front ++ c) quiet ∙ append-nil (came_of front) in
      let gone : t.gone ≡ gone_of front ++ gone_of back = sym t.talked.gone_is ∙ ap gone_of (sym is ∙ parts) ∙ flat_map-append gone_in front back in
      subst (λ c. IsAnswerSoFar before c (gone_of front)) came (record {
        answer = t.so_far.answer;
        first = t.so_far.first;
        end = t.so_far.end;
        end_is = t.so_far.end_is;
        front = begins-trans (t.so_far.answer ++ t.so_far.end) t.gone (gone_of front) t.so_far.front (gone_of back, gone);
      })
      )
]

-- ---- whole answers

-- the front of a text is not longer than another one, and this is between them
record IsShorter (xs ys a b : List ℕ) : Type 0 where
  pub between : List ℕ
  pub is : ys ≡ xs ++ between
  pub rest : a ≡ between ++ b

record IsLonger (xs ys a b : List ℕ) : Type 0 where
  pub byte : ℕ
  pub between : List ℕ
  pub is : xs ≡ ys ++ byte ∷ between
  pub rest : b ≡ (byte ∷ between) ++ a

two_fronts : (xs ys a b : List ℕ) → xs ++ a ≡ ys ++ b → IsShorter xs ys a b ⊎ IsLonger xs ys a b
two_fronts [] ys a b e = inl (record { between = ys; is = refl; rest = e })
two_fronts (x ∷ xs) [] a b e = inr (record { byte = x; between = xs; is = refl; rest = sym e })
two_fronts (x ∷ xs) (y ∷ ys) a b e =
    let first : x ≡ y = cc in
    elim (two_fronts xs ys a b (cc)) [
      | inl h ↦ inl (record {
        between = h.between;
        is = ap (λ t. y ∷ t) h.is ∙ ap (λ c. c ∷ (xs ++ h.between)) (sym first);
        rest = h.rest;
      })
      | inr h ↦ inr (record {
        byte = h.byte;
        between = h.between;
        is = ap (λ c. c ∷ xs) first ∙ ap (λ t. y ∷ t) h.is;
        rest = h.rest;
      })
    ]

-- bytes at the front of the line at the end, after which a line ends, are all of it
whole_end : (front answer more rest : List ℕ) (after : FacilityState) → 1 ≤ length more → answer ++ more ≡ front ++ 10 ∷ []
    → last_line after ≡ more ++ rest → last_line after ≡ more
whole_end front answer more rest after some e is = elim (two_fronts answer front more (10 ∷ []) e) [
  | inl h ↦ (
      let l = end_line_is after.now (length after.pending) in
      let parts : (l.first ∷ l.rest) ++ 10 ∷ [] ≡ h.between ++ 10 ∷ rest =
      sym l.is ∙ is ∙ ap (λ t. t ++ rest) h.rest ∙ append_assoc h.between (10 ∷ []) rest in
      let long = no_feed_long (l.first ∷ l.rest) h.between (10 ∷ []) rest l.no_feed parts in
      let none : rest ≡ [] = nil_from_length rest (omega (
        arith,
        long,
        ap length parts,
        length-append (l.first ∷ l.rest) (10 ∷ []),
        length-append h.between (10 ∷ rest),
      )) in
      is ∙ ap (λ t. more ++ t) none ∙ append-nil more
      )
  | inr h ↦ absurd (omega (arith, some, ap length h.rest, length-append (h.byte ∷ h.between) more))
]

-- whole lines at the front of a text and the line at its end, but not that line, are at the front of the text
pub whole_front : (answer end got : List ℕ) → IsEndIf end → BeginsWith (answer ++ end) got → AreWholeAnswers got → BeginsWith answer got
whole_front answer end got is_end front whole = elim (two_fronts got answer front.0 end (sym front.1)) [
  | inl h ↦ (h.between, h.is)
  | inr h ↦ absurd (elim is_end [
    | inl none ↦ (let e : [] ≡ (h.byte ∷ h.between) ++ front.0 = sym none ∙ h.rest in absurd cc)
    | inr last ↦ elim whole.whole [
      | inl nothing ↦ absurd (omega (arith, ap length (sym nothing ∙ h.is), length-append answer (h.byte ∷ h.between)))
      | inr fed ↦ whole.no_end answer last.0 (h.is ∙ ap (λ t. answer ++ t) (sym (whole_end fed.0 answer (h.byte ∷ h.between) front.0 last.0
          (omega arith) (sym h.is ∙ fed.1) (sym last.1 ∙ h.rest))))
    ]
  ])
]

pub whole_answered_first : (before : FacilityState) (came gone got : List ℕ) → IsAnswerSoFar before came gone → BeginsWith gone got
    → AreWholeAnswers got → IsAnsweredFirst before came got
whole_answered_first before came gone got so_far front whole = λ again more text goes_on w.
    begins-trans text so_far.answer got (so_far.first again more text goes_on w)
    (whole_front so_far.answer so_far.end got so_far.end_is (begins-trans (so_far.answer ++ so_far.end) gone got so_far.front front) whole)

-- ---- what no call changes

pub served_origin : {F : Type 0} (S : Server F) (old new : Sides F) (result : Result Bool ServeFault) → HasServedPeer S old new result
    → new.peer.origin ≡ old.peer.origin
served_origin S old new (Ok clean) h = h.5.origin
served_origin S old new (Err faults.Read) h = h.1.so_far.talked.origin
served_origin S old new (Err (faults.Bad n)) h = h.3.so_far.talked.origin
served_origin S old new (Err faults.OutOfMemory) h = h.0.some.talked.origin
served_origin S old new (Err faults.Write) h = elim h.0 [ inl x ↦ x.2.some.talked.origin | inr x ↦ x.8.origin ]
served_origin S old new (Err faults.TooLong) h = h.1.so_far.talked.origin
