-- The result of a peer's calls, one after another.
use Rattle.std.proofs.Common.{◌≡◌, ℕ, ◌+◌, ◌-◌, ◌≤◌, Bool, true, false, List, [], ◌∷◌, ◌++◌, length, take, drop, Option, None, Some, refl, sym, ap, subst, ◌∙◌, arith, append_assoc, append-nil, Result, Ok, Err, inl, inr, ◌⊎◌, take-add, min}
use Rattle.std.specs.Io.KnownBytes.{Consumes, Appends, Keeps}
use Rattle.std.proofs.KnownBytes.{Consumes-nil, Consumes-trans, Consumes-kept, Appends-nil, Appends-trans}
use Rattle.std.specs.List.{AllByRecursion}
use Rattle.std.proofs.lemmas.Grind.{flat_map-append}
use Rattle.std.proofs.lemmas.List.{take_rest, length-take}
use Rattle.timer_script.specs.declared.service.TheConstants.{PIECE}
use Rattle.timer_script.specs.Peer.{PeerState, PeerCall, Came, Went, Flush, Told, Grows, Gives, Takes, Flushes, KeepsState, count_in}
use Rattle.timer_script.specs.Service.{came_in, came_of, gone_in, gone_of, is_flushed, IsPromptBy, HasTalkedBy, IsWrite, HasWritten, HasSentText, HasSentBut, HasTold}
use Rattle.timer_script.proofs.Results.{all_append}

-- ---- lists of calls

grows_none : (a : Option (List PeerCall)) → Grows a a []
grows_none None = tt
grows_none (Some xs) = sym (append-nil xs)

grows_join : (a b c : Option (List PeerCall)) (xs ys : List PeerCall) → Grows a b xs → Grows b c ys → Grows a c (xs ++ ys)
grows_join None b c xs ys p q = tt
grows_join (Some x) None c xs ys p q = absurd p
grows_join (Some x) (Some y) None xs ys p q = absurd q
grows_join (Some x) (Some y) (Some z) xs ys p q = q ∙ ap (λ t. t ++ ys) p ∙ append_assoc x xs ys

flushed_join : (flushed : Bool) (xs ys : List PeerCall) → is_flushed flushed (xs ++ ys) ≡ is_flushed (is_flushed flushed xs) ys
flushed_join flushed [] ys = refl
flushed_join flushed (Came bytes ∷ xs) ys = flushed_join flushed xs ys
flushed_join flushed (Went bytes ∷ xs) ys = flushed_join false xs ys
flushed_join flushed (Flush ∷ xs) ys = flushed_join true xs ys
flushed_join flushed (Told text ∷ xs) ys = flushed_join flushed xs ys

nothing_came : (xs : List PeerCall) → AllByRecursion IsWrite xs → came_of xs ≡ []
nothing_came [] a = refl
nothing_came (Came bytes ∷ xs) a = absurd a.0
nothing_came (Went bytes ∷ xs) a = nothing_came xs a.1
nothing_came (Flush ∷ xs) a = nothing_came xs a.1
nothing_came (Told text ∷ xs) a = absurd a.0

writes_prompt : (Answers StateIs : List ℕ → List ℕ → Type 0) (came gone : List ℕ) (flushed : Bool) (xs : List PeerCall)
    → AllByRecursion IsWrite xs → IsPromptBy Answers StateIs came gone flushed xs
writes_prompt Answers StateIs came gone flushed [] a = tt
writes_prompt Answers StateIs came gone flushed (Came bytes ∷ xs) a = absurd a.0
writes_prompt Answers StateIs came gone flushed (Went bytes ∷ xs) a = writes_prompt Answers StateIs came (gone ++ bytes) false xs a.1
writes_prompt Answers StateIs came gone flushed (Flush ∷ xs) a = writes_prompt Answers StateIs came gone true xs a.1
writes_prompt Answers StateIs came gone flushed (Told text ∷ xs) a = absurd a.0

prompt_join : (Answers StateIs : List ℕ → List ℕ → Type 0) (came gone : List ℕ) (flushed : Bool) (xs ys : List PeerCall)
    → IsPromptBy Answers StateIs came gone flushed xs
    → IsPromptBy Answers StateIs (came ++ came_of xs) (gone ++ gone_of xs) (is_flushed flushed xs) ys
    → IsPromptBy Answers StateIs came gone flushed (xs ++ ys)
prompt_join Answers StateIs came gone flushed [] ys a b = simp append-nil at b
prompt_join Answers StateIs came gone flushed (Came bytes ∷ xs) ys a b = (
  a.0,
  a.1,
  a.2,
  prompt_join Answers StateIs (came ++ bytes) gone flushed xs ys a.3 (rw (← append_assoc came bytes (came_of xs)) at b),
)
prompt_join Answers StateIs came gone flushed (Went bytes ∷ xs) ys a b =
    prompt_join Answers StateIs came (gone ++ bytes) false xs ys a (rw (← append_assoc gone bytes (gone_of xs)) at b)
prompt_join Answers StateIs came gone flushed (Flush ∷ xs) ys a b = prompt_join Answers StateIs came gone true xs ys a b
prompt_join Answers StateIs came gone flushed (Told text ∷ xs) ys a b =
    (a.0, a.1, a.2, prompt_join Answers StateIs came gone flushed xs ys a.3 b)

-- ---- single calls

Appends-kept : (a b : Option (List ℕ)) → Keeps a b → Appends a b []
Appends-kept None b k = tt
Appends-kept (Some x) None k = absurd k
Appends-kept (Some x) (Some y) k = k ∙ sym (append-nil x)

pub written_none : (p : PeerState) → HasWritten p [] p
written_none p = record {
  calls = [];
  grows = grows_none p.calls;
  writes = tt;
  gone_is = refl;
  written = Appends-nil p.contents;
  remaining = refl;
  reading = refl;
  origin = refl;
}

-- a text was written, and then another
pub written_join : (p q r : PeerState) (xs ys text : List ℕ) → xs ++ ys ≡ text → HasWritten p xs q → HasWritten q ys r
    → HasWritten p text r
written_join p q r xs ys text is a b = record {
  calls = a.calls ++ b.calls;
  grows = grows_join p.calls q.calls r.calls a.calls b.calls a.grows b.grows;
  writes = all_append IsWrite a.calls b.calls a.writes b.writes;
  gone_is = rw (flat_map-append gone_in a.calls b.calls, a.gone_is, b.gone_is) is;
  written = subst (Appends p.contents r.contents) is (Appends-trans p.contents q.contents r.contents xs ys a.written b.written);
  remaining = b.remaining ∙ a.remaining;
  reading = b.reading ∙ a.reading;
  origin = b.origin ∙ a.origin;
}

-- after a text came a write or a flush
written_call : (p q r : PeerState) (m : PeerCall) (xs text : List ℕ) → xs ++ gone_in m ≡ text → HasWritten p xs q → IsWrite m
    → Grows q.calls r.calls (m ∷ []) → Appends q.contents r.contents (gone_in m) → r.remaining ≡ q.remaining
    → r.read_failed ≡ q.read_failed → r.origin ≡ q.origin → HasWritten p text r
unfolding written_join
written_call p q r m xs text is w write grows written remaining reading origin = written_join p q r xs (gone_in m) text is w (record {
  calls = m ∷ [];
  grows = grows;
  writes = (write, tt);
  gone_is = append-nil (gone_in m);
  written = written;
  remaining = remaining;
  reading = reading;
  origin = origin;
})

-- one more write that took some of the rest
pub written_more : {E : Type 0} (p q r : PeerState) (text : List ℕ) (i n : ℕ) → HasWritten p (take i text) q
    → Takes {E = E} q (Ok n) (take (length text - i) (drop i text)) r → HasWritten p (take (i + n) text) r
written_more {E} p q r text i n w t =
    let piece : List ℕ = take n (take (length text - i) (drop i text)) in
    let parts : take i text ++ piece ≡ take (i + n) text = ap (λ t. take i text ++ take n t) (take_rest text i) ∙ sym (take-add i n text) in
    written_call p q r (Went piece) (take i text) (take (i + n) text) parts w tt t.noted t.bytes t.remaining t.reading t.origin

-- one more write that failed
pub written_failed : {E : Type 0} (p q r : PeerState) (text piece : List ℕ) (e : E) → HasWritten p text q → Takes {E = E} q (Err e) piece r
    → HasWritten p text r
written_failed {E} p q r text piece e w t =
    written_call p q r (Went []) text text (append-nil text) w tt t.noted (Appends-kept q.contents r.contents t.bytes) t.remaining t.reading t.origin

-- a flush after the text
pub written_flush : {E : Type 0} (p q r : PeerState) (text : List ℕ) (result : Result Unit E) → HasWritten p text q
    → Flushes {E = E} q result r → HasWritten p text r
written_flush {E} p q r text result w f =
    written_call p q r Flush text text (append-nil text) w tt f.noted (Appends-kept q.contents r.contents f.bytes) f.remaining f.reading f.origin

pub sent_all : {E : Type 0} (p q r : PeerState) (text : List ℕ) (u : Unit) → HasWritten p text q → Flushes {E = E} q (Ok u) r
    → r.write_failed ≡ false → HasSentText p text r
unfolding written_flush written_call written_join
sent_all {E} p q r text u w f good = record {
  written = written_flush {E = E} p q r text (Ok u) w f;
  flushed = flushed_join true w.calls (Flush ∷ []);
  good = good;
}

-- nothing was sent of a text
pub but_none : (X : List ℕ → Type 0) (p : PeerState) (text : List ℕ) → X text → HasSentBut X text true p p
unfolding written_none
but_none X p text all = record { sent = []; written = written_none p; flush = refl; all = all }

-- its first bytes were sent
pub but_sent : {X : List ℕ → Type 0} {p q r : PeerState} {front : List ℕ} (text rest : List ℕ) (flushed : Bool) → text ≡ front ++ rest
    → HasSentBut X text true p q → (w : HasWritten q front r) → is_flushed true w.calls ≡ flushed → HasSentBut X rest flushed p r
unfolding written_join
but_sent {X} {p} {q} {r} {front} text rest flushed parts h w last = record {
  sent = h.sent ++ front;
  written = written_join p q r h.sent front (h.sent ++ front) refl h.written w;
  flush = flushed_join true h.written.calls w.calls ∙ ap (λ f. is_flushed f w.calls) h.flush ∙ last;
  all = subst X (ap (λ t. h.sent ++ t) parts ∙ sym (append_assoc h.sent front rest)) h.all;
}

-- ---- a session and its peer

pub talked_nothing : (Answers StateIs : List ℕ → List ℕ → Type 0) (p : PeerState) → HasTalkedBy Answers StateIs p p [] [] true
talked_nothing Answers StateIs p = record {
  calls = [];
  grows = grows_none p.calls;
  came_is = refl;
  gone_is = refl;
  prompt = tt;
  flush = refl;
  read = Consumes-nil p.remaining;
  written = Appends-nil p.contents;
  origin = refl;
}

gave : {E : Type 0} (q r : PeerState) (result : Result ℕ E) (piece : List ℕ) → Gives q result piece r
    → Consumes q.remaining r.remaining (take (count_in result) piece)
gave q r (Ok n) piece g = g.bytes.0
gave q r (Err e) piece g = Consumes-kept q.remaining q.remaining r.remaining [] (Consumes-nil q.remaining) g.bytes

-- one more read, before which all was answered
pub talked_read : {E : Type 0} {Answers StateIs : List ℕ → List ℕ → Type 0} {p q r : PeerState} {came gone : List ℕ} {result : Result ℕ E}
    {piece : List ℕ} → HasTalkedBy Answers StateIs p q came gone true → Answers came gone → length piece ≤ PIECE → Gives q result piece r
    → HasTalkedBy Answers StateIs p r (came ++ take (count_in result) piece) gone true
talked_read {E} {Answers} {StateIs} {p} {q} {r} {came} {gone} {result} {piece} t answered short g =
    let bytes : List ℕ = take (count_in result) piece in
    let counted : length bytes ≡ min (count_in result) (length piece) = length-take (count_in result) piece in
    record {
      calls = t.calls ++ Came bytes ∷ [];
      grows = grows_join p.calls q.calls r.calls t.calls (Came bytes ∷ []) t.grows g.noted;
      came_is = rw (flat_map-append came_in t.calls (Came bytes ∷ []), t.came_is, append-nil bytes);
      gone_is = flat_map-append gone_in t.calls (Came bytes ∷ []) ∙ append-nil (gone_of t.calls) ∙ t.gone_is;
      prompt = prompt_join Answers StateIs [] [] true t.calls (Came bytes ∷ []) t.prompt (
        t.flush,
        subst (λ y. Answers (came_of t.calls) y) (sym t.gone_is) (subst (λ x. Answers x gone) (sym t.came_is) answered),
        omega arith,
        tt,
      );
      flush = flushed_join true t.calls (Came bytes ∷ []) ∙ t.flush;
      read = Consumes-trans p.remaining q.remaining r.remaining came bytes t.read (gave q r result piece g);
      written = subst (λ c. Appends p.contents c gone) (sym g.contents) t.written;
      origin = g.origin ∙ t.origin;
    }

-- text was written after it
pub talked_wrote : {Answers StateIs : List ℕ → List ℕ → Type 0} {p q r : PeerState} {came gone text : List ℕ} (flushed : Bool)
    → HasTalkedBy Answers StateIs p q came gone true → (w : HasWritten q text r) → is_flushed true w.calls ≡ flushed
    → HasTalkedBy Answers StateIs p r came (gone ++ text) flushed
talked_wrote {Answers} {StateIs} {p} {q} {r} {came} {gone} {text} flushed t w last = record {
  calls = t.calls ++ w.calls;
  grows = grows_join p.calls q.calls r.calls t.calls w.calls t.grows w.grows;
  came_is = rw (flat_map-append came_in t.calls w.calls, nothing_came w.calls w.writes, append-nil (came_of t.calls)) t.came_is;
  gone_is = rw (flat_map-append gone_in t.calls w.calls, t.gone_is, w.gone_is);
  prompt = prompt_join Answers StateIs [] [] true t.calls w.calls t.prompt
      (writes_prompt Answers StateIs (came_of t.calls) (gone_of t.calls) (is_flushed true t.calls) w.calls w.writes);
  flush = flushed_join true t.calls w.calls ∙ ap (λ f. is_flushed f w.calls) t.flush ∙ last;
  read = subst (λ x. Consumes p.remaining x came) (sym w.remaining) t.read;
  written = Appends-trans p.contents q.contents r.contents gone text t.written w.written;
  origin = w.origin ∙ t.origin;
}

-- ---- a state that is told

pub told_kept : {E : Type 0} (text : List ℕ) (p q : PeerState) (u : Unit) → KeepsState {E = E} p (Ok u) text q → HasTold text p q
told_kept {E} text p q u k =
    record { calls = Told text ∷ []; grows = k.noted; told = inr refl; remaining = k.remaining; contents = k.contents; origin = k.origin }

-- what such a call leaves as it was, and why it is prompt
record IsTelling (Answers StateIs : List ℕ → List ℕ → Type 0) (came gone : List ℕ) (calls : List PeerCall) : Type 0 where
  nothing_came : came_of calls ≡ []
  nothing_went : gone_of calls ≡ []
  flush : is_flushed true calls ≡ true
  prompt : IsPromptBy Answers StateIs came gone true calls

telling : (Answers StateIs : List ℕ → List ℕ → Type 0) (came gone text : List ℕ) (calls : List PeerCall)
    → (calls ≡ []) ⊎ (calls ≡ Told text ∷ []) → Answers came gone → StateIs came text
    → IsTelling Answers StateIs came gone calls
telling Answers StateIs came gone text calls told answered state = elim told [
  | inl none ↦ subst (IsTelling Answers StateIs came gone) (sym none)
      (record { nothing_came = refl; nothing_went = refl; flush = refl; prompt = tt })
  | inr one ↦ subst (IsTelling Answers StateIs came gone) (sym one)
      (record { nothing_came = refl; nothing_went = refl; flush = refl; prompt = (refl, answered, state, tt) })
]

-- a state was told, before which all was answered
pub talked_told : {Answers StateIs : List ℕ → List ℕ → Type 0} {p q r : PeerState} {came gone : List ℕ} (text : List ℕ)
    → HasTalkedBy Answers StateIs p q came gone true → Answers came gone → StateIs came text → HasTold text q r
    → HasTalkedBy Answers StateIs p r came gone true
talked_told {Answers} {StateIs} {p} {q} {r} {came} {gone} text t answered state h =
    let is = telling Answers StateIs came gone text h.calls h.told answered state in
    record {
      calls = t.calls ++ h.calls;
      grows = grows_join p.calls q.calls r.calls t.calls h.calls t.grows h.grows;
      came_is = rw (flat_map-append came_in t.calls h.calls, is.nothing_came, append-nil (came_of t.calls)) t.came_is;
      gone_is = rw (flat_map-append gone_in t.calls h.calls, is.nothing_went, append-nil (gone_of t.calls)) t.gone_is;
      prompt = prompt_join Answers StateIs [] [] true t.calls h.calls t.prompt
          (subst (λ x. IsPromptBy Answers StateIs x (gone_of t.calls) (is_flushed true t.calls) h.calls) (sym t.came_is)
          (subst (λ y. IsPromptBy Answers StateIs came y (is_flushed true t.calls) h.calls) (sym t.gone_is)
          (subst (λ f. IsPromptBy Answers StateIs came gone f h.calls) (sym t.flush) is.prompt)));
      flush = flushed_join true t.calls h.calls ∙ ap (λ f. is_flushed f h.calls) t.flush ∙ is.flush;
      read = subst (λ x. Consumes p.remaining x came) (sym h.remaining) t.read;
      written = subst (λ x. Appends p.contents x gone) (sym h.contents) t.written;
      origin = h.origin ∙ t.origin;
    }

-- ---- calls that are known

pub known_prompt : {Answers StateIs : List ℕ → List ℕ → Type 0} {old new : PeerState} {came gone : List ℕ} {flushed : Bool} (calls : List PeerCall)
    → old.calls ≡ Some [] → new.calls ≡ Some calls → HasTalkedBy Answers StateIs old new came gone flushed
    → IsPromptBy Answers StateIs [] [] true calls
known_prompt calls none known talked =
    let is : calls ≡ talked.calls = rw (none, known) at talked.grows in rw is talked.prompt
