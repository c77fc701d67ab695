-- What the peer got, call after call.
use Rattle.std.proofs.Common.{◌≡◌, ℕ, ◌+◌, ◌||◌, Bool, true, false, List, [], ◌∷◌, ◌++◌, length, take, drop, Option, None, Some, Result, Ok, Err, refl, sym, ap, subst, ◌∙◌, append_assoc, append-nil}
use Rattle.std.proofs.Math.Seq.{drop-append_seam, drop-length, take-length}
use Rattle.std.proofs.lemmas.Grind.{flat_map-append}
use Rattle.std.proofs.lemmas.List.{length-take, take_min}
use Rattle.std.specs.Io.KnownBytes.{prepend_known, Keeps, Appends, WriteAppends}
use Rattle.std.proofs.KnownBytes.{Appends-nil, Appends-trans}
use Rattle.timer_script.specs.Peer.{PeerOrigin, PeerState, PeerCall, Came, Went, Flush, Takes, count_in}
use Rattle.timer_script.specs.Watched.{took_nothing}
use Rattle.timer_script.specs.Service.{came_in, came_of, gone_in, gone_of}
use Rattle.timer_durable.specs.Answers.{answers_in, IsSeenWithin}
use Rattle.timer_durable.specs.Durable.{state_over, IsReplaying, HasReplayed, greeting_to, later_of}
use Rattle.timer_durable.proofs.Giving.{more_given}

call_came : (calls : List PeerCall) (call : PeerCall) → came_of (calls ++ call ∷ []) ≡ came_of calls ++ came_in call
call_came calls call = flat_map-append came_in calls (call ∷ []) ∙ ap (λ l. came_of calls ++ l) (append-nil (came_in call))

call_gone : (calls : List PeerCall) (call : PeerCall) → gone_of (calls ++ call ∷ []) ≡ gone_of calls ++ gone_in call
call_gone calls call = flat_map-append gone_in calls (call ∷ []) ∙ ap (λ l. gone_of calls ++ l) (append-nil (gone_in call))

appends_kept : (a b : Option (List ℕ)) → Keeps a b → Appends a b []
appends_kept None b k = tt
appends_kept (Some x) None k = absurd k
appends_kept (Some x) (Some y) k = k ∙ sym (append-nil x)

-- what a write took
pub takes_text : {E : Type 0} (a b : Option (List ℕ)) (result : Result ℕ E) (piece text : List ℕ) → WriteAppends a b result piece
    → text ≡ take (count_in result) piece → Appends a b text
takes_text a b (Ok n) piece text takes is = subst (Appends a b) (sym is) takes
takes_text a b (Err e) piece text keeps is = subst (Appends a b) (sym is) (appends_kept a b keeps)

-- a write, as the server sees it
written : {E : Type 0} (result : Result ℕ E) (piece a b : List ℕ) → b ≡ a ++ take (count_in result) piece
    → WriteAppends (Some a) (Some b) result piece
written (Ok n) piece a b is = is
written (Err e) piece a b is = is ∙ append-nil a

pub write_seen : {E : Type 0} (result : Result ℕ E) (piece due front : List ℕ) (peer peer' : PeerState) (calls calls' : List PeerCall)
    (reading failed failed' : Bool) (origin : PeerOrigin) → Takes peer result piece peer'
    → calls' ≡ calls ++ Went (take (count_in result) piece) ∷ [] → failed' ≡ (failed || took_nothing result piece)
    → Takes (state_over due front peer calls reading failed origin) result piece (state_over due front peer' calls' reading failed' origin)
write_seen result piece due front peer peer' calls calls' reading failed failed' origin takes noted fails = record {
  origin = refl;
  within = takes.within;
  bytes = written result piece (gone_of calls) (gone_of calls') (ap gone_of noted ∙ call_gone calls (Went (take (count_in result) piece)));
  noted = noted;
  failed = fails;
  remaining = ap (prepend_known (due ++ front)) takes.remaining;
  reading = refl;
}

-- ---- while lines are replayed

-- a call by which nothing came
pub replaying_call : {origin : PeerOrigin} {contents : Option (List ℕ)} {calls : List PeerCall} {due told : List ℕ} {has_ended : Bool}
    (call : PeerCall) (calls' : List PeerCall) → calls' ≡ calls ++ call ∷ [] → came_in call ≡ []
    → IsReplaying origin contents calls due has_ended told → IsReplaying origin contents calls' due has_ended told
replaying_call {calls = calls} {due = due} call calls' noted none h = record {
  untouched = h.untouched;
  untold = h.untold;
  lines = ap (λ c. came_of c ++ due) noted ∙ ap (λ c. c ++ due) (call_came calls call ∙ ap (λ b. came_of calls ++ b) none
      ∙ append-nil (came_of calls)) ∙ h.lines;
  early = h.early;
}

-- the next n bytes were given
pub replaying_given : {origin : PeerOrigin} {contents : Option (List ℕ)} {calls : List PeerCall} {told : List ℕ} {has_ended : Bool}
    (calls' : List PeerCall) (lines : List ℕ) (given n : ℕ) (b : List ℕ) → calls' ≡ calls ++ Came b ∷ [] → b ≡ take n (drop given lines)
    → IsReplaying origin contents calls (drop given lines) has_ended told → IsReplaying origin contents calls' (drop (given + n) lines) has_ended told
replaying_given {calls = calls} calls' lines given n b noted is h = record {
  untouched = h.untouched;
  untold = h.untold;
  lines = ap (λ c. c ++ drop (given + n) lines) (ap came_of noted ∙ call_came calls (Came b)) ∙ append_assoc (came_of calls) b (drop (given + n) lines)
      ∙ ap (λ l. came_of calls ++ l) (sym (more_given lines given n b is)) ∙ h.lines;
  early = h.early;
}

-- ---- once they are

later_more : (recovered calls calls' : List PeerCall) (call : PeerCall) → calls ≡ recovered ++ later_of recovered calls
    → calls' ≡ calls ++ call ∷ [] → later_of recovered calls' ≡ later_of recovered calls ++ call ∷ []
later_more recovered calls calls' call parts noted =
    ap (drop (length recovered)) (noted ∙ ap (λ c. c ++ call ∷ []) parts ∙ append_assoc recovered (later_of recovered calls) (call ∷ []))
    ∙ drop-append_seam recovered (later_of recovered calls ++ call ∷ [])

-- one more call, and what the peer took in it
pub replayed_call : {origin : PeerOrigin} {calls recovered : List PeerCall} {told : List ℕ} {failed : Bool} (contents contents' : Option (List ℕ))
    (call : PeerCall) (calls' : List PeerCall) (failed' : Bool) → calls' ≡ calls ++ call ∷ [] → Appends contents contents' (gone_in call)
    → (failed' ≡ false → failed ≡ false) → HasReplayed origin contents calls recovered told failed
    → HasReplayed origin contents' calls' recovered told failed'
replayed_call {origin} {calls} {recovered} {told} contents contents' call calls' failed' noted takes good h =
    let later : List PeerCall = later_of recovered calls in
    let more = later_more recovered calls calls' call h.parts noted in
    let text : (told ++ gone_of later) ++ gone_in call ≡ told ++ gone_of (later_of recovered calls') =
    append_assoc told (gone_of later) (gone_in call) ∙ ap (λ g. told ++ g) (sym (ap gone_of more ∙ call_gone later call)) in
    record {
      parts = noted ∙ ap (λ c. c ++ call ∷ []) h.parts ∙ append_assoc recovered later (call ∷ []) ∙ ap (λ l. recovered ++ l) (sym more);
      lines = h.lines;
      within = h.within;
      front = h.front;
      whole = λ fine. h.whole (good fine);
      written = subst (Appends origin.contents contents') text
          (Appends-trans origin.contents contents contents' (told ++ gone_of later) (gone_in call) h.written takes);
    }

-- a flush
pub replayed_flush : {origin : PeerOrigin} {calls recovered : List PeerCall} {told : List ℕ} {failed : Bool} (contents contents' : Option (List ℕ))
    (calls' : List PeerCall) → calls' ≡ calls ++ Flush ∷ [] → Keeps contents contents'
    → HasReplayed origin contents calls recovered told failed → HasReplayed origin contents' calls' recovered told failed
replayed_flush {failed = failed} contents contents' calls' noted keeps h =
    replayed_call contents contents' Flush calls' failed noted (appends_kept contents contents' keeps) (λ fine. fine) h

-- a read that failed
pub replayed_failed : {origin : PeerOrigin} {contents : Option (List ℕ)} {calls recovered : List PeerCall} {told : List ℕ} {failed : Bool}
    (calls' : List PeerCall) → calls' ≡ calls ++ Came [] ∷ [] → HasReplayed origin contents calls recovered told failed
    → HasReplayed origin contents calls' recovered told true
replayed_failed {contents = contents} calls' noted h =
    replayed_call contents contents (Came []) calls' true noted (Appends-nil contents) (λ fine. absurd cc) h

-- a call that the peer did not see
pub replayed_quiet : {origin : PeerOrigin} {contents : Option (List ℕ)} {calls recovered : List PeerCall} {told : List ℕ} {failed : Bool}
    (call : PeerCall) (calls' : List PeerCall) → calls' ≡ calls ++ call ∷ [] → gone_in call ≡ []
    → HasReplayed origin contents calls recovered told failed → HasReplayed origin contents calls' recovered told failed
replayed_quiet {contents = contents} {failed = failed} call calls' noted none h =
    replayed_call contents contents call calls' failed noted (subst (Appends contents contents) (sym none) (Appends-nil contents)) (λ fine. fine) h

-- ---- the peer is told

pub told_now : {origin : PeerOrigin} {calls : List PeerCall} {due told : List ℕ} {has_ended : Bool} (contents contents' : Option (List ℕ))
    (recovered : List PeerCall) (text told' : List ℕ) (count : ℕ) (failed : Bool) → recovered ≡ calls → due ≡ []
    → IsSeenWithin origin.seen origin.answers (origin.answers + answers_in (gone_of calls))
    → text ≡ greeting_to origin (came_of calls) (gone_of calls) → Appends contents contents' (take count text) → told' ≡ told ++ take count text
    → (failed ≡ false → count ≡ length text)
    → IsReplaying origin contents calls due has_ended told → HasReplayed origin contents' calls recovered told' failed
told_now {origin} {calls} {due} {told} contents contents' recovered text told' count failed same none within text_is takes noted whole h =
    let rest : later_of recovered calls ≡ [] = ap (λ r. drop (length r) calls) same ∙ drop-length calls in
    let is : told' ≡ take count text = noted ∙ ap (λ t. t ++ take count text) h.untold in
    let greeting : text ≡ greeting_to origin (came_of recovered) (gone_of recovered) =
    text_is ∙ ap (λ c. greeting_to origin (came_of c) (gone_of c)) (sym same) in
    record {
      parts = sym same ∙ sym (append-nil recovered) ∙ ap (λ l. recovered ++ l) (sym rest);
      lines = ap came_of same ∙ sym (append-nil (came_of calls)) ∙ ap (λ d. came_of calls ++ d) (sym none) ∙ h.lines;
      within = subst (λ r. IsSeenWithin origin.seen origin.answers (origin.answers + answers_in (gone_of r))) (sym same) within;
      front = is ∙ sym (take_min count text) ∙ ap (λ k. take k text) (sym (length-take count text)) ∙ ap (λ t. take (length t) text) (sym is)
          ∙ ap (take (length told')) greeting;
      whole = λ fine. is ∙ ap (λ k. take k text) (whole fine) ∙ take-length text ∙ greeting;
      written = subst (Appends origin.contents contents') (sym is ∙ sym (append-nil told') ∙ ap (λ l. told' ++ gone_of l) (sym rest))
          (subst (λ c. Appends c contents' (take count text)) h.untouched takes);
    }
