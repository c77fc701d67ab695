-- A stream that is broken off, and goes on.
use Rattle.std.proofs.Common.{◌≡◌, ◌≢◌, ℕ, ◌+◌, ◌-◌, ◌≤◌, Bool, true, false, List, [], ◌∷◌, ◌++◌, length, drop, Option, None, Some, Result, Ok, Err, refl, sym, ap, subst, ◌∙◌, append_assoc, append-nil, inl, inr, arith}
use Rattle.std.proofs.Math.Seq.{drop-append_seam}
use Rattle.std.proofs.lemmas.Grind.{flat_map-append}
use Rattle.std.specs.Io.KnownBytes.{prepend_known, Consumes, Appends}
use Rattle.timer_facility.specs.declared.saved.Limits.{Limits}
use Rattle.timer_facility.specs.declared.saved.Stage.TheVariants.{Whole}
use Rattle.timer_facility.specs.Restored.{restored, GoesOnAs}
use Rattle.timer_facility.specs.Saved.{ReadState, lines_at, lines_read, state_lines}
use Rattle.timer_facility.specs.State.{FacilityState}
use Rattle.timer_facility.proofs.RunBare.{plays-bare}
use Rattle.timer_facility.proofs.StateLines.{same_saved}
use Rattle.timer_script.specs.SavedText.{AreStateLines, IsSavedText}
use Rattle.timer_script.specs.Text.{lines_of}
use Rattle.timer_script.specs.declared.fault.ServeFault.{ServeFault}
use Rattle.timer_script.specs.declared.watched.Watched.{Watched}
use Rattle.timer_script.specs.declared.cutter.OnBadLine.TheVariants.{Report}
use Rattle.timer_script.specs.declared.fault.ServeFault.TheVariants as serves
use Rattle.timer_script.specs.Cutter.{PassesEvents}
use Rattle.timer_script.specs.Decorator.{AddsNothing}
use Rattle.timer_script.specs.Peer.{PeerState, PeerCall}
use Rattle.timer_script.specs.Replayed.{BeginsWith, AreWholeAnswers}
use Rattle.timer_script.specs.Service.{came_in, came_of, gone_in, gone_of, Server, Sides, server_with, last_line, HasTalkedBy, IsAnsweredWith, HasAnsweredAll, HasServedPeer}
use Rattle.timer_script.proofs.MomentLemmas.{so_far_then, whole_answered_first}
use Rattle.timer_script.proofs.ServicePieces.{undecorated_by_reads}
use Rattle.timer_script.proofs.TextLemmas.{end_line_is}
use Rattle.timer_durable.specs.declared.beginning.Kept.{Kept}
use Rattle.timer_durable.specs.declared.fault.KeepFault.{KeepFault}
use Rattle.timer_durable.specs.Answers.{lines_in, after_lines, answers_of, answers_in, unseen_of, greeting_of}
use Rattle.timer_durable.specs.Durable.{later_of}
use Rattle.timer_commands.specs.declared.ending.Ending.{Ending}
use Rattle.timer_commands.specs.declared.ending.Ending.TheVariants as Endings
use Rattle.timer_commands.specs.declared.fault.Fault.{Fault}
use Rattle.timer_commands.specs.declared.fault.Fault.TheVariants as Faults
use Rattle.timer_commands.specs.declared.options.RunOptions.{RunOptions}
use Rattle.timer_commands.specs.Journaling.{KeptStream, GoesOnOver, told_as}
use Rattle.timer_commands.specs.Options.{scheme_last, config_of}
use Rattle.timer_commands.specs.Wakeups.{AddsWakeupsIf}
use Rattle.timer_commands.specs.Resumed.{IsBrokenOff, IsLeft, IsAnsweredAsOne}
use Rattle.timer_commands.specs.Serving.{limits_for, Stream, Talk, talk_sides, ServerEnds, HasResumed, IsResumed}
use Rattle.timer_commands.proofs.KeepingLemmas.{refused_same}
use Rattle.timer_commands.proofs.PlainLemmas.{IsPlain, plain_front, plain_answers, outs_plain, line_plain, after_whole, whole_front_of}

-- ---- two facilities that go on from one text

whole_lines : (r : ReadState) → r.stage ≡ Whole → lines_read r ≡ state_lines r.saved
whole_lines r whole = ap (λ stage. lines_at stage r.saved) whole

same_read : (limits : Limits) (bytes other : List ℕ) (r s : ReadState) → other ≡ bytes → IsSavedText limits bytes r → IsSavedText limits other s
    → r.saved ≡ s.saved
same_read limits bytes other r s same a b =
    same_saved r.saved s.saved (sym (whole_lines r a.whole) ∙ sym (a.only (lines_read s) (subst (λ t. AreStateLines t (lines_read s) []) same b.text))
    ∙ whole_lines s b.whole)

one_goes_on : (options : RunOptions) (bytes other : List ℕ) (r s : ReadState) (a b : FacilityState) → other ≡ bytes
    → IsSavedText (limits_for options) bytes r → IsSavedText (limits_for options) other s → IsResumed options r a → IsResumed options s b
    → GoesOnAs a b
one_goes_on options bytes other r s a b same says speaks ra rb = λ events outs others after end x y.
    plays-bare a b events outs others after end
    (ra.state ∙ ap (λ v. restored (config_of options) (scheme_last options.scheme) v)
    (same_read (limits_for options) bytes other r s same says speaks)
    ∙ sym rb.state) x y

-- ---- what a server did

ends_served : {F : Type 0} (server : Server F) (old new : Sides F) (result : Result Ending Fault) → ServerEnds server old new result
    → (ended : Result Bool ServeFault) × HasServedPeer server old new ended
ends_served server old new (Ok Endings.Done) h = (Ok true, h)
ends_served server old new (Ok Endings.Skipped) h = (Ok false, h)
ends_served server old new (Err (Faults.Serve fault)) h = (Err fault, h)
ends_served server old new (Ok Endings.Failed) h = absurd h
ends_served server old new (Ok Endings.Bad) h = absurd h
ends_served server old new (Ok Endings.CheckFailed) h = absurd h
ends_served server old new (Ok Endings.Refused) h = absurd h
ends_served server old new (Err (Faults.Options fault)) h = absurd h
ends_served server old new (Err (Faults.Run fault)) h = absurd h
ends_served server old new (Err (Faults.Check fault)) h = absurd h

ok_served : {F : Type 0} (server : Server F) (old new : Sides F) (ending : Ending) → ServerEnds server old new (Ok ending)
    → (clean : Bool) × HasServedPeer server old new (Ok clean)
ok_served server old new Endings.Done h = (true, h)
ok_served server old new Endings.Skipped h = (false, h)
ok_served server old new Endings.Failed h = absurd h
ok_served server old new Endings.Bad h = absurd h
ok_served server old new Endings.CheckFailed h = absurd h
ok_served server old new Endings.Refused h = absurd h

ok_outcome : (outcome : Result Ending Fault) (fault : Option KeepFault) (ending : Ending) → Ok ending ≡ told_as outcome fault
    → outcome ≡ Ok ending
ok_outcome (Ok end) fault ending e = let h : end ≡ ending = cc in ap (λ x. Ok x) h
ok_outcome (Err (Faults.Serve serves.Read)) fault ending e = absurd cc
ok_outcome (Err (Faults.Serve serves.Write)) fault ending e = absurd cc
ok_outcome (Err (Faults.Serve (serves.Bad n))) fault ending e = absurd cc
ok_outcome (Err (Faults.Serve serves.OutOfMemory)) fault ending e = absurd cc
ok_outcome (Err (Faults.Serve serves.TooLong)) fault ending e = absurd cc
ok_outcome (Err (Faults.Options f)) fault ending e = absurd cc
ok_outcome (Err (Faults.Run f)) fault ending e = absurd cc
ok_outcome (Err (Faults.Check f)) fault ending e = absurd cc

-- what a server sees of a stream with a journal and without wake-ups, and the two sides of that
abbrev over_stream : {P F J : Type 0} → KeptStream P F J → Stream J F
over_stream known = record { on_bad = Report; wakeups = false; state = known.over; reports = known.reports }

abbrev talk_with : {F J : Type 0} → J → Watched F → Talk J F
talk_with peer faults = record { peer = peer; faults = faults }

-- a server that ended well was given lines from the state that was read
record ServedWell {P F : Type 0} (options : RunOptions) (read : ReadState) (stream : Stream P F) (old new : Talk P F) : Type 0 where
  pub before : FacilityState
  pub resumed : IsResumed options read before
  pub clean : Bool
  pub served : HasServedPeer (server_with stream.on_bad (AddsWakeupsIf stream.wakeups) before stream.reports) (talk_sides stream old)
      (talk_sides stream new) (Ok clean)

ended_well : {P F : Type 0} (options : RunOptions) (read : ReadState) (stream : Stream P F) (old new : Talk P F) (ending : Ending)
    → HasResumed options read stream old new (Ok ending) → ServedWell options read stream old new
ended_well options read stream old new ending h = elim h [
  | inl playable ↦ elim playable.1 [
    | inl served ↦ (
        let s = ok_served _ (talk_sides stream old) (talk_sides stream new) ending served.2 in
        record { before = served.0; resumed = served.1; clean = s.0; served = s.1 }
        )
    | inr none ↦ absurd (let e = none.0 in cc)
  ]
  | inr refused ↦ absurd refused
]

-- ---- calls that are known

calls_in : List PeerCall → Option (List PeerCall) → List PeerCall
calls_in other None = other
calls_in other (Some calls) = calls

same_calls : (a b : List PeerCall) → Some a ≡ Some b → a ≡ b
unfolding calls_in
same_calls a b e = ap (calls_in a) e

known_calls : {Answers StateIs : List ℕ → List ℕ → Type 0} {old new : PeerState} {came gone : List ℕ} {flushed : Bool} (calls : List PeerCall)
    → old.calls ≡ Some [] → new.calls ≡ Some calls → (talked : HasTalkedBy Answers StateIs old new came gone flushed) → calls ≡ talked.calls
known_calls calls none known talked = rw (none, known) at talked.grows

none_before : (a b : List PeerCall) → [] ≡ a ++ b → a ≡ []
none_before [] b e = refl
none_before (x ∷ a) b e = absurd cc

none_got : (gone got : List ℕ) → gone ≡ [] → BeginsWith gone got → got ≡ []
none_got gone [] none front = refl
none_got gone (x ∷ got) none front = absurd (let e : [] ≡ (x ∷ got) ++ front.0 = sym none ∙ front.1 in cc)

-- ---- what was got before

-- whoever goes on from the state at the journal's beginning gives it again
pub given_again : {P F J : Type 0} (known : KeptStream P F J) (options : RunOptions) (kept : Kept) (came gone got : List ℕ)
    → IsBrokenOff known options kept came gone → BeginsWith gone got → AreWholeAnswers got
    → (bytes : List ℕ) (read : ReadState) (again : FacilityState)
    → bytes ≡ kept.state.items → IsSavedText (limits_for options) bytes read → IsResumed options read again → (more whole : List ℕ)
    → IsAnsweredWith Report AddsNothing again (came ++ more) whole → BeginsWith whole got
given_again {P} {F} {J} known options kept came gone got b front whole bytes read again same says resumed more text answered = elim b.serves.served [
  | inl playable ↦ elim playable.1 [
    | inl served ↦ (
        let g = b.serves in
        let before : FacilityState = served.0 in
        let old_sides : Sides F = talk_sides (over_stream known) (talk_with g.before b.old.faults) in
        let new_sides : Sides F = talk_sides (over_stream known) (talk_with g.after b.new.faults) in
        let ended = ends_served (server_with Report AddsNothing before known.reports) old_sides new_sides g.outcome served.2 in
        let so_far = so_far_then before known.reports old_sides new_sides ended.0 g.calls b.so_far b.others
        (ap (λ p. p.calls) g.sees) g.calls_are b.parts ended.1 in
        let first = whole_answered_first before (came_of b.so_far) (gone_of b.so_far) got so_far
        (subst (λ t. BeginsWith t got) b.gone_is front) whole in
        first again more text (one_goes_on options kept.state.items bytes g.read read before again same g.says says served.1 resumed)
        (subst (λ c. IsAnsweredWith Report AddsNothing again (c ++ more) text) b.came_is answered)
        )
    | inr none ↦ nothing (ap (λ t. (known.over t.peer).calls) none.1)
  ]
  | inr refused ↦ nothing (ap (λ t. (known.over t.peer).calls) (refused_same options (talk_with b.serves.before b.old.faults)
      (talk_with b.serves.after b.new.faults) b.serves.outcome refused))
]
  where
    nothing : (known.over b.serves.after).calls ≡ (known.over b.serves.before).calls → BeginsWith text got
    nothing e =
        let g = b.serves in
        let none : [] ≡ g.calls = same_calls [] g.calls (sym (ap (λ p. p.calls) g.sees) ∙ sym e ∙ g.calls_are) in
        let so_far : b.so_far ≡ [] = none_before b.so_far b.others (none ∙ b.parts) in
        let empty : got ≡ [] = none_got gone got (b.gone_is ∙ ap gone_of so_far) front in
        subst (BeginsWith text) (sym empty) (text, refl)

-- ---- what was taken since

behind : (xs ys zs : List ℕ) → xs ++ ys ≡ xs ++ zs → ys ≡ zs
behind xs ys zs e = sym (drop-append_seam xs ys) ∙ ap (drop (length xs)) e ∙ drop-append_seam xs zs

taken_behind : (xs ys : List ℕ) (old new : Option (List ℕ)) → Consumes (prepend_known xs old) new (xs ++ ys) → Consumes old new ys
taken_behind xs ys None new h = tt
taken_behind xs ys (Some rest) None h = absurd h
taken_behind xs ys (Some rest) (Some left) h = behind xs rest (ys ++ left) (h ∙ append_assoc xs ys left)

-- ---- one stream

pub goes_on_as_one : {P F J : Type 0} (known : KeptStream P F J) (options : RunOptions) (kept left : Kept) (came gone got : List ℕ)
    (old new : Talk P F) (ending : Ending) → IsBrokenOff known options kept came gone → BeginsWith gone got → AreWholeAnswers got
    → IsLeft kept came left
    → (second : GoesOnOver known options false (Some (kept.beginning.answers + answers_in got)) left old new (Ok ending))
    → (known.state new.peer).contents ≢ (known.state old.peer).contents
    → IsAnsweredAsOne known options (Some (kept.beginning.answers + answers_in got)) left got old new (known.over second.after)
goes_on_as_one {P} {F} {J} known options kept left came gone got old new ending b front whole is_left second wrote = elim second.got [
  | inl same ↦ absurd (wrote same)
  | inr (recovered, told, r) ↦ (
      let outcome = ok_outcome second.outcome (known.fault second.after) ending second.told in
      let old_talk : Talk J F = talk_with second.before old.faults in
      let new_talk : Talk J F = talk_with second.after new.faults in
      let w = ended_well options second.read (over_stream known) old_talk new_talk ending
      (subst (HasResumed options second.read (over_stream known) old_talk new_talk) outcome second.served) in
      let (given, events, text, reached, all, talked, good) = w.served in
      let calls = known_calls second.calls (ap (λ p. p.calls) second.sees) second.calls_are talked in
      let later : List PeerCall = later_of recovered second.calls in
      let replayed : List ℕ = gone_of recovered in
      let since : List ℕ = gone_of later in
      let text_is : text ≡ replayed ++ since = sym talked.gone_is ∙ ap gone_of (sym calls ∙ r.parts) ∙ flat_map-append gone_in recovered later in
      let given_is : given ≡ left.lines.items ++ came_of later =
      sym talked.came_is ∙ ap came_of (sym calls ∙ r.parts) ∙ flat_map-append came_in recovered later ∙ ap (λ c. c ++ came_of later) r.lines in
      let answered : IsAnsweredWith Report AddsNothing w.before given all.decorated = record {
        events = events;
        after = all.answered.after;
        passes = reached.passed.passes;
        answered = record { outs = all.answered.outs; runs = all.answered.played.runs; added = all.added };
      } in
      let bytes : given ≡ came ++ (is_left.more ++ came_of later) =
      given_is ∙ ap (λ l. l ++ came_of later) is_left.lines ∙ append_assoc came is_left.more (came_of later) in
      let again = given_again known options kept came gone got b front whole left.state.items second.read w.before is_left.state second.says w.resumed
      (is_left.more ++ came_of later) all.decorated (subst (λ c. IsAnsweredWith Report AddsNothing w.before c all.decorated) bytes answered) in
      let end : List ℕ = last_line all.answered.after in
      let rest : List ℕ = again.0 ++ end in
      let text_got : text ≡ got ++ rest = all.text_is ∙ ap (λ t. t ++ end) again.1 ∙ append_assoc got again.0 end in
      let plain : IsPlain true text = subst (IsPlain true) (sym (all.text_is ∙ ap (λ t. t ++ end)
      (undecorated_by_reads w.before all.answered.after events (lines_of all.answered.outs) all.decorated all.added)))
      (outs_plain all.answered.outs end (subst (IsPlain true) (append-nil end) (line_plain end [] (end_line_is all.answered.after.now _) tt))) in
      let got_plain = plain_answers got (plain_front true got rest (subst (IsPlain true) text_got plain)) in
      let replayed_plain = plain_answers replayed (plain_front true replayed since (subst (IsPlain true) text_is plain)) in
      let before : ℕ = kept.beginning.answers in
      let few : lines_in got ≤ lines_in replayed =
      omega (arith, r.within.1, ap lines_in got_plain, ap lines_in replayed_plain, ap (λ k. k.answers) is_left.beginning) in
      let q = whole_front_of got rest replayed since whole.whole (sym text_got ∙ text_is) few in
      let count : (before + answers_in got) - left.beginning.answers ≡ lines_in got =
      omega (arith, ap lines_in got_plain, ap (λ k. k.answers) is_left.beginning) in
      let unseen : unseen_of left.beginning.answers (Some (before + answers_in got)) replayed ≡ q.0 =
      ap (λ k. after_lines k (answers_of replayed)) count ∙ ap (after_lines (lines_in got)) (replayed_plain ∙ q.1)
      ∙ after_whole got q.0 whole.whole in
      record {
        replayed = replayed;
        since = since;
        written = subst (λ t. Appends (known.state old.peer).contents (known.state new.peer).contents (t ++ since))
            (r.whole good.reading ∙ ap (λ c. greeting_of left.beginning (Some (before + answers_in got)) c replayed) r.lines) r.written;
        read = second.read;
        says = second.says;
        before = w.before;
        resumed = w.resumed;
        came = came_of later;
        taken = taken_behind left.lines.items (came_of later) (known.state old.peer).remaining (known.over second.after).remaining
            (subst (λ p. Consumes p (known.over second.after).remaining (left.lines.items ++ came_of later))
            (ap (λ p. p.remaining) second.sees ∙ ap (λ l. prepend_known l (known.state old.peer).remaining) (append-nil left.lines.items))
            (subst (Consumes (known.over second.before).remaining (known.over second.after).remaining) given_is talked.read));
        events = events;
        passes = subst (λ c. PassesEvents Report c events) given_is reached.passed.passes;
        answered = subst (HasAnsweredAll _ (known.over second.after) events)
            (text_is ∙ ap (λ t. t ++ since) q.1 ∙ append_assoc got q.0 since ∙ ap (λ u. got ++ (u ++ since)) (sym unseen)) all;
      }
      )
]
