-- Why a stream over a journal is not begun, and what its peer got.
use Rattle.std.proofs.Common.{◌≡◌, ℕ, Bool, true, false, List, [], ◌++◌, Option, None, Some, Result, Ok, Err, IfErr, refl, sym, ap, subst, ◌∙◌, inl, inr}
use Rattle.timer_script.specs.declared.cutter.OnBadLine.TheVariants.{Report}
use Rattle.timer_script.specs.SavedText.{IsSavedText}
use Rattle.timer_script.specs.Peer.{PeerOrigin, PeerCall}
use Rattle.timer_script.specs.Service.{Server, Sides}
use Rattle.timer_script.proofs.MomentLemmas.{served_origin}
use Rattle.timer_facility.specs.Saved.{ReadState}
use Rattle.timer_journal.specs.Journal.{text_of}
use Rattle.timer_durable.specs.declared.beginning.Kept.{Kept}
use Rattle.timer_durable.specs.Beginning.{preamble_of, text_kept}
use Rattle.timer_durable.specs.Durable.{state_over, IsReplaying, HasReplayed, HasGot}
use Rattle.timer_commands.specs.declared.ending.Ending.{Ending}
use Rattle.timer_commands.specs.declared.ending.Ending.TheVariants as Endings
use Rattle.timer_commands.specs.declared.fault.Fault.{Fault}
use Rattle.timer_commands.specs.declared.fault.Fault.TheVariants as Faults
use Rattle.timer_commands.specs.declared.keeping.KeptFault.{KeptFault}
use Rattle.timer_commands.specs.declared.options.RunOptions.{RunOptions}
use Rattle.timer_commands.specs.Journaling.{options_line, StopsGoingOn, WhyNotBegun, told_as, KeptStream, kept_origin, GoesOnOver}
use Rattle.timer_commands.specs.Serving.{limits_for, Stream, Talk, talk_sides, ServerEnds, HasRefusedOptions, HasResumed}

-- it keeps something, and does not go on
pub going_on_stops : {T : Type 0} (options : RunOptions) (first : Option (List ℕ)) (file : List ℕ) (kept : Kept)
    (result : Result T KeptFault) → text_of file ≡ text_kept (options_line options) (Some kept)
    → IfErr result (λ fault. StopsGoingOn options first kept fault) → IfErr result (WhyNotBegun options first file)
going_on_stops options first file kept (Ok begun) text stops = tt
going_on_stops options first file kept (Err fault) text stops = inr (inl (kept, text, stops))

-- ---- what no call of the server changes

ends_origin : {F : Type 0} (server : Server F) (old new : Sides F) (result : Result Ending Fault) → ServerEnds server old new result
    → new.peer.origin ≡ old.peer.origin
ends_origin server old new (Ok Endings.Done) h = served_origin server old new (Ok true) h
ends_origin server old new (Ok Endings.Skipped) h = served_origin server old new (Ok false) h
ends_origin server old new (Err (Faults.Serve fault)) h = served_origin server old new (Err fault) h
ends_origin server old new (Ok Endings.Failed) h = absurd h
ends_origin server old new (Ok Endings.Bad) h = absurd h
ends_origin server old new (Ok Endings.CheckFailed) h = absurd h
ends_origin server old new (Ok Endings.Refused) h = absurd h
ends_origin server old new (Err (Faults.Options fault)) h = absurd h
ends_origin server old new (Err (Faults.Run fault)) h = absurd h
ends_origin server old new (Err (Faults.Check fault)) h = absurd h

pub refused_same : {C : Type 0} (options : RunOptions) (old new : C) (result : Result Ending Fault)
    → HasRefusedOptions options old new result → new ≡ old
refused_same options old new (Err (Faults.Options fault)) h = h.1
refused_same options old new (Ok end) h = absurd h
refused_same options old new (Err (Faults.Serve fault)) h = absurd h
refused_same options old new (Err (Faults.Run fault)) h = absurd h
refused_same options old new (Err (Faults.Check fault)) h = absurd h

pub resumed_origin : {P F : Type 0} (options : RunOptions) (read : ReadState) (stream : Stream P F) (old new : Talk P F)
    (result : Result Ending Fault) → HasResumed options read stream old new result
    → (stream.state new.peer).origin ≡ (stream.state old.peer).origin
resumed_origin options read stream old new result h = elim h [
  | inl playable ↦ elim playable.1 [
    | inl served ↦ ends_origin _ (talk_sides stream old) (talk_sides stream new) result served.2
    | inr none ↦ ap (λ t. (stream.state t.peer).origin) none.1
  ]
  | inr refused ↦ ap (λ t. (stream.state t.peer).origin) (refused_same options old new result refused)
]

abbrev origin_in : PeerOrigin → Option PeerOrigin → PeerOrigin
origin_in other None = other
origin_in other (Some origin) = origin

pub same_origin : (a b : PeerOrigin) → Some a ≡ Some b → a ≡ b
same_origin a b e = ap (origin_in a) e

-- what the peer got, as the peer with its journal keeps it
pub got_so_far : (is_live : Bool) {origin : PeerOrigin} {contents : Option (List ℕ)} {calls recovered : List PeerCall} {due told : List ℕ}
    {has_ended failed : Bool} → (is_live ≡ false → IsReplaying origin contents calls due has_ended told)
    → (is_live ≡ true → HasReplayed origin contents calls recovered told failed) → HasGot origin contents calls failed
got_so_far false early live = inl (early refl).untouched
got_so_far true {recovered = recovered} {told = told} early live = inr (recovered, told, live refl)

-- a stream that was served, by what its peer with the journal keeps at the end
pub goes_on : {P F J : Type 0} {known : KeptStream P F J} {options : RunOptions} {wakeups : Bool} {seen : Option ℕ} {kept : Kept}
    {old new : Talk P F} {result : Result Ending KeptFault} (read : ReadState) (before after : J) (outcome : Result Ending Fault)
    (is_live : Bool) (origin : PeerOrigin) (calls recovered : List PeerCall) (due told : List ℕ) (has_ended : Bool)
    → IsSavedText (limits_for options) kept.state.items read
    → known.text before ≡ preamble_of (options_line options) kept.beginning kept.state.items ++ kept.lines.items
    → known.inner before ≡ old.peer
    → known.over before ≡ state_over kept.lines.items [] (known.state old.peer) [] false false (kept_origin known kept seen old)
    → HasResumed options read (record { on_bad = Report; wakeups = wakeups; state = known.over; reports = known.reports })
    (record { peer = before; faults = old.faults }) (record { peer = after; faults = new.faults }) outcome
    → new.peer ≡ known.inner after → result ≡ told_as outcome (known.fault after)
    → (known.over after).calls ≡ Some calls → (known.over after).origin ≡ Some origin
    → (is_live ≡ false → IsReplaying origin (known.state (known.inner after)).contents calls due has_ended told)
    → (is_live ≡ true → HasReplayed origin (known.state (known.inner after)).contents calls recovered told (known.over after).read_failed)
    → GoesOnOver known options wakeups seen kept old new result
goes_on {known = known} {options = options} {wakeups = wakeups} {seen = seen} {kept = kept} {old = old} {new = new} read before after outcome
    is_live origin calls recovered due told has_ended says journal inner sees served back told_is calls_are origin_is early live =
    let one = same_origin origin (kept_origin known kept seen old) (sym origin_is
    ∙ resumed_origin options read (record { on_bad = Report; wakeups = wakeups; state = known.over; reports = known.reports })
    (record { peer = before; faults = old.faults }) (record { peer = after; faults = new.faults }) outcome served ∙ ap (λ p. p.origin) sees) in
    record {
      read = read;
      says = says;
      before = before;
      after = after;
      journal = journal;
      inner = inner;
      sees = sees;
      outcome = outcome;
      served = served;
      back = back;
      calls = calls;
      calls_are = calls_are;
      got = subst (λ p. HasGot (kept_origin known kept seen old) (known.state p).contents calls (known.over after).read_failed) (sym back)
          (subst (λ o. HasGot o (known.state (known.inner after)).contents calls (known.over after).read_failed) one
          (got_so_far is_live early live));
      told = told_is;
    }
