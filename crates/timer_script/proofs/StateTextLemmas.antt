-- The text of a dump is read as the state that was dumped.
use Rattle.std.proofs.Common.{◌≡◌, ◌≢◌, ◌<◌, ◌≤◌, ◌+◌, ◌∙◌, ℕ, Bool, true, false, List, [], ◌∷◌, ◌++◌, length, map, length-append, Some, None, refl, sym, ap, subst, arith, append_assoc, append-nil}
use Rattle.std.specs.Prelude.{if◌then◌else◌}
use Rattle.std.specs.List.{AllByRecursion}
use Rattle.std.proofs.lemmas.List.{length-map}
use Rattle.std.proofs.lemmas.Option.{none-some}
use Rattle.timer_base.proofs.OrderLaws.{All-in_order, length-in_order}
use Rattle.timer_base.specs.Pending.{timer_of, timers_of}
use Rattle.timer_facility.proofs.NextLines.{none_refused, not_whole}
use Rattle.timer_facility.proofs.SavableLemmas.{savable_read}
use Rattle.timer_facility.specs.declared.event.Event.TheVariants as Events
use Rattle.timer_facility.specs.declared.event.Out.TheVariants as Outs
use Rattle.timer_facility.specs.declared.saved.Limits.{Limits}
use Rattle.timer_facility.specs.declared.saved.Stage.{Stage}
use Rattle.timer_facility.specs.declared.saved.Stage.TheVariants.{Begin, Body, Whole}
use Rattle.timer_facility.specs.declared.saved.StateFault.{StateFault}
use Rattle.timer_facility.specs.declared.saved.StateLine.{StateLine}
use Rattle.timer_facility.specs.declared.saved.StateLine.TheVariants as Saved
use Rattle.timer_facility.specs.Played.{IsRun}
use Rattle.timer_facility.specs.Run.{PlacedEvent, history, outs_of}
use Rattle.timer_facility.specs.Savable.{IsSavableTimer, IsSavable, AreSaidTimers, HaveActionsInRange, action_in, IsWithin, read_of}
use Rattle.timer_facility.specs.Saved.{Saved, undated, by_serial, saved_of, head_line, number_lines, timer_lines, body_lines, state_lines, ReadState, IsReadState, lines_at, lines_read, line_fault}
use Rattle.timer_facility.specs.State.{IsSound, Dump}
use Rattle.timer_facility.specs.Step.{step}
use Rattle.timer_facility.specs.Types.{Timer}
use Rattle.timer_script.specs.declared.saved_text.SavedFault.{SavedFault}
use Rattle.timer_script.specs.declared.saved_text.SavedFault.TheVariants as faults
use Rattle.timer_script.specs.declared.lines.Grammar.TheVariants.{Script, Stream}
use Rattle.timer_script.specs.SavedText.{IsNext, IsSpelled, state_text, AreStateLines, IsSavedText, WhyNotRead}
use Rattle.timer_script.specs.Script.{IsIn, AreFieldsInRange}
use Rattle.timer_script.specs.Text.{state_line, lines_of}
use Rattle.timer_script.specs.Types.{LAST, Event, FacilityState, Grammar, Out}
use Rattle.timer_script.proofs.Results.{all_append}
use Rattle.timer_script.proofs.SavedTextLemmas.{line_long, first_line, rest_of, one_state_text}

-- The text of a dump.

lines_of-dumped : (lines : List StateLine) → lines_of (map (λ line. Outs.Dumped line) lines) ≡ state_text lines
lines_of-dumped [] = refl
lines_of-dumped (line ∷ lines) = ap (λ text. state_line line ++ text) (lines_of-dumped lines)

dumped : (s : FacilityState) (one : List PlacedEvent) → map (λ p. p.event) one ≡ Dump ∷ []
    → outs_of (history s one) ≡ map (λ line. Outs.Dumped line) (state_lines (saved_of s))
dumped s [] e = absurd (cc)
dumped s (p ∷ []) e =
    let is : p.event ≡ Dump = cc in
    ap (λ event. (step s event p.place).outs ++ []) is ∙ append-nil (map (λ line. Outs.Dumped line) (state_lines (saved_of s)))
dumped s (p ∷ q ∷ ps) e = absurd (cc)

pub dump_text : (s after : FacilityState) (outs : List Out) → IsRun s (Events.Dump ∷ []) outs after
    → lines_of outs ≡ state_text (state_lines (saved_of s))
dump_text s after outs r =
    let one : List PlacedEvent = r.singles.0 in
    let none : r.singles.1 ≡ [] = r.singles.4 in
    let all : r.placed ≡ one = r.singles.2 ∙ ap (λ rest. one ++ rest) none ∙ append-nil one in
    let outs_are : outs ≡ map (λ line. Outs.Dumped line) (state_lines (saved_of s)) =
    r.outs_are ∙ ap (λ (ps : List PlacedEvent). outs_of (history s ps)) all ∙ dumped s one r.singles.3 in
    ap lines_of outs_are ∙ lines_of-dumped (state_lines (saved_of s))

-- Its lines have a spelling.

spelled_numbers : (client : ℕ) (ns : List ℕ) → client + length ns ≤ LAST → AllByRecursion (λ n. 1 ≤ n) ns
    → AllByRecursion (λ n. n ≤ LAST + 1) ns
    → AllByRecursion IsSpelled (number_lines client ns)
spelled_numbers client [] l a b = tt
spelled_numbers client (n ∷ ns) l a b =
    let clients : client + 1 + length ns ≤ LAST = omega (arith, l) in
    ((omega (arith, l), (a.0, b.0)), spelled_numbers (client + 1) ns clients a.1 b.1)

spelled_timers : (last clients : ℕ) (ts : List Timer) → last ≤ LAST → clients ≤ LAST → AllByRecursion (IsSavableTimer last clients) ts
    → AllByRecursion (λ t. t.serial < LAST + 1) ts → AllByRecursion IsSpelled (timer_lines ts)
spelled_timers last clients [] l c a b = tt
spelled_timers last clients (t ∷ ts) l c a b = (
  (omega (arith, b.0), omega (arith, a.0.owned, c), a.0.number_in_range, omega (arith, a.0.in_time, l), a.0.action_in_range),
  spelled_timers last clients ts l c a.1 b.1,
)

spelled_head : (v : Saved) → v.now ≤ LAST → IsNext v.next_serial → IsSpelled (head_line v)
spelled_head v l n = by v.is_closed
  where
    by : (closed : Bool) → IsSpelled (if closed then Saved.Closed v.now v.next_serial else Saved.Open v.now v.next_serial)
    by true = (l, n)
    by false = (l, n)

all_below : (low high : ℕ) (ts : List Timer) → low ≤ high → AllByRecursion (λ t. t.serial < low) ts
    → AllByRecursion (λ t. t.serial < high) ts
all_below low high [] l a = tt
all_below low high (t ∷ ts) l a = (omega (arith, a.0, l), all_below low high ts l a.1)

pub spelled_dump : (s : FacilityState) → IsSound s → IsSavable s → AllByRecursion IsSpelled (state_lines (saved_of s))
spelled_dump s sound i =
    let ts : List Timer = timers_of s.pending in
    let clients : ℕ = length s.numbers in
    let few : clients ≤ LAST = omega (arith, sound.few_clients) in
    let numbers = spelled_numbers 0 s.numbers (omega (arith, few)) i.numbers_some sound.numbers_in_range in
    let timers = spelled_timers s.last clients (by_serial ts) sound.last_in_range few
    (All-in_order undated (IsSavableTimer s.last clients) ts i.timers)
    (All-in_order undated (λ t. t.serial < LAST + 1) ts (all_below s.next_serial (LAST + 1) ts sound.serial_in_range sound.below)) in
    let count : length (by_serial ts) ≡ length s.pending = length-in_order undated ts ∙ length-map s.pending timer_of in
    let end : length (by_serial ts) ≤ LAST = omega (arith, count, sound.few_pending, sound.capacity_in_range) in
    let head = spelled_head (saved_of s) (omega (arith, sound.now_in_range, sound.last_in_range)) (i.serial_some, sound.serial_in_range) in
    all_append IsSpelled (body_lines (saved_of s)) (Saved.End (length (by_serial ts)) ∷ [])
    (head, all_append IsSpelled (number_lines 0 s.numbers) (timer_lines (by_serial ts)) numbers timers) (end, tt)

-- It is read.

pub record IsDumpText (limits : Limits) (s : FacilityState) (text : List ℕ) : Type 0 where
  pub sound : IsSound s
  pub savable : IsSavable s
  pub within : IsWithin limits s
  pub text_is : text ≡ state_text (state_lines (saved_of s))

dump_lines : {limits : Limits} {s : FacilityState} {text : List ℕ} → IsDumpText limits s text → AreStateLines text (state_lines (saved_of s)) []
dump_lines {s = s} d = record {
  parts = d.text_is ∙ sym (append-nil (state_text (state_lines (saved_of s))));
  spelled = spelled_dump s d.sound d.savable;
}

pub dump_is_read : (limits : Limits) (s : FacilityState) (text : List ℕ) → IsDumpText limits s text → IsSavedText limits text (read_of limits s)
dump_is_read limits s text d = record {
  whole = refl;
  within = refl;
  read = savable_read limits s d.sound d.savable d.within;
  text = dump_lines d;
  only = λ lines other. one_state_text lines (state_lines (saved_of s)) other (dump_lines d);
}

-- No reason but memory is why it isn't.

-- what is left after some lines of the text is that of the lines after them
left_of : {limits : Limits} {s : FacilityState} {text rest : List ℕ} {lines : List StateLine} {P : Type 0} → IsDumpText limits s text
    → AreStateLines text lines rest
    → ((more : List StateLine) → state_lines (saved_of s) ≡ lines ++ more → rest ≡ state_text more
    → AllByRecursion IsSpelled more → P) → P
left_of {s = s} {rest = rest} {lines = lines} d a f =
    let left = rest_of (state_lines (saved_of s)) lines rest (spelled_dump s d.sound d.savable) a.spelled (sym d.text_is ∙ a.parts) in
    f left.more left.all_are left.rest_is left.spelled

no_bad_form : {limits : Limits} {s : FacilityState} {text rest : List ℕ} (r : ReadState) → IsDumpText limits s text
    → AreStateLines text (lines_read r) rest → 1 ≤ length rest
    → ((line : StateLine) (more : List ℕ) → IsSpelled line → rest ≡ state_line line ++ more → ⊥) → ⊥
no_bad_form {rest = rest} r d a some none = left_of d a λ more all is spelled. by more is spelled
  where
    by : (more : List StateLine) → rest ≡ state_text more → AllByRecursion IsSpelled more → ⊥
    by [] is spelled = omega (arith, some, ap length is)
    by (line ∷ more) is spelled = none line (state_text more) spelled.0 is

no_bad_line : {limits : Limits} {s : FacilityState} {text : List ℕ} (r : ReadState) (next : StateLine) (after : List ℕ) (fault : StateFault)
    → IsDumpText limits s text → IsReadState r → r.limits ≡ limits → AreStateLines text (lines_read r) (state_line next ++ after)
    → IsSpelled next
    → line_fault r next ≡ Some fault → ⊥
no_bad_line {limits} {s} r next after fault d read within a fits wrong = left_of d a λ more all is spelled. by more all is spelled
  where
    by : (more : List StateLine) → state_lines (saved_of s) ≡ lines_read r ++ more → state_line next ++ after ≡ state_text more
        → AllByRecursion IsSpelled more → ⊥
    by [] all is spelled = omega (arith, ap length is, length-append (state_line next) after, line_long next)
    by (line ∷ more) all is spelled =
        let (same, _) = first_line line next (state_text more) after spelled.0 fits (sym is) in
        let none : line_fault r line ≡ None = none_refused (record {
          front = read;
          whole = savable_read limits s d.sound d.savable d.within;
          limits_are = within;
          lines_are = sym all;
        }) in
        none-some fault (sym none ∙ ap (line_fault r) same ∙ wrong)

not_cut_off : {limits : Limits} {s : FacilityState} {text : List ℕ} (r : ReadState) → IsDumpText limits s text
    → AreStateLines text (lines_read r) [] → r.stage ≢ Whole → ⊥
not_cut_off {s = s} r d a cut = by r.stage refl (one_state_text (lines_read r) (state_lines (saved_of s)) a (dump_lines d))
  where
    by : (stage : Stage) → r.stage ≡ stage → lines_at stage r.saved ≡ state_lines (saved_of s) → ⊥
    by Begin is e = absurd (cc)
    by Body is e = not_whole r.saved (saved_of s) e
    by Whole is e = cut is

pub only_memory : (limits : Limits) (s : FacilityState) (text : List ℕ) (fault : SavedFault) → IsDumpText limits s text
    → WhyNotRead limits text fault → fault ≡ faults.OutOfMemory
only_memory limits s text (faults.Form line) d (r, rest, upto, some, none) = absurd (no_bad_form r d upto.text some none)
only_memory limits s text (faults.Line line fault) d (r, next, rest, upto, fits, wrong) =
    absurd (no_bad_line r next rest fault d upto.read upto.within upto.text fits wrong)
only_memory limits s text faults.CutOff d (r, within, a, cut) = absurd (not_cut_off r d a cut)
only_memory limits s text faults.OutOfMemory d w = refl

-- What was read of a text.

said_timers : (ts : List Timer) (after : List StateLine) → AllByRecursion IsSpelled (timer_lines ts ++ after) → AreSaidTimers ts
said_timers [] after a = tt
said_timers (t ∷ ts) after a = ((a.0.2, a.0.4), said_timers ts after a.1)

said_after : (client : ℕ) (ns : List ℕ) (after : List StateLine) → AllByRecursion IsSpelled (number_lines client ns ++ after)
    → AllByRecursion IsSpelled after
said_after client [] after a = a
said_after client (n ∷ ns) after a = said_after (client + 1) ns after a.1

pub said_of : (v : Saved) → AllByRecursion IsSpelled (state_lines v) → AreSaidTimers v.timers
said_of v a =
    let last : List StateLine = Saved.End (length v.timers) ∷ [] in
    said_timers v.timers last (said_after 0 v.numbers (timer_lines v.timers ++ last)
    (subst (AllByRecursion IsSpelled) (append_assoc (number_lines 0 v.numbers) (timer_lines v.timers) last) a.1))

pub read_lines : (r : ReadState) → r.stage ≡ Whole → lines_read r ≡ state_lines r.saved
read_lines r e = ap (λ stage. lines_at stage r.saved) e

-- The actions of lines.

small_action : (event : Event) → AreFieldsInRange event → action_in event ≤ LAST
small_action (Events.Start client number interval action) h = h.3
small_action (Events.StartAt client number deadline action) h = absurd h
small_action (Events.Stop client number serial) h = omega arith
small_action (Events.Restart client number serial interval action) h = h.4
small_action (Events.RestartAt client number serial deadline action) h = absurd h
small_action (Events.Ticks count) h = omega arith
small_action (Events.TicksTo tick) h = absurd h
small_action Events.Close h = omega arith
small_action Events.Dump h = absurd h

small_line : (grammar : Grammar) (event : Event) → IsIn grammar event → action_in event ≤ LAST
small_line Script event h = small_action event h
small_line Stream (Events.StartAt client number deadline action) h = h.3
small_line Stream (Events.RestartAt client number serial deadline action) h = h.4
small_line Stream (Events.TicksTo tick) h = omega arith
small_line Stream Events.Dump h = omega arith
small_line Stream (Events.Start client number interval action) h = h.3
small_line Stream (Events.Stop client number serial) h = omega arith
small_line Stream (Events.Restart client number serial interval action) h = h.4
small_line Stream (Events.Ticks count) h = omega arith
small_line Stream Events.Close h = omega arith

pub small_lines : (grammar : Grammar) (events : List Event) → AllByRecursion (IsIn grammar) events → HaveActionsInRange events
small_lines grammar [] a = tt
small_lines grammar (event ∷ events) a = (small_line grammar event a.0, small_lines grammar events a.1)
