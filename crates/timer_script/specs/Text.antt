-- The text that answers a script: one line for each out, and the end line.
use Rattle.std.specs.Prelude.{ℕ, ◌-◌, List, [], ◌∷◌, ◌++◌, codes, decimal}
use Rattle.std.specs.List.{flat_map}
use Rattle.timer_script.specs.Types.{Reason, NotTaken, TickFault, Out, Started, Stopped, Restarted, Refused, Expired, Returned}
use Rattle.timer_facility.specs.declared.request.Reason.TheVariants as reason
use Rattle.timer_facility.specs.declared.request.NotTaken.TheVariants as refusal
use Rattle.timer_facility.specs.declared.request.TickFault.TheVariants as fault
use Rattle.timer_facility.specs.declared.event.Out.TheVariants as out
use Rattle.timer_facility.specs.declared.saved.StateLine.{StateLine}
use Rattle.timer_facility.specs.declared.saved.StateLine.TheVariants as saved

-- the word for a refusal of a request that was taken
abbrev pub reason_word : Reason → List ℕ
reason_word reason.ZeroInterval = codes "zero-interval"
reason_word reason.TooLate = codes "too-late"
reason_word reason.SerialsSpent = codes "serials-spent"
reason_word reason.Full = codes "full"
reason_word reason.NoSuch = codes "no-such"

-- the word for a request that was not taken
abbrev pub refusal_word : NotTaken → List ℕ
refusal_word refusal.Closed = codes "closed"
refusal_word refusal.NoClient = codes "no-client"
refusal_word (refusal.Repeated next) = codes "repeated"
refusal_word refusal.NumbersSpent = codes "numbers-spent"
refusal_word (refusal.Ahead next) = codes "ahead"
refusal_word refusal.OutOfMemory = codes "out-of-memory"

-- the word for a refused tick
abbrev pub fault_word : TickFault → List ℕ
fault_word fault.Closed = codes "closed"
fault_word fault.ClockEnd = codes "clock-end"

-- each number in decimal, after a space
abbrev pub numbers : List ℕ → List ℕ
numbers all = flat_map (λ n. 32 ∷ decimal n) all

-- a line of a dump: of serials and of request numbers it says how many were used
abbrev pub state_line : StateLine → List ℕ
state_line (saved.Open now next_serial) = codes "state open" ++ numbers (now ∷ (next_serial - 1) ∷ []) ++ codes "\n"
state_line (saved.Closed now next_serial) = codes "state closed" ++ numbers (now ∷ (next_serial - 1) ∷ []) ++ codes "\n"
state_line (saved.Number client next) = codes "number" ++ numbers (client ∷ (next - 1) ∷ []) ++ codes "\n"
state_line (saved.Pending t) = codes "timer" ++ numbers (t.serial ∷ t.client ∷ t.number ∷ t.deadline ∷ t.action ∷ []) ++ codes "\n"
state_line (saved.End pending) = codes "state end" ++ numbers (pending ∷ []) ++ codes "\n"

-- the line of an out, with its line feed
abbrev pub out_line : Out → List ℕ
out_line (out.Answered client number (Started handle deadline)) =
    codes "started" ++ numbers (client ∷ number ∷ handle.serial ∷ deadline ∷ []) ++ codes "\n"
out_line (out.Answered client number (Stopped serial)) =
    codes "stopped" ++ numbers (client ∷ number ∷ serial ∷ []) ++ codes "\n"
out_line (out.Answered client number (Restarted handle deadline old)) =
    codes "restarted" ++ numbers (client ∷ number ∷ old ∷ handle.serial ∷ deadline ∷ []) ++ codes "\n"
out_line (out.Answered client number (Refused why)) =
    codes "refused" ++ numbers (client ∷ number ∷ []) ++ codes " " ++ reason_word why ++ codes "\n"
out_line (out.NotTaken client number why) = codes "refused" ++ numbers (client ∷ number ∷ []) ++ codes " "
    ++ refusal_word why ++ codes "\n"
out_line (out.Notice (Expired t)) = codes "expired"
    ++ numbers (t.deadline ∷ t.client ∷ t.serial ∷ t.action ∷ []) ++ codes "\n"
out_line (out.Notice (Returned t)) = codes "returned"
    ++ numbers (t.client ∷ t.serial ∷ t.deadline ∷ t.action ∷ []) ++ codes "\n"
out_line (out.TickRefused why) = codes "tick refused " ++ fault_word why ++ codes "\n"
out_line (out.Closed count) = codes "closed" ++ numbers (count ∷ []) ++ codes "\n"
out_line out.CloseRefused = codes "close refused closed\n"
out_line (out.Dumped line) = state_line line

-- the end line: the tick, and how many timers are pending
abbrev pub end_line : ℕ → ℕ → List ℕ
end_line now pending = codes "end" ++ numbers (now ∷ pending ∷ []) ++ codes "\n"

-- a line for each out
abbrev pub lines_of : List Out → List ℕ
lines_of outs = flat_map out_line outs

-- a line for each out, and then the end line
abbrev pub text : List Out → ℕ → ℕ → List ℕ
text outs now pending = lines_of outs ++ end_line now pending
