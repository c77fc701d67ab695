-- A word to a client as C's struct. Fields that its kind doesn't use are 0.
use Rattle.std.specs.Prelude.{ℕ}
use Rattle.timer_base.specs.declared.timer.Timer.{Timer}
use Rattle.timer_base.specs.declared.timer.Handle as base
use Rattle.timer_facility.specs.declared.request.Answer.{Answer}
use Rattle.timer_facility.specs.declared.request.Answer.TheVariants as Answers
use Rattle.timer_facility.specs.declared.request.Reason.{Reason}
use Rattle.timer_facility.specs.declared.request.Reason.TheVariants as Reasons
use Rattle.timer_facility.specs.declared.request.NotTaken.{NotTaken}
use Rattle.timer_facility.specs.declared.request.NotTaken.TheVariants as NotTakens
use Rattle.timer_facility.specs.declared.request.Notice.TheVariants as Notices
use Rattle.timer_desk.specs.declared.word.Word.{Word}
use Rattle.timer_desk.specs.declared.word.Word.TheVariants as Words
use Rattle.timer_desk_c.specs.declared.layout.CHandle.{CHandle}
use Rattle.timer_desk_c.specs.declared.layout.Message.{Message}
use Rattle.timer_desk_c.specs.declared.status.TheConstants.{NO_MEMORY, NOT_PENDING, ZERO_INTERVAL, TOO_LATE, SERIALS_SPENT, CLOSED, CAPACITY, NO_CLIENT, NUMBERS_SPENT, REPEATED, AHEAD, STARTED, RESTARTED, STOPPED, REFUSED, NOT_TAKEN, EXPIRED, RETURNED}

-- all 0
abbrev pub blank : Message
blank = record {
  kind = 0;
  reason = 0;
  number = 0;
  handle = record { place = 0; serial = 0 };
  deadline = 0;
  action = 0;
  other = 0;
}

-- a handle as C's struct
abbrev pub c_handle : base.Handle → CHandle
c_handle handle = record { place = handle.place; serial = handle.serial }

-- and as the wheel's type
abbrev pub base_handle : CHandle → base.Handle
base_handle handle = record { place = handle.place; serial = handle.serial }

abbrev pub reason_of : Reason → ℕ
reason_of Reasons.ZeroInterval = ZERO_INTERVAL
reason_of Reasons.TooLate = TOO_LATE
reason_of Reasons.SerialsSpent = SERIALS_SPENT
reason_of Reasons.Full = CAPACITY
reason_of Reasons.NoSuch = NOT_PENDING

abbrev pub message_of_answer : ℕ → ℕ → Answer → Message
message_of_answer number action (Answers.Started handle deadline) =
    record blank { kind = STARTED; number = number; handle = c_handle handle; deadline = deadline; action = action }
message_of_answer number action (Answers.Stopped serial) =
    record blank { kind = STOPPED; number = number; handle = record { place = 0; serial = serial } }
message_of_answer number action (Answers.Restarted handle deadline old) =
    record blank {
      kind = RESTARTED;
      number = number;
      handle = c_handle handle;
      deadline = deadline;
      action = action;
      other = old;
    }
message_of_answer number action (Answers.Refused reason) =
    record blank { kind = REFUSED; reason = reason_of reason; number = number; action = action }

-- why a request was not taken, and the number that was to come next, or 0
abbrev pub why_not_taken : NotTaken → ℕ × ℕ
why_not_taken NotTakens.Closed = (CLOSED, 0)
why_not_taken NotTakens.NoClient = (NO_CLIENT, 0)
why_not_taken (NotTakens.Repeated next) = (REPEATED, next)
why_not_taken NotTakens.NumbersSpent = (NUMBERS_SPENT, 0)
why_not_taken (NotTakens.Ahead next) = (AHEAD, next)
why_not_taken NotTakens.OutOfMemory = (NO_MEMORY, 0)

abbrev pub message_of_not_taken : ℕ → ℕ → NotTaken → Message
message_of_not_taken number action reason = record blank {
  kind = NOT_TAKEN;
  reason = (why_not_taken reason).0;
  number = number;
  action = action;
  other = (why_not_taken reason).1;
}

-- a timer that is handed out, under the number of the request that started it
abbrev pub message_of_timer : ℕ → Timer → Message
message_of_timer kind t = record blank {
  kind = kind;
  number = t.number;
  handle = record { place = 0; serial = t.serial };
  deadline = t.deadline;
  action = t.action;
}

abbrev pub message_of : Word → Message
message_of (Words.Answered number action answer) = message_of_answer number action answer
message_of (Words.NotTaken number action reason) = message_of_not_taken number action reason
message_of (Words.Notice (Notices.Expired timer)) = message_of_timer EXPIRED timer
message_of (Words.Notice (Notices.Returned timer)) = message_of_timer RETURNED timer
