use Rattle.std.proofs.Common.{◌≡◌, ◌+◌, ◌<◌, ◌≤◌, ℕ, List, [], ◌∷◌, length, refl, subst, arith}
use Rattle.timer_facility.specs.State.{pending_of}
use Rattle.timer_desk.specs.Types.{Served, Word}
use Rattle.timer_desk.specs.declared.report.Served.TheVariants.{Idle, NoRoom, NoMemory, Did}
use Rattle.timer_desk.specs.declared.word.Word.TheVariants as Words
use Rattle.timer_desk.specs.Laws.{notice_count, answer_count}
use Rattle.timer_desk.specs.Member.{ServeRespectsRoom}
use Rattle.timer_desk.specs.Report.{requests_left}
use Rattle.timer_desk.proofs.laws.a_room_for_all_is_enough.Goals as goal

-- each word is a notice or an answer
words_are_two : (words : List Word) → length words ≡ notice_count words + answer_count words
words_are_two [] = refl
words_are_two (Words.Notice notice ∷ words) = omega (arith, words_are_two words)
words_are_two (Words.Answered number action answer ∷ words) = omega (arith, words_are_two words)
words_are_two (Words.NotTaken number action reason ∷ words) = omega (arith, words_are_two words)

-- without room no more than the words, the timers and two fit
held_back : (room len left pending : ℕ) (served : Served) → room < len + pending + 2
    → ServeRespectsRoom room len left pending served → served ≡ NoRoom
held_back room len left pending Idle h r = absurd (omega (arith, r.0))
held_back room len left pending NoRoom h r = refl
held_back room len left pending NoMemory h r = absurd (omega arith)
held_back room len left pending (Did numbered word) h r = absurd (omega (arith, r.0))

pub returns-clause-enough : goal.returns-clause-enough
returns-clause-enough c = λ k q client may_refuse s a b served timers requests room serve no_room.
    let two = words_are_two a.backlog.outbox in
    let full : a.backlog.room < length a.backlog.outbox + pending_of s client + 2 =
    subst (ServeRespectsRoom a.backlog.room (length a.backlog.outbox) (requests_left a) (pending_of s client)) no_room serve.room in
    absurd (omega arith)

pub returns-clause-least : goal.returns-clause-least
returns-clause-least c = λ k q client may_refuse s a b served timers requests room serve.
    let two = words_are_two a.backlog.outbox in
    held_back a.backlog.room (length a.backlog.outbox) (requests_left a) (pending_of s client) served (omega arith) serve.room
