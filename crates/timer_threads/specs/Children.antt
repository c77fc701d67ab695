-- The threads that were started for the clients, and what these left.
use Rattle.std.specs.Prelude.{ℕ, List, vec_capacity}
use Rattle.std.specs.List.{AllZip}
use Rattle.timer_desk.specs.RingEnds.{line_of_end}
use Rattle.timer_threads.specs.declared.children.Children.{Children}
use Rattle.timer_threads.specs.declared.child.Finishes.{Finishes}
use Rattle.timer_threads.specs.Types.{Worked, Child}
use Rattle.timer_threads.specs.Work.{IsOfLine, HasWorked}

-- what a thread promises of what it gives back
abbrev pub promise_of : Child → Finishes
promise_of child = child.handle.promise

-- the threads
abbrev pub threads_of : Children → List Child
threads_of children = children.threads.items

-- for how many there is room
abbrev pub room_of : Children → ℕ
room_of children = vec_capacity children.threads

-- a thread has left this, and kept its promise
abbrev pub HasLeft : Child → Worked → Type 0
HasLeft child w = IsOfLine (line_of_end (promise_of child).end.value) w
    × HasWorked (promise_of child).count (promise_of child).limit (promise_of child).end.value w

-- so each
abbrev pub HaveLeft : List Child → List Worked → Type 0
HaveLeft children ws = AllZip HasLeft children ws
