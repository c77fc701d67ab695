use Rattle.std.proofs.Common.{◌≡◌, take}
use Rattle.std.specs.List.{flat_map, enumerate_from}
use Rattle.timer_threads.specs.Threads.{client_text}
use Rattle.timer_threads.proofs.threads_text.threads_text.Given as goal

-- the lines of the clients so far
abbrev pub invariant-loop-client : goal.invariant-loop-client
invariant-loop-client l = l.text.items ≡ flat_map client_text (take l.client (enumerate_from 0 l.all))
