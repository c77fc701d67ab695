use Rattle.std.proofs.Common.{◌≡◌, length, vec_len, vec_capacity}
use Rattle.timer_threads.specs.Children.{threads_of, room_of}
use Rattle.timer_threads.specs.Threads.{AreThreadsOfLines}
use Rattle.timer_threads.proofs.threads.start_all.Given as goal

-- a line and a thread for each gate so far, and room for the others
abbrev pub invariant-loop-gate : goal.invariant-loop-gate
invariant-loop-gate g l = record {
  tied : AreThreadsOfLines l.fn.count l.limit l.inlets.items (threads_of l.children);
  each : vec_len l.inlets ≡ length l.yielded;
  inlets_room : vec_capacity l.inlets ≡ vec_capacity l.initial.inlets;
  children_room : room_of l.children ≡ room_of l.initial.children;
}
