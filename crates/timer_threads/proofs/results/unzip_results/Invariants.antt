use Rattle.std.proofs.Common.{◌≡◌, ◌++◌, vec_len, length}
use Rattle.std.specs.Prelude.{vec_capacity}
use Rattle.timer_threads.specs.Results.{AreUnzipped}
use Rattle.timer_threads.proofs.results.unzip_results.Given as goal

abbrev pub invariant-loop-worked : goal.invariant-loop-worked
invariant-loop-worked l = record {
  unzipped : AreUnzipped l.yielded l.ends.items l.readers.items;
  whole : l.yielded ++ l.worked-iterator.rest.items ≡ l.fn.all.items;
  ends : vec_len l.ends ≡ length l.yielded;
  readers : vec_len l.readers ≡ length l.yielded;
  ends_room : vec_capacity l.ends ≡ vec_capacity l.initial.ends;
  readers_room : vec_capacity l.readers ≡ vec_capacity l.initial.readers;
}
