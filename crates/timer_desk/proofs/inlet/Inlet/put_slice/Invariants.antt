use Rattle.std.proofs.Common.{◌≡◌, ◌++◌, take}
use Rattle.timer_desk.proofs.inlet.Inlet.put_slice.Given as goal

abbrev pub invariant-loop-word : goal.invariant-loop-word
invariant-loop-word g l = record {
  line : g.Self.Inlet.kind.same l.fn.self l.self;
  got : (g.Self.Inlet.kind.state l.self).got ≡ (g.Self.Inlet.kind.state l.fn.self).got;
  standing : (g.Self.Inlet.kind.state l.self).standing ≡ (g.Self.Inlet.kind.state l.fn.self).standing;
  count : l.count ≡ l.word-index;
  given : (g.Self.Inlet.kind.state l.self).given ≡ (g.Self.Inlet.kind.state l.fn.self).given ++ take l.word-index l.words;
}
