use Rattle.std.proofs.Common.{◌≡◌, [], take, true}
use Rattle.timer_script.specs.Service.{AreGood, HasAnsweredEvents, HasSentBut}
use Rattle.timer_script.proofs.service.serve_events.Given as goal

-- the events so far are answered, and the text is what was not sent
abbrev pub invariant-loop-event : goal.invariant-loop-event
invariant-loop-event g l = record {
  sent : HasSentBut (HasAnsweredEvents (g.D.Decorator.adds l.decorator) l.fn.session.player (take l.event-index l.events) l.session.player) l.text.items
      true (g.P.Peer.state l.fn.peer) (g.P.Peer.state l.peer);
  good : AreGood (g.P.Peer.state l.peer);
  each : l.each_line ≡ true → l.text.items ≡ [];
}
