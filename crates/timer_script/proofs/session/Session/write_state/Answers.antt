use Rattle.std.proofs.Common.{◌≡◌, ◌++◌, OnOk, subst}
use Rattle.timer_script.proofs.TextLemmas.{dumped_text}
use Rattle.timer_script.proofs.session.Session.write_state.Goals as goal

pub returns-clause-text : goal.returns-clause-text
returns-clause-text g c = subst (λ t. OnOk c.push_outs.result (c.push_outs.new.text.items ≡ c.args.text.now.items ++ t))
    (dumped_text c.clear.new.self.items c.dump.new.outs.items c.deref.result.now c.facility.result.now.state c.args.self.now.player
    c.facility.ensures.state c.clear.ensures.items c.in_ok-dump.ensures.ok c.deref.ensures.value)
    c.push_outs.ensures.text
