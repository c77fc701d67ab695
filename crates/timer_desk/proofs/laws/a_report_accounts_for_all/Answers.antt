use Rattle.timer_desk.proofs.Members.{account_is, makes_run, follow, are_owed}
use Rattle.timer_desk.proofs.laws.a_report_accounts_for_all.Goals as goal

pub returns-clause-clients : goal.returns-clause-clients
returns-clause-clients g c = account_is g.I.Inlet.kind

pub returns-clause-facility : goal.returns-clause-facility
returns-clause-facility g c = makes_run g.I.Inlet.kind

pub returns-clause-notices : goal.returns-clause-notices
returns-clause-notices g c = follow g.I.Inlet.kind

pub returns-clause-owed : goal.returns-clause-owed
returns-clause-owed g c = λ report first second h sound. are_owed g.I.Inlet.kind report first second h
    (λ placed k. c.notices_are_owed.ensures first.facility placed k sound)
