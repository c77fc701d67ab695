use Rattle.timer_script.proofs.ServicePieces.{undecorated, undecorated_by_reads}
use Rattle.timer_script.proofs.laws.undecorated_text_is_the_answer.Goals as goal

pub returns-clause-lines : goal.returns-clause-lines
returns-clause-lines c = undecorated

pub returns-clause-reads : goal.returns-clause-reads
returns-clause-reads c = undecorated_by_reads
