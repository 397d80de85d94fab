use Rattle.qm_history.proofs.TextLaws.{reading-told}
use Rattle.qm_history.proofs.laws.each_history_is_of_one_list.Goals as goal

pub returns : goal.returns
returns c = reading-told
