use Rattle.qm_core.proofs.Ids.{done-id, oob-id}
use Rattle.qm_core.proofs.laws.reply_has_its_id.Goals as goal

pub returns-clause-in_band : goal.returns-clause-in_band
returns-clause-in_band c = done-id

pub returns-clause-out_of_band : goal.returns-clause-out_of_band
returns-clause-out_of_band c = oob-id
