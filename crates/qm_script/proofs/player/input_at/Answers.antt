use Rattle.qm_script.proofs.FedLemmas.{nothing_fed}
use Rattle.qm_script.proofs.player.input_at.Goals as goal

pub returns-in-None-clause-value : goal.returns-in-None-clause-value
returns-in-None-clause-value c = nothing_fed c.args.feeder.now c.args.place c.in-None.is
