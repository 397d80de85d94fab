use Rattle.qm_core.proofs.effects.command_name.Goals as goal

pub returns : goal.returns
returns c = rw c.command.ensures c.as_slice.ensures
