use Rattle.qm_base.proofs.NameLemmas.{added}
use Rattle.qm_base.proofs.names.NameTable.add.Goals as goal
use Rattle.qm_base.proofs.names.NameTable.add.Goals.{in-Ok-insert, in-Err}

pub returns : goal.returns
returns c = elim c.match-insert.branch [
  | in-Ok-insert w ↦ rw w.result-is (added (λ k. k.items) c.self.inside.names.keys c.insert.new.self.keys c.in-Ok.name c.args.self.now c.args.name.now c.self.view_is c.in-Ok.ensures.items w.in-Ok-insert.ensures.keys)
  | in-Err w ↦ rw w.result-is tt
]
