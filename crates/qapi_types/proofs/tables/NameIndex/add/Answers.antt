use Rattle.qapi_types.proofs.TableLaws.{named, of_ok, of_err}
use Rattle.qapi_types.proofs.tables.NameIndex.add.Goals as goal
use Rattle.qapi_types.proofs.tables.NameIndex.add.Goals.{in-Ok-insert, in-Err}

pub returns : goal.returns
returns c = elim c.match-insert.branch [
  | in-Ok-insert w ↦ of_ok c.match-insert.result _ w.result-is (named (λ k. k.items) c.self.inside.names.keys c.insert.new.self.keys c.in-Ok.name c.args.self.now c.args.name.now w.in-Ok-insert.ensures.keys c.in-Ok.ensures.items c.self.view_is)
  | in-Err w ↦ of_err _ c.match-insert.result _ w.result-is
]
