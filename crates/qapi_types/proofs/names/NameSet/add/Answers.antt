use Rattle.std.proofs.Common.{map}
use Rattle.qapi_types.proofs.NameLemmas.{added, answered, refused}
use Rattle.qapi_types.proofs.names.NameSet.add.Goals as goal
use Rattle.qapi_types.proofs.names.NameSet.add.Goals.{in-Ok, in-Err}

pub returns : goal.returns
returns c = elim c.match-insert.branch [
  | in-Ok w ↦ answered c.args.self.now (map (λ k. k.now) c.insert.new.self.keys) c.args.name.now _ _ w.result-is (added (λ k. k.now) c.self.inside.names.keys c.insert.new.self.keys c.args.name c.args.self.now _ c.self.view_is w.in-Ok.ensures.added w.in-Ok.ensures.keys)
  | in-Err w ↦ refused c.args.self.now (map (λ k. k.now) c.insert.new.self.keys) c.args.name.now _ _ w.result-is
]
