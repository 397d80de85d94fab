use Rattle.qapi_number.proofs.DirectoryLaws.{noted, of_ok, of_err}
use Rattle.qapi_number.proofs.directory.add_new.Goals as goal
use Rattle.qapi_number.proofs.directory.add_new.Goals.{in-Ok-insert, in-Err}

pub returns : goal.returns
returns c = elim c.match-insert.branch [
  | in-Ok-insert w ↦ of_ok c.match-insert.result _ w.result-is (noted (λ k. k.items) c.args.places.now.entries c.insert.new.self.entries c.in-Ok.key c.args.name.now c.args.place w.in-Ok-insert.ensures.entries c.in-Ok.ensures.items c.requires)
  | in-Err w ↦ of_err _ c.match-insert.result _ w.result-is
]
