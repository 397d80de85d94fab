use Rattle.std.proofs.Common.{sym, ◌∙◌}
use Rattle.qapi_number.proofs.DirectoryLaws.{known}
use Rattle.qapi_number.proofs.directory.note.Goals as goal

pub returns-in-Some : goal.returns-in-Some
returns-in-Some c = known (λ k. k.items) c.args.places.now.entries c.args.name.now c.args.place _ (sym c.place_of_key.ensures ∙ c.in-Some.is)
