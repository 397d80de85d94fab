use Rattle.std.proofs.Common.{◌≡◌, ◌∙◌, false, is_some, rules}
use Rattle.indexmap.proofs.CallerLemmas.{insert_entry-new}
use Rattle.qapi_rules.proofs.DirectoryLaws.{noted, none_from}
use Rattle.qapi_rules.proofs.directory.note.Goals as goal

pub returns-in-Ok : goal.returns-in-Ok
returns-in-Ok c =
    let absent : is_some c.get.result ≡ false = first_of (cc, search rules) in
    noted c.args.places.now.entries c.insert.new.self.entries c.args.name c.args.place (c.in-Ok.ensures.entries ∙ insert_entry-new _ c.args.places.now c.args.name c.args.place (none_from c.get.result _ c.get.ensures.value absent))
