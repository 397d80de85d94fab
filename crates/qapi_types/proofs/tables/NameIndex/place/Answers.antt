use Rattle.std.proofs.Common.{sym, ◌∙◌}
use Rattle.qapi_types.proofs.TableLaws.{numbered}
use Rattle.qapi_types.proofs.tables.NameIndex.place.Goals as goal

pub returns-in-Some : goal.returns-in-Some
returns-in-Some c = sym c.in-Some.is ∙ numbered (λ k. k.items) c.self.inside.names.keys c.args.self.now c.args.name.now c.get_index_of.result c.get_index_of.ensures.index c.self.view_is

pub returns-in-None : goal.returns-in-None
returns-in-None c = sym c.in-None.is ∙ numbered (λ k. k.items) c.self.inside.names.keys c.args.self.now c.args.name.now c.get_index_of.result c.get_index_of.ensures.index c.self.view_is
