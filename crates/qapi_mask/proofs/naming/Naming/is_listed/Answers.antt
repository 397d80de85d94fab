use Rattle.std.proofs.Common.{rules}
use Rattle.qapi_mask.proofs.BuildLaws.{shown-entry}
use Rattle.qapi_mask.proofs.naming.Naming.is_listed.Goals as goal

pub has-requires-clause-within : goal.has-requires-clause-within
has-requires-clause-within c =
    (let below = shown-entry c.self.inside.schema.now c.self.invariant.good c.self.invariant.begun c.self.inside.shown.items c.args.number c.self.invariant.shown_is (search rules) in search rules)
