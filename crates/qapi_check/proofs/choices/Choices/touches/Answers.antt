use Rattle.std.proofs.Common.{rules}
use Rattle.qapi_check.proofs.ClashLaws.{touched_yes, touched_not}
use Rattle.qapi_check.proofs.choices.Choices.touches.Goals as goal

pub returns-then-is_marked : goal.returns-then-is_marked
returns-then-is_marked c = touched_yes c.self.inside.kinds.now c.args.self.now c.self.inside.graph.items c.self.inside.faulty.items c.args.seen.now c.args.number c.self.invariant c.self.view_is (search rules)

pub returns : goal.returns
returns c = touched_not c.self.inside.kinds.now c.args.self.now c.self.inside.graph.items c.self.inside.faulty.items c.args.seen.now c.args.number c.kind_at.result.now c.meets.result c.self.invariant c.self.view_is c.requires (search rules) c.kind_at.ensures c.meets.ensures
