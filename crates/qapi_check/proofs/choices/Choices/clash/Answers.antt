use Rattle.std.proofs.Common.{ap, option_copied, rules}
use Rattle.qapi_check.proofs.WalkLaws.{begins, nowhere, past_all, finds, stuck, goes_down, never_ends}
use Rattle.qapi_check.proofs.choices.Choices.clash.Goals as goal

pub returns-then-from-self : goal.returns-then-from-self
returns-then-from-self c = past_all c.self.inside.kinds.now c.args.self.now c.args.from c.self.view_is (search rules)

pub returns-then-not-branch : goal.returns-then-not-branch
returns-then-not-branch c = nowhere c.args.self.now c.args.from c.new-seen.result c.in_ok-touches_from.field-0 (search rules) c.in_ok-touches_from.ensures (search rules)

pub loop-turn-init : goal.loop-turn-init
loop-turn-init c = begins c.self.inside.kinds.now c.args.self.now c.args.from c.new-seen.result c.in_ok-touches_from.field-0 c.self.view_is (search rules) (search rules) c.in_ok-touches_from.ensures (search rules)

pub returns-in-Some : goal.returns-in-Some
returns-in-Some c = finds c.self.inside.kinds.now c.args.self.now c.args.from c.loop-turn.turn c.loop-turn.number c.loop-turn.seen c.add_names.new.seen c.kind_at.result.now (option_copied c.in_ok-name.field-0) c.in-Some.name.now c.self.view_is (search rules) c.loop-turn.invariant c.kind_at.ensures c.in_ok-name.ensures (ap option_copied c.in-Some.is)

pub unreachable-requires : goal.unreachable-requires
unreachable-requires c = stuck c.self.inside.kinds.now c.args.self.now c.self.inside.graph.items c.deref.result.now c.self.inside.faulty.items c.args.from c.loop-turn.turn c.loop-turn.number c.loop-turn.seen c.add_names.new.seen c.kind_at.result.now (option_copied c.in_ok-name.field-0) c.references_of-types.result.now c.in_ok-next.field-0
    c.self.invariant c.self.view_is (search rules) c.loop-turn.invariant c.kind_at.ensures c.in_ok-name.ensures (search rules) c.references_of-types.ensures c.in_ok-next.ensures c.in-None.is

pub loop-turn-preserved : goal.loop-turn-preserved
loop-turn-preserved c = goes_down c.self.inside.kinds.now c.args.self.now c.self.inside.graph.items c.deref.result.now c.self.inside.faulty.items c.args.from c.loop-turn.turn c.loop-turn.number c.loop-turn.seen c.add_names.new.seen c.kind_at.result.now (option_copied c.in_ok-name.field-0) c.references_of-types.result.now c.in_ok-next.field-0 c.in-Some-2.next
    c.self.invariant c.self.view_is (search rules) (search rules) c.loop-turn.invariant c.kind_at.ensures c.in_ok-name.ensures (search rules) c.references_of-types.ensures c.in_ok-next.ensures c.in-Some-2.is

pub unreachable-requires-2 : goal.unreachable-requires-2
unreachable-requires-2 c = never_ends c.self.inside.kinds.now c.self.inside.graph.items c.self.inside.faulty.items c.args.from c.loop-turn.turn c.loop-turn.number c.loop-turn.seen c.self.invariant (search rules) c.loop-turn.invariant
