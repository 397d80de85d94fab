use Rattle.std.proofs.Common.{ap, length, option_copied, option_map}
use Rattle.qapi_rules.specs.Meanings.{meant}
use Rattle.qapi_rules.proofs.BranchLaws.{enum_step, enum_none}
use Rattle.qapi_rules.proofs.branches.enum_in_line.Goals as goal

pub returns-in_default : goal.returns-in_default
returns-in_default c = enum_none _ c.args.table.now c.args.name.now (option_copied c.loop-turn.next) (option_map meant c.loop-turn.found) _ (ap option_copied c.in_default.is) c.loop-turn.invariant

pub loop-turn-preserved : goal.loop-turn-preserved
loop-turn-preserved c = enum_step (length c.args.table.now) c.loop-turn.turn _ c.args.table.now c.args.name.now c.in-Some.definition.now (option_copied c.loop-turn.next) _ _ _ (option_map meant c.loop-turn.found) _ _ c.loop-turn-test.true (ap length c.definitions-turn-end.ensures) (ap option_copied c.in-Some.is) c.own_members.ensures c.enum_among.ensures c.first_of-found.ensures c.base_definition-next.ensures c.loop-turn.invariant
