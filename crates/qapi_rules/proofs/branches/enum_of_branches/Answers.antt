use Rattle.qapi_rules.proofs.BranchLaws.{enums_joined}
use Rattle.qapi_rules.proofs.branches.enum_of_branches.Goals as goal

pub returns : goal.returns
returns c = enums_joined c.args.table.now c.args.definition.now c.args.name.now _ _ _ _ _ c.base_members.ensures c.enum_among.ensures c.base_definition.ensures c.enum_in_line.ensures c.first_of.ensures
