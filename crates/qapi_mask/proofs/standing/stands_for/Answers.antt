use Rattle.std.proofs.Common.{rules}
use Rattle.qapi_mask.proofs.StandingLaws.{element-below, base-below, shown-array}
use Rattle.qapi_mask.proofs.standing.stands_for.Goals as goal

pub entry-requires-in-Some : goal.entry-requires-in-Some
entry-requires-in-Some c = (search (rules, element-below, base-below))

pub returns-in-Some : goal.returns-in-Some
returns-in-Some c = (search (rules, element-below, base-below, shown-array))
