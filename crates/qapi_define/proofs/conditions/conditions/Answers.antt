use Rattle.std.proofs.Common.{arith}
use Rattle.qapi_define.proofs.{ConditionLaws.listed_in, TurnLaws.listed}
use Rattle.qapi_define.proofs.conditions.conditions.Goals as goal

pub returns-in-List-clause-truth : goal.returns-in-List-clause-truth
returns-in-List-clause-truth c = λ d. listed_in d c.args.tree.now c.in-List.items c.as_slice.result.now c.in-List.is c.as_slice.ensures

pub returns-in-List-clause-left : goal.returns-in-List-clause-left
returns-in-List-clause-left c = omega (arith, listed c.args.tree.now c.in-List.items c.as_slice.result.now c.in-List.is c.as_slice.ensures)
