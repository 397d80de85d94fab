use Rattle.qapi_types.specs.Goodness.{choices_of}
use Rattle.qapi_check.proofs.PassLaws.{AreJudged}
use Rattle.qapi_check.proofs.clashes.clashes_pass.Given as goal

abbrev pub invariant-loop-definition : goal.invariant-loop-definition
invariant-loop-definition l = AreJudged (choices_of l.kinds) l.definitions l.definition-index l.number
