use Rattle.qapi_check.proofs.GoodLaws.{early-free}
use Rattle.qapi_check.proofs.passes.clash_fault.Goals as goal

pub clashes_pass-requires-clause-inside : goal.clashes_pass-requires-clause-inside
clashes_pass-requires-clause-inside c = (early-free c.args.definitions.now c.args.kinds.now c.requires.types c.requires.early).0

pub clashes_pass-requires-clause-free : goal.clashes_pass-requires-clause-free
clashes_pass-requires-clause-free c = (early-free c.args.definitions.now c.args.kinds.now c.requires.types c.requires.early).1
