use Rattle.std.proofs.Common.{◌≡◌, take}
use Rattle.qapi_define.specs.Definitions.{definitions_of}
use Rattle.qapi_define.proofs.defining.definitions.Given as goal

abbrev pub invariant-loop-source : goal.invariant-loop-source
invariant-loop-source l = l.made ≡ definitions_of l.defines (take l.source-index l.sources)
