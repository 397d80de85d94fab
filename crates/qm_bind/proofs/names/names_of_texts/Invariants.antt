use Rattle.std.proofs.Common.{take}
use Rattle.qapi_types.specs.Sets.{HasNames}
use Rattle.qm_bind.specs.Parts.{names_of}
use Rattle.qm_bind.proofs.names.names_of_texts.Given as goal

abbrev pub invariant-loop-item : goal.invariant-loop-item
invariant-loop-item l = HasNames l.set (names_of (take l.item-index l.items))
