use Rattle.std.proofs.Common.{◌≡◌, take}
use Rattle.std.specs.List.{filter_map}
use Rattle.qapi_define.specs.Members.{written_variant}
use Rattle.qapi_define.proofs.members.variants.Given as goal

abbrev pub invariant-loop-key : goal.invariant-loop-key
invariant-loop-key l = l.made ≡ filter_map (written_variant l.defines) (take l.key-index l.keys)
