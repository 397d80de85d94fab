use Rattle.std.proofs.Common.{◌≡◌, take}
use Rattle.std.specs.List.{filter_map}
use Rattle.qapi_define.specs.Definitions.{written_part}
use Rattle.qapi_define.proofs.parts.parts.Given as goal

abbrev pub invariant-loop-key : goal.invariant-loop-key
invariant-loop-key l = l.made ≡ filter_map (written_part l.defines l.sort) (take l.key-index l.keys)
