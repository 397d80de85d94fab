use Rattle.std.proofs.Common.{◌≡◌, take}
use Rattle.std.specs.List.{filter_map}
use Rattle.qapi_define.specs.Members.{written_value}
use Rattle.qapi_define.proofs.members.values.Given as goal

abbrev pub invariant-loop-item : goal.invariant-loop-item
invariant-loop-item l = l.made ≡ filter_map (written_value l.defines) (take l.item-index l.items)
