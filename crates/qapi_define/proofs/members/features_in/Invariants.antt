use Rattle.std.proofs.Common.{◌≡◌, take}
use Rattle.std.specs.List.{filter_map}
use Rattle.qapi_define.specs.Members.{written_feature}
use Rattle.qapi_define.proofs.members.features_in.Given as goal

abbrev pub invariant-loop-item : goal.invariant-loop-item
invariant-loop-item l = l.made ≡ filter_map (written_feature l.defines) (take l.item-index l.items)
