use Rattle.std.proofs.Common.{◌≡◌, take}
use Rattle.std.specs.List.{filter_map}
use Rattle.qapi_define.specs.Members.{written_member}
use Rattle.qapi_define.proofs.members.members.Given as goal

abbrev pub invariant-loop-key : goal.invariant-loop-key
invariant-loop-key l = l.made ≡ filter_map (written_member l.defines) (take l.key-index l.keys)
