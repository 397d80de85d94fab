use Rattle.std.proofs.Common.{◌≡◌, ◌++◌, take}
use Rattle.std.specs.List.{flat_map}
use Rattle.qm_json.specs.Strings.{unit_escape}
use Rattle.qm_json.proofs.strings.write_units.Given as goal

abbrev pub invariant-loop-unit : goal.invariant-loop-unit
invariant-loop-unit g l = g.O.Output.given l.out ≡ g.O.Output.given l.fn.out ++ flat_map unit_escape (take l.unit-index l.units)
