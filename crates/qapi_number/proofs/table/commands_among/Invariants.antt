use Rattle.std.proofs.Common.{◌≡◌, map, take}
use Rattle.std.specs.List.{enumerate_from, flat_map}
use Rattle.qapi_number.specs.PartsOf.{command_in, call_told}
use Rattle.qapi_number.proofs.table.commands_among.Given as goal

abbrev pub invariant-loop-index : goal.invariant-loop-index
invariant-loop-index l = l.commands ≡ flat_map (λ e. command_in l.numbering e.1.1.sort e.0 e.1.0 e.1.1) (enumerate_from 0 (map call_told (take l.index l.calls)))
