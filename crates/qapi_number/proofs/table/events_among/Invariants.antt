use Rattle.std.proofs.Common.{◌≡◌, map, take}
use Rattle.std.specs.List.{enumerate_from, flat_map}
use Rattle.qapi_number.specs.PartsOf.{event_in, call_told}
use Rattle.qapi_number.proofs.table.events_among.Given as goal

abbrev pub invariant-loop-index : goal.invariant-loop-index
invariant-loop-index l = l.events ≡ flat_map (λ e. event_in l.numbering e.1.1.sort e.0 e.1.0 e.1.1) (enumerate_from 0 (map call_told (take l.index l.calls)))
