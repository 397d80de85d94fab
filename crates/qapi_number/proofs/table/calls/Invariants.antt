use Rattle.std.proofs.Common.{◌≡◌, map, take}
use Rattle.std.specs.List.{enumerate_from, filter}
use Rattle.qapi_number.specs.PartsOf.{is_call_sort, call_told}
use Rattle.qapi_number.proofs.table.calls.Given as goal

abbrev pub invariant-loop-at : goal.invariant-loop-at
invariant-loop-at l = map call_told l.calls ≡ filter (λ e. is_call_sort e.1.sort) (enumerate_from 0 (take l.at l.definitions))
