use Rattle.std.proofs.Common.{◌≡◌, map, take}
use Rattle.std.specs.List.{enumerate_from}
use Rattle.qapi_number.specs.Kinds.{kind_defined}
use Rattle.qapi_number.proofs.kinds.kinds_among.Given as goal

abbrev pub invariant-loop-at : goal.invariant-loop-at
invariant-loop-at l = l.kinds ≡ map (λ e. kind_defined l.numbering e.1.sort e.0 e.1) (enumerate_from 0 (map (λ k. k.now) (take l.at l.definitions)))
