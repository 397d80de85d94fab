use Rattle.std.proofs.Common.{◌≡◌, drop, find}
use Rattle.qapi_types.specs.Types.{kind_of, json_kind_of}
use Rattle.qm_admit.specs.Misfits.{is_of}
use Rattle.qm_admit.proofs.alternatives.alternative_in.Given as goal

abbrev pub invariant-loop-a : goal.invariant-loop-a
invariant-loop-a l = find (λ a. is_of l.sort (json_kind_of (kind_of l.kinds a))) l.types ≡ find (λ a. is_of l.sort (json_kind_of (kind_of l.kinds a))) (drop l.a-index l.types)
