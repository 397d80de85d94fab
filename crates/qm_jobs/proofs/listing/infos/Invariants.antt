use Rattle.std.proofs.Common.{◌≡◌, ◌++◌, map}
use Rattle.qm_jobs.specs.Listing.{info_of}
use Rattle.qm_jobs.proofs.listing.infos.Given as goal

abbrev pub invariant-loop-id : goal.invariant-loop-id
invariant-loop-id l =
    l.items ++ map (λ e. info_of (record { id = e.0.items; state = e.1 })) l.id-iterator ≡ map (λ e. info_of (record { id = e.0.items; state = e.1 })) l.states.entries
