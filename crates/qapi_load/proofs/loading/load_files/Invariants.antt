use Rattle.std.proofs.Common.{◌≡◌, ◌+◌, ◌-◌, ◌*◌, length}
use Rattle.qapi_load.specs.{Loading.sources_of, Steps.OverFiles, Steps.Sound, Steps.outcome_of, declared.fault.TheConstants.MOST_FILES}
use Rattle.qapi_load.proofs.loading.load_files.Given as goal

abbrev pub invariant-loop-sources : goal.invariant-loop-sources
invariant-loop-sources g l = record {
  sound : Sound l.loading;
  given : OverFiles (g.L.Library.files l.fn.library) l.loading.reading.begun (λ files. sources_of files l.main ≡ outcome_of files l.loading);
  same : g.L.Library.files l.library ≡ g.L.Library.files l.fn.library;
  kept : g.L.Library.faults l.library ≡ g.L.Library.faults l.fn.library;
  kept_name : g.L.Library.failed_name l.library ≡ g.L.Library.failed_name l.fn.library;
}

-- each step begins a file or ends one
abbrev pub decreases-loop-sources : goal.decreases-loop-sources
decreases-loop-sources g l = 2 * MOST_FILES - (length l.loading.reading.begun + length l.loading.reading.finished)
