use Rattle.std.proofs.Common.{◌≡◌, ◌++◌, drop, option_copied}
use Rattle.qm_admit.specs.Paths.{printed_path, steps_text}
use Rattle.qm_admit.proofs.text.path_text.Given as goal

abbrev pub invariant-loop-i : goal.invariant-loop-i
invariant-loop-i l = printed_path l.schema.kinds (option_copied l.value) l.steps ≡ l.text ++ steps_text l.schema.kinds l.before (option_copied l.here) (drop l.i l.steps)
