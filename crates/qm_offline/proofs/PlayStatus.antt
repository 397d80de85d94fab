-- The status of a play from its end.
use Rattle.std.proofs.Common.{◌≡◌, ℕ, refl, ap, sym, ◌∙◌}
use Rattle.qm_script.specs.{Playing.Ended, Plays.Plays, Plays.Sinking, declared.endings.PlayEnd.PlayEnd}
use Rattle.qm_script.specs.declared.endings.PlayEnd.TheVariants.{Done, BadLine, WrongStep, Full, SinkFault, Memory}
use Rattle.qm_offline.specs.{Answers.Ends, Output.end_status_of, Output.replayed}

fault_end : (end : PlayEnd) → end_status_of end ≡ 7 → end ≡ SinkFault
fault_end Done e = absurd cc
fault_end (BadLine line) e = absurd cc
fault_end (WrongStep line word) e = absurd cc
fault_end (Full line) e = absurd cc
fault_end SinkFault e = refl
fault_end Memory e = absurd cc

memory_end : (end : PlayEnd) → end_status_of end ≡ 1 → end ≡ Memory
memory_end Done e = absurd cc
memory_end (BadLine line) e = absurd cc
memory_end (WrongStep line word) e = absurd cc
memory_end (Full line) e = absurd cc
memory_end SinkFault e = absurd cc
memory_end Memory e = refl

-- a play's status is that of its end
pub played_status : (ended : Ended) (sinking : Sinking) (end : PlayEnd) (status : ℕ) → status ≡ end_status_of end → Plays ended sinking end →
    (let output = replayed ended in Ends output.bytes output.status sinking status)
played_status ended sinking end status is plays = record {
  is_wanted = λ seven one. is ∙ ap end_status_of (plays.is_wanted (λ e. seven (is ∙ ap end_status_of e)) (λ e. one (is ∙ ap end_status_of e)));
  whole = λ seven one. plays.whole (λ e. seven (is ∙ ap end_status_of e)) (λ e. one (is ∙ ap end_status_of e));
  part_at_fault = λ e. plays.part_at_fault (fault_end end (sym is ∙ e));
  part_at_memory = λ e. plays.part_at_memory (memory_end end (sym is ∙ e));
  failed = λ e. plays.failed (fault_end end (sym is ∙ e));
  kept = λ other. plays.kept (λ e. other (is ∙ ap end_status_of e));
}
