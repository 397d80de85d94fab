-- A play whose whole transcript was put.
use Rattle.std.proofs.Common.{◌≡◌, ◌≢◌, ℕ, List, Option, Some, None, refl, sym, ◌∙◌}
use Rattle.qm_base.specs.Faults.{told_more, HoldsPart, Rose}
use Rattle.qm_base.proofs.Prefixes.{refl_prefix}
use Rattle.qm_script.specs.{Endings.end_of, Endings.stop_end_of, Playing.Ended, Playing.transcript_text_of, Plays.Plays, Plays.Sinking}
use Rattle.qm_script.specs.declared.endings.{PlayEnd.PlayEnd, PlayEnd.TheVariants.SinkFault, Refused.Refused, Stop.Stop, Stop.TheVariants.BadLine, Stop.TheVariants.Step, Stop.TheVariants.SessionsFull, Stop.TheVariants.JournalFull}

stop_is_no_fault : (line : ℕ) (stop : Stop) → stop_end_of line stop ≢ SinkFault
stop_is_no_fault line BadLine = λ e. cc
stop_is_no_fault line (Step word) = λ e. cc
stop_is_no_fault line SessionsFull = λ e. cc
stop_is_no_fault line JournalFull = λ e. cc

end_is_no_fault : (refused : Option Refused) → end_of refused ≢ SinkFault
end_is_no_fault None = λ e. cc
end_is_no_fault (Some refused) = stop_is_no_fault refused.line refused.stop

whole_part : (held : Option (List ℕ)) (piece : List ℕ) (holds : Option (List ℕ)) → holds ≡ told_more held piece → HoldsPart held piece holds
whole_part held piece holds told = record { part = piece; within = refl_prefix piece; told = told }

pub plays_whole : (ended : Ended) (sinking : Sinking) (end : PlayEnd) → end ≡ end_of ended.refused →
    sinking.holds ≡ told_more sinking.held (transcript_text_of ended) → sinking.now ≡ sinking.before → Plays ended sinking end
plays_whole ended sinking end is whole kept = record {
  is_wanted = λ _ _. is;
  whole = λ _ _. whole;
  part_at_fault = λ _. whole_part sinking.held (transcript_text_of ended) sinking.holds whole;
  part_at_memory = λ _. whole_part sinking.held (transcript_text_of ended) sinking.holds whole;
  failed = λ e. absurd (end_is_no_fault ended.refused (sym is ∙ e));
  kept = λ _. kept;
}

-- a play that the sink's fault ended
pub plays_fault : (ended : Ended) (sinking : Sinking) → HoldsPart sinking.held (transcript_text_of ended) sinking.holds → Rose sinking.before sinking.now → Plays ended sinking SinkFault
plays_fault ended sinking part rose = record {
  is_wanted = λ other _. absurd (other refl);
  whole = λ other _. absurd (other refl);
  part_at_fault = λ _. part;
  part_at_memory = λ _. part;
  failed = λ _. rose;
  kept = λ other. absurd (other refl);
}
