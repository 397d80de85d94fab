-- What a play puts into its sink (this project's own rule).
use Rattle.std.specs.Prelude.{◌≡◌, ◌≢◌, ℕ, List, Option}
use Rattle.qm_base.specs.Faults.{Rose, told_more, HoldsPart}
use Rattle.qm_script.specs.{Endings.end_of, Playing.Ended, Playing.transcript_text_of, declared.endings.PlayEnd.PlayEnd}
use Rattle.qm_script.specs.declared.endings.PlayEnd.TheVariants.{SinkFault, Memory}

-- a sink before and after a call: what it holds where it tells, and its count of faults
pub record Sinking : Type 0 where
  pub held : Option (List ℕ)
  pub holds : Option (List ℕ)
  pub before : ℕ
  pub now : ℕ

-- such a sink, by what tells of it
abbrev pub sunk : {S : Type 0} → (S → Option (List ℕ)) → (S → ℕ) → S → S → Sinking
sunk contents faults old new = record { held = contents old; holds = contents new; before = faults old; now = faults new }

-- the answer of what puts bytes and wants this answer, which the sink's fault or want of memory may replace
pub record Putting {E : Type 0} (fault memory wanted : E) (bytes : List ℕ) (sinking : Sinking) (answer : E) : Type 0 where
  -- without either, the answer is the one that is wanted, and all bytes were put
  pub is_wanted : answer ≢ fault → answer ≢ memory → answer ≡ wanted
  pub whole : answer ≢ fault → answer ≢ memory → sinking.holds ≡ told_more sinking.held bytes
  -- after either, a part of the bytes was put
  pub part_at_fault : answer ≡ fault → HoldsPart sinking.held bytes sinking.holds
  pub part_at_memory : answer ≡ memory → HoldsPart sinking.held bytes sinking.holds
  -- the sink failed exactly where its count rose
  pub failed : answer ≡ fault → Rose sinking.before sinking.now
  pub kept : answer ≢ fault → sinking.now ≡ sinking.before

-- the answer of a play: its end is that of the script, and the bytes are the transcript
abbrev pub Plays : Ended → Sinking → PlayEnd → Type 0
Plays ended sinking end = Putting SinkFault Memory (end_of ended.refused) (transcript_text_of ended) sinking end
