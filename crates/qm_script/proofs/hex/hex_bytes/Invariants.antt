use Rattle.std.proofs.Common.{◌≡◌, ◌++◌, length}
use Rattle.qm_script.specs.Orders.{hex_bytes_of}
use Rattle.qm_script.proofs.hex.hex_bytes.Given as goal

-- the bytes so far, and those of what is left, are those of the text
abbrev pub invariant-loop-rest : goal.invariant-loop-rest
invariant-loop-rest l = l.bytes ++ hex_bytes_of l.rest ≡ hex_bytes_of l.fn.text

abbrev pub decreases-loop-rest : goal.decreases-loop-rest
decreases-loop-rest l = length l.rest
