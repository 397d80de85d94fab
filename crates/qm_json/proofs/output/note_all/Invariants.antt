use Rattle.std.proofs.Common.{◌≡◌, ◌++◌, take}
use Rattle.qm_json.proofs.output.note_all.Given as goal

abbrev pub invariant-loop-byte : goal.invariant-loop-byte
invariant-loop-byte l = l.given ≡ l.fn.given ++ take l.byte-index l.piece
