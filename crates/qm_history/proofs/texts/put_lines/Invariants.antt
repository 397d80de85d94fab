use Rattle.std.proofs.Common.{◌≡◌, ◌++◌, flat_map, take}
use Rattle.qm_core.specs.Texts.{taken_text_of}
use Rattle.qm_history.proofs.texts.put_lines.Given as goal

-- the text of the lines so far was appended
abbrev pub invariant-loop-line : goal.invariant-loop-line
invariant-loop-line l = l.out ≡ l.fn.out ++ flat_map taken_text_of (take l.line-index l.lines)
