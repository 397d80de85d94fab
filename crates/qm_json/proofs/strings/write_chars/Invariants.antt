use Rattle.std.proofs.Common.{chars, IsUtf8}
use Rattle.std.specs.Str.Iter.{chars_rest}
use Rattle.qm_json.specs.Strings.{escapes}
use Rattle.qm_json.proofs.Texts.{Remains}
use Rattle.qm_json.proofs.strings.write_chars.Given as goal

abbrev pub invariant-loop-c : goal.invariant-loop-c
invariant-loop-c g l =
    Remains (g.O.Output.given l.fn.out) (escapes (chars l.fn.text)) (g.O.Output.given l.out) (escapes (chars (chars_rest l.c-iterator)))
    × IsUtf8 (chars_rest l.c-iterator)
