use Rattle.std.specs.Str.Chunks.{utf8_chunks_rest}
use Rattle.qm_json.specs.Strings.{code_points, escapes}
use Rattle.qm_json.proofs.Texts.{Remains}
use Rattle.qm_json.proofs.strings.write_chunks.Given as goal

abbrev pub invariant-loop-chunk : goal.invariant-loop-chunk
invariant-loop-chunk g l =
    Remains (g.O.Output.given l.fn.out) (escapes (code_points l.fn.bytes)) (g.O.Output.given l.out) (escapes (code_points (utf8_chunks_rest l.chunk-iterator)))
