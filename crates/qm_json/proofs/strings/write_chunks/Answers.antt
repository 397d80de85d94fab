use Rattle.std.proofs.Common.{not, ap}
use Rattle.qm_json.specs.Strings.{chunk_escapes}
use Rattle.qm_json.proofs.{Chunks.chunk_of, Chunks.chunk_left, Chunks.no_points, Texts.remains_less, Texts.remains_none}
use Rattle.qm_json.proofs.strings.write_chunks.Goals as goal

pub loop-chunk-preserved : goal.loop-chunk-preserved
loop-chunk-preserved g c =
    let chunk = chunk_of _ _ _ _ _ _ c.valid.ensures c.invalid.ensures c.valid.utf8 c.in-Some.ensures.steps in
    remains_less (chunk_escapes c.valid.result.now (not c.is_empty.result)) _ _ c.loop-chunk.invariant (chunk_left _ _ _ _ _ chunk (ap not c.is_empty.ensures)) c.write_chunk.ensures

pub returns : goal.returns
returns g c = remains_none c.loop-chunk.invariant (no_points _ c.in-None.ensures.steps.0)
