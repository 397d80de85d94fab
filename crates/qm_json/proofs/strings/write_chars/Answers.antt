use Rattle.std.proofs.lemmas.Str.{IsUtf8-past_char}
use Rattle.qm_json.specs.Strings.{escaped}
use Rattle.qm_json.proofs.{Chunks.char_left, Chunks.no_chars, Texts.remains_less, Texts.remains_none}
use Rattle.qm_json.proofs.strings.write_chars.Goals as goal

pub loop-c-preserved : goal.loop-c-preserved
loop-c-preserved g c = (
  remains_less (escaped c.in-Some.c) _ _ c.loop-c.invariant.0 (char_left _ _ _ c.loop-c.invariant.1 c.in-Some.ensures.steps.0) c.write_char.ensures,
  IsUtf8-past_char _ _ _ c.loop-c.invariant.1 c.in-Some.ensures.steps.0,
)

pub returns : goal.returns
returns g c = remains_none c.loop-c.invariant.0 (no_chars _ c.in-None.ensures.steps.0.0)
