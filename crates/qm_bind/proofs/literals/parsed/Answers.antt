use Rattle.qm_read.proofs.LiteralLemmas.{is_text, out_of_range}
use Rattle.qm_bind.proofs.literals.parsed.Goals as goal

pub returns-in-Err-parse-clause-none : goal.returns-in-Err-parse-clause-none
returns-in-Err-parse-clause-none c = out_of_range c.in-Ok.text.now c.args.text.now c.in-Ok.ensures.cases.0 c.requires c.in-Err-parse.ensures.value.0

pub returns-in-Err-clause-none : goal.returns-in-Err-clause-none
returns-in-Err-clause-none c = absurd (c.in-Err.ensures.cases.0 (is_text c.args.text.now c.requires))
