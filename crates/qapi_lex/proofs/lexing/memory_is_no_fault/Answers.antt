use Rattle.qapi_lex.proofs.FaultLaws.{tokens-told}
use Rattle.qapi_lex.proofs.lexing.memory_is_no_fault.Goals as goal

pub returns : goal.returns
returns c = λ text. tokens-told text
