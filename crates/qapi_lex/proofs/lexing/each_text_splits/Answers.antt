use Rattle.qapi_lex.proofs.Covers.{lexed-splits, splits-read}
use Rattle.qapi_lex.proofs.lexing.each_text_splits.Goals as goal

pub returns : goal.returns
returns c = λ text answer. (lexed-splits text answer, splits-read text answer)
