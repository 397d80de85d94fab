use Rattle.qapi_tree.proofs.Results.{parsed-spelled, spelled-parsed}
use Rattle.qapi_tree.proofs.parsing.each_expression_is_spelled.Goals as goal

pub returns : goal.returns
returns c = λ tokens exprs. (parsed-spelled tokens exprs, spelled-parsed tokens exprs)
