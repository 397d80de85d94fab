use Rattle.qapi_tree.proofs.FaultLaws.{refused_faulty, faulty_refused}
use Rattle.qapi_tree.proofs.parsing.each_fault_is_the_first.Goals as goal

pub returns : goal.returns
returns c = λ tokens fault. (refused_faulty tokens fault, faulty_refused tokens fault)
