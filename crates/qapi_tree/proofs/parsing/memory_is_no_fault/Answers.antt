use Rattle.qapi_tree.proofs.NoMemoryFault.{no_memory_fault}
use Rattle.qapi_tree.proofs.parsing.memory_is_no_fault.Goals as goal

pub returns : goal.returns
returns c = λ tokens. no_memory_fault tokens
