-- The faults of a schema's tokens (this project's own rule).
use Rattle.std.specs.Prelude.{ℕ, List, []}
use Rattle.qapi_tree.specs.declared.fault.{TreeFault.TreeFault, TreeRule.TreeRule, TreeRule.TheVariants.Syntax, TreeRule.TheVariants.Memory}

abbrev pub fault : TreeRule → ℕ → List ℕ → TreeFault
fault rule line name = record { rule = rule; line = line; name = name }

abbrev pub syntax_fault : ℕ → TreeFault
syntax_fault line = fault Syntax line []

-- want of memory, which is no fault of a text
abbrev pub memory_fault : TreeFault
memory_fault = fault Memory 0 []
