-- Names that stand twice along branches (QAPI code generation guide, "Union types").
use Rattle.std.specs.Prelude.{ℕ, zero, suc, Bool, true, false, List, [], ◌++◌, length, Option, None}
use Rattle.std.specs.{List.filter, Option.option_or}
use Rattle.qapi_define.specs.{declared.definition.Definition.Definition, declared.definition.Sort.Sort, Saying.first_some}
use Rattle.qapi_define.specs.declared.definition.Sort.TheVariants as sorts
use Rattle.qapi_rules.specs.{Blames.fault, Blames.over, declared.fault.CheckFault.CheckFault, declared.fault.CheckRule.TheVariants.MemberClash}
use Rattle.qapi_types.specs.{Chains.IsInside, Chains.NoneOnCycle, Chains.row_of, Choices.Table, Choices.names_of, Choices.again}

-- each reference is to a thing of the graph, and none leads to itself
abbrev pub IsAcyclic : List (List ℕ) → Type 0
IsAcyclic graph = IsInside graph × NoneOnCycle graph (length graph)

-- the first name that stands a second time in types so many deep: among a type's own names, those of its bases first,
-- and then in its branches in order, each with all that it brings
abbrev pub again_in : ℕ → Table → List (List ℕ) → ℕ → Option (List ℕ)
again_in zero t seen a = None
again_in (suc n) t seen a = option_or (again seen (names_of t.names a)) (first_some (again_in n t (seen ++ names_of t.names a)) (row_of t.branches a))

-- the first name that stands a second time from a type on, where no type is on a cycle of branches
unfoldable pub clash_of : Table → ℕ → Option (List ℕ)
clash_of t a = again_in (length t.branches) t [] a

abbrev pub is_type_sort : Sort → Bool
is_type_sort sorts.Command = false
is_type_sort sorts.Event = false
is_type_sort sort = true

abbrev pub defines_type : Definition → Bool
defines_type d = is_type_sort d.sort

-- the definitions of types: the number of each type is its place among them
abbrev pub type_definitions : List Definition → List Definition
type_definitions definitions = filter defines_type definitions

-- the fault of a type's definition, where it stands after others
abbrev pub clashes_rule : Table → List Definition → Definition → Option CheckFault
clashes_rule t before d = fault MemberClash d (clash_of t (length before))

-- the first definition from which a name stands a second time along some choice of branches
unfoldable pub clashes_pass : Table → List Definition → Option CheckFault
clashes_pass t definitions = over (clashes_rule t) [] (type_definitions definitions)
