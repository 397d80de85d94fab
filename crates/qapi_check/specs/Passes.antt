-- The steps from expressions to a table, each by a name of its own, so that what rests on them need not look into them.
use Rattle.std.specs.Prelude.{ℕ, List, [], ◌∷◌, ◌++◌, Option}
use Rattle.qapi_define.specs.{declared.definition.Definition.Definition, Definitions.definitions_of}
use Rattle.qapi_load.specs.declared.source.Source.{Source}
use Rattle.qapi_number.specs.{PartsOf.parts_of, Prelude.prelude, Prelude.without_prelude_names}
use Rattle.qapi_rules.specs.{Blames.first_of, Cycles.cycles_pass, NamesRules.names_pass, References.references_pass, declared.fault.CheckFault.CheckFault}
use Rattle.qapi_types.specs.{declared.parts.Parts.Parts, Goodness.choices_of}
use Rattle.qapi_check.specs.Clashes.{clashes_pass}

-- the first fault of names
unfoldable pub names_fault : List Definition → Option CheckFault
names_fault definitions = names_pass definitions

-- the first fault of references
unfoldable pub references_fault : List Definition → Option CheckFault
references_fault definitions = references_pass definitions

-- the first definition on a cycle of bases and branches
unfoldable pub cycle_fault : List Definition → Option CheckFault
cycle_fault definitions = cycles_pass definitions

-- the first fault of names, or else of references, or else of cycles
abbrev pub early_fault : List Definition → Option CheckFault
early_fault definitions = first_of (names_fault definitions ∷ references_fault definitions ∷ cycle_fault definitions ∷ [])

-- the commands, events and types by their numbers
unfoldable pub numbered : List Definition → Parts
numbered definitions = parts_of definitions

-- the names that clash along branches, over the types by their numbers
unfoldable pub clash_fault : List Definition → Option CheckFault
clash_fault definitions = clashes_pass (choices_of (numbered definitions).kinds) definitions

-- the definitions that stand before those of each schema, and those of the expressions that conditions and the former's
-- names leave
unfoldable pub all_definitions : List (List ℕ) → List Source → List Definition
all_definitions defines sources = prelude ++ without_prelude_names (definitions_of defines sources)
