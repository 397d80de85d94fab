-- Cycles of bases and branches (QAPI code generation guide, "Struct types", "Union types").
use Rattle.std.specs.Prelude.{ℕ, zero, suc, nat_eq, Bool, false, ◌||◌, cond, List, [], ◌++◌, map, length, Option, Some, None}
use Rattle.std.specs.{List.filter_map, List.list_any, Option.option_to_list}
use Rattle.qapi_define.specs.declared.definition.{Definition.Definition, Variant.Variant}
use Rattle.qapi_define.specs.Saying.{base_of, variants_of}
use Rattle.qapi_types.specs.{Chains.row_of, Lookups.place_of}
use Rattle.qapi_rules.specs.declared.fault.{CheckFault.CheckFault}
use Rattle.qapi_rules.specs.declared.fault.CheckRule.TheVariants.{BaseCycle}
use Rattle.qapi_rules.specs.{Blames.over, Meanings.names_of, Meanings.is_union_sort, References.judged}

-- a chain of at most so many references
abbrev pub leads_in : ℕ → List (List ℕ) → ℕ → ℕ → Bool
leads_in zero graph a b = false
leads_in (suc n) graph a b = list_any (λ c. nat_eq b c || leads_in n graph c b) (row_of graph a)

-- a chain of references that comes back
unfoldable pub is_on_cycle : List (List ℕ) → ℕ → Bool
is_on_cycle graph a = leads_in (length graph) graph a a

-- the branches of a union; none of another definition
abbrev pub branches_of : Definition → List Variant
branches_of d = cond (is_union_sort d.sort) (variants_of d) []

-- the names of the base and of the types of the branches
abbrev pub referred : Definition → List (List ℕ)
referred d = option_to_list (base_of d) ++ map (λ (v : Variant). v.of.name) (branches_of d)

-- the places of those names that are defined
abbrev pub places_of : List Definition → List (List ℕ) → List ℕ
places_of defs names = filter_map (place_of (names_of defs)) names

-- the places of the base and of the types of the branches
abbrev pub references_of : List Definition → Definition → List ℕ
references_of defs d = places_of defs (referred d)

-- the same of each definition
abbrev pub reference_graph : List Definition → List (List ℕ)
reference_graph defs = map (references_of defs) defs

-- the definition, where its place is on a cycle
abbrev pub base_cycle : List (List ℕ) → ℕ → Definition → Option (List ℕ)
base_cycle graph place d = cond (is_on_cycle graph place) (Some d.name) None

abbrev pub cycle_fault : List (List ℕ) → List Definition → Definition → Option CheckFault
cycle_fault graph before d = judged BaseCycle d (base_cycle graph (length before) d)

-- the first definition on a cycle of bases and branches
abbrev pub cycles_pass : List Definition → Option CheckFault
cycles_pass defs = over (cycle_fault (reference_graph defs)) [] defs
