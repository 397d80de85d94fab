-- Where no pass has a fault, the parts are good.
use Rattle.std.proofs.Common.{◌≡◌, ◌<◌, ℕ, List, length, map, All, Option, None, refl, sym, ◌∙◌, subst}
use Rattle.std.proofs.lemmas.List.{length-map, Elements.All-map, Elements.All-nil, Elements.All-weaker}
use Rattle.qapi_types.specs.declared.kind.{Branch.Branch, Kind.Kind}
use Rattle.qapi_types.specs.declared.kind.Kind.TheVariants as kinds
use Rattle.qapi_types.specs.declared.parts.Parts.{Parts}
use Rattle.qapi_types.specs.{Chains.IsInside, Chains.NoneOnCycle, Choices.AllApart}
use Rattle.qapi_types.specs.Goodness.{HasBranches, HasPositions, HasTag, IsCounted, IsGood, IsInRange, RefersBelow, choices_of}
use Rattle.qapi_types.specs.Types.{branch_types}
use Rattle.qapi_define.specs.declared.definition.Definition.{Definition}
use Rattle.qapi_rules.specs.{Cycles.cycles_pass, NamesRules.names_pass, References.references_pass}
use Rattle.qapi_number.specs.{PartsOf.parts_of}
use Rattle.std.specs.Option.{option_or}
use Rattle.qapi_rules.specs.declared.fault.CheckFault.{CheckFault}
use Rattle.qapi_check.specs.{Checking.first_fault, Clashes.clashes_pass, Passes.clash_fault, Passes.cycle_fault, Passes.early_fault, Passes.names_fault, Passes.numbered, Passes.references_fault}
use Rattle.qapi_check.proofs.{AlternateLaws.alternatives-apart, ApartLaws.all-apart, ApartLaws.all-values, ApartLaws.no-cycle, CallLaws.calls-apart, CallLaws.calls-dealt, ListLaws.or-none, NameLaws.names-apart}
use Rattle.qapi_check.proofs.NumberLaws.{commands-refer, elements-plain, events-refer, types-refer}
use Rattle.qapi_check.proofs.UnionLaws.{IsUnionGood, all_kinds, unions-good}

-- the types of the branches are among those that a type refers to
below : (n : ℕ) (kind : Kind) → RefersBelow n kind → All (λ b. b < n) (branch_types kind)
below n (kinds.Object def) h = All-map (λ b. b < n) (λ (b : Branch). b.type_id) def.branches h.1
below n kinds.Str h = All-nil (λ b. b < n)
below n kinds.Number h = All-nil (λ b. b < n)
below n (kinds.Whole whole) h = All-nil (λ b. b < n)
below n kinds.Bool h = All-nil (λ b. b < n)
below n kinds.Null h = All-nil (λ b. b < n)
below n kinds.Any h = All-nil (λ b. b < n)
below n (kinds.Enum values features) h = All-nil (λ b. b < n)
below n (kinds.Array e) h = All-nil (λ b. b < n)
below n (kinds.Alternate types features) h = All-nil (λ b. b < n)

-- all that the types refer to
inner : (defs : List Definition) → IsInside (map branch_types (all_kinds defs))
inner defs = All-map (λ row. All (λ b. b < length (map branch_types (all_kinds defs))) row) branch_types (all_kinds defs)
    (All-weaker (RefersBelow (length (all_kinds defs))) (λ kind. All (λ b. b < length (map branch_types (all_kinds defs))) (branch_types kind))
    (λ kind k. subst (λ (n : ℕ). All (λ b. b < n) (branch_types kind)) (sym (length-map (all_kinds defs) branch_types)) (below (length (all_kinds defs)) kind k)) (all_kinds defs) (types-refer defs))

free : (defs : List Definition) → names_pass defs ≡ None → references_pass defs ≡ None → cycles_pass defs ≡ None → NoneOnCycle (map branch_types (all_kinds defs)) (length (all_kinds defs))
free defs names references cycles = no-cycle defs names references cycles

module _ (defs : List Definition) (names : names_pass defs ≡ None) (references : references_pass defs ≡ None) (cycles : cycles_pass defs ≡ None) (clashes : clashes_pass (choices_of (all_kinds defs)) defs ≡ None) where
  apart : AllApart (choices_of (all_kinds defs))
  apart = all-apart defs names (inner defs) (free defs names references cycles) clashes

  unions : All (IsUnionGood (all_kinds defs)) (all_kinds defs)
  unions = unions-good defs names references cycles apart

  ranges : IsInRange (parts_of defs)
  ranges = record {
    types = types-refer defs;
    commands = commands-refer defs;
    events = events-refer defs;
    positions = All-weaker (IsUnionGood (all_kinds defs)) (HasPositions (all_kinds defs)) (λ kind k. k.0) (all_kinds defs) unions;
  }

  pub good-parts : IsCounted (parts_of defs) → IsGood (parts_of defs)
  good-parts counts = record {
    counts = counts;
    ranges = ranges;
    names = calls-apart defs (names-apart defs names);
    values = all-values defs names;
    branches = All-weaker (IsUnionGood (all_kinds defs)) (HasBranches (all_kinds defs)) (λ kind k. k.2) (all_kinds defs) unions;
    tags = All-weaker (IsUnionGood (all_kinds defs)) (HasTag (all_kinds defs)) (λ kind k. k.1) (all_kinds defs) unions;
    choices = apart;
    cycles = free defs names references cycles;
    elements = elements-plain defs;
    alternatives = alternatives-apart defs names references;
    places = calls-dealt defs;
  }

-- where no pass has a fault
pub passed-good : (defs : List Definition) → first_fault defs ≡ None → IsCounted (numbered defs) → IsGood (numbered defs)
unfolding names_fault references_fault cycle_fault clash_fault numbered
passed-good defs h counts =
    let a : (names_pass defs ≡ None) × (option_or (references_pass defs) (option_or (cycles_pass defs) (option_or (clashes_pass (choices_of (all_kinds defs)) defs) None)) ≡ None) = or-none _ _ h in
    let b : (references_pass defs ≡ None) × (option_or (cycles_pass defs) (option_or (clashes_pass (choices_of (all_kinds defs)) defs) None) ≡ None) = or-none _ _ a.1 in
    let c : (cycles_pass defs ≡ None) × (option_or (clashes_pass (choices_of (all_kinds defs)) defs) None ≡ None) = or-none _ _ b.1 in
    let d : (clashes_pass (choices_of (all_kinds defs)) defs ≡ None) × (◌≡◌ {A = Option CheckFault} None None) = or-none _ _ c.1 in
    good-parts defs a.0 b.0 c.0 d.0 counts

-- the same in two steps, as the code goes

pub early-free : (defs : List Definition) (table : List Kind) → table ≡ (numbered defs).kinds → early_fault defs ≡ None → IsInside (map branch_types table) × NoneOnCycle (map branch_types table) (length table)
unfolding names_fault references_fault cycle_fault numbered
early-free defs table e h =
    let a : (names_pass defs ≡ None) × (option_or (references_pass defs) (option_or (cycles_pass defs) None) ≡ None) = or-none _ _ h in
    let b : (references_pass defs ≡ None) × (option_or (cycles_pass defs) None ≡ None) = or-none _ _ a.1 in
    let c : (cycles_pass defs ≡ None) × (◌≡◌ {A = Option CheckFault} None None) = or-none _ _ b.1 in
    subst (λ (t : List Kind). IsInside (map branch_types t) × NoneOnCycle (map branch_types t) (length t)) (sym e) (inner defs, free defs a.0 b.0 c.0)

early-first : (defs : List Definition) → early_fault defs ≡ None → clash_fault defs ≡ None → first_fault defs ≡ None
early-first defs h k =
    let a : (names_fault defs ≡ None) × (option_or (references_fault defs) (option_or (cycle_fault defs) None) ≡ None) = or-none _ _ h in
    let b : (references_fault defs ≡ None) × (option_or (cycle_fault defs) None ≡ None) = or-none _ _ a.1 in
    let c : (cycle_fault defs ≡ None) × (◌≡◌ {A = Option CheckFault} None None) = or-none _ _ b.1 in
    rw (a.0, b.0, c.0, k) refl

pub sealed-good : (defs : List Definition) (p : Parts) (fault : Option CheckFault) → p ≡ numbered defs → early_fault defs ≡ None → fault ≡ clash_fault defs → fault ≡ None → IsCounted p → IsGood p
sealed-good defs p fault e early f n counts = subst IsGood (sym e) (passed-good defs (early-first defs early (sym f ∙ n)) (subst IsCounted e counts))
