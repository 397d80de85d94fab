-- The parts are good where each condition holds, and only there.
use Rattle.std.proofs.Common.{◌≡◌, ◌<◌, ◌↔◌, ℕ, Bool, true, false, IsTrue, List, map, length, Result, IfOk, sym, subst}
use Rattle.std.specs.List.{All}
use Rattle.std.proofs.lemmas.{List.length-map, List.Elements.All-map, List.Elements.All-nil, List.Elements.All-weaker, Result.IfOk-weaker}
use Rattle.qapi_types.specs.declared.{kind.Branch.Branch, kind.Kind.Kind, parts.CommandDef.CommandDef, parts.EventDef.EventDef}
use Rattle.qapi_types.specs.declared.kind.Kind.TheVariants as kinds
use Rattle.qapi_types.specs.{declared.parts.Parts.Parts, Chains.IsInside, Chains.NoneOnCycle, Choices.AreApart, Choices.AllApart}
use Rattle.qapi_types.specs.Goodness.{IsCounted, IsInRange, RefersBelow, HasTag, HasPlainElement, HasApartAlternatives, AreDealt, HasApartValues, HasBranches, IsGood, definition_names, choices_of}
use Rattle.qapi_types.specs.Types.{branch_types}

below : (n : ℕ) (kind : Kind) → RefersBelow n kind → All (λ b. b < n) (branch_types kind)
below n (kinds.Object def) h = All-map (λ b. b < n) (λ (b : Branch). b.type_id) def.branches h.1
below n kinds.Str h = All-nil (λ b. b < n)
below n kinds.Number h = All-nil (λ b. b < n)
below n (kinds.Whole whole) h = All-nil (λ b. b < n)
below n kinds.Bool h = All-nil (λ b. b < n)
below n kinds.Null h = All-nil (λ b. b < n)
below n kinds.Any h = All-nil (λ b. b < n)
below n (kinds.Enum values features) h = All-nil (λ b. b < n)
below n (kinds.Array e) h = All-nil (λ b. b < n)
below n (kinds.Alternate types features) h = All-nil (λ b. b < n)

pub inside : (p : Parts) (table : List Kind) → table ≡ p.kinds → IsInRange p → IsInside (map branch_types table)
inside p table e r =
    let h : All (RefersBelow (length table)) table = subst (λ ks. All (RefersBelow (length ks)) ks) (sym e) r.types in
    let n : length table ≡ length (map branch_types table) = sym (length-map table branch_types) in
    All-map (λ row. All (λ b. b < length (map branch_types table)) row) branch_types table
    (All-weaker (RefersBelow (length table)) (λ kind. All (λ b. b < length (map branch_types table)) (branch_types kind)) (λ kind k. subst (λ n. All (λ b. b < n) (branch_types kind)) n (below (length table) kind k)) table h)

-- a condition is lacking
pub lacks : {P Q : Type 0} (holds : Bool) → IsTrue holds ↔ P → holds ≡ false → (Q → P) → IsTrue false ↔ Q
lacks holds d f h = ((λ k. cc), (λ q. (let t : holds ≡ true = d.1 (h q) in cc)))

pub misplaced : (p : Parts) (cs : List CommandDef) (es : List EventDef) (holds : Bool) → cs ≡ p.commands → es ≡ p.events → IsTrue holds ↔ AreDealt 0 (map (λ (c : CommandDef). c.place) cs) (map (λ (e : EventDef). e.place) es) → holds ≡ false → IsTrue false ↔ IsGood p
misplaced p cs es holds e f d bad = lacks holds d bad (λ g. rw (e, f) g.places)

pub decided : {E : Type 0} (p : Parts) (table : List Kind) (cs : List CommandDef) (es : List EventDef) (r : Result Bool E) → table ≡ p.kinds → cs ≡ p.commands → es ≡ p.events → IsCounted p → IsInRange p → All (HasTag table) table → All (HasPlainElement table) table → All (HasApartAlternatives table) table → AreDealt 0 (map (λ (c : CommandDef). c.place) cs) (map (λ (e : EventDef). e.place) es) → AreApart (definition_names p) → All HasApartValues table → All (HasBranches table) table → IfOk r (λ b. IsTrue b ↔ (NoneOnCycle (map branch_types table) (length table) × AllApart (choices_of table))) → IfOk r (λ b. IsTrue b ↔ IsGood p)
decided p table cs es r e f g counts ranges tags elements alternatives places names values branches d =
    IfOk-weaker r (λ b. IsTrue b ↔ (NoneOnCycle (map branch_types table) (length table) × AllApart (choices_of table))) (λ b. IsTrue b ↔ IsGood p) (λ b h. (
      (λ t. record {
        counts = counts;
        ranges = ranges;
        names = names;
        values = subst (All HasApartValues) e values;
        branches = subst (λ ks. All (HasBranches ks) ks) e branches;
        tags = subst (λ ks. All (HasTag ks) ks) e tags;
        choices = subst (λ ks. AllApart (choices_of ks)) e (h.0 t).1;
        cycles = subst (λ ks. NoneOnCycle (map branch_types ks) (length ks)) e (h.0 t).0;
        elements = subst (λ ks. All (HasPlainElement ks) ks) e elements;
        alternatives = subst (λ ks. All (HasApartAlternatives ks) ks) e alternatives;
        places = subst (λ cs. AreDealt 0 (map (λ (c : CommandDef). c.place) cs) (map (λ (e : EventDef). e.place) p.events)) f (subst (λ es. AreDealt 0 (map (λ (c : CommandDef). c.place) cs) (map (λ (e : EventDef). e.place) es)) g places);
      }),
      (λ k. h.1 (subst (λ ks. NoneOnCycle (map branch_types ks) (length ks)) (sym e) k.cycles, subst (λ ks. AllApart (choices_of ks)) (sym e) k.choices)),
    )) d
