-- Faults of types, by the sets of their names and by marks.
use Rattle.std.proofs.Common.{◌≡◌, ◌≤◌, ◌<◌, ◌↔◌, ℕ, Bool, true, false, IsTrue, List, [], ◌∷◌, map, Option, Some, None, is_none, is_some, length, refl, sym, ap, ◌∙◌, subst, inl, inr, arith, get_or}
use Rattle.std.proofs.{Math.ListN.get_or-map, lemmas.List.length-map, lemmas.List.get_or_default}
use Rattle.qapi_types.specs.declared.{choices.TypeFaults.TypeFaults, kind.Kind.Kind, kind.MemberDef.MemberDef}
use Rattle.qapi_types.specs.declared.kind.Kind.TheVariants as kinds
use Rattle.qapi_types.specs.Chains.{has, row_of, IsInside, Leads, by_one, and_one, IsReachedFrom, NoneOnCycle, marked}
use Rattle.qapi_types.specs.Choices.{times, names_of, again, shares, stands, AreApart, AllApart, IsFaulty}
use Rattle.qapi_types.specs.{Goodness.choices_of, Sets.HasNames, Sets.IsSetOf, Sets.has_member_in, Sets.ClashesMarked, Sets.HasFaults}
use Rattle.qapi_types.specs.Types.{kind_of, members_of, member_names, branch_types}
use Rattle.qapi_types.proofs.ChoiceLaws.{again-none, again-some, both, shares-both, apart_all, apart_not}
use Rattle.qapi_types.proofs.NameLemmas.{list_any-map}

shares-flip : (xs ys : List (List ℕ)) → shares xs ys ≡ true → shares ys xs ≡ true
shares-flip xs ys h = let k = both xs ys h in shares-both k.0 ys xs k.2 k.1

shares-same : (xs set names : List (List ℕ)) → HasNames set names → shares xs set ≡ shares xs names
shares-same [] set names h = refl
shares-same (x ∷ xs) set names h = rw (h x, shares-same xs set names h) refl

pub names-at : (table : List Kind) (a : ℕ) → names_of (map member_names table) a ≡ member_names (kind_of table a)
names-at table a = get_or-map member_names table a kinds.Null

leads-nowhere : (g : List (List ℕ)) (a b : ℕ) → row_of g a ≡ [] → Leads g a b → ⊥
leads-nowhere g a b e (by_one r) = (let k : has b [] ≡ true = subst (λ l. has b l ≡ true) e r in cc)
leads-nowhere g a b e (and_one l r) = leads-nowhere g a _ e l

again-of : (names : List (List ℕ)) → (AreApart names → ⊥) → is_some (again [] names) ≡ true
again-of names h = by_case (again [] names) refl
  where
    by_case : (o : Option (List ℕ)) → again [] names ≡ o → is_some o ≡ true
    by_case None e = absurd (h (again-none [] names (λ y. omega arith) e))
    by_case (Some x) e = refl

of-again : (names : List (List ℕ)) → is_some (again [] names) ≡ true → AreApart names → ⊥
of-again names h all = by_case (again [] names) refl h
  where
    by_case : (o : Option (List ℕ)) → again [] names ≡ o → is_some o ≡ true → ⊥
    by_case None e h = cc
    by_case (Some x) e h = (let t : 2 ≤ times x names = again-some [] names x e in absurd (omega (arith, t, all x)))

-- a type that refers to nothing has no fault but a name of its own that stands twice
alone : (table : List Kind) (a : ℕ) (set : Option (List (List ℕ))) → row_of (map branch_types table) a ≡ [] → IsSetOf (names_of (map member_names table) a) set → IsTrue (is_none set) ↔ IsFaulty (choices_of table) a
alone table a None e s = ((λ _. inl (again-of _ s)), (λ _. refl))
alone table a (Some set) e s = ((λ h. cc), (λ f. elim f [ inl h ↦ absurd (of-again _ h s.0) | inr k ↦ absurd (leads-nowhere (map branch_types table) a k.0 e k.1) ]))

empty : (xs : List ℕ) → length xs ≡ 0 → xs ≡ []
empty [] h = refl
empty (x ∷ xs) h = absurd (omega arith)

pub faults_alone : (table : List Kind) (a : ℕ) (g : List (List ℕ)) (row : List ℕ) (names : List (List ℕ)) (kind : Kind) (set : Option (List (List ℕ))) (clash : Bool) → g ≡ map branch_types table → row ≡ row_of g a → length row ≡ 0 → IsSetOf names set → names ≡ member_names kind → kind ≡ kind_of table a → clash ≡ is_none set → HasFaults (choices_of table) a (record { on_cycle = false; clashes = clash })
faults_alone table a g row names kind set clash e r n s ns k c =
    let here : row_of (map branch_types table) a ≡ [] = ap (λ g. row_of g a) (sym e) ∙ sym r ∙ empty row n in
    let d = alone table a set here (subst (λ l. IsSetOf l set) (ns ∙ ap member_names k ∙ sym (names-at table a)) s) in
    record {
      cycle = ((λ h. cc), (λ l. absurd (leads-nowhere (map branch_types table) a a here l)));
      clash = ((λ h. d.0 (sym c ∙ h)), (λ f. c ∙ d.1 f));
    }

member-in : (set here : List (List ℕ)) (table : List Kind) (b : ℕ) → HasNames set here → has_member_in set (kind_of table b) ≡ shares (names_of (map member_names table) b) here
member-in set here table b h = sym (list_any-map (λ (m : MemberDef). m.name) (λ name. stands name set) (members_of (kind_of table b))) ∙ shares-same (member_names (kind_of table b)) set here h ∙ ap (λ l. shares l here) (sym (names-at table b))

-- a type has a fault where one that it leads to meets the set of its names
led : (table : List Kind) (a : ℕ) (set : Option (List (List ℕ))) (marks : List Bool) → IsReachedFrom (map branch_types table) a marks → IsSetOf (names_of (map member_names table) a) set → ClashesMarked set table marks ↔ IsFaulty (choices_of table) a
led table a None marks reach s = ((λ _. inl (again-of _ s)), (λ _. tt))
led table a (Some set) marks reach s =
    let here : List (List ℕ) = names_of (map member_names table) a in
    let same : (b : ℕ) → has_member_in set (kind_of table b) ≡ shares (names_of (map member_names table) b) here = λ b. member-in set here table b s.1 in (
      (λ m. inr (m.0, reach.leads m.0 m.1, shares-flip (names_of (map member_names table) m.0) here (sym (same m.0) ∙ m.2))),
      (λ f. elim f [
        | inl h ↦ absurd (of-again _ h s.0)
        | inr k ↦ (k.0, reach.all k.0 k.1, same k.0 ∙ shares-flip here (names_of (map member_names table) k.0) k.2)
      ]),
    )

pub faults_led : (table : List Kind) (a : ℕ) (g : List (List ℕ)) (names : List (List ℕ)) (kind : Kind) (set : Option (List (List ℕ))) (marks : List Bool) (cycle clash : Bool) → g ≡ map branch_types table → IsSetOf names set → names ≡ member_names kind → kind ≡ kind_of table a → IsReachedFrom g a marks → a < length table → cycle ≡ get_or marks a cycle → IsTrue clash ↔ ClashesMarked set table marks → HasFaults (choices_of table) a (record { on_cycle = cycle; clashes = clash })
faults_led table a g names kind set marks cycle clash e s ns k reach w is d =
    let there : IsReachedFrom (map branch_types table) a marks = subst (λ g. IsReachedFrom g a marks) e reach in
    let n : length (map branch_types table) ≡ length table = length-map table branch_types in
    let m : length marks ≡ length (map branch_types table) = there.long in
    let c : cycle ≡ marked marks a = is ∙ get_or_default marks a cycle false (omega (arith, n, m, w)) in
    let l = led table a set marks there (subst (λ l. IsSetOf l set) (ns ∙ ap member_names k ∙ sym (names-at table a)) s) in
    record {
      cycle = ((λ h. there.leads a (sym c ∙ h)), (λ h. c ∙ there.all a h));
      clash = ((λ h. l.0 (d.0 h)), (λ h. d.1 (l.1 h)));
    }

-- all types, or the first that has a fault
abbrev AreGood : List Kind → Type 0
AreGood table = NoneOnCycle (map branch_types table) (length table) × AllApart (choices_of table)

pub bad_cycle : (table : List Kind) (a : ℕ) (faults : TypeFaults) → a < length table → HasFaults (choices_of table) a faults → faults.on_cycle ≡ true → IsTrue false ↔ AreGood table
bad_cycle table a faults l f e = ((λ h. cc), (λ g. absurd (g.0 a l (f.cycle.0 e))))

pub bad_clash : (table : List Kind) (a : ℕ) (faults : TypeFaults) → a < length table → HasFaults (choices_of table) a faults → faults.clashes ≡ true → IsTrue false ↔ AreGood table
bad_clash table a faults l f e = ((λ h. cc), (λ g. absurd (apart_not (choices_of table) a (let n : length (map member_names table) ≡ length table = length-map table member_names in omega (arith, n, l)) (f.clash.0 e) g.1)))

pub good_types : (table : List Kind) (n : ℕ) → IsInside (map branch_types table) → length table ≤ n → ((a : ℕ) → a < n → (Leads (map branch_types table) a a → ⊥) × (IsFaulty (choices_of table) a → ⊥)) → IsTrue true ↔ AreGood table
good_types table n inside l none = (
  (λ _. (
    (λ a h. (none a (omega (arith, h, l))).0),
    apart_all (choices_of table) n (record { inside = inside; long = length-map table member_names ∙ sym (length-map table branch_types) }) (let m : length (map member_names table) ≡ length table = length-map table member_names in omega (arith, m, l)) (λ a h. (none a h).1),
  )),
  (λ _. refl),
)

pub fault_free : (table : List Kind) (a : ℕ) (faults : TypeFaults) → HasFaults (choices_of table) a faults → faults.on_cycle ≡ false → faults.clashes ≡ false → (Leads (map branch_types table) a a → ⊥) × (IsFaulty (choices_of table) a → ⊥)
fault_free table a faults f e d = (
  (λ l. (let k : faults.on_cycle ≡ true = f.cycle.1 l in cc)),
  (λ l. (let k : faults.clashes ≡ true = f.clash.1 l in cc)),
)
