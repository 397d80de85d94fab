-- What holds of all elements, or of all pairs of them, found one element after the other.
use Rattle.std.proofs.Common.{◌≡◌, ◌≤◌, ◌<◌, ◌+◌, ◌↔◌, ℕ, nat_eq, nat_cmp, Bool, true, false, not, IsTrue, List, [], length, take, get_or, refl, sym, ap, ◌∙◌, subst, arith}
use Rattle.std.specs.{BTreeMap.is_at, BTreeSet.BTreeSet, BTreeSet.Updates, List.All, List.AllPairs, List.list_any, Option.IsSome}
use Rattle.std.specs.BTreeSet as sorted
use Rattle.std.proofs.lemmas.{Bool.Decides.Decides-eqb, Grind.common_steps}
use Rattle.std.proofs.lemmas.List.{take_more, take_all, get_or-take, get_or_default, Elements.All-more}
use Rattle.std.proofs.lemmas.List.{Folds.Any-from_list_any, Folds.list_any_at, Folds.list_any_more, Quantifiers.all_pairs_push}
use Rattle.qapi_types.specs.{declared.kind.Branch.Branch, declared.kind.Kind.Kind, Goodness.AreToldApart, Sets.IsNewKind}
use Rattle.qapi_types.specs.Types.{kind_of, json_kind_of}

-- an element refutes it
pub refuted : {X : Type 0} (P : X → Type 0) (xs : List X) (i : ℕ) (x d : X) (holds : Bool) → i < length xs → x ≡ get_or xs i d → IsTrue holds ↔ P x → holds ≡ false → IsTrue false ↔ All P xs
refuted P xs i x d holds l e p f = ((λ h. cc), (λ all. (let t : holds ≡ true = p.1 (subst P (sym e) (all i d l)) in cc)))

-- one more element
pub one_more : {X : Type 0} (P : X → Type 0) (xs : List X) (i : ℕ) (x d : X) (holds : Bool) → i < length xs → x ≡ get_or xs i d → IsTrue holds ↔ P x → holds ≡ true → All P (take i xs) → All P (take (i + 1) xs)
one_more P xs i x d holds l e p t all = All-more P xs i d l all (subst P e (p.0 t))

-- all elements have been looked at
pub looked : {X : Type 0} (P : X → Type 0) (xs : List X) (i : ℕ) → length xs ≤ i → All P (take i xs) → IsTrue true ↔ All P xs
looked P xs i l all = ((λ _. subst (All P) (take_all i xs l) all), (λ _. refl))

short : {X : Type 0} (xs : List X) (i k : ℕ) → k < length (take i xs) → k < i
short xs i k h = grind (arith, common_steps)

pub pairs_more : {X : Type 0} (R : X → X → Type 0) (xs : List X) (i : ℕ) (d : X) → i < length xs → AllPairs R (take i xs) → ((k : ℕ) (e : X) → k < i → R (get_or xs k e) (get_or xs i d)) → AllPairs R (take (i + 1) xs)
pairs_more R xs i d l a r =
    subst (AllPairs R) (sym (take_more xs i d l))
    (all_pairs_push R (take i xs) (get_or xs i d) a (λ k e h. subst (λ x. R x (get_or xs i d)) (sym (get_or-take i xs k e (short xs i k h))) (r k e (short xs i k h))))

pub pairs_all : {X : Type 0} (R : X → X → Type 0) (xs : List X) (i : ℕ) → length xs ≤ i → AllPairs R (take i xs) → IsTrue true ↔ AllPairs R xs
pairs_all R xs i l all = ((λ _. subst (AllPairs R) (take_all i xs l) all), (λ _. refl))

-- ---- branches of different values

abbrev pub Differ : Branch → Branch → Type 0
Differ b c = b.value ≡ c.value → ⊥

-- the values of the branches so far, no two of which are the same
pub record HasValues (values : BTreeSet ℕ) (branches : List Branch) : Type 0 where
  pub holds : (q : ℕ) → sorted.contains nat_cmp values q ≡ list_any (λ (b : Branch). nat_eq q b.value) branches
  pub differ : AllPairs Differ branches

absent : (b : Bool) → true ≡ not b → b ≡ false
absent true h = cc
absent false h = refl

present : (b : Bool) → false ≡ not b → b ≡ true
present true h = refl
present false h = cc

among : (branches : List Branch) (i k : ℕ) (e : Branch) (q : ℕ) → i < length branches → k < i → q ≡ (get_or branches k e).value → list_any (λ (b : Branch). nat_eq q b.value) (take i branches) ≡ true
among branches i k e q l h s =
    list_any_at (λ (b : Branch). nat_eq q b.value) (take i branches) k e (inside branches i l k h)
    (ap (λ (b : Branch). nat_eq q b.value) (get_or-take i branches k e h) ∙ (Decides-eqb q (get_or branches k e).value).1 s)
  where
    inside : (xs : List Branch) (n : ℕ) → n < length xs → (m : ℕ) → m < n → m < length (take n xs)
    inside xs n l m h = grind (arith, common_steps)

pub values_none : (values : BTreeSet ℕ) → values.keys ≡ [] → HasValues values []
values_none values h = record { holds = λ q. ap (list_any (is_at (nat_cmp q))) h; differ = λ i j d l k. absurd (omega (arith, k)) }

pub values_more : (values new : BTreeSet ℕ) (branches : List Branch) (i : ℕ) (d : Branch) (fresh : Bool) → i < length branches → HasValues values (take i branches) → fresh ≡ true → fresh ≡ not (sorted.contains nat_cmp values (get_or branches i d).value) → Updates nat_cmp values new (get_or branches i d).value true → HasValues new (take (i + 1) branches)
values_more values new branches i d fresh l v f e u =
    let x : ℕ = (get_or branches i d).value in
    let none : list_any (λ (b : Branch). nat_eq x b.value) (take i branches) ≡ false = sym (v.holds x) ∙ absent (sorted.contains nat_cmp values x) (sym f ∙ e) in
    record {
      holds = λ q. (let h = v.holds q in let m = list_any_more (λ (b : Branch). nat_eq q b.value) branches i d l in grind (arith, common_steps, h, m, u.0 q));
      differ = pairs_more Differ branches i d l v.differ (λ k e h s. (let t : list_any (λ (b : Branch). nat_eq x b.value) (take i branches) ≡ true = among branches i k e x l h (sym s) in cc));
    }

pub value_twice : (values : BTreeSet ℕ) (branches : List Branch) (i : ℕ) (d : Branch) (fresh : Bool) → i < length branches → HasValues values (take i branches) → fresh ≡ false → fresh ≡ not (sorted.contains nat_cmp values (get_or branches i d).value) → IsTrue false ↔ AllPairs Differ branches
value_twice values branches i d fresh l v f e =
    let x : ℕ = (get_or branches i d).value in
    let some : list_any (λ (b : Branch). nat_eq x b.value) (take i branches) ≡ true = sym (v.holds x) ∙ present (sorted.contains nat_cmp values x) (sym f ∙ e) in
    let a = Any-from_list_any (λ (b : Branch). nat_eq x b.value) (take i branches) some in
    let k : a.0 < i = short branches i a.0 a.2 in (
      (λ h. cc),
      (λ all. absurd (all a.0 i d k l (
          ap (λ (b : Branch). b.value) (sym (get_or-take i branches a.0 d k) ∙ get_or_default (take i branches) a.0 d a.1 a.2 ∙ a.3) ∙ sym ((Decides-eqb x a.1.value).0 a.4)
          ))),
    )

-- ---- alternatives of different kinds

module _ (table : List Kind) where
  abbrev Apart : ℕ → ℕ → Type 0
  Apart t u = json_kind_of (kind_of table t) ≡ json_kind_of (kind_of table u) → ⊥

  pub kinds_more : (types : List ℕ) (i d : ℕ) → i < length types → AreToldApart table (take i types) → IsNewKind table (take i types) (get_or types i d) → AreToldApart table (take (i + 1) types)
  kinds_more types i d l a n = (
    All-more (λ t. IsSome (json_kind_of (kind_of table t))) types i d l a.0 n.0,
    pairs_more Apart types i d l a.1 (λ k e h. subst (λ t. Apart t (get_or types i d)) (get_or-take i types k e h) (n.1 k e (inside types i l k h))),
  )
    where
      inside : (xs : List ℕ) (n : ℕ) → n < length xs → (m : ℕ) → m < n → m < length (take n xs)
      inside xs n l m h = grind (arith, common_steps)

  pub kind_again : (types : List ℕ) (i d : ℕ) → i < length types → (IsNewKind table (take i types) (get_or types i d) → ⊥) → IsTrue false ↔ AreToldApart table types
  kind_again types i d l bad = (
    (λ h. cc),
    (λ a. absurd (bad (a.0 i d l, (λ k e h. subst (λ t. Apart t (get_or types i d)) (sym (get_or-take i types k e (short types i k h))) (subst (λ t. Apart t (get_or types i d)) (get_or_default types k d e (let n : k < i = short types i k h in omega (arith, n, l))) (a.1 k i d (short types i k h) l)))))),
  )

  pub kinds_all : (types : List ℕ) (i : ℕ) → length types ≤ i → AreToldApart table (take i types) → IsTrue true ↔ AreToldApart table types
  kinds_all types i l a = ((λ _. subst (AreToldApart table) (take_all i types l) a), (λ _. refl))
