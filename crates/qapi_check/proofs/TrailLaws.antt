-- Chains of things without a repeat, and what they find.
use Rattle.std.proofs.Common.{◌≡◌, ◌<◌, ◌≤◌, ◌||◌, ℕ, zero, suc, nat_eq, Bool, true, false, List, [], ◌∷◌, ◌++◌, length, map, Option, Some, None, refl, sym, ap, ◌∙◌, subst, inl, inr, arith, append_assoc}
use Rattle.std.specs.{List.IsDistinct, List.AllByRecursion, Option.option_or}
use Rattle.std.proofs.lemmas.{Bool.Decides.Decides-eqb, Map.Keys.IsDistinct-cons, Map.Steps.length-le_from_distinct_below, List.get_or_past, List.length-map}
use Rattle.qapi_define.specs.Saying.{first_some}
use Rattle.qapi_types.specs.Chains.{has, row_of, Refers, by_one, and_one, NoneOnCycle}
use Rattle.qapi_types.specs.Choices.{Table, times, names_of, again, ClashesAfter, Along, stays, takes}
use Rattle.qapi_types.specs.declared.kind.Kind.{Kind}
use Rattle.qapi_types.specs.{Goodness.choices_of, Types.member_names, Types.branch_types}
use Rattle.qapi_types.proofs.{ChainLaws.either, ChainLaws.left, ChainLaws.right, ChoiceLaws.again-some}
use Rattle.qapi_check.specs.{Clashes.again_in, Clashes.clash_of, Walking.LeadsTo}

unlike : (a : ℕ) (xs : List ℕ) → has a xs ≡ false → AllByRecursion (λ y. nat_eq a y ≡ false) xs
unlike a [] h = tt
unlike a (x ∷ xs) h = by_case (unlike a xs) (nat_eq a x) refl h
  where
    by_case : (has a xs ≡ false → AllByRecursion (λ y. nat_eq a y ≡ false) xs) → (t : Bool) → nat_eq a x ≡ t → (t || has a xs) ≡ false → (nat_eq a x ≡ false) × AllByRecursion (λ y. nat_eq a y ≡ false) xs
    by_case go true e h = cc
    by_case go false e h = (e, go h)

new-there : (g : List (List ℕ)) (past : List ℕ) (a : ℕ) → NoneOnCycle g (length g) → LeadsTo g past a → a < length g → has a past ≡ false
new-there g past a free p l = by_case (has a past) refl
  where
    by_case : (b : Bool) → has a past ≡ b → b ≡ false
    by_case true e = absurd (free a l (p.leads a e))
    by_case false e = refl

pub no_trail : (g : List (List ℕ)) (a : ℕ) → LeadsTo g [] a
unfolding IsDistinct
no_trail g a = record { apart = tt; within = λ q k. cc; leads = λ q k. cc }

-- the chain goes on to a thing that its last one refers to
pub goes_on : (g : List (List ℕ)) (past : List ℕ) (a b : ℕ) → NoneOnCycle g (length g) → LeadsTo g past a → a < length g → Refers g a b → LeadsTo g (a ∷ past) b
goes_on g past a b free p l r = record {
  apart = IsDistinct-cons nat_eq a past (unlike a past (new-there g past a free p l)) p.apart;
  within = λ q h. elim (either (nat_eq q a) (has q past) h) [ inl e ↦ subst (λ (z : ℕ). z < length g) (sym ((Decides-eqb q a).0 e)) l | inr k ↦ p.within q k ];
  leads = λ c k. elim (either (nat_eq c a) (has c past) k) [ inl s ↦ by_one (subst (λ (z : ℕ). has b (row_of g z) ≡ true) (sym ((Decides-eqb c a).0 s)) r) | inr s ↦ and_one (p.leads c s) r ];
}

-- no chain has as many things before its last one as there are
pub too_long : (g : List (List ℕ)) (past : List ℕ) (a : ℕ) → NoneOnCycle g (length g) → LeadsTo g past a → a < length g → length g ≤ length past → ⊥
too_long g past a free p l h =
    let k : length (a ∷ past) ≤ length g = length-le_from_distinct_below (a ∷ past) (length g) (IsDistinct-cons nat_eq a past (unlike a past (new-there g past a free p l)) p.apart) (λ q h. elim (either (nat_eq q a) (has q past) h) [ inl e ↦ subst (λ (z : ℕ). z < length g) (sym ((Decides-eqb q a).0 e)) l | inr k ↦ p.within q k ]) in
    absurd (omega (arith, h, k))

-- nothing stands a second time: no depth finds a name
pub none_in : (n : ℕ) (t : Table) (seen : List (List ℕ)) (a : ℕ) → (ClashesAfter t seen a → ⊥) → again_in n t seen a ≡ None
none_in zero t seen a h = refl
none_in (suc n) t seen a h =
    here (again seen (names_of t.names a)) refl (firsts (row_of t.branches a) (λ b r. none_in n t (seen ++ names_of t.names a) b (λ c. h (above b r c))))
  where
    above : (b : ℕ) → Refers t.branches a b → ClashesAfter t (seen ++ names_of t.names a) b → ClashesAfter t seen a
    above b r c = record { names = names_of t.names a ++ c.names; name = c.name; along = takes r c.along; twice = subst (λ (l : List (List ℕ)). 2 ≤ times c.name l) (append_assoc seen (names_of t.names a) c.names) c.twice }

    firsts : (xs : List ℕ) → ((b : ℕ) → has b xs ≡ true → again_in n t (seen ++ names_of t.names a) b ≡ None) → first_some (again_in n t (seen ++ names_of t.names a)) xs ≡ None
    firsts [] k = refl
    firsts (x ∷ xs) k = rw (k x (left (nat_eq x x) (has x xs) ((Decides-eqb x x).1 refl))) (firsts xs (λ b r. k b (right (nat_eq b x) (has b xs) r)))

    here : (o : Option (List ℕ)) → again seen (names_of t.names a) ≡ o → first_some (again_in n t (seen ++ names_of t.names a)) (row_of t.branches a) ≡ None → option_or o (first_some (again_in n t (seen ++ names_of t.names a)) (row_of t.branches a)) ≡ None
    here None e k = k
    here (Some x) e k = absurd (h (record { names = names_of t.names a; name = x; along = stays a; twice = again-some seen (names_of t.names a) x e }))

firsts-of : {B : Type 0} (f : ℕ → Option B) (before after : List ℕ) (b : ℕ) (x : B) → ((c : ℕ) → has c before ≡ true → f c ≡ None) → f b ≡ Some x → first_some f (before ++ b ∷ after) ≡ Some x
firsts-of f [] after b x none h = rw h refl
firsts-of f (y ∷ before) after b x none h = rw (none y (left (nat_eq y y) (has y before) ((Decides-eqb y y).1 refl))) (firsts-of f before after b x (λ c r. none c (right (nat_eq c y) (has c before) r)) h)

-- a name of a type's own is found first
pub found_here : (n : ℕ) (t : Table) (seen : List (List ℕ)) (a : ℕ) (x : List ℕ) → again seen (names_of t.names a) ≡ Some x → again_in (suc n) t seen a ≡ Some x
found_here n t seen a x e = rw e refl

-- then what the first clashing branch finds
pub found_below : (n : ℕ) (t : Table) (seen : List (List ℕ)) (a b : ℕ) (before after : List ℕ) (x : List ℕ) → again seen (names_of t.names a) ≡ None → row_of t.branches a ≡ before ++ b ∷ after → ((c : ℕ) → has c before ≡ true → ClashesAfter t (seen ++ names_of t.names a) c → ⊥) → again_in n t (seen ++ names_of t.names a) b ≡ Some x → again_in (suc n) t seen a ≡ Some x
found_below n t seen a b before after x e split none go =
    ap (λ (o : Option (List ℕ)). option_or o (first_some (again_in n t (seen ++ names_of t.names a)) (row_of t.branches a))) e
    ∙ ap (first_some (again_in n t (seen ++ names_of t.names a))) split
    ∙ firsts-of (again_in n t (seen ++ names_of t.names a)) before after b x (λ c k. none_in n t (seen ++ names_of t.names a) c (none c k)) go

-- a type that doesn't clash has no name at fault
pub none_of : (t : Table) (a : ℕ) → (ClashesAfter t [] a → ⊥) → clash_of t a ≡ None
unfolding clash_of
none_of t a h = none_in (length t.branches) t [] a h

-- nor has what is no type
pub none_past : (table : List Kind) (a : ℕ) → length table ≤ a → clash_of (choices_of table) a ≡ None
none_past table a l = none_of (choices_of table) a (λ c. by_along c.name c.along c.twice)
  where
    no_names : names_of (map member_names table) a ≡ []
    no_names = get_or_past (map member_names table) a [] (let n : length (map member_names table) ≡ length table = length-map table member_names in omega (arith, n, l))

    no_row : row_of (map branch_types table) a ≡ []
    no_row = get_or_past (map branch_types table) a [] (let n : length (map branch_types table) ≡ length table = length-map table branch_types in omega (arith, n, l))

    by_along : (x : List ℕ) {ns : List (List ℕ)} → Along (choices_of table) a ns → 2 ≤ times x ns → ⊥
    by_along x (stays b) h = (let k : 2 ≤ times x [] = subst (λ (l : List (List ℕ)). 2 ≤ times x l) no_names h in absurd (omega (arith, k)))
    by_along x (takes {b = b} r m) h = (let k : has b [] ≡ true = subst (λ (l : List ℕ). has b l ≡ true) no_row r in cc)
