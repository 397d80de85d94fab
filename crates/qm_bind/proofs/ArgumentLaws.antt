-- Which arguments may be given.
use Rattle.std.proofs.Common.{◌≡◌, ℕ, zero, suc, ◌+◌, ◌<◌, ◌≤◌, Bool, true, false, ◌||◌, eqb, eqb-true, eq-eqb, nat_eq, List, [], ◌∷◌, ◌++◌, map, take, length, refl, ap, sym, ◌∙◌, subst, inl, inr, ◌⊎◌, arith}
use Rattle.std.proofs.lemmas.{Bool.cases_lt, Bool.or_parts, Bool.false_from_ne_true, List.append-nil, List.append_assoc, List.get_or_past, Map.Steps.length-le_from_distinct_below}
use Rattle.std.proofs.Math.ListN.{get_or-map}
use Rattle.std.specs.List.{list_any, IsDistinct, AllByRecursion}
use Rattle.qm_base.specs.Names.{is_named}
use Rattle.qapi_types.specs.declared.kind.Kind.{Kind}
use Rattle.qapi_types.specs.declared.kind.Kind.TheVariants as kinds
use Rattle.qapi_types.specs.declared.parts.ArgType.{TheVariants.Typed}
use Rattle.qapi_types.specs.Types.{kind_of, member_names, branch_types}
use Rattle.qapi_types.specs.declared.parts.Parts.{Parts}
use Rattle.qapi_types.specs.Goodness.{IsGood}
use Rattle.std.specs.Prelude.{◌↔◌}
use Rattle.qapi_types.specs.Chains.{has, row_of, Refers, Leads, by_one, and_one, NoneOnCycle, IsReachedFrom, marked}
use Rattle.qapi_types.proofs.ChainLaws.{either, left, right}
use Rattle.qm_bind.specs.declared.arguments.Arguments.{TheVariants.Of}
use Rattle.qm_bind.specs.Arguments.{MayHave, own, of_branch, may_have, may_have_within}
use Rattle.qm_bind.specs.Walks.{AreAlong, Takes, marked_from, where_marked}

row-is : (table : List Kind) (t : ℕ) → row_of (map branch_types table) t ≡ branch_types (kind_of table t)
row-is table t = get_or-map branch_types table t kinds.Null

-- where one of some numbers passes
record Passes (p : ℕ → Bool) (numbers : List ℕ) : Type 0 where
  pub number : ℕ
  pub there : has number numbers ≡ true
  pub passes : p number ≡ true

passing : (p : ℕ → Bool) (numbers : List ℕ) → list_any p numbers ≡ true → Passes p numbers
passing p [] h = absurd cc
passing p (n ∷ numbers) h = elim (either (p n) (list_any p numbers) h) [
  | inl q ↦ record { number = n; there = left (nat_eq n n) (has n numbers) (eq-eqb n n refl); passes = q }
  | inr q ↦ (let r = passing p numbers q in record { number = r.number; there = right (nat_eq r.number n) (has r.number numbers) r.there; passes = r.passes })
]

passed : (p : ℕ → Bool) (n : ℕ) (numbers : List ℕ) → has n numbers ≡ true → p n ≡ true → list_any p numbers ≡ true
passed p n [] h q = absurd cc
passed p n (m ∷ numbers) h q = elim (either (nat_eq n m) (has n numbers) h) [
  | inl e ↦ left (p m) (list_any p numbers) (ap p (sym (eqb-true n m e)) ∙ q)
  | inr k ↦ right (p m) (list_any p numbers) (passed p n numbers k q)
]

refers : (table : List Kind) (t b : ℕ) → has b (branch_types (kind_of table t)) ≡ true → Refers (map branch_types table) t b
refers table t b h = subst (λ (row : List ℕ). has b row ≡ true) (sym (row-is table t)) h

referred : (table : List Kind) (t b : ℕ) → Refers (map branch_types table) t b → has b (branch_types (kind_of table t)) ≡ true
referred table t b h = subst (λ (row : List ℕ). has b row ≡ true) (row-is table t) h

names-at : List Kind → List ℕ → ℕ → Bool
names-at table name t = is_named (member_names (kind_of table t)) name

-- the test finds nothing else
pub have-within : (table : List Kind) (name : List ℕ) (n t : ℕ) → may_have_within table name n t ≡ true → MayHave table name t
have-within table name zero t h = absurd cc
have-within table name (suc n) t h = elim (either (is_named (member_names (kind_of table t)) name) (list_any (may_have_within table name n) (branch_types (kind_of table t))) h) [
  | inl q ↦ own q
  | inr q ↦ (let r = passing (may_have_within table name n) (branch_types (kind_of table t)) q in of_branch r.there (have-within table name n r.number r.passes))
]

-- a type that has some member or some branch is one of the table
within : (table : List Kind) (t : ℕ) (P : Kind → Type 0) → P (kind_of table t) → (P kinds.Null → ⊥) → t < length table
within table t P h never = elim (cases_lt t (length table)) [ inl l ↦ l | inr l ↦ absurd (never (subst P (get_or_past table t kinds.Null l) h)) ]

have-inside : (table : List Kind) (name : List ℕ) (t : ℕ) → MayHave table name t → t < length table
have-inside table name t (own h) = within table t (λ (kind : Kind). is_named (member_names kind) name ≡ true) h (λ h. cc)
have-inside table name t (of_branch {b = b} h m) = within table t (λ (kind : Kind). has b (branch_types kind) ≡ true) h (λ h. cc)

-- types on the way to one, which are so many fewer than all
record Walked (table : List Kind) (seen : List ℕ) (t k : ℕ) : Type 0 where
  pub distinct : IsDistinct eqb seen
  pub below : (q : ℕ) → list_any (eqb q) seen ≡ true → q < length table
  pub leads : (q : ℕ) → list_any (eqb q) seen ≡ true → Leads (map branch_types table) q t
  pub room : length seen + k ≡ length table

none-equal : (t : ℕ) (seen : List ℕ) → list_any (eqb t) seen ≡ false → AllByRecursion (λ y. eqb t y ≡ false) seen
none-equal t [] h = tt
none-equal t (y ∷ seen) h = let parts = or_parts (eqb t y) (list_any (eqb t) seen) h in (parts.0, none-equal t seen parts.1)

module _ (table : List Kind) (cycles : NoneOnCycle (map branch_types table) (length table)) where
  distinct-more : (seen : List ℕ) (t k : ℕ) → Walked table seen t k → t < length table → IsDistinct eqb (t ∷ seen)
  unfolding IsDistinct
  distinct-more seen t k w l = (none-equal t seen (false_from_ne_true (list_any (eqb t) seen) (λ h. cycles t l (w.leads t h))), w.distinct)

  below-more : (seen : List ℕ) (t k : ℕ) → Walked table seen t k → t < length table → (q : ℕ) → (eqb q t || list_any (eqb q) seen) ≡ true → q < length table
  below-more seen t k w l q h = elim (either (eqb q t) (list_any (eqb q) seen) h) [ inl e ↦ subst (λ q. q < length table) (sym (eqb-true q t e)) l | inr h ↦ w.below q h ]

  leads-more : (seen : List ℕ) (t k b : ℕ) → Walked table seen t k → Refers (map branch_types table) t b → (q : ℕ) → (eqb q t || list_any (eqb q) seen) ≡ true → Leads (map branch_types table) q b
  leads-more seen t k b w r q h = elim (either (eqb q t) (list_any (eqb q) seen) h) [ inl e ↦ by_one (subst (λ q. Refers (map branch_types table) q b) (sym (eqb-true q t e)) r) | inr h ↦ and_one (w.leads q h) r ]

  walked-on : (seen : List ℕ) (t k b : ℕ) → Walked table seen t (suc k) → t < length table → Refers (map branch_types table) t b → Walked table (t ∷ seen) b k
  walked-on seen t k b w l r = record { distinct = distinct-more seen t (suc k) w l; below = below-more seen t (suc k) w l; leads = leads-more seen t (suc k) b w r; room = (let e = w.room in omega (arith, e)) }

  walked-all : (seen : List ℕ) (t : ℕ) → Walked table seen t zero → t < length table → ⊥
  walked-all seen t w l =
      let long : length (t ∷ seen) ≤ length table = length-le_from_distinct_below (t ∷ seen) (length table) (distinct-more seen t zero w l) (below-more seen t zero w l) in
      let e = w.room in absurd (omega (arith, long, e))

  found-from : (name : List ℕ) (k : ℕ) (seen : List ℕ) (t : ℕ) → Walked table seen t k → MayHave table name t → may_have_within table name k t ≡ true
  found-from name zero seen t w m = absurd (walked-all seen t w (have-inside table name t m))
  found-from name (suc k) seen t w (own h) = left (is_named (member_names (kind_of table t)) name) (list_any (may_have_within table name k) (branch_types (kind_of table t))) h
  found-from name (suc k) seen t w (of_branch {b = b} h m) =
      let l = have-inside table name t (of_branch h m) in
      right (is_named (member_names (kind_of table t)) name) (list_any (may_have_within table name k) (branch_types (kind_of table t)))
      (passed (may_have_within table name k) b (branch_types (kind_of table t)) h (found-from name k (t ∷ seen) b (walked-on seen t k b w l (refers table t b h)) m))

  -- the test finds each member
  pub found : (name : List ℕ) (t : ℕ) → MayHave table name t → may_have table t name ≡ true
  unfolding may_have IsDistinct
  found name t m = found-from name (length table) [] t (record { distinct = tt; below = λ q h. absurd cc; leads = λ q h. absurd cc; room = omega arith }) m

-- what a type leads to may be chosen
pub have-led : (table : List Kind) (name : List ℕ) (t b : ℕ) → Leads (map branch_types table) t b → MayHave table name b → MayHave table name t
have-led table name t b (by_one r) m = of_branch (referred table t b r) m
have-led table name t b (and_one {b = c} l r) m = have-led table name t c l (of_branch (referred table c b r) m)

-- what is chosen is the type itself, or one that it leads to
record Chosen (table : List Kind) (name : List ℕ) (t : ℕ) : Type 0 where
  pub type_id : ℕ
  pub along : (type_id ≡ t) ⊎ Leads (map branch_types table) t type_id
  pub names : is_named (member_names (kind_of table type_id)) name ≡ true

leads-first : (graph : List (List ℕ)) (t b u : ℕ) → Refers graph t b → Leads graph b u → Leads graph t u
leads-first graph t b u r (by_one s) = and_one (by_one r) s
leads-first graph t b u r (and_one {b = c} l s) = and_one (leads-first graph t b c r l) s

chosen : (table : List Kind) (name : List ℕ) (t : ℕ) → MayHave table name t → Chosen table name t
chosen table name t (own h) = record { type_id = t; along = inl refl; names = h }
chosen table name t (of_branch {b = b} h m) = let c = chosen table name b m in record { type_id = c.type_id; along = inr (further c.type_id c.along); names = c.names }
  where
    further : (u : ℕ) → (u ≡ b) ⊎ Leads (map branch_types table) b u → Leads (map branch_types table) t u
    further u (inl e) = by_one (subst (λ (x : ℕ). Refers (map branch_types table) t x) (sym e) (refers table t b h))
    further u (inr l) = leads-first (map branch_types table) t b u (refers table t b h) l

truths : (a b : Bool) → (a ≡ true → b ≡ true) → (b ≡ true → a ≡ true) → a ≡ b
truths true b f g = sym (f refl)
truths false true f g = g refl
truths false false f g = refl

-- the types along a type have what may be given
pub takes-is : (table : List Kind) (graph : List (List ℕ)) (t : ℕ) (types : List ℕ) → graph ≡ map branch_types table → NoneOnCycle (map branch_types table) (length table) → AreAlong graph t types → Takes table (Typed t) (Of types)
unfolding may_have
takes-is table graph t types e cycles a = λ name. truths (list_any (λ u. is_named (member_names (kind_of table u)) name) types) (may_have table t name) (there name) (back name)
  where
    led : (u : ℕ) → (u ≡ t) ⊎ Leads graph t u → (name : List ℕ) → MayHave table name u → MayHave table name t
    led u (inl s) name m = subst (λ (x : ℕ). MayHave table name x) s m
    led u (inr l) name m = have-led table name t u (subst (λ (g : List (List ℕ)). Leads g t u) e l) m

    there : (name : List ℕ) → list_any (λ u. is_named (member_names (kind_of table u)) name) types ≡ true → may_have table t name ≡ true
    there name h = let p = passing (λ u. is_named (member_names (kind_of table u)) name) types h in found table cycles name t (led p.number (a.only p.number p.there) name (own p.passes))

    listed : (u : ℕ) → (u ≡ t) ⊎ Leads (map branch_types table) t u → has u types ≡ true
    listed u (inl s) = subst (λ (x : ℕ). has x types ≡ true) (sym s) a.own
    listed u (inr l) = a.all u (subst (λ (g : List (List ℕ)). Leads g t u) (sym e) l)

    back : (name : List ℕ) → may_have table t name ≡ true → list_any (λ u. is_named (member_names (kind_of table u)) name) types ≡ true
    back name h = let c = chosen table name t (have-within table name (length table) t h) in passed (λ u. is_named (member_names (kind_of table u)) name) c.type_id types (listed c.type_id c.along) c.names

-- numbers that are marked
marked-there : (b n : ℕ) (marks : List Bool) → has b (marked_from n marks) ≡ true → (k : ℕ) × (b ≡ n + k) × (marked marks k ≡ true)
marked-there b n [] h = absurd cc
marked-there b n (true ∷ marks) h = elim (either (nat_eq b n) (has b (marked_from (n + 1) marks)) h) [
  | inl e ↦ (let s : b ≡ n = eqb-true b n e in (0, omega (arith, s), refl))
  | inr r ↦ (let m = marked-there b (n + 1) marks r in let e : b ≡ n + 1 + m.0 = m.1 in (suc m.0, omega (arith, e), m.2))
]
marked-there b n (false ∷ marks) h = let m = marked-there b (n + 1) marks h in let e : b ≡ n + 1 + m.0 = m.1 in (suc m.0, omega (arith, e), m.2)

there-marked : (b k n : ℕ) (marks : List Bool) → b ≡ n + k → marked marks k ≡ true → has b (marked_from n marks) ≡ true
there-marked b k n [] e h = absurd cc
there-marked b zero n (true ∷ marks) e h = left (nat_eq b n) (has b (marked_from (n + 1) marks)) (eq-eqb b n (omega (arith, e)))
there-marked b (suc k) n (true ∷ marks) e h = right (nat_eq b n) (has b (marked_from (n + 1) marks)) (there-marked b k (n + 1) marks (omega (arith, e)) h)
there-marked b zero n (false ∷ marks) e h = absurd cc
there-marked b (suc k) n (false ∷ marks) e h = there-marked b k (n + 1) marks (omega (arith, e)) h

-- a type, and after it those that are marked
pub along-marked : (graph : List (List ℕ)) (t : ℕ) (marks : List Bool) (single all : List ℕ) → IsReachedFrom graph t marks → single ≡ t ∷ [] → all ≡ single ++ marked_from 0 marks → AreAlong graph t all
along-marked graph t marks single all r o e =
    subst (λ (l : List ℕ). AreAlong graph t l) (sym (e ∙ ap (λ (l : List ℕ). l ++ marked_from 0 marks) o)) (record {
      own = left (nat_eq t t) (has t (marked_from 0 marks)) (eq-eqb t t refl);
      all = λ b l. right (nat_eq b t) (has b (marked_from 0 marks)) (there-marked b b 0 marks (omega arith) (r.all b l));
      only = λ b h. elim (either (nat_eq b t) (has b (marked_from 0 marks)) h) [
        | inl q ↦ inl (eqb-true b t q)
        | inr q ↦ (let m = marked-there b 0 marks q in let s : b ≡ 0 + m.0 = m.1 in let k : m.0 ≡ b = omega (arith, s) in inr (r.leads b (subst (λ (x : ℕ). marked marks x ≡ true) k m.2)))
      ];
    })

-- the test is what it is said to be
pub may_have_is : (p : Parts) (t : ℕ) (name : List ℕ) → IsGood p → (may_have p.kinds t name ≡ true) ↔ MayHave p.kinds name t
unfolding may_have
may_have_is p t name g = (have-within p.kinds name (length p.kinds) t, found p.kinds g.cycles name t)

marked-on : (n i : ℕ) (marks : List Bool) → i < length marks → marked_from n (take (suc i) marks) ≡ marked_from n (take i marks) ++ where_marked (n + i) (marked marks i)
marked-on n i [] l = absurd (omega arith)
marked-on n zero (mark ∷ marks) l = append-nil (where_marked n mark) ∙ ap (λ (k : ℕ). where_marked k mark) (let e : n ≡ n + 0 = omega arith in e)
marked-on n (suc i) (mark ∷ marks) l =
    ap (λ (xs : List ℕ). where_marked n mark ++ xs) (marked-on (n + 1) i marks (omega (arith, l)) ∙ ap (λ (k : ℕ). marked_from (n + 1) (take i marks) ++ where_marked k (marked marks i)) (let e : n + 1 + i ≡ n + suc i = omega arith in e))
    ∙ sym (append_assoc (where_marked n mark) (marked_from (n + 1) (take i marks)) (where_marked (n + suc i) (marked marks i)))

-- the numbers of one more mark
pub marked-more : (types more front : List ℕ) (i : ℕ) (marks : List Bool) (mark : Bool) → i < length marks → mark ≡ marked marks i → types ≡ front ++ marked_from 0 (take i marks) → more ≡ types ++ where_marked i mark → more ≡ front ++ marked_from 0 (take (i + 1) marks)
marked-more types more front i marks mark l m t e =
    e ∙ ap (λ (xs : List ℕ). xs ++ where_marked i mark) t ∙ append_assoc front (marked_from 0 (take i marks)) (where_marked i mark)
    ∙ ap (λ (b : Bool). front ++ (marked_from 0 (take i marks) ++ where_marked i b)) m
    ∙ ap (λ (k : ℕ). front ++ (marked_from 0 (take i marks) ++ where_marked k (marked marks i))) (let z : i ≡ 0 + i = omega arith in z)
    ∙ ap (λ (xs : List ℕ). front ++ xs) (sym (marked-on 0 i marks l))
    ∙ ap (λ (k : ℕ). front ++ marked_from 0 (take k marks)) (let z : suc i ≡ i + 1 = omega arith in z)
