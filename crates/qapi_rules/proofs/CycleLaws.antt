-- A cycle is found exactly where there is one, and what is let through is on none.
use Rattle.std.proofs.Common.{◌≡◌, ◌<◌, ◌≤◌, ◌+◌, ◌||◌, ◌⊎◌, ℕ, zero, suc, nat_eq, nat_lt, Bool, true, false, cond, List, [], ◌∷◌, ◌++◌, map, length, get_or, Option, Some, None, Decides, All, refl, sym, ap, ◌∙◌, subst, inl, inr, arith, length-append, append_assoc, take}
use Rattle.std.specs.{List.list_any, List.IsDistinct, List.AllByRecursion, List.filter_map, List.position_or_len, List.cons_option, Option.option_or, Str.bytes_eq}
use Rattle.std.proofs.lemmas.List.{get_or_past, length-map, map_more, Elements.filter_map-append, Elements.All-cons, Elements.All-map}
use Rattle.std.proofs.lemmas.{Bool.cases_lt, Bool.ltb-true, Bool.Decides.Decides-eqb, Map.Keys.IsDistinct-cons, Map.Steps.length-le_from_distinct_below}
use Rattle.qapi_define.specs.declared.definition.{Definition.Definition, Variant.Variant}
use Rattle.qapi_types.specs.{Chains.has, Chains.row_of, Chains.Refers, Chains.Leads, Chains.by_one, Chains.and_one, Chains.IsInside, Chains.NoneOnCycle, Lookups.place_of}
use Rattle.qapi_types.proofs.{ChainLaws.either, ChainLaws.left, ChainLaws.right, ChoiceLaws.leads-first}
use Rattle.qapi_rules.specs.declared.fault.CheckFault.{CheckFault}
use Rattle.qapi_rules.specs.declared.fault.CheckRule.TheVariants.{BaseCycle}
use Rattle.qapi_rules.specs.{Blames.over, Meanings.names_of, References.judged}
use Rattle.qapi_rules.specs.Cycles.{leads_in, is_on_cycle, cycle_fault, cycles_pass, places_of, referred, references_of, reference_graph}

-- a number of which the test holds
pub any-some : (p : ℕ → Bool) (xs : List ℕ) → list_any p xs ≡ true → (c : ℕ) × (has c xs ≡ true) × (p c ≡ true)
any-some p [] h = cc
any-some p (x ∷ xs) h = by_case (any-some p xs) (p x) refl h
  where
    by_case : (list_any p xs ≡ true → (c : ℕ) × (has c xs ≡ true) × (p c ≡ true)) → (b : Bool) → p x ≡ b → (b || list_any p xs) ≡ true → (c : ℕ) × (has c (x ∷ xs) ≡ true) × (p c ≡ true)
    by_case go true e h = (x, left _ _ ((Decides-eqb x x).1 refl), e)
    by_case go false e h = let k : (c : ℕ) × (has c xs ≡ true) × (p c ≡ true) = go h in (k.0, right _ _ k.1, k.2)

pub any-of : (p : ℕ → Bool) (xs : List ℕ) (c : ℕ) → has c xs ≡ true → p c ≡ true → list_any p xs ≡ true
any-of p [] c h k = cc
any-of p (x ∷ xs) c h k = elim (either (nat_eq c x) (has c xs) h) [ inl e ↦ left (p x) (list_any p xs) (subst (λ (z : ℕ). p z ≡ true) ((Decides-eqb c x).0 e) k) | inr r ↦ right (p x) (list_any p xs) (any-of p xs c r k) ]

leads_in-leads : (n : ℕ) (g : List (List ℕ)) (a b : ℕ) → leads_in n g a b ≡ true → Leads g a b
leads_in-leads zero g a b h = cc
leads_in-leads (suc n) g a b h =
    let k : (c : ℕ) × (has c (row_of g a) ≡ true) × ((nat_eq b c || leads_in n g c b) ≡ true) = any-some (λ c. nat_eq b c || leads_in n g c b) (row_of g a) h in
    elim (either (nat_eq b k.0) (leads_in n g k.0 b) k.2) [
      | inl e ↦ by_one (subst (λ (z : ℕ). has z (row_of g a) ≡ true) (sym ((Decides-eqb b k.0).0 e)) k.1)
      | inr r ↦ leads-first g a k.0 b k.1 (leads_in-leads n g k.0 b r)
    ]

-- a chain through none of some things
data Walk (g : List (List ℕ)) (past : List ℕ) : ℕ → ℕ → Type 0 where
  last : {a b : ℕ} → has a past ≡ false → Refers g a b → Walk g past a b
  onward : {a b c : ℕ} → has a past ≡ false → Refers g a c → Walk g past c b → Walk g past a b

longer : (g : List (List ℕ)) (a b c : ℕ) → Walk g [] a b → Refers g b c → Walk g [] a c
longer g a b c (last f r) s = onward f r (last refl s)
longer g a b c (onward f r w) s = onward f r (longer g _ b c w s)

walked : (g : List (List ℕ)) (a b : ℕ) → Leads g a b → Walk g [] a b
walked g a b (by_one r) = last refl r
walked g a b (and_one {b = c} l r) = longer g a c b (walked g a c l) r

-- the rest of a walk after it was last at a thing
data After (g : List (List ℕ)) (past : List ℕ) (a b : ℕ) : Type 0 where
  ends : Refers g a b → After g past a b
  goes : (c : ℕ) → Refers g a c → Walk g (a ∷ past) c b → After g past a b

neither : (x y : Bool) → x ≡ false → y ≡ false → (x || y) ≡ false
neither true y h k = cc
neither false y h k = k

leave : (g : List (List ℕ)) (past : List ℕ) (a c b : ℕ) → Walk g past c b → Walk g (a ∷ past) c b ⊎ After g past a b
leave g past a c b (last f r) = by_case (nat_eq c a) refl
  where
    by_case : (t : Bool) → nat_eq c a ≡ t → Walk g (a ∷ past) c b ⊎ After g past a b
    by_case true e = inr (ends (subst (λ (z : ℕ). has b (row_of g z) ≡ true) ((Decides-eqb c a).0 e) r))
    by_case false e = inl (last (neither _ _ e f) r)
leave g past a c b (onward {c = d} f r w) = by_case (leave g past a d b w) (nat_eq c a) refl
  where
    by_case : Walk g (a ∷ past) d b ⊎ After g past a b → (t : Bool) → nat_eq c a ≡ t → Walk g (a ∷ past) c b ⊎ After g past a b
    by_case (inr k) t e = inr k
    by_case (inl v) true e = inr (goes d (subst (λ (z : ℕ). has d (row_of g z) ≡ true) ((Decides-eqb c a).0 e) r) v)
    by_case (inl v) false e = inl (onward (neither _ _ e f) r v)

unlike : (a : ℕ) (xs : List ℕ) → has a xs ≡ false → AllByRecursion (λ y. nat_eq a y ≡ false) xs
unlike a [] h = tt
unlike a (x ∷ xs) h = by_case (unlike a xs) (nat_eq a x) refl h
  where
    by_case : (has a xs ≡ false → AllByRecursion (λ y. nat_eq a y ≡ false) xs) → (t : Bool) → nat_eq a x ≡ t → (t || has a xs) ≡ false → (nat_eq a x ≡ false) × AllByRecursion (λ y. nat_eq a y ≡ false) xs
    by_case go true e h = cc
    by_case go false e h = (e, go h)

-- things without a repeat
pub record IsTrail (g : List (List ℕ)) (past : List ℕ) : Type 0 where
  pub apart : IsDistinct nat_eq past
  pub within : (q : ℕ) → has q past ≡ true → q < length g

one-further : (g : List (List ℕ)) (past : List ℕ) (a : ℕ) → IsTrail g past → has a past ≡ false → a < length g → IsTrail g (a ∷ past)
one-further g past a t f l = record {
  apart = IsDistinct-cons nat_eq a past (unlike a past f) t.apart;
  within = λ q h. elim (either (nat_eq q a) (has q past) h) [ inl e ↦ subst (λ (z : ℕ). z < length g) (sym ((Decides-eqb q a).0 e)) l | inr r ↦ t.within q r ];
}

-- there is no trail of more things than there are
pub too-long : (g : List (List ℕ)) (past : List ℕ) (a : ℕ) → IsTrail g past → has a past ≡ false → a < length g → length g ≤ length past → ⊥
too-long g past a t f l h =
    let u : IsTrail g (a ∷ past) = one-further g past a t f l in
    let k : length (a ∷ past) ≤ length g = length-le_from_distinct_below (a ∷ past) (length g) u.apart u.within in
    absurd (omega (arith, h, k))

starts : {g : List (List ℕ)} {past : List ℕ} {a b : ℕ} → Walk g past a b → (has a past ≡ false) × ((c : ℕ) × Refers g a c)
starts {b = b} (last f r) = (f, (b, r))
starts (onward {c = c} f r w) = (f, (c, r))

refers-within : (g : List (List ℕ)) (a b : ℕ) → Refers g a b → a < length g
refers-within g a b r = elim (cases_lt a (length g)) [
  | inl l ↦ l
  | inr l ↦ (let past : row_of g a ≡ [] = get_or_past g a [] l in let k : has b [] ≡ true = subst (λ (x : List ℕ). has b x ≡ true) past r in cc)
]

complete : (n : ℕ) (g : List (List ℕ)) (past : List ℕ) (a b : ℕ) → IsTrail g past → length g ≤ length past + n → Walk g past a b → leads_in n g a b ≡ true
complete zero g past a b t h w = let s = starts w in absurd (too-long g past a t s.0 (refers-within g a s.1.0 s.1.1) (omega arith))
complete (suc n) g past a b t h w = by_leave (leave g past a a b w)
    (λ (c : ℕ) (v : Walk g (a ∷ past) c b). complete n g (a ∷ past) c b (one-further g past a t (starts w).0 (refers-within g a (starts w).1.0 (starts w).1.1)) (omega arith) v)
  where
    by_leave : Walk g (a ∷ past) a b ⊎ After g past a b → ((c : ℕ) → Walk g (a ∷ past) c b → leads_in n g c b ≡ true) → leads_in (suc n) g a b ≡ true
    by_leave (inl v) go = (let f : (nat_eq a a || has a past) ≡ false = (starts v).0 in let e : (nat_eq a a || has a past) ≡ true = left (nat_eq a a) (has a past) ((Decides-eqb a a).1 refl) in cc)
    by_leave (inr (ends r)) go = any-of (λ c. nat_eq b c || leads_in n g c b) (row_of g a) b r (left (nat_eq b b) (leads_in n g b b) ((Decides-eqb b b).1 refl))
    by_leave (inr (goes c r v)) go = any-of (λ d. nat_eq b d || leads_in n g d b) (row_of g a) c r (right (nat_eq b c) (leads_in n g c b) (go c v))

-- a thing is on a cycle exactly where a chain leads from it to itself
pub on_cycle-decides : (g : List (List ℕ)) (a : ℕ) → Decides (is_on_cycle g a) (Leads g a a)
unfolding is_on_cycle IsDistinct
on_cycle-decides g a = (leads_in-leads (length g) g a a, λ l. complete (length g) g [] a a (record { apart = tt; within = λ q h. cc }) (omega arith) (walked g a a l))

-- one more of the names
pub types_more : (defs : List Definition) (vs : List Variant) (i : ℕ) (v d : Variant) (base mid new : List ℕ) → i < length vs → v ≡ get_or vs i d → mid ≡ base ++ places_of defs (map (λ (v : Variant). v.of.name) (take i vs)) → new ≡ mid ++ places_of defs (v.of.name ∷ []) → new ≡ base ++ places_of defs (map (λ (v : Variant). v.of.name) (take (i + 1) vs))
types_more defs vs i v d base mid new l at m e =
    e ∙ ap (λ (r : List ℕ). r ++ places_of defs (v.of.name ∷ [])) m
    ∙ append_assoc base (places_of defs (map (λ (v : Variant). v.of.name) (take i vs))) (places_of defs (v.of.name ∷ []))
    ∙ ap (λ (r : List ℕ). base ++ r) (sym (filter_map-append (place_of (names_of defs)) (map (λ (v : Variant). v.of.name) (take i vs)) (v.of.name ∷ [])))
    ∙ ap (λ (u : Variant). base ++ places_of defs (map (λ (v : Variant). v.of.name) (take i vs) ++ u.of.name ∷ [])) at
    ∙ ap (λ (ns : List (List ℕ)). base ++ places_of defs ns) (sym (map_more (λ (v : Variant). v.of.name) vs i d l))

-- the places of two lists of names in a row
pub joined : (defs : List Definition) (xs ys : List (List ℕ)) (none mid row : List ℕ) → none ≡ [] → mid ≡ none ++ places_of defs xs → row ≡ mid ++ places_of defs ys → row ≡ places_of defs (xs ++ ys)
joined defs xs ys none mid row z m e =
    e ∙ ap (λ (r : List ℕ). r ++ places_of defs ys) (m ∙ ap (λ (r : List ℕ). r ++ places_of defs xs) z)
    ∙ sym (filter_map-append (place_of (names_of defs)) xs ys)

-- a name has a place among the names
place-within : (names : List (List ℕ)) (name : List ℕ) (b : ℕ) → place_of names name ≡ Some b → b < length names
place-within names name b h = by_case (nat_lt (position_or_len (bytes_eq name) names) (length names)) refl h
  where
    by_case : (t : Bool) → nat_lt (position_or_len (bytes_eq name) names) (length names) ≡ t → cond t (Some (position_or_len (bytes_eq name) names)) None ≡ Some b → b < length names
    by_case true e h = (let k : position_or_len (bytes_eq name) names ≡ b = cc in subst (λ (n : ℕ). n < length names) k (ltb-true _ _ e))
    by_case false e h = cc

-- each place is one of the names
places-within : (names references : List (List ℕ)) → All (λ b. b < length names) (filter_map (place_of names) references)
places-within names [] = λ k d l. absurd (omega arith)
places-within names (name ∷ references) = by_case (places-within names references) (place_of names name) refl
  where
    by_case : All (λ b. b < length names) (filter_map (place_of names) references) → (o : Option ℕ) → place_of names name ≡ o → All (λ b. b < length names) (cons_option o (filter_map (place_of names) references))
    by_case go None e = go
    by_case go (Some b) e = All-cons (λ b. b < length names) b (filter_map (place_of names) references) (place-within names name b e) go

-- the graph refers to nothing else
pub graph_inside : (defs : List Definition) (graph : List (List ℕ)) → graph ≡ reference_graph defs → IsInside graph
graph_inside defs graph e = subst IsInside (sym e) (All-map (λ row. All (λ b. b < length (reference_graph defs)) row) (references_of defs) defs (λ k d l. subst (λ (n : ℕ). All (λ b. b < n) (references_of defs (get_or defs k d))) (length-map defs (λ (d : Definition). d.name) ∙ sym (length-map defs (references_of defs))) (places-within (names_of defs) (referred (get_or defs k d)))))

pub graph_long : (defs : List Definition) (graph : List (List ℕ)) → graph ≡ reference_graph defs → length graph ≡ length defs
graph_long defs graph e = ap length e ∙ length-map defs (references_of defs)

first-none : {A : Type 0} (o p : Option A) → option_or o p ≡ None → o ≡ None
first-none None p h = refl
first-none (Some x) p h = cc

then-none : {A : Type 0} (o p : Option A) → option_or o p ≡ None → p ≡ None
then-none None p h = h
then-none (Some x) p h = cc

not-there : (g : List (List ℕ)) (before : List Definition) (d : Definition) → cycle_fault g before d ≡ None → Leads g (length before) (length before) → ⊥
not-there g before d h l = by_case (is_on_cycle g (length before)) ((on_cycle-decides g (length before)).1 l) h
  where
    by_case : (b : Bool) → b ≡ true → judged BaseCycle d (cond b (Some d.name) None) ≡ None → ⊥
    by_case true e h = cc
    by_case false e h = cc

none-left : (g : List (List ℕ)) (before ds : List Definition) → over (cycle_fault g) before ds ≡ None → (a : ℕ) → length before ≤ a → a < length before + length ds → Leads g a a → ⊥
none-left g before [] h a low high l = absurd (omega arith)
none-left g before (d ∷ ds) h a low high l = elim (cases_lt (length before) a) [
  | inl k ↦ none-left g (before ++ d ∷ []) ds (then-none _ _ h) a (omega (arith, length-append before (d ∷ []))) (omega (arith, length-append before (d ∷ []))) l
  | inr k ↦ (let e : a ≡ length before = omega arith in not-there g before d (first-none _ _ h) (subst (λ (n : ℕ). Leads g n n) e l))
]

-- what the pass lets through is on no cycle
pub none_on_cycle : (defs : List Definition) → cycles_pass defs ≡ None → NoneOnCycle (reference_graph defs) (length defs)
none_on_cycle defs h = λ a l. none-left (reference_graph defs) [] defs h a (omega arith) (omega arith)

-- the pass over the graph of the definitions
pub cycle_found : (defs ds : List Definition) (g : List (List ℕ)) (found : Option CheckFault) → found ≡ over (cycle_fault g) [] ds → g ≡ reference_graph defs → ds ≡ defs → found ≡ cycles_pass defs
cycle_found defs ds g found f e d = f ∙ ap (λ (h : List (List ℕ)). over (cycle_fault h) [] ds) e ∙ ap (over (cycle_fault (reference_graph defs)) []) d
