-- Types along the branches that given members choose, and the members of those types.
use Rattle.std.proofs.Common.{◌≡◌, ℕ, zero, suc, ◌+◌, ◌<◌, ◌≤◌, true, false, cond, ◌||◌, ◌==◌, eqb, eqb-true, eq-eqb, nat_eq, List, [], ◌∷◌, ◌++◌, map, length, refl, ap, sym, ◌∙◌, subst, inl, inr, arith, Option, Some, None, option_map, option_and_then, find, bytes_eq}
use Rattle.std.proofs.Math.ListN.{get_or-map, length-map}
use Rattle.std.proofs.lemmas.{Bool.cases_lt, Bool.or_parts, Bool.false_from_ne_true, List.get_or_past, Map.Steps.length-le_from_distinct_below, Slice.Eq.bytes_eq-Decides}
use Rattle.std.specs.List.{list_any, IsDistinct, AllByRecursion}
use Rattle.qm_json.specs.declared.value.Member.{Member}
use Rattle.qapi_types.specs.declared.kind.{Branch.Branch, Kind.Kind, MemberDef.MemberDef, ValueDef.ValueDef}
use Rattle.qapi_types.specs.declared.kind.Kind.TheVariants as kinds
use Rattle.qapi_types.specs.Types.{kind_of, members_of, member_names, branches_of, branch_types, tag_member, tag_values}
use Rattle.qapi_types.specs.Chains.{has, row_of, Refers, Leads, by_one, and_one, NoneOnCycle}
use Rattle.qapi_types.specs.Choices.{times, names_of, Along, stays, takes, AllApart}
use Rattle.qapi_types.specs.Goodness.{choices_of as choices_table}
use Rattle.qapi_types.proofs.ChainLaws.{either}
use Rattle.qapi_types.proofs.ChoiceLaws.{times-append, times-stands}
use Rattle.qm_admit.specs.Tags.{Case, Tag, tag_of, branch_at, branch_for, cases_from}
use Rattle.qm_admit.specs.Fitting.{Among, IsMember, own, of_branch, chosen, text_in}
use Rattle.qm_admit.specs.Misfits.{choices_from}
use Rattle.qm_admit.specs.Walks.{inners, chosen_types}
use Rattle.qm_admit.proofs.{Layers.chosen-in, Steps.no-choice}
use Rattle.qm_admit.proofs.Lists.{among-map, any-among, found-among, named-among}

row-is : (table : List Kind) (t : ℕ) → row_of (map branch_types table) t ≡ branch_types (kind_of table t)
row-is table t = get_or-map branch_types table t kinds.Null

names-are : (table : List Kind) (t : ℕ) → names_of (map member_names table) t ≡ member_names (kind_of table t)
names-are table t = get_or-map member_names table t kinds.Null

-- a type of which something is told that isn't told of null is one of the table
pub within : (table : List Kind) (t : ℕ) (P : Kind → Type 0) → P (kind_of table t) → (P kinds.Null → ⊥) → t < length table
within table t P h never = elim (cases_lt t (length table)) [ inl l ↦ l | inr l ↦ absurd (never (subst P (get_or_past table t kinds.Null l) h)) ]

found-branch : (p b : ℕ) (branches : List Branch) → branch_at branches p ≡ Some b → has b (map (λ (x : Branch). x.type_id) branches) ≡ true
found-branch p b branches h = by_found (find (λ (x : Branch). x.value == p) branches) refl h
  where
    by_found : (o : Option Branch) → find (λ (x : Branch). x.value == p) branches ≡ o → option_map (λ (x : Branch). x.type_id) o ≡ Some b → has b (map (λ (x : Branch). x.type_id) branches) ≡ true
    by_found None e h = absurd cc
    by_found (Some x) e h = let k : x.type_id ≡ b = cc in
        any-among (nat_eq b) x.type_id (map (λ (x : Branch). x.type_id) branches) (among-map (λ (x : Branch). x.type_id) x branches (found-among _ x branches e)) (eq-eqb b x.type_id (sym k))

case-branch : (branches : List Branch) (p b : ℕ) (values : List ValueDef) (c : Case) → Among c (cases_from branches p values) → c.branch ≡ Some b → has b (map (λ (x : Branch). x.type_id) branches) ≡ true
case-branch branches p b [] c a h = absurd a
case-branch branches p b (v ∷ values) c (inl e) h = found-branch p b branches (ap (λ (c : Case). c.branch) e ∙ h)
case-branch branches p b (v ∷ values) c (inr a) h = case-branch branches (p + 1) b values c a h

chosen-has : (text_of : List ℕ → Option (List ℕ)) (table : List Kind) (kind : Kind) (b : ℕ) → option_and_then (λ (tag : Tag). option_and_then (λ text. branch_for text tag) (text_of tag.name)) (tag_of table kind) ≡ Some b →
    has b (branch_types kind) ≡ true
chosen-has text_of table kind b h = by_tag (tag_member kind) h
  where
    cases : List Case
    cases = cases_from (branches_of kind) 0 (tag_values table kind)

    by_case : (text : List ℕ) (o : Option Case) → find (λ (c : Case). bytes_eq c.name text) cases ≡ o → option_and_then (λ (c : Case). c.branch) o ≡ Some b → has b (branch_types kind) ≡ true
    by_case text None e h = absurd cc
    by_case text (Some c) e h = case-branch (branches_of kind) 0 b (tag_values table kind) c (found-among _ c cases e) h

    by_text : (m : MemberDef) (o : Option (List ℕ)) → option_and_then (λ text. branch_for text (record { name = m.name; cases = cases })) o ≡ Some b → has b (branch_types kind) ≡ true
    by_text m None h = absurd cc
    by_text m (Some text) h = by_case text (find (λ (c : Case). bytes_eq c.name text) cases) refl h

    by_tag : (o : Option MemberDef) → option_and_then (λ (tag : Tag). option_and_then (λ text. branch_for text tag) (text_of tag.name)) (option_map (λ (m : MemberDef). record { name = m.name; cases = cases }) o) ≡ Some b → has b (branch_types kind) ≡ true
    by_tag None h = absurd cc
    by_tag (Some m) h = by_text m (text_of m.name) h

chosen-branch : (table : List Kind) (given : List Member) (t b : ℕ) → chosen table given t ≡ Some b → has b (branch_types (kind_of table t)) ≡ true
chosen-branch table given t b h = chosen-has (text_in given) table (kind_of table t) b h

chosen-refers : (table : List Kind) (given : List Member) (t b : ℕ) → chosen table given t ≡ Some b → Refers (map branch_types table) t b
chosen-refers table given t b h = subst (λ row. has b row ≡ true) (sym (row-is table t)) (chosen-branch table given t b h)

is_member-within : {table : List Kind} {given : List Member} {t : ℕ} {m : MemberDef} → IsMember table given t m → t < length table
is_member-within {table = table} {t = t} {m = m} (own a) = within table t (λ (kind : Kind). Among m (members_of kind)) a (λ a. a)
is_member-within {table = table} {given = given} {t = t} (of_branch b c r) = within table t (λ (kind : Kind). has b (branch_types kind) ≡ true) (chosen-branch table given t b c) (λ h. cc)

-- types on the way to one, which are so many fewer than all
record Walked (table : List Kind) (seen : List ℕ) (t k : ℕ) : Type 0 where
  pub distinct : IsDistinct eqb seen
  pub below : (q : ℕ) → list_any (eqb q) seen ≡ true → q < length table
  pub leads : (q : ℕ) → list_any (eqb q) seen ≡ true → Leads (map branch_types table) q t
  pub room : length seen + k ≡ length table

none-equal : (t : ℕ) (seen : List ℕ) → list_any (eqb t) seen ≡ false → AllByRecursion (λ y. eqb t y ≡ false) seen
none-equal t [] h = tt
none-equal t (y ∷ seen) h = let parts = or_parts (eqb t y) (list_any (eqb t) seen) h in (parts.0, none-equal t seen parts.1)

module _ (table : List Kind) (cycles : NoneOnCycle (map branch_types table) (length table)) where
  distinct-more : (seen : List ℕ) (t k : ℕ) → Walked table seen t k → t < length table → IsDistinct eqb (t ∷ seen)
  unfolding IsDistinct
  distinct-more seen t k w l = (none-equal t seen (false_from_ne_true (list_any (eqb t) seen) (λ h. cycles t l (w.leads t h))), w.distinct)

  below-more : (seen : List ℕ) (t k : ℕ) → Walked table seen t k → t < length table → (q : ℕ) → (eqb q t || list_any (eqb q) seen) ≡ true → q < length table
  below-more seen t k w l q h = elim (either (eqb q t) (list_any (eqb q) seen) h) [ inl e ↦ subst (λ q. q < length table) (sym (eqb-true q t e)) l | inr h ↦ w.below q h ]

  leads-more : (seen : List ℕ) (t k b : ℕ) → Walked table seen t k → Refers (map branch_types table) t b → (q : ℕ) → (eqb q t || list_any (eqb q) seen) ≡ true → Leads (map branch_types table) q b
  leads-more seen t k b w r q h = elim (either (eqb q t) (list_any (eqb q) seen) h) [ inl e ↦ by_one (subst (λ q. Refers (map branch_types table) q b) (sym (eqb-true q t e)) r) | inr h ↦ and_one (w.leads q h) r ]

  walked-on : (seen : List ℕ) (t k b : ℕ) → Walked table seen t (suc k) → t < length table → Refers (map branch_types table) t b → Walked table (t ∷ seen) b k
  walked-on seen t k b w l r = record { distinct = distinct-more seen t (suc k) w l; below = below-more seen t (suc k) w l; leads = leads-more seen t (suc k) b w r; room = (let e = w.room in omega (arith, e)) }

  walked-all : (seen : List ℕ) (t : ℕ) → Walked table seen t zero → t < length table → ⊥
  walked-all seen t w l =
      let long : length (t ∷ seen) ≤ length table = length-le_from_distinct_below (t ∷ seen) (length table) (distinct-more seen t zero w l) (below-more seen t zero w l) in
      let e = w.room in absurd (omega (arith, long, e))

  -- a member of one of the types
  pub record OfType (types : List ℕ) (m : MemberDef) : Type 0 where
    pub type_id : ℕ
    pub among : Among type_id types
    pub member : Among m (members_of (kind_of table type_id))

  listed-from : (given : List Member) (k : ℕ) (seen : List ℕ) {t : ℕ} {m : MemberDef} → Walked table seen t k → IsMember table given t m → OfType (choices_from k table (inners table given) (Some t)) m
  listed-from given zero seen {t = t} w r = absurd (walked-all seen t w (is_member-within r))
  listed-from given (suc k) seen {t = t} w (own a) = record { type_id = t; among = inl refl; member = a }
  listed-from given (suc k) seen {t = t} {m = m} w (of_branch b c r) =
      let l : t < length table = is_member-within {given = given} {m = m} (of_branch b c r) in
      let rest = listed-from given k (t ∷ seen) (walked-on seen t k b w l (chosen-refers table given t b c)) r in
      record { type_id = rest.type_id; among = inr (subst (λ o. Among rest.type_id (choices_from k table (inners table given) o)) (sym (chosen-in table given t ∙ c)) rest.among); member = rest.member }

  -- each member, by choice of what is given, is one of a type along the branches
  pub listed : (given : List Member) {t : ℕ} {m : MemberDef} → IsMember table given t m → OfType (chosen_types table given t) m
  unfolding IsDistinct
  listed given {t = t} r = listed-from given (length table) [] (record { distinct = tt; below = λ q h. absurd cc; leads = λ q h. absurd cc; room = omega arith }) r

chosen-from : (k : ℕ) (table : List Kind) (given : List Member) (t u : ℕ) (m : MemberDef) → Among u (choices_from k table (inners table given) (Some t)) → Among m (members_of (kind_of table u)) → IsMember table given t m
chosen-from zero table given t u m a h = absurd a
chosen-from (suc k) table given t u m (inl e) h = own (subst (λ t. Among m (members_of (kind_of table t))) (sym e) h)
chosen-from (suc k) table given t u m (inr a) h =
    by_next (λ b a. chosen-from k table given b u m a h) (chosen table given t) refl (subst (λ o. Among u (choices_from k table (inners table given) o)) (chosen-in table given t) a)
  where
    by_next : ((b : ℕ) → Among u (choices_from k table (inners table given) (Some b)) → IsMember table given b m) → (o : Option ℕ) → chosen table given t ≡ o →
        Among u (choices_from k table (inners table given) o) → IsMember table given t m
    by_next go None e a = absurd (subst (λ (l : List ℕ). Among u l) (no-choice table (inners table given) k) a)
    by_next go (Some b) e a = of_branch b e (go b a)

-- and each member of a type along the branches is one by choice of what is given
pub chosen-member : (table : List Kind) (given : List Member) (t u : ℕ) (m : MemberDef) → Among u (chosen_types table given t) → Among m (members_of (kind_of table u)) → IsMember table given t m
chosen-member table given t u m a h = chosen-from (length table) table given t u m a h

-- members of one name
record IsAlong (table : List Kind) (t : ℕ) (name : List ℕ) : Type 0 where
  pub names : List (List ℕ)
  pub along : Along (choices_table table) t names
  pub stands : 1 ≤ times name names

once-own : (table : List Kind) (t : ℕ) (m : MemberDef) → Among m (members_of (kind_of table t)) → 1 ≤ times m.name (names_of (map member_names table) t)
once-own table t m a = subst (λ names. 1 ≤ times m.name names) (sym (names-are table t)) (times-stands m.name (member_names (kind_of table t)) (named-among (λ (m : MemberDef). m.name) m.name m (members_of (kind_of table t)) a refl))

is-along : {table : List Kind} {given : List Member} {t : ℕ} {m : MemberDef} → IsMember table given t m → IsAlong table t m.name
is-along {table = table} {t = t} {m = m} (own a) = record { names = names_of (map member_names table) t; along = stays t; stands = once-own table t m a }
is-along {table = table} {given = given} {t = t} {m = m} (of_branch b c r) =
    let w = is-along r in
    let n = w.stands in
    record { names = names_of (map member_names table) t ++ w.names; along = takes (chosen-refers table given t b c) w.along; stands = omega (arith, n, times-append m.name (names_of (map member_names table) t) w.names) }

once-same : (name : List ℕ) (m o : MemberDef) (ms : List MemberDef) → times name (map (λ (m : MemberDef). m.name) ms) ≤ 1 → Among m ms → Among o ms → m.name ≡ name → o.name ≡ name → m ≡ o
once-same name m o [] h a b e f = absurd a
once-same name m o (x ∷ ms) h (inl s) (inl t) e f = sym s ∙ t
once-same name m o (x ∷ ms) h (inl s) (inr b) e f =
    let k : ◌≡◌ {A = ℕ} (cond (bytes_eq name x.name) 1 0) 1 = ap {B = ℕ} (λ r. cond r 1 0) ((bytes_eq-Decides name x.name).1 (sym e ∙ ap (λ (m : MemberDef). m.name) (sym s))) in
    let l = times-stands name (map (λ (m : MemberDef). m.name) ms) (named-among (λ (m : MemberDef). m.name) name o ms b f) in absurd (omega (arith, h, k, l))
once-same name m o (x ∷ ms) h (inr a) (inl t) e f =
    let k : ◌≡◌ {A = ℕ} (cond (bytes_eq name x.name) 1 0) 1 = ap {B = ℕ} (λ r. cond r 1 0) ((bytes_eq-Decides name x.name).1 (sym f ∙ ap (λ (m : MemberDef). m.name) (sym t))) in
    let l = times-stands name (map (λ (m : MemberDef). m.name) ms) (named-among (λ (m : MemberDef). m.name) name m ms a e) in absurd (omega (arith, h, k, l))
once-same name m o (x ∷ ms) h (inr a) (inr b) e f = once-same name m o ms (omega (arith, h)) a b e f

module _ (table : List Kind) (apart : AllApart (choices_table table)) where
  apart-at : (t : ℕ) → t < length table → (names : List (List ℕ)) → Along (choices_table table) t names → (name : List ℕ) → times name names ≤ 1
  apart-at t l names a name = apart t (omega (arith, l, length-map table member_names)) names a name

  own-clash : (given : List Member) (t b : ℕ) (m o : MemberDef) → Among m (members_of (kind_of table t)) → chosen table given t ≡ Some b → IsMember table given b o → o.name ≡ m.name → ⊥
  own-clash given t b m o a c r e =
      let w = is-along r in
      let l : t < length table = is_member-within {given = given} {m = m} (own a) in
      let h = apart-at t l (names_of (map member_names table) t ++ w.names) (takes (chosen-refers table given t b c) w.along) m.name in
      let k = once-own table t m a in
      let n : 1 ≤ times m.name w.names = subst (λ name. 1 ≤ times name w.names) e w.stands in
      absurd (omega (arith, h, k, n, times-append m.name (names_of (map member_names table) t) w.names))

  pub same-member : (given : List Member) {t : ℕ} {m o : MemberDef} → IsMember table given t m → IsMember table given t o → m.name ≡ o.name → m ≡ o
  same-member given {t = t} {m = m} {o = o} (own a) (own b) e =
      let l : t < length table = is_member-within {given = given} {m = m} (own a) in
      once-same m.name m o (members_of (kind_of table t)) (subst (λ names. times m.name names ≤ 1) (names-are table t) (apart-at t l (names_of (map member_names table) t) (stays t) m.name)) a b refl (sym e)
  same-member given {t = t} {m = m} {o = o} (own a) (of_branch b c r) e = absurd (own-clash given t b m o a c r (sym e))
  same-member given {t = t} {m = m} {o = o} (of_branch b c r) (own a) e = absurd (own-clash given t b o m a c r e)
  same-member given {t = t} {m = m} {o = o} (of_branch b c r) (of_branch d f s) e =
      let h : Some d ≡ Some b = sym f ∙ c in
      let k : d ≡ b = cc in
      same-member given r (subst (λ (u : ℕ). IsMember table given u o) k s) e
