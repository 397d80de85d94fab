-- In a good table a place of a value has one type.
use Rattle.std.proofs.Common.{◌≡◌, ◌<◌, ◌≤◌, ◌+◌, ℕ, zero, suc, true, List, [], ◌∷◌, ◌++◌, map, length, refl, ap, sym, ◌∙◌, subst, inl, inr, arith, append_assoc, Option, Some, None}
use Rattle.std.specs.Prelude.{◌==◌, option_map, find, IsSome}
use Rattle.std.specs.{List.All, List.AllPairs, Option.option_and_then, Str.bytes_eq}
use Rattle.std.proofs.lemmas.{List.length-map, Slice.Eq.bytes_eq-Decides}
use Rattle.std.proofs.Math.ListN.{get_or-map}
use Rattle.qm_json.specs.declared.value.Member.{Member}
use Rattle.qapi_types.specs.declared.kind.{Branch.Branch, JsonKind.JsonKind, Kind.Kind, MemberDef.MemberDef, ObjectDef.ObjectDef, ValueDef.ValueDef}
use Rattle.qapi_types.specs.declared.kind.Kind.TheVariants as kinds
use Rattle.qapi_types.specs.Types.{kind_of, members_of, branches_of, member_names, branch_types, tag_member, tag_values, json_kind_of}
use Rattle.qapi_types.specs.{Chains.has, Chains.Refers, Choices.times, Choices.Along, Choices.stays, Choices.takes, Choices.AreApart}
use Rattle.qapi_types.specs.Goodness.{IsGood, choices_of, AreToldApart, HasApartAlternatives}
use Rattle.qapi_types.specs.declared.parts.Parts.{Parts}
use Rattle.qapi_types.proofs.{ChoiceLaws.times-append, FaultLaws.names-at}
use Rattle.qm_admit.specs.Fitting.{Among, IsMember, own, of_branch, chosen, text_in}
use Rattle.qm_admit.specs.Tags.{Case, Tag, tag_of, cases_from}
use Rattle.qapi_mask.proofs.Lists.{among-map, among-left, among-right, found-among}
use Rattle.qapi_mask.proofs.Elements.{all-index, pairs-rest, pairs-first}
use Rattle.qapi_mask.proofs.Placing.{has-among}
use Rattle.qapi_mask.proofs.Members.{cased, case_for, case-of-text, member-object}
use Rattle.qapi_mask.proofs.Places.{IsApart, IsSorted}

-- a chosen branch is one of the branches
pub record OfBranches (branches : List Branch) (t : ℕ) : Type 0 where
  pub of : Branch
  pub among : Among of branches
  pub is : of.type_id ≡ t

found-branch : (branches : List Branch) (o : Option Branch) (t : ℕ) → ((b : Branch) → o ≡ Some b → Among b branches) → option_map (λ (b : Branch). b.type_id) o ≡ Some t → OfBranches branches t
found-branch branches None t f h = absurd cc
found-branch branches (Some b) t f h = record { of = b; among = f b refl; is = (let k : b.type_id ≡ t = cc in k) }

pub case-branch : (branches : List Branch) (p : ℕ) (values : List ValueDef) (c : Case) (t : ℕ) → Among c (cases_from branches p values) → c.branch ≡ Some t → OfBranches branches t
case-branch branches p [] c t a h = absurd a
case-branch branches p (value ∷ values) c t (inl e) h =
    found-branch branches (find (λ (b : Branch). b.value == p) branches) t (λ b k. found-among (λ (b : Branch). b.value == p) b branches k) (ap (λ (c : Case). c.branch) e ∙ h)
case-branch branches p (value ∷ values) c t (inr a) h = case-branch branches (p + 1) values c t a h

record OfCases (o : Option Tag) (c : Case) : Type 0 where
  pub tag : Tag
  pub is : o ≡ Some tag
  pub among : Among c tag.cases

chosen-of : (given : List Member) (o : Option Tag) (c : Case) → option_and_then (case_for given) o ≡ Some c → OfCases o c
chosen-of given None c h = absurd cc
chosen-of given (Some tag) c h = record { tag = tag; is = refl; among = case-of-text tag (text_in given tag.name) c h }

abbrev cases_or : Option Tag → List Case
cases_or None = []
cases_or (Some tag) = tag.cases

-- the cases of a tag are made from the branches
cases-are : (table : List Kind) (kind : Kind) (o : Option MemberDef) (tag : Tag) → option_map (λ (m : MemberDef). let t : Tag = record { name = m.name; cases = cases_from (branches_of kind) 0 (tag_values table kind) } in t) o ≡ Some tag →
    cases_from (branches_of kind) 0 (tag_values table kind) ≡ tag.cases
cases-are table kind None tag h = absurd cc
cases-are table kind (Some m) tag h = ap cases_or h

module _ (table : List Kind) (given : List Member) where
  chosen-branch : (t b : ℕ) → chosen table given t ≡ Some b → OfBranches (branches_of (kind_of table t)) b
  chosen-branch t b h =
      let e = cased table given t b h in
      let k = chosen-of given (tag_of table (kind_of table t)) e.case e.is in
      case-branch (branches_of (kind_of table t)) 0 (tag_values table (kind_of table t)) e.case b
      (subst (λ (l : List Case). Among e.case l) (sym (cases-are table (kind_of table t) (tag_member (kind_of table t)) k.tag k.is)) k.among) e.brings

  chosen-refers : (t b : ℕ) → chosen table given t ≡ Some b → Refers (map branch_types table) t b
  chosen-refers t b h =
      let x = chosen-branch t b h in
      let among : Among b (branch_types (kind_of table t)) = subst (λ (u : ℕ). Among u (branch_types (kind_of table t))) x.is (among-map (λ (b : Branch). b.type_id) x.of (branches_of (kind_of table t)) x.among) in
      ap (has b) (get_or-map branch_types table t kinds.Null) ∙ has-among b (branch_types (kind_of table t)) among

-- names that stand at most once
among-times : (name : List ℕ) (names : List (List ℕ)) → Among name names → 1 ≤ times name names
among-times name [] a = absurd a
among-times name (x ∷ names) (inl e) = let k : bytes_eq name x ≡ true = (bytes_eq-Decides name x).1 (sym e) in rw k (omega arith)
among-times name (x ∷ names) (inr a) = let h : 1 ≤ times name names = among-times name names a in omega (arith, h)

apart-split : (name : List ℕ) (xs ys : List (List ℕ)) → AreApart (xs ++ ys) → Among name xs → Among name ys → ⊥
apart-split name xs ys h a b =
    let x : 1 ≤ times name xs = among-times name xs a in
    let y : 1 ≤ times name ys = among-times name ys b in
    let s : times name (xs ++ ys) ≡ times name xs + times name ys = times-append name xs ys in
    let l : times name (xs ++ ys) ≤ 1 = h name in absurd (omega (arith, x, y, s, l))

apart-right : (xs ys : List (List ℕ)) → AreApart (xs ++ ys) → AreApart ys
apart-right xs ys h name =
    let s : times name (xs ++ ys) ≡ times name xs + times name ys = times-append name xs ys in
    let l : times name (xs ++ ys) ≤ 1 = h name in omega (arith, s, l)

own-apart : (m n : MemberDef) (ms : List MemberDef) → AreApart (map (λ (m : MemberDef). m.name) ms) → Among m ms → Among n ms → m.name ≡ n.name → m.type_id ≡ n.type_id
own-apart m n [] h a b e = absurd a
own-apart m n (x ∷ ms) h (inl p) (inl q) e = ap (λ (m : MemberDef). m.type_id) (sym p ∙ q)
own-apart m n (x ∷ ms) h (inl p) (inr b) e =
    absurd (apart-split n.name (x.name ∷ []) (map (λ (m : MemberDef). m.name) ms) h (inl (ap (λ (m : MemberDef). m.name) p ∙ e)) (among-map (λ (m : MemberDef). m.name) n ms b))
own-apart m n (x ∷ ms) h (inr a) (inl q) e =
    absurd (apart-split m.name (x.name ∷ []) (map (λ (m : MemberDef). m.name) ms) h (inl (ap (λ (m : MemberDef). m.name) q ∙ sym e)) (among-map (λ (m : MemberDef). m.name) m ms a))
own-apart m n (x ∷ ms) h (inr a) (inr b) e = own-apart m n ms (apart-right (x.name ∷ []) (map (λ (m : MemberDef). m.name) ms) h) a b e

module _ (table : List Kind) (given : List Member) where
  -- after the names that were seen, none stands twice along any choice from the type on
  abbrev AreApartFrom : ℕ → List (List ℕ) → Type 0
  AreApartFrom t seen = (names : List (List ℕ)) → Along (choices_of table) t names → AreApart (seen ++ names)

  own-from : (t : ℕ) (seen : List (List ℕ)) → AreApartFrom t seen → AreApart (seen ++ member_names (kind_of table t))
  own-from t seen h = subst (λ (l : List (List ℕ)). AreApart (seen ++ l)) (names-at table t) (h _ (stays t))

  branch-from : (t b : ℕ) (seen : List (List ℕ)) → AreApartFrom t seen → chosen table given t ≡ Some b → AreApartFrom b (seen ++ member_names (kind_of table t))
  branch-from t b seen h c names along =
      subst AreApart (sym (append_assoc seen (member_names (kind_of table t)) names))
      (subst (λ (l : List (List ℕ)). AreApart (seen ++ (l ++ names))) (names-at table t) (h _ (takes (chosen-refers table given t b c) along)))

  -- a member's name was not seen
  fresh : {t : ℕ} {m : MemberDef} → IsMember table given t m → (seen : List (List ℕ)) → AreApartFrom t seen → Among m.name seen → ⊥
  fresh {t = t} {m = m} (own a) seen h s = apart-split m.name seen (member_names (kind_of table t)) (own-from t seen h) s (among-map (λ (m : MemberDef). m.name) m (members_of (kind_of table t)) a)
  fresh {t = t} {m = m} (of_branch b c r) seen h s =
      fresh r (seen ++ member_names (kind_of table t)) (branch-from t b seen h c) (among-left m.name seen (member_names (kind_of table t)) s)

  fresh-branch : (t b : ℕ) (m n : MemberDef) (seen : List (List ℕ)) → AreApartFrom t seen → chosen table given t ≡ Some b → IsMember table given b n → Among m (members_of (kind_of table t)) → m.name ≡ n.name → ⊥
  fresh-branch t b m n seen h c r a e = fresh r (seen ++ member_names (kind_of table t)) (branch-from t b seen h c)
      (among-right n.name seen (member_names (kind_of table t)) (subst (λ (x : List ℕ). Among x (member_names (kind_of table t))) e (among-map (λ (m : MemberDef). m.name) m (members_of (kind_of table t)) a)))

  same-type : {t : ℕ} {m n : MemberDef} → IsMember table given t m → IsMember table given t n → (seen : List (List ℕ)) → AreApartFrom t seen → m.name ≡ n.name → m.type_id ≡ n.type_id
  same-type {t = t} {m = m} {n = n} (own a) (own b) seen h e = own-apart m n (members_of (kind_of table t)) (apart-right seen (member_names (kind_of table t)) (own-from t seen h)) a b e
  same-type {t = t} {m = m} {n = n} (own a) (of_branch b c r) seen h e = absurd (fresh-branch t b m n seen h c r a e)
  same-type {t = t} {m = m} {n = n} (of_branch b c r) (own a) seen h e = absurd (fresh-branch t b n m seen h c r a (sym e))
  same-type {t = t} {m = m} {n = n} (of_branch b c r) (of_branch d f q) seen h e =
      let same : d ≡ b = (let k : Some d ≡ Some b = sym f ∙ c in cc) in
      same-type r (subst (λ (b : ℕ). IsMember table given b n) same q) (seen ++ member_names (kind_of table t)) (branch-from t b seen h c) e

-- only a type of the table has members
inside-at : (table : List Kind) (t : ℕ) (def : ObjectDef) → kind_of table t ≡ kinds.Object def → t < length table
inside-at [] t def h = absurd cc
inside-at (kind ∷ table) zero def h = omega arith
inside-at (kind ∷ table) (suc t) def h = let l : t < length table = inside-at table t def h in omega (arith, l)

inside-member : {table : List Kind} {given : List Member} {t : ℕ} {m : MemberDef} → IsMember table given t m → t < length table
inside-member {table = table} {t = t} r = let o = member-object r in inside-at table t o.def o.is

-- alternatives of different kinds of JSON values
sorted-first : (table : List Kind) (a : ℕ) (types : List ℕ) (o : Option JsonKind) → json_kind_of (kind_of table a) ≡ o → IsSome o → ((b : ℕ) → Among b types → json_kind_of (kind_of table a) ≡ json_kind_of (kind_of table b) → ⊥) → IsSorted table (a ∷ types) a
sorted-first table a types None e h f = absurd cc
sorted-first table a types (Some sort) e h f = record { sort = sort; is = e; alone = λ b among k. elim among as (λ _. a ≡ b) [ inl same ↦ same | inr later ↦ absurd (f b later (e ∙ sym k)) ] }

sorted-later : (table : List Kind) (x a : ℕ) (types : List ℕ) → (json_kind_of (kind_of table x) ≡ json_kind_of (kind_of table a) → ⊥) → IsSorted table types a → IsSorted table (x ∷ types) a
sorted-later table x a types f r = record {
  sort = r.sort;
  is = r.is;
  alone = λ b among k. elim among as (λ _. a ≡ b) [
    | inl same ↦ absurd (f (ap (λ (t : ℕ). json_kind_of (kind_of table t)) same ∙ k ∙ sym r.is))
    | inr later ↦ r.alone b later k
  ];
}

sorted : (table : List Kind) (types : List ℕ) (a : ℕ) → All (λ t. IsSome (json_kind_of (kind_of table t))) types → AllPairs (λ t u. json_kind_of (kind_of table t) ≡ json_kind_of (kind_of table u) → ⊥) types → Among a types → IsSorted table types a
sorted table [] a some pairs among = absurd among
sorted table (x ∷ types) a some pairs (inl e) =
    subst (IsSorted table (x ∷ types)) e (sorted-first table x types (json_kind_of (kind_of table x)) refl (some zero 0 (omega arith))
    (λ b later. pairs-first (λ t u. json_kind_of (kind_of table t) ≡ json_kind_of (kind_of table u) → ⊥) x b types pairs later))
sorted table (x ∷ types) a some pairs (inr among) =
    sorted-later table x a types (pairs-first (λ t u. json_kind_of (kind_of table t) ≡ json_kind_of (kind_of table u) → ⊥) x a types pairs among)
    (sorted table types a (λ k d l. some (suc k) d (omega (arith, l))) (pairs-rest (λ t u. json_kind_of (kind_of table t) ≡ json_kind_of (kind_of table u) → ⊥) x types pairs) among)

pub apart : (p : Parts) → IsGood p → IsApart p.kinds
apart p good = record {
  alternatives = λ t types features a k among.
      (let told : AreToldApart p.kinds types = subst (HasApartAlternatives p.kinds) k (all-index (HasApartAlternatives p.kinds) kinds.Null p.kinds t good.alternatives tt) in
      sorted p.kinds types a told.0 told.1 among);
  members = λ given t m n r q e. same-type p.kinds given r q []
      (λ names along. good.choices t (subst (λ (l : ℕ). t < l) (sym (length-map p.kinds member_names)) (inside-member r)) names along) e;
}
