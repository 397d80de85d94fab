-- The members of an object type, and those that a value gives.
use Rattle.std.proofs.Common.{◌≡◌, ℕ, ◌+◌, Bool, true, false, cond, not, List, [], ◌∷◌, refl, ap, sym, ◌∙◌, subst, inl, inr, Option, Some, None, option_map, option_and_then, bytes_eq}
use Rattle.std.specs.{List.list_any, Option.option_or}
use Rattle.std.proofs.lemmas.{Bool.and_parts, Bool.both_ways, Bool.not-true, Bool.not-false, Slice.Eq.bytes_eq-Decides}
use Rattle.qm_base.specs.Names.{is_named}
use Rattle.qm_json.specs.declared.value.Member.{Member}
use Rattle.qm_json.specs.{Cleanness.are_distinct, Members.has_name}
use Rattle.qm_json.proofs.Distinct.{names}
use Rattle.qapi_types.specs.declared.kind.{Kind.Kind, MemberDef.MemberDef}
use Rattle.qapi_types.specs.Types.{kind_of, members_of, member_names}
use Rattle.qm_admit.specs.declared.verdict.Fault.TheVariants.{Missing}
use Rattle.qm_admit.specs.declared.path.PathStep.TheVariants.{Member as member_step, Absent}
use Rattle.qm_admit.specs.Fitting.{Among}
use Rattle.qm_admit.specs.Misfits.{Misfit, NamedInner, inside, first_misfit, given_misfit, member_misfit, members_misfit, types_misfit, is_known, unknown_misfit}
use Rattle.qm_admit.specs.Walks.{named_inner, inners}
use Rattle.qm_admit.proofs.Lists.{among-map, among-source, witness, any-among, PlaceIn, nowhere, somewhere, place-in, named-among, among-named}

pub or-none : {X : Type 0} (a b : Option X) → a ≡ None → b ≡ None → option_or a b ≡ None
or-none None b h k = k
or-none (Some x) b h k = h

pub or-first : {X : Type 0} (a b : Option X) → option_or a b ≡ None → a ≡ None
or-first None b h = refl
or-first (Some x) b h = h

pub or-second : {X : Type 0} (a b : Option X) → option_or a b ≡ None → b ≡ None
or-second None b h = h
or-second (Some x) b h = absurd cc

pub mapped-none : {X Y : Type 0} (f : X → Y) (o : Option X) → option_map f o ≡ None → o ≡ None
mapped-none f None h = refl
mapped-none f (Some x) h = absurd cc

pub passed : {X : Type 0} (b : Bool) (x : X) → cond b None (Some x) ≡ None → b ≡ true
passed true x h = refl
passed false x h = absurd cc

pub passes : {X : Type 0} (b : Bool) (x : X) → b ≡ true → cond b None (Some x) ≡ None
passes true x h = refl
passes false x h = absurd cc

-- the members are those of the names, at most one of each
pub named-once : (x y : Member) (xs : List Member) → are_distinct (names xs) ≡ true → Among x xs → Among y xs → x.name ≡ y.name → x ≡ y
named-once x y [] d a b e = absurd a
named-once x y (z ∷ xs) d a b e = by_case (λ d a b. named-once x y xs d a b e) a b
  where
    parts : (not (list_any (λ other. bytes_eq other z.name) (names xs)) ≡ true) × (are_distinct (names xs) ≡ true)
    parts = and_parts _ _ d

    clash : (w : Member) → Among w xs → w.name ≡ z.name → ⊥
    clash w a s = both_ways _ (not-true _ parts.0)
        (any-among (λ other. bytes_eq other z.name) w.name (names xs) (among-map (λ (m : Member). m.name) w xs a) ((bytes_eq-Decides w.name z.name).1 s))

    by_case : (are_distinct (names xs) ≡ true → Among x xs → Among y xs → x ≡ y) → Among x (z ∷ xs) → Among y (z ∷ xs) → x ≡ y
    by_case go (inl s) (inl t) = sym s ∙ t
    by_case go (inl s) (inr b) = absurd (clash y b (sym e ∙ ap (λ (m : Member). m.name) (sym s)))
    by_case go (inr a) (inl t) = absurd (clash x a (e ∙ ap (λ (m : Member). m.name) (sym t)))
    by_case go (inr a) (inr b) = go parts.1 a b

pub has-among : (x : Member) (name : List ℕ) (xs : List Member) → Among x xs → x.name ≡ name → has_name xs name ≡ true
has-among x name xs a e = any-among (λ (m : Member). bytes_eq m.name name) x xs a ((bytes_eq-Decides x.name name).1 e)

-- what a member without fault shows: it is not given and may be absent, or the first of its name that is given has no fault
pub data Checked (table : List Kind) (given : List Member) (m : MemberDef) : Type 0 where
  gone : ((x : Member) → Among x given → x.name ≡ m.name → ⊥) → m.optional ≡ true → Checked table given m
  good : (x : Member) → Among x given → x.name ≡ m.name → first_misfit table m.type_id x.value ≡ None → Checked table given m

abbrev missing : ℕ → ℕ → Misfit
missing t p = record { fault = Missing; path = Absent t p ∷ [] }

module _ (table : List Kind) (given : List Member) where
  absent : (name : List ℕ) → ((x : NamedInner) → Among x (inners table given) → bytes_eq x.name name ≡ false) → (x : Member) → Among x given → x.name ≡ name → ⊥
  absent name none x a e = both_ways (bytes_eq x.name name) (none (named_inner table x) (among-map (named_inner table) x given a)) ((bytes_eq-Decides x.name name).1 e)

  pub checked : (t p : ℕ) (m : MemberDef) → member_misfit (inners table given) t p m ≡ None → Checked table given m
  checked t p m h = by_place (place-in (λ (x : NamedInner). bytes_eq x.name m.name) (inners table given))
    where
      by_place : PlaceIn (λ (x : NamedInner). bytes_eq x.name m.name) (inners table given) → Checked table given m
      by_place (nowhere n none) = gone (absent m.name none) (passed m.optional (missing t p) (ap (given_misfit (inners table given) t p m) (sym n) ∙ h))
      by_place (somewhere i y f g a e) =
          let s = among-source (named_inner table) y given a in
          let k = mapped-none _ _ (ap (λ o. inside (member_step i) (option_and_then (λ (x : NamedInner). x.inner.misfit m.type_id) o)) (sym g) ∙ ap (given_misfit (inners table given) t p m) (sym f) ∙ h) in
          good s.of s.among (ap (λ (x : NamedInner). x.name) s.is ∙ (bytes_eq-Decides y.name m.name).0 e) (ap (λ (x : NamedInner). x.inner.misfit m.type_id) s.is ∙ k)

  pub unchecked : (t p : ℕ) (m : MemberDef) → (m.optional ≡ false → has_name given m.name ≡ true) → ((x : Member) → Among x given → x.name ≡ m.name → first_misfit table m.type_id x.value ≡ None) →
      member_misfit (inners table given) t p m ≡ None
  unchecked t p m o each = by_place (place-in (λ (x : NamedInner). bytes_eq x.name m.name) (inners table given))
    where
      may-be_absent : ((x : Member) → Among x given → x.name ≡ m.name → ⊥) → (b : Bool) → m.optional ≡ b → m.optional ≡ true
      may-be_absent none true e = e
      may-be_absent none false e = let w = witness (λ (x : Member). bytes_eq x.name m.name) given (o e) in absurd (none w.of w.among ((bytes_eq-Decides w.of.name m.name).0 w.passes))

      by_place : PlaceIn (λ (x : NamedInner). bytes_eq x.name m.name) (inners table given) → member_misfit (inners table given) t p m ≡ None
      by_place (nowhere n none) = ap (given_misfit (inners table given) t p m) n ∙ passes m.optional (missing t p) (may-be_absent (absent m.name none) m.optional refl)
      by_place (somewhere i y f g a e) =
          let s = among-source (named_inner table) y given a in
          let k : y.inner.misfit m.type_id ≡ None = ap (λ (x : NamedInner). x.inner.misfit m.type_id) (sym s.is) ∙ each s.of s.among (ap (λ (x : NamedInner). x.name) s.is ∙ (bytes_eq-Decides y.name m.name).0 e) in
          ap (given_misfit (inners table given) t p m) f ∙ ap (λ o. inside (member_step i) (option_and_then (λ (x : NamedInner). x.inner.misfit m.type_id) o)) g ∙ ap (inside (member_step i)) k

  -- members of types
  members-none : (t p : ℕ) (ms : List MemberDef) → ((q : ℕ) (m : MemberDef) → Among m ms → member_misfit (inners table given) t q m ≡ None) → members_misfit (inners table given) t p ms ≡ None
  members-none t p [] h = refl
  members-none t p (m ∷ ms) h = or-none _ _ (h p m (inl refl)) (members-none t (p + 1) ms (λ q x a. h q x (inr a)))

  members-each : (t p : ℕ) (ms : List MemberDef) → members_misfit (inners table given) t p ms ≡ None → (m : MemberDef) → Among m ms → Checked table given m
  members-each t p [] h m a = absurd a
  members-each t p (x ∷ ms) h m (inl e) = subst (λ (m : MemberDef). Checked table given m) e (checked t p x (or-first _ _ h))
  members-each t p (x ∷ ms) h m (inr a) = members-each t (p + 1) ms (or-second _ _ h) m a

  pub types-none : (types : List ℕ) → ((t q : ℕ) (m : MemberDef) → Among t types → Among m (members_of (kind_of table t)) → member_misfit (inners table given) t q m ≡ None) → types_misfit table (inners table given) types ≡ None
  types-none [] h = refl
  types-none (t ∷ types) h = or-none _ _ (members-none t 0 (members_of (kind_of table t)) (λ q m a. h t q m (inl refl) a)) (types-none types (λ u q m a b. h u q m (inr a) b))

  pub types-each : (types : List ℕ) → types_misfit table (inners table given) types ≡ None → (t : ℕ) (m : MemberDef) → Among t types → Among m (members_of (kind_of table t)) → Checked table given m
  types-each [] h t m a b = absurd a
  types-each (u ∷ types) h t m (inl e) b = members-each u 0 (members_of (kind_of table u)) (or-first _ _ h) m (subst (λ t. Among m (members_of (kind_of table t))) (sym e) b)
  types-each (u ∷ types) h t m (inr a) b = types-each types (or-second _ _ h) t m a b

  -- names of types
  pub record Known (types : List ℕ) (name : List ℕ) : Type 0 where
    pub type_id : ℕ
    pub member : MemberDef
    pub among : Among type_id types
    pub is : Among member (members_of (kind_of table type_id))
    pub named : member.name ≡ name

  known-in : (types : List ℕ) (name : List ℕ) → is_known table types name ≡ true → Known types name
  known-in types name h =
      let w = witness (λ t. is_named (member_names (kind_of table t)) name) types h in
      let s = among-named (λ (m : MemberDef). m.name) name (members_of (kind_of table w.of)) w.passes in
      record { type_id = w.of; member = s.of; among = w.among; is = s.among; named = s.is }

  pub known-by : (types : List ℕ) (t : ℕ) (m : MemberDef) (name : List ℕ) → Among t types → Among m (members_of (kind_of table t)) → m.name ≡ name → is_known table types name ≡ true
  known-by types t m name a b e = any-among (λ t. is_named (member_names (kind_of table t)) name) t types a (named-among (λ (m : MemberDef). m.name) name m (members_of (kind_of table t)) b e)

  pub all-known : (types : List ℕ) → unknown_misfit table (inners table given) types ≡ None → (x : Member) → Among x given → Known types x.name
  all-known types h x a = known-in types x.name (not-false (is_known table types x.name) (by_place (place-in (λ (x : NamedInner). not (is_known table types x.name)) (inners table given))))
    where
      by_place : PlaceIn (λ (x : NamedInner). not (is_known table types x.name)) (inners table given) → not (is_known table types x.name) ≡ false
      by_place (nowhere n none) = none (named_inner table x) (among-map (named_inner table) x given a)
      by_place (somewhere i y f g b e) = let k : None ≡ Some i = sym (mapped-none _ _ h) ∙ f in absurd cc

  pub none-unknown : (types : List ℕ) → ((x : Member) → Among x given → is_known table types x.name ≡ true) → unknown_misfit table (inners table given) types ≡ None
  none-unknown types h = by_place (place-in (λ (x : NamedInner). not (is_known table types x.name)) (inners table given))
    where
      by_place : PlaceIn (λ (x : NamedInner). not (is_known table types x.name)) (inners table given) → unknown_misfit table (inners table given) types ≡ None
      by_place (nowhere n none) = ap (option_map _) n
      by_place (somewhere i y f g b e) =
          let s = among-source (named_inner table) y given b in
          absurd (both_ways (is_known table types y.name) (not-true (is_known table types y.name) e) (ap (λ (x : NamedInner). is_known table types x.name) (sym s.is) ∙ h s.of s.among))
