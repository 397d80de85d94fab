-- Whether a name stands a second time along some choice of branches, by what a type leads to.
use Rattle.std.proofs.Common.{◌≡◌, ◌<◌, ◌≤◌, ◌+◌, ◌||◌, ◌↔◌, ℕ, zero, suc, Bool, true, false, IsTrue, List, [], ◌∷◌, ◌++◌, length, map, take, get_or, Option, Some, None, is_some, refl, sym, ap, ◌∙◌, subst, inl, inr, arith, bytes_eq}
use Rattle.std.proofs.lemmas.{Bool.cases_lt, Grind.common_steps}
use Rattle.std.proofs.lemmas.List.{Folds.list_any-append, length-append, get_or_append_left, get_or_push, take_more}
use Rattle.qapi_types.specs.declared.kind.{Kind.Kind, MemberDef.MemberDef}
use Rattle.qapi_types.specs.{Chains.has, Chains.Leads, Chains.marked, Goodness.choices_of, Sets.HasNames, Sets.has_member_in, Types.kind_of, Types.member_names, Types.members_of}
use Rattle.qapi_types.specs.Choices.{times, Table, names_of, stays, ClashesAfter, AreApart, stands, again, shares, IsFaulty}
use Rattle.qapi_types.proofs.ChainLaws.{has-either, marked-within}
use Rattle.qapi_types.proofs.ChoiceLaws.{times-append, both, shares-both, again-some, Within, within, held, faulty}
use Rattle.qapi_types.proofs.{FaultLaws.names-at, NameLemmas.list_any-map}
use Rattle.qapi_check.specs.Walking.{AreMarked, IsFirstTouching, MarkFaulty, Touches, TouchesFrom}

pub has-more : (set seen names : List (List ℕ)) → HasNames set seen → HasNames (set ++ names) (seen ++ names)
has-more set seen names h = λ y. list_any-append (bytes_eq y) set names ∙ ap (λ b. b || stands y names) (h y) ∙ sym (list_any-append (bytes_eq y) seen names)

pub again-same : (set seen names : List (List ℕ)) → HasNames set seen → again set names ≡ again seen names
again-same set seen [] h = refl
again-same set seen (x ∷ names) h = rw (h x, again-same (set ++ x ∷ []) (seen ++ x ∷ []) names (has-more set seen (x ∷ []) h)) refl

shares-same : (names set seen : List (List ℕ)) → HasNames set seen → shares names set ≡ shares names seen
shares-same [] set seen h = refl
shares-same (x ∷ names) set seen h = rw (h x, shares-same names set seen h) refl

-- a type's members have a name of the set
pub met : (table : List Kind) (b : ℕ) (set : List (List ℕ)) → has_member_in set (kind_of table b) ≡ shares (names_of (map member_names table) b) set
met table b set = sym (list_any-map (λ (m : MemberDef). m.name) (λ name. stands name set) (members_of (kind_of table b))) ∙ ap (λ l. shares l set) (sym (names-at table b))

data Two (m n : ℕ) : Type 0 where
  first : 2 ≤ m → Two m n
  second : 2 ≤ n → Two m n
  each : 1 ≤ m → 1 ≤ n → Two m n

two-of : (m n : ℕ) → 2 ≤ m + n → Two m n
two-of zero n h = second (omega arith)
two-of (suc zero) n h = each (omega arith) (omega arith)
two-of (suc (suc m)) n h = first (omega arith)

pub touching : (t : Table) (set seen : List (List ℕ)) (a : ℕ) → AreApart seen → HasNames set seen → ClashesAfter t seen a → TouchesFrom t set a
touching t set seen a apart s c = by_two (two-of (times c.name seen) (times c.name c.names) (omega (arith, c.twice, times-append c.name seen c.names)))
  where
    here : (b : ℕ) → 1 ≤ times c.name (names_of t.names b) → 1 ≤ times c.name seen → Touches t set b
    here b h k = inr (shares-same (names_of t.names b) set seen s ∙ shares-both c.name (names_of t.names b) seen h k)

    by_two : Two (times c.name seen) (times c.name c.names) → TouchesFrom t set a
    by_two (first k) = absurd (omega (arith, k, apart c.name))
    by_two (second k) = elim (faulty t a c.names c.name c.along k) [ inl f ↦ inl (inl f) | inr f ↦ inr (f.0, f.1, inl f.2) ]
    by_two (each k l) = elim (held t a c.names c.name c.along l) [ inl h ↦ inl (here a h k) | inr h ↦ inr (h.0, h.1, here h.0 h.2 k) ]

clash-faulty : (t : Table) (seen : List (List ℕ)) (a : ℕ) → IsFaulty t a → ClashesAfter t seen a
clash-faulty t seen a (inl h) = by_case (again [] (names_of t.names a)) refl h
  where
    by_case : (o : Option (List ℕ)) → again [] (names_of t.names a) ≡ o → is_some o ≡ true → ClashesAfter t seen a
    by_case None e h = cc
    by_case (Some x) e h = record { names = names_of t.names a; name = x; along = stays a; twice = (let k : 2 ≤ times x (names_of t.names a) = again-some [] (names_of t.names a) x e in omega (arith, k, times-append x seen (names_of t.names a))) }
clash-faulty t seen a (inr k) =
    let w : Within t a (names_of t.names k.0) = within t a k.0 _ k.1 (stays k.0) in
    let x = both (names_of t.names a) (names_of t.names k.0) k.2 in
    record { names = names_of t.names a ++ w.rest; name = x.0; along = w.along; twice = omega (arith, w.holds x.0, x.1, x.2, times-append x.0 (names_of t.names a) w.rest, times-append x.0 seen (names_of t.names a ++ w.rest)) }

clash-here : (t : Table) (set seen : List (List ℕ)) (a : ℕ) → HasNames set seen → Touches t set a → ClashesAfter t seen a
clash-here t set seen a s (inl f) = clash-faulty t seen a f
clash-here t set seen a s (inr h) =
    let x = both (names_of t.names a) seen (sym (shares-same (names_of t.names a) set seen s) ∙ h) in
    record { names = names_of t.names a; name = x.0; along = stays a; twice = omega (arith, x.1, x.2, times-append x.0 seen (names_of t.names a)) }

clash-below : (t : Table) (seen : List (List ℕ)) (a b : ℕ) → Leads t.branches a b → ClashesAfter t seen b → ClashesAfter t seen a
clash-below t seen a b l c =
    let w : Within t a c.names = within t a b c.names l c.along in
    record { names = names_of t.names a ++ w.rest; name = c.name; along = w.along; twice = omega (arith, c.twice, w.holds c.name, times-append c.name seen c.names, times-append c.name (names_of t.names a) w.rest, times-append c.name seen (names_of t.names a ++ w.rest)) }

pub clashing : (t : Table) (set seen : List (List ℕ)) (a : ℕ) → HasNames set seen → TouchesFrom t set a → ClashesAfter t seen a
clashing t set seen a s (inl h) = clash-here t set seen a s h
clashing t set seen a s (inr k) = clash-below t seen a k.0 k.1 (clash-here t set seen k.0 s k.2)

-- the marks and the set tell whether a type is faulty or has a name of the set
pub touched_yes : (table value : List Kind) (graph : List (List ℕ)) (marks : List Bool) (set : List (List ℕ)) (a : ℕ) → AreMarked table graph marks → table ≡ value → marked marks a ≡ true → IsTrue true ↔ Touches (choices_of value) set a
touched_yes table value graph marks set a m v e = subst (λ k. IsTrue true ↔ Touches (choices_of k) set a) v ((λ _. inl (m.marks.faulty a e)), (λ _. refl))

pub touched_not : (table value : List Kind) (graph : List (List ℕ)) (marks : List Bool) (set : List (List ℕ)) (a : ℕ) (kind : Kind) (answer : Bool) → AreMarked table graph marks → table ≡ value → a < length value → marked marks a ≡ false → kind ≡ kind_of table a → answer ≡ has_member_in set kind → IsTrue answer ↔ Touches (choices_of value) set a
touched_not table value graph marks set a kind answer m v l e k h =
    let here : answer ≡ shares (names_of (map member_names table) a) set = h ∙ ap (has_member_in set) k ∙ met table a set in
    subst (λ k. IsTrue answer ↔ Touches (choices_of k) set a) v (
      (λ q. inr (sym here ∙ q)),
      (λ t. elim t [ inl f ↦ absurd (m.marks.all a (subst (λ k. a < length k) (sym v) l) e f) | inr s ↦ here ∙ s ]),
    )

-- one more type is marked
pub mark_more : (t : Table) (n : ℕ) (marks new : List Bool) (mark : Bool) → MarkFaulty t n marks → new ≡ marks ++ mark ∷ [] → IsTrue mark ↔ IsFaulty t n → MarkFaulty t (n + 1) new
mark_more t n marks new mark m e d = record {
  long = long;
  faulty = λ a h. elim (cases_lt a n) [
    | inl l ↦ m.faulty a (sym (before a l) ∙ h)
    | inr g ↦ (let w : a < length new = marked-within new a h in let q : n ≡ a = omega (arith, w, g, long) in subst (IsFaulty t) q (d.0 (sym last ∙ ap (marked new) q ∙ h)))
  ];
  all = λ a l h f. elim (cases_lt a n) [
    | inl k ↦ m.all a k (sym (before a k) ∙ h) f
    | inr g ↦ (let q : a ≡ n = omega (arith, l, g) in let r : mark ≡ true = d.1 (subst (IsFaulty t) q f) in let s : marked new a ≡ mark = ap (marked new) q ∙ last in cc)
  ];
}
  where
    long : length new ≡ n + 1
    long = omega (arith, ap length e, length-append marks (mark ∷ []), m.long)

    before : (a : ℕ) → a < n → marked new a ≡ marked marks a
    before a l = ap (λ k. marked k a) e ∙ get_or_append_left marks (mark ∷ []) false a (omega (arith, l, m.long))

    last : marked new n ≡ mark
    last = ap (λ k. marked k n) e ∙ get_or_push marks mark false n m.long

same-number : (a b : ℕ) → has a (b ∷ []) ≡ true → a ≡ b
same-number a b h = grind (arith, common_steps)

-- one more type is none of those
pub none_more : (t : Table) (set : List (List ℕ)) (types : List ℕ) (i d : ℕ) → i < length types → IsFirstTouching t set (take i types) None → (TouchesFrom t set (get_or types i d) → ⊥) → IsFirstTouching t set (take (i + 1) types) None
none_more t set types i d l none last c h f = elim (has-either c (take i types) (get_or types i d ∷ []) (subst (λ k. has c k ≡ true) (take_more types i d l) h)) [ inl k ↦ none c k f | inr k ↦ last (subst (TouchesFrom t set) (same-number c (get_or types i d) k) f) ]
