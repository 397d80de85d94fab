-- The way down to the first name that stands a second time.
use Rattle.std.proofs.Common.{◌≡◌, ◌<◌, ◌≤◌, ◌+◌, ◌||◌, ◌↔◌, ℕ, zero, suc, true, List, [], ◌∷◌, ◌++◌, length, map, take, drop, get_or, Bool, false, not, IsTrue, Option, Some, None, refl, sym, ap, ◌∙◌, subst, arith, append_assoc, bytes_eq}
use Rattle.std.proofs.lemmas.{Bool.Decides.Decides-eqb, List.Folds.list_any-append}
use Rattle.std.proofs.lemmas.List.{drop_all, drop_more, length-map, map_more, take_all}
use Rattle.qapi_types.specs.declared.kind.{Kind.Kind, MemberDef.MemberDef}
use Rattle.qapi_types.specs.{Chains.has, Chains.row_of, Chains.Refers, Chains.IsInside, Chains.NoneOnCycle, Goodness.choices_of, Sets.AddsName, Sets.HasNames}
use Rattle.qapi_types.specs.Types.{branch_types, kind_of, member_names}
use Rattle.qapi_types.specs.Choices.{Table, names_of, times, again, stands, AreApart, Along, stays, takes, ClashesAfter}
use Rattle.qapi_types.proofs.{ChainLaws.left, ChainLaws.has-right, ChainLaws.row-holds, ChoiceLaws.again-none, FaultLaws.names-at}
use Rattle.qapi_check.specs.{Clashes.again_in, Clashes.clash_of, Walking.AddsNames, Walking.AreMarked, Walking.IsFirstTouching, Walking.IsTouching, Walking.IsOnTheWay, Walking.TouchesFrom}
use Rattle.qapi_check.proofs.{ClashLaws.again-same, ClashLaws.has-more, ClashLaws.touching, ClashLaws.clashing}
use Rattle.qapi_check.proofs.TrailLaws.{none_of, none_past, no_trail, goes_on, too_long, found_here, found_below}

no-names : AreApart []
no-names y = omega arith

pub way_begins : (t : Table) (from : ℕ) (set : List (List ℕ)) → from < length t.branches → set ≡ [] → TouchesFrom t set from → IsOnTheWay t from 0 set from
unfolding clash_of
way_begins t from set l e h = record {
  seen = [];
  past = [];
  rest = length t.branches;
  within = l;
  apart = no-names;
  holds = rw e (λ y. refl);
  clash = clashing t set [] from (rw e (λ y. refl)) h;
  trail = no_trail t.branches from;
  long = refl;
  room = omega arith;
  answers = λ name k. k;
}

again-here : (t : Table) (from turns a : ℕ) (set new : List (List ℕ)) (first : Option (List ℕ)) (w : IsOnTheWay t from turns set a) → AddsNames set (names_of t.names a) first new → again w.seen (names_of t.names a) ≡ first
again-here t from turns a set new first w n = sym (again-same set w.seen (names_of t.names a) w.holds) ∙ sym n.found

pub way_found : (t : Table) (from turns a : ℕ) (set new : List (List ℕ)) (x : List ℕ) → turns < length t.branches → IsOnTheWay t from turns set a → AddsNames set (names_of t.names a) (Some x) new → Some x ≡ clash_of t from
way_found t from turns a set new x l w n = by_rest w.rest refl
  where
    by_rest : (r : ℕ) → w.rest ≡ r → Some x ≡ clash_of t from
    by_rest zero e = absurd (omega (arith, e, l, w.room))
    by_rest (suc r) e = sym (w.answers x (ap (λ k. again_in k t w.seen a) e ∙ found_here r t w.seen a x (again-here t from turns a set new (Some x) w n)))

way-apart : (t : Table) (from turns a : ℕ) (set new : List (List ℕ)) (w : IsOnTheWay t from turns set a) → AddsNames set (names_of t.names a) None new → AreApart (w.seen ++ names_of t.names a)
way-apart t from turns a set new w n = again-none w.seen (names_of t.names a) w.apart (again-here t from turns a set new None w n)

way-names : (t : Table) (from turns a : ℕ) (set new : List (List ℕ)) (w : IsOnTheWay t from turns set a) → AddsNames set (names_of t.names a) None new → HasNames new (w.seen ++ names_of t.names a)
way-names t from turns a set new w n y = n.added refl y ∙ has-more set w.seen (names_of t.names a) w.holds y

none-below : (t : Table) (seen : List (List ℕ)) (a : ℕ) → AreApart (seen ++ names_of t.names a) → ((b : ℕ) → Refers t.branches a b → ClashesAfter t (seen ++ names_of t.names a) b → ⊥) → ClashesAfter t seen a → ⊥
none-below t seen a apart none c = by_along c.along c.twice
  where
    by_along : {ns : List (List ℕ)} → Along t a ns → 2 ≤ times c.name (seen ++ ns) → ⊥
    by_along (stays b) h = absurd (omega (arith, h, apart c.name))
    by_along (takes {b = b} {ns = ms} r m) h = none b r (record { names = ms; name = c.name; along = m; twice = subst (λ (l : List (List ℕ)). 2 ≤ times c.name l) (sym (append_assoc seen (names_of t.names a) ms)) h })

-- one of the branches clashes
pub way_none : (t : Table) (from turns a : ℕ) (set new : List (List ℕ)) (types : List ℕ) → IsOnTheWay t from turns set a → AddsNames set (names_of t.names a) None new → types ≡ row_of t.branches a → IsFirstTouching t new types None → ⊥
way_none t from turns a set new types w n e none =
    none-below t w.seen a (way-apart t from turns a set new w n)
    (λ b r c. none b (subst (λ l. has b l ≡ true) (sym e) r) (touching t new (w.seen ++ names_of t.names a) b (way-apart t from turns a set new w n) (way-names t from turns a set new w n) c))
    w.clash

pub way_on : (t : Table) (from turns a b : ℕ) (set new : List (List ℕ)) (types : List ℕ) → IsInside t.branches → NoneOnCycle t.branches (length t.branches) → turns < length t.branches → IsOnTheWay t from turns set a → AddsNames set (names_of t.names a) None new → types ≡ row_of t.branches a → IsTouching t new types b → IsOnTheWay t from (turns + 1) new b
way_on t from turns a b set new types inside free l w n e c = by_rest w.rest refl
  where
    refers : Refers t.branches a b
    refers = subst (λ k. has b k ≡ true) (sym c.split ∙ e) (has-right b c.before (b ∷ c.after) (left _ _ ((Decides-eqb b b).1 refl)))

    by_rest : (r : ℕ) → w.rest ≡ r → IsOnTheWay t from (turns + 1) new b
    by_rest zero q = absurd (omega (arith, q, l, w.room))
    by_rest (suc r) q = record {
      seen = w.seen ++ names_of t.names a;
      past = a ∷ w.past;
      rest = r;
      within = row-holds t.branches a b inside refers;
      apart = way-apart t from turns a set new w n;
      holds = way-names t from turns a set new w n;
      clash = clashing t new (w.seen ++ names_of t.names a) b (way-names t from turns a set new w n) c.touches;
      trail = goes_on t.branches w.past a b free w.trail w.within refers;
      long = omega (arith, w.long);
      room = omega (arith, w.room, q);
      answers = λ name k. w.answers name (ap (λ k. again_in k t w.seen a) q ∙ found_below r t w.seen a b c.before c.after name (again-here t from turns a set new None w n) (sym e ∙ c.split) (λ d h f. c.none d h (touching t new (w.seen ++ names_of t.names a) d (way-apart t from turns a set new w n) (way-names t from turns a set new w n) f)) k);
    }

-- the way ends before the types do
pub way_ends : (t : Table) (from turns a : ℕ) (set : List (List ℕ)) → NoneOnCycle t.branches (length t.branches) → length t.branches ≤ turns → IsOnTheWay t from turns set a → ⊥
way_ends t from turns a set free l w = too_long t.branches w.past a free w.trail w.within (omega (arith, l, w.long))

-- The same, as the code has them.

branches-as-many : (table : List Kind) → length (map branch_types table) ≡ length table
branches-as-many table = length-map table branch_types

pub begins : (table value : List Kind) (from : ℕ) (set : List (List ℕ)) (answer : Bool) → table ≡ value → from < length table → set ≡ [] → IsTrue answer ↔ TouchesFrom (choices_of value) set from → answer ≡ true → IsOnTheWay (choices_of table) from 0 set from
begins table value from set answer v l e d y = way_begins (choices_of table) from set (omega (arith, l, branches-as-many table)) e (subst (λ k. TouchesFrom (choices_of k) set from) (sym v) (d.0 y))

pub nowhere : (value : List Kind) (from : ℕ) (set : List (List ℕ)) (answer : Bool) → set ≡ [] → IsTrue answer ↔ TouchesFrom (choices_of value) set from → answer ≡ false → None ≡ clash_of (choices_of value) from
nowhere value from set answer e d n = sym (none_of (choices_of value) from (λ c. (let k : answer ≡ true = d.1 (touching (choices_of value) set [] from no-names (rw e (λ y. refl)) c) in cc)))

pub past_all : (table value : List Kind) (from : ℕ) → table ≡ value → length table ≤ from → None ≡ clash_of (choices_of value) from
past_all table value from v l = subst (λ k. None ≡ clash_of (choices_of k) from) v (sym (none_past table from l))

own-names : (table : List Kind) (a : ℕ) (set new : List (List ℕ)) (kind : Kind) (first o : Option (List ℕ)) → kind ≡ kind_of table a → AddsNames set (member_names kind) first new → first ≡ o → AddsNames set (names_of (map member_names table) a) o new
own-names table a set new kind first o e n q = subst (λ o. AddsNames set (names_of (map member_names table) a) o new) q (subst (λ l. AddsNames set l first new) (ap member_names e ∙ sym (names-at table a)) n)

pub finds : (table value : List Kind) (from turns a : ℕ) (set new : List (List ℕ)) (kind : Kind) (first : Option (List ℕ)) (x : List ℕ) → table ≡ value → turns < length table → IsOnTheWay (choices_of table) from turns set a → kind ≡ kind_of table a → AddsNames set (member_names kind) first new → first ≡ Some x → Some x ≡ clash_of (choices_of value) from
finds table value from turns a set new kind first x v l w e n q = subst (λ k. Some x ≡ clash_of (choices_of k) from) v (way_found (choices_of table) from turns a set new x (omega (arith, l, branches-as-many table)) w (own-names table a set new kind first (Some x) e n q))

module _ (table value : List Kind) (graph g : List (List ℕ)) (faulty : List Bool) (from turns a : ℕ) (set new : List (List ℕ)) (kind : Kind) (first : Option (List ℕ)) (types : List ℕ) (next : Option ℕ) where
  pub stuck : AreMarked table graph faulty → table ≡ value → g ≡ graph → IsOnTheWay (choices_of table) from turns set a → kind ≡ kind_of table a → AddsNames set (member_names kind) first new → first ≡ None → types ≡ row_of g a → IsFirstTouching (choices_of value) new types next → next ≡ None → ⊥
  stuck m v s w e n q r f o =
      way_none (choices_of table) from turns a set new types w (own-names table a set new kind first None e n q)
      (r ∙ ap (λ k. row_of k a) (s ∙ m.branches))
      (subst (λ k. IsFirstTouching (choices_of k) new types None) (sym v) (subst (IsFirstTouching (choices_of value) new types) o f))

  pub goes_down : (b : ℕ) → AreMarked table graph faulty → table ≡ value → g ≡ graph → turns < length table → IsOnTheWay (choices_of table) from turns set a → kind ≡ kind_of table a → AddsNames set (member_names kind) first new → first ≡ None → types ≡ row_of g a → IsFirstTouching (choices_of value) new types next → next ≡ Some b → IsOnTheWay (choices_of table) from (turns + 1) new b
  goes_down b m v s l w e n q r f o =
      way_on (choices_of table) from turns a b set new types m.inside (λ c h. m.free c (omega (arith, h, branches-as-many table))) (omega (arith, l, branches-as-many table)) w (own-names table a set new kind first None e n q)
      (r ∙ ap (λ k. row_of k a) (s ∙ m.branches))
      (subst (λ k. IsTouching (choices_of k) new types b) (sym v) (subst (IsFirstTouching (choices_of value) new types) o f))

pub never_ends : (table : List Kind) (graph : List (List ℕ)) (faulty : List Bool) (from turns a : ℕ) (set : List (List ℕ)) → AreMarked table graph faulty → length table ≤ turns → IsOnTheWay (choices_of table) from turns set a → ⊥
never_ends table graph faulty from turns a set m l w = way_ends (choices_of table) from turns a set (λ c h. m.free c (omega (arith, h, branches-as-many table))) (omega (arith, l, branches-as-many table)) w

-- Names of members that are added one after the other.

abbrev pub AreAdded : List (List ℕ) → List (List ℕ) → List MemberDef → ℕ → Type 0
AreAdded old set members i = (again old (map (λ m. m.name) members) ≡ again set (map (λ m. m.name) (drop i members))) × HasNames set (old ++ map (λ m. m.name) (take i members))

or-false : (b : Bool) → (b || false) ≡ b
or-false true = refl
or-false false = refl

new-is : (b : Bool) → true ≡ not b → b ≡ false
new-is true h = cc
new-is false h = refl

pub name_added : (members : List MemberDef) (i : ℕ) (d : MemberDef) (old set new : List (List ℕ)) (x : List ℕ) (is_new : Bool) → i < length members → x ≡ (get_or members i d).name → AreAdded old set members i → AddsName set x is_new new → is_new ≡ true → AreAdded old new members (i + 1)
name_added members i d old set new x is_new l e w a t = (
  w.0 ∙ ap (λ k. again set (map (λ m. m.name) k)) (drop_more members i d l) ∙ ap (λ n. again set (n ∷ rest)) (sym e) ∙ step ∙ sym (again-same new (set ++ x ∷ []) rest with_it),
  subst (HasNames new) (append_assoc old (map (λ m. m.name) (take i members)) (x ∷ []) ∙ ap (λ n. old ++ (map (λ m. m.name) (take i members) ++ n ∷ [])) e ∙ ap (λ k. old ++ k) (sym (map_more (λ (m : MemberDef). m.name) members i d l)))
      (λ y. with_it y ∙ has-more set (old ++ map (λ m. m.name) (take i members)) (x ∷ []) w.1 y),
)
  where
    rest : List (List ℕ)
    rest = map (λ m. m.name) (drop (i + 1) members)

    fresh : stands x set ≡ false
    fresh = new-is (stands x set) (sym t ∙ a.fresh)

    step : again set (x ∷ rest) ≡ again (set ++ x ∷ []) rest
    step = rw fresh refl

    with_it : HasNames new (set ++ x ∷ [])
    with_it y = a.names y ∙ sym (list_any-append (bytes_eq y) set (x ∷ []) ∙ ap (λ b. stands y set || b) (or-false (bytes_eq y x)))

pub names_added : (members : List MemberDef) (i : ℕ) (old set : List (List ℕ)) → length members ≤ i → AreAdded old set members i → AddsNames old (map (λ m. m.name) members) None set
names_added members i old set l w = record {
  found = sym (w.0 ∙ ap (λ k. again set (map (λ m. m.name) k)) (drop_all i members l));
  added = λ _. subst (λ k. HasNames set (old ++ map (λ m. m.name) k)) (take_all i members l) w.1;
}
