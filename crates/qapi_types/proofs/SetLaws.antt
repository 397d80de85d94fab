-- Sets of names that are gathered one after the other.
use Rattle.std.proofs.Common.{◌≡◌, ◌≤◌, ◌<◌, ◌+◌, ◌||◌, ◌↔◌, ℕ, Bool, true, false, not, IsTrue, Option, Some, None, is_some, List, [], ◌∷◌, ◌++◌, map, take, drop, get_or, length, suc, refl, sym, ap, ◌∙◌, subst, arith, bytes_eq}
use Rattle.std.proofs.{Math.Seq.split_at, lemmas.List.map_more, lemmas.List.take_all, lemmas.List.Folds.list_any-append}
use Rattle.qapi_types.specs.{Choices.AreApart, Choices.times, Choices.stands, Sets.AddsName, Sets.HasNames, Sets.IsSetOf}
use Rattle.qapi_types.proofs.ChoiceLaws.{itself, one-more, times-append, times-stands}

map-append : {X Y : Type 0} (f : X → Y) (xs ys : List X) → map f (xs ++ ys) ≡ map f xs ++ map f ys
map-append f [] ys = refl
map-append f (x ∷ xs) ys = ap (λ l. f x ∷ l) (map-append f xs ys)

-- the set of the names so far, none of which stands twice
abbrev pub Gathers : List (List ℕ) → List (List ℕ) → Type 0
Gathers set names = AreApart names × HasNames set names

new-is : (b : Bool) → true ≡ not b → b ≡ false
new-is true h = cc
new-is false h = refl

old-is : (b : Bool) → false ≡ not b → b ≡ true
old-is true h = refl
old-is false h = cc

or-false : (b : Bool) → (b || false) ≡ b
or-false true = refl
or-false false = refl

one : (names : List (List ℕ)) (x y : List ℕ) → stands y (names ++ x ∷ []) ≡ (stands y names || bytes_eq y x)
one names x y = list_any-append (bytes_eq y) names (x ∷ []) ∙ ap (λ b. stands y names || b) (or-false (bytes_eq y x))

gathered : (set new names : List (List ℕ)) (x : List ℕ) → Gathers set names → AddsName set x true new → Gathers new (names ++ x ∷ [])
gathered set new names x g a = (
  one-more names x g.0 (sym (g.1 x) ∙ new-is (stands x set) a.fresh),
  (λ y. a.names y ∙ ap (λ b. b || bytes_eq y x) (g.1 y) ∙ sym (one names x y)),
)

module _ {K : Type 0} (f : K → List ℕ) where
  -- one more name is gathered
  pub gathers_more : (set new : List (List ℕ)) (ks : List K) (i : ℕ) (d : K) (is_new : Bool) → i < length ks → Gathers set (map f (take i ks)) → AddsName set (f (get_or ks i d)) is_new new → is_new ≡ true → Gathers new (map f (take (i + 1) ks))
  gathers_more set new ks i d is_new l g a e = subst (Gathers new) (sym (map_more f ks i d l)) (gathered set new (map f (take i ks)) (f (get_or ks i d)) g (subst (λ b. AddsName set (f (get_or ks i d)) b new) e a))

  -- a name that stands before its place stands twice
  pub stands_before : (ks : List K) (i : ℕ) (d : K) → i < length ks → stands (f (get_or ks i d)) (map f (take i ks)) ≡ true → AreApart (map f ks) → ⊥
  stands_before ks i d l s all =
      let x : List ℕ = f (get_or ks i d) in
      let k : 1 ≤ times x (map f (take i ks)) = times-stands x (map f (take i ks)) s in
      let m : 1 ≤ times x (x ∷ map f (drop (suc i) ks)) = times-stands x (x ∷ map f (drop (suc i) ks)) (ap (λ b. b || stands x (map f (drop (suc i) ks))) (itself x)) in
      let t : times x (map f ks) ≡ times x (map f (take i ks)) + times x (x ∷ map f (drop (suc i) ks)) = ap (times x) (ap (map f) (split_at ks i d l) ∙ map-append f (take i ks) (get_or ks i d ∷ drop (suc i) ks)) ∙ times-append x (map f (take i ks)) (x ∷ map f (drop (suc i) ks)) in
      absurd (omega (arith, k, m, t, all x))

  -- the name that is gathered stands there already
  pub gathered_twice : (set new : List (List ℕ)) (ks : List K) (i : ℕ) (d : K) (is_new : Bool) → i < length ks → Gathers set (map f (take i ks)) → AddsName set (f (get_or ks i d)) is_new new → is_new ≡ false → AreApart (map f ks) → ⊥
  gathered_twice set new ks i d is_new l g a e all = stands_before ks i d l (sym (g.1 (f (get_or ks i d))) ∙ old-is (stands (f (get_or ks i d)) set) (sym e ∙ a.fresh)) all

  -- all names are gathered
  pub gathered_all : (set : List (List ℕ)) (ks : List K) (i : ℕ) → length ks ≤ i → Gathers set (map f (take i ks)) → Gathers set (map f ks)
  gathered_all set ks i l g = subst (λ xs. Gathers set (map f xs)) (take_all i ks l) g

-- a set of the names is there exactly where no name stands twice
pub is_set : (names : List (List ℕ)) (set : Option (List (List ℕ))) (some : Bool) → IsSetOf names set → some ≡ is_some set → IsTrue some ↔ AreApart names
is_set names None some s e = ((λ h. cc), (λ all. absurd (s all)))
is_set names (Some set) some s e = ((λ _. s.0), (λ _. e))
