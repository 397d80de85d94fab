-- Sets of names that tell whether a name is new.
use Rattle.std.proofs.Common.{◌≡◌, ℕ, Bool, not, ◌||◌, List, [], ◌∷◌, map, Result, Ok, Err, IfOk, refl, ap, sym, subst, ◌∙◌}
use Rattle.std.specs.{BTreeSet.insert_key, Cmp.Lexicographic.slice_cmp, Ordering.is_eq, Ordering.nat_cmp, List.list_any}
use Rattle.qm_base.proofs.NameLemmas.{found, inserted}
use Rattle.qapi_types.specs.Sets.{AddsName}

pub list_any-map : {X Y : Type 0} (f : X → Y) (p : Y → Bool) (xs : List X) → list_any p (map f xs) ≡ list_any (λ x. p (f x)) xs
list_any-map f p [] = refl
list_any-map f p (x ∷ xs) = ap (λ b. p (f x) || b) (list_any-map f p xs)

-- a name was inserted, of names seen through f
pub added : {K : Type 0} (f : K → List ℕ) (ks new : List K) (k : K) (old : List (List ℕ)) (is_new : Bool) → map f ks ≡ old → is_new ≡ not (list_any (λ j. is_eq (slice_cmp nat_cmp (f k) (f j))) ks) → new ≡ insert_key (λ i j. slice_cmp nat_cmp (f i) (f j)) ks k → AddsName old (f k) is_new (map f new)
added f ks new k old is_new o n e = rw (← o, e) record { fresh = n ∙ ap not (found f (f k) ks); names = λ other. inserted f other ks k }

-- what was answered of a name, where the set of its answer is known by its cases
pub answered : {E : Type 0} (old new : List (List ℕ)) (name : List ℕ) (r : Result Bool E) (is_new : Bool) → r ≡ Ok is_new → AddsName old name is_new new → IfOk r (λ b. AddsName old name b new)
answered old new name r is_new e h = subst (λ r. IfOk r (λ b. AddsName old name b new)) (sym e) h

pub refused : {E : Type 0} (old new : List (List ℕ)) (name : List ℕ) (r : Result Bool E) (y : E) → r ≡ Err y → IfOk r (λ b. AddsName old name b new)
refused old new name r y e = subst (λ r. IfOk r (λ b. AddsName old name b new)) (sym e) tt
