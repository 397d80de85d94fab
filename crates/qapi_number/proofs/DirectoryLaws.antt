-- Names whose first places are noted.
use Rattle.std.proofs.Common.{◌≡◌, ◌+◌, ◌<◌, ℕ, Bool, true, false, cond, List, [], ◌∷◌, ◌++◌, map, length, take, get_or, Option, Some, None, Result, Ok, Err, OnOk, refl, ap, sym, subst, ◌∙◌, arith}
use Rattle.std.specs.{List.position_from, Map.lookup, Option.option_or, Str.bytes_eq}
use Rattle.std.proofs.{lemmas.Iterator.Adapters.position_from-zero, lemmas.List.length-map, lemmas.List.length-take-le, lemmas.List.map_more, lemmas.Option.none-some, lemmas.Slice.Eq.bytes_eq-Decides}
use Rattle.std.specs.Prelude.{if◌then◌else◌}
use Rattle.indexmap.specs.IndexMap.{insert_entry}
use Rattle.qapi_types.specs.Lookups.{place_of}
use Rattle.qapi_number.specs.Directories.{place_in, ArePlaces}

-- an entry more
lookup-more : {K X : Type 0} (test : K → Bool) (es : List (K × X)) (k : K) (x : X) → lookup test (es ++ (k, x) ∷ []) ≡ option_or (lookup test es) (cond (test k) (Some x) None)
lookup-more test [] k x = refl
lookup-more test (e ∷ es) k x = by_case (test e.0) (lookup-more test es k x)
  where
    by_case : (b : Bool) → lookup test (es ++ (k, x) ∷ []) ≡ option_or (lookup test es) (cond (test k) (Some x) None) → cond b (Some e.1) (lookup test (es ++ (k, x) ∷ [])) ≡ option_or (cond b (Some e.1) (lookup test es)) (cond (test k) (Some x) None)
    by_case true go = refl
    by_case false go = go

-- a key that is not there goes last
insert-new : {K X : Type 0} (eq : K → K → Bool) (es : List (K × X)) (k : K) (x : X) → lookup (eq k) es ≡ None → insert_entry eq es k x ≡ es ++ (k, x) ∷ []
insert-new eq [] k x free = refl
insert-new {K} {X} eq (e ∷ es) k x free = by_case (eq k e.0) free (λ n. insert-new eq es k x n)
  where
    by_case : (b : Bool) → cond b (Some e.1) (lookup (eq k) es) ≡ None → (lookup (eq k) es ≡ None → insert_entry eq es k x ≡ es ++ (k, x) ∷ []) → (if b then (e.0, x) ∷ es else e ∷ insert_entry eq es k x) ≡ e ∷ (es ++ (k, x) ∷ [])
    by_case true n go = absurd (none-some e.1 (sym n))
    by_case false n go = ap {A = List (K × X)} (λ l. e ∷ l) (go n)

-- the place of a name that was not there was noted
pub noted : {K : Type 0} (f : K → List ℕ) (old new : List (K × ℕ)) (k : K) (name : List ℕ) (place : ℕ) →
    new ≡ insert_entry (λ i j. bytes_eq (f i) (f j)) old k place → f k ≡ name → place_in f old name ≡ None →
    (other : List ℕ) → place_in f new other ≡ option_or (place_in f old other) (cond (bytes_eq other name) (Some place) None)
noted {K} f old new k name place e n free other =
    ap (λ (l : List (K × ℕ)). place_in f l other) (e ∙ insert-new (λ i j. bytes_eq (f i) (f j)) old k place (subst (λ m. place_in f old m ≡ None) (sym n) free))
    ∙ lookup-more (λ j. bytes_eq other (f j)) old k place
    ∙ ap (λ m. option_or (place_in f old other) (cond (bytes_eq other m) (Some place) None)) n

or-none : {X : Type 0} (o : Option X) → o ≡ option_or o None
or-none None = refl
or-none (Some x) = refl

-- a name that was there needs no note
pub known : {K : Type 0} (f : K → List ℕ) (entries : List (K × ℕ)) (name : List ℕ) (place found : ℕ) → place_in f entries name ≡ Some found →
    (other : List ℕ) → place_in f entries other ≡ option_or (place_in f entries other) (cond (bytes_eq other name) (Some place) None)
known f entries name place found is other = by_case (bytes_eq other name) refl
  where
    by_case : (b : Bool) → bytes_eq other name ≡ b → place_in f entries other ≡ option_or (place_in f entries other) (cond b (Some place) None)
    by_case true e = let s : place_in f entries other ≡ Some found = ap (place_in f entries) ((bytes_eq-Decides other name).0 e) ∙ is in s ∙ sym (ap (λ o. option_or o (Some place)) s)
    by_case false e = or-none (place_in f entries other)

position_from-more : {X : Type 0} (test : X → Bool) (n k : ℕ) (xs : List X) (y : X) → k ≡ n + length xs → position_from test n (xs ++ y ∷ []) ≡ option_or (position_from test n xs) (cond (test y) (Some k) None)
position_from-more test n k [] y e = let z : n ≡ k = omega (arith, e) in ap (λ m. cond (test y) (Some m) None) z
position_from-more test n k (x ∷ xs) y e = by_case (test x) (position_from-more test (n + 1) k xs y (omega (arith, e)))
  where
    by_case : (b : Bool) → position_from test (n + 1) (xs ++ y ∷ []) ≡ option_or (position_from test (n + 1) xs) (cond (test y) (Some k) None) → cond b (Some n) (position_from test (n + 1) (xs ++ y ∷ [])) ≡ option_or (cond b (Some n) (position_from test (n + 1) xs)) (cond (test y) (Some k) None)
    by_case true go = refl
    by_case false go = go

place-more : (names : List (List ℕ)) (new other : List ℕ) → place_of (names ++ new ∷ []) other ≡ option_or (place_of names other) (cond (bytes_eq other new) (Some (length names)) None)
place-more names new other =
    position_from-zero (bytes_eq other) (names ++ new ∷ [])
    ∙ position_from-more (bytes_eq other) 0 (length names) names new (omega arith)
    ∙ ap (λ o. option_or o (cond (bytes_eq other new) (Some (length names)) None)) (sym (position_from-zero (bytes_eq other) names))

-- a name more
pub places_more : {K V : Type 0} (f : K → List ℕ) (v : V → List ℕ) (names : List V) (i : ℕ) (d : V) (old new : List (K × ℕ)) → i < length names →
    ArePlaces f (map v (take i names)) old →
    ((other : List ℕ) → place_in f new other ≡ option_or (place_in f old other) (cond (bytes_eq other (v (get_or names i d))) (Some i) None)) →
    ArePlaces f (map v (take (i + 1) names)) new
places_more f v names i d old new l are more = λ name.
    more name
    ∙ ap (λ o. option_or o (cond (bytes_eq name (v (get_or names i d))) (Some i) None)) (are name)
    ∙ ap {A = ℕ} (λ k. option_or (place_of (map v (take i names)) name) (cond (bytes_eq name (v (get_or names i d))) (Some k) None)) (sym (length-map (take i names) v ∙ length-take-le i names (omega (arith, l))))
    ∙ sym (place-more (map v (take i names)) (v (get_or names i d)) name)
    ∙ ap (λ l. place_of l name) (sym (map_more v names i d l))

-- what is known of an answer that is Ok
pub of_ok : {P E : Type 0} (r : Result (Unit {0}) E) (x : Unit {0}) → r ≡ Ok x → P → OnOk r P
of_ok {P} r x e h = subst (λ r. OnOk r P) (sym e) h

pub of_err : {E : Type 0} (P : Type 0) (r : Result (Unit {0}) E) (y : E) → r ≡ Err y → OnOk r P
of_err P r y e = subst (λ r. OnOk r P) (sym e) tt
