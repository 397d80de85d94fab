-- Names whose first places are noted.
use Rattle.std.proofs.Common.{◌≡◌, ◌+◌, ◌<◌, ◌≤◌, ℕ, Bool, not, true, false, cond, nat_eq, nat_lt, List, [], ◌∷◌, ◌++◌, map, length, take, get_or, Option, Some, None, option_copied, is_some, position, refl, ap, sym, subst, ◌∙◌, arith, length-append}
use Rattle.std.specs.{Borrow.Bor, List.position_or_len, Map.lookup, Option.option_or, Str.bytes_eq}
use Rattle.std.proofs.{lemmas.List.map_more, lemmas.List.length-map, lemmas.List.length-take-le, lemmas.List.Folds.position_or_len_push, lemmas.List.Sums.prefix_len-le-length, lemmas.Slice.Eq.bytes_eq-Decides, lemmas.Grind.common_steps, lemmas.Bool.Decides.nat_tests}
use Rattle.qapi_types.specs.Lookups.{place_of}
use Rattle.qapi_rules.specs.Directories.{place_in, ArePlaces}

-- an entry more
lookup-more : {K X : Type 0} (test : K → Bool) (es : List (K × X)) (k : K) (x : X) → lookup test (es ++ (k, x) ∷ []) ≡ option_or (lookup test es) (cond (test k) (Some x) None)
lookup-more test [] k x = refl
lookup-more test (e ∷ es) k x = by_case (lookup-more test es k x) (test e.0)
  where
    by_case : lookup test (es ++ (k, x) ∷ []) ≡ option_or (lookup test es) (cond (test k) (Some x) None) → (b : Bool) → cond b (Some e.1) (lookup test (es ++ (k, x) ∷ [])) ≡ option_or (cond b (Some e.1) (lookup test es)) (cond (test k) (Some x) None)
    by_case go true = refl
    by_case go false = go

-- a name that has no place yet is noted
pub noted : (old new : List (Bor (List ℕ) × ℕ)) (k : Bor (List ℕ)) (place : ℕ) → new ≡ old ++ (k, place) ∷ [] → (other : List ℕ) → place_in new other ≡ option_or (place_in old other) (cond (bytes_eq other k.now) (Some place) None)
noted old new k place e other = ap (λ (es : List (Bor (List ℕ) × ℕ)). place_in es other) e ∙ lookup-more (λ (j : Bor (List ℕ)). bytes_eq other j.now) old k place

stays : (o p : Option ℕ) → is_some o ≡ true → o ≡ option_or o p
stays None p h = cc
stays (Some x) p h = refl

or-none : (o : Option ℕ) → o ≡ option_or o None
or-none None = refl
or-none (Some x) = refl

-- a name that has a place
pub kept : (es : List (Bor (List ℕ) × ℕ)) (name : List ℕ) (place : ℕ) → is_some (place_in es name) ≡ true → (other : List ℕ) → place_in es other ≡ option_or (place_in es other) (cond (bytes_eq other name) (Some place) None)
kept es name place h other = by_case (bytes_eq other name) refl
  where
    by_case : (b : Bool) → bytes_eq other name ≡ b → place_in es other ≡ option_or (place_in es other) (cond b (Some place) None)
    by_case true e = stays (place_in es other) (Some place) (subst (λ (n : List ℕ). is_some (place_in es n) ≡ true) (sym ((bytes_eq-Decides other name).0 e)) h)
    by_case false e = or-none (place_in es other)

first-place : (m n more long : ℕ) (b : Bool) → m ≤ n → long ≡ n + 1 → more ≡ cond (nat_eq m n) (n + cond b 0 1) m → cond (nat_lt more long) (Some more) None ≡ option_or (cond (nat_lt m n) (Some m) None) (cond b (Some n) None)
first-place m n more long b l e h = grind (arith, common_steps, nat_tests)

-- what was looked up is not there
pub none_from : (o : Option (Bor ℕ)) (p : Option ℕ) → option_copied o ≡ p → is_some o ≡ false → p ≡ None
none_from None p e h = sym e
none_from (Some x) p e h = cc

-- the first place in a list with one more
position-more : (p : List ℕ → Bool) (xs : List (List ℕ)) (y : List ℕ) → position p (xs ++ y ∷ []) ≡ option_or (position p xs) (cond (p y) (Some (length xs)) None)
position-more p xs y = first-place (position_or_len p xs) (length xs) (position_or_len p (xs ++ y ∷ [])) (length (xs ++ y ∷ [])) (p y) (prefix_len-le-length (λ x. not (p x)) xs) (omega (arith, length-append xs (y ∷ []))) (position_or_len_push p xs y)

-- one more of the names is noted
pub places_more : {K : Type 0} (f : K → List ℕ) (ks : List K) (i : ℕ) (d : K) (old new : List (Bor (List ℕ) × ℕ)) → i < length ks → ArePlaces (map f (take i ks)) old → ((other : List ℕ) → place_in new other ≡ option_or (place_in old other) (cond (bytes_eq other (f (get_or ks i d))) (Some i) None)) → ArePlaces (map f (take (i + 1) ks)) new
places_more {K} f ks i d old new l a n = λ other.
    n other
    ∙ ap (λ (o : Option ℕ). option_or o (cond (bytes_eq other (f (get_or ks i d))) (Some i) None)) (a other)
    ∙ ap (λ (m : ℕ). option_or (place_of (map f (take i ks)) other) (cond (bytes_eq other (f (get_or ks i d))) (Some m) None)) (sym long)
    ∙ sym (position-more (bytes_eq other) (map f (take i ks)) (f (get_or ks i d)))
    ∙ ap (λ (ns : List (List ℕ)). place_of ns other) (sym (map_more f ks i d l))
  where
    long : length (map f (take i ks)) ≡ i
    long = length-map _ _ ∙ length-take-le i ks (omega arith)
