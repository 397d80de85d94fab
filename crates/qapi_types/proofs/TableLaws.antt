-- Tables of names, seen through what holds them.
use Rattle.std.proofs.Common.{◌≡◌, ◌+◌, ℕ, Bool, not, true, false, cond, List, [], ◌∷◌, ◌++◌, map, length, Option, position, Result, Ok, Err, OnOk, take, get_or, ◌<◌, refl, ap, sym, subst, ◌∙◌}
use Rattle.std.specs.{List.list_any, List.position_or_len, Str.bytes_eq}
use Rattle.std.specs.Prelude.{if◌then◌else◌}
use Rattle.std.proofs.lemmas.List.{length-map, map_more}
use Rattle.qapi_types.specs.{Choices.AreApart, Choices.stands, Lookups.place_of, Lookups.with_name}
use Rattle.qapi_types.proofs.{NameLemmas.list_any-map, SetLaws.stands_before}

position_or_len-map : {X Y : Type 0} (f : X → Y) (p : Y → Bool) (xs : List X) → position_or_len p (map f xs) ≡ position_or_len (λ x. p (f x)) xs
position_or_len-map f p [] = refl
position_or_len-map f p (x ∷ xs) = ap (λ (n : ℕ). cond (not (p (f x))) (1 + n) 0) (position_or_len-map f p xs)

pub position-map : {X Y : Type 0} (f : X → Y) (p : Y → Bool) (xs : List X) → position p (map f xs) ≡ position (λ x. p (f x)) xs
position-map f p xs = rw (position_or_len-map f p xs, length-map) refl

pub numbered : {K : Type 0} (f : K → List ℕ) (keys : List K) (names : List (List ℕ)) (name : List ℕ) (result : Option ℕ) → result ≡ position (λ k. bytes_eq name (f k)) keys → map f keys ≡ names → result ≡ place_of names name
numbered f keys names name result e v = e ∙ sym (position-map f (bytes_eq name) keys) ∙ ap (λ (l : List (List ℕ)). place_of l name) v

map-more : {X Y : Type 0} (f : X → Y) (xs : List X) (x : X) → map f (xs ++ x ∷ []) ≡ map f xs ++ f x ∷ []
map-more f [] x = refl
map-more f (y ∷ xs) x = ap (λ l. f y ∷ l) (map-more f xs x)

pub named : {K : Type 0} (f : K → List ℕ) (keys new : List K) (k : K) (names : List (List ℕ)) (name : List ℕ) → new ≡ (if list_any (λ j. bytes_eq (f k) (f j)) keys then keys else keys ++ k ∷ []) → f k ≡ name → map f keys ≡ names → map f new ≡ with_name names name
named f keys new k names name e n v =
    ap (map f) e ∙ by_case (list_any (λ j. bytes_eq (f k) (f j)) keys)
    ∙ ap (λ (b : Bool). cond b (map f keys) (map f keys ++ f k ∷ [])) (sym (list_any-map f (bytes_eq (f k)) keys))
    ∙ ap (λ (l : List (List ℕ)). with_name l (f k)) v ∙ ap (with_name names) n
  where
    by_case : (b : Bool) → map f (if b then keys else keys ++ k ∷ []) ≡ cond b (map f keys) (map f keys ++ f k ∷ [])
    by_case true = refl
    by_case false = map-more f keys k

-- what is known of an answer that is Ok
pub of_ok : {P E : Type 0} (r : Result (Unit {0}) E) (x : Unit {0}) → r ≡ Ok x → P → OnOk r P
of_ok {P} r x e h = subst (λ r. OnOk r P) (sym e) h

pub of_err : {E : Type 0} (P : Type 0) (r : Result (Unit {0}) E) (y : E) → r ≡ Err y → OnOk r P
of_err P r y e = subst (λ r. OnOk r P) (sym e) tt

-- one more of the names that differ
pub table_more : {K : Type 0} (f : K → List ℕ) (ks : List K) (i : ℕ) (d : K) (old new : List (List ℕ)) → i < length ks → AreApart (map f ks) → old ≡ map f (take i ks) → new ≡ with_name old (f (get_or ks i d)) → new ≡ map f (take (i + 1) ks)
table_more {K} f ks i d old new l all o e = e ∙ ap (λ (ns : List (List ℕ)). with_name ns (f (get_or ks i d))) o ∙ by_case (stands (f (get_or ks i d)) (map f (take i ks))) refl ∙ sym (map_more f ks i d l)
  where
    by_case : (b : Bool) → stands (f (get_or ks i d)) (map f (take i ks)) ≡ b → cond b (map f (take i ks)) (map f (take i ks) ++ f (get_or ks i d) ∷ []) ≡ map f (take i ks) ++ f (get_or ks i d) ∷ []
    by_case true s = absurd (stands_before f ks i d l s all)
    by_case false s = refl
