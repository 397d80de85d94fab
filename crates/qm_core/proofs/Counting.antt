-- How many items of a list pass a test.
use Rattle.std.proofs.Common.{◌≡◌, ℕ, ◌+◌, Bool, true, false, cond, ◌||◌, List, [], ◌∷◌, ◌++◌, reverse, refl, ap, ◌∙◌, arith}
use Rattle.std.specs.List.{count_by, list_any}
use Rattle.std.proofs.lemmas.List.{reverse-append}
use Rattle.std.proofs.lemmas.List.Folds.{list_any-append}
use Rattle.std.proofs.lemmas.List.Sums.{sum_by-cons, sum_by-append}

-- one where the test is passed
abbrev pub unit : Bool → ℕ
unit b = cond b 1 0

pub count-cons : {X : Type 0} (p : X → Bool) (x : X) (xs : List X) → count_by p (x ∷ xs) ≡ unit (p x) + count_by p xs
count-cons p x xs = sum_by-cons (λ y. cond (p y) 1 0) x xs

pub count-append : {X : Type 0} (p : X → Bool) (xs ys : List X) → count_by p (xs ++ ys) ≡ count_by p xs + count_by p ys
count-append p xs ys = sum_by-append (λ y. cond (p y) 1 0) xs ys

pub count-push : {X : Type 0} (p : X → Bool) (xs : List X) (x : X) → count_by p (xs ++ x ∷ []) ≡ count_by p xs + unit (p x)
count-push p xs x =
    let last : count_by p (x ∷ []) ≡ unit (p x) + 0 = count-cons p x [] in
    let both = count-append p xs (x ∷ []) in
    omega (arith, last, both)

reverse-cons : {X : Type 0} (x : X) (xs : List X) → reverse (x ∷ xs) ≡ reverse xs ++ x ∷ []
reverse-cons x xs = reverse-append (x ∷ []) xs

pub count-reverse : {X : Type 0} (p : X → Bool) (xs : List X) → count_by p (reverse xs) ≡ count_by p xs
count-reverse p [] = refl
count-reverse {X} p (x ∷ xs) =
    let turned : count_by p (reverse (x ∷ xs)) ≡ count_by p (reverse xs) + unit (p x) = ap (λ (l : List X). count_by p l) (reverse-cons x xs) ∙ count-push p (reverse xs) x in
    omega (arith, turned, count-cons p x xs, count-reverse p xs)

pub any-reverse : {X : Type 0} (p : X → Bool) (xs : List X) → list_any p (reverse xs) ≡ list_any p xs
any-reverse p [] = refl
any-reverse {X} p (x ∷ xs) =
    ap (λ (l : List X). list_any p l) (reverse-cons x xs) ∙ list_any-append p (reverse xs) (x ∷ []) ∙ ap (λ (b : Bool). b || (p x || false)) (any-reverse p xs) ∙ turned (list_any p xs) (p x) where
      turned : (a b : Bool) → (a || (b || false)) ≡ (b || a)
      turned true true = refl
      turned true false = refl
      turned false true = refl
      turned false false = refl
