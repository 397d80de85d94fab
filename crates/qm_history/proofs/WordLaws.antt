-- Words of a line: what was put is found.
use Rattle.std.proofs.Common.{◌≡◌, ℕ, ◌+◌, ◌^◌, ◌<◌, zero, suc, Bool, true, false, not, ◌&&◌, ◌==◌, nat_lt, List, [], ◌∷◌, ◌++◌, length, drop, get_or, Some, None, position, refl, ap, ◌∙◌, arith, length-append}
use Rattle.std.specs.Char.{is_ascii_digit}
use Rattle.std.specs.Fmt.{decimal}
use Rattle.std.specs.List.{list_all, prefix_len}
use Rattle.std.specs.Option.{option_and_then}
use Rattle.std.specs.Str.Parse.{digits_value}
use Rattle.std.proofs.lemmas.Bool.{and_parts, and_from, cond-true}
use Rattle.std.proofs.lemmas.Bool.Decides.{nat_tests}
use Rattle.std.proofs.lemmas.Fmt.{decimal_nonempty, first_decimal, decimal_digit, decimal_is_IsNumeral}
use Rattle.std.proofs.Math.Seq.{take-append_seam}
use Rattle.qm_base.specs.Numerals.{number_of, is_numeral, has_leading_zero}
use Rattle.qm_history.specs.Words.{is_blank, before_at, after_at, before_blank, after_blank, below, session_number}
use Rattle.qm_history.proofs.Digits.{all_digits}

both-false : (a b : Bool) → b ≡ false → (a && b) ≡ false
both-false true b h = h
both-false false b h = refl

-- a number is read from its digits
no_zero : (n : ℕ) → n < 2 ^ 64 → has_leading_zero (decimal n) ≡ false
no_zero zero h = rw (decimal_digit 0 (omega arith)) refl
no_zero (suc n) h = first (decimal (suc n)) (first_decimal (suc n) (omega arith) h)
  where
    first : (ds : List ℕ) → 48 < get_or ds 0 0 → has_leading_zero ds ≡ false
    first [] g = refl
    first (d ∷ ds) g = let other : (d == 48) ≡ false = grind (arith, nat_tests) in both-false (nat_lt 1 (length (d ∷ ds))) (d == 48) other

pub number-decimal : (n : ℕ) → n < 2 ^ 64 → number_of (decimal n) ≡ Some n
number-decimal n h =
    let some : nat_lt 0 (length (decimal n)) ≡ true = filled (length (decimal n)) (decimal_nonempty n h) in
    let value : digits_value 10 (decimal n) ≡ n = (decimal_is_IsNumeral n h).1 in
    let small : nat_lt n (2 ^ 64) ≡ true = grind (arith, nat_tests) in
    let numeral : is_numeral (decimal n) ≡ true = rw (some, no_zero n h, all_digits n) refl in
    rw (numeral, value, small) refl
  where
    filled : (k : ℕ) → 0 < k → nat_lt 0 k ≡ true
    filled k g = grind (arith, nat_tests)

pub session-decimal : (s : ℕ) → s < 2 ^ 32 → session_number (decimal s) ≡ Some s
session-decimal s h = let small : nat_lt s (2 ^ 32) ≡ true = grind (arith, nat_tests) in ap (option_and_then (below (2 ^ 32))) (number-decimal s (omega (arith, h))) ∙ cond-true _ _ _ small

-- blanks

abbrev pub IsWord : List ℕ → Type 0
IsWord w = list_all (λ x. not (is_blank x)) w ≡ true

digit-word : (x : ℕ) → is_ascii_digit x ≡ true → not (is_blank x) ≡ true
digit-word x h = grind (arith, nat_tests, h)

digits-word : (ds : List ℕ) → list_all is_ascii_digit ds ≡ true → IsWord ds
digits-word [] h = refl
digits-word (d ∷ ds) h = let p = and_parts (is_ascii_digit d) (list_all is_ascii_digit ds) h in and_from _ _ (digit-word d p.0) (digits-word ds p.1)

pub decimal-word : (n : ℕ) → IsWord (decimal n)
decimal-word n = digits-word (decimal n) (all_digits n)

blank-place : (w r : List ℕ) → IsWord w → prefix_len (λ x. not (is_blank x)) (w ++ 32 ∷ r) ≡ length w
blank-place [] r h = refl
blank-place (x ∷ w) r h = let p = and_parts (not (is_blank x)) (list_all (λ x. not (is_blank x)) w) h in cond-true _ _ _ p.0 ∙ ap (λ (n : ℕ). 1 + n) (blank-place w r p.1) ∙ one (length w)
  where
    one : (n : ℕ) → 1 + n ≡ suc n
    one n = omega arith

no-blank : (w : List ℕ) → IsWord w → prefix_len (λ x. not (is_blank x)) w ≡ length w
no-blank [] h = refl
no-blank (x ∷ w) h = let p = and_parts (not (is_blank x)) (list_all (λ x. not (is_blank x)) w) h in cond-true _ _ _ p.0 ∙ ap (λ (n : ℕ). 1 + n) (no-blank w p.1) ∙ one (length w)
  where
    one : (n : ℕ) → 1 + n ≡ suc n
    one n = omega arith

blank-at : (w r : List ℕ) → IsWord w → position is_blank (w ++ 32 ∷ r) ≡ Some (length w)
blank-at w r h =
    let long : length (w ++ 32 ∷ r) ≡ length w + suc (length r) = length-append w (32 ∷ r) in
    let within : nat_lt (length w) (length (w ++ 32 ∷ r)) ≡ true = grind (arith, nat_tests, long) in
    rw (blank-place w r h, within) refl

no-blank-at : (w : List ℕ) → IsWord w → position is_blank w ≡ None
no-blank-at w h = let past : nat_lt (length w) (length w) ≡ false = grind (arith, nat_tests) in rw (no-blank w h, past) refl

drop-past : (w r : List ℕ) (x : ℕ) → drop (length w + 1) (w ++ x ∷ r) ≡ r
drop-past [] r x = refl
drop-past (y ∷ w) r x = ap (λ (n : ℕ). drop n (y ∷ w ++ x ∷ r)) (later (length w)) ∙ drop-past w r x
  where
    later : (n : ℕ) → suc n + 1 ≡ suc (n + 1)
    later n = omega arith

pub before-word : (w r : List ℕ) → IsWord w → before_blank (w ++ 32 ∷ r) ≡ w
before-word w r h = ap (before_at (w ++ 32 ∷ r)) (blank-at w r h) ∙ take-append_seam w (32 ∷ r)

pub after-word : (w r : List ℕ) → IsWord w → after_blank (w ++ 32 ∷ r) ≡ r
after-word w r h = ap (after_at (w ++ 32 ∷ r)) (blank-at w r h) ∙ drop-past w r 32
