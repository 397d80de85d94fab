-- The digits of a number, of any size.
use Rattle.std.proofs.Common.{◌≡◌, ℕ, ◌+◌, ◌/◌, ◌%◌, ◌^◌, ◌<◌, zero, suc, true, false, ◌==◌, nat_lt, List, [], ◌∷◌, ◌++◌, refl, arith}
use Rattle.std.specs.Char.{is_ascii_digit}
use Rattle.std.specs.Fmt.{decimal, digits, digits_onto, digit_glyph}
use Rattle.std.specs.List.{list_all}
use Rattle.std.proofs.lemmas.Bool.{and_parts, and_from, cond_both}
use Rattle.std.proofs.lemmas.Bool.Decides.{nat_tests}
use Rattle.std.proofs.lemmas.Fmt.{decimal_injective}
use Rattle.qm_history.specs.Lines.{stays_in_line, IsLine}
use Rattle.qm_history.proofs.Cuts.{cut_runs}

glyph-digit : (d : ℕ) → d < 10 → is_ascii_digit (digit_glyph false d) ≡ true
glyph-digit d h = cond_both (nat_lt d 10) (48 + d) _ (λ (x : ℕ). is_ascii_digit x ≡ true) (λ k. grind (arith, nat_tests)) (λ k. absurd (grind (arith, nat_tests, k)))

onto-digits : (k n : ℕ) (acc : List ℕ) → list_all is_ascii_digit acc ≡ true → list_all is_ascii_digit (digits_onto k 10 false n acc) ≡ true
onto-digits zero n acc h = h
onto-digits (suc k) n acc h =
    let small : n % 10 < 10 = omega arith in
    let more : list_all is_ascii_digit (digit_glyph false (n % 10) ∷ acc) ≡ true = and_from _ _ (glyph-digit (n % 10) small) h in
    cond_both (n / 10 == 0) _ _ (λ (l : List ℕ). list_all is_ascii_digit l ≡ true) (λ _. more) (λ _. onto-digits k (n / 10) (digit_glyph false (n % 10) ∷ acc) more)

pub all_digits : (n : ℕ) → list_all is_ascii_digit (decimal n) ≡ true
unfolding digits
all_digits n = onto-digits 64 n [] refl

digit-stays : (x : ℕ) → is_ascii_digit x ≡ true → stays_in_line x ≡ true
digit-stays x h = grind (arith, nat_tests, h)

digits-line : (ds : List ℕ) → list_all is_ascii_digit ds ≡ true → IsLine ds
digits-line [] h = refl
digits-line (d ∷ ds) h = let p = and_parts (is_ascii_digit d) (list_all is_ascii_digit ds) h in and_from _ _ (digit-stays d p.0) (digits-line ds p.1)

pub decimal-line : (n : ℕ) → IsLine (decimal n)
decimal-line n = digits-line (decimal n) (all_digits n)

-- a number before a byte that is no digit
pub number-told : (m n x y : ℕ) (a b : List ℕ) → m < 2 ^ 64 → n < 2 ^ 64 → is_ascii_digit x ≡ false → is_ascii_digit y ≡ false → decimal m ++ x ∷ a ≡ decimal n ++ y ∷ b → (m ≡ n) × (x ∷ a ≡ y ∷ b)
number-told m n x y a b h k p q e =
    let cut = cut_runs is_ascii_digit (decimal m) (decimal n) (x ∷ a) (y ∷ b) (all_digits m) (all_digits n) p q e in
    (decimal_injective m n h k cut.0, cut.1)
