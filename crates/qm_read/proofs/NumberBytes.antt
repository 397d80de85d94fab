-- Literals of numbers are runs of the bytes of numbers.
use Rattle.std.proofs.Common.{◌≡◌, ℕ, ◌+◌, Bool, true, false, cond, ◌&&◌, ◌||◌, ◌==◌, nat_lt, suc, List, [], ◌∷◌, take, drop, refl, subst, arith}
use Rattle.std.specs.{Char.is_ascii_digit, List.list_all}
use Rattle.std.proofs.lemmas.Bool.{and_from, and_parts, Decides.nat_tests}
use Rattle.qm_frame.specs.Bytes.{is_space, begins_number, in_number}
use Rattle.qm_json.specs.Numbers.{digits_len, is_digits, after_sign, is_exponent, is_fraction, is_whole_part, is_unsigned_literal, is_literal}

digit-in : (x : ℕ) → is_ascii_digit x ≡ true → in_number x ≡ true
digit-in x h = grind (arith, nat_tests, h)

digits-in : (text : List ℕ) → list_all is_ascii_digit text ≡ true → list_all in_number text ≡ true
digits-in [] h = refl
digits-in (x ∷ text) h = let parts = and_parts _ (list_all is_ascii_digit text) h in and_from _ _ (digit-in x parts.0) (digits-in text parts.1)

-- digits at the front, and bytes of numbers after them
after-digits : (text : List ℕ) → list_all in_number (drop (digits_len text) text) ≡ true → list_all in_number text ≡ true
after-digits [] h = refl
after-digits (x ∷ text) h = by (is_ascii_digit x) refl (after-digits text) h
  where
    by : (b : Bool) → is_ascii_digit x ≡ b → (list_all in_number (drop (digits_len text) text) ≡ true → list_all in_number text ≡ true) → list_all in_number (drop (cond b (1 + digits_len text) 0) (x ∷ text)) ≡ true → list_all in_number (x ∷ text) ≡ true
    by true e rest k = and_from _ _ (digit-in x e) (rest (let one : 1 + digits_len text ≡ suc (digits_len text) = omega arith in subst (λ (n : ℕ). list_all in_number (drop n (x ∷ text)) ≡ true) one k))
    by false e rest k = k

signed-digits : (text : List ℕ) → is_digits (after_sign text) ≡ true → list_all in_number text ≡ true
signed-digits [] h = refl
signed-digits (x ∷ text) h = by (x == 43 || x == 45) refl h
  where
    by : (b : Bool) → (x == 43 || x == 45) ≡ b → is_digits (cond b text (x ∷ text)) ≡ true → list_all in_number (x ∷ text) ≡ true
    by true e k = and_from _ _ (grind (arith, nat_tests, e)) (digits-in text (and_parts _ (list_all is_ascii_digit text) k).1)
    by false e k = digits-in (x ∷ text) (and_parts _ (list_all is_ascii_digit (x ∷ text)) k).1

exponent-in : (text : List ℕ) → is_exponent text ≡ true → list_all in_number text ≡ true
exponent-in [] h = refl
exponent-in (x ∷ text) h =
    let parts = and_parts (x == 101 || x == 69) (is_digits (after_sign text)) h in
    and_from _ _ (grind (arith, nat_tests, parts.0)) (signed-digits text parts.1)

fraction-in : (text : List ℕ) → is_fraction text ≡ true → list_all in_number text ≡ true
fraction-in [] h = refl
fraction-in (x ∷ text) h = by (x == 46) refl h
  where
    by : (b : Bool) → (x == 46) ≡ b → cond b (nat_lt 0 (digits_len text) && is_exponent (drop (digits_len text) text)) (is_exponent (x ∷ text)) ≡ true → list_all in_number (x ∷ text) ≡ true
    by true e k = and_from _ _ (grind (arith, nat_tests, e)) (after-digits text (exponent-in (drop (digits_len text) text) (and_parts _ (is_exponent (drop (digits_len text) text)) k).1))
    by false e k = exponent-in (x ∷ text) k

unsigned-in : (text : List ℕ) → is_unsigned_literal text ≡ true → list_all in_number text ≡ true
unsigned-in text h = after-digits text (fraction-in (drop (digits_len text) text) (and_parts (is_whole_part (take (digits_len text) text)) _ h).1)

first-digit : (x : ℕ) (text : List ℕ) → is_unsigned_literal (x ∷ text) ≡ true → is_ascii_digit x ≡ true
first-digit x text h = by (is_ascii_digit x) refl (and_parts (is_whole_part (take (digits_len (x ∷ text)) (x ∷ text))) _ h).0
  where
    by : (b : Bool) → is_ascii_digit x ≡ b → is_whole_part (take (cond b (1 + digits_len text) 0) (x ∷ text)) ≡ true → is_ascii_digit x ≡ true
    by true e k = e
    by false e k = cc

-- a byte that begins a number, and bytes of numbers after it
pub record IsRun (text : List ℕ) : Type 0 where
  pub first : ℕ
  pub more : List ℕ
  pub is : text ≡ first ∷ more
  pub space : is_space first ≡ false
  pub begins : begins_number first ≡ true
  pub goes : list_all in_number more ≡ true

pub literal-run : (text : List ℕ) → is_literal text ≡ true → IsRun text
literal-run [] h = cc
literal-run (x ∷ text) h = by (x == 45) refl h
  where
    by : (b : Bool) → (x == 45) ≡ b → is_unsigned_literal (cond b text (x ∷ text)) ≡ true → IsRun (x ∷ text)
    by true e k = record { first = x; more = text; is = refl; space = grind (arith, nat_tests, e); begins = grind (arith, nat_tests, e); goes = unsigned-in text k }
    by false e k =
        let d = first-digit x text k in
        record { first = x; more = text; is = refl; space = grind (arith, nat_tests, d); begins = grind (arith, nat_tests, d); goes = (and_parts _ (list_all in_number text) (unsigned-in (x ∷ text) k)).1 }
