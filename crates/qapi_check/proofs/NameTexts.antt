-- Names that are formed as names are ASCII, so they are UTF-8.
use Rattle.std.proofs.Common.{◌≡◌, ◌<◌, ◌+◌, ◌&&◌, ◌==◌, ℕ, zero, suc, Bool, true, false, cond, List, [], ◌∷◌, length, take, drop, Option, Some, None, slice_get, position, refl, subst, arith}
use Rattle.std.specs.Prelude.{nat_eq, nat_lt}
use Rattle.std.specs.{List.list_all, List.starts_with, Str.IsAscii, Str.is_utf8}
use Rattle.std.proofs.lemmas.{Bool.and_parts, Bool.Decides.Decides-eqb, Bool.Decides.nat_tests}
use Rattle.std.proofs.lemmas.{Str.IsUtf8-from_ascii, Str.is_utf8-from_IsUtf8, Str.Ascii.IsAscii-cons, Str.Ascii.IsAscii-nil}
use Rattle.qapi_rules.specs.Names.{domain_end, is_domain, is_domain_byte, is_formed, is_name, is_name_byte, is_plain, is_split_at, may_begin}
use Rattle.qapi_check.proofs.ListLaws.{at-found}

name-byte : (b : ℕ) → is_name_byte b ≡ true → b < 128
name-byte b h = grind (arith, nat_tests, h)

domain-byte : (b : ℕ) → is_domain_byte b ≡ true → b < 128
domain-byte b h = grind (arith, nat_tests, h)

first-byte : (digit_first : Bool) (b : ℕ) → may_begin digit_first b ≡ true → b < 128
first-byte true b h = grind (arith, nat_tests, h)
first-byte false b h = grind (arith, nat_tests, h)

all-ascii : (test : ℕ → Bool) → ((b : ℕ) → test b ≡ true → b < 128) → (bytes : List ℕ) → list_all test bytes ≡ true → IsAscii bytes
all-ascii test small [] h = IsAscii-nil
all-ascii test small (b ∷ bytes) h =
    let parts = and_parts (test b) (list_all test bytes) h in
    IsAscii-cons b bytes (small b parts.0) (all-ascii test small bytes parts.1)

plain-ascii : (digit_first : Bool) (bytes : List ℕ) → is_plain digit_first bytes ≡ true → IsAscii bytes
unfolding is_plain
plain-ascii digit_first [] h = IsAscii-nil
plain-ascii digit_first (b ∷ bytes) h =
    let parts = and_parts (nat_lt 0 (length (b ∷ bytes)) && may_begin digit_first b) (list_all is_name_byte bytes) h in
    let first = and_parts (nat_lt 0 (length (b ∷ bytes))) (may_begin digit_first b) parts.0 in
    IsAscii-cons b bytes (first-byte digit_first b first.1) (all-ascii is_name_byte name-byte bytes parts.1)

domain-ascii : (bytes : List ℕ) → is_domain bytes ≡ true → IsAscii bytes
unfolding is_domain
domain-ascii bytes h = all-ascii is_domain_byte domain-byte bytes (and_parts (nat_lt 0 (length bytes)) (list_all is_domain_byte bytes) h).1

-- ASCII before a byte and after it
around : (bytes : List ℕ) (end b : ℕ) → slice_get bytes end ≡ Some b → b < 128 → IsAscii (take end bytes) → IsAscii (drop (suc end) bytes) → IsAscii bytes
around [] end b h l front back = cc
around (x ∷ bytes) zero b h l front back = let e : x ≡ b = cc in IsAscii-cons x bytes (omega (arith, e, l)) back
around (x ∷ bytes) (suc end) b h l front back = IsAscii-cons x bytes (front 0) (around bytes end b h l (λ i. front (suc i)) back)

split-ascii : (digit_first : Bool) (bytes : List ℕ) (place : Option ℕ) → position (λ b. b == 95) bytes ≡ place → is_split_at digit_first bytes place ≡ true → IsAscii bytes
split-ascii digit_first bytes None e h = cc
split-ascii digit_first bytes (Some end) e h =
    let parts = and_parts (is_domain (take end bytes)) (is_plain digit_first (drop (end + 1) bytes)) h in
    let mark = at-found (λ b. b == 95) end bytes e in
    let is : mark.0 ≡ 95 = (Decides-eqb mark.0 95).0 mark.2 in
    around bytes end mark.0 mark.1 (omega (arith, is)) (domain-ascii (take end bytes) parts.0)
    (let next : end + 1 ≡ suc end = omega arith in subst (λ (k : ℕ). IsAscii (drop k bytes)) next (plain-ascii digit_first (drop (end + 1) bytes) parts.1))

-- what begins with __
prefix-ascii : (bytes : List ℕ) → starts_with nat_eq bytes (95 ∷ 95 ∷ []) ≡ true → IsAscii (drop 2 bytes) → IsAscii bytes
prefix-ascii [] s h = IsAscii-nil
prefix-ascii (x ∷ []) s h = IsAscii-cons x [] (grind (arith, nat_tests, s)) IsAscii-nil
prefix-ascii (x ∷ y ∷ bytes) s h = IsAscii-cons x (y ∷ bytes) (grind (arith, nat_tests, s)) (IsAscii-cons y bytes (grind (arith, nat_tests, s)) h)

formed-ascii : (digit_first : Bool) (bytes : List ℕ) → is_formed digit_first bytes ≡ true → IsAscii bytes
unfolding is_formed domain_end
formed-ascii digit_first bytes h = by_case (starts_with nat_eq bytes (95 ∷ 95 ∷ [])) refl h
  where
    by_case : (b : Bool) → starts_with nat_eq bytes (95 ∷ 95 ∷ []) ≡ b → cond b (is_split_at digit_first (drop 2 bytes) (position (λ b. b == 95) (drop 2 bytes))) (is_plain digit_first bytes) ≡ true → IsAscii bytes
    by_case true e k = prefix-ascii bytes e (split-ascii digit_first (drop 2 bytes) (position (λ b. b == 95) (drop 2 bytes)) refl k)
    by_case false e k = plain-ascii digit_first bytes k

ascii-text : (bytes : List ℕ) → IsAscii bytes → is_utf8 bytes ≡ true
ascii-text bytes h = is_utf8-from_IsUtf8 bytes (IsUtf8-from_ascii bytes h)

-- a name is UTF-8
pub name-text : (digit_first : Bool) (name : List ℕ) → is_name digit_first name ≡ true → is_utf8 name ≡ true
unfolding is_name
name-text digit_first name h = ascii-text name (formed-ascii digit_first name (and_parts _ (is_formed digit_first name) h).1)

-- a text of ASCII is UTF-8
pub literal : (bytes : List ℕ) → list_all (λ b. nat_lt b 128) bytes ≡ true → is_utf8 bytes ≡ true
literal bytes h = ascii-text bytes (all-ascii (λ b. nat_lt b 128) (λ b k. grind (arith, nat_tests, k)) bytes h)
