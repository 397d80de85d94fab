-- Strings in which each byte stands for itself.
use Rattle.std.proofs.Common.{◌≡◌, ℕ, ◌<◌, true, List, [], ◌∷◌, ◌++◌, chars, IsAscii, zero, suc, refl, ap, ◌∙◌, arith, lit<}
use Rattle.std.specs.List.{list_all}
use Rattle.std.proofs.lemmas.{Str.utf8_lossy-IsUtf8, Str.IsUtf8-from_ascii, Str.chars-IsAscii, Bool.and_parts, Bool.Decides.nat_tests}
use Rattle.qm_json.specs.Strings.{code_points, escaped, escapes, is_plain}

-- a byte that stands for itself is ASCII
pub record IsPlain (c : ℕ) : Type 0 where
  pub escape : escaped c ≡ c ∷ []
  pub ascii : c < 128

plain : (c : ℕ) → is_plain c ≡ true → IsPlain c
plain c h = record { escape = grind (arith, nat_tests); ascii = grind (arith, nat_tests) }

plain_escapes : (bs : List ℕ) → list_all is_plain bs ≡ true → escapes bs ≡ bs
plain_escapes [] h = refl
plain_escapes (b ∷ bs) h =
    let parts = and_parts (is_plain b) (list_all is_plain bs) h in
    ap (λ l. l ++ escapes bs) (plain b parts.0).escape ∙ ap (λ l. b ∷ l) (plain_escapes bs parts.1)

all_ascii : (bs : List ℕ) → list_all is_plain bs ≡ true → IsAscii bs
all_ascii [] h i = lit< tt
all_ascii (b ∷ bs) h zero = (plain b (and_parts (is_plain b) (list_all is_plain bs) h).0).ascii
all_ascii (b ∷ bs) h (suc i) = all_ascii bs (and_parts (is_plain b) (list_all is_plain bs) h).1 i

pub plain_points : (bs : List ℕ) → list_all is_plain bs ≡ true → escapes (code_points bs) ≡ bs
plain_points bs h =
    let a : IsAscii bs = all_ascii bs h in
    ap (λ l. escapes (chars l)) (utf8_lossy-IsUtf8 bs (IsUtf8-from_ascii bs a)) ∙ ap escapes (chars-IsAscii bs a) ∙ plain_escapes bs h
