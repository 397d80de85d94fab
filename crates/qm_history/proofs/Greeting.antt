-- The greeting is one line.
use Rattle.std.proofs.Common.{◌≡◌, ℕ, true, nat_lt, List, [], ◌∷◌, codes, refl, ◌∙◌, arith}
use Rattle.std.specs.{Prelude.pos, List.list_all, Str.is_utf8}
use Rattle.std.specs.Str.{IsAscii}
use Rattle.std.proofs.lemmas.{Bool.and_parts, Bool.and_from, Bool.Decides.nat_tests, Str.IsUtf8-from_ascii, Str.is_utf8-from_IsUtf8, Str.Ascii.IsAscii-cons, Str.Ascii.IsAscii-nil}
use Rattle.qm_json.specs.Printing.{printed}
use Rattle.qm_json.specs.Cleanness.{IsClean, is_clean, is_clean_member, are_distinct}
use Rattle.qm_json.specs.declared.value.{Json.Json, Json.TheVariants.Int, Json.TheVariants.Str, Json.TheVariants.Arr, Json.TheVariants.Obj, Member.Member}
use Rattle.qm_json.proofs.CleanLaws.{is_clean-Int, is_clean-Str, is_clean-Arr, is_clean-Obj, is_clean_member-is}
use Rattle.qm_caps.specs.Greetings.{greeting_value, version_value, named as member}
use Rattle.qm_history.specs.Lines.{IsLine}
use Rattle.qm_history.proofs.PrintedLines.{printed-line}

all-ascii : (text : List ℕ) → list_all (λ x. nat_lt x 128) text ≡ true → IsAscii text
all-ascii [] h = IsAscii-nil
all-ascii (x ∷ text) h =
    let parts = and_parts (nat_lt x 128) (list_all (λ x. nat_lt x 128) text) h in
    IsAscii-cons x text (grind (arith, nat_tests, parts.0)) (all-ascii text parts.1)

-- ASCII is UTF-8
ascii-text : (text : List ℕ) → list_all (λ x. nat_lt x 128) text ≡ true → is_utf8 text ≡ true
ascii-text text h = is_utf8-from_IsUtf8 text (IsUtf8-from_ascii text (all-ascii text h))

clean-member : (name : List ℕ) (value : Json) → is_utf8 name ≡ true → IsClean value → is_clean_member (member name value) ≡ true
clean-member name value h k = is_clean_member-is (member name value) ∙ and_from (is_utf8 name) (is_clean value) h k

-- objects of one to three members
one-clean : (m : Member) → is_clean_member m ≡ true → IsClean (Obj (m ∷ []))
one-clean m h = is_clean-Obj (m ∷ []) ∙ and_from _ _ refl (and_from _ _ h refl)

two-clean : (m n : Member) → are_distinct (m.name ∷ n.name ∷ []) ≡ true → is_clean_member m ≡ true → is_clean_member n ≡ true → IsClean (Obj (m ∷ n ∷ []))
two-clean m n d h k = is_clean-Obj (m ∷ n ∷ []) ∙ and_from _ _ d (and_from _ _ h (and_from _ _ k refl))

three-clean : (m n o : Member) → are_distinct (m.name ∷ n.name ∷ o.name ∷ []) ≡ true → is_clean_member m ≡ true → is_clean_member n ≡ true → is_clean_member o ≡ true → IsClean (Obj (m ∷ n ∷ o ∷ []))
three-clean m n o d h k l = is_clean-Obj (m ∷ n ∷ o ∷ []) ∙ and_from _ _ d (and_from _ _ h (and_from _ _ k (and_from _ _ l refl)))

version-clean : IsClean version_value
version-clean =
    two-clean _ _ refl
    (clean-member (codes "qemu") _ (ascii-text (codes "qemu") refl) (three-clean _ _ _ refl
    (clean-member (codes "micro") (Int (pos 0)) (ascii-text (codes "micro") refl) (is_clean-Int (pos 0)))
    (clean-member (codes "minor") (Int (pos 0)) (ascii-text (codes "minor") refl) (is_clean-Int (pos 0)))
    (clean-member (codes "major") (Int (pos 1)) (ascii-text (codes "major") refl) (is_clean-Int (pos 1)))))
    (clean-member (codes "package") (Str (codes "qmpd")) (ascii-text (codes "package") refl) (is_clean-Str (codes "qmpd") ∙ ascii-text (codes "qmpd") refl))

greeting-clean : IsClean greeting_value
greeting-clean =
    one-clean _ (clean-member (codes "QMP") _ (ascii-text (codes "QMP") refl) (two-clean _ _ refl
    (clean-member (codes "version") version_value (ascii-text (codes "version") refl) version-clean)
    (clean-member (codes "capabilities") (Arr (Str (codes "oob") ∷ [])) (ascii-text (codes "capabilities") refl) (is_clean-Arr (Str (codes "oob") ∷ []) ∙ and_from _ _ (is_clean-Str (codes "oob") ∙ ascii-text (codes "oob") refl) refl))))

pub greeting-line : IsLine (printed greeting_value)
greeting-line = printed-line greeting_value greeting-clean
