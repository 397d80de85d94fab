-- The printed text of a clean value is one line.
use Rattle.std.proofs.Common.{◌≡◌, ℕ, ◌/◌, ◌%◌, Bool, true, false, ◌||◌, ◌==◌, nat_lt, nat_le, List, [], ◌∷◌, ◌++◌, map, codes, refl, ap, sym, ◌∙◌, arith}
use Rattle.std.specs.Char.Escape.{encode_utf16}
use Rattle.std.specs.List.{list_all, flat_map, AllByRecursion}
use Rattle.std.specs.Str.{is_utf8}
use Rattle.std.proofs.lemmas.Bool.{and_parts, and_from, cond_both}
use Rattle.std.proofs.lemmas.Bool.Decides.{nat_tests}
use Rattle.std.proofs.lemmas.List.Folds.{list_all-append}
use Rattle.qm_frame.specs.Bytes.{in_number}
use Rattle.qm_json.specs.declared.value.Json.{Json}
use Rattle.qm_json.specs.declared.value.Json.TheVariants as json
use Rattle.qm_json.specs.declared.value.Member.{Member}
use Rattle.qm_json.specs.Cleanness.{IsClean, is_clean, is_clean_member, are_distinct}
use Rattle.qm_json.specs.Printing.{printed, printed_member, after_comma, joined}
use Rattle.qm_json.specs.Strings.{code_points, escaped, escapes, hex_digit, unit_escape, unicode_escape, plain_or_unicode, quoted}
use Rattle.qm_json.proofs.CleanLaws.{is_clean-Arr, is_clean-Obj, is_clean_member-is}
use Rattle.qm_json.proofs.Distinct.{names}
use Rattle.qm_json.proofs.Inductions.{every-Json}
use Rattle.qm_json.proofs.PrintLaws.{printed-Null, printed-Bool, printed-Str, printed-Arr, printed-Obj, printed_member-is}
use Rattle.qm_history.specs.Lines.{stays_in_line, is_one_line, IsLine}
use Rattle.qm_read.proofs.NumberBytes.{literal-run}
use Rattle.qm_history.proofs.PrintedApart.{IsNumber, int-number, num-number, run-in}

pub line-append : (a b : List ℕ) → IsLine a → IsLine b → IsLine (a ++ b)
line-append a b h k = list_all-append stays_in_line a b ∙ and_from _ _ h k

-- texts that are put together
flat-line : {X : Type 0} (f : X → List ℕ) (xs : List X) → ((x : X) → IsLine (f x)) → IsLine (flat_map f xs)
flat-line f [] h = refl
flat-line f (x ∷ xs) h = line-append (f x) (flat_map f xs) (h x) (flat-line f xs h)

later-line : {X : Type 0} (f : X → List ℕ) (xs : List X) → AllByRecursion (λ x. IsLine (f x)) xs → IsLine (flat_map after_comma (map f xs))
later-line f [] hs = refl
later-line f (x ∷ xs) hs = line-append (after_comma (f x)) (flat_map after_comma (map f xs)) hs.0 (later-line f xs hs.1)

joined-line : {X : Type 0} (f : X → List ℕ) (xs : List X) → AllByRecursion (λ x. IsLine (f x)) xs → IsLine (joined (map f xs))
joined-line f [] hs = refl
joined-line f (x ∷ xs) hs = line-append (f x) (flat_map after_comma (map f xs)) hs.0 (later-line f xs hs.1)

-- strings
hex-stays : (n : ℕ) → stays_in_line (hex_digit n) ≡ true
hex-stays n = cond_both (nat_lt n 10) _ _ (λ (d : ℕ). stays_in_line d ≡ true) (λ k. grind (arith, nat_tests)) (λ k. grind (arith, nat_tests))

unit-line : (u : ℕ) → IsLine (unit_escape u)
unit-line u = and_from _ _ (hex-stays (u / 4096)) (and_from _ _ (hex-stays (u / 256 % 16)) (and_from _ _ (hex-stays (u / 16 % 16)) (and_from _ _ (hex-stays (u % 16)) refl)))

plain-stays : (c : ℕ) → (nat_lt c 32 || nat_le 127 c) ≡ false → stays_in_line c ≡ true
plain-stays c k = grind (arith, nat_tests, k)

plain-line : (c : ℕ) → IsLine (plain_or_unicode c)
plain-line c = cond_both (nat_lt c 32 || nat_le 127 c) (unicode_escape c) (c ∷ []) IsLine (λ k. flat-line unit_escape (encode_utf16 c) unit-line) (λ k. and_from _ _ (plain-stays c k) refl)

escaped-line : (c : ℕ) → IsLine (escaped c)
escaped-line c =
    cond_both (c == 34) _ _ IsLine (λ _. refl) (λ _. cond_both (c == 92) _ _ IsLine (λ _. refl) (λ _. cond_both (c == 8) _ _ IsLine (λ _. refl) (λ _. cond_both (c == 12) _ _ IsLine (λ _. refl)
    (λ _. cond_both (c == 10) _ _ IsLine (λ _. refl) (λ _. cond_both (c == 13) _ _ IsLine (λ _. refl) (λ _. cond_both (c == 9) _ _ IsLine (λ _. refl) (λ _. plain-line c)))))))

quoted-line : (bytes : List ℕ) → IsLine (quoted bytes)
quoted-line bytes = line-append (escapes (code_points bytes)) (codes "\"") (flat-line escaped (code_points bytes) escaped-line) refl

-- numbers
number-stays : (x : ℕ) → in_number x ≡ true → stays_in_line x ≡ true
number-stays x h = grind (arith, nat_tests, h)

number-bytes-line : (text : List ℕ) → list_all in_number text ≡ true → IsLine text
number-bytes-line [] h = refl
number-bytes-line (x ∷ text) h = let p = and_parts (in_number x) (list_all in_number text) h in and_from _ _ (number-stays x p.0) (number-bytes-line text p.1)

number-line : (v : Json) → IsNumber v → IsLine (printed v)
number-line v n = number-bytes-line (printed v) (run-in (printed v) (literal-run (printed v) n.literal))

bool-line : (b : Bool) → IsLine (printed (json.Bool b))
bool-line true = ap is_one_line (printed-Bool true)
bool-line false = ap is_one_line (printed-Bool false)

-- arrays and objects
items-line : (items : List Json) → AllByRecursion (λ (v : Json). is_clean v ≡ true → IsLine (printed v)) items → list_all is_clean items ≡ true → AllByRecursion (λ (v : Json). IsLine (printed v)) items
items-line [] hs h = tt
items-line (v ∷ items) hs h = let p = and_parts (is_clean v) (list_all is_clean items) h in (hs.0 p.0, items-line items hs.1 p.1)

member-line : (m : Member) → (is_clean m.value ≡ true → IsLine (printed m.value)) → is_clean_member m ≡ true → IsLine (printed_member m)
member-line m told h =
    ap is_one_line (printed_member-is m)
    ∙ line-append (quoted m.name ++ codes ": ") (printed m.value) (line-append (quoted m.name) (codes ": ") (quoted-line m.name) refl) (told (and_parts (is_utf8 m.name) (is_clean m.value) (sym (is_clean_member-is m) ∙ h)).1)

members-line : (members : List Member) → AllByRecursion (λ (m : Member). is_clean m.value ≡ true → IsLine (printed m.value)) members → list_all is_clean_member members ≡ true → AllByRecursion (λ (m : Member). IsLine (printed_member m)) members
members-line [] hs h = tt
members-line (m ∷ members) hs h = let p = and_parts (is_clean_member m) (list_all is_clean_member members) h in (member-line m hs.0 p.0, members-line members hs.1 p.1)

pub printed-line : (v : Json) → IsClean v → is_one_line (printed v) ≡ true
printed-line v h = every-Json (λ v. is_clean v ≡ true → IsLine (printed v)) record {
  null = λ h. ap is_one_line printed-Null;
  bool = λ b h. bool-line b;
  int = λ n h. number-line (json.Int n) (int-number n h);
  num = λ text h. number-line (json.Num text) (num-number text h);
  string = λ bytes h. ap is_one_line (printed-Str bytes) ∙ quoted-line bytes;
  array = λ items hs h. ap is_one_line (printed-Arr items) ∙ line-append (joined (map printed items)) (codes "]") (joined-line printed items (items-line items hs (sym (is_clean-Arr items) ∙ h))) refl;
  object = λ members hs h.
      let p = and_parts (are_distinct (names members)) (list_all is_clean_member members) (sym (is_clean-Obj members) ∙ h) in
      ap is_one_line (printed-Obj members) ∙ line-append (joined (map printed_member members)) (codes "}") (joined-line printed_member members (members-line members hs p.1)) refl;
} v h
