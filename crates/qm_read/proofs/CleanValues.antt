-- What the tokens of a text spell is clean and nested no deeper than they may be; where their first
-- fault stands.
use Rattle.std.proofs.Common.{◌≡◌, ℕ, ◌≤◌, Bool, true, not, List, [], ◌∷◌, ◌++◌, length, refl, ap, ◌∙◌, arith, map}
use Rattle.qm_json.specs.{Numbers.is_literal, Numbers.is_whole_literal, Cleanness.IsClean, Cleanness.is_clean, Cleanness.is_clean_member, Cleanness.are_distinct}
use Rattle.std.specs.{List.list_all, Str.is_utf8}
use Rattle.std.proofs.lemmas.{Bool.and_from, List.Folds.list_all-append}
use Rattle.qm_json.specs.{declared.value.Json.Json, declared.value.Member.Member, Nesting.depth, Nesting.depth_member, Nesting.deepest}
use Rattle.qm_json.proofs.CleanLaws.{is_clean-Null, is_clean-Bool, is_clean-Int, is_clean-Num, is_clean-Str, is_clean-Arr, is_clean-Obj, is_clean_member-is}
use Rattle.qm_json.proofs.Distinct.{names, distinct-more}
use Rattle.qm_read.specs.declared.token.Token.TheVariants as tokens
use Rattle.qm_read.specs.{declared.fault.JsonFault.JsonFault, Texts.SpellsWithin, Texts.HasFaultWithin, Texts.IsWithin}
use Rattle.qm_read.specs.{Viable.FirstFault, Viable.wrong, Viable.misplaced, Viable.twice, Viable.short, Tokens.Placed, Tokens.at, Tokens.tokens_of}
use Rattle.qm_read.specs.Spelling.{SpellsValue, null, bool, int, num, string, no_items, array, no_members, object, SpellsItems, item, more_items, SpellsMembers, member, more_members}
use Rattle.qm_read.proofs.CleanTokens.{AreSound, sound-front, sound-rest, tokens-sound}
use Rattle.qm_json.proofs.NestingLaws.{depth-Null, depth-Bool, depth-Int, depth-Num, depth-Str, depth-Arr, depth-Obj, depth_member-is, deepest-more}

clean-member : (name : List ℕ) (v : Json) → is_utf8 name ≡ true → is_clean v ≡ true → is_clean_member (record { name = name; value = v }) ≡ true
clean-member name v h k = is_clean_member-is (record { name = name; value = v }) ∙ and_from (is_utf8 name) (is_clean v) h k

one_more : {X : Type 0} (p : X → Bool) (xs : List X) (x : X) → list_all p xs ≡ true → p x ≡ true → list_all p (xs ++ x ∷ []) ≡ true
one_more p xs x h k = list_all-append p xs (x ∷ []) ∙ and_from (list_all p xs) (list_all p (x ∷ [])) h (and_from (p x) true k refl)

module _ (n : ℕ) where
  mutual
    clean : {d : ℕ} {ts : List Placed} {v : Json} → SpellsValue d ts v → AreSound n ts → is_clean v ≡ true
    clean (null p) h = is_clean-Null
    clean (bool b p) h = is_clean-Bool b
    clean (int i p) h = is_clean-Int i ∙ h.0.token
    clean (num text p) h = is_clean-Num text ∙ and_from (is_literal text) (not (is_whole_literal text)) h.0.token.0 (ap not h.0.token.1)
    clean (string text p) h = is_clean-Str text ∙ h.0.token
    clean (no_items p q) h = is_clean-Arr []
    clean (array {ts = ts} {items = items} p q is) h = is_clean-Arr items ∙ clean_items is (sound-front n ts _ h.1)
    clean (no_members p q) h = is_clean-Obj []
    clean (object {ts = ts} {members = members} p q ms) h =
        is_clean-Obj members ∙ and_from _ _ (distinct ms) (clean_members ms (sound-front n ts _ h.1))

    clean_items : {d : ℕ} {ts : List Placed} {items : List Json} → SpellsItems d ts items → AreSound n ts → list_all is_clean items ≡ true
    clean_items (item {v = v} s) h = and_from (is_clean v) true (clean s h) refl
    clean_items (more_items {ts = ts} {t = t} {items = items} {v = v} p is s) h =
        one_more is_clean items v (clean_items is (sound-front n ts _ h)) (clean s (sound-rest n ts _ h).1)

    clean_members : {d : ℕ} {ts : List Placed} {members : List Member} → SpellsMembers d ts members → AreSound n ts → list_all is_clean_member members ≡ true
    clean_members (member {v = v} name p q s) h = and_from _ true (clean-member name v h.0.token (clean s h.1.1)) refl
    clean_members (more_members {ts = ts} {members = members} {v = v} name o p q ms fresh s) h =
        let rest = sound-rest n ts _ h in
        one_more is_clean_member members (record { name = name; value = v }) (clean_members ms (sound-front n ts _ h)) (clean-member name v rest.1.0.token (clean s rest.1.1.1))

    distinct : {d : ℕ} {ts : List Placed} {members : List Member} → SpellsMembers d ts members → are_distinct (names members) ≡ true
    distinct (member name p q s) = refl
    distinct (more_members {members = members} {v = v} name o p q ms fresh s) = distinct-more members (record { name = name; value = v }) (distinct ms) fresh

-- what the tokens of a text spell is clean
pub spelled-clean : (limit : ℕ) (text : List ℕ) (v : Json) → SpellsWithin limit text v → IsClean v
spelled-clean limit text v s = clean (length text) s (tokens-sound text)

first-within : (limit : ℕ) (ts : List Placed) (n : ℕ) (f : JsonFault) → FirstFault limit ts n f → AreSound n ts → IsWithin n f
first-within limit ts n f (wrong before rest fault p b) h = (sound-rest n before (at (tokens.Bad fault) p ∷ rest) h).0.token
first-within limit ts n f (misplaced before rest token p b m) h = omega (arith, (sound-rest n before (at token p ∷ rest) h).0.place)
first-within limit ts n f (twice before rest name other p m b) h = (sound-rest n before (at (tokens.Str name) p ∷ rest) h).0.place
first-within limit ts n f (short us b m) h = omega arith

-- the first fault of a text lies in it
pub fault-within : (limit : ℕ) (text : List ℕ) (f : JsonFault) → HasFaultWithin limit text f → IsWithin (length text) f
fault-within limit text f h = first-within limit (tokens_of text) (length text) f h (tokens-sound text)

mutual
  pub nested : {d : ℕ} {ts : List Placed} {v : Json} → SpellsValue d ts v → depth v ≤ d
  nested (null p) = omega (arith, depth-Null)
  nested (bool b p) = omega (arith, depth-Bool b)
  nested (int n p) = omega (arith, depth-Int n)
  nested (num text p) = omega (arith, depth-Num text)
  nested (string text p) = omega (arith, depth-Str text)
  nested (no_items p q) = omega (arith, depth-Arr [])
  nested (array {items = items} p q is) = omega (arith, depth-Arr items, nested_items is)
  nested (no_members p q) = omega (arith, depth-Obj [])
  nested (object {members = members} p q ms) = omega (arith, depth-Obj members, nested_members ms)

  nested_items : {d : ℕ} {ts : List Placed} {items : List Json} → SpellsItems d ts items → deepest (map depth items) ≤ d
  nested_items (item s) = omega (arith, nested s)
  nested_items {d = d} (more_items {items = items} {v = v} p is s) = deepest-more depth items v d (nested_items is) (nested s)

  nested_members : {d : ℕ} {ts : List Placed} {members : List Member} → SpellsMembers d ts members → deepest (map depth_member members) ≤ d
  nested_members (member {v = v} name p q s) = omega (arith, depth_member-is (record { name = name; value = v }), nested s)
  nested_members {d = d} (more_members {members = members} {v = v} name o p q ms fresh s) =
      deepest-more depth_member members (record { name = name; value = v }) d (nested_members ms) (omega (arith, depth_member-is (record { name = name; value = v }), nested s))
