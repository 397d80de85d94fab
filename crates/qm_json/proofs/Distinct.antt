-- Members with distinct names.
use Rattle.std.proofs.Common.{◌≡◌, ℕ, true, false, not, List, [], ◌∷◌, ◌++◌, map, refl, ap, sym}
use Rattle.std.specs.{List.list_any, Str.bytes_eq}
use Rattle.std.proofs.lemmas.{Bool.and_from, Bool.and_parts, Bool.or_from, Bool.or_parts, Bool.not-true, Bool.false_from_ne_true, Bool.both_ways, Slice.Eq.bytes_eq-Decides}
use Rattle.qm_json.specs.{declared.value.Member.Member, Cleanness.are_distinct, Members.has_name}

abbrev pub names : List Member → List (List ℕ)
names members = map (λ m. m.name) members

-- names that differ, the other way round
differ : (a b : List ℕ) → bytes_eq a b ≡ false → bytes_eq b a ≡ false
differ a b h = false_from_ne_true (bytes_eq b a) (λ t. both_ways (bytes_eq a b) h ((bytes_eq-Decides a b).1 (sym ((bytes_eq-Decides b a).0 t))))

absent-more : (members : List Member) (m : Member) (name : List ℕ) → list_any (λ other. bytes_eq other name) (names members) ≡ false → bytes_eq m.name name ≡ false → list_any (λ other. bytes_eq other name) (names (members ++ m ∷ [])) ≡ false
absent-more [] m name h e = or_from _ _ e refl
absent-more (k ∷ members) m name h e = let parts = or_parts _ _ h in or_from _ _ parts.0 (absent-more members m name parts.1 e)

-- one more member of a new name
pub distinct-more : (members : List Member) (m : Member) → are_distinct (names members) ≡ true → has_name members m.name ≡ false → are_distinct (names (members ++ m ∷ [])) ≡ true
distinct-more [] m h e = refl
distinct-more (k ∷ members) m h e =
    let apart = and_parts _ (are_distinct (names members)) h in
    let other = or_parts (bytes_eq k.name m.name) (has_name members m.name) e in
    let new : list_any (λ other. bytes_eq other k.name) (names (members ++ m ∷ [])) ≡ false = absent-more members m k.name (not-true _ apart.0) (differ k.name m.name other.0) in
    and_from _ _ (ap not new) (distinct-more members m apart.1 other.1)

absent-at : (before : List Member) (m : Member) (after : List Member) (name : List ℕ) → list_any (λ other. bytes_eq other name) (names (before ++ m ∷ after)) ≡ false → bytes_eq m.name name ≡ false
absent-at [] m after name h = (or_parts _ _ h).0
absent-at (k ∷ before) m after name h = absent-at before m after name (or_parts _ _ h).1

-- no member before one has its name
pub new-name : (before : List Member) (m : Member) (after : List Member) → are_distinct (names (before ++ m ∷ after)) ≡ true → has_name before m.name ≡ false
new-name [] m after h = refl
new-name (k ∷ before) m after h =
    let parts = and_parts _ (are_distinct (names (before ++ m ∷ after))) h in
    or_from _ _ (differ m.name k.name (absent-at before m after k.name (not-true _ parts.0))) (new-name before m after parts.1)
