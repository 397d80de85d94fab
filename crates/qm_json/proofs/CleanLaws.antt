-- What is asked of a clean value, layer by layer.
use Rattle.std.proofs.Common.{◌≡◌, ℕ, Bool, true, not, ◌&&◌, List, [], ◌∷◌, map, refl, ap, sym, ◌∙◌}
use Rattle.std.specs.Prelude.{ℤ}
use Rattle.std.specs.{List.list_all, Str.is_utf8}
use Rattle.std.proofs.lemmas.List.Folds.{list_all-map}
use Rattle.qm_json.specs.declared.value.{Json.Json, Member.Member, Json.TheFolds.fold-Member, Json.TheFolds.fold-roll-Json, Json.TheFolds.fold-roll-Member}
use Rattle.qm_json.specs.declared.value.Json.TheVariants as json
use Rattle.qm_json.specs.declared.value.Json.TheOpen as layer
use Rattle.qm_json.specs.declared.value.Json.TheVariants.{rolls-Null, rolls-Bool, rolls-Int, rolls-Num, rolls-Str, rolls-Arr, rolls-Obj}
use Rattle.qm_json.specs.Numbers.{is_literal, is_whole_literal, is_in_whole_range}
use Rattle.qm_json.specs.Cleanness.{is_clean, is_clean_member, are_distinct, clean_layer, clean_member_layer, NameAndTest}

pub is_clean-Null : is_clean json.Null ≡ true
is_clean-Null = ap is_clean (sym rolls-Null) ∙ fold-roll-Json Bool NameAndTest clean_layer clean_member_layer layer.Json-F.Null

pub is_clean-Bool : (b : Bool) → is_clean (json.Bool b) ≡ true
is_clean-Bool b = ap is_clean (sym (rolls-Bool b)) ∙ fold-roll-Json Bool NameAndTest clean_layer clean_member_layer (layer.Json-F.Bool b)

pub is_clean-Int : (n : ℤ) → is_clean (json.Int n) ≡ is_in_whole_range n
is_clean-Int n = ap is_clean (sym (rolls-Int n)) ∙ fold-roll-Json Bool NameAndTest clean_layer clean_member_layer (layer.Json-F.Int n)

pub is_clean-Num : (text : List ℕ) → is_clean (json.Num text) ≡ (is_literal text && not (is_whole_literal text))
is_clean-Num text = ap is_clean (sym (rolls-Num text)) ∙ fold-roll-Json Bool NameAndTest clean_layer clean_member_layer (layer.Json-F.Num text)

pub is_clean-Str : (text : List ℕ) → is_clean (json.Str text) ≡ is_utf8 text
is_clean-Str text = ap is_clean (sym (rolls-Str text)) ∙ fold-roll-Json Bool NameAndTest clean_layer clean_member_layer (layer.Json-F.Str text)

pub is_clean-Arr : (items : List Json) → is_clean (json.Arr items) ≡ list_all is_clean items
is_clean-Arr items = ap is_clean (sym (rolls-Arr items)) ∙ fold-roll-Json Bool NameAndTest clean_layer clean_member_layer (layer.Json-F.Arr items) ∙ list_all-map (λ (b : Bool). b) is_clean items

tested : Member → NameAndTest
tested m = fold-Member Bool NameAndTest clean_layer clean_member_layer m

tested-is : (m : Member) → tested m ≡ record { name = m.name; is_clean = is_utf8 m.name && is_clean m.value }
unfolding tested
tested-is m = fold-roll-Member Bool NameAndTest clean_layer clean_member_layer record { name = m.name; value = m.value }

tested-names : (members : List Member) → map (λ (t : NameAndTest). t.name) (map tested members) ≡ map (λ (m : Member). m.name) members
tested-names [] = refl
tested-names (m ∷ members) = rw (tested-is m, tested-names members) refl

pub is_clean-Obj : (members : List Member) → is_clean (json.Obj members) ≡ (are_distinct (map (λ (m : Member). m.name) members) && list_all is_clean_member members)
unfolding tested
is_clean-Obj members = ap is_clean (sym (rolls-Obj members)) ∙ fold-roll-Json Bool NameAndTest clean_layer clean_member_layer (layer.Json-F.Obj members)
    ∙ ap (λ names. are_distinct names && list_all (λ (t : NameAndTest). t.is_clean) (map tested members)) (tested-names members)
    ∙ ap (λ b. are_distinct (map (λ (m : Member). m.name) members) && b) (list_all-map (λ (t : NameAndTest). t.is_clean) tested members)

pub is_clean_member-is : (m : Member) → is_clean_member m ≡ (is_utf8 m.name && is_clean m.value)
unfolding tested
is_clean_member-is m = ap (λ (t : NameAndTest). t.is_clean) (tested-is m)
