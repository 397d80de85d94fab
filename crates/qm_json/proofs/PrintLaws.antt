-- What is printed, layer by layer.
use Rattle.std.proofs.Common.{◌≡◌, ℕ, Bool, cond, List, codes, map, IsUtf8, ap, sym, ◌∙◌}
use Rattle.std.specs.Prelude.{ℤ}
use Rattle.std.specs.{Fmt.signed_decimal, Str.chars}
use Rattle.std.proofs.lemmas.Str.{utf8_lossy-IsUtf8}
use Rattle.qm_json.specs.declared.value.{Json.Json, Member.Member, Json.TheFolds.fold-roll-Json, Json.TheFolds.fold-roll-Member}
use Rattle.qm_json.specs.declared.value.Json.TheVariants as json
use Rattle.qm_json.specs.declared.value.Json.TheOpen as layer
use Rattle.qm_json.specs.declared.value.Json.TheVariants.{rolls-Null, rolls-Bool, rolls-Int, rolls-Num, rolls-Str, rolls-Arr, rolls-Obj}
use Rattle.qm_json.specs.Strings.{code_points, quoted}
use Rattle.qm_json.specs.Printing.{printed, printed_member, print_layer, member_layer, member_text, array_text, object_text}

pub printed-Null : printed json.Null ≡ codes "null"
printed-Null = ap printed (sym rolls-Null) ∙ fold-roll-Json (List ℕ) (List ℕ) print_layer member_layer layer.Json-F.Null

pub printed-Bool : (b : Bool) → printed (json.Bool b) ≡ cond b (codes "true") (codes "false")
printed-Bool b = ap printed (sym (rolls-Bool b)) ∙ fold-roll-Json (List ℕ) (List ℕ) print_layer member_layer (layer.Json-F.Bool b)

pub printed-Int : (n : ℤ) → printed (json.Int n) ≡ signed_decimal n
printed-Int n = ap printed (sym (rolls-Int n)) ∙ fold-roll-Json (List ℕ) (List ℕ) print_layer member_layer (layer.Json-F.Int n)

pub printed-Num : (text : List ℕ) → printed (json.Num text) ≡ text
printed-Num text = ap printed (sym (rolls-Num text)) ∙ fold-roll-Json (List ℕ) (List ℕ) print_layer member_layer (layer.Json-F.Num text)

pub printed-Str : (bytes : List ℕ) → printed (json.Str bytes) ≡ quoted bytes
printed-Str bytes = ap printed (sym (rolls-Str bytes)) ∙ fold-roll-Json (List ℕ) (List ℕ) print_layer member_layer (layer.Json-F.Str bytes)

pub printed-Arr : (items : List Json) → printed (json.Arr items) ≡ array_text (map printed items)
printed-Arr items = ap printed (sym (rolls-Arr items)) ∙ fold-roll-Json (List ℕ) (List ℕ) print_layer member_layer (layer.Json-F.Arr items)

pub printed-Obj : (members : List Member) → printed (json.Obj members) ≡ object_text (map printed_member members)
printed-Obj members = ap printed (sym (rolls-Obj members)) ∙ fold-roll-Json (List ℕ) (List ℕ) print_layer member_layer (layer.Json-F.Obj members)

pub printed_member-is : (m : Member) → printed_member m ≡ member_text m.name (printed m.value)
printed_member-is m = fold-roll-Member (List ℕ) (List ℕ) print_layer member_layer record { name = m.name; value = m.value }

-- of UTF-8, the code points are those that it encodes
pub code_points-IsUtf8 : (bytes : List ℕ) → IsUtf8 bytes → code_points bytes ≡ chars bytes
code_points-IsUtf8 bytes u = ap chars (utf8_lossy-IsUtf8 bytes u)
