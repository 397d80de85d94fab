-- The text of a value has no fewer bytes than the value opens brackets at a time.
use Rattle.std.proofs.Common.{ℕ, ◌+◌, ◌≤◌, List, [], ◌∷◌, ◌++◌, map, length, codes, length-append, ap, arith}
use Rattle.std.specs.List.{AllByRecursion, flat_map}
use Rattle.qm_json.specs.declared.value.{Json.Json, Member.Member}
use Rattle.qm_json.specs.declared.value.Json.TheVariants as json
use Rattle.qm_json.specs.Nesting.{depth, depth_member, deepest}
use Rattle.qm_json.specs.Printing.{printed, printed_member, after_comma, joined, array_text, object_text}
use Rattle.qm_json.specs.Strings.{quoted}
use Rattle.qm_json.proofs.Inductions.{Inductive, every-Json}
use Rattle.qm_json.proofs.NestingLaws.{depth-Null, depth-Bool, depth-Int, depth-Num, depth-Str, depth-Arr, depth-Obj, depth_member-is}
use Rattle.qm_json.proofs.PrintLaws.{printed-Arr, printed-Obj, printed_member-is}

-- texts of things, none of which is shorter than its thing is deep
module _ {X : Type 0} (P : X → Type 0) (deep : X → ℕ) (text : X → List ℕ) (long : (x : X) → P x → deep x ≤ length (text x)) where
  later-long : (xs : List X) → AllByRecursion P xs → deepest (map deep xs) ≤ length (flat_map after_comma (map text xs))
  later-long [] h = omega arith
  later-long (x ∷ xs) h = omega (arith, long x h.0, later-long xs h.1, length-append (after_comma (text x)) (flat_map after_comma (map text xs)))

  joined-long : (xs : List X) → AllByRecursion P xs → deepest (map deep xs) ≤ length (joined (map text xs))
  joined-long [] h = omega arith
  joined-long (x ∷ xs) h = omega (arith, long x h.0, later-long xs h.1, length-append (text x) (flat_map after_comma (map text xs)))

abbrev IsLong : Json → Type 0
IsLong v = depth v ≤ length (printed v)

member-long : (m : Member) → IsLong m.value → depth_member m ≤ length (printed_member m)
member-long m h = omega (arith, h, depth_member-is m, ap length (printed_member-is m), length-append (quoted m.name ++ codes ": ") (printed m.value))

array-long : (items : List Json) → AllByRecursion IsLong items → IsLong (json.Arr items)
array-long items h = omega (arith, depth-Arr items, ap length (printed-Arr items), joined-long IsLong depth printed (λ v long. long) items h, length-append (joined (map printed items)) (codes "]"))

object-long : (members : List Member) → AllByRecursion (λ (m : Member). IsLong m.value) members → IsLong (json.Obj members)
object-long members h = omega (arith, depth-Obj members, ap length (printed-Obj members), joined-long (λ (m : Member). IsLong m.value) depth_member printed_member member-long members h, length-append (joined (map printed_member members)) (codes "}"))

pub deep-long : (v : Json) → depth v ≤ length (printed v)
deep-long = every-Json IsLong (record {
  null = omega (arith, depth-Null);
  bool = λ b. omega (arith, depth-Bool b);
  int = λ n. omega (arith, depth-Int n);
  num = λ text. omega (arith, depth-Num text);
  string = λ bytes. omega (arith, depth-Str bytes);
  array = array-long;
  object = object-long;
})
