-- Whole numbers within the ranges of their types.
use Rattle.std.specs.Prelude.{ℕ, ℤ, true, ◌≡◌, List}
use Rattle.qm_json.specs.declared.value.{Json.Json, Member.Member}
use Rattle.qapi_types.specs.declared.kind.{Kind.Kind, MemberDef.MemberDef, Whole.Whole}
use Rattle.qapi_types.specs.declared.kind.Kind.TheVariants as kinds
use Rattle.qapi_types.specs.Types.{kind_of}
use Rattle.qm_admit.specs.{Fitting.Among, Fitting.IsMember, Ranges.is_in_range}
use Rattle.qm_admit.specs.Views.{IsInt, IsArr, IsObj, view_of}

-- the second value stands in the first, which is of the first type, at a place of the second type
pub data Stands (table : List Kind) : ℕ → Json → ℕ → Json → Type 0 where
  here : {t u : ℕ} {v w : Json} → u ≡ t → w ≡ v → Stands table t v u w
  item : {t u : ℕ} {v w : Json} (e : ℕ) (items : List Json) (x : Json) → kind_of table t ≡ kinds.Array e → view_of v ≡ IsArr items → Among x items →
      Stands table e x u w → Stands table t v u w
  alternative : {t u : ℕ} {v w : Json} (types : List ℕ) (features : List (List ℕ)) (a : ℕ) → kind_of table t ≡ kinds.Alternate types features → Among a types →
      Stands table a v u w → Stands table t v u w
  member : {t u : ℕ} {v w : Json} (given : List Member) (m : MemberDef) (x : Member) → view_of v ≡ IsObj given → IsMember table given t m → Among x given →
      m.name ≡ x.name → Stands table m.type_id x.value u w → Stands table t v u w

-- each whole number that stands at a place of a whole type is in that type's range
abbrev pub IsInBounds : List Kind → ℕ → Json → Type 0
IsInBounds table t v = (u : ℕ) (w : Json) (whole : Whole) (n : ℤ) → kind_of table u ≡ kinds.Whole whole → view_of w ≡ IsInt n → Stands table t v u w → is_in_range whole n ≡ true
