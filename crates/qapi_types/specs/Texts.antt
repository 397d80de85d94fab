-- Names that are UTF-8 (RFC 3629).
use Rattle.std.specs.Prelude.{ℕ, List, [], ◌∷◌, ◌++◌, IsTrue}
use Rattle.std.specs.{List.All, List.flat_map, Str.is_utf8}
use Rattle.qapi_types.specs.declared.kind.{Kind.Kind, MemberDef.MemberDef, ValueDef.ValueDef}
use Rattle.qapi_types.specs.declared.kind.Kind.TheVariants as kinds
use Rattle.qapi_types.specs.declared.parts.{CommandDef.CommandDef, EventDef.EventDef, Parts.Parts}

-- the names of members, values and features in a type
abbrev pub names_within : Kind → List (List ℕ)
names_within (kinds.Object def) = flat_map (λ (m : MemberDef). m.name ∷ m.features) def.members ++ def.features
names_within (kinds.Enum values features) = flat_map (λ (v : ValueDef). v.name ∷ v.features) values ++ features
names_within (kinds.Alternate types features) = features
names_within kind = []

abbrev pub AreTexts : List (List ℕ) → Type 0
AreTexts names = All (λ name. IsTrue (is_utf8 name)) names

-- each name in the parts is UTF-8
pub record HasTexts (p : Parts) : Type 0 where
  pub commands : All (λ (c : CommandDef). AreTexts (c.name ∷ c.features)) p.commands
  pub events : All (λ (e : EventDef). AreTexts (e.name ∷ e.features)) p.events
  pub types : All (λ kind. AreTexts (names_within kind)) p.kinds
