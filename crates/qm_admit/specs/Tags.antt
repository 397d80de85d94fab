-- What the values of a union's tag choose (QAPI code generation guide, "Union types").
use Rattle.std.specs.Prelude.{ℕ, ◌+◌, ◌==◌, List, [], ◌∷◌, Option, option_map, option_and_then, find}
use Rattle.std.specs.Str.{bytes_eq}
use Rattle.qapi_types.specs.declared.kind.{Branch.Branch, Kind.Kind, MemberDef.MemberDef, ValueDef.ValueDef}
use Rattle.qapi_types.specs.Types.{kind_of, branches_of, tag_member, tag_values}

-- a value of the tag's enum, and the type of its branch, where it has one
pub record Case : Type 0 where
  pub name : List ℕ
  pub branch : Option ℕ

pub record Tag : Type 0 where
  pub name : List ℕ
  pub cases : List Case

-- the type of the branch of the value that stands at the position
abbrev pub branch_at : List Branch → ℕ → Option ℕ
branch_at branches p = option_map (λ (b : Branch). b.type_id) (find (λ (b : Branch). b.value == p) branches)

-- a case for each value; the first one's position is given
abbrev pub cases_from : List Branch → ℕ → List ValueDef → List Case
cases_from branches p [] = []
cases_from branches p (value ∷ values) = record { name = value.name; branch = branch_at branches p } ∷ cases_from branches (p + 1) values

-- the tag of an object type, with a case for each value of its enum
abbrev pub tag_of : List Kind → Kind → Option Tag
tag_of table kind = option_map (λ (m : MemberDef). record { name = m.name; cases = cases_from (branches_of kind) 0 (tag_values table kind) }) (tag_member kind)

-- the type of the branch that the tag's value, a text, chooses
abbrev pub branch_for : List ℕ → Tag → Option ℕ
branch_for text tag = option_and_then (λ (c : Case). c.branch) (find (λ (c : Case). bytes_eq c.name text) tag.cases)

-- the same of an object type, where the texts are those of the members of a value
abbrev pub chosen_by : (List ℕ → Option (List ℕ)) → List Kind → ℕ → Option ℕ
chosen_by text_of table t = option_and_then (λ (tag : Tag). option_and_then (λ text. branch_for text tag) (text_of tag.name)) (tag_of table (kind_of table t))
