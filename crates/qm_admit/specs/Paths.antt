-- The text of the way to a fault: `a.b[3].c` (this project's own rule).
use Rattle.std.specs.Prelude.{ℕ, List, [], ◌∷◌, ◌++◌, slice_get, codes, Option, None, option_map, option_and_then}
use Rattle.std.specs.Fmt.{decimal}
use Rattle.std.specs.Option.{option_map_or}
use Rattle.qm_json.specs.declared.value.{Json.Json, Member.Member}
use Rattle.qm_json.specs.Members.{members_of}
use Rattle.qapi_types.specs.declared.kind.{Kind.Kind, MemberDef.MemberDef}
use Rattle.qapi_types.specs.Types.{kind_of, members_of as members_of_type}
use Rattle.qm_admit.specs.declared.path.{PathStep.PathStep, PathStep.TheVariants.Member as member_step, PathStep.TheVariants.Place, PathStep.TheVariants.Absent}
use Rattle.qm_admit.specs.Views.{View, IsArr, view_of}

abbrev pub items_in : View → List Json
items_in (IsArr items) = items
items_in view = []

-- the member of an object at the position
abbrev pub member_at : Option Json → ℕ → Option Member
member_at value i = option_and_then (λ v. slice_get (members_of v) i) value

abbrev pub item_at : Option Json → ℕ → Option Json
item_at value i = option_and_then (λ v. slice_get (items_in (view_of v)) i) value

-- the value to which a step leads
abbrev pub value_past : Option Json → PathStep → Option Json
value_past value (member_step i) = option_map (λ (x : Member). x.value) (member_at value i)
value_past value (Place i) = item_at value i
value_past value (Absent t p) = None

-- what a step prints, where a name stands behind these bytes; of what is not there no name
abbrev pub step_text : List Kind → List ℕ → Option Json → PathStep → List ℕ
step_text table before value (member_step i) = before ++ option_map_or (λ (x : Member). x.name) (member_at value i) []
step_text table before value (Place i) = codes "[" ++ (decimal i ++ codes "]")
step_text table before value (Absent t p) = before ++ option_map_or (λ (m : MemberDef). m.name) (slice_get (members_of_type (kind_of table t)) p) []

abbrev pub steps_text : List Kind → List ℕ → Option Json → List PathStep → List ℕ
steps_text table before value [] = []
steps_text table before value (step ∷ steps) = step_text table before value step ++ steps_text table (codes ".") (value_past value step) steps

-- the steps from a value on, with a dot before each name but a first one
abbrev pub printed_path : List Kind → Option Json → List PathStep → List ℕ
printed_path table value steps = steps_text table [] value steps
