-- The first fault of a value at a type, in this project's own order of faults.
use Rattle.std.specs.Prelude.{ℕ, zero, suc, ◌+◌, Bool, true, false, not, cond, List, [], ◌∷◌, length, take, slice_get, Option, Some, None, option_map, option_and_then, find, position}
use Rattle.std.specs.{Option.option_or, List.list_any, Str.bytes_eq}
use Rattle.qm_json.specs.declared.value.{Json.Json, Json.out-Json, Json.TheOpen.Json-F, Json.TheOpen.Member-F, Json.TheFolds.fold-Json}
use Rattle.qm_json.specs.declared.value.Json.TheVariants as json
use Rattle.qm_json.specs.declared.value.Json.TheOpen as layer
use Rattle.qm_base.specs.Names.{is_named}
use Rattle.qapi_types.specs.declared.kind.{JsonKind.JsonKind, Kind.Kind, MemberDef.MemberDef}
use Rattle.qapi_types.specs.declared.kind.JsonKind.TheVariants as sorts
use Rattle.qapi_types.specs.declared.kind.Kind.TheVariants as kinds
use Rattle.qapi_types.specs.declared.parts.{ArgType.ArgType, ArgType.TheVariants.AnyObject, ArgType.TheVariants.Typed, CommandDef.CommandDef, EventDef.EventDef, Parts.Parts}
use Rattle.qapi_types.specs.Types.{kind_of, members_of, member_names, value_names, json_kind_of}
use Rattle.qm_admit.specs.declared.verdict.{Fault.Fault, Fault.TheVariants.Missing, Fault.TheVariants.Unexpected, Fault.TheVariants.WrongKind, Fault.TheVariants.OutOfRange, Fault.TheVariants.BadEnum, Fault.TheVariants.NoAlternative, Verdict.Verdict, Verdict.TheVariants.Yes, Verdict.TheVariants.No}
use Rattle.qm_admit.specs.declared.path.{PathStep.PathStep, PathStep.TheVariants.Member, PathStep.TheVariants.Place, PathStep.TheVariants.Absent}
use Rattle.qm_admit.specs.{Ranges.is_in_range, Tags.chosen_by, Views.kind_in}

-- a fault, and the way to where it is
pub record Misfit : Type 0 where
  pub fault : Fault
  pub path : List PathStep

-- the fault is that of the value itself
abbrev pub here : Fault → Option Misfit
here fault = Some (record { fault = fault; path = [] })

-- the same fault as one of the value round it; of its way the first 128 steps are told
abbrev pub inside : PathStep → Option Misfit → Option Misfit
inside step found = option_map (λ (m : Misfit). record { fault = m.fault; path = take 128 (step ∷ m.path) }) found

-- what is asked of a value inside another: its text, where it is a string, and its first fault at a type
pub record Inner : Type 0 where
  pub text : Option (List ℕ)
  pub misfit : ℕ → Option Misfit

pub record NamedInner : Type 0 where
  pub name : List ℕ
  pub inner : Inner

-- the first fault of the items, of which the first stands at the place
abbrev pub items_misfit : ℕ → ℕ → List Inner → Option Misfit
items_misfit e place [] = None
items_misfit e place (x ∷ xs) = option_or (inside (Place place) (x.misfit e)) (items_misfit e (place + 1) xs)

-- where the first member of the name stands
abbrev pub place_in : List NamedInner → List ℕ → Option ℕ
place_in given name = position (λ (x : NamedInner). bytes_eq x.name name) given

abbrev pub text_in : List NamedInner → List ℕ → Option (List ℕ)
text_in given name = option_and_then (λ (x : NamedInner). x.inner.text) (find (λ (x : NamedInner). bytes_eq x.name name) given)

abbrev pub misfit_at : List NamedInner → ℕ → ℕ → Option Misfit
misfit_at given i t = inside (Member i) (option_and_then (λ (x : NamedInner). x.inner.misfit t) (slice_get given i))

-- the fault of a member, which stands at position p of type t, where it is given at a place or is not given
abbrev pub given_misfit : List NamedInner → ℕ → ℕ → MemberDef → Option ℕ → Option Misfit
given_misfit given t p m (Some i) = misfit_at given i m.type_id
given_misfit given t p m None = cond m.optional None (Some (record { fault = Missing; path = Absent t p ∷ [] }))

abbrev pub member_misfit : List NamedInner → ℕ → ℕ → MemberDef → Option Misfit
member_misfit given t p m = given_misfit given t p m (place_in given m.name)

-- the first fault of the members of type t, of which the first stands at position p
abbrev pub members_misfit : List NamedInner → ℕ → ℕ → List MemberDef → Option Misfit
members_misfit given t p [] = None
members_misfit given t p (m ∷ ms) = option_or (member_misfit given t p m) (members_misfit given t (p + 1) ms)

-- the type, the branch that the tag chooses in it, the branch that is chosen in that, and so on; so many at most
abbrev pub choices_from : ℕ → List Kind → List NamedInner → Option ℕ → List ℕ
choices_from zero table given start = []
choices_from (suc k) table given None = []
choices_from (suc k) table given (Some t) = t ∷ choices_from k table given (chosen_by (text_in given) table t)

-- the same whole: no type leads back to itself
abbrev pub choices_of : List Kind → List NamedInner → ℕ → List ℕ
choices_of table given t = choices_from (length table) table given (Some t)

-- the first fault of the members of some types, type by type
abbrev pub types_misfit : List Kind → List NamedInner → List ℕ → Option Misfit
types_misfit table given [] = None
types_misfit table given (t ∷ ts) = option_or (members_misfit given t 0 (members_of (kind_of table t))) (types_misfit table given ts)

-- one of the types has a member of the name
abbrev pub is_known : List Kind → List ℕ → List ℕ → Bool
is_known table types name = list_any (λ t. is_named (member_names (kind_of table t)) name) types

-- the first given member that none of the types has
abbrev pub unknown_misfit : List Kind → List NamedInner → List ℕ → Option Misfit
unknown_misfit table given types =
    option_map (λ i. record { fault = Unexpected; path = Member i ∷ [] }) (position (λ (x : NamedInner). not (is_known table types x.name)) given)

abbrev pub object_misfit : List Kind → List NamedInner → List ℕ → Option Misfit
object_misfit table given types = option_or (types_misfit table given types) (unknown_misfit table given types)

-- the first fault of a value, of which one layer is given, at type t, which is of the kind
abbrev pub kind_misfit : List Kind → ℕ → Kind → Json-F Inner NamedInner → Option Misfit
kind_misfit table t kinds.Any value = None
kind_misfit table t kinds.Null layer.Json-F.Null = None
kind_misfit table t kinds.Bool (layer.Json-F.Bool b) = None
kind_misfit table t kinds.Str (layer.Json-F.Str bytes) = None
kind_misfit table t kinds.Number (layer.Json-F.Int n) = None
kind_misfit table t kinds.Number (layer.Json-F.Num text) = None
kind_misfit table t (kinds.Whole whole) (layer.Json-F.Int n) = cond (is_in_range whole n) None (here OutOfRange)
kind_misfit table t (kinds.Enum values features) (layer.Json-F.Str bytes) = cond (is_named (value_names (kinds.Enum values features)) bytes) None (here BadEnum)
kind_misfit table t (kinds.Array e) (layer.Json-F.Arr items) = items_misfit e 0 items
kind_misfit table t (kinds.Object def) (layer.Json-F.Obj given) = object_misfit table given (choices_of table given t)
kind_misfit table t kind value = here WrongKind

abbrev pub is_of : JsonKind → Option JsonKind → Bool
is_of sort None = false
is_of sorts.Null (Some sorts.Null) = true
is_of sorts.Boolean (Some sorts.Boolean) = true
is_of sorts.Number (Some sorts.Number) = true
is_of sorts.String (Some sorts.String) = true
is_of sorts.Array (Some sorts.Array) = true
is_of sorts.Object (Some sorts.Object) = true
is_of sort (Some other) = false

-- of an alternate the alternative whose values are of the kind; of any other type the type itself
abbrev pub alternative_of : List Kind → JsonKind → ℕ → Kind → Option ℕ
alternative_of table sort t (kinds.Alternate types features) = find (λ a. is_of sort (json_kind_of (kind_of table a))) types
alternative_of table sort t kind = Some t

abbrev pub walked_as : List Kind → Option ℕ → Json-F Inner NamedInner → Option Misfit
walked_as table None value = here NoAlternative
walked_as table (Some a) value = kind_misfit table a (kind_of table a) value

abbrev pub text_of_layer : Json-F Inner NamedInner → Option (List ℕ)
text_of_layer (layer.Json-F.Str bytes) = Some bytes
text_of_layer value = None

-- one layer of a value, with what is asked of each value inside it in its place
abbrev pub inner_layer : List Kind → Json-F Inner NamedInner → Inner
inner_layer table value = record { text = text_of_layer value; misfit = λ t. walked_as table (alternative_of table (kind_in value) t (kind_of table t)) value }

abbrev pub named_layer : Member-F Inner NamedInner → NamedInner
named_layer m = record { name = m.name; inner = m.value }

abbrev pub inner_of : List Kind → Json → Inner
inner_of table = fold-Json Inner NamedInner (inner_layer table) named_layer

-- the first fault of a value at the type: members in the order of the type, then those of the branch that the
-- tag chooses, and then members of the value that neither has
abbrev pub first_misfit : List Kind → ℕ → Json → Option Misfit
first_misfit table t value = (inner_of table value).misfit t

abbrev pub verdict_of : Option Misfit → Verdict
verdict_of None = Yes
verdict_of (Some m) = No m.fault m.path

-- None stands for the empty object
abbrev pub arguments_of : Option Json → Json
arguments_of None = json.Obj []
arguments_of (Some value) = value

abbrev pub is_object : Json → Bool
is_object value = is_of (kind_in (out-Json value)) (Some sorts.Object)

-- the first fault of arguments at what a command takes
abbrev pub arguments_misfit : List Kind → ArgType → Json → Option Misfit
arguments_misfit table (Typed t) value = first_misfit table t value
arguments_misfit table AnyObject value = cond (is_object value) None (here WrongKind)

abbrev pub command_misfit : Parts → ℕ → Option Json → Option Misfit
command_misfit p command arguments = option_and_then (λ (c : CommandDef). arguments_misfit p.kinds c.arg (arguments_of arguments)) (slice_get p.commands command)

abbrev pub return_misfit : Parts → ℕ → Json → Option Misfit
return_misfit p command value = option_and_then (λ (c : CommandDef). first_misfit p.kinds c.ret value) (slice_get p.commands command)

abbrev pub event_misfit : Parts → ℕ → Json → Option Misfit
event_misfit p event value = option_and_then (λ (e : EventDef). first_misfit p.kinds e.arg value) (slice_get p.events event)
