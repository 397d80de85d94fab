-- The types that introspection lists, and the names that it gives them (QAPI code generation guide, "Client JSON
-- Protocol introspection"; numbers as names, and when they are given, are this project's own rule).
use Rattle.std.specs.Prelude.{ℕ, suc, zero, Bool, false, cond, not, ◌&&◌, ◌==◌, List, [], ◌∷◌, ◌++◌, map, length, filter, Option, Some, None, is_some, codes}
use Rattle.std.specs.{List.flat_map, Str.bytes_eq, Fmt.decimal}
use Rattle.qapi_types.specs.declared.{kind.Kind.Kind, parts.ArgType.ArgType, parts.ArgType.TheVariants.AnyObject, parts.ArgType.TheVariants.Typed, parts.Parts.Parts}
use Rattle.qapi_types.specs.declared.kind.Kind.TheVariants as kinds
use Rattle.qapi_types.specs.{Chains.has, Types.kind_of}
use Rattle.qapi_mask.specs.{Calls.Call, Calls.Command, Calls.Event, Calls.calls_of, Entries.refs_of, Orders.with_all, Orders.readings}
use Rattle.qapi_types.specs.Prelude.{empty_of}

-- the name of a built-in type; all whole types are one
abbrev pub builtin_of : Kind → Option (List ℕ)
builtin_of kinds.Str = Some (codes "str")
builtin_of kinds.Number = Some (codes "number")
builtin_of (kinds.Whole whole) = Some (codes "int")
builtin_of kinds.Bool = Some (codes "bool")
builtin_of kinds.Null = Some (codes "null")
builtin_of kinds.Any = Some (codes "any")
builtin_of kind = None

abbrev pub element_of : Kind → Option ℕ
element_of (kinds.Array e) = Some e
element_of kind = None

-- how many stand before the first that passes
abbrev pub place_of : {X : Type 0} → (X → Bool) → List X → ℕ
place_of test [] = zero
place_of test (x ∷ xs) = cond (test x) zero (suc (place_of test xs))

abbrev pub is_text : List ℕ → Option (List ℕ) → Bool
is_text text None = false
is_text text (Some other) = bytes_eq other text

-- the first of the types of the built-in name
abbrev pub builtin_at : List Kind → List ℕ → ℕ
builtin_at table name = place_of (λ kind. is_text name (builtin_of kind)) table

abbrev pub base_in : List Kind → ℕ → Option (List ℕ) → ℕ
base_in table t None = t
base_in table t (Some name) = builtin_at table name

-- the type that stands for the type: of those of one built-in name the first
abbrev pub base_of : List Kind → ℕ → ℕ
base_of table t = base_in table t (builtin_of (kind_of table t))

abbrev pub is_base : List Kind → ℕ → Option ℕ → Bool
is_base table b None = false
is_base table b (Some e) = base_of table e == b

abbrev pub shown_in : List Kind → ℕ → Option ℕ → ℕ
shown_in table t None = base_of table t
shown_in table t (Some e) = place_of (λ kind. is_base table (base_of table e) (element_of kind)) table

-- the same, and of the arrays of elements for which one type stands the first
abbrev pub shown_of : List Kind → ℕ → ℕ
shown_of table t = shown_in table t (element_of (kind_of table t))

-- the type of what a command takes: all values, where it is defined with `gen` false
abbrev pub argument_type : List Kind → ArgType → ℕ
argument_type table (Typed t) = t
argument_type table AnyObject = builtin_at table (codes "any")

abbrev pub call_refs : List Kind → Call → List ℕ
call_refs table (Command c) = argument_type table c.arg ∷ c.ret ∷ []
call_refs table (Event e) = e.arg ∷ []

-- the types that commands and events refer to
abbrev pub first_refs : Parts → List ℕ
first_refs p = flat_map (call_refs p.kinds) (calls_of p)

-- what stands for the types that the entry refers to
abbrev pub refs_shown : Parts → ℕ → List ℕ
refs_shown p t = map (shown_of p.kinds) (refs_of p.kinds (empty_of p) (kind_of p.kinds t))

-- the types that are listed, in the order in which the entries first refer to them
unfoldable pub listed_of : Parts → List ℕ
listed_of p = readings (map (shown_of p.kinds) (first_refs p)) (refs_shown p) (length p.kinds)

-- an entry stands for the type
abbrev pub is_listed : Parts → ℕ → Bool
is_listed p t = has (shown_of p.kinds t) (listed_of p)

abbrev pub inner_in : List Kind → ℕ → Option ℕ → ℕ
inner_in table t None = t
inner_in table t (Some e) = base_of table e

-- the type whose own name the type's name has in it
abbrev pub inner_of : List Kind → ℕ → ℕ
inner_of table t = inner_in table t (element_of (kind_of table t))

-- the type is named by a number
abbrev pub is_numbered : List Kind → ℕ → Bool
is_numbered table t = not (is_some (builtin_of (kind_of table t))) && not (is_some (element_of (kind_of table t)))

-- the types named by numbers, in the order in which their names are needed
unfoldable pub numbered_of : Parts → List ℕ
numbered_of p = with_all [] (filter (is_numbered p.kinds) (map (inner_of p.kinds) (listed_of p)))

abbrev pub own_name_in : Parts → ℕ → Option (List ℕ) → List ℕ
own_name_in p t (Some name) = name
own_name_in p t None = decimal (place_of (λ u. u == t) (numbered_of p))

-- the name of a type that is no array
abbrev pub own_name_of : Parts → ℕ → List ℕ
own_name_of p t = own_name_in p t (builtin_of (kind_of p.kinds t))

abbrev pub mask_in : Parts → ℕ → Option ℕ → List ℕ
mask_in p t None = own_name_of p t
mask_in p t (Some e) = codes "[" ++ (own_name_of p e ++ codes "]")

-- the name that introspection has for the type
abbrev pub mask_of : Parts → ℕ → List ℕ
mask_of p t = mask_in p t (element_of (kind_of p.kinds t))
