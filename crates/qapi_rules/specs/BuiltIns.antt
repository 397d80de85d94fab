-- Built-in types (QAPI code generation guide, "Built-in Types").
use Rattle.std.specs.Prelude.{ℕ, Bool, List, map, Option, is_some, position}
use Rattle.std.specs.Str.{bytes_eq}
use Rattle.qapi_rules.specs.declared.built_ins.TheConstants.{BUILT_INS}

-- the names of the built-in types, in their order
abbrev pub built_ins : List (List ℕ)
built_ins = map (λ b. b.now) BUILT_INS

-- the place of the built-in type of the name, or none
unfoldable pub built_in : List ℕ → Option ℕ
built_in name = position (λ b. bytes_eq b.now name) BUILT_INS

-- the name is a built-in type's
abbrev pub is_built_in : List ℕ → Bool
is_built_in name = is_some (built_in name)
