-- Which names arguments of a command may have (QAPI code generation guide, "Union types").
use Rattle.std.specs.Prelude.{◌≡◌, ℕ, zero, suc, Bool, true, false, ◌||◌, List, length}
use Rattle.std.specs.List.{list_any}
use Rattle.qm_base.specs.Names.{is_named}
use Rattle.qapi_types.specs.Chains.{has}
use Rattle.qapi_types.specs.declared.kind.Kind.{Kind}
use Rattle.qapi_types.specs.declared.parts.ArgType.{ArgType, TheVariants.AnyObject, TheVariants.Typed}
use Rattle.qapi_types.specs.Types.{kind_of, member_names, branch_types}

-- the type has a member of the name: its own, those of its bases among them, or one along some choice of branches
pub data MayHave (table : List Kind) (name : List ℕ) : ℕ → Type 0 where
  own : {t : ℕ} → is_named (member_names (kind_of table t)) name ≡ true → MayHave table name t
  of_branch : {t b : ℕ} → has b (branch_types (kind_of table t)) ≡ true → MayHave table name b → MayHave table name t

-- the same, where fewer than so many branches are chosen one after the other
abbrev pub may_have_within : List Kind → List ℕ → ℕ → ℕ → Bool
may_have_within table name zero t = false
may_have_within table name (suc n) t = is_named (member_names (kind_of table t)) name || list_any (may_have_within table name n) (branch_types (kind_of table t))

-- the same as a test: no choice is longer than the table, since no type is on a cycle of branches
unfoldable pub may_have : List Kind → ℕ → List ℕ → Bool
may_have table t name = may_have_within table name (length table) t

-- an argument of the name may be given
abbrev pub may_give : List Kind → ArgType → List ℕ → Bool
may_give table (Typed t) name = may_have table t name
may_give table AnyObject name = true
