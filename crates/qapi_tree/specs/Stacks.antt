-- What is open while expressions are read, and what may stand next (QAPI code generation guide,
-- "Schema syntax": a file is a row of objects).
use Rattle.std.specs.Prelude.{ℕ, Bool, true, false, List, [], ◌∷◌, ◌++◌}
use Rattle.qapi_tree.specs.declared.stack.Expect.{Expect, TheVariants.Object, TheVariants.Value, TheVariants.ValueOrEnd, TheVariants.Key, TheVariants.KeyOrEnd, TheVariants.CommaOrEnd}
use Rattle.qapi_tree.specs.declared.{stack.Open.Open, tree.Tree.Tree, tree.TreeMember.TreeMember}
use Rattle.qapi_tree.specs.declared.stack.Open.TheVariants as opens
use Rattle.qapi_tree.specs.declared.tree.Tree.TheVariants as trees

-- what was read: what is open, the innermost first, and what may stand next
pub record State : Type 0 where
  pub stack : List Open
  pub expect : Expect

-- nothing was read
abbrev pub begun : State
begun = record { stack = opens.File [] ∷ []; expect = Object }

abbrev pub takes_value : Expect → Bool
takes_value Value = true
takes_value ValueOrEnd = true
takes_value _ = false

-- an object stands where a value may, and in the row
abbrev pub takes_object : Expect → Bool
takes_object Object = true
takes_object expect = takes_value expect

abbrev pub takes_key : Expect → Bool
takes_key Key = true
takes_key KeyOrEnd = true
takes_key _ = false

abbrev pub ends_list : Expect → Bool
ends_list ValueOrEnd = true
ends_list CommaOrEnd = true
ends_list _ = false

abbrev pub ends_object : Expect → Bool
ends_object KeyOrEnd = true
ends_object CommaOrEnd = true
ends_object _ = false

-- what a value makes of what it stands in
abbrev pub given : Open → Tree → Open
given (opens.File exprs) v = opens.File exprs
given (opens.List items) v = opens.List (items ++ v ∷ [])
given (opens.Dict members key line) v = opens.Dict (members ++ record { key = key; tree = v } ∷ []) [] line

-- the same of an object whose `{` stands in a line: in the row it is an expression
abbrev pub given_object : Open → ℕ → List TreeMember → Open
given_object (opens.File exprs) line keys = opens.File (exprs ++ record { line = line; keys = keys } ∷ [])
given_object top line keys = given top (trees.Dict keys)

abbrev pub after_value : Open → Expect
after_value (opens.File exprs) = Object
after_value _ = CommaOrEnd

abbrev pub after_comma : List Open → Expect
after_comma (opens.Dict members key line ∷ outer) = Key
after_comma _ = Value

-- a value goes into what is innermost
abbrev pub put : Tree → List Open → State
put v [] = record { stack = []; expect = Object }
put v (top ∷ outer) = record { stack = given top v ∷ outer; expect = after_value top }

abbrev pub put_object : ℕ → List TreeMember → List Open → State
put_object line keys [] = record { stack = []; expect = Object }
put_object line keys (top ∷ outer) = record { stack = given_object top line keys ∷ outer; expect = after_value top }
