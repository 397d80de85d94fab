-- What is open while a value is read, and what may stand next (this project's own rule).
use Rattle.std.specs.Prelude.{ℕ, Bool, true, false, List, [], ◌∷◌, ◌++◌, Result, Ok, Err}
use Rattle.qm_json.specs.declared.value.Json.{Json}
use Rattle.qm_read.specs.declared.{fault.JsonFault.JsonFault, fault.JsonFault.TheVariants.Expected, stack.Expect.Expect}
use Rattle.qm_read.specs.declared.stack.Expect.TheVariants.{Value, ValueOrEnd, Name, NameOrEnd, CommaOrEnd, End}
use Rattle.qm_read.specs.declared.stack.Open.{Open, TheVariants.Top, TheVariants.Arr, TheVariants.Obj, TheVariants.Whole}

-- what was read: what is open, the innermost first, and what may stand next
pub record State : Type 0 where
  pub stack : List Open
  pub expect : Expect

abbrev pub begun : State
begun = record { stack = Top ∷ []; expect = Value }

abbrev pub takes_value : Expect → Bool
takes_value Value = true
takes_value ValueOrEnd = true
takes_value _ = false

abbrev pub takes_name : Expect → Bool
takes_name Name = true
takes_name NameOrEnd = true
takes_name _ = false

-- what a value makes of what it stands in
abbrev pub given : Open → Json → Open
given (Arr items) v = Arr (items ++ v ∷ [])
given (Obj members name) v = Obj (members ++ record { name = name; value = v } ∷ []) []
given Top v = Whole v
given (Whole w) v = Whole v

abbrev pub after_value : Open → Expect
after_value (Arr items) = CommaOrEnd
after_value (Obj members name) = CommaOrEnd
after_value Top = End
after_value (Whole w) = End

abbrev pub put : Json → List Open → State
put v [] = record { stack = []; expect = End }
put v (top ∷ outer) = record { stack = given top v ∷ outer; expect = after_value top }

abbrev pub ends_array : Expect → Bool
ends_array ValueOrEnd = true
ends_array CommaOrEnd = true
ends_array _ = false

abbrev pub ends_object : Expect → Bool
ends_object NameOrEnd = true
ends_object CommaOrEnd = true
ends_object _ = false

-- a value that ended what was innermost goes into what is around it
abbrev pub left : List Open → Json → ℕ → Result State JsonFault
left (top ∷ next ∷ outer) v place = Ok (put v (next ∷ outer))
left _ v place = Err (Expected place)

abbrev pub after_comma : List Open → Expect
after_comma (Obj members name ∷ outer) = Name
after_comma _ = Value
