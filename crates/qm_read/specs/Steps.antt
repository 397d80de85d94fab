-- Reading a value token by token. This is how a value or a fault is computed; which one it is,
-- Spelling and Viable say without it (this project's own rule).
use Rattle.std.specs.Prelude.{ℕ, ◌+◌, nat_lt, cond, ◌&&◌, List, [], ◌∷◌, length, Result, Ok, Err}
use Rattle.qm_json.specs.{declared.value.Json.Json, Members.has_name}
use Rattle.qm_json.specs.declared.value.Json.TheVariants as json
use Rattle.qm_read.specs.declared.{fault.JsonFault.JsonFault, fault.JsonFault.TheVariants.Expected, fault.JsonFault.TheVariants.Duplicate, stack.Expect.Expect}
use Rattle.qm_read.specs.declared.{stack.Expect.TheVariants.Value, stack.Expect.TheVariants.ValueOrEnd, stack.Expect.TheVariants.NameOrEnd, stack.Expect.TheVariants.Colon, stack.Expect.TheVariants.CommaOrEnd, stack.Open.Open, stack.Open.TheVariants.Arr, stack.Open.TheVariants.Obj, token.Token.Token}
use Rattle.qm_read.specs.declared.token.Token.TheVariants as tokens
use Rattle.qm_read.specs.Stacks.{State, takes_value, takes_name, ends_array, ends_object, put, left, after_comma}

abbrev pub value_step : State → Json → ℕ → Result State JsonFault
value_step s v place = cond (takes_value s.expect) (Ok (put v s.stack)) (Err (Expected place))

-- an opener, after which something may stand; so many brackets at most are open at a time
abbrev pub open_step : ℕ → State → Open → Expect → ℕ → Result State JsonFault
open_step limit s top next place =
    cond (takes_value s.expect && nat_lt (length s.stack) (limit + 1))
    (Ok record { stack = top ∷ s.stack; expect = next }) (Err (Expected place))

abbrev pub name_step : List Open → List ℕ → ℕ → Result State JsonFault
name_step (Obj members old ∷ outer) name place =
    cond (has_name members name) (Err (Duplicate place)) (Ok record { stack = Obj members name ∷ outer; expect = Colon })
name_step _ name place = Err (Expected place)

abbrev pub close_array : List Open → ℕ → Result State JsonFault
close_array (Arr items ∷ outer) place = left (Arr items ∷ outer) (json.Arr items) place
close_array _ place = Err (Expected place)

abbrev pub close_object : List Open → ℕ → Result State JsonFault
close_object (Obj members name ∷ outer) place = left (Obj members name ∷ outer) (json.Obj members) place
close_object _ place = Err (Expected place)

-- where an array may end, and where an object may
abbrev pub array_end_step : State → ℕ → Result State JsonFault
array_end_step s place = cond (ends_array s.expect) (close_array s.stack place) (Err (Expected place))

abbrev pub object_end_step : State → ℕ → Result State JsonFault
object_end_step s place = cond (ends_object s.expect) (close_object s.stack place) (Err (Expected place))

abbrev pub comma_step : Expect → List Open → ℕ → Result State JsonFault
comma_step CommaOrEnd stack place = Ok record { stack = stack; expect = after_comma stack }
comma_step _ stack place = Err (Expected place)

abbrev pub colon_step : Expect → List Open → ℕ → Result State JsonFault
colon_step Colon stack place = Ok record { stack = stack; expect = Value }
colon_step _ stack place = Err (Expected place)

-- one token: first the token itself, then whether it may stand there, then whether it is a new name
abbrev pub step : ℕ → State → Token → ℕ → Result State JsonFault
step limit s (tokens.Bad fault) place = Err fault
step limit s tokens.Null place = value_step s json.Null place
step limit s (tokens.Bool b) place = value_step s (json.Bool b) place
step limit s (tokens.Int n) place = value_step s (json.Int n) place
step limit s (tokens.Num text) place = value_step s (json.Num text) place
step limit s (tokens.Str text) place = cond (takes_name s.expect) (name_step s.stack text place) (value_step s (json.Str text) place)
step limit s tokens.OpenArray place = open_step limit s (Arr []) ValueOrEnd place
step limit s tokens.OpenObject place = open_step limit s (Obj [] []) NameOrEnd place
step limit s tokens.CloseArray place = array_end_step s place
step limit s tokens.CloseObject place = object_end_step s place
step limit s tokens.Comma place = comma_step s.expect s.stack place
step limit s tokens.Colon place = colon_step s.expect s.stack place
