-- The objects that a row of tokens holds, or the first token that cannot stand where it stands
-- (QAPI code generation guide, "Schema syntax"; that the text's end has the last token's line is
-- this project's own rule).
use Rattle.std.specs.Prelude.{◌≡◌, ◌≢◌, ℕ, List, [], ◌∷◌, Result, Ok, Err}
use Rattle.qapi_lex.specs.declared.token.Token.{Token}
use Rattle.qapi_tree.specs.declared.{fault.TreeFault.TreeFault, stack.Open.Open, tree.Expr.Expr}
use Rattle.qapi_tree.specs.declared.stack.Open.TheVariants as opens
use Rattle.qapi_tree.specs.{Faults.syntax_fault, Faults.memory_fault, Stacks.State, Stacks.begun, Steps.step}

abbrev pub on : {A B : Type 0} → Result A TreeFault → (A → Result B TreeFault) → Result B TreeFault
on (Ok x) next = next x
on (Err fault) next = Err fault

-- tokens from the left, up to the first fault
abbrev pub run : State → List Token → Result State TreeFault
run s [] = Ok s
run s (t ∷ ts) = on (step s t) (λ next. run next ts)

-- the expressions, if nothing is open but the file
abbrev pub whole : List Open → ℕ → Result (List Expr) TreeFault
whole (opens.File exprs ∷ outer) line = Ok exprs
whole _ line = Err (syntax_fault line)

-- the line of the last token
abbrev pub last_line : ℕ → List Token → ℕ
last_line line [] = line
last_line line (t ∷ ts) = last_line t.line ts

-- the objects of the row
unfoldable pub objects_of : List Token → Result (List Expr) TreeFault
objects_of ts = on (run begun ts) (λ s. whole s.stack (last_line 0 ts))

-- a token was taken, or refused, or memory was wanting; this serves private functions
abbrev pub Steps : Result State TreeFault → Result (Unit {0}) TreeFault → State → Type 0
Steps right (Ok u) new = right ≡ Ok new
Steps right (Err fault) new = fault ≢ memory_fault → right ≡ Err fault
