-- What one more token does: whether it may stand there, and whether it is a key that the object has
-- already (QAPI code generation guide, "Schema syntax"; the order of the faults is this project's own
-- rule).
use Rattle.std.specs.Prelude.{ℕ, ◌==◌, cond, List, [], ◌∷◌, Result, Ok, Err}
use Rattle.qapi_lex.specs.declared.token.{Token.Token, TokenKind.TokenKind, TokenKind.TheVariants.Mark, TokenKind.TheVariants.Flag, TokenKind.TheVariants.Str}
use Rattle.qapi_tree.specs.declared.{fault.TreeFault.TreeFault, fault.TreeRule.TheVariants.DuplicateKey, stack.Expect.Expect, stack.Expect.TheVariants.Value, stack.Expect.TheVariants.ValueOrEnd, stack.Expect.TheVariants.KeyOrEnd, stack.Expect.TheVariants.Colon, stack.Expect.TheVariants.CommaOrEnd}
use Rattle.qapi_tree.specs.{declared.stack.Open.Open, declared.tree.Tree.Tree, Faults.fault, Faults.syntax_fault, Spelling.has_key}
use Rattle.qapi_tree.specs.declared.stack.Open.TheVariants as opens
use Rattle.qapi_tree.specs.declared.tree.Tree.TheVariants as trees
use Rattle.qapi_tree.specs.Stacks.{State, takes_value, takes_object, takes_key, ends_list, ends_object, after_comma, put, put_object}

abbrev pub value_step : State → Tree → ℕ → Result State TreeFault
value_step s v line = cond (takes_value s.expect) (Ok (put v s.stack)) (Err (syntax_fault line))

abbrev pub open_list : State → ℕ → Result State TreeFault
open_list s line =
    cond (takes_value s.expect)
    (Ok record { stack = opens.List [] ∷ s.stack; expect = ValueOrEnd })
    (Err (syntax_fault line))

abbrev pub open_object : State → ℕ → Result State TreeFault
open_object s line =
    cond (takes_object s.expect)
    (Ok record { stack = opens.Dict [] [] line ∷ s.stack; expect = KeyOrEnd })
    (Err (syntax_fault line))

abbrev pub key_step : List Open → List ℕ → ℕ → Result State TreeFault
key_step (opens.Dict members old begun ∷ outer) key line =
    cond (has_key members key)
    (Err (fault DuplicateKey line key))
    (Ok record { stack = opens.Dict members key begun ∷ outer; expect = Colon })
key_step _ key line = Err (syntax_fault line)

abbrev pub close_list : List Open → ℕ → Result State TreeFault
close_list (opens.List items ∷ top ∷ outer) line = Ok (put (trees.List items) (top ∷ outer))
close_list _ line = Err (syntax_fault line)

abbrev pub close_object : List Open → ℕ → Result State TreeFault
close_object (opens.Dict members key begun ∷ top ∷ outer) line = Ok (put_object begun members (top ∷ outer))
close_object _ line = Err (syntax_fault line)

abbrev pub colon_step : Expect → List Open → ℕ → Result State TreeFault
colon_step Colon stack line = Ok record { stack = stack; expect = Value }
colon_step _ stack line = Err (syntax_fault line)

abbrev pub comma_step : Expect → List Open → ℕ → Result State TreeFault
comma_step CommaOrEnd stack line = Ok record { stack = stack; expect = after_comma stack }
comma_step _ stack line = Err (syntax_fault line)

abbrev pub mark_step : State → ℕ → ℕ → Result State TreeFault
mark_step s x line =
    cond (x == 123) (open_object s line)
    (cond (x == 125) (cond (ends_object s.expect) (close_object s.stack line) (Err (syntax_fault line)))
    (cond (x == 91) (open_list s line)
    (cond (x == 93) (cond (ends_list s.expect) (close_list s.stack line) (Err (syntax_fault line)))
    (cond (x == 58) (colon_step s.expect s.stack line)
    (cond (x == 44) (comma_step s.expect s.stack line)
    (Err (syntax_fault line)))))))

-- a string is a key where a key may stand, and else a value
abbrev pub string_step : State → List ℕ → ℕ → Result State TreeFault
string_step s text line =
    cond (takes_key s.expect) (key_step s.stack text line) (value_step s (trees.Str text) line)

abbrev pub kind_step : State → TokenKind → ℕ → Result State TreeFault
kind_step s (Mark x) line = mark_step s x line
kind_step s (Flag b) line = value_step s (trees.Flag b) line
kind_step s (Str text) line = string_step s text line

-- one more token
abbrev pub step : State → Token → Result State TreeFault
step s t = kind_step s t.kind t.line
