-- The first fault of tokens, told by which tokens begin a row of objects (this project's own rule).
use Rattle.std.specs.Prelude.{◌≡◌, ℕ, List, [], ◌∷◌, ◌++◌, Some}
use Rattle.qapi_lex.specs.declared.token.{Token.Token, TokenKind.TokenKind, TokenKind.TheVariants.Str}
use Rattle.qapi_tree.specs.declared.{fault.TreeFault.TreeFault, fault.TreeRule.TheVariants.DuplicateKey, tree.Expr.Expr}
use Rattle.qapi_tree.specs.{Faults.fault, Faults.syntax_fault, Judging.first_fault, Reading.last_line, Spelling.at, Spelling.SpellsRow}

-- with some tokens after them, the tokens spell some row of objects
pub record BeginsRow (ts : List Token) : Type 0 where
  pub rest : List Token
  pub exprs : List Expr
  pub is : SpellsRow (ts ++ rest) exprs

-- with this token no row begins; of a string, with none in its place
abbrev pub IsMisplaced : List Token → TokenKind → ℕ → ℕ → Type 0
IsMisplaced before (Str key) l c = (other : List ℕ) → BeginsRow (before ++ at (Str other) l c ∷ []) → ⊥
IsMisplaced before kind l c = BeginsRow (before ++ at kind l c ∷ []) → ⊥

-- the first fault of tokens: all tokens before it begin a row
pub data FirstFault : List Token → TreeFault → Type 0 where
  -- a token that may not stand there
  misplaced : (before rest : List Token) (kind : TokenKind) (l c : ℕ) → BeginsRow before → IsMisplaced before kind l c →
      FirstFault (before ++ at kind l c ∷ rest) (syntax_fault l)
  -- a key that may not stand there, where another key may
  twice : (before rest : List Token) (key other : List ℕ) (l c : ℕ) → (BeginsRow (before ++ at (Str key) l c ∷ []) → ⊥) →
      BeginsRow (before ++ at (Str other) l c ∷ []) → FirstFault (before ++ at (Str key) l c ∷ rest) (fault DuplicateKey l key)
  -- the end, where further tokens are wanted
  short : (ts : List Token) → BeginsRow ts → ((exprs : List Expr) → SpellsRow ts exprs → ⊥) → FirstFault ts (syntax_fault (last_line 0 ts))

-- the fault of tokens: their first, or else the first of the expressions that they spell
pub data HasFault : List Token → TreeFault → Type 0 where
  of_tokens : {ts : List Token} {f : TreeFault} → FirstFault ts f → HasFault ts f
  of_expressions : {ts : List Token} {f : TreeFault} (exprs : List Expr) → SpellsRow ts exprs → first_fault exprs ≡ Some f → HasFault ts f
