-- The first fault of tokens, told by which tokens begin a value, nested at most so deep (this
-- project's own rule).
use Rattle.std.specs.Prelude.{ℕ, List, [], ◌∷◌, ◌++◌}
use Rattle.qm_json.specs.declared.value.Json.{Json}
use Rattle.qm_read.specs.declared.fault.JsonFault.{JsonFault, TheVariants.Expected, TheVariants.Duplicate}
use Rattle.qm_read.specs.{declared.token.Token.Token, Spelling.SpellsValue, Tokens.Placed, Tokens.at}
use Rattle.qm_read.specs.declared.token.Token.TheVariants as tokens

-- with some tokens after them, the tokens spell some value
pub record BeginsValue (limit : ℕ) (ts : List Placed) : Type 0 where
  pub rest : List Placed
  pub value : Json
  pub is : SpellsValue limit (ts ++ rest) value

-- with this token no value begins; of a string, with none in its place
abbrev pub IsMisplaced : ℕ → List Placed → Token → ℕ → Type 0
IsMisplaced limit before (tokens.Bad fault) p = ⊥
IsMisplaced limit before (tokens.Str name) p = (other : List ℕ) → BeginsValue limit (before ++ at (tokens.Str other) p ∷ []) → ⊥
IsMisplaced limit before token p = BeginsValue limit (before ++ at token p ∷ []) → ⊥

-- the first fault of the tokens of a text of this length: all tokens before it begin a value
pub data FirstFault : ℕ → List Placed → ℕ → JsonFault → Type 0 where
  -- a token that is wrong in itself
  wrong : {limit n : ℕ} (before rest : List Placed) (fault : JsonFault) (p : ℕ) → BeginsValue limit before →
      FirstFault limit (before ++ at (tokens.Bad fault) p ∷ rest) n fault
  -- a token that may not stand there
  misplaced : {limit n : ℕ} (before rest : List Placed) (token : Token) (p : ℕ) → BeginsValue limit before → IsMisplaced limit before token p →
      FirstFault limit (before ++ at token p ∷ rest) n (Expected p)
  -- a name that may not stand there, where another name may
  twice : {limit n : ℕ} (before rest : List Placed) (name other : List ℕ) (p : ℕ) → (BeginsValue limit (before ++ at (tokens.Str name) p ∷ []) → ⊥) →
      BeginsValue limit (before ++ at (tokens.Str other) p ∷ []) → FirstFault limit (before ++ at (tokens.Str name) p ∷ rest) n (Duplicate p)
  -- the end, where further tokens are wanted
  short : {limit n : ℕ} (ts : List Placed) → BeginsValue limit ts → ((value : Json) → SpellsValue limit ts value → ⊥) → FirstFault limit ts n (Expected n)
