-- How a schema's text splits into white space, comments and tokens, up to its first fault: an account by
-- cases, which no code follows (QAPI code generation guide, "Schema syntax").
use Rattle.std.specs.Prelude.{◌≡◌, ℕ, ◌==◌, Bool, true, false, not, cond, ◌&&◌, ◌||◌, nat_eq, List, [], ◌∷◌, ◌++◌, codes, Result, Ok, Err}
use Rattle.std.specs.List.{list_all, starts_with}
use Rattle.qapi_lex.specs.declared.fault.LexFault.{LexFault, TheVariants.BadByte, TheVariants.BadEscape, TheVariants.Unclosed}
use Rattle.qapi_lex.specs.declared.{spot.Spot.Spot, token.Token.Token, token.TokenKind.TokenKind, token.TokenKind.TheVariants.Mark, token.TokenKind.TheVariants.Flag, token.TokenKind.TheVariants.Str}
use Rattle.qm_base.specs.Bytes.{is_space}
use Rattle.qapi_lex.specs.{Pieces.is_mark, Spots.after_byte, Spots.after_bytes, Strings.is_printable, Tokens.followed_by}

-- a byte that a string may have: a printable one but the quote (39)
abbrev pub is_plain : ℕ → Bool
is_plain x = is_printable x && not (x == 39)

-- how a string's bytes are written: each backslash (92) twice
abbrev pub doubled : ℕ → List ℕ
doubled x = cond (x == 92) (92 ∷ 92 ∷ []) (x ∷ [])

abbrev pub written : List ℕ → List ℕ
written [] = []
written (x ∷ text) = doubled x ++ written text

abbrev pub word : Bool → List ℕ
word true = codes "true"
word false = codes "false"

abbrev pub is_no_line_end : ℕ → Bool
is_no_line_end x = not (x == 10)

-- nothing, or LF
abbrev pub IsLineEnd : List ℕ → Type 0
IsLineEnd [] = Unit {0}
IsLineEnd (x ∷ rest) = x ≡ 10

-- a token by itself, before others or a fault
abbrev pub before : TokenKind → Spot → Result (List Token) LexFault → Result (List Token) LexFault
before kind s r = followed_by (record { kind = kind; line = s.line; column = s.column } ∷ []) r

-- why a string in this line does not go on or close with these bytes
pub data Cuts (line : ℕ) : List ℕ → LexFault → Type 0 where
  at_end : Cuts line [] (Unclosed line)
  at_line_end : (rest : List ℕ) → Cuts line (10 ∷ rest) (Unclosed line)
  escape_at_end : Cuts line (92 ∷ []) (BadEscape line)
  no_escape : (x : ℕ) (rest : List ℕ) → (x == 92) ≡ false → Cuts line (92 ∷ x ∷ rest) (BadEscape line)
  no_byte : (x : ℕ) (rest : List ℕ) → (x == 10) ≡ false → is_printable x ≡ false → Cuts line (x ∷ rest) (BadByte line)

-- something begins with these bytes
abbrev pub begins : ℕ → List ℕ → Bool
begins x rest =
    is_space x || x == 35 || is_mark x || starts_with nat_eq (x ∷ rest) (word true)
    || starts_with nat_eq (x ∷ rest) (word false) || x == 39

-- bytes from a place on have these tokens, or this first fault
pub data Lexes : Spot → List ℕ → Result (List Token) LexFault → Type 0 where
  nothing : {s : Spot} → Lexes s [] (Ok [])
  space : {s : Spot} {rest : List ℕ} {r : Result (List Token) LexFault} (x : ℕ) → is_space x ≡ true → Lexes (after_byte s x) rest r → Lexes s (x ∷ rest) r
  -- `#` (35) and all before the line's end
  comment : {s : Spot} {rest : List ℕ} {r : Result (List Token) LexFault} (body : List ℕ) → list_all is_no_line_end body ≡ true → IsLineEnd rest →
      Lexes (after_bytes s (35 ∷ body)) rest r → Lexes s (35 ∷ body ++ rest) r
  mark : {s : Spot} {rest : List ℕ} {r : Result (List Token) LexFault} (x : ℕ) → is_mark x ≡ true → Lexes (after_byte s x) rest r → Lexes s (x ∷ rest) (before (Mark x) s r)
  flag : {s : Spot} {rest : List ℕ} {r : Result (List Token) LexFault} (b : Bool) → Lexes (after_bytes s (word b)) rest r → Lexes s (word b ++ rest) (before (Flag b) s r)
  string : {s : Spot} {rest : List ℕ} {r : Result (List Token) LexFault} (text : List ℕ) → list_all is_plain text ≡ true →
      Lexes (after_bytes s (39 ∷ written text ++ 39 ∷ [])) rest r → Lexes s (39 ∷ written text ++ 39 ∷ rest) (before (Str text) s r)
  cut : {s : Spot} {tail : List ℕ} {fault : LexFault} (text : List ℕ) → list_all is_plain text ≡ true → Cuts s.line tail fault → Lexes s (39 ∷ written text ++ tail) (Err fault)
  bad_byte : {s : Spot} (x : ℕ) (rest : List ℕ) → begins x rest ≡ false → Lexes s (x ∷ rest) (Err (BadByte s.line))
