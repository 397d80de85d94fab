-- The tokens of a text, by longest match (RFC 8259, sections 2, 3, 6 and 7; runs of letters and of
-- the bytes of numbers are this project's own rule).
use Rattle.std.specs.Prelude.{ℕ, ◌+◌, ◌==◌, true, false, cond, List, [], ◌∷◌, ◌++◌, take, drop, length, min, codes, ℤ, Option, Some, None, Result, Ok, Err}
use Rattle.std.specs.{List.prefix_len, Str.bytes_eq}
use Rattle.qm_frame.specs.Bytes.{is_space, begins_number, in_number, is_letter, is_quote}
use Rattle.qm_json.specs.Numbers.{is_literal, whole_of}
use Rattle.qm_read.specs.declared.{fault.JsonFault.JsonFault, fault.JsonFault.TheVariants.Expected, token.Lexeme.Lexeme, token.Token.Token}
use Rattle.qm_read.specs.declared.token.Token.TheVariants as tokens
use Rattle.qm_read.specs.{Strings.string_length, Strings.text_of, Walks.walk}

-- a token, and how many bytes stand before it
pub record Placed : Type 0 where
  pub token : Token
  pub place : ℕ

abbrev pub at : Token → ℕ → Placed
at token place = record { token = token; place = place }

-- a literal is a whole number, or else it is kept as its text
abbrev pub literal_token : List ℕ → Option ℤ → Token
literal_token text (Some n) = tokens.Int n
literal_token text None = tokens.Num text

abbrev pub number_token : ℕ → List ℕ → Token
number_token place text = cond (is_literal text) (literal_token text (whole_of text)) (tokens.Bad (Expected place))

abbrev pub word_token : ℕ → List ℕ → Token
word_token place text =
    cond (bytes_eq text (codes "null")) tokens.Null
    (cond (bytes_eq text (codes "true")) (tokens.Bool true)
    (cond (bytes_eq text (codes "false")) (tokens.Bool false)
    (tokens.Bad (Expected place))))

-- a byte that is a token by itself, or begins none
abbrev pub mark_token : ℕ → ℕ → Token
mark_token place x =
    cond (x == 123) tokens.OpenObject
    (cond (x == 125) tokens.CloseObject
    (cond (x == 91) tokens.OpenArray
    (cond (x == 93) tokens.CloseArray
    (cond (x == 58) tokens.Colon
    (cond (x == 44) tokens.Comma
    (tokens.Bad (Expected place)))))))

-- a string by what its bytes stand for, and by the place where they stop without a closing quote
abbrev pub string_token : Result (List ℕ) JsonFault → Option ℕ → Token
string_token (Err fault) stop = tokens.Bad fault
string_token (Ok text) None = tokens.Str text
string_token (Ok text) (Some place) = tokens.Bad (Expected place)

-- the place where a string stops, unless the quote closes it there
abbrev pub stop_at : ℕ → ℕ → List ℕ → Option ℕ
stop_at place quote [] = Some place
stop_at place quote (y ∷ rest) = cond (y == quote) None (Some place)

-- a run: x and so many bytes after it
abbrev pub run_lexeme : (List ℕ → Token) → ℕ → List ℕ → ℕ → Lexeme
run_lexeme token x rest n = record { token = Some (token (x ∷ take n rest)); more = n }

-- a string: its quote, so many bytes after it, and the byte that ends it
abbrev pub string_lexeme : ℕ → ℕ → List ℕ → ℕ → Lexeme
string_lexeme place quote rest n =
    record { token = Some (string_token (text_of place (take n rest)) (stop_at (place + 1 + n) quote (drop n rest))); more = min (n + 1) (length rest) }

-- what stands at the front of a text, from x on; what stands after a fault does not matter
abbrev pub lexeme_of : ℕ → ℕ → List ℕ → Lexeme
lexeme_of place x rest =
    cond (is_space x) (record { token = None; more = prefix_len is_space rest })
    (cond (begins_number x) (run_lexeme (number_token place) x rest (prefix_len in_number rest))
    (cond (is_letter x) (run_lexeme (word_token place) x rest (prefix_len is_letter rest))
    (cond (is_quote x) (string_lexeme place x rest (string_length x false rest))
    (record { token = Some (mark_token place x); more = 0 }))))

abbrev pub placed : Option Token → ℕ → List Placed
placed None place = []
placed (Some token) place = at token place ∷ []

-- the token of a lexeme, if it has one, and those of what follows it
abbrev pub with_later : Lexeme → ℕ → (ℕ → List Placed) → List Placed
with_later l place later = placed l.token place ++ later l.more

abbrev pub tokens_here : ℕ → ℕ → List ℕ → (ℕ → List Placed) → List Placed
tokens_here place x rest later = with_later (lexeme_of place x rest) place later

-- the tokens of bytes of which the first stands at a place
abbrev pub tokens_from : ℕ → List ℕ → List Placed
tokens_from place bytes = walk tokens_here [] 0 place bytes

unfoldable pub tokens_of : List ℕ → List Placed
tokens_of text = tokens_from 0 text
