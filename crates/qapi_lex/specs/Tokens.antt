-- The tokens of a schema's text, each with its place, or the first fault (QAPI code generation guide,
-- "Schema syntax").
use Rattle.std.specs.Prelude.{ℕ, zero, suc, List, [], ◌∷◌, ◌++◌, Result, Ok, Err}
use Rattle.qapi_lex.specs.declared.{fault.LexFault.LexFault, piece.Piece.Piece, piece.Piece.TheVariants.Blank, piece.Piece.TheVariants.Whole, spot.Spot.Spot, token.Token.Token}
use Rattle.qapi_lex.specs.{Pieces.piece, Pieces.more_in, Spots.beginning, Spots.after_byte}

-- the token of a piece that stands at a place
abbrev pub tokens_in : Piece → Spot → List Token
tokens_in (Blank more) s = []
tokens_in (Whole kind more) s = record { kind = kind; line = s.line; column = s.column } ∷ []

abbrev pub followed_by : List Token → Result (List Token) LexFault → Result (List Token) LexFault
followed_by tokens (Ok more) = Ok (tokens ++ more)
followed_by tokens (Err fault) = Err fault

abbrev pub after_piece : Result Piece LexFault → Spot → (ℕ → Result (List Token) LexFault) → Result (List Token) LexFault
after_piece (Ok p) s go = followed_by (tokens_in p s) (go (more_in p))
after_piece (Err fault) s go = Err fault

-- the tokens of bytes that begin at a place, once the first so many are passed over
abbrev pub tokens_after : ℕ → Spot → List ℕ → Result (List Token) LexFault
tokens_after k s [] = Ok []
tokens_after (suc k) s (x ∷ rest) = tokens_after k (after_byte s x) rest
tokens_after zero s (x ∷ rest) = after_piece (piece s.line x rest) s (λ k. tokens_after k (after_byte s x) rest)

-- the tokens of a text, or its first fault
unfoldable pub tokens_of : List ℕ → Result (List Token) LexFault
tokens_of text = tokens_after 0 beginning text
