-- What a schema's text is made of, by longest match from the front: white space, comments, and tokens
-- (QAPI code generation guide, "Schema syntax").
use Rattle.std.specs.Prelude.{ℕ, ◌==◌, nat_eq, Bool, true, false, cond, ◌||◌, List, ◌∷◌, length, codes, Option, Some, None, Result, Ok, Err}
use Rattle.std.specs.List.{position, starts_with}
use Rattle.qm_base.specs.Bytes.{is_space}
use Rattle.qapi_lex.specs.declared.{fault.LexFault.LexFault, fault.LexFault.TheVariants.BadByte, piece.Piece.Piece, piece.Piece.TheVariants.Blank, piece.Piece.TheVariants.Whole, quoted.Quoted.Quoted}
use Rattle.qapi_lex.specs.{declared.token.TokenKind.TheVariants.Mark, declared.token.TokenKind.TheVariants.Flag, declared.token.TokenKind.TheVariants.Str, Strings.quoted}

-- `{ } [ ] : ,`
abbrev pub is_mark : ℕ → Bool
is_mark x = x == 123 || x == 125 || x == 91 || x == 93 || x == 58 || x == 44

abbrev pub up_to : List ℕ → Option ℕ → ℕ
up_to bytes None = length bytes
up_to bytes (Some n) = n

-- how many bytes a comment has after its `#`: all before the first LF
abbrev pub comment_length : List ℕ → ℕ
comment_length bytes = up_to bytes (position (λ x. x == 10) bytes)

abbrev pub string_piece : Result Quoted LexFault → Result Piece LexFault
string_piece (Ok q) = Ok (Whole (Str q.text) q.length)
string_piece (Err fault) = Err fault

-- the piece that begins with x, in this line, or why there is none
abbrev pub piece : ℕ → ℕ → List ℕ → Result Piece LexFault
piece line x rest =
    cond (is_space x) (Ok (Blank 0))
    (cond (x == 35) (Ok (Blank (comment_length rest)))
    (cond (is_mark x) (Ok (Whole (Mark x) 0))
    (cond (starts_with nat_eq (x ∷ rest) (codes "true")) (Ok (Whole (Flag true) 3))
    (cond (starts_with nat_eq (x ∷ rest) (codes "false")) (Ok (Whole (Flag false) 4))
    (cond (x == 39) (string_piece (quoted line false rest))
    (Err (BadByte line)))))))

-- how many bytes a piece has after the first
abbrev pub more_in : Piece → ℕ
more_in (Blank more) = more
more_in (Whole kind more) = more
