-- The pieces that a text is made of, by longest match: single bytes, runs of a number or a word, and
-- strings (RFC 8259, section 2, before any look at what a run or a string holds).
use Rattle.std.specs.Prelude.{ℕ, ◌+◌, ◌-◌, ◌==◌, Bool, true, false, not, cond, ◌&&◌, List, [], ◌∷◌, count_by, position, Option, Some, None}
use Rattle.qm_base.specs.Search.{Front, Piece, Final, Found, found_after}
use Rattle.qm_frame.specs.declared.piece.LastPiece.{LastPiece, TheVariants.Whole, TheVariants.Number, TheVariants.Word, TheVariants.Str, TheVariants.Escape, TheVariants.Broken}
use Rattle.qm_frame.specs.Bytes.{is_single, is_opener, is_closer, begins_number, in_number, is_letter, is_quote, is_barred}

-- a run takes the bytes before the first that is not of its sort; without one the text ends in it
abbrev pub run_to : LastPiece → Option ℕ → Front ℕ LastPiece
run_to last (Some n) = Piece [] n
run_to last None = Final [] last

-- a front that takes one more byte
abbrev pub one_later : Front ℕ LastPiece → Front ℕ LastPiece
one_later (Piece answers k) = Piece answers (k + 1)
one_later (Final answers last) = Final answers last

-- what follows the quote of a string: a backslash (92) goes with the byte after it, and escaped says
-- that the first byte is such a one
abbrev pub quoted : ℕ → Bool → List ℕ → Front ℕ LastPiece
quoted quote escaped [] = Final [] (cond escaped (Escape quote) (Str quote))
quoted quote escaped (x ∷ rest) =
    cond (is_barred x) (Final [] Broken)
    (cond (not escaped && x == quote) (Piece [] 1)
    (one_later (quoted quote (not escaped && x == 92) rest)))

-- the piece that begins with x; its answer is x where x is a piece by itself
abbrev pub piece : ℕ → List ℕ → Front ℕ LastPiece
piece x rest =
    cond (is_single x) (Piece (x ∷ []) 0)
    (cond (begins_number x) (run_to Number (position (λ y. not (in_number y)) rest))
    (cond (is_letter x) (run_to Word (position (λ y. not (is_letter y)) rest))
    (cond (is_quote x) (quoted x false rest)
    (Final [] Broken))))

-- the bytes of a text that are pieces by themselves, and the piece that the text ends in
abbrev pub pieces : List ℕ → Found ℕ LastPiece
pieces text = found_after piece Whole 0 text

abbrev pub is_broken : LastPiece → Bool
is_broken Broken = true
is_broken last = false

-- the text splits into pieces, the last of which may be an unclosed string
abbrev pub scans : List ℕ → Bool
scans text = not (is_broken (pieces text).rest)

-- openers minus closers, outside strings; 0 where there are more closers
abbrev pub level_of : List ℕ → ℕ
level_of text = count_by is_opener (pieces text).answers - count_by is_closer (pieces text).answers
