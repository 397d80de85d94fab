-- Texts of one line, and the lines of a text (this project's own rule).
use Rattle.std.specs.Prelude.{ℕ, ◌==◌, not, Bool, if◌then◌else◌, List, [], ◌∷◌, ◌++◌, IsTrue}
use Rattle.std.specs.List.{list_all}

abbrev pub is_line_feed : ℕ → Bool
is_line_feed x = x == 10

abbrev pub stays_in_line : ℕ → Bool
stays_in_line x = not (is_line_feed x)

-- no LF stands in the text
abbrev pub is_one_line : List ℕ → Bool
is_one_line text = list_all stays_in_line text

abbrev pub IsLine : List ℕ → Type 0
IsLine line = IsTrue (is_one_line line)

-- the lines of a text, each without the LF that ends it; the first begins with what stands before
abbrev pub lines_in : List ℕ → List ℕ → List (List ℕ)
lines_in before [] = []
lines_in before (x ∷ text) = if is_line_feed x then before ∷ lines_in [] text else lines_in (before ++ x ∷ []) text

abbrev pub lines_of : List ℕ → List (List ℕ)
lines_of text = lines_in [] text

-- what stands after the last LF
abbrev pub left_in : List ℕ → List ℕ → List ℕ
left_in before [] = before
left_in before (x ∷ text) = if is_line_feed x then left_in [] text else left_in (before ++ x ∷ []) text

abbrev pub left_of : List ℕ → List ℕ
left_of text = left_in [] text

abbrev pub AllLines : List (List ℕ) → Type 0
AllLines [] = Unit {0}
AllLines (line ∷ lines) = IsLine line × AllLines lines
