-- The lines of a script (this project's own rule).
use Rattle.std.specs.Prelude.{ℕ, ◌==◌, Bool, if◌then◌else◌, List, [], ◌∷◌, length}
use Rattle.std.specs.List.{slice_split}

abbrev pub is_line_feed : ℕ → Bool
is_line_feed x = x == 10

-- what follows the last LF is a line where it is not empty
abbrev pub whole_lines : List (List ℕ) → List (List ℕ)
whole_lines [] = []
whole_lines (line ∷ []) = if length line == 0 then [] else line ∷ []
whole_lines (line ∷ next ∷ others) = line ∷ whole_lines (next ∷ others)

-- each line without its LF, which the last may lack
abbrev pub lines_of : List ℕ → List (List ℕ)
lines_of script = whole_lines (slice_split is_line_feed script)
