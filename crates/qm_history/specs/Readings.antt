-- Reading a history line by line. This serves private functions.
use Rattle.std.specs.Prelude.{◌≡◌, ℕ, ◌+◌, zero, suc, if◌then◌else◌, List, [], ◌∷◌, ◌++◌, length, drop, codes, Option, Some, None, nat_eq}
use Rattle.std.specs.{List.starts_with, Str.bytes_eq}
use Rattle.qm_core.specs.declared.entries.Entry.{Entry, TheVariants.Take}
use Rattle.qm_history.specs.declared.guesses.{Head.Head, Head.TheVariants.Whole, Head.TheVariants.Taking}
use Rattle.qm_history.specs.declared.reading.Reading.{Reading, TheVariants.Between, TheVariants.Within, TheVariants.Ended}
use Rattle.qm_history.specs.{Guesses.head_in, Histories.end_line, Lines.lines_of, Lines.left_of}

-- lines were handed out, of which so many are wanting
abbrev pub taking : List Entry → ℕ → ℕ → List (List ℕ) → Reading
taking entries s zero lines = Between (entries ++ Take s lines ∷ [])
taking entries s (suc left) lines = Within entries s left lines

abbrev pub after_head : List Entry → Option Head → Option Reading
after_head entries None = None
after_head entries (Some (Whole e)) = Some (Between (entries ++ e ∷ []))
after_head entries (Some (Taking s count)) = Some (taking entries s count [])

-- one line more, where it can stand; Within counts the lines after the next
abbrev pub step : Reading → List ℕ → Option Reading
step (Between entries) line =
    if bytes_eq line (end_line (length entries)) then Some (Ended entries) else after_head entries (head_in (length entries + 1) line)
step (Within entries s left lines) line =
    if starts_with nat_eq line (codes "> ") then Some (taking entries s left (lines ++ drop 2 line ∷ [])) else None
step (Ended entries) line = None

abbrev pub on : Option Reading → (Reading → Option Reading) → Option Reading
on None next = None
on (Some s) next = next s

abbrev pub run : Reading → List (List ℕ) → Option Reading
run s [] = Some s
run s (line ∷ lines) = on (step s line) (λ next. run next lines)

-- the lines before a place led to what was read, and there the line of this number begins
pub record ReadsTo (text : List ℕ) (place line : ℕ) (s : Reading) : Type 0 where
  pub before : List (List ℕ)
  pub lines : lines_of text ≡ before ++ lines_of (drop place text)
  pub left : left_of text ≡ left_of (drop place text)
  pub count : line ≡ length before + 1
  pub led : run (Between []) before ≡ Some s
