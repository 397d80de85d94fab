-- What one more byte does to a text, to what is known of it, and to what is left unfinished (serves
-- private functions).
use Rattle.std.specs.Prelude.{◌≡◌, ◌≤◌, ℕ, ◌+◌, ◌-◌, ◌==◌, nat_lt, Bool, true, false, not, cond, ◌&&◌, List, [], ◌∷◌, ◌++◌, Result}
use Rattle.qm_base.specs.Search.{Found, after_front}
use Rattle.qm_frame.specs.declared.step.{FrameFault.FrameFault, FrameFault.TheVariants.LexError, FrameFault.TheVariants.TooDeep, FrameFault.TheVariants.TooLong, TheConstants.MAX_LENGTH, TheConstants.MAX_DEPTH, Step.Step, Step.TheVariants.More, Step.TheVariants.Frame, Step.TheVariants.Bad}
use Rattle.qm_frame.specs.declared.piece.LastPiece.{LastPiece, TheVariants.Whole, TheVariants.Number, TheVariants.Word, TheVariants.Str, TheVariants.Escape, TheVariants.Broken}
use Rattle.qm_frame.specs.declared.{judging.Judged.Judged, judging.Judged.TheVariants.Taken, judging.Judged.TheVariants.Ends, judging.Judged.TheVariants.Wrong, judging.State.State, framer.Mode.Mode}
use Rattle.qm_frame.specs.declared.framer.Mode.TheVariants as modes
use Rattle.qm_frame.specs.Bytes.{is_single, is_opener, is_closer, begins_number, in_number, is_letter, is_quote, is_barred, is_reset}
use Rattle.qm_frame.specs.{Pieces.pieces, Pieces.level_of, Pieces.is_broken, Messages.is_open}
use Rattle.qm_frame.specs.Framing.{Residue, Between, Inside, Skipping, closed_by, front_of, answered}

-- a piece that the text ends in
abbrev pub ends_in : LastPiece → Found ℕ LastPiece
ends_in last = record { answers = []; rest = last }

-- a piece of one byte, after which the text ends
abbrev pub begun : ℕ → Found ℕ LastPiece
begun x =
    cond (is_single x) (record { answers = x ∷ []; rest = Whole })
    (cond (begins_number x) (ends_in Number)
    (cond (is_letter x) (ends_in Word)
    (cond (is_quote x) (ends_in (Str x))
    (ends_in Broken))))

-- what one more byte adds to the pieces of a text that ends so
abbrev pub moved : LastPiece → ℕ → Found ℕ LastPiece
moved Whole x = begun x
moved Number x = cond (in_number x) (ends_in Number) (begun x)
moved Word x = cond (is_letter x) (ends_in Word) (begun x)
moved (Str quote) x =
    cond (is_barred x) (ends_in Broken)
    (cond (x == quote) (ends_in Whole)
    (cond (x == 92) (ends_in (Escape quote)) (ends_in (Str quote))))
moved (Escape quote) x = cond (is_barred x) (ends_in Broken) (ends_in (Str quote))
moved Broken x = ends_in Broken

-- a byte of a string with this quote that neither ends it nor escapes the next (92 is the backslash)
abbrev pub is_plain : ℕ → ℕ → Bool
is_plain quote x = not (is_barred x) && not (x == quote) && not (x == 92)

-- a bracket after this piece does not count
abbrev pub hides : LastPiece → Bool
hides (Str quote) = true
hides (Escape quote) = true
hides Broken = true
hides last = false

-- the level with one more byte
abbrev pub depth_after : LastPiece → ℕ → ℕ → ℕ
depth_after last depth x =
    cond (hides last) depth (cond (is_opener x) (depth + 1) (cond (is_closer x) (depth - 1) depth))

-- what is known of a text
abbrev pub state_of : List ℕ → State
state_of text = record { last = (pieces text).rest; depth = level_of text }

-- the bounds of what is known of an open text
pub record IsWithin (s : State) : Type 0 where
  pub low : 1 ≤ s.depth
  pub high : s.depth ≤ MAX_DEPTH

-- what one more byte makes of an open text of so many bytes
abbrev pub judged : State → ℕ → ℕ → Judged
judged s n x =
    cond (n == MAX_LENGTH) (Wrong TooLong)
    (cond (is_broken (moved s.last x).rest) (Wrong LexError)
    (cond (nat_lt MAX_DEPTH (depth_after s.last s.depth x)) (Wrong TooDeep)
    (cond (depth_after s.last s.depth x == 0) Ends
    (Taken record {
      last = (moved s.last x).rest;
      depth = depth_after s.last s.depth x;
    }))))

-- the text ends in an unclosed string that the byte x lengthens, and may have one more byte
abbrev pub is_run : LastPiece → ℕ → ℕ → Bool
is_run (Str quote) n x = nat_lt n MAX_LENGTH && is_plain quote x
is_run last n x = false

-- there is room for a message, and what is known of the text is right while it is open
pub record IsKnown (capacity : ℕ) (text : List ℕ) (state : State) : Type 0 where
  pub room : MAX_LENGTH ≤ capacity
  pub known : is_open text ≡ true → state ≡ state_of text

abbrev pub nothing : Found (Result (List ℕ) FrameFault) Residue
nothing = record { answers = []; rest = Between }

-- the frames that one more byte adds, and what it leaves unfinished
abbrev pub step : Residue → ℕ → Found (Result (List ℕ) FrameFault) Residue
step Between x = after_front (front_of x []) (λ k. nothing)
step (Inside text) x =
    cond (is_open (text ++ x ∷ [])) (record { answers = []; rest = Inside (text ++ x ∷ []) })
    (after_front (closed_by text x []) (λ k. nothing))
step Skipping x = record { answers = []; rest = cond (is_reset x) Between Skipping }

-- what is left unfinished, and the message that the last byte completed, or nothing
pub record Split : Type 0 where
  pub rest : Residue
  pub message : List ℕ

-- what an answer says of the byte, with what it leaves
abbrev pub stepped : Step → Split → Found (Result (List ℕ) FrameFault) Residue
stepped answer split = record { answers = answered answer split.message; rest = split.rest }

-- what a byte of a message leaves, by its answer and the text with it
abbrev pub split_by : Step → ℕ → List ℕ → Split
split_by More x text = record { rest = Inside text; message = [] }
split_by Frame x text = record { rest = Between; message = text }
split_by (Bad fault) x text = record { rest = cond (is_reset x) Between Skipping; message = [] }

-- where a byte of a message leaves a splitter, by its answer
abbrev pub mode_after : Step → ℕ → Mode
mode_after More x = modes.Inside
mode_after Frame x = modes.Complete
mode_after (Bad fault) x = cond (is_reset x) modes.Between modes.Skipping

abbrev pub split_of : Mode → List ℕ → Split
split_of modes.Between text = record { rest = Between; message = [] }
split_of modes.Inside text = record { rest = Inside text; message = [] }
split_of modes.Skipping text = record { rest = Skipping; message = [] }
split_of modes.Complete text = record { rest = Between; message = text }

-- inside a message its text is open
abbrev pub IsKept : Mode → List ℕ → Type 0
IsKept modes.Inside text = is_open text ≡ true
IsKept mode text = Unit {0}
