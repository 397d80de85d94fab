-- The frames of a list of bytes, which are its messages and its faults in order, found by searching
-- the whole list for shortest prefixes (this project's own rule). Where reading goes on after a fault:
-- QMP specification, "Forcing the JSON parser into known-good state".
use Rattle.std.specs.Prelude.{ℕ, ◌+◌, cond, List, [], ◌∷◌, ◌++◌, length, position, Option, Some, None, Result, Ok, Err}
use Rattle.qm_base.specs.Search.{Front, Piece, Final, Found, found_after}
use Rattle.qm_frame.specs.declared.step.{FrameFault.FrameFault, FrameFault.TheVariants.LexError, FrameFault.TheVariants.Unbalanced, Step.Step, Step.TheVariants.More, Step.TheVariants.Frame, Step.TheVariants.Bad}
use Rattle.qm_frame.specs.{Bytes.is_space, Bytes.is_opener, Bytes.is_closer, Bytes.is_reset, Messages.is_open, Messages.is_message, Messages.fault_of}

-- what the end of the bytes leaves unfinished: nothing, a message, or a recovery without a reset byte
pub data Residue : Type 0 where
  Between : Residue
  Inside : List ℕ → Residue
  Skipping : Residue

-- what stands at the front of bytes: a frame or none, and how many bytes are taken after the first,
-- or what is left unfinished
abbrev pub NextFrame : Type 0
NextFrame = Front (Result (List ℕ) FrameFault) Residue

-- a fault at the last byte taken so far, and the place of the first reset byte in the bytes after it
abbrev pub skipped_to : FrameFault → ℕ → Option ℕ → NextFrame
skipped_to fault taken (Some n) = Piece (Err fault ∷ []) (taken + (n + 1))
skipped_to fault taken None = Final (Err fault ∷ []) Skipping

-- a fault at the byte x, the last one taken so far: reading goes on with rest where x is a reset byte,
-- and else after the first reset byte of rest
abbrev pub after_recovery : FrameFault → ℕ → ℕ → List ℕ → NextFrame
after_recovery fault taken x rest =
    cond (is_reset x) (Piece (Err fault ∷ []) taken)
    (skipped_to fault taken (position is_reset rest))

-- front with x is the shortest prefix that is not open: a message, or else a fault at x
abbrev pub closed_by : List ℕ → ℕ → List ℕ → NextFrame
closed_by front x rest =
    cond (is_message (front ++ x ∷ [])) (Piece (Ok (front ++ x ∷ []) ∷ []) (length front))
    (after_recovery (fault_of (front ++ x ∷ [])) (length front) x rest)

-- the frame of the shortest prefix of front ++ rest that is longer than front and not open;
-- without one a message is unfinished
abbrev pub first_closed : List ℕ → List ℕ → NextFrame
first_closed front [] = Final [] (Inside front)
first_closed front (x ∷ rest) =
    cond (is_open (front ++ x ∷ [])) (first_closed (front ++ x ∷ []) rest) (closed_by front x rest)

-- the frame at the front of x ∷ rest, if there is one, and how many bytes after x it takes
abbrev pub front_of : ℕ → List ℕ → NextFrame
front_of x rest =
    cond (is_space x) (Piece [] 0)
    (cond (is_closer x) (Piece (Err Unbalanced ∷ []) 0)
    (cond (is_opener x) (first_closed [] (x ∷ rest))
    (after_recovery LexError 0 x rest)))

abbrev pub framing_of : List ℕ → Found (Result (List ℕ) FrameFault) Residue
framing_of bytes = found_after front_of Between 0 bytes

-- each message as its bytes, and each fault
unfoldable pub frames_of : List ℕ → List (Result (List ℕ) FrameFault)
frames_of bytes = (framing_of bytes).answers

-- what is left unfinished
unfoldable pub residue_of : List ℕ → Residue
residue_of bytes = (framing_of bytes).rest

-- all bytes given to a framer so far, and the message that the last of them completed, or nothing
pub record Framed : Type 0 where
  pub given : List ℕ
  pub message : List ℕ

-- the frames that an answer adds, with the message that it completes
abbrev pub answered : Step → List ℕ → List (Result (List ℕ) FrameFault)
answered More message = []
answered Frame message = Ok message ∷ []
answered (Bad fault) message = Err fault ∷ []
