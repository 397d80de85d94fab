-- Texts that are messages, and texts that messages begin with (this project's own rule).
use Rattle.std.specs.Prelude.{ℕ, ◌-◌, ◌==◌, nat_lt, nat_le, Bool, true, false, cond, ◌&&◌, List, [], ◌∷◌, ◌++◌, length, take}
use Rattle.qm_frame.specs.{declared.step.FrameFault.FrameFault, declared.step.FrameFault.TheVariants.LexError, declared.step.FrameFault.TheVariants.TooDeep, declared.step.FrameFault.TheVariants.TooLong, Pieces.scans, Pieces.level_of}
use Rattle.qm_frame.specs.{declared.step.TheConstants.MAX_LENGTH, declared.step.TheConstants.MAX_DEPTH, Bytes.is_opener}

abbrev pub begins_open : List ℕ → Bool
begins_open [] = false
begins_open (x ∷ rest) = is_opener x

abbrev pub is_level_open : List ℕ → Bool
is_level_open text = nat_le 1 (level_of text) && nat_le (level_of text) MAX_DEPTH

-- a test of each prefix of front ++ rest that is longer than front
abbrev pub each_prefix : (List ℕ → Bool) → List ℕ → List ℕ → Bool
each_prefix test front [] = true
each_prefix test front (x ∷ rest) =
    test (front ++ x ∷ []) && each_prefix test (front ++ x ∷ []) rest

-- the text begins with an opener, scans and is not too long, and each prefix but the empty one
-- has a level from 1 to the limit
unfoldable pub is_open : List ℕ → Bool
is_open text =
    begins_open text && scans text && nat_le (length text) MAX_LENGTH
    && each_prefix is_level_open [] text

-- an open text, and then the closer that brings its level to 0
unfoldable pub is_message : List ℕ → Bool
is_message text =
    is_open (take (length text - 1) text) && (level_of text == 0) && nat_le (length text) MAX_LENGTH

-- why an open text with one more byte is neither open nor a message
unfoldable pub fault_of : List ℕ → FrameFault
fault_of text =
    cond (nat_lt MAX_LENGTH (length text)) TooLong
    (cond (nat_lt MAX_DEPTH (level_of text)) TooDeep LexError)
