-- No message among the frames of bytes is longer than a message may be.
use Rattle.std.proofs.Common.{◌≡◌, ℕ, zero, suc, nat_le, Bool, true, false, cond, ◌&&◌, List, [], ◌∷◌, ◌++◌, length, Option, Some, None, position, Result, Ok, Err, refl, ◌∙◌}
use Rattle.std.specs.List.{list_all}
use Rattle.std.proofs.lemmas.List.Folds.{list_all-append}
use Rattle.qm_base.specs.Search.{Piece, Final, Found, after_front, found_after}
use Rattle.qm_frame.specs.{Bytes.is_closer, Bytes.is_opener, Bytes.is_reset, Bytes.is_space, Messages.is_message, Messages.is_open, Messages.fault_of}
use Rattle.qm_frame.specs.Framing.{NextFrame, Residue, Between, skipped_to, after_recovery, closed_by, first_closed, front_of, frames_of}
use Rattle.qm_frame.specs.declared.step.{FrameFault.FrameFault, FrameFault.TheVariants.LexError, TheConstants.MAX_LENGTH}

-- a frame that is no longer message than there may be
abbrev pub is_short : Result (List ℕ) FrameFault → Bool
is_short (Ok message) = nat_le (length message) MAX_LENGTH
is_short (Err fault) = true

abbrev AreShort : NextFrame → Type 0
AreShort (Piece frames n) = list_all is_short frames ≡ true
AreShort (Final frames rest) = list_all is_short frames ≡ true

of_both : (test : Bool) (a b : NextFrame) → (test ≡ true → AreShort a) → AreShort b → AreShort (cond test a b)
of_both true a b x y = x refl
of_both false a b x y = y

last_of : (a b : Bool) → (a && b) ≡ true → b ≡ true
last_of true b h = h
last_of false b h = absurd cc

message-short : (text : List ℕ) → is_message text ≡ true → nat_le (length text) MAX_LENGTH ≡ true
unfolding is_message
message-short text h = last_of _ _ h

skipped-short : (fault : FrameFault) (taken : ℕ) (at : Option ℕ) → AreShort (skipped_to fault taken at)
skipped-short fault taken (Some n) = refl
skipped-short fault taken None = refl

recovery-short : (fault : FrameFault) (taken x : ℕ) (rest : List ℕ) → AreShort (after_recovery fault taken x rest)
recovery-short fault taken x rest = of_both (is_reset x) _ _ (λ h. refl) (skipped-short fault taken (position is_reset rest))

closed-short : (front : List ℕ) (x : ℕ) (rest : List ℕ) → AreShort (closed_by front x rest)
closed-short front x rest =
    of_both (is_message (front ++ x ∷ [])) _ _ (λ h. rw (message-short (front ++ x ∷ []) h) refl) (recovery-short (fault_of (front ++ x ∷ [])) (length front) x rest)

first-short : (front rest : List ℕ) → AreShort (first_closed front rest)
first-short front [] = refl
first-short front (x ∷ rest) = of_both (is_open (front ++ x ∷ [])) _ _ (λ h. first-short (front ++ x ∷ []) rest) (closed-short front x rest)

front-short : (x : ℕ) (rest : List ℕ) → AreShort (front_of x rest)
front-short x rest =
    of_both (is_space x) _ _ (λ h. refl) (of_both (is_closer x) _ _ (λ h. refl)
    (of_both (is_opener x) _ _ (λ h. first-short [] (x ∷ rest)) (recovery-short LexError 0 x rest)))

after-short : (front : NextFrame) (go : ℕ → Found (Result (List ℕ) FrameFault) Residue) → AreShort front → ((k : ℕ) → list_all is_short (go k).answers ≡ true) → list_all is_short (after_front front go).answers ≡ true
after-short (Piece frames n) go here later = list_all-append is_short frames (go n).answers ∙ rw (here, later n) refl
after-short (Final frames rest) go here later = here

found-short : (k : ℕ) (bytes : List ℕ) → list_all is_short (found_after front_of Between k bytes).answers ≡ true
found-short k [] = refl
found-short (suc k) (x ∷ bytes) = found-short k bytes
found-short zero (x ∷ bytes) = after-short (front_of x bytes) (λ k. found_after front_of Between k bytes) (front-short x bytes) (λ k. found-short k bytes)

pub frames-short : (bytes : List ℕ) → list_all is_short (frames_of bytes) ≡ true
unfolding frames_of
frames-short bytes = found-short 0 bytes
