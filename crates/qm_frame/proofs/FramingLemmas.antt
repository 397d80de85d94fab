-- The frames of a list of bytes with one more byte.
use Rattle.std.proofs.Common.{◌≡◌, ℕ, ◌+◌, ◌<◌, Bool, true, false, cond, List, [], ◌∷◌, ◌++◌, length, Option, Some, None, Result, Ok, Err, position, refl, ap, sym, subst, arith, length-append}
use Rattle.std.specs.Option.{option_or}
use Rattle.qm_base.specs.Search.{Piece, Final, Found, after_front, joined, Grows}
use Rattle.qm_base.proofs.SearchLemmas.{cond-grows, found_after-more}
use Rattle.qm_frame.specs.{declared.step.FrameFault.FrameFault, declared.step.FrameFault.TheVariants.LexError, Bytes.is_space, Bytes.is_closer, Bytes.is_opener, Bytes.is_reset}
use Rattle.qm_frame.specs.Messages.{is_open, is_message, fault_of}
use Rattle.qm_frame.specs.Framing.{NextFrame, Residue, Between, Inside, Skipping, skipped_to, after_recovery, closed_by, first_closed, front_of, framing_of, frames_of, residue_of}
use Rattle.qm_frame.specs.Machine.{nothing, step}
use Rattle.qm_frame.proofs.Positions.{position-more, position-below}

abbrev Next : ℕ → ℕ → NextFrame → NextFrame → Type 0
Next n x f g = Grows step Between n x f g

-- recovery
skip-ends : (reset : Bool) (fault : FrameFault) (taken l : ℕ) (go : ℕ → Found (Result (List ℕ) FrameFault) Residue) → go (taken + (l + 1)) ≡ nothing → after_front (skipped_to fault taken (cond reset (Some l) None)) go ≡ record { answers = Err fault ∷ []; rest = cond reset Between Skipping }
skip-ends true fault taken l go e = rw e refl
skip-ends false fault taken l go e = refl

skipped_to-grows : (fault : FrameFault) (taken l x n : ℕ) (o : Option ℕ) → ((m : ℕ) → o ≡ Some m → m < l) → taken + l ≡ n → Next n x (skipped_to fault taken o) (skipped_to fault taken (option_or o (cond (is_reset x) (Some l) None)))
skipped_to-grows fault taken l x n (Some m) h e = (refl, omega (arith, h m refl))
skipped_to-grows fault taken l x n None h e = λ go here gone. skip-ends (is_reset x) fault taken l go (let behind : taken + (l + 1) ≡ n + 1 = omega arith in rw behind gone)

after_recovery-grows : (fault : FrameFault) (taken y : ℕ) (rest : List ℕ) (x n : ℕ) → taken + length rest ≡ n → Next n x (after_recovery fault taken y rest) (after_recovery fault taken y (rest ++ x ∷ []))
after_recovery-grows fault taken y rest x n e =
    cond-grows step Between (is_reset y) n x _ _ _ _ (refl, omega arith)
    (subst (λ (o : Option ℕ). Next n x (skipped_to fault taken (position is_reset rest)) (skipped_to fault taken o)) (sym (position-more is_reset rest x))
    (skipped_to-grows fault taken (length rest) x n (position is_reset rest) (position-below is_reset rest) e))

-- messages
closed_by-grows : (front : List ℕ) (y : ℕ) (rest : List ℕ) (x n : ℕ) → length front + length rest ≡ n → Next n x (closed_by front y rest) (closed_by front y (rest ++ x ∷ []))
closed_by-grows front y rest x n e =
    cond-grows step Between (is_message (front ++ y ∷ [])) n x _ _ _ _ (refl, omega arith) (after_recovery-grows (fault_of (front ++ y ∷ [])) (length front) y rest x n e)

-- at the end of the bytes only the place behind them matters
closed_by-last : (message reset : Bool) (front : List ℕ) (fault : FrameFault) (text : List ℕ) (go : ℕ → Found (Result (List ℕ) FrameFault) Residue) → go (length front) ≡ nothing →
    after_front (cond message (Piece (Ok text ∷ []) (length front)) (cond reset (Piece (Err fault ∷ []) (length front)) (Final (Err fault ∷ []) Skipping))) go ≡
    after_front (cond message (Piece (Ok text ∷ []) (length front)) (cond reset (Piece (Err fault ∷ []) (length front)) (Final (Err fault ∷ []) Skipping))) (λ k. nothing)
closed_by-last true reset front fault text go e = rw e refl
closed_by-last false true front fault text go e = rw e refl
closed_by-last false false front fault text go e = refl

open-ends : (b : Bool) (front : List ℕ) (x : ℕ) (go : ℕ → Found (Result (List ℕ) FrameFault) Residue) → go (length front) ≡ nothing →
    after_front (cond b (Final [] (Inside (front ++ x ∷ []))) (closed_by front x [])) go ≡
    cond b (record { answers = []; rest = Inside (front ++ x ∷ []) }) (after_front (closed_by front x []) (λ k. nothing))
open-ends true front x go e = refl
open-ends false front x go e = closed_by-last (is_message (front ++ x ∷ [])) (is_reset x) front (fault_of (front ++ x ∷ [])) (front ++ x ∷ []) go e

first_closed-grows : (front rest : List ℕ) (x n : ℕ) → length front + length rest ≡ n + 1 → Next n x (first_closed front rest) (first_closed front (rest ++ x ∷ []))
first_closed-grows front [] x n e = λ go here gone. open-ends (is_open (front ++ x ∷ [])) front x go (let behind : length front ≡ n + 1 = omega arith in rw behind gone)
first_closed-grows front (y ∷ rest) x n e =
    cond-grows step Between (is_open (front ++ y ∷ [])) n x _ _ _ _ (first_closed-grows (front ++ y ∷ []) rest x n (omega (arith, length-append front (y ∷ [])))) (closed_by-grows front y rest x n (omega (arith, e)))

front_of-grows : (y : ℕ) (ys : List ℕ) (x : ℕ) → Next (length ys) x (front_of y ys) (front_of y (ys ++ x ∷ []))
front_of-grows y ys x =
    cond-grows step Between (is_space y) _ x _ _ _ _ (refl, omega arith)
    (cond-grows step Between (is_closer y) _ x _ _ _ _ (refl, omega arith)
    (cond-grows step Between (is_opener y) _ x _ _ _ _ (first_closed-grows [] (y ∷ ys) x (length ys) (omega arith))
    (after_recovery-grows LexError 0 y ys x (length ys) (omega arith))))

-- one more byte
framing_of-more : (bytes : List ℕ) (x : ℕ) → framing_of (bytes ++ x ∷ []) ≡ joined step (framing_of bytes) x
framing_of-more bytes x = found_after-more front_of Between step front_of-grows (λ y. refl) 0 bytes x (omega arith)

pub frames_of-more : (bytes : List ℕ) (x : ℕ) → frames_of (bytes ++ x ∷ []) ≡ frames_of bytes ++ (step (residue_of bytes) x).answers
unfolding frames_of residue_of
frames_of-more bytes x = ap (λ (f : Found (Result (List ℕ) FrameFault) Residue). f.answers) (framing_of-more bytes x)

pub residue_of-more : (bytes : List ℕ) (x : ℕ) → residue_of (bytes ++ x ∷ []) ≡ (step (residue_of bytes) x).rest
unfolding residue_of
residue_of-more bytes x = ap (λ (f : Found (Result (List ℕ) FrameFault) Residue). f.rest) (framing_of-more bytes x)

pub nothing_left : residue_of [] ≡ Between
unfolding residue_of
nothing_left = refl

pub ruleset one_more = (frames_of-more, residue_of-more)
