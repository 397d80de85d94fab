-- What one more byte of a message does, as the framing has it.
use Rattle.std.proofs.Common.{◌≡◌, ℕ, ◌<◌, ◌==◌, nat_lt, Bool, true, false, not, cond, ◌&&◌, List, [], ◌∷◌, ◌++◌, length, Ok, Err, refl, arith, ◌⊎◌, inl, inr}
use Rattle.std.proofs.lemmas.Bool.{and_parts, Decides.nat_tests}
use Rattle.qm_base.specs.Search.{Piece, Final, after_front}
use Rattle.qm_frame.specs.declared.{step.FrameFault.FrameFault, step.TheConstants.MAX_LENGTH, step.TheConstants.MAX_DEPTH, piece.LastPiece.LastPiece}
use Rattle.qm_frame.specs.declared.piece.LastPiece.TheVariants.{Whole, Number, Word, Str, Escape, Broken}
use Rattle.qm_frame.specs.declared.judging.Judged.{Judged, TheVariants.Taken, TheVariants.Ends, TheVariants.Wrong}
use Rattle.qm_frame.specs.{declared.judging.State.State, Bytes.is_opener, Bytes.is_barred, Bytes.is_reset, Messages.is_open}
use Rattle.qm_frame.specs.{Framing.Between, Framing.Inside, Framing.Skipping, Machine.is_plain, Machine.state_of, Machine.judged, Machine.is_run, Machine.IsWithin, Machine.nothing, Machine.step}
use Rattle.qm_frame.proofs.Opens.{is_open-within, Judges, judged-judges}

-- text is what a framing holds, and now the same as contracts see it
pub record IsTaken (text now : List ℕ) (x : ℕ) (s : State) : Type 0 where
  pub more : is_open (text ++ x ∷ []) ≡ true
  pub state : s ≡ state_of (text ++ x ∷ [])
  pub room : length text < MAX_LENGTH
  pub step : step (Inside now) x ≡ record { answers = []; rest = Inside (text ++ x ∷ []) }

pub record IsEnded (text now : List ℕ) (x : ℕ) : Type 0 where
  pub shut : is_open (text ++ x ∷ []) ≡ false
  pub room : length text < MAX_LENGTH
  pub step : step (Inside now) x ≡ record { answers = Ok (text ++ x ∷ []) ∷ []; rest = Between }

-- what is known of a text while it is open
abbrev Knows : List ℕ → State → Type 0
Knows text s = is_open text ≡ true → s ≡ state_of text

pub within_of : (text now : List ℕ) (s : State) → text ≡ now → is_open now ≡ true → Knows text s → IsWithin s
within_of text now s e o k = let h : is_open text ≡ true = rw e o in rw (k h) (is_open-within text h)

judges_of : (text now : List ℕ) (s : State) (n x : ℕ) (j : Judged) → n ≡ length now → text ≡ now → is_open now ≡ true → Knows text s → j ≡ judged s n x → Judges j text x
judges_of text now s n x j l e o k h = let p : is_open text ≡ true = rw e o in let m : n ≡ length text = rw e l in rw (h, m, k p) (judged-judges text x p)

pub taken_of : (text now : List ℕ) (s : State) (n x : ℕ) (next : State) → n ≡ length now → text ≡ now → is_open now ≡ true → Knows text s → Taken next ≡ judged s n x → IsTaken text now x next
taken_of text now s n x next l e o k j =
    let h : Judges (Taken next) text x = judges_of text now s n x (Taken next) l e o k j in
    record { more = h.0; state = h.1; room = h.2; step = rw (← e, h.0) refl }

run-taken : (l : LastPiece) (d n x : ℕ) → IsWithin (record { last = l; depth = d }) → is_run l n x ≡ true → Taken (record { last = l; depth = d }) ≡ judged (record { last = l; depth = d }) n x
run-taken (Str quote) d n x w e =
    let a : (nat_lt n MAX_LENGTH ≡ true) × (is_plain quote x ≡ true) = and_parts _ _ e in
    let b : (not (is_barred x) && not (x == quote) ≡ true) × (not (x == 92) ≡ true) = and_parts _ _ a.1 in
    let p : (not (is_barred x) ≡ true) × (not (x == quote) ≡ true) = and_parts _ _ b.0 in
    let long : (n == MAX_LENGTH) ≡ false = grind (arith, nat_tests, a.0) in
    let barred : is_barred x ≡ false = grind (arith, p.0) in
    let other : (x == quote) ≡ false = grind (arith, p.1) in
    let slash : (x == 92) ≡ false = grind (arith, b.1) in
    let deep : nat_lt MAX_DEPTH d ≡ false = grind (arith, nat_tests, w.high) in
    let some : (d == 0) ≡ false = grind (arith, nat_tests, w.low) in
    rw (long, barred, other, slash, deep, some) refl
run-taken (Escape quote) d n x w e = cc
run-taken Whole d n x w e = cc
run-taken Number d n x w e = cc
run-taken Word d n x w e = cc
run-taken Broken d n x w e = cc

-- a byte that lengthens an unclosed string
pub run_of : (text now : List ℕ) (s : State) (n x : ℕ) → n ≡ length now → text ≡ now → is_open now ≡ true → Knows text s → is_run s.last n x ≡ true → IsTaken text now x s
run_of text now s n x l e o k r = taken_of text now s n x s l e o k (run-taken s.last s.depth n x (within_of text now s e o k) r)

pub ended_of : (text now : List ℕ) (s : State) (n x : ℕ) → n ≡ length now → text ≡ now → is_open now ≡ true → Knows text s → Ends ≡ judged s n x → IsEnded text now x
ended_of text now s n x l e o k j =
    let h : Judges Ends text x = judges_of text now s n x Ends l e o k j in
    record { shut = h.0; room = h.2; step = rw (← e, h.0, h.1) refl }

recovers : (b : Bool) (fault : FrameFault) (n : ℕ) → after_front (cond b (Piece (Err fault ∷ []) n) (Final (Err fault ∷ []) Skipping)) (λ (k : ℕ). nothing) ≡ record { answers = Err fault ∷ []; rest = cond b Between Skipping }
recovers true fault n = refl
recovers false fault n = refl

pub wrong_of : (text now : List ℕ) (s : State) (n x : ℕ) (fault : FrameFault) → n ≡ length now → text ≡ now → is_open now ≡ true → Knows text s → Wrong fault ≡ judged s n x → step (Inside now) x ≡ record { answers = Err fault ∷ []; rest = cond (is_reset x) Between Skipping }
wrong_of text now s n x fault l e o k j =
    let h : Judges (Wrong fault) text x = judges_of text now s n x (Wrong fault) l e o k j in
    rw (← e, h.0, h.1, h.2) (recovers (is_reset x) fault (length text))

pub empty_shut : is_open [] ≡ false
unfolding is_open
empty_shut = refl

bracket : (x : ℕ) → is_opener x ≡ true → (x ≡ 123) ⊎ (x ≡ 91)
bracket x e = grind (arith, nat_tests, e)

pub opener_open : (x : ℕ) → is_opener x ≡ true → is_open (x ∷ []) ≡ true
unfolding is_open
opener_open x e = elim (bracket x e) as (λ b. is_open (x ∷ []) ≡ true) [ inl h ↦ rw h refl | inr h ↦ rw h refl ]
