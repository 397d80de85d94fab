-- Open texts with one more byte.
use Rattle.std.proofs.Common.{◌≡◌, ℕ, ◌+◌, ◌-◌, ◌≤◌, ◌<◌, ◌==◌, nat_le, nat_lt, Bool, true, false, not, cond, ◌&&◌, List, [], ◌∷◌, ◌++◌, length, take, refl, ap, ◌∙◌, subst, arith, append_assoc, length-append}
use Rattle.std.proofs.{lemmas.Bool.cond_both, lemmas.Bool.and_parts, lemmas.Bool.Decides.nat_tests, Math.Bool.and-true}
use Rattle.std.proofs.Math.Seq.{take-append_seam}
use Rattle.qm_base.specs.Search.{Found}
use Rattle.qm_frame.specs.declared.step.FrameFault.{FrameFault, TheVariants.LexError, TheVariants.TooLong, TheVariants.TooDeep}
use Rattle.qm_frame.specs.declared.{step.TheConstants.MAX_LENGTH, step.TheConstants.MAX_DEPTH, piece.LastPiece.LastPiece}
use Rattle.qm_frame.specs.declared.judging.Judged.{Judged, TheVariants.Taken, TheVariants.Ends, TheVariants.Wrong}
use Rattle.qm_frame.specs.{declared.judging.State.State, Pieces.pieces, Pieces.scans, Pieces.level_of, Pieces.is_broken}
use Rattle.qm_frame.specs.Messages.{begins_open, is_level_open, each_prefix, is_open, is_message, fault_of}
use Rattle.qm_frame.specs.Machine.{moved, depth_after, state_of, IsWithin, judged}
use Rattle.qm_frame.proofs.{PieceLemmas.pieces-more, Levels.level_of-more, Levels.depth_after-broken}

-- the parts of an open text
record IsOpen (text : List ℕ) : Type 0 where
  pub begins : begins_open text ≡ true
  pub scans : scans text ≡ true
  pub short : nat_le (length text) MAX_LENGTH ≡ true
  pub levels : each_prefix is_level_open [] text ≡ true

opened : (text : List ℕ) → is_open text ≡ true → IsOpen text
unfolding is_open
opened text e =
    let a : (begins_open text && scans text && nat_le (length text) MAX_LENGTH ≡ true) × (each_prefix is_level_open [] text ≡ true) = and_parts _ _ e in
    let b : (begins_open text && scans text ≡ true) × (nat_le (length text) MAX_LENGTH ≡ true) = and_parts _ _ a.0 in
    let d : (begins_open text ≡ true) × (scans text ≡ true) = and_parts _ _ b.0 in
    record { begins = d.0; scans = d.1; short = b.1; levels = a.1 }

last-prefix : (test : List ℕ → Bool) (front text : List ℕ) (y : ℕ) → each_prefix test front (y ∷ text) ≡ true → test (front ++ y ∷ text) ≡ true
last-prefix test front [] y e = (and_parts _ _ e).0
last-prefix test front (z ∷ text) y e = subst (λ l. test l ≡ true) (append_assoc front (y ∷ []) (z ∷ text)) (last-prefix test (front ++ y ∷ []) text z ((and_parts _ _ e).1))

pub is_open-within : (text : List ℕ) → is_open text ≡ true → IsWithin (state_of text)
is_open-within [] e = let b : false ≡ true = (opened [] e).begins in cc
is_open-within (y ∷ text) e =
    let o : IsOpen (y ∷ text) = opened (y ∷ text) e in
    let levels : (nat_le 1 (level_of (y ∷ text)) ≡ true) × (nat_le (level_of (y ∷ text)) MAX_DEPTH ≡ true) = and_parts _ _ (last-prefix is_level_open [] text y o.levels) in
    record { low = grind (arith, nat_tests, levels.0); high = grind (arith, nat_tests, levels.1) }

is_open-short : (text : List ℕ) → is_open text ≡ true → length text ≤ MAX_LENGTH
is_open-short text e = grind (arith, nat_tests, (opened text e).short)

-- one more byte
each_prefix-more : (test : List ℕ → Bool) (front text : List ℕ) (x : ℕ) → each_prefix test front text ≡ true → each_prefix test front (text ++ x ∷ []) ≡ test (front ++ (text ++ x ∷ []))
each_prefix-more test front [] x e = and-true (test (front ++ x ∷ []))
each_prefix-more test front (y ∷ text) x e =
    let a : (test (front ++ y ∷ []) ≡ true) × (each_prefix test (front ++ y ∷ []) text ≡ true) = and_parts _ _ e in
    rw a.0 (each_prefix-more test (front ++ y ∷ []) text x a.1 ∙ ap test (append_assoc front (y ∷ []) (text ++ x ∷ [])))

begins_open-more : (text : List ℕ) (x : ℕ) → begins_open text ≡ true → begins_open (text ++ x ∷ []) ≡ true
begins_open-more [] x e = cc
begins_open-more (y ∷ text) x e = e

scans-more : (text : List ℕ) (x : ℕ) → scans (text ++ x ∷ []) ≡ not (is_broken (moved (pieces text).rest x).rest)
scans-more text x = ap (λ (f : Found ℕ LastPiece). not (is_broken f.rest)) (pieces-more text x)

all_of : (a b c d a' b' c' d' : Bool) → a ≡ a' → b ≡ b' → c ≡ c' → d ≡ d' → (a && b && c && d) ≡ (a' && b' && c' && d')
all_of a b c d a' b' c' d' e f g h = rw (e, f, g, h) refl

is_open-more : (text : List ℕ) (x : ℕ) → is_open text ≡ true → is_open (text ++ x ∷ []) ≡ (not (is_broken (moved (pieces text).rest x).rest) && nat_le (length text + 1) MAX_LENGTH && is_level_open (text ++ x ∷ []))
unfolding is_open
is_open-more text x e =
    let o : IsOpen text = opened text e in
    all_of _ _ _ _ _ _ _ _ (begins_open-more text x o.begins) (scans-more text x) (ap (λ (n : ℕ). nat_le n MAX_LENGTH) (length-append text (x ∷ []))) (each_prefix-more is_level_open [] text x o.levels)

take-more : (text : List ℕ) (x : ℕ) → take (length (text ++ x ∷ []) - 1) (text ++ x ∷ []) ≡ text
take-more text x = let n : length (text ++ x ∷ []) - 1 ≡ length text = omega (arith, length-append text (x ∷ [])) in rw n (take-append_seam text (x ∷ []))

is_message-more : (text : List ℕ) (x : ℕ) → is_open text ≡ true → is_message (text ++ x ∷ []) ≡ ((level_of (text ++ x ∷ []) == 0) && nat_le (length text + 1) MAX_LENGTH)
unfolding is_message
is_message-more text x o = rw (take-more text x, o, length-append text (x ∷ [])) refl

fault_of-more : (text : List ℕ) (x : ℕ) → fault_of (text ++ x ∷ []) ≡ cond (nat_lt MAX_LENGTH (length text + 1)) TooLong (cond (nat_lt MAX_DEPTH (level_of (text ++ x ∷ []))) TooDeep LexError)
unfolding fault_of
fault_of-more text x = rw (length-append text (x ∷ [])) refl

-- the verdict on a text that is open or a message or has that fault, of which this is known, with the byte after so many
abbrev Holds : Judged → Bool → Bool → FrameFault → State → ℕ → Type 0
Holds (Taken s) o m fault known n = (o ≡ true) × (s ≡ known) × (n < MAX_LENGTH)
Holds Ends o m fault known n = (o ≡ false) × (m ≡ true) × (n < MAX_LENGTH)
Holds (Wrong f) o m fault known n = (o ≡ false) × (m ≡ false) × (fault ≡ f)

holds : (broken : Bool) (n d : ℕ) (s : State) → n ≤ MAX_LENGTH → (broken ≡ true → (1 ≤ d) × (d ≤ MAX_DEPTH)) →
    Holds (cond (n == MAX_LENGTH) (Wrong TooLong) (cond broken (Wrong LexError) (cond (nat_lt MAX_DEPTH d) (Wrong TooDeep) (cond (d == 0) Ends (Taken s)))))
    (not broken && nat_le (n + 1) MAX_LENGTH && (nat_le 1 d && nat_le d MAX_DEPTH)) ((d == 0) && nat_le (n + 1) MAX_LENGTH)
    (cond (nat_lt MAX_LENGTH (n + 1)) TooLong (cond (nat_lt MAX_DEPTH d) TooDeep LexError)) s n
holds broken n d s short level =
    let P : Judged → Type 0 = λ j. Holds j (not broken && nat_le (n + 1) MAX_LENGTH && (nat_le 1 d && nat_le d MAX_DEPTH)) ((d == 0) && nat_le (n + 1) MAX_LENGTH) (cond (nat_lt MAX_LENGTH (n + 1)) TooLong (cond (nat_lt MAX_DEPTH d) TooDeep LexError)) s n in
    cond_both (n == MAX_LENGTH) _ _ P (λ long. (grind (arith, nat_tests, long), grind (arith, nat_tests, long), grind (arith, nat_tests, long)))
    (λ long. let below : n < MAX_LENGTH = grind (arith, nat_tests, long, short) in
    cond_both broken _ _ P (λ b. (grind (arith, nat_tests, b), grind (arith, nat_tests, level b), grind (arith, nat_tests, below, level b)))
    (λ b. cond_both (nat_lt MAX_DEPTH d) _ _ P (λ deep. (grind (arith, nat_tests, deep), grind (arith, nat_tests, deep), grind (arith, nat_tests, below, deep)))
    (λ deep. cond_both (d == 0) _ _ P (λ closed. (grind (arith, nat_tests, closed), grind (arith, nat_tests, below, closed), below))
    (λ closed. (grind (arith, nat_tests, b, below, deep, closed), refl, below)))))

holds_of : (j : Judged) (o o' m m' : Bool) (f f' : FrameFault) (k k' : State) (n : ℕ) → o ≡ o' → m ≡ m' → f ≡ f' → k ≡ k' → Holds j o' m' f' k' n → Holds j o m f k n
holds_of j o o' m m' f f' k k' n a b c d h = rw (a, b, c, d) h

state_is : (l l' : LastPiece) (d d' : ℕ) → l ≡ l' → d ≡ d' → (let s : State = record { last = l; depth = d } in s) ≡ record { last = l'; depth = d' }
state_is l l' d d' a b = cc

state_of-more : (text : List ℕ) (x d : ℕ) → level_of (text ++ x ∷ []) ≡ d → state_of (text ++ x ∷ []) ≡ record { last = (moved (pieces text).rest x).rest; depth = d }
state_of-more text x d e = state_is _ _ _ _ (ap (λ (f : Found ℕ LastPiece). f.rest) (pieces-more text x)) e

-- what a judged byte makes of the text before it
abbrev pub Judges : Judged → List ℕ → ℕ → Type 0
Judges j text x = Holds j (is_open (text ++ x ∷ [])) (is_message (text ++ x ∷ [])) (fault_of (text ++ x ∷ [])) (state_of (text ++ x ∷ [])) (length text)

pub judged-judges : (text : List ℕ) (x : ℕ) → is_open text ≡ true → Judges (judged (state_of text) (length text) x) text x
judged-judges text x e =
    let known : IsWithin (state_of text) = is_open-within text e in
    let last : LastPiece = (pieces text).rest in
    let d : ℕ = depth_after last (level_of text) x in
    let broken : Bool = is_broken (moved last x).rest in
    let level : level_of (text ++ x ∷ []) ≡ d = level_of-more text x known.low in
    let kept : broken ≡ true → (1 ≤ d) × (d ≤ MAX_DEPTH) = λ b. rw (depth_after-broken last (level_of text) x b) (known.low, known.high) in
    holds_of _ _ _ _ _ _ _ _ _ _
    (is_open-more text x e ∙ ap (λ (n : ℕ). not broken && nat_le (length text + 1) MAX_LENGTH && (nat_le 1 n && nat_le n MAX_DEPTH)) level)
    (is_message-more text x e ∙ ap (λ (n : ℕ). (n == 0) && nat_le (length text + 1) MAX_LENGTH) level)
    (fault_of-more text x ∙ ap (λ (n : ℕ). cond (nat_lt MAX_LENGTH (length text + 1)) TooLong (cond (nat_lt MAX_DEPTH n) TooDeep LexError)) level)
    (state_of-more text x d level)
    (holds broken (length text) d (record { last = (moved last x).rest; depth = d }) (is_open-short text e) kept)
