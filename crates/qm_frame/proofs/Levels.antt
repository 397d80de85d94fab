-- The level of a text with one more byte.
use Rattle.std.proofs.Common.{◌≡◌, ℕ, ◌+◌, ◌-◌, ◌≤◌, ◌==◌, inl, inr, Bool, true, false, cond, List, [], ◌∷◌, ◌++◌, count_by, refl, ap, sym, ◌∙◌, arith}
use Rattle.std.proofs.lemmas.{Bool.cases_Bool, Bool.Decides.nat_tests, List.Sums.sum_by-append}
use Rattle.qm_base.specs.Search.{Found}
use Rattle.qm_frame.specs.declared.piece.LastPiece.{LastPiece, TheVariants.Whole, TheVariants.Number, TheVariants.Word, TheVariants.Str, TheVariants.Escape, TheVariants.Broken}
use Rattle.qm_frame.specs.Bytes.{is_single, is_opener, is_closer, begins_number, in_number, is_letter, is_quote, is_barred}
use Rattle.qm_frame.specs.{Pieces.pieces, Pieces.level_of, Pieces.is_broken, Machine.begun, Machine.moved, Machine.hides, Machine.depth_after}
use Rattle.qm_frame.proofs.PieceLemmas.{pieces-more}

no-answers : (b : Bool) (f g : Found ℕ LastPiece) → f.answers ≡ [] → g.answers ≡ [] → (cond b f g).answers ≡ []
no-answers true f g p q = p
no-answers false f g p q = q

-- a byte in a string is no piece by itself
hidden : (last : LastPiece) (x : ℕ) → hides last ≡ true → (moved last x).answers ≡ []
hidden Whole x h = cc
hidden Number x h = cc
hidden Word x h = cc
hidden (Str quote) x h = no-answers (is_barred x) _ _ refl (no-answers (x == quote) _ _ refl (no-answers (x == 92) _ _ refl refl))
hidden (Escape quote) x h = no-answers (is_barred x) _ _ refl refl
hidden Broken x h = refl

begun-other : (x : ℕ) → is_single x ≡ false → (begun x).answers ≡ []
begun-other x e = rw e (no-answers (begins_number x) _ _ refl (no-answers (is_letter x) _ _ refl (no-answers (is_quote x) _ _ refl refl)))

-- nor is one of another sort
moved-other : (last : LastPiece) (x : ℕ) → is_single x ≡ false → (moved last x).answers ≡ []
moved-other Whole x e = begun-other x e
moved-other Number x e = no-answers (in_number x) _ _ refl (begun-other x e)
moved-other Word x e = no-answers (is_letter x) _ _ refl (begun-other x e)
moved-other (Str quote) x e = hidden (Str quote) x refl
moved-other (Escape quote) x e = hidden (Escape quote) x refl
moved-other Broken x e = refl

-- outside strings a byte of that sort is one, and ends the piece before it
moved-single : (last : LastPiece) (x : ℕ) → hides last ≡ false → is_single x ≡ true → moved last x ≡ record { answers = x ∷ []; rest = Whole }
moved-single Whole x h e = rw e refl
moved-single Number x h e = let n : in_number x ≡ false = grind (arith, nat_tests, e) in rw (n, e) refl
moved-single Word x h e = let n : is_letter x ≡ false = grind (arith, nat_tests, e) in rw (n, e) refl
moved-single (Str quote) x h e = cc
moved-single (Escape quote) x h e = cc
moved-single Broken x h e = cc

-- no bracket is of another sort
other-opener : (x : ℕ) → is_single x ≡ false → is_opener x ≡ false
other-opener x e = grind (arith, nat_tests, e)

other-closer : (x : ℕ) → is_single x ≡ false → is_closer x ≡ false
other-closer x e = grind (arith, nat_tests, e)

opener-closer : (x : ℕ) → is_opener x ≡ true → is_closer x ≡ false
opener-closer x e = grind (arith, nat_tests, e)

-- the level, where one more byte adds these answers
counts-more : (xs ys : List ℕ) → count_by is_opener (xs ++ ys) - count_by is_closer (xs ++ ys) ≡ (count_by is_opener xs + count_by is_opener ys) - (count_by is_closer xs + count_by is_closer ys)
counts-more xs ys = rw (sum_by-append (λ y. cond (is_opener y) 1 0) xs ys, sum_by-append (λ y. cond (is_closer y) 1 0) xs ys) refl

level-added : (text : List ℕ) (x : ℕ) (ys : List ℕ) → (moved (pieces text).rest x).answers ≡ ys → level_of (text ++ x ∷ []) ≡ (count_by is_opener (pieces text).answers + count_by is_opener ys) - (count_by is_closer (pieces text).answers + count_by is_closer ys)
level-added text x ys e =
    let xs : List ℕ = (pieces text).answers in
    ap (λ (f : Found ℕ LastPiece). count_by is_opener f.answers - count_by is_closer f.answers) (pieces-more text x)
    ∙ counts-more xs (moved (pieces text).rest x).answers
    ∙ ap (λ (l : List ℕ). (count_by is_opener xs + count_by is_opener l) - (count_by is_closer xs + count_by is_closer l)) e

level-same : (text : List ℕ) (x : ℕ) → (moved (pieces text).rest x).answers ≡ [] → level_of (text ++ x ∷ []) ≡ level_of text
level-same text x e = level-added text x [] e ∙ omega arith

level-single : (up down : Bool) (a b : ℕ) → 1 ≤ a - b → (up ≡ true → down ≡ false) → (a + (0 + cond up 1 0)) - (b + (0 + cond down 1 0)) ≡ cond up (a - b + 1) (cond down (a - b - 1) (a - b))
level-single true true a b h e = let f : true ≡ false = e refl in cc
level-single true false a b h e = omega (arith, h)
level-single false true a b h e = omega (arith, h)
level-single false false a b h e = omega arith

-- the depth, by the sort of the byte
either-way : (b : Bool) (n : ℕ) → cond b n n ≡ n
either-way true n = refl
either-way false n = refl

depth-other : (last : LastPiece) (depth x : ℕ) → is_single x ≡ false → depth_after last depth x ≡ depth
depth-other last depth x e = rw (other-opener x e, other-closer x e) (either-way (hides last) depth)

depth-hidden : (last : LastPiece) (depth x : ℕ) → hides last ≡ true → depth_after last depth x ≡ depth
depth-hidden last depth x h = rw h refl

-- one more byte
level-outside : (text : List ℕ) (x : ℕ) → 1 ≤ level_of text → hides (pieces text).rest ≡ false → level_of (text ++ x ∷ []) ≡ depth_after (pieces text).rest (level_of text) x
level-outside text x low h =
    elim (cases_Bool (is_single x)) as (λ c. level_of (text ++ x ∷ []) ≡ depth_after (pieces text).rest (level_of text) x) [
      | inl e ↦ level-added text x (x ∷ []) (ap (λ (f : Found ℕ LastPiece). f.answers) (moved-single (pieces text).rest x h e)) ∙ level-single (is_opener x) (is_closer x) _ _ low (opener-closer x) ∙ rw h refl
      | inr e ↦ level-same text x (moved-other (pieces text).rest x e) ∙ sym (depth-other (pieces text).rest (level_of text) x e)
    ]

pub level_of-more : (text : List ℕ) (x : ℕ) → 1 ≤ level_of text → level_of (text ++ x ∷ []) ≡ depth_after (pieces text).rest (level_of text) x
level_of-more text x low =
    elim (cases_Bool (hides (pieces text).rest)) as (λ c. level_of (text ++ x ∷ []) ≡ depth_after (pieces text).rest (level_of text) x) [
      | inl h ↦ level-same text x (hidden (pieces text).rest x h) ∙ sym (depth-hidden (pieces text).rest (level_of text) x h)
      | inr h ↦ level-outside text x low h
    ]

-- a byte that no piece has leaves the level
broken-outside : (last : LastPiece) (depth x : ℕ) → is_broken (moved last x).rest ≡ true → hides last ≡ false → depth_after last depth x ≡ depth
broken-outside last depth x e h =
    elim (cases_Bool (is_single x)) as (λ c. depth_after last depth x ≡ depth) [
      | inl s ↦ (let f : false ≡ true = ap (λ (f : Found ℕ LastPiece). is_broken f.rest) (sym (moved-single last x h s)) ∙ e in cc)
      | inr o ↦ depth-other last depth x o
    ]

pub depth_after-broken : (last : LastPiece) (depth x : ℕ) → is_broken (moved last x).rest ≡ true → depth_after last depth x ≡ depth
depth_after-broken last depth x e =
    elim (cases_Bool (hides last)) as (λ c. depth_after last depth x ≡ depth) [ inl h ↦ depth-hidden last depth x h | inr h ↦ broken-outside last depth x e h ]
