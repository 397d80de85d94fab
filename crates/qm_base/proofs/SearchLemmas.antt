-- One more item, for any search from the front.
use Rattle.std.proofs.Common.{◌≡◌, Bool, true, false, cond, ℕ, ◌+◌, ◌≤◌, zero, suc, List, [], ◌∷◌, ◌++◌, length, refl, ap, sym, ◌∙◌, arith, append_assoc, length-append}
use Rattle.qm_base.specs.Search.{Front, Piece, Final, Found, after_front, found_after, joined, Grows}

module _ {X A R : Type 0} (step : R → X → Found A R) (none : R) where
  -- a choice grows where both sides do
  pub cond-grows : (b : Bool) (n : ℕ) (x : X) (f1 f2 g1 g2 : Front A R) → Grows step none n x f1 g1 → Grows step none n x f2 g2 → Grows step none n x (cond b f1 f2) (cond b g1 g2)
  cond-grows true n x f1 f2 g1 g2 h1 h2 = h1
  cond-grows false n x f1 f2 g1 g2 h1 h2 = h2

module _ {X A R : Type 0} (front : X → List X → Front A R) (none : R) (step : R → X → Found A R) where
  found-empty : (b : List X) → found_after front none (length b) b ≡ record { answers = []; rest = none }
  found-empty [] = refl
  found-empty (x ∷ b) = found-empty b

  found-last : (b : List X) (x : X) → found_after front none (length b) (b ++ x ∷ []) ≡ found_after front none 0 (x ∷ [])
  found-last [] x = refl
  found-last (y ∷ b) x = found-last b x

  one_more : (ys : List X) (x : X) → length (ys ++ x ∷ []) ≡ length ys + 1
  one_more ys x = length-append ys (x ∷ [])

  after-grows : (f g : Front A R) (ys : List X) (x : X) → Grows step none (length ys) x f g → found_after front none 0 (x ∷ []) ≡ step none x → ((k : ℕ) → k ≤ length ys → found_after front none k (ys ++ x ∷ []) ≡ joined step (found_after front none k ys) x) → after_front g (λ k. found_after front none k (ys ++ x ∷ [])) ≡ joined step (after_front f (λ k. found_after front none k ys)) x
  after-grows (Piece fs k) g ys x h first inner =
      ap (λ (f : Front A R). after_front f (λ k. found_after front none k (ys ++ x ∷ []))) h.0
      ∙ ap (λ (f : Found A R). record { answers = fs ++ f.answers; rest = f.rest }) (inner k h.1)
      ∙ ap (λ (l : List A). record { answers = l; rest = (joined step (found_after front none k ys) x).rest }) (sym (append_assoc fs (found_after front none k ys).answers _))
  after-grows (Final fs r) g ys x h first inner = h (λ k. found_after front none k (ys ++ x ∷ [])) (found-last ys x ∙ first) (let e : found_after front none (length (ys ++ x ∷ [])) (ys ++ x ∷ []) ≡ record { answers = []; rest = none } = found-empty (ys ++ x ∷ []) in rw (← one_more ys x) e)

  -- where each front grows so, and one item alone is a step from nothing
  pub found_after-more : ((y : X) (ys : List X) (x : X) → Grows step none (length ys) x (front y ys) (front y (ys ++ x ∷ []))) →
      ((x : X) → found_after front none 0 (x ∷ []) ≡ step none x) →
      (k : ℕ) (b : List X) (x : X) → k ≤ length b → found_after front none k (b ++ x ∷ []) ≡ joined step (found_after front none k b) x
  found_after-more grows first zero [] x h = first x
  found_after-more grows first (suc k) [] x h = absurd (omega (arith, h))
  found_after-more grows first (suc k) (y ∷ ys) x h = found_after-more grows first k ys x (omega (arith, h))
  found_after-more grows first zero (y ∷ ys) x h = after-grows (front y ys) (front y (ys ++ x ∷ [])) ys x (grows y ys x) (first x) (λ k le. found_after-more grows first k ys x le)
