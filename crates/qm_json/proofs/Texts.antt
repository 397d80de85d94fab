-- Texts that are written in parts.
use Rattle.std.proofs.Common.{◌≡◌, ℕ, List, [], ◌++◌, ap, sym, ◌∙◌, append_assoc, append-nil}

-- what was written after the old text, and what is left to write, are the whole
pub record Remains (old whole mid left : List ℕ) : Type 0 where
  pub is : mid ++ left ≡ old ++ whole

pub remains_less : {old whole mid left : List ℕ} (a z new : List ℕ) → Remains old whole mid left → left ≡ a ++ z → new ≡ mid ++ a → Remains old whole new z
remains_less {mid = mid} a z new h e w = record { is = ap (λ l. l ++ z) w ∙ append_assoc mid a z ∙ ap (λ l. mid ++ l) (sym e) ∙ h.is }

pub remains_none : {old whole mid left : List ℕ} → Remains old whole mid left → left ≡ [] → mid ≡ old ++ whole
remains_none {mid = mid} h e = sym (append-nil mid) ∙ ap (λ l. mid ++ l) (sym e) ∙ h.is
