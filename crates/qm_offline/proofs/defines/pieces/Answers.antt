use Rattle.std.proofs.Common.{◌≡◌, ℕ, ◌+◌, ◌-◌, List, [], ◌∷◌, ◌++◌, length, take, drop, ap, sym, ◌∙◌, append_assoc, length-drop}
use Rattle.std.proofs.Math.Seq.{take-length}
use Rattle.std.specs.List.{slice_split}
use Rattle.qm_offline.specs.Words.{is_comma}
use Rattle.qm_offline.proofs.WordLemmas.{first_piece}
use Rattle.qm_offline.proofs.defines.pieces.Goals as goal

pub loop-at-preserved : goal.loop-at-preserved
loop-at-preserved c =
    let names = c.loop-at.names in
    let rest = c.loop-at.rest.now in
    let at = c.in-Some.at in
    let later = drop (at + 1) rest in
    let cut : take (length rest - (at + 1)) later ≡ later = rw (← length-drop (at + 1) rest) (take-length later) in
    let piece : c.in_ok-of.field-0 ≡ take at rest = c.in_ok-of.ensures in
    let pushed : c.push.new.self ≡ names ++ c.in_ok-of.field-0 ∷ [] = c.in_ok-push.ensures.ok in
    ap (λ (l : List (List ℕ)). l ++ slice_split is_comma (take (length rest - (at + 1)) later)) pushed
    ∙ ap (λ (r : List ℕ). (names ++ c.in_ok-of.field-0 ∷ []) ++ slice_split is_comma r) cut
    ∙ ap (λ (p : List ℕ). (names ++ p ∷ []) ++ slice_split is_comma later) piece
    ∙ append_assoc names (take at rest ∷ []) (slice_split is_comma later)
    ∙ ap (λ (l : List (List ℕ)). names ++ l) (sym (first_piece is_comma rest at (sym c.comma_at.ensures.place ∙ c.in-Some.is)))
    ∙ c.loop-at.invariant
