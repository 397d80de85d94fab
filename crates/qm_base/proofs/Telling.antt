-- Laws of told bytes.
use Rattle.std.proofs.Common.{◌≡◌, ℕ, List, ◌++◌, Option, Some, None, Result, Ok, Err, IsErr, refl, ap, ◌∙◌, append_assoc}
use Rattle.qm_base.specs.{Faults.told_more, Faults.HoldsPart, Faults.Puts, Prefixes.IsPrefix}
use Rattle.qm_base.proofs.Prefixes.{append_prefix, trans_prefix}

-- two pieces in turn are one piece
pub told_more-twice : (told : Option (List ℕ)) (front back : List ℕ) → told_more (told_more told front) back ≡ told_more told (front ++ back)
told_more-twice None front back = refl
told_more-twice (Some bytes) front back = ap (λ (l : List ℕ). Some l) (append_assoc bytes front back)

-- after a front that was told, a part of the next piece is a part of the whole
pub part-after : (told now new : Option (List ℕ)) (front piece whole : List ℕ) → now ≡ told_more told front → IsPrefix (front ++ piece) whole → HoldsPart now piece new → HoldsPart told whole new
part-after told now new front piece whole so_far within holds = record {
  part = front ++ holds.part;
  within = trans_prefix (front ++ holds.part) (front ++ piece) whole (append_prefix front holds.part piece holds.within) within;
  told = holds.told ∙ ap (λ (t : Option (List ℕ)). told_more t holds.part) so_far ∙ told_more-twice told front holds.part;
}

-- a front that was told is a part of the whole
pub part-so_far : (told now : Option (List ℕ)) (front whole : List ℕ) → now ≡ told_more told front → IsPrefix front whole → HoldsPart told whole now
part-so_far told now front whole so_far within = record { part = front; within = within; told = so_far }

-- what is put in part fails
pub puts-part : {T E : Type 0} (told : Option (List ℕ)) (piece : List ℕ) (result : Result T E) (now : Option (List ℕ)) → IsErr result → HoldsPart told piece now → Puts told piece result now
puts-part told piece (Ok x) now failed holds = cc
puts-part told piece (Err e) now failed holds = holds

-- the next piece was told after a front
pub told_more-next : (told now new : Option (List ℕ)) (front piece longer : List ℕ) → now ≡ told_more told front → new ≡ told_more now piece → longer ≡ front ++ piece → new ≡ told_more told longer
told_more-next told now new front piece longer so_far next is = cc (told_more-twice told front piece)
