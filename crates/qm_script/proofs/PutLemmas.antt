-- Two pieces put one after the other.
use Rattle.std.proofs.Common.{◌≡◌, ℕ, List, ◌++◌, Option, Result, Ok, Err, ap, ◌∙◌}
use Rattle.qm_base.specs.Faults.{told_more, Puts}
use Rattle.qm_base.proofs.{Prefixes.append_prefix, Telling.told_more-twice}

pub puts_after : {T E : Type 0} (held between now : Option (List ℕ)) (a b : List ℕ) (result : Result T E) →
    between ≡ told_more held a → Puts between b result now → Puts held (a ++ b) result now
puts_after held between now a b (Ok x) first then = then ∙ ap (λ (t : Option (List ℕ)). told_more t b) first ∙ told_more-twice held a b
puts_after held between now a b (Err e) first then = record {
  part = a ++ then.part;
  within = append_prefix a then.part b then.within;
  told = then.told ∙ ap (λ (t : Option (List ℕ)). told_more t then.part) first ∙ told_more-twice held a then.part;
}
