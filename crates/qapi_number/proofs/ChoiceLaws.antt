-- What is chosen by a Boolean.
use Rattle.std.proofs.Common.{◌≡◌, Bool, true, false, cond, sym, ap, ◌∙◌}

pub picked_first : {X : Type 0} (b : Bool) (x first second : X) → b ≡ true → x ≡ first → x ≡ cond b first second
picked_first b x first second e h = h ∙ sym (ap (λ (c : Bool). cond c first second) e)

pub picked_second : {X : Type 0} (b : Bool) (x first second : X) → b ≡ false → x ≡ second → x ≡ cond b first second
picked_second b x first second e h = h ∙ sym (ap (λ (c : Bool). cond c first second) e)
