-- Laws of prefixes.
use Rattle.std.proofs.Common.{List, [], ◌++◌, refl, ap, sym, ◌∙◌, append_assoc, append-nil}
use Rattle.qm_base.specs.Prefixes.{IsPrefix}

pub refl_prefix : {A : Type 0} (xs : List A) → IsPrefix xs xs
refl_prefix xs = record { rest = []; is = sym (append-nil xs) }

pub empty_prefix : {A : Type 0} (xs : List A) → IsPrefix [] xs
empty_prefix xs = record { rest = xs; is = refl }

pub trans_prefix : {A : Type 0} (xs ys zs : List A) → IsPrefix xs ys → IsPrefix ys zs → IsPrefix xs zs
trans_prefix xs ys zs a b = record { rest = a.rest ++ b.rest; is = b.is ∙ ap (λ l. l ++ b.rest) a.is ∙ append_assoc xs a.rest b.rest }

pub append_prefix : {A : Type 0} (front xs ys : List A) → IsPrefix xs ys → IsPrefix (front ++ xs) (front ++ ys)
append_prefix front xs ys a = record { rest = a.rest; is = ap (λ l. front ++ l) a.is ∙ sym (append_assoc front xs a.rest) }

pub left_prefix : {A : Type 0} (xs ys : List A) → IsPrefix xs (xs ++ ys)
left_prefix xs ys = record { rest = ys; is = refl }
