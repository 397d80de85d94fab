-- Two lists, place by place.
use Rattle.std.proofs.Common.{◌≡◌, ◌<◌, ◌+◌, ℕ, zero, suc, Bool, false, List, [], ◌∷◌, ◌++◌, take, length, get_or, sym, ap, ◌∙◌, subst, arith}
use Rattle.std.specs.List.{AllZip}
use Rattle.std.specs.Prelude.{IsTrue}
use Rattle.std.proofs.lemmas.Slice.Zip.{all_zipped_more, AllZip-long}
use Rattle.qm_bind.proofs.NameLaws.{upto}

pub pair-at : {A B : Type 0} (R : A → B → Type 0) (xs : List A) (ys : List B) (i : ℕ) (x : A) (y : B) → AllZip R xs ys → i < length xs → x ≡ get_or xs i x → y ≡ get_or ys i y → R x y
pair-at R [] ys i x y all l p q = absurd (omega (arith, l))
pair-at R (a ∷ xs) [] i x y all l p q = absurd all
pair-at R (a ∷ xs) (b ∷ ys) zero x y all l p q = subst (λ z. R z y) (sym p) (subst (λ z. R a z) (sym q) all.0)
pair-at R (a ∷ xs) (b ∷ ys) (suc i) x y all l p q = pair-at R xs ys i x y all.1 (omega (arith, l)) p q

pub pair-more : {A B : Type 0} (R : A → B → Type 0) (xs : List A) (ys : List B) (i : ℕ) (x : A) (y : B) → i < length xs → i < length ys → x ≡ get_or xs i x → y ≡ get_or ys i y → AllZip R (take i xs) (take i ys) → R x y → AllZip R (take (i + 1) xs) (take (i + 1) ys)
pair-more {A} {B} R xs ys i x y l k p q all r =
    subst (λ (zs : List A). AllZip R zs (take (i + 1) ys)) (sym (upto xs i x l p)) (subst (λ (zs : List B). AllZip R (take i xs ++ x ∷ []) zs) (sym (upto ys i y k q)) (all_zipped_more R (take i xs) (take i ys) x y all r))

-- lists of other lengths do not agree
pub other-length : {A B : Type 0} (R : A → B → Type 0) (xs : List A) (ys : List B) (vs : List A) (ws : List B) → vs ≡ xs → ws ≡ ys → (length vs ≡ length ws → ⊥) → (IsTrue false → AllZip R xs ys) × (AllZip R xs ys → IsTrue false)
other-length R xs ys vs ws e f n = (λ h. absurd cc, λ all. absurd (n (ap length e ∙ sym (AllZip-long R xs ys all) ∙ ap length (sym f))))

-- lists that do not agree at a place
pub other-pair : {A B : Type 0} (R : A → B → Type 0) (xs : List A) (ys : List B) (vs : List A) (ws : List B) → vs ≡ xs → ws ≡ ys → (i : ℕ) (x : A) (y : B) (b : Bool) → i < length vs → x ≡ get_or vs i x → y ≡ get_or ws i y → (IsTrue b → R x y) × (R x y → IsTrue b) → b ≡ false → (IsTrue false → AllZip R xs ys) × (AllZip R xs ys → IsTrue false)
other-pair {A} {B} R xs ys vs ws e f i x y b l p q agree n = (λ h. absurd cc, λ all. sym n ∙ agree.1 (pair-at R vs ws i x y (subst (λ (zs : List A). AllZip R zs ws) (sym e) (subst (λ (zs : List B). AllZip R xs zs) (sym f) all)) l p q))
