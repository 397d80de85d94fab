-- Lists that grow by one thing at a time.
use Rattle.std.proofs.Common.{◌≡◌, ◌<◌, ◌+◌, ℕ, suc, List, [], ◌∷◌, ◌++◌, length, map, take, get_or, refl, sym, ap, ◌∙◌, arith, add-one, take-suc}
use Rattle.std.specs.List.{All, flat_map}
use Rattle.std.proofs.lemmas.{List.append-nil, List.map-append, Grind.flat_map-append}
use Rattle.qapi_mask.specs.Orders.{with_new, with_all}
use Rattle.qapi_mask.proofs.OrderLaws.{all-append}

pub taken : {X : Type 0} (xs : List X) (i : ℕ) (d : X) → i < length xs → take (i + 1) xs ≡ take i xs ++ get_or xs i d ∷ []
taken xs i d l = ap (λ n. take n xs) (add-one i) ∙ take-suc xs i d l

-- one number more was added
pub added : (seen xs found new : List ℕ) (f : ℕ → ℕ) (i n : ℕ) → i < length xs → n ≡ f (get_or xs i 0) → found ≡ with_all seen (map f (take i xs)) → new ≡ with_new found n →
    new ≡ with_all seen (map f (take (i + 1) xs))
added seen xs found new f i n l is before now =
    now ∙ ap (λ l. with_new l n) before
    ∙ ap (with_new (with_all seen (map f (take i xs)))) is
    ∙ sym (all-append seen (map f (take i xs)) (f (get_or xs i 0) ∷ []))
    ∙ ap (with_all seen) (sym (map-append f (take i xs) (get_or xs i 0 ∷ [])) ∙ ap (map f) (sym (taken xs i 0 l)))

-- what one more thing refers to was appended
pub flat-more : {X Y : Type 0} (f : X → List Y) (xs : List X) (i : ℕ) (x d : X) (found new : List Y) → i < length xs → x ≡ get_or xs i d → found ≡ flat_map f (take i xs) → new ≡ found ++ f x →
    new ≡ flat_map f (take (i + 1) xs)
flat-more f xs i x d found new l is before now =
    now ∙ ap (λ l. l ++ f x) before ∙ ap (λ y. flat_map f (take i xs) ++ f y) is
    ∙ sym (flat_map-append f (take i xs) (get_or xs i d ∷ []) ∙ ap (λ l. flat_map f (take i xs) ++ l) (append-nil (f (get_or xs i d))))
    ∙ ap (flat_map f) (sym (taken xs i d l))

-- numbers told by a table are those of its function
pub told-map : (f g : ℕ → ℕ) (xs : List ℕ) → All (λ x. f x ≡ g x) xs → map f xs ≡ map g xs
told-map f g [] h = refl
told-map f g (x ∷ xs) h = (λ k. h 0 0 (omega arith) k ∷ told-map f g xs (λ i d l. h (suc i) d (omega (arith, l))) k)
