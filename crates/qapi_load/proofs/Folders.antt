-- The folder of a name, byte by byte.
use Rattle.std.proofs.Common.{◌≡◌, ℕ, ◌+◌, ◌<◌, ◌==◌, Bool, true, false, if◌then◌else◌, List, [], ◌∷◌, ◌++◌, length, take, drop, get_or, ◌||◌, refl, ap, sym, append_assoc}
use Rattle.std.proofs.lemmas.List.{drop_more, take_more}
use Rattle.std.specs.List.{list_any}
use Rattle.qapi_load.specs.Loading.{folder_of}

abbrev pub has_slash : List ℕ → Bool
has_slash xs = list_any (λ byte. byte == 47) xs

pub folder_of-none : (xs : List ℕ) → has_slash xs ≡ false → folder_of xs ≡ []
folder_of-none [] e = refl
folder_of-none (x ∷ xs) e = rw e refl

-- the folder of a name that begins with some bytes, of which the first so many are the folder of these
abbrev pub folder_with : List ℕ → List ℕ → List ℕ → List ℕ
folder_with passed folder rest = if has_slash rest then passed ++ folder_of rest else folder

pub folder_with-begun : (xs : List ℕ) → folder_of xs ≡ folder_with [] [] xs
folder_with-begun xs =
    begun (has_slash xs) (folder_of xs) (λ e. folder_of-none xs e) where
      begun : (s : Bool) (folder : List ℕ) → (s ≡ false → folder ≡ []) → folder ≡ (if s then [] ++ folder else [])
      begun true folder none = refl
      begun false folder none = none refl

one_more : (b s : Bool) (passed folder inner : List ℕ) (x : ℕ) → (s ≡ false → inner ≡ []) →
    (if b || s then passed ++ (if b || s then x ∷ inner else []) else folder)
    ≡ (if s then (passed ++ x ∷ []) ++ inner else (if b then passed ++ x ∷ [] else folder))
one_more true true passed folder inner x none = sym (append_assoc passed (x ∷ []) inner)
one_more false true passed folder inner x none = sym (append_assoc passed (x ∷ []) inner)
one_more true false passed folder inner x none = ap (λ (ys : List ℕ). passed ++ x ∷ ys) (none refl)
one_more false false passed folder inner x none = refl

-- one byte more was passed
pub folder_with-more : (passed folder rest : List ℕ) (x : ℕ) (b : Bool) → (x == 47) ≡ b →
    folder_with passed folder (x ∷ rest) ≡ folder_with (passed ++ x ∷ []) (if b then passed ++ x ∷ [] else folder) rest
folder_with-more passed folder rest x b e =
    rw (← e) (one_more (x == 47) (has_slash rest) passed folder (folder_of rest) x (λ s. folder_of-none rest s))

-- the same at a place of a text
pub folder_with-at : (text folder : List ℕ) (i : ℕ) (b : Bool) → i < length text → (get_or text i 0 == 47) ≡ b →
    folder_with (take i text) folder (drop i text)
    ≡ folder_with (take (i + 1) text) (if b then take (i + 1) text else folder) (drop (i + 1) text)
folder_with-at text folder i b inside e =
    rw (drop_more text i 0 inside, take_more text i 0 inside) (folder_with-more (take i text) folder (drop (i + 1) text) (get_or text i 0) b e)
