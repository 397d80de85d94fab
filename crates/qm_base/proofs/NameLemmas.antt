-- Tables of names.
use Rattle.std.proofs.Common.{◌≡◌, ℕ, Bool, true, false, ◌||◌, List, [], ◌∷◌, ◌++◌, map, refl, ap, sym, ◌∙◌}
use Rattle.std.specs.{Bool.one_answer, BTreeSet.insert_key, Cmp.Lexicographic.slice_cmp}
use Rattle.std.specs.{Ordering.is_eq, Ordering.nat_cmp, Ordering.match_ordering, declared.cmp.Ordering.Ordering}
use Rattle.std.specs.declared.cmp.Ordering.TheVariants.{Less, Equal, Greater}
use Rattle.std.proofs.{lemmas.Map.Text.is_eq-slice_cmp, Math.Bool.or_assoc, Math.Bool.or_comm, lemmas.Slice.Eq.bytes_eq-Decides}
use Rattle.std.specs.{List.list_any, Str.bytes_eq}
use Rattle.std.proofs.lemmas.List.Folds.{list_any-append}
use Rattle.qm_base.specs.Names.{is_named, AddsName, AreNamesOf}

same-bytes : (a b : List ℕ) → bytes_eq a b ≡ true → a ≡ b
same-bytes a b e = (bytes_eq-Decides a b).0 e

bytes_eq-sym : (a b : List ℕ) → bytes_eq a b ≡ bytes_eq b a
bytes_eq-sym a b = one_answer (bytes_eq a b) (bytes_eq b a) (bytes_eq-Decides a b) (λ e. sym ((bytes_eq-Decides b a).0 e), λ e. (bytes_eq-Decides b a).1 (sym e))

last_of : (b c : Bool) → (b || (c || false)) ≡ (b || c)
last_of b c = ap (λ t. b || t) (or_comm c false)

same_or : (k x r : Bool) → k ≡ x → (x || r) ≡ ((x || r) || k)
same_or k true r e = refl
same_or k false true e = refl
same_or k false false e = sym e

module _ {K : Type 0} (f : K → List ℕ) where
  abbrev order : K → K → Ordering
  order k j = slice_cmp nat_cmp (f k) (f j)

  -- whether a name is there, by comparisons
  pub found : (name : List ℕ) (ks : List K) → list_any (λ k. is_eq (slice_cmp nat_cmp name (f k))) ks ≡ is_named (map f ks) name
  found name [] = refl
  found name (k ∷ ks) = rw (is_eq-slice_cmp name (f k), found name ks) refl

  placed : (other : List ℕ) (o : Ordering) (k x : K) (xs more : List K) → (o ≡ Equal → f k ≡ f x) → is_named (map f more) other ≡ (is_named (map f xs) other || bytes_eq other (f k)) → is_named (map f (match_ordering o (k ∷ x ∷ xs) (x ∷ xs) (x ∷ more))) other ≡ (is_named (map f (x ∷ xs)) other || bytes_eq other (f k))
  placed other Less k x xs more same rest = or_comm (bytes_eq other (f k)) (is_named (map f (x ∷ xs)) other)
  placed other Equal k x xs more same rest = same_or (bytes_eq other (f k)) (bytes_eq other (f x)) (is_named (map f xs) other) (ap (bytes_eq other) (same refl))
  placed other Greater k x xs more same rest = ap (λ b. bytes_eq other (f x) || b) rest ∙ sym (or_assoc (bytes_eq other (f x)) (is_named (map f xs) other) (bytes_eq other (f k)))

  pub inserted : (other : List ℕ) (ks : List K) (k : K) → is_named (map f (insert_key order ks k)) other ≡ (is_named (map f ks) other || bytes_eq other (f k))
  inserted other [] k = or_comm (bytes_eq other (f k)) false
  inserted other (x ∷ xs) k = placed other (order k x) k x xs (insert_key order xs k) (λ e. same-bytes (f k) (f x) (sym (is_eq-slice_cmp (f k) (f x)) ∙ ap is_eq e)) (inserted other xs k)

  -- a name was inserted, of names seen through f
  pub added : (ks new : List K) (k : K) (old : List (List ℕ)) (name : List ℕ) → map f ks ≡ old → f k ≡ name → new ≡ insert_key order ks k → AddsName old name (map f new)
  added ks new k old name o n e = rw (← o, ← n, e) (λ other. inserted other ks k)

-- a table of the names of items, and the name of one more
pub names_more : {A : Type 0} (name_of : A → List ℕ) (old new : List (List ℕ)) (items : List A) (x : A) → AreNamesOf name_of old items → AddsName old (name_of x) new → AreNamesOf name_of new (items ++ x ∷ [])
names_more name_of old new items x are adds = λ other.
    adds other
    ∙ ap (λ b. b || bytes_eq other (name_of x)) (are other)
    ∙ ap (λ b. list_any (λ y. bytes_eq (name_of y) other) items || b) (bytes_eq-sym other (name_of x))
    ∙ sym (list_any-append (λ y. bytes_eq (name_of y) other) items (x ∷ []) ∙ last_of (list_any (λ y. bytes_eq (name_of y) other) items) (bytes_eq (name_of x) other))
