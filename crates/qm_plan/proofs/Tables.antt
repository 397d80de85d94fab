-- Named things as the entries of a map, and what its calls make of them.
use Rattle.std.proofs.Common.{◌≡◌, ℕ, ◌<◌, Bool, true, false, cond, ◌||◌, List, [], ◌∷◌, ◌++◌, length, get_or, take, drop, suc, map, find, Some, None, option_map, refl, ap, sym, ◌∙◌, subst}
use Rattle.std.specs.List.{list_any, IsDistinct, AllByRecursion}
use Rattle.std.specs.{Map.keys_of, Map.lookup, Map.set_value, Str.bytes_eq}
use Rattle.std.proofs.Math.Seq.{split_at}
use Rattle.std.proofs.lemmas.Slice.Eq.{bytes_eq-Decides}
use Rattle.std.proofs.lemmas.{Bool.and_parts, Bool.or_from, Bool.or_parts, Bool.not-true, Bool.false_from_ne_true, Bool.both_ways}
use Rattle.qm_json.specs.{Cleanness.are_distinct}

-- names that differ, the other way round
differ : (a b : List ℕ) → bytes_eq a b ≡ false → bytes_eq b a ≡ false
differ a b h = false_from_ne_true (bytes_eq b a) (λ t. both_ways (bytes_eq a b) h ((bytes_eq-Decides a b).1 (sym ((bytes_eq-Decides b a).0 t))))

absent-at : (before : List (List ℕ)) (n : List ℕ) (after : List (List ℕ)) (name : List ℕ) → list_any (λ other. bytes_eq other name) (before ++ n ∷ after) ≡ false → bytes_eq n name ≡ false
absent-at [] n after name h = (or_parts _ _ h).0
absent-at (k ∷ before) n after name h = absent-at before n after name (or_parts _ _ h).1

-- no name before one of distinct names is that one
new-name : (before : List (List ℕ)) (n : List ℕ) (after : List (List ℕ)) → are_distinct (before ++ n ∷ after) ≡ true → list_any (bytes_eq n) before ≡ false
new-name [] n after h = refl
new-name (k ∷ before) n after h =
    let parts = and_parts _ (are_distinct (before ++ n ∷ after)) h in
    or_from _ _ (absent-at before n after k (not-true _ parts.0)) (new-name before n after parts.1)

module _ {X : Type 0} (name_in : X → List ℕ) where
  names : List X → List (List ℕ)
  names xs = map name_in xs

  names-append : (xs ys : List X) → names (xs ++ ys) ≡ names xs ++ names ys
  unfolding names
  names-append [] ys = refl
  names-append (x ∷ xs) ys = ap (λ (l : List (List ℕ)). name_in x ∷ l) (names-append xs ys)

  split-at : (xs : List X) (i : ℕ) (x : X) → i < length xs → x ≡ get_or xs i x → xs ≡ take i xs ++ x ∷ drop (suc i) xs
  split-at xs i x low at = split_at xs i x low ∙ ap (λ (y : X). take i xs ++ y ∷ drop (suc i) xs) (sym at)

  -- nothing that is made of those before one has its name
  pub new-at : {A : Type 0} (made : X → A) (name_of : A → List ℕ) → ((x : X) → name_of (made x) ≡ name_in x) → (xs : List X) (i : ℕ) (x : X) (so_far : List A) →
      i < length xs → x ≡ get_or xs i x → are_distinct (map name_in xs) ≡ true → so_far ≡ map made (take i xs) → list_any (λ a. bytes_eq (name_in x) (name_of a)) so_far ≡ false
  unfolding names
  new-at {A} made name_of is xs i x so_far low at h so =
      ap (list_any (λ a. bytes_eq (name_in x) (name_of a))) so ∙ named (take i xs)
      ∙ new-name (names (take i xs)) (name_in x) (names (drop (suc i) xs)) (sym (ap are_distinct (ap names (split-at xs i x low at) ∙ names-append (take i xs) (x ∷ drop (suc i) xs))) ∙ h) where
        named : (ys : List X) → list_any (λ a. bytes_eq (name_in x) (name_of a)) (map made ys) ≡ list_any (bytes_eq (name_in x)) (map name_in ys)
        named [] = refl
        named (y ∷ ys) = rw (is y, named ys) refl

module _ {K V : Type 0} (id_of : K → List ℕ) where
  -- nothing changes where no entry has the name
  pub set-none : (name : List ℕ) (v : V) (es : List (K × V)) → lookup (λ key. bytes_eq name (id_of key)) es ≡ None → set_value (λ key. bytes_eq name (id_of key)) es v ≡ es
  set-none name v [] none = refl
  set-none name v (e ∷ es) none = either (bytes_eq name (id_of e.0)) none (set-none name v es) where
    either : (b : Bool) → cond b (Some e.1) (lookup (λ key. bytes_eq name (id_of key)) es) ≡ None → (lookup (λ key. bytes_eq name (id_of key)) es ≡ None → set_value (λ key. bytes_eq name (id_of key)) es v ≡ es) → cond b ((e.0, v) ∷ es) (e ∷ set_value (λ key. bytes_eq name (id_of key)) es v) ≡ e ∷ es
    either true none more = absurd cc
    either false none more = ap (λ (t : List (K × V)). e ∷ t) (more none)

module _ {K V A : Type 0} (id_of : K → List ℕ) (made : List ℕ → V → A) (name_of : A → List ℕ) (value_of : A → V) (name_is : (n : List ℕ) (v : V) → name_of (made n v) ≡ n) (value_is : (n : List ℕ) (v : V) → value_of (made n v) ≡ v) where
  abbrev Entries : Type 0
  Entries = List (K × V)

  -- the key of an entry is the name
  abbrev is_for : List ℕ → K → Bool
  is_for name key = bytes_eq name (id_of key)

  abbrev is_named : List ℕ → A → Bool
  is_named name a = bytes_eq name (name_of a)

  abbrev same_key : K → K → Bool
  same_key x y = bytes_eq (id_of x) (id_of y)

  abbrev table : Entries → List A
  table es = map (λ e. made (id_of e.0) e.1) es

  abbrev with_value : List ℕ → V → A → A
  with_value name v a = cond (bytes_eq name (name_of a)) (made (name_of a) v) a

  pub found : (name : List ℕ) (es : Entries) → lookup (is_for name) es ≡ option_map value_of (find (is_named name) (table es))
  found name [] = refl
  found name (e ∷ es) = rw (name_is (id_of e.0) e.1) (either (is_for name e.0) (found name es)) where
    either : (b : Bool) → lookup (is_for name) es ≡ option_map value_of (find (is_named name) (table es)) →
        cond b (Some e.1) (lookup (is_for name) es) ≡ option_map value_of (cond b (Some (made (id_of e.0) e.1)) (find (is_named name) (table es)))
    either true more = ap (λ (v : V). Some v) (sym (value_is (id_of e.0) e.1))
    either false more = more

  pub table-push : (es : Entries) (key : K) (v : V) → table (es ++ (key, v) ∷ []) ≡ table es ++ made (id_of key) v ∷ []
  table-push [] key v = refl
  table-push (e ∷ es) key v = ap (λ (t : List A). made (id_of e.0) e.1 ∷ t) (table-push es key v)

  pub none-has : (name : List ℕ) (es : Entries) → list_any (is_named name) (table es) ≡ false → lookup (is_for name) es ≡ None
  none-has name [] none = refl
  none-has name (e ∷ es) none = either (is_for name e.0) (subst (λ (n : List ℕ). (bytes_eq name n || list_any (is_named name) (table es)) ≡ false) (name_is (id_of e.0) e.1) none) (none-has name es) where
    either : (b : Bool) → (b || list_any (is_named name) (table es)) ≡ false → (list_any (is_named name) (table es) ≡ false → lookup (is_for name) es ≡ None) → cond b (Some e.1) (lookup (is_for name) es) ≡ None
    either true none more = absurd cc
    either false none more = more none

  same-others : (name : List ℕ) (v : V) (es : Entries) → AllByRecursion (λ key. is_for name key ≡ false) (keys_of es) → map (with_value name v) (table es) ≡ table es
  same-others name v [] others = refl
  same-others name v (e ∷ es) others =
      let other : bytes_eq name (name_of (made (id_of e.0) e.1)) ≡ false = rw (name_is (id_of e.0) e.1) others.0 in
      rw (other, same-others name v es others.1) refl

  no-other : (name : List ℕ) (key : K) (keys : List K) → is_for name key ≡ true → AllByRecursion (λ y. same_key key y ≡ false) keys → AllByRecursion (λ y. is_for name y ≡ false) keys
  no-other name key keys is others =
      subst (λ (n : List ℕ). AllByRecursion (λ y. bytes_eq n (id_of y) ≡ false) keys) (sym ((bytes_eq-Decides name (id_of key)).0 is)) others

  pub table-set : (name : List ℕ) (v : V) (es : Entries) → IsDistinct same_key (keys_of es) → table (set_value (is_for name) es v) ≡ map (with_value name v) (table es)
  unfolding IsDistinct
  table-set name v [] once = refl
  table-set name v (e ∷ es) once = rw (name_is (id_of e.0) e.1) (either (is_for name e.0) refl (table-set name v es once.1)) where
    either : (b : Bool) → is_for name e.0 ≡ b → table (set_value (is_for name) es v) ≡ map (with_value name v) (table es) →
        table (cond b ((e.0, v) ∷ es) (e ∷ set_value (is_for name) es v)) ≡ cond b (made (id_of e.0) v) (made (id_of e.0) e.1) ∷ map (with_value name v) (table es)
    either true is more = ap (λ (t : List A). made (id_of e.0) v ∷ t) (sym (same-others name v es (no-other name e.0 (keys_of es) is once.0)))
    either false is more = ap (λ (t : List A). made (id_of e.0) e.1 ∷ t) more

  -- what a name has once another value was put in
  pub with-value-is : (other name : List ℕ) (v : V) (held : List A) →
      option_map value_of (find (is_named name) (map (with_value other v) held)) ≡ option_map (λ first. cond (bytes_eq other name) v first) (option_map value_of (find (is_named name) held))
  with-value-is other name v [] = refl
  with-value-is other name v (a ∷ held) = either (bytes_eq other (name_of a)) refl (bytes_eq name (name_of a)) refl (with-value-is other name v held) where
    either : (b : Bool) → bytes_eq other (name_of a) ≡ b → (d : Bool) → bytes_eq name (name_of a) ≡ d →
        option_map value_of (find (is_named name) (map (with_value other v) held)) ≡ option_map (λ first. cond (bytes_eq other name) v first) (option_map value_of (find (is_named name) held)) →
        option_map value_of (cond (bytes_eq name (name_of (cond b (made (name_of a) v) a))) (Some (cond b (made (name_of a) v) a)) (find (is_named name) (map (with_value other v) held)))
        ≡ option_map (λ first. cond (bytes_eq other name) v first) (option_map value_of (cond d (Some a) (find (is_named name) held)))
    either true e true f more =
        let same : bytes_eq other name ≡ true = rw ((bytes_eq-Decides name (name_of a)).0 f) e in
        rw (name_is (name_of a) v, f, same) (ap (λ (v : V). Some v) (value_is (name_of a) v))
    either true e false f more = rw (name_is (name_of a) v, f) more
    either false e true f more =
        let same : bytes_eq other name ≡ false = rw ((bytes_eq-Decides name (name_of a)).0 f) e in
        rw (f, same) refl
    either false e false f more = rw f more
