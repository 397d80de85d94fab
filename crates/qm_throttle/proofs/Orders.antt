-- Keys in their order.
use Rattle.std.proofs.Common.{◌≡◌, Bool, true, false, ◌||◌, List, [], ◌∷◌, ◌++◌, refl, ap, sym, ◌∙◌, subst}
use Rattle.std.specs.{Cmp.Lexicographic.slice_cmp, FinMap.slice_cmp-IsAntisymmetric, FinMap.nat_cmp-IsAntisymmetric, List.list_any}
use Rattle.std.specs.Ordering.{nat_cmp, ordering_then, ordering_reverse, match_ordering, is_eq}
use Rattle.std.specs.declared.cmp.Ordering.{Ordering, TheVariants.Less, TheVariants.Equal, TheVariants.Greater}
use Rattle.std.proofs.lemmas.Cmp.{tied_itself}
use Rattle.qm_throttle.specs.Keys.{key_order, key_total, same_key, with_key}
use Rattle.qm_throttle.specs.{Windows.Call, Windows.Raise, Windows.Tick, Windows.keys_after, Windows.with_call, Keys.Key}

pub key_self : (k : Key) → key_order k k ≡ Equal
key_self k = tied_itself key_total k

pub key_back : (a b : Key) (r : Ordering) → key_order a b ≡ r → key_order b a ≡ ordering_reverse r
key_back a b r e = key_total.antisymm b a ∙ ap ordering_reverse e

both_equal : (r s : Ordering) → ordering_then r s ≡ Equal → (r ≡ Equal) × (s ≡ Equal)
both_equal Less s e = absurd cc
both_equal Equal s e = (refl, e)
both_equal Greater s e = absurd cc

pub key_equal : (a b : Key) → key_order a b ≡ Equal → a ≡ b
key_equal a b e =
    let parts = both_equal (slice_cmp nat_cmp a.name b.name) (slice_cmp nat_cmp a.printed b.printed) e in
    let names : a.name ≡ b.name = slice_cmp-IsAntisymmetric nat_cmp-IsAntisymmetric a.name b.name parts.0 in
    let texts : a.printed ≡ b.printed = slice_cmp-IsAntisymmetric nat_cmp-IsAntisymmetric a.printed b.printed parts.1 in
    λ i. record { name = names i; printed = texts i }

-- the key comes before each of the keys
abbrev pub IsBefore : Key → List Key → Type 0
IsBefore k [] = Unit {0}
IsBefore k (j ∷ keys) = (key_order k j ≡ Less) × IsBefore k keys

abbrev pub IsInOrder : List Key → Type 0
IsInOrder [] = Unit {0}
IsInOrder (k ∷ keys) = IsBefore k keys × IsInOrder keys

pub before_trans : (k j : Key) (keys : List Key) → key_order k j ≡ Less → IsBefore j keys → IsBefore k keys
before_trans k j [] less h = tt
before_trans k j (i ∷ keys) less h = (key_total.trans k j i less h.0, before_trans k j keys less h.1)

before_with : (k e : Key) (keys : List Key) → key_order k e ≡ Less → IsBefore k keys → IsBefore k (with_key e keys)
before_with k e [] less h = (less, tt)
before_with k e (j ∷ keys) less h = either (key_order e j) (before_with k e keys less h.1) where
  either : (r : Ordering) → IsBefore k (with_key e keys) → IsBefore k (match_ordering r (e ∷ j ∷ keys) (j ∷ keys) (j ∷ with_key e keys))
  either Less more = (less, h)
  either Equal more = h
  either Greater more = (h.0, more)

in_order_with : (e : Key) (keys : List Key) → IsInOrder keys → IsInOrder (with_key e keys)
in_order_with e [] h = (tt, tt)
in_order_with e (j ∷ keys) h = either (key_order e j) refl (in_order_with e keys h.1) where
  either : (r : Ordering) → key_order e j ≡ r → IsInOrder (with_key e keys) → IsInOrder (match_ordering r (e ∷ j ∷ keys) (j ∷ keys) (j ∷ with_key e keys))
  either Less is more = ((is, before_trans e j keys is h.0), h)
  either Equal is more = h
  either Greater is more = (before_with j e keys (key_back e j Greater is) h.0, more)

pub in_order_after : (keys : List Key) (calls : List Call) → IsInOrder keys → IsInOrder (keys_after keys calls)
in_order_after keys [] h = h
in_order_after keys (Raise j e ∷ calls) h = in_order_after (with_key j keys) calls (in_order_with j keys h)
in_order_after keys (Tick m ∷ calls) h = in_order_after keys calls h

pub keys_after-append : (keys : List Key) (calls : List Call) (x : Call) → keys_after keys (calls ++ x ∷ []) ≡ with_call (keys_after keys calls) x
keys_after-append keys [] x = refl
keys_after-append keys (c ∷ calls) x = keys_after-append (with_call keys c) calls x

-- one of the keys is this one
abbrev pub is_in : Key → List Key → Bool
is_in k keys = list_any (same_key k) keys

pub none_before : (k : Key) (keys : List Key) → IsBefore k keys → is_in k keys ≡ false
none_before k [] h = refl
none_before k (j ∷ keys) h = ap (λ (r : Ordering). is_eq r || is_in k keys) h.0 ∙ none_before k keys h.1

or_true : (b : Bool) → (b || true) ≡ true
or_true true = refl
or_true false = refl

or_none : (b : Bool) → (b || false) ≡ b
or_none true = refl
or_none false = refl

or_twice : (a b : Bool) → (a || b) ≡ (a || (a || b))
or_twice true b = refl
or_twice false b = refl

or_swap : (a b c : Bool) → (a || (b || c)) ≡ (b || (a || c))
or_swap true b c = sym (or_true b)
or_swap false b c = refl

in_with : (k e : Key) (keys : List Key) → is_in k (with_key e keys) ≡ (same_key k e || is_in k keys)
in_with k e [] = refl
in_with k e (j ∷ keys) = either (key_order e j) refl (in_with k e keys) where
  either : (r : Ordering) → key_order e j ≡ r → is_in k (with_key e keys) ≡ (same_key k e || is_in k keys) →
      is_in k (match_ordering r (e ∷ j ∷ keys) (j ∷ keys) (j ∷ with_key e keys)) ≡ (same_key k e || (same_key k j || is_in k keys))
  either Less is more = refl
  either Equal is more = subst (λ (i : Key). (same_key k j || is_in k keys) ≡ (same_key k i || (same_key k j || is_in k keys))) (sym (key_equal e j is)) (or_twice (same_key k j) (is_in k keys))
  either Greater is more = ap (λ (b : Bool). same_key k j || b) more ∙ or_swap (same_key k j) (same_key k e) (is_in k keys)

-- an event is raised for the key
abbrev pub raises_key : Key → List Call → Bool
raises_key k [] = false
raises_key k (Raise j e ∷ calls) = same_key k j || raises_key k calls
raises_key k (Tick m ∷ calls) = raises_key k calls

or_turn : (a b c : Bool) → ((a || b) || c) ≡ (b || (a || c))
or_turn true b c = sym (or_true b)
or_turn false b c = refl

-- the keys are those that were raised, and those before
pub in_after : (k : Key) (keys : List Key) (calls : List Call) → is_in k (keys_after keys calls) ≡ (is_in k keys || raises_key k calls)
in_after k keys [] = sym (or_none (is_in k keys))
in_after k keys (Raise j e ∷ calls) =
    in_after k (with_key j keys) calls ∙ ap (λ (b : Bool). b || raises_key k calls) (in_with k j keys) ∙ or_turn (same_key k j) (is_in k keys) (raises_key k calls)
in_after k keys (Tick m ∷ calls) = in_after k keys calls
