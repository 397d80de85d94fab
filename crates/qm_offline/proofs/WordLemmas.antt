-- Items of a command line, placed one after the other.
use Rattle.std.proofs.Common.{◌≡◌, ℕ, ◌+◌, ◌<◌, ◌≤◌, Bool, true, false, cond, nat_lt, List, [], ◌∷◌, length, take, drop, Option, Some, None, map, option_map, position, refl, sym, subst, arith}
use Rattle.std.specs.{List.slice_split, List.position_or_len, Option.option_and_then}
use Rattle.std.proofs.lemmas.{Bool.Decides.nat_tests, List.Elements.All-from_get_or, List.Sums.fails_before_first, List.Splits.slice_split_first, List.Splits.slice_split_none}
use Rattle.qm_offline.specs.declared.words.Slot.TheVariants.{Positional}
use Rattle.qm_offline.specs.Words.{Item, Given, item, put, placed, with_item, first_value}

nothing_placed : (given : Option Given) → option_and_then (λ (next : Given). option_and_then (placed next) None) given ≡ None
nothing_placed None = refl
nothing_placed (Some given) = refl

some_placed : (given : Given) (first : Item) (items : Option (List Item)) →
    option_and_then (placed given) (with_item (Some first) items) ≡ option_and_then (λ next. option_and_then (placed next) items) (put given first)
some_placed given first (Some items) = refl
some_placed given first None = sym (nothing_placed (put given first))

-- a first item is placed before the others
pub first_placed : (given : Given) (first : Option Item) (items : Option (List Item)) →
    option_and_then (placed given) (with_item first items) ≡ option_and_then (λ next. option_and_then (placed next) items) (option_and_then (put given) first)
first_placed given (Some first) items = some_placed given first items
first_placed given None items = refl

second_refused : (given : Given) (first : Option (List ℕ)) (b : List ℕ) (more : List (List ℕ)) →
    option_and_then (λ next. placed next (map (item Positional) (b ∷ more))) (option_map (λ v. record given { positional = Some v }) first) ≡ None
second_refused given None b more = refl
second_refused given (Some v) b more = refl

-- there is one positional word at most
pub many_refused : {X : Type 0} (given : Given) (f : X → List ℕ) (words : List X) → 2 ≤ length words → None ≡ placed given (map (item Positional) (map f words))
many_refused given f [] long = absurd (omega (arith, long))
many_refused given f (a ∷ []) long = absurd (omega (arith, long))
many_refused given f (a ∷ b ∷ more) long = sym (second_refused given (first_value given.positional (f a)) (f b) (map f more))

-- the place of a first passing element, or that there is none
some_from : (b : Bool) (n at : ℕ) → cond b (Some n) None ≡ Some at → (b ≡ true) × (n ≡ at)
some_from true n at e = (refl, cc)
some_from false n at e = cc

none_from : (b : Bool) (n : ℕ) → cond {A = Option ℕ} b (Some n) None ≡ None → b ≡ false
none_from true n e = cc
none_from false n e = refl

-- up to the first comma, or whatever parts a text, stands the first piece
pub first_piece : (parts : ℕ → Bool) (text : List ℕ) (at : ℕ) → position parts text ≡ Some at → slice_split parts text ≡ take at text ∷ slice_split parts (drop (at + 1) text)
first_piece parts text at found =
    let place = position_or_len parts text in
    let at_place : (nat_lt place (length text) ≡ true) × (place ≡ at) = some_from (nat_lt place (length text)) place at found in
    let test = at_place.0 in
    let within : place < length text = grind (arith, nat_tests) in
    subst (λ (n : ℕ). slice_split parts text ≡ take n text ∷ slice_split parts (drop (n + 1) text)) at_place.1 (slice_split_first parts text 0 within)

pub only_piece : (parts : ℕ → Bool) (text : List ℕ) → position parts text ≡ None → slice_split parts text ≡ text ∷ []
only_piece parts text missing =
    let place = position_or_len parts text in
    let test : nat_lt place (length text) ≡ false = none_from (nat_lt place (length text)) place missing in
    let past : length text ≤ place = grind (arith, nat_tests) in
    slice_split_none parts text (All-from_get_or (λ x. parts x ≡ false) text 0 (λ i within. fails_before_first parts text i 0 (omega (arith, past, within))))
