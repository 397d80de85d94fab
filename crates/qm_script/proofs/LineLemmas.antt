-- The lines of a script, one after the other.
use Rattle.std.proofs.Common.{◌≡◌, ℕ, ◌+◌, ◌<◌, ◌==◌, Bool, true, false, cond, nat_lt, List, [], ◌∷◌, length, take, drop, Option, Some, None, position, refl, ap, ◌∙◌, arith, subst, ◌≤◌}
use Rattle.std.specs.List.{slice_split, position_or_len, onto_first}
use Rattle.std.proofs.lemmas.{Bool.Decides.nat_tests, List.Elements.All-from_get_or, List.Sums.fails_before_first, List.Splits.slice_split_first, List.Splits.slice_split_none}
use Rattle.qm_script.specs.Lines.{is_line_feed, whole_lines, lines_of}

-- there is a first part
record HasFirst (parts : List (List ℕ)) : Type 0 where
  pub first : List ℕ
  pub others : List (List ℕ)
  pub is : parts ≡ first ∷ others

onto_has : (x : ℕ) (parts : List (List ℕ)) → HasFirst (onto_first x parts)
onto_has x [] = record { first = x ∷ []; others = []; is = refl }
onto_has x (first ∷ others) = record { first = x ∷ first; others = others; is = refl }

split_has : (script : List ℕ) → HasFirst (slice_split is_line_feed script)
split_has [] = record { first = []; others = []; is = refl }
split_has (x ∷ script) =
    elim (is_line_feed x) as (λ b. HasFirst (cond b ([] ∷ slice_split is_line_feed script) (onto_first x (slice_split is_line_feed script)))) [
      | true ↦ record { first = []; others = slice_split is_line_feed script; is = refl }
      | false ↦ onto_has x (slice_split is_line_feed script)
    ]

whole-cons : (line : List ℕ) (script : List ℕ) → whole_lines (line ∷ slice_split is_line_feed script) ≡ line ∷ lines_of script
whole-cons line script = let has = split_has script in rw has.is refl

-- the place of a first passing element, or that there is none
some_from : (b : Bool) (n at : ℕ) → cond b (Some n) None ≡ Some at → (b ≡ true) × (n ≡ at)
some_from true n at e = (refl, cc)
some_from false n at e = cc

none_from : (b : Bool) (n : ℕ) → cond {A = Option ℕ} b (Some n) None ≡ None → b ≡ false
none_from true n e = cc
none_from false n e = refl

-- up to the first LF stands the first line
pub lines_of-first : (script : List ℕ) (at : ℕ) → position is_line_feed script ≡ Some at → lines_of script ≡ take at script ∷ lines_of (drop (at + 1) script)
lines_of-first script at found =
    let place = position_or_len is_line_feed script in
    let at_place : (nat_lt place (length script) ≡ true) × (place ≡ at) = some_from (nat_lt place (length script)) place at found in
    let test = at_place.0 in
    let within : place < length script = grind (arith, nat_tests) in
    let parts : slice_split is_line_feed script ≡ take at script ∷ slice_split is_line_feed (drop (at + 1) script) =
    subst (λ (n : ℕ). slice_split is_line_feed script ≡ take n script ∷ slice_split is_line_feed (drop (n + 1) script)) at_place.1 (slice_split_first is_line_feed script 0 within) in
    ap whole_lines parts ∙ whole-cons (take at script) (drop (at + 1) script)

-- without an LF there is one line
pub lines_of-none : (script : List ℕ) → 0 < length script → position is_line_feed script ≡ None → lines_of script ≡ script ∷ []
lines_of-none script some missing =
    let place = position_or_len is_line_feed script in
    let test : nat_lt place (length script) ≡ false = none_from (nat_lt place (length script)) place missing in
    let past : length script ≤ place = grind (arith, nat_tests) in
    let part : slice_split is_line_feed script ≡ script ∷ [] =
    slice_split_none is_line_feed script (All-from_get_or (λ x. is_line_feed x ≡ false) script 0 (λ i within. fails_before_first is_line_feed script i 0 (omega (arith, past, within)))) in
    let filled : (length script == 0) ≡ false = grind (arith, nat_tests) in
    ap whole_lines part ∙ rw filled refl
