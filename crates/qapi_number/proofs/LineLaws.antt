-- A line of bases, from its last type up.
use Rattle.std.proofs.Common.{◌≡◌, ◌<◌, ◌+◌, ◌-◌, ℕ, zero, suc, List, [], ◌∷◌, ◌++◌, reverse, Option, Some, None, sym, ap, ◌∙◌, append_assoc, arith}
use Rattle.std.proofs.lemmas.List.{reverse-append}
use Rattle.qapi_number.specs.Kinds.{base_at, line_from}

pub line_none : (n : ℕ) (bases : List (Option ℕ)) (next : Option ℕ) (line all : List ℕ) → next ≡ None → line_from n bases next ++ reverse line ≡ all → reverse line ≡ all
line_none zero bases next line all e h = h
line_none (suc n) bases next line all e h = ap (λ (o : Option ℕ). line_from (suc n) bases o ++ reverse line) (sym e) ∙ h

line-next : (n turn a : ℕ) (bases : List (Option ℕ)) → turn < n → line_from (n - turn) bases (Some a) ≡ line_from (n - (turn + 1)) bases (base_at bases a) ++ a ∷ []
line-next n turn a bases l = let e : n - turn ≡ suc (n - (turn + 1)) = omega arith in ap (λ (k : ℕ). line_from k bases (Some a)) e

pub line_step : (n turn a : ℕ) (bases : List (Option ℕ)) (next : Option ℕ) (line all : List ℕ) → turn < n → next ≡ Some a → line_from (n - turn) bases next ++ reverse line ≡ all → line_from (n - (turn + 1)) bases (base_at bases a) ++ reverse (line ++ a ∷ []) ≡ all
line_step n turn a bases next line all l e h =
    ap (λ (r : List ℕ). line_from (n - (turn + 1)) bases (base_at bases a) ++ r) (reverse-append line (a ∷ []))
    ∙ sym (append_assoc (line_from (n - (turn + 1)) bases (base_at bases a)) (a ∷ []) (reverse line))
    ∙ ap (λ (r : List ℕ). r ++ reverse line) (sym (line-next n turn a bases l))
    ∙ ap (λ (o : Option ℕ). line_from (n - turn) bases o ++ reverse line) (sym e) ∙ h
