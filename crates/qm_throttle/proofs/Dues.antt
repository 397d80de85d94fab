-- Deadlines among others.
use Rattle.std.proofs.Common.{◌≡◌, ℕ, zero, suc, ◌+◌, ◌<◌, Bool, true, false, cond, ◌||◌, List, [], ◌∷◌, ◌++◌, length, take, get_or, refl, ap, sym, ◌∙◌}
use Rattle.std.proofs.lemmas.List.{take_more, Folds.list_any-append}
use Rattle.std.specs.BTreeMap.{is_at}
use Rattle.qm_throttle.specs.{Deadlines.due_order, Deadlines.is_listed, declared.due.Due.Due}

-- what is not among all is not among the first
pub not_listed_before : (dues : List Due) (i : ℕ) (q : Due) → is_listed dues q ≡ false → is_listed (take i dues) q ≡ false
not_listed_before [] zero q none = refl
not_listed_before [] (suc i) q none = refl
not_listed_before (d ∷ dues) zero q none = refl
not_listed_before (d ∷ dues) (suc i) q none = either (is_at (due_order d) q) none (not_listed_before dues i q) where
  either : (b : Bool) → (b || is_listed dues q) ≡ false → (is_listed dues q ≡ false → is_listed (take i dues) q ≡ false) → (b || is_listed (take i dues) q) ≡ false
  either true none more = absurd cc
  either false none more = more none

-- one deadline more was put in
pub one_put : (dues : List Due) (i : ℕ) (d q : Due) (b : Bool) → i < length dues → d ≡ get_or dues i d →
    cond (is_at (due_order d) q) true (is_listed (take i dues) q || b) ≡ (is_listed (take (i + 1) dues) q || b)
one_put dues i d q b h is =
    turn (is_listed (take i dues) q) (is_at (due_order d) q) b
    ∙ sym (ap (λ (t : Bool). t || b) (ap (λ (l : List Due). is_listed l q) (take_more dues i d h ∙ ap (λ (x : Due). take i dues ++ x ∷ []) (sym is)) ∙ list_any-append (λ x. is_at (due_order x) q) (take i dues) (d ∷ [])))
  where
    turn : (a t b : Bool) → cond t true (a || b) ≡ ((a || (t || false)) || b)
    turn true true b = refl
    turn true false b = refl
    turn false true b = refl
    turn false false b = refl
