use Rattle.std.proofs.Common.{◌≡◌, nat_le, Bool, true, false, cond, ◌||◌, List, ◌∷◌, refl, ap, sym, ◌∙◌, subst, rules, arith}
use Rattle.std.specs.{BTreeMap.is_at, BTreeSet.contains, List.Sorted.IsStrictlySortedBy}
use Rattle.std.proofs.lemmas.{Bool.Decides.nat_tests, Map.Keys.sorted_tail}
use Rattle.qm_throttle.specs.{Deadlines.due_order, Deadlines.key_comes, Keys.key_order, declared.due.Due.Due, Keys.Key}
use Rattle.qm_throttle.proofs.Coming.{none_comes, one_comes}
use Rattle.qm_throttle.proofs.deadlines.come_keys.Goals as goal

or_false : (b : Bool) → (b || false) ≡ b
or_false true = refl
or_false false = refl

pub returns-then-due-moment : goal.returns-then-due-moment
returns-then-due-moment c = λ k.
    let due = c.in-Some.due.now in
    let rest : c.loop-due.due-iterator ≡ due ∷ c.next.new.self = c.in-Some.ensures.steps in
    let late : nat_le due.deadline c.args.moment ≡ false = grind (arith, nat_tests) in
    let none = none_comes c.args.moment due c.next.new.self k late (subst (IsStrictlySortedBy due_order) rest c.loop-due.invariant.sorted) in
    let held = contains key_order c.loop-due.keys k in
    sym (c.loop-due.invariant.keys k ∙ ap (λ (dues : List Due). held || key_comes c.args.moment dues k) rest ∙ ap (λ (b : Bool). held || b) none ∙ or_false held)

pub loop-due-preserved : goal.loop-due-preserved
loop-due-preserved c =
    let due = c.in-Some.due.now in
    let rest : c.loop-due.due-iterator ≡ due ∷ c.next.new.self = c.in-Some.ensures.steps in
    let come : nat_le due.deadline c.args.moment ≡ true = grind (arith, nat_tests) in
    let same : c.in_ok-key.key ≡ due.key = search rules in
    record {
      keys = λ k.
          let held = contains key_order c.loop-due.keys k in
          c.loop-due.invariant.keys k ∙ ap (λ (dues : List Due). held || key_comes c.args.moment dues k) rest
          ∙ one_comes c.args.moment due c.next.new.self k held (contains key_order c.insert.new.self k) come
          (c.in_default.ensures.updates.0 k ∙ ap (λ (j : Key). cond (is_at (key_order j) k) true held) same);
      sorted = sorted_tail due_order due c.next.new.self (subst (IsStrictlySortedBy due_order) rest c.loop-due.invariant.sorted);
    }
