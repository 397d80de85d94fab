use Rattle.std.proofs.Common.{◌≡◌, None, ◌<◌, ◌++◌, List, ap, sym, ◌∙◌, subst, rules}
use Rattle.std.specs.BTreeMap.{insert_entry}
use Rattle.qm_throttle.specs.{Keys.key_order, Steps.window_at, Keys.Key, declared.window.Window.Window}
use Rattle.qm_throttle.proofs.Copying.{next_of_all, one_copied, copied_lasts}
use Rattle.qm_throttle.proofs.windows.Windows.copy.Goals as goal

pub open-requires-clause-absent : goal.open-requires-clause-absent
open-requires-clause-absent c =
    let key : c.in_ok-key.key ≡ c.in-Some.key.now = search rules in
    let next = next_of_all c.args.self.now c.loop-key.copied c.loop-key.key-iterator c.next.new.self c.in-Some.key.now c.in-Some.window.now c.loop-key.invariant.copied c.in-Some.ensures.steps c.loop-key.invariant.sorted in
    subst (λ (k : Key). window_at k c.loop-key.copied ≡ None) (sym key) next.absent

pub open-requires-clause-lasting : goal.open-requires-clause-lasting
open-requires-clause-lasting c =
    let window : c.in_ok-window.window ≡ c.in-Some.window.now = search rules in
    let next = next_of_all c.args.self.now c.loop-key.copied c.loop-key.key-iterator c.next.new.self c.in-Some.key.now c.in-Some.window.now c.loop-key.invariant.copied c.in-Some.ensures.steps c.loop-key.invariant.sorted in
    subst (λ (w : Window). 0 < w.period) (sym window)
    (copied_lasts c.args.self.now c.loop-key.copied c.loop-key.key-iterator c.next.new.self c.in-Some.key.now c.in-Some.window.now c.loop-key.invariant.copied c.in-Some.ensures.steps next c.loop-key.invariant.lasting)

pub loop-key-preserved : goal.loop-key-preserved
loop-key-preserved c =
    let key : c.in_ok-key.key ≡ c.in-Some.key.now = search rules in
    let window : c.in_ok-window.window ≡ c.in-Some.window.now = search rules in
    let next = next_of_all c.args.self.now c.loop-key.copied c.loop-key.key-iterator c.next.new.self c.in-Some.key.now c.in-Some.window.now c.loop-key.invariant.copied c.in-Some.ensures.steps c.loop-key.invariant.sorted in
    record {
      copied = one_copied c.args.self.now c.loop-key.copied c.loop-key.key-iterator c.next.new.self c.in-Some.key.now c.in-Some.window.now c.loop-key.invariant.copied c.in-Some.ensures.steps next
          ∙ ap (λ (k : Key). insert_entry key_order c.loop-key.copied k c.in-Some.window.now ++ c.next.new.self) (sym key)
          ∙ ap (λ (w : Window). insert_entry key_order c.loop-key.copied c.in_ok-key.key w ++ c.next.new.self) (sym window)
          ∙ ap (λ (l : List (Key × Window)). l ++ c.next.new.self) (sym c.in_ok-open.ensures.ok);
      sorted = c.loop-key.invariant.sorted;
      lasting = c.loop-key.invariant.lasting;
    }
