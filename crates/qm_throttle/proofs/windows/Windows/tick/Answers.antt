use Rattle.std.proofs.Common.{List, sym, ◌∙◌, subst}
use Rattle.qm_throttle.specs.{Deadlines.IsKept, Keys.Key, declared.window.Window.Window}
use Rattle.qm_throttle.proofs.Ticking.{IsPlan, kept_ticked, none_there}
use Rattle.qm_throttle.proofs.windows.Windows.tick.Goals as goal

pub put_all-requires : goal.put_all-requires
put_all-requires c = λ q listed.
    let kept = subst (IsKept c.self.inside.deadlines.keys) c.self.view_is c.self.invariant in
    let plan : IsPlan c.args.moment c.args.self.now c.in_ok-ended.ended c.as_slice.result.now = record { ends = c.in_ok-ended.ensures; opens = c.as_slice.ensures.value ∙ c.in_ok-nexts.ensures } in
    none_there c.args.moment c.self.inside.deadlines.keys c.args.self.now c.in_ok-ended.ended c.as_slice.result.now kept plan q listed

pub invariant_of-self-2 : goal.invariant_of-self-2
invariant_of-self-2 c =
    let plan : IsPlan c.args.moment c.self.inside.map.entries c.in_ok-ended.ended c.as_slice.result.now =
    subst (λ (ws : List (Key × Window)). IsPlan c.args.moment ws c.in_ok-ended.ended c.as_slice.result.now) (sym c.self.view_is) (record { ends = c.in_ok-ended.ensures; opens = c.as_slice.ensures.value ∙ c.in_ok-nexts.ensures }) in
    kept_ticked c.args.moment c.self.inside.deadlines.keys c.put_all.new.deadlines.keys c.take_come.new.deadlines.keys c.self.inside.map.entries c.end_all.new.map.entries c.in_ok-ended.ended c.as_slice.result.now
    c.self.invariant c.len.ensures.ordered plan c.in_ok-put_all.ensures.ok c.take_come.ensures c.end_all.ensures.windows
