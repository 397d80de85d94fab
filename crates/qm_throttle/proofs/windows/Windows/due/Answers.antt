use Rattle.std.proofs.Common.{◌≡◌, length, ap, sym, ◌∙◌, rules}
use Rattle.qm_throttle.specs.Windows.{due_in}
use Rattle.qm_throttle.proofs.Firsts.{first_due, no_due}
use Rattle.qm_throttle.proofs.windows.Windows.due.Goals as goal

pub returns-in-Some : goal.returns-in-Some
returns-in-Some c =
    sym (ap due_in (sym c.self.view_is) ∙ first_due c.self.inside.deadlines.keys c.self.inside.map.entries c.in-Some.due.now c.self.invariant c.len.ensures.ordered c.in-Some.ensures.member c.in-Some.ensures.least)

pub returns-in-None : goal.returns-in-None
returns-in-None c =
    let none : length c.self.inside.deadlines.keys ≡ 0 = search rules in
    sym (ap due_in (sym c.self.view_is) ∙ no_due c.self.inside.deadlines.keys c.self.inside.map.entries c.self.invariant none)
