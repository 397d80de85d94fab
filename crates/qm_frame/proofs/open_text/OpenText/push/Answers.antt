use Rattle.std.proofs.Common.{sym, arith}
use Rattle.qm_frame.proofs.Texts.{within_of, run_of, taken_of, ended_of, wrong_of}
use Rattle.qm_frame.proofs.open_text.OpenText.push.Goals as goal

pub judge-requires : goal.judge-requires
judge-requires c = within_of _ _ _ c.self.view_is c.requires c.self.invariant.known

pub keep-requires : goal.keep-requires
keep-requires c =
    let run = run_of _ _ _ _ _ c.len-length.ensures c.self.view_is c.requires c.self.invariant.known (sym c.if-lengthens.ensures) in
    omega (arith, run.room, c.self.invariant.room)

pub keep-requires-in-Taken : goal.keep-requires-in-Taken
keep-requires-in-Taken c =
    let taken = taken_of _ _ _ _ _ _ c.len-length.ensures c.self.view_is c.requires c.self.invariant.known c.in-Taken.ensures in
    omega (arith, taken.room, c.self.invariant.room)

pub keep-requires-in-Ends : goal.keep-requires-in-Ends
keep-requires-in-Ends c =
    let ended = ended_of _ _ _ _ _ c.len-length.ensures c.self.view_is c.requires c.self.invariant.known c.in-Ends.ensures in
    omega (arith, ended.room, c.self.invariant.room)

pub invariant_of-self : goal.invariant_of-self
invariant_of-self c =
    let run = run_of _ _ _ _ _ c.len-length.ensures c.self.view_is c.requires c.self.invariant.known (sym c.if-lengthens.ensures) in
    record { room = omega (arith, c.self.invariant.room, c.keep.ensures.capacity); known = λ o. rw c.keep.ensures.items run.state }

pub invariant_of-self-in-Taken : goal.invariant_of-self-in-Taken
invariant_of-self-in-Taken c =
    let taken = taken_of _ _ _ _ _ _ c.len-length.ensures c.self.view_is c.requires c.self.invariant.known c.in-Taken.ensures in
    record { room = omega (arith, c.self.invariant.room, c.keep-in-Taken.ensures.capacity); known = λ o. rw c.keep-in-Taken.ensures.items taken.state }

pub invariant_of-self-in-Ends : goal.invariant_of-self-in-Ends
invariant_of-self-in-Ends c =
    let ended = ended_of _ _ _ _ _ c.len-length.ensures c.self.view_is c.requires c.self.invariant.known c.in-Ends.ensures in
    record { room = omega (arith, c.self.invariant.room, c.keep-in-Ends.ensures.capacity); known = λ o. (let shut = rw c.keep-in-Ends.ensures.items at o in grind (arith, ended.shut, shut)) }

pub returns-then-lengthens-clause-step : goal.returns-then-lengthens-clause-step
returns-then-lengthens-clause-step c =
    let run = run_of _ _ _ _ _ c.len-length.ensures c.self.view_is c.requires c.self.invariant.known (sym c.if-lengthens.ensures) in
    rw c.keep.ensures.items run.step

pub returns-then-lengthens-clause-open : goal.returns-then-lengthens-clause-open
returns-then-lengthens-clause-open c = λ e.
    let run = run_of _ _ _ _ _ c.len-length.ensures c.self.view_is c.requires c.self.invariant.known (sym c.if-lengthens.ensures) in
    rw c.keep.ensures.items run.more

pub returns-in-Taken-clause-step : goal.returns-in-Taken-clause-step
returns-in-Taken-clause-step c =
    let taken = taken_of _ _ _ _ _ _ c.len-length.ensures c.self.view_is c.requires c.self.invariant.known c.in-Taken.ensures in
    rw c.keep-in-Taken.ensures.items taken.step

pub returns-in-Taken-clause-open : goal.returns-in-Taken-clause-open
returns-in-Taken-clause-open c = λ e.
    let taken = taken_of _ _ _ _ _ _ c.len-length.ensures c.self.view_is c.requires c.self.invariant.known c.in-Taken.ensures in
    rw c.keep-in-Taken.ensures.items taken.more

pub returns-in-Ends-clause-step : goal.returns-in-Ends-clause-step
returns-in-Ends-clause-step c =
    let ended = ended_of _ _ _ _ _ c.len-length.ensures c.self.view_is c.requires c.self.invariant.known c.in-Ends.ensures in
    rw c.keep-in-Ends.ensures.items ended.step

pub returns-in-Wrong-clause-step : goal.returns-in-Wrong-clause-step
returns-in-Wrong-clause-step c = wrong_of _ _ _ _ _ _ c.len-length.ensures c.self.view_is c.requires c.self.invariant.known c.in-Wrong.ensures
