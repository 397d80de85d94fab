use Rattle.std.proofs.Common.{◌≡◌, [], take, drop}
use Rattle.qapi_rules.specs.Blames.{over}
use Rattle.qapi_rules.specs.References.{clash_after}
use Rattle.qapi_rules.proofs.variants.clash_among.Given as goal

abbrev pub invariant-loop-i : goal.invariant-loop-i
invariant-loop-i l = over (clash_after l.table) [] l.variants ≡ over (clash_after l.table) (take l.i l.variants) (drop l.i l.variants)
