use Rattle.std.proofs.Common.{◌≡◌, ◌++◌, take, map}
use Rattle.qm_json.specs.Printing.{joined, printed, printed_member}
use Rattle.qm_json.proofs.printing.+write.Given as goal

abbrev pub invariant-write_items-loop-i : goal.invariant-write_items-loop-i
invariant-write_items-loop-i g l = g.O.Output.given l.out ≡ g.O.Output.given l.fn.out ++ joined (map printed (take l.i l.items))

abbrev pub invariant-write_members-loop-i : goal.invariant-write_members-loop-i
invariant-write_members-loop-i g l = g.O.Output.given l.out ≡ g.O.Output.given l.fn.out ++ joined (map printed_member (take l.i l.members))
