use Rattle.std.proofs.Common.{rules}
use Rattle.qapi_types.specs.Types.{members_of}
use Rattle.qapi_check.proofs.WalkLaws.{name_added, names_added}
use Rattle.qapi_check.proofs.choices.add_names.Goals as goal

pub loop-member-preserved : goal.loop-member-preserved
loop-member-preserved c = name_added (members_of c.args.kind.now) c.loop-member.member-index c.member-item.result c.args.seen.now c.loop-member.seen c.add.new.self c.as_slice-name.result.now c.in_ok-add.field-0 (search rules) (search rules) c.loop-member.invariant c.in_ok-add.ensures (search rules)

pub returns : goal.returns
returns c = names_added (members_of c.args.kind.now) c.loop-member.member-index c.args.seen.now c.loop-member.seen (search rules) c.loop-member.invariant
