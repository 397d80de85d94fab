use Rattle.std.proofs.Common.{sym, rules}
use Rattle.qm_json.proofs.Plain.{plain_points}
use Rattle.qm_json.proofs.strings.write_escaped.Goals as goal

pub returns-then-are_plain : goal.returns-then-are_plain
returns-then-are_plain g c = rw (plain_points c.args.bytes.now (sym c.if-are_plain.ensures)) (search rules)
