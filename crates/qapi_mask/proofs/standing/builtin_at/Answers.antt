use Rattle.std.proofs.Common.{rules}
use Rattle.qapi_mask.specs.Naming.{builtin_of, is_text}
use Rattle.qapi_mask.proofs.StandingLaws.{place-some, place-none}
use Rattle.qapi_mask.proofs.standing.builtin_at.Goals as goal

pub returns-in-Some-clause-place : goal.returns-in-Some-clause-place
returns-in-Some-clause-place c = place-some (λ kind. is_text c.args.name.now (builtin_of kind)) c.args.kinds.now c.in-Some.number (search rules)

pub returns-in-None-clause-place : goal.returns-in-None-clause-place
returns-in-None-clause-place c = place-none (λ kind. is_text c.args.name.now (builtin_of kind)) c.args.kinds.now (search rules)
