use Rattle.std.proofs.Common.{sym, subst}
use Rattle.qapi_types.specs.declared.parts.ArgType.{ArgType}
use Rattle.qm_bind.specs.declared.arguments.Arguments.{TheVariants.Of}
use Rattle.qm_bind.specs.Walks.{Takes}
use Rattle.qm_bind.proofs.ArgumentLaws.{takes-is}
use Rattle.qm_bind.proofs.arguments.arguments_of.Goals as goal

pub returns-in_ok-types_along-in-Typed : goal.returns-in_ok-types_along-in-Typed
returns-in_ok-types_along-in-Typed c = subst (λ (arg : ArgType). Takes c.args.kinds.now arg (Of c.in_ok-types_along-in-Typed.field-0)) (sym c.in-Typed.is) (takes-is c.args.kinds.now c.args.graph.now c.in-Typed.type_id c.in_ok-types_along-in-Typed.field-0 c.requires.graph c.requires.free c.in_ok-types_along-in-Typed.ensures)
