use Rattle.std.proofs.Common.{◌≡◌, ℕ, List, IfOk, map, subst}
use Rattle.std.specs.List.{enumerate_from}
use Rattle.qapi_define.specs.declared.definition.Definition.{Definition}
use Rattle.qapi_number.specs.Kinds.{kind_defined}
use Rattle.qapi_number.proofs.kinds.defined_kinds.Goals as goal

pub returns : goal.returns
returns c = subst (λ (l : List Definition). IfOk c.kinds_among.result (λ kinds. kinds ≡ map (λ (e : ℕ × Definition). kind_defined c.args.numbering.now e.1.sort e.0 e.1) (enumerate_from 0 l))) c.definitions.ensures c.kinds_among.ensures
