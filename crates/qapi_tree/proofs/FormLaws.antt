-- The only form of some kinds, kind by kind.
use Rattle.std.proofs.Common.{◌≡◌, List, [], ◌∷◌, Option, Some, None, refl}
use Rattle.qapi_tree.specs.{declared.table.Form.Form, declared.table.KindRule.KindRule, Judging.only_form}

abbrev pub settled : Option Form → List KindRule → Option Form
settled None rest = only_form rest
settled (Some form) [] = Some form
settled (Some form) (k ∷ rest) = None

pub settled_first : (k : KindRule) (rest : List KindRule) → settled (Some k.1) rest ≡ only_form (k ∷ rest)
settled_first k [] = refl
settled_first k (l ∷ rest) = refl

pub settled_end : (form : Option Form) → settled form [] ≡ form
settled_end None = refl
settled_end (Some form) = refl
