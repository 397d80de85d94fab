-- The first fault of an expression: its kind, then the first unknown key, the first missing key,
-- and the first value of a wrong shape (QAPI code generation guide, "Schema syntax"; the order is
-- this project's own rule).
use Rattle.std.specs.Prelude.{ℕ, not, ◌&&◌, List, [], ◌∷◌, Option, Some, None, find, Result, Ok, Err}
use Rattle.std.specs.{Option.option_map, Option.option_or, Option.is_none, List.filter}
use Rattle.qapi_lex.specs.declared.token.Token.{Token}
use Rattle.qapi_tree.specs.declared.fault.{TreeFault.TreeFault, TreeRule.TheVariants.UnknownKey, TreeRule.TheVariants.MissingKey, TreeRule.TheVariants.WrongShape}
use Rattle.qapi_tree.specs.{declared.table.Form.Form, declared.table.KeyRule.KeyRule, declared.table.KindRule.KindRule, declared.tree.Expr.Expr, Reading.on, Reading.objects_of}
use Rattle.qapi_tree.specs.{declared.tree.TreeMember.TreeMember, Faults.fault, Faults.syntax_fault, Spelling.has_key}
use Rattle.qapi_tree.specs.{Shapes.key_in, Shapes.is_needed, Shapes.rule_for, Shapes.fits_rule, Shapes.has_shape, Table.name, Table.keys, Table.kinds}

-- the form of an expression of one kind
abbrev pub only_form : List KindRule → Option Form
only_form [] = None
only_form (k ∷ []) = Some k.1
only_form (k ∷ l ∷ more) = None

abbrev pub form_of : List TreeMember → Option Form
form_of members = only_form (filter (λ k. has_key members (name k.0)) kinds)

abbrev pub first_unknown : Form → List TreeMember → Option TreeMember
first_unknown form members = find (λ m. is_none (rule_for form m.key)) members

abbrev pub first_missing : Form → List TreeMember → Option KeyRule
first_missing form members =
    find (λ r. is_needed r && not (has_key members (name (key_in r)))) (keys form)

abbrev pub first_wrong : Form → List TreeMember → Option TreeMember
first_wrong form members =
    find (λ m. not (fits_rule (rule_for form m.key) (has_shape m.tree))) members

-- the first fault of an expression of a kind, whose `{` stands in a line
abbrev pub fault_in : ℕ → List TreeMember → Option Form → Option TreeFault
fault_in line members None = Some (syntax_fault line)
fault_in line members (Some form) =
    option_or (option_map (λ m. fault UnknownKey line m.key) (first_unknown form members))
    (option_or (option_map (λ r. fault MissingKey line (name (key_in r))) (first_missing form members))
    (option_map (λ m. fault WrongShape line m.key) (first_wrong form members)))

abbrev pub fault_of : Expr → Option TreeFault
fault_of e = fault_in e.line e.keys (form_of e.keys)

-- the first fault of expressions in their order
abbrev pub first_fault : List Expr → Option TreeFault
first_fault [] = None
first_fault (e ∷ es) = option_or (fault_of e) (first_fault es)

abbrev pub unless_faulty : List Expr → Option TreeFault → Result (List Expr) TreeFault
unless_faulty exprs None = Ok exprs
unless_faulty exprs (Some f) = Err f

-- the expressions that tokens hold, or the first fault: of the tokens, and then of the expressions
unfoldable pub expressions_of : List Token → Result (List Expr) TreeFault
expressions_of ts = on (objects_of ts) (λ exprs. unless_faulty exprs (first_fault exprs))
