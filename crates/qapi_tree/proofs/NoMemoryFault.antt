-- Want of memory is no fault of tokens.
use Rattle.std.proofs.Common.{◌≡◌, ◌≢◌, ℕ, List, [], ◌∷◌, Option, Some, None, option_map, Result, Ok, Err, IfErr, IfSome, refl, subst}
use Rattle.std.specs.Option.{option_or}
use Rattle.qapi_lex.specs.declared.token.Token.{Token}
use Rattle.qapi_tree.specs.declared.fault.{TreeFault.TreeFault, TreeRule.TreeRule}
use Rattle.qapi_tree.specs.declared.fault.TreeRule.TheVariants.{Memory, UnknownKey, MissingKey, WrongShape}
use Rattle.qapi_tree.specs.{declared.table.Form.Form, declared.tree.Expr.Expr, declared.tree.TreeMember.TreeMember, Faults.fault}
use Rattle.qapi_tree.specs.Judging.{form_of, first_unknown, first_missing, first_wrong, fault_in, fault_of, first_fault, expressions_of}
use Rattle.qapi_tree.specs.{Shapes.key_in, Table.name}
use Rattle.qapi_tree.specs.Viable.{FirstFault, misplaced, twice, short, HasFault, of_tokens, of_expressions}
use Rattle.qapi_tree.proofs.FaultLaws.{refused_faulty}

abbrev IsTold : Option TreeFault → Type 0
IsTold o = IfSome o (λ f. f.rule ≢ Memory)

either : (o p : Option TreeFault) → IsTold o → IsTold p → IsTold (option_or o p)
either None p h k = k
either (Some f) p h k = h

named : {A : Type 0} (rule : TreeRule) (line : ℕ) (key : A → List ℕ) (o : Option A) → rule ≢ Memory → IsTold (option_map (λ x. fault rule line (key x)) o)
named rule line key None h = tt
named rule line key (Some x) h = h

in_expression : (line : ℕ) (members : List TreeMember) (form : Option Form) → IsTold (fault_in line members form)
in_expression line members None = λ e. cc
in_expression line members (Some form) =
    either _ _ (named UnknownKey line (λ m. m.key) (first_unknown form members) (λ e. cc))
    (either _ _ (named MissingKey line (λ r. name (key_in r)) (first_missing form members) (λ e. cc))
    (named WrongShape line (λ m. m.key) (first_wrong form members) (λ e. cc)))

in_expressions : (exprs : List Expr) → IsTold (first_fault exprs)
in_expressions [] = tt
in_expressions (e ∷ es) = either (fault_of e) (first_fault es) (in_expression e.line e.keys (form_of e.keys)) (in_expressions es)

in_tokens : {ts : List Token} {f : TreeFault} → FirstFault ts f → f.rule ≢ Memory
in_tokens (misplaced before rest kind l c b m) e = cc
in_tokens (twice before rest key other l c m b) e = cc
in_tokens (short ts b m) e = cc

told : {ts : List Token} {f : TreeFault} → HasFault ts f → f.rule ≢ Memory
told (of_tokens h) = in_tokens h
told (of_expressions exprs r e) = subst IsTold e (in_expressions exprs)

pub no_memory_fault : (ts : List Token) → IfErr (expressions_of ts) (λ f. f.rule ≢ Memory)
no_memory_fault ts = by_result (expressions_of ts) (λ f e. told (refused_faulty ts f e))
  where
    by_result : (r : Result (List Expr) TreeFault) → ((f : TreeFault) → r ≡ Err f → f.rule ≢ Memory) → IfErr r (λ f. f.rule ≢ Memory)
    by_result (Ok exprs) h = tt
    by_result (Err f) h = h f refl
