-- Which tokens are accepted.
use Rattle.std.proofs.Common.{◌≡◌, List, Option, Some, None, Result, Ok, Err, refl, ap, ◌∙◌, subst}
use Rattle.qapi_lex.specs.declared.token.Token.{Token}
use Rattle.qapi_tree.specs.{declared.fault.TreeFault.TreeFault, declared.tree.Expr.Expr, Spelling.SpellsRow}
use Rattle.qapi_tree.specs.{Judging.first_fault, Judging.unless_faulty, Judging.expressions_of, Reading.on, Reading.objects_of}
use Rattle.qapi_tree.proofs.{Accepts.row-read, Holds.row-spelled}

abbrev Accepted : Result (List Expr) TreeFault → List Expr → Type 0
Accepted r exprs = (r ≡ Ok exprs) × (first_fault exprs ≡ None)

unless-accepted : (es exprs : List Expr) (o : Option TreeFault) → first_fault es ≡ o → unless_faulty es o ≡ Ok exprs → Accepted (Ok es) exprs
unless-accepted es exprs None h e = (let same : es ≡ exprs = cc in (e, subst (λ (l : List Expr). first_fault l ≡ None) same h))
unless-accepted es exprs (Some f) h e = cc

accepted : (r : Result (List Expr) TreeFault) (exprs : List Expr) → on r (λ es. unless_faulty es (first_fault es)) ≡ Ok exprs → Accepted r exprs
accepted (Ok es) exprs e = unless-accepted es exprs (first_fault es) refl e
accepted (Err f) exprs e = cc

pub parsed-spelled : (ts : List Token) (exprs : List Expr) → expressions_of ts ≡ Ok exprs → SpellsRow ts exprs × (first_fault exprs ≡ None)
unfolding expressions_of
parsed-spelled ts exprs e = let a : Accepted (objects_of ts) exprs = accepted (objects_of ts) exprs e in (row-spelled ts exprs a.0, a.1)

pub spelled-parsed : (ts : List Token) (exprs : List Expr) → SpellsRow ts exprs × (first_fault exprs ≡ None) → expressions_of ts ≡ Ok exprs
unfolding expressions_of
spelled-parsed ts exprs h = ap (λ (r : Result (List Expr) TreeFault). on r (λ es. unless_faulty es (first_fault es))) (row-read ts exprs h.0) ∙ ap (unless_faulty exprs) h.1
