use Rattle.std.proofs.Common.{◌≡◌, drop}
use Rattle.std.specs.List.{filter}
use Rattle.qapi_tree.specs.{Judging.form_of, Spelling.has_key, Table.name}
use Rattle.qapi_tree.proofs.FormLaws.{settled}
use Rattle.qapi_tree.proofs.judging.form_of.Given as goal

-- the form so far, with the kinds that are left
abbrev pub invariant-loop-kind : goal.invariant-loop-kind
invariant-loop-kind l = settled l.form (filter (λ k. has_key l.members (name k.0)) (drop l.kind-index l.kind-items)) ≡ form_of l.members
