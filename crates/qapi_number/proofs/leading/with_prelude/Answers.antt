use Rattle.std.proofs.Common.{◌≡◌, ◌++◌, List, IfOk, not, subst, ap, ◌∙◌}
use Rattle.std.specs.List.{filter, list_any}
use Rattle.std.specs.Str.{bytes_eq}
use Rattle.qapi_define.specs.declared.definition.Definition.{Definition}
use Rattle.qapi_number.specs.Prelude.{prelude, without_prelude_names}
use Rattle.qapi_number.proofs.leading.with_prelude.Goals as goal

pub returns : goal.returns
returns c =
    let e : c.in_ok-first.first ++ c.without_names-others.result ≡ prelude ++ without_prelude_names c.args.definitions =
    ap (λ (l : List Definition). l ++ c.without_names-others.result) c.in_ok-first.ensures
    ∙ ap (λ (l : List Definition). prelude ++ l) (c.without_names-others.ensures
    ∙ ap (λ (known : List Definition). filter (λ (d : Definition). not (list_any (λ (e : Definition). bytes_eq e.name d.name) known)) c.args.definitions) (c.as_slice.ensures ∙ c.in_ok-first.ensures))
    in subst (λ (l : List Definition). IfOk c.add_all.result (λ all. all ≡ l)) e c.add_all.ensures
