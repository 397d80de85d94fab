use Rattle.std.proofs.Common.{rules, ◌≡◌, subst, ℕ, List, Option, Some, Result, Err}
use Rattle.qapi_load.specs.Files.{NamedText}
use Rattle.qapi_types.specs.declared.parts.Parts.{Parts}
use Rattle.qapi_check.specs.{Checking.SchemaFrom, declared.loading.SchemaFault.SchemaFault}
use Rattle.qm_offline.specs.{Loading.BoundFrom, Loading.LoadedFrom, declared.refusal.Refusal.Refusal}
use Rattle.qm_offline.proofs.Refusing.{accepted_from, memory_from, refused_from}
use Rattle.qm_offline.proofs.loading.load_words.Goals as goal

same_schema : (tells : Option (List NamedText)) (main main' : Option (List ℕ)) (names names' : List (List ℕ)) (answer : Result Parts SchemaFault) →
    main ≡ main' → names ≡ names' → SchemaFrom tells main names answer → SchemaFrom tells main' names' answer
same_schema tells main main' names names' answer m n given =
    subst (λ (o : Option (List ℕ)). SchemaFrom tells o names' answer) m (subst (λ (l : List (List ℕ)). SchemaFrom tells main l answer) n given)

pub returns-in_default-clause-given : goal.returns-in_default-clause-given
returns-in_default-clause-given g c = memory_from _ _

pub returns-in-Ok-load_schema-clause-given : goal.returns-in-Ok-load_schema-clause-given
returns-in-Ok-load_schema-clause-given g c =
    let parts = c.in-Ok-load_schema.schema in
    let bound = subst (λ (t : Option (List NamedText)). BoundFrom t c.args.words.now parts c.over_schema.result) (search rules) c.over_schema.ensures.given in
    accepted_from (g.L.Library.files c.args.library.now) c.args.words.now parts c.over_schema.result
    (same_schema _ _ _ _ _ _ (search rules) (search rules) c.in-Ok-load_schema.ensures.given) bound

pub returns-clause-given : goal.returns-clause-given
returns-clause-given g c =
    let given = refused_from _ c.args.words.now c.in-Err.fault (same_schema _ _ _ _ _ _ (search rules) (search rules) c.in-Err.ensures.given) in
    subst (λ (r : Refusal). LoadedFrom (g.L.Library.files c.args.library.now) (Some c.args.words.now) (Err r)) (search rules) given
