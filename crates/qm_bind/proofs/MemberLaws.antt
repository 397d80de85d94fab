-- What a type's branches bring.
use Rattle.std.proofs.Common.{◌≡◌, ◌+◌, ◌||◌, ℕ, Bool, false, List, sym, ap, ◌∙◌, add-one}
use Rattle.std.specs.List.{list_any}
use Rattle.qm_base.specs.Names.{is_named}
use Rattle.qapi_types.specs.declared.kind.{Branch.Branch, Kind.Kind}
use Rattle.qapi_types.specs.Types.{branch_types, branches_of, kind_of, member_names}
use Rattle.qapi_types.proofs.NameLemmas.{list_any-map}
use Rattle.qm_bind.specs.Arguments.{may_have_within}

-- what has no member of the name has it exactly where one of its branches brings it
pub has-branch : (table : List Kind) (name : List ℕ) (steps less t : ℕ) (kind : Kind) (branches : List Branch) (own some : Bool) → steps ≡ less + 1 → kind ≡ kind_of table t → branches ≡ branches_of kind → own ≡ is_named (member_names (kind_of table t)) name → own ≡ false → some ≡ list_any (λ (b : Branch). may_have_within table name less b.type_id) branches → some ≡ may_have_within table name steps t
has-branch table name steps less t kind branches own some n k b o f s =
    s ∙ ap (λ (bs : List Branch). list_any (λ (x : Branch). may_have_within table name less x.type_id) bs) (b ∙ ap branches_of k)
    ∙ sym (list_any-map (λ (x : Branch). x.type_id) (may_have_within table name less) (branches_of (kind_of table t)))
    ∙ ap (λ (x : Bool). x || list_any (may_have_within table name less) (branch_types (kind_of table t))) (sym f ∙ o)
    ∙ ap (λ (m : ℕ). may_have_within table name m t) (sym (n ∙ add-one less))
