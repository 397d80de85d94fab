-- The branch that a tag's value chooses, by the value's position in the tag's enum.
use Rattle.std.proofs.Common.{◌≡◌, ℕ, ◌+◌, Bool, true, false, cond, List, [], ◌∷◌, map, refl, ap, sym, ◌∙◌, Option, Some}
use Rattle.std.specs.Prelude.{find}
use Rattle.std.specs.List.{position_from}
use Rattle.std.specs.{Option.option_map, Option.option_and_then, Str.bytes_eq}
use Rattle.std.proofs.lemmas.{Slice.Eq.bytes_eq-Decides}
use Rattle.qm_json.specs.declared.value.{Member.Member}
use Rattle.qapi_types.specs.declared.kind.{Branch.Branch, Kind.Kind, MemberDef.MemberDef, ValueDef.ValueDef}
use Rattle.qapi_types.specs.{Lookups.place_of}
use Rattle.qapi_types.specs.Types.{kind_of, branches_of, tag_member, values_of, values_at, value_names}
use Rattle.qm_admit.specs.{Fitting.chosen, Fitting.text_in}
use Rattle.qm_admit.specs.Tags.{Case, Tag, branch_at, cases_from, branch_for, tag_of}
use Rattle.qm_admit.proofs.Positions.{from-zero}

same-test : (a b : List ℕ) → bytes_eq a b ≡ bytes_eq b a
same-test a b = by_case (bytes_eq a b) (bytes_eq b a) refl refl
  where
    by_case : (p q : Bool) → bytes_eq a b ≡ p → bytes_eq b a ≡ q → p ≡ q
    by_case true true e f = refl
    by_case false false e f = refl
    by_case true false e f = sym ((bytes_eq-Decides b a).1 (sym ((bytes_eq-Decides a b).0 e))) ∙ f
    by_case false true e f = sym e ∙ (bytes_eq-Decides a b).1 (sym ((bytes_eq-Decides b a).0 f))

case-from : (branches : List Branch) (text : List ℕ) (k : ℕ) (values : List ValueDef) →
    option_and_then (λ (c : Case). c.branch) (find (λ (c : Case). bytes_eq c.name text) (cases_from branches k values)) ≡ option_and_then (branch_at branches) (position_from (bytes_eq text) k (map (λ (v : ValueDef). v.name) values))
case-from branches text k [] = refl
case-from branches text k (v ∷ values) = by_case (bytes_eq v.name text) (case-from branches text (k + 1) values)
    ∙ ap (λ (b : Bool). option_and_then (branch_at branches) (cond b (Some k) (position_from (bytes_eq text) (k + 1) (map (λ (v : ValueDef). v.name) values)))) (same-test v.name text)
  where
    by_case : (b : Bool) → option_and_then (λ (c : Case). c.branch) (find (λ (c : Case). bytes_eq c.name text) (cases_from branches (k + 1) values)) ≡ option_and_then (branch_at branches) (position_from (bytes_eq text) (k + 1) (map (λ (v : ValueDef). v.name) values)) →
        option_and_then (λ (c : Case). c.branch) (cond b (Some (record { name = v.name; branch = branch_at branches k })) (find (λ (c : Case). bytes_eq c.name text) (cases_from branches (k + 1) values))) ≡ option_and_then (branch_at branches) (cond b (Some k) (position_from (bytes_eq text) (k + 1) (map (λ (v : ValueDef). v.name) values)))
    by_case true h = refl
    by_case false h = h

case-at : (branches : List Branch) (text : List ℕ) (values : List ValueDef) →
    option_and_then (λ (c : Case). c.branch) (find (λ (c : Case). bytes_eq c.name text) (cases_from branches 0 values)) ≡ option_and_then (branch_at branches) (place_of (map (λ (v : ValueDef). v.name) values) text)
case-at branches text values = case-from branches text 0 values ∙ ap (option_and_then (branch_at branches)) (sym (from-zero (bytes_eq text) (map (λ (v : ValueDef). v.name) values)))

-- what is chosen where the tag, its text and the position of that value are known
pub chosen-at : (table : List Kind) (given : List Member) (t : ℕ) (kind : Kind) (m : MemberDef) (text : List ℕ) (p : Option ℕ) → kind ≡ kind_of table t → tag_member kind ≡ Some m → text_in given m.name ≡ Some text →
    p ≡ place_of (value_names (kind_of table m.type_id)) text → chosen table given t ≡ option_and_then (branch_at (branches_of kind)) p
chosen-at table given t kind m text p k tag is e =
    ap (λ (kind : Kind). option_and_then (λ (tag : Tag). option_and_then (λ text. branch_for text tag) (text_in given tag.name)) (tag_of table kind)) (sym k)
    ∙ ap (λ (o : Option MemberDef). option_and_then (λ (tag : Tag). option_and_then (λ text. branch_for text tag) (text_in given tag.name)) (option_map (λ (m : MemberDef). record { name = m.name; cases = cases_from (branches_of kind) 0 (values_at table o) }) o)) tag
    ∙ ap (option_and_then (λ text. branch_for text (record { name = m.name; cases = cases_from (branches_of kind) 0 (values_of (kind_of table m.type_id)) }))) is
    ∙ case-at (branches_of kind) text (values_of (kind_of table m.type_id))
    ∙ ap (option_and_then (branch_at (branches_of kind))) (sym e)
