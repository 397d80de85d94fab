-- The enum that a line of bases gives.
use Rattle.std.proofs.Common.{◌≡◌, ◌<◌, ◌≤◌, ◌+◌, ◌-◌, ℕ, zero, suc, List, [], ◌∷◌, ◌++◌, length, Option, Some, None, refl, sym, ap, ◌∙◌, arith}
use Rattle.std.specs.{List.flat_map, Option.option_or}
use Rattle.std.proofs.lemmas.{Grind.flat_map-append, List.append-nil}
use Rattle.qapi_define.specs.declared.definition.{Definition.Definition, Member.Member}
use Rattle.qapi_define.specs.Saying.{base_members_of, first_some}
use Rattle.qapi_rules.specs.{Meanings.Entity, References.base_definition, References.enum_in_line, References.enum_of_branches, References.enum_of_member, References.line_from, References.members_in_line, References.own_members}

or-assoc : {A : Type 0} (o p q : Option A) → option_or o (option_or p q) ≡ option_or (option_or o p) q
or-assoc None p q = refl
or-assoc (Some x) p q = refl

pub first_some_append : {A B : Type 0} (f : A → Option B) (xs ys : List A) → first_some f (xs ++ ys) ≡ option_or (first_some f xs) (first_some f ys)
first_some_append f [] ys = refl
first_some_append f (x ∷ xs) ys = ap (λ o. option_or (f x) o) (first_some_append f xs ys) ∙ or-assoc (f x) (first_some f xs) (first_some f ys)

-- the members of a definition come after those of its bases
in-line : (n : ℕ) (defs : List Definition) (name : List ℕ) (d : Definition) → enum_in_line (suc n) defs name (Some d) ≡ option_or (enum_in_line n defs name (base_definition defs d)) (first_some (enum_of_member defs name) (own_members d))
in-line n defs name d =
    ap (first_some (enum_of_member defs name)) (flat_map-append own_members (line_from n defs (base_definition defs d)) (d ∷ []))
    ∙ first_some_append (enum_of_member defs name) (flat_map own_members (line_from n defs (base_definition defs d))) (own_members d ++ [])
    ∙ ap (λ (ms : List Member). option_or (enum_in_line n defs name (base_definition defs d)) (first_some (enum_of_member defs name) ms)) (append-nil (own_members d))

pub enum_step : (n turn end : ℕ) (defs : List Definition) (name : List ℕ) (d : Definition) (next base : Option Definition) (written : List Member) (here found after whole : Option Entity) → turn < end → end ≡ n → next ≡ Some d → written ≡ own_members d → here ≡ first_some (enum_of_member defs name) written → after ≡ option_or here found → base ≡ base_definition defs d → option_or (enum_in_line (n - turn) defs name next) found ≡ whole → option_or (enum_in_line (n - (turn + 1)) defs name base) after ≡ whole
enum_step n turn end defs name d next base written here found after whole l f e w t a b h =
    ap (λ (o : Option Definition). option_or (enum_in_line (n - (turn + 1)) defs name o) after) b
    ∙ ap (option_or (enum_in_line (n - (turn + 1)) defs name (base_definition defs d))) (a ∙ ap (λ (o : Option Entity). option_or o found) (t ∙ ap (first_some (enum_of_member defs name)) w))
    ∙ or-assoc (enum_in_line (n - (turn + 1)) defs name (base_definition defs d)) (first_some (enum_of_member defs name) (own_members d)) found
    ∙ ap (λ (o : Option Entity). option_or o found) (sym (in-line (n - (turn + 1)) defs name d) ∙ ap (λ (m : ℕ). enum_in_line m defs name (Some d)) (sym less))
    ∙ ap (λ (o : Option Definition). option_or (enum_in_line (n - turn) defs name o) found) (sym e) ∙ h
  where
    less : n - turn ≡ suc (n - (turn + 1))
    less = omega (arith, l, f)

pub enum_none : (n : ℕ) (defs : List Definition) (name : List ℕ) (next : Option Definition) (found whole : Option Entity) → next ≡ None → option_or (enum_in_line n defs name next) found ≡ whole → found ≡ whole
enum_none zero defs name next found whole e h = h
enum_none (suc n) defs name next found whole e h = ap (λ (o : Option Definition). option_or (enum_in_line (suc n) defs name o) found) (sym e) ∙ h

pub enum_end : (n turn : ℕ) (defs : List Definition) (name : List ℕ) (next : Option Definition) (found whole : Option Entity) → n ≤ turn → option_or (enum_in_line (n - turn) defs name next) found ≡ whole → found ≡ whole
enum_end n turn defs name next found whole l h = ap (λ (m : ℕ). option_or (enum_in_line m defs name next) found) (sym none) ∙ h
  where
    none : n - turn ≡ 0
    none = omega arith

-- the enum of the members that are written out, or else of the line of the base
pub enums_joined : (defs : List Definition) (d : Definition) (name : List ℕ) (written : List Member) (base : Option Definition) (first second all : Option Entity) → written ≡ base_members_of d → first ≡ first_some (enum_of_member defs name) written → base ≡ base_definition defs d → second ≡ enum_in_line (length defs) defs name base → all ≡ option_or first second → all ≡ enum_of_branches defs d name
enums_joined defs d name written base first second all w f b s a =
    a ∙ ap (λ (o : Option Entity). option_or o second) (f ∙ ap (first_some (enum_of_member defs name)) w)
    ∙ ap (option_or (first_some (enum_of_member defs name) (base_members_of d))) (s ∙ ap (enum_in_line (length defs) defs name) b)
    ∙ sym (first_some_append (enum_of_member defs name) (base_members_of d) (members_in_line (length defs) defs (base_definition defs d)))
