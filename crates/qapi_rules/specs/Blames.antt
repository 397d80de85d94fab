-- Faults of definitions, and the first of several.
use Rattle.std.specs.Prelude.{ℕ, List, [], ◌∷◌, ◌++◌, Option, Some, None}
use Rattle.std.specs.Option.{option_or}
use Rattle.qapi_define.specs.declared.definition.Definition.{Definition}
use Rattle.qapi_rules.specs.declared.fault.{Blame.Blame, CheckFault.CheckFault, CheckRule.CheckRule}

abbrev pub told : Blame → CheckFault
told b = record { rule = b.rule; file = b.file.now; line = b.line; name = b.name.now }

-- the fault of a definition by the rule, where there is a name at fault
abbrev pub fault : CheckRule → Definition → Option (List ℕ) → Option CheckFault
fault rule d None = None
fault rule d (Some name) = Some record { rule = rule; file = d.file; line = d.line; name = name }

-- the first answer of a row
abbrev pub first_of : {A : Type 0} → List (Option A) → Option A
first_of [] = None
first_of (o ∷ os) = option_or o (first_of os)

-- the first answer over things in order, each with those before it
abbrev pub over : {A D : Type 0} → (List D → D → Option A) → List D → List D → Option A
over rule before [] = None
over rule before (d ∷ ds) = option_or (rule before d) (over rule (before ++ d ∷ []) ds)
