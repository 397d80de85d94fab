-- The rules of names, in their order (QAPI code generation guide, "Naming rules and reserved names",
-- "Commands"; the order is this project's own). What is told after bad names is a name, so it has no star.
use Rattle.std.specs.Prelude.{ℕ, Bool, true, false, not, ◌&&◌, cond, List, [], ◌∷◌, map, Option, Some, None}
use Rattle.qapi_define.specs.declared.definition.{Definition.Definition, Sort.Sort}
use Rattle.qapi_define.specs.declared.definition.Sort.TheVariants as sort
use Rattle.qapi_rules.specs.{BadNames.bad_name, BuiltIns.is_built_in, Blames.fault, Blames.first_of, Blames.over, Clashes.clash, Clashes.taken}
use Rattle.qapi_rules.specs.declared.fault.CheckFault.{CheckFault}
use Rattle.qapi_rules.specs.declared.fault.CheckRule.TheVariants.{BadName, NoSuccessResponse, Redefined, MemberClash}

-- the definition is a command
abbrev pub is_command : Sort → Bool
is_command sort.Command = true
is_command _ = false

-- the name of a command that does not answer where it succeeds
unfoldable pub without_response : Definition → Option (List ℕ)
without_response d = cond (is_command d.sort && not d.flags.success_response) (Some d.name) None

-- the name, where it is a built-in type's or an earlier definition's
abbrev pub redefined : List Definition → Definition → Option (List ℕ)
redefined before d = cond (is_built_in d.name) (Some d.name) (taken (map (λ x. x.name) before) d.name)

-- the first fault of a definition, where these are the names that are redefined and that clash
abbrev pub faults_of : Definition → Option (List ℕ) → Option (List ℕ) → Option CheckFault
faults_of d redefined clash =
    first_of
    (fault BadName d (bad_name d) ∷ fault NoSuccessResponse d (without_response d)
    ∷ fault Redefined d redefined ∷ fault MemberClash d clash ∷ [])

-- the first fault of a definition after those before it
abbrev pub names_rules : List Definition → Definition → Option CheckFault
names_rules before d = faults_of d (redefined before d) (clash d)

-- the first fault of names, over definitions in reading order
abbrev pub names_pass : List Definition → Option CheckFault
names_pass definitions = over names_rules [] definitions
