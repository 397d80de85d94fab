-- The greeting of a session (QMP specification, "Server Greeting"); the numbers and the package of
-- the version are this project's own rule.
use Rattle.std.specs.Prelude.{List, [], ◌∷◌, ℕ, pos, codes}
use Rattle.qm_json.specs.declared.value.{Json.Json, Json.TheVariants.Int, Json.TheVariants.Str, Json.TheVariants.Arr, Json.TheVariants.Obj, Member.Member}

abbrev pub named : List ℕ → Json → Member
named name value = record { name = name; value = value }

-- the version of the server
abbrev pub version_value : Json
version_value = Obj
    (named (codes "qemu") (Obj
    (named (codes "micro") (Int (pos 0))
    ∷ named (codes "minor") (Int (pos 0))
    ∷ named (codes "major") (Int (pos 1)) ∷ []))
    ∷ named (codes "package") (Str (codes "qmpd")) ∷ [])

-- the greeting: the version and the capabilities on offer
abbrev pub greeting_value : Json
greeting_value = Obj
    (named (codes "QMP") (Obj
    (named (codes "version") version_value
    ∷ named (codes "capabilities") (Arr (Str (codes "oob") ∷ [])) ∷ []))
    ∷ [])
