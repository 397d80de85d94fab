-- Names of the members of an object that is open (this project's own rule). This serves private functions.
use Rattle.std.specs.Prelude.{ℕ, List, Option, Some, None}
use Rattle.qm_base.specs.Names as table
use Rattle.qm_json.specs.declared.value.Member.{Member}

-- a table, if there is one, has the names of the members
abbrev pub AreNamesOf : Option (List (List ℕ)) → List Member → Type 0
AreNamesOf None members = Unit {0}
AreNamesOf (Some names) members = table.AreNamesOf (λ m. m.name) names members
