-- Lists that grow by one item at their end (this project's own rule).
use Rattle.std.specs.Prelude.{List, [], ◌∷◌, ◌++◌, Option, Some, None}

-- the list of what was before and one more item; nothing was noted without one
abbrev pub noted : {T : Type 0} → Option (List T × T) → List T
noted None = []
noted (Some s) = s.0 ++ s.1 ∷ []
