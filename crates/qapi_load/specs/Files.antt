-- Texts by name (this project's own rule).
use Rattle.std.specs.Prelude.{ℕ, List, Option, option_map, find}
use Rattle.std.specs.Str.{bytes_eq}

pub record NamedText : Type 0 where
  pub name : List ℕ
  pub text : List ℕ

-- the text of a name; of several of one name the first counts
abbrev pub text_of : List ℕ → List NamedText → Option (List ℕ)
text_of name files = option_map (λ file. file.text) (find (λ file. bytes_eq file.name name) files)
