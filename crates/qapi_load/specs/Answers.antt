-- The answer about a schema's files (this project's own rule).
use Rattle.std.specs.Prelude.{◌≡◌, ℕ, List, Option, Some, Result}
use Rattle.qapi_load.specs.{Causes.IsAnswer, Files.NamedText, Loading.sources_of, declared.fault.LoadFault.LoadFault, declared.source.Source.Source}

-- there are files of which this is the answer; where the library tells its files, they are these
pub record AnswersFrom (tells : Option (List NamedText)) (main : List ℕ) (result : Result (List Source) LoadFault) : Type 0 where
  pub files : List NamedText
  pub told : (told : List NamedText) → tells ≡ Some told → files ≡ told
  pub answer : IsAnswer result → result ≡ sources_of files main
