-- Files of which an answer is that of loading, and of checking.
use Rattle.std.proofs.Common.{◌≡◌, ◌≢◌, ℕ, List, [], Option, None, Ok, Err, ap, sym, ◌∙◌, unwrap_or}
use Rattle.qapi_load.specs.{Files.NamedText, declared.source.Source.Source}
use Rattle.qapi_rules.specs.declared.fault.CheckFault.{CheckFault}
use Rattle.qapi_types.specs.declared.parts.Parts.{Parts}
use Rattle.qapi_check.specs.Checking.{SchemaFrom, SourcesFrom, checked_sources, memory_fault, sources_from, told_check, told_load}
use Rattle.qapi_check.specs.declared.loading.SchemaFault.TheVariants as schema

-- without a main file nothing is asked for
pub without_main : (tells : Option (List NamedText)) (main : Option (List ℕ)) (sources : List Source) → main ≡ None → sources ≡ [] → SourcesFrom tells main (Ok sources)
without_main tells main sources none empty = record {
  files = unwrap_or tells [];
  told = λ told e. ap (λ (t : Option (List NamedText)). unwrap_or t []) e;
  answer = λ unit. ap (λ (s : List Source). Ok s) empty ∙ sym (ap (sources_from (unwrap_or tells [])) none);
}

module _ (tells : Option (List NamedText)) (main : Option (List ℕ)) (defines : List (List ℕ)) (sources : List Source) where
  -- a table
  pub table_from : (parts : Parts) → SourcesFrom tells main (Ok sources) → Ok parts ≡ checked_sources defines sources → SchemaFrom tells main defines (Ok parts)
  table_from parts given e = record { files = given.files; told = given.told; answer = λ unit. ap told_check e ∙ ap (told_load defines) (given.answer tt) }

  -- a fault
  pub fault_from : (fault : CheckFault) → SourcesFrom tells main (Ok sources) → (fault ≢ memory_fault → Err fault ≡ checked_sources defines sources) →
      SchemaFrom tells main defines (Err (schema.Check fault))
  fault_from fault given e = record { files = given.files; told = given.told; answer = λ real. ap told_check (e real) ∙ ap (told_load defines) (given.answer tt) }
