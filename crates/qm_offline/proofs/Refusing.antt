-- The answer of a run that was not loaded.
use Rattle.std.proofs.Common.{◌≡◌, ℕ, List, [], codes, Option, Some, None, unwrap_or, Result, Ok, Err, IsSome, refl, ap, sym, ◌∙◌, subst, inl}
use Rattle.qapi_load.specs.{Causes.Failures, Causes.IsCaused, Files.NamedText, Files.text_of}
use Rattle.qapi_load.specs.declared.fault.{LoadFault.LoadFault, LoadRule.LoadRule}
use Rattle.qapi_load.specs.declared.fault.LoadRule.TheVariants as load
use Rattle.qapi_rules.specs.declared.fault.{CheckFault.CheckFault, CheckRule.CheckRule}
use Rattle.qapi_rules.specs.declared.fault.CheckRule.TheVariants as check
use Rattle.qapi_types.specs.declared.parts.Parts.{Parts}
use Rattle.qapi_check.specs.Checking.{HasCause as HasSchemaCause, IsAnswer as IsSchemaAnswer, IsUnread as IsSchemaUnread, SchemaFrom}
use Rattle.qapi_check.specs.declared.loading.{SchemaFault.SchemaFault, SchemaFault.TheVariants.Load, SchemaFault.TheVariants.Check}
use Rattle.qm_bind.specs.declared.fault.{BindFault.BindFault, BindRule.BindRule}
use Rattle.qm_bind.specs.declared.fault.BindRule.TheVariants as bind
use Rattle.qm_core.specs.declared.world.World.{World}
use Rattle.qm_offline.specs.{Answers.Ran, Answers.Ends, Answers.Answers}
use Rattle.qm_offline.specs.Loading.{BoundFrom, HasCause, IsAnswer, IsLoaded, LoadedFrom, loaded_of, loaded_over, world_in}
use Rattle.qm_offline.specs.Output.{FileFault, InBind, InSchema, NoBind, bind_name, bind_over, bind_text, fault_line, file_fault_output, limits_of, output_over, refusal_output, world_output, world_over}
use Rattle.qm_offline.specs.{Refusals.bind_refusal, Refusals.check_refusal, Refusals.file_refusal, Refusals.load_refusal, Refusals.refusal_of, Words.Words, Words.names_defined}
use Rattle.qm_offline.specs.declared.{loading.Loaded.Loaded, refusal.Refusal.Refusal}
use Rattle.qm_offline.specs.declared.refusal.Refusal.TheVariants as refusal
use Rattle.qm_offline.proofs.Runs.{bind-for, done_with, ended_for_memory, files-told, named_files, named_text, outside_over, run_files, schema-over, unread}

-- a refusal that is an answer is for a fault that is one
load_answered : (fault : LoadFault) (rule : LoadRule) → fault.rule ≡ rule → IsAnswer {A = Loaded} (Err (load_refusal rule fault)) →
    IsSchemaAnswer {A = Parts} (Err (Load fault))
load_answered fault load.ReadFault is answer = absurd answer
load_answered fault load.Memory is answer = absurd answer
load_answered fault rule is answer = ((λ m. let same = sym is ∙ ap (λ (f : LoadFault). f.rule) m in cc), (λ e. let same = sym is ∙ e in cc))

check_answered : (fault : CheckFault) (rule : CheckRule) → fault.rule ≡ rule → IsAnswer {A = Loaded} (Err (check_refusal rule fault)) →
    IsSchemaAnswer {A = Parts} (Err (Check fault))
check_answered fault check.Memory is answer = absurd answer
check_answered fault rule is answer = λ m. let same = sym is ∙ ap (λ (f : CheckFault). f.rule) m in cc

schema_answered : (fault : SchemaFault) → IsAnswer {A = Loaded} (Err (refusal_of fault)) → IsSchemaAnswer {A = Parts} (Err fault)
schema_answered (Load fault) answer = load_answered fault fault.rule refl answer
schema_answered (Check fault) answer = check_answered fault fault.rule refl answer

-- words over what their schema's loading answers
abbrev over_schema : Words → List NamedText → Result Parts SchemaFault → Result Loaded Refusal
over_schema w bind_files answer = loaded_over w (world_over (bind_name w) answer (bind_text w.bind bind_files))

-- words over a schema, for a bind file of another name
abbrev over_bind : Words → Parts → List NamedText → Option (List ℕ) → Result Loaded Refusal
over_bind w parts files name = loaded_over w (bind_over parts (unwrap_or name []) (bind_text name files))

-- what loading answers, by what the schema's loading answers
pub refused_from : (tells : Option (List NamedText)) (w : Words) (fault : SchemaFault) → SchemaFrom tells w.schema (names_defined w.define) (Err fault) →
    LoadedFrom tells (Some w) (Err (refusal_of fault))
refused_from tells w fault given =
    let bind_files = run_files tells [] in
    record {
      files = given.files;
      told = given.told;
      bind_files = bind_files;
      bind_told = λ told e. files-told tells [] told e;
      answer = λ is. ap (over_schema w bind_files) (given.answer (schema_answered fault is));
    }

-- what loading answers where the schema has no fault, by what the bind file gives
pub accepted_from : (tells : Option (List NamedText)) (w : Words) (parts : Parts) (result : Result Loaded Refusal) →
    SchemaFrom tells w.schema (names_defined w.define) (Ok parts) → BoundFrom tells w parts result → LoadedFrom tells (Some w) result
accepted_from tells w parts result given bound = record {
  files = given.files;
  told = given.told;
  bind_files = bound.bind_files;
  bind_told = bound.bind_told;
  answer = λ is. bound.answer is ∙ ap (over_schema w bound.bind_files) (given.answer tt);
}

-- what the bind file gives: none is named; it was read; and nothing was answered
pub bound_alone : (tells : Option (List NamedText)) (w : Words) (parts : Parts) (result : Result Loaded Refusal) → w.bind ≡ None →
    (IsAnswer result → result ≡ loaded_over w (bind_over parts [] (Some (codes "{}")))) → BoundFrom tells w parts result
bound_alone tells w parts result none value =
    let files = run_files tells [] in
    record {
      bind_files = files;
      bind_told = λ told e. files-told tells [] told e;
      answer = λ is. value is ∙ sym (ap (over_bind w parts files) none);
    }

pub bound_read : (tells : Option (List NamedText)) (w : Words) (parts : Parts) (result : Result Loaded Refusal) (name : List ℕ) (text : Option (List ℕ)) →
    w.bind ≡ Some name → ((told : List NamedText) → tells ≡ Some told → text ≡ text_of name told) →
    (IsAnswer result → result ≡ loaded_over w (bind_over parts name text)) → BoundFrom tells w parts result
bound_read tells w parts result name text named told value =
    let files = run_files tells (named_files name text) in
    record {
      bind_files = files;
      bind_told = λ t e. files-told tells (named_files name text) t e;
      answer = λ is.
          value is
          ∙ sym (ap (λ (t : Option (List ℕ)). loaded_over w (bind_over parts name t)) (named_text tells name text told))
          ∙ sym (ap (over_bind w parts files) named);
    }

pub bound_nothing : (tells : Option (List NamedText)) (w : Words) (parts : Parts) (result : Result Loaded Refusal) → (IsAnswer result → ⊥) → BoundFrom tells w parts result
bound_nothing tells w parts result none = record { bind_files = run_files tells []; bind_told = λ told e. files-told tells [] told e; answer = λ is. absurd (none is) }

load_cause : (w : Words) (fault : LoadFault) (rule : LoadRule) (before now : Failures) → fault.rule ≡ rule → IsCaused fault before now →
    (fault.rule ≡ load.ReadFault → IsSome w.schema) → HasCause {A = Loaded} (Some w) (Err (load_refusal rule fault)) before now
load_cause w fault load.ReadFault before now is cause some =
    record { rose = cause.rose is; named = sym (ap (λ (f : LoadFault). f.file) (cause.named is)); may = inl (some is) }
load_cause w fault rule before now is cause some = cause.kept (λ e. let same = sym is ∙ e in cc)

check_cause : (w : Words) (fault : CheckFault) (rule : CheckRule) (before now : Failures) → now ≡ before →
    HasCause {A = Loaded} (Some w) (Err (check_refusal rule fault)) before now
check_cause w fault check.Memory before now kept = kept
check_cause w fault rule before now kept = kept

-- the cause of an answer, where nothing failed before
pub kept_cause : (w : Words) (result : Result Loaded Refusal) (before after now : Failures) → after ≡ before → HasCause (Some w) result after now →
    HasCause (Some w) result before now
kept_cause w result before after now same cause = subst (λ (f : Failures). HasCause (Some w) result f now) same cause

-- the same where nothing fails after
pub still_cause : (w : Words) (result : Result Loaded Refusal) (before now : Failures) → now ≡ before → HasCause (Some w) result before before →
    HasCause (Some w) result before now
still_cause w result before now same cause = subst (λ (f : Failures). HasCause (Some w) result before f) (sym same) cause

pub refused_cause : (w : Words) (fault : SchemaFault) (before now : Failures) → HasSchemaCause {A = Parts} (Err fault) before now →
    (IsSchemaUnread {A = Parts} (Err fault) → IsSome w.schema) → HasCause {A = Loaded} (Some w) (Err (refusal_of fault)) before now
refused_cause w (Load fault) before now cause some = load_cause w fault fault.rule before now refl cause some
refused_cause w (Check fault) before now cause some = check_cause w fault fault.rule before now cause

-- want of memory, and words outside the grammar
pub memory_from : (tells : Option (List NamedText)) (words : Option Words) → LoadedFrom tells words (Err refusal.Memory)
memory_from tells words = record {
  files = run_files tells [];
  told = λ told e. files-told tells [] told e;
  bind_files = run_files tells [];
  bind_told = λ told e. files-told tells [] told e;
  answer = λ is. absurd is;
}

pub words_from : (tells : Option (List NamedText)) (words : Option Words) → words ≡ None → LoadedFrom tells words (Err refusal.Words)
words_from tells words none = record {
  files = run_files tells [];
  told = λ told e. files-told tells [] told e;
  bind_files = run_files tells [];
  bind_told = λ told e. files-told tells [] told e;
  answer = λ is. sym (ap (λ (o : Option Words). loaded_of o (run_files tells []) (run_files tells [])) none);
}

-- what is loaded was asked for, and its files have no fault
over_loaded : (tells : Option (List NamedText)) (w : Words) (loaded : Loaded) (given : LoadedFrom tells (Some w) (Ok loaded)) (answer : Result World FileFault) →
    world_in w given.files given.bind_files ≡ answer → Ok loaded ≡ loaded_over w answer → IsLoaded tells (Some w) loaded
over_loaded tells w loaded given (Ok world) is value =
    let same : loaded ≡ record { command = w.command; world = world; limits = limits_of w.entries } = cc in
    record {
      asked = w;
      words_ask = refl;
      files = given.files;
      told = given.told;
      bind_files = given.bind_files;
      bind_told = given.bind_told;
      world = world;
      world_is = is;
      value = same;
    }
over_loaded tells w loaded given (Err fault) is value = absurd cc

loaded_is : (tells : Option (List NamedText)) (words : Option Words) (loaded : Loaded) → LoadedFrom tells words (Ok loaded) → IsLoaded tells words loaded
loaded_is tells None loaded given = absurd (let no = given.answer tt in cc)
loaded_is tells (Some w) loaded given = over_loaded tells w loaded given (world_in w given.files given.bind_files) refl (given.answer tt)

pub loaded_after : (before after : Option (List NamedText)) (words : Option Words) (loaded : Loaded) → after ≡ before → LoadedFrom before words (Ok loaded) →
    IsLoaded after words loaded
loaded_after before after words loaded same given =
    loaded_is after words loaded (subst (λ (t : Option (List NamedText)). LoadedFrom t words (Ok loaded)) (sym same) given)

-- what is put for a refusal is what is put for its schema's fault
load_line-is : (fault : LoadFault) (rule : LoadRule) → IsAnswer {A = Loaded} (Err (load_refusal rule fault)) →
    record { status = 3; bytes = fault_line (Load fault) } ≡ refusal_output (load_refusal rule fault)
load_line-is fault load.ReadFault answer = absurd answer
load_line-is fault load.Memory answer = absurd answer
load_line-is fault rule answer = refl

check_line-is : (fault : CheckFault) (rule : CheckRule) → IsAnswer {A = Loaded} (Err (check_refusal rule fault)) →
    record { status = 3; bytes = fault_line (Check fault) } ≡ refusal_output (check_refusal rule fault)
check_line-is fault check.Memory answer = absurd answer
check_line-is fault rule answer = refl

fault_output : (fault : SchemaFault) → IsAnswer {A = Loaded} (Err (refusal_of fault)) → record { status = 3; bytes = fault_line fault } ≡ refusal_output (refusal_of fault)
fault_output (Load fault) answer = load_line-is fault fault.rule answer
fault_output (Check fault) answer = check_line-is fault fault.rule answer

bind_line-is : (name : List ℕ) (fault : BindFault) (rule : BindRule) → IsAnswer {A = Loaded} (Err (bind_refusal rule name fault)) →
    file_fault_output (InBind name fault) ≡ refusal_output (bind_refusal rule name fault)
bind_line-is name fault bind.Memory answer = absurd answer
bind_line-is name fault rule answer = refl

-- and for a file's
file_output : (fault : FileFault) → IsAnswer {A = Loaded} (Err (file_refusal fault)) → file_fault_output fault ≡ refusal_output (file_refusal fault)
file_output (InSchema fault) answer = fault_output fault answer
file_output (NoBind name) answer = refl
file_output (InBind name fault) answer = bind_line-is name fault fault.rule answer

over_output : (w : Words) (files : List NamedText) (answer : Result World FileFault) (told : Refusal) → IsAnswer {A = Loaded} (Err told) → Err told ≡ loaded_over w answer →
    world_output w files answer ≡ refusal_output told
over_output w files (Ok world) told is value = absurd cc
over_output w files (Err fault) told is value =
    let same : told ≡ file_refusal fault = cc in
    file_output fault (subst (λ (r : Refusal). IsAnswer {A = Loaded} (Err r)) same is) ∙ ap refusal_output (sym same)

refusal_meant : (words : Option Words) (files bind_files : List NamedText) (told : Refusal) → IsAnswer {A = Loaded} (Err told) → Err told ≡ loaded_of words files bind_files →
    output_over words (outside_over words files bind_files) ≡ refusal_output told
refusal_meant None files bind_files told is value = let same : told ≡ refusal.Words = cc in ap refusal_output (sym same)
refusal_meant (Some w) files bind_files told is value = over_output w files (world_in w files bind_files) told is value

-- the words are outside the grammar, or one of their files is refused
refused : (ran : Ran) (status : ℕ) (told : Refusal) → LoadedFrom ran.files ran.words (Err told) → IsAnswer {A = Loaded} (Err told) → ran.library_now ≡ ran.library_before →
    Ends (refusal_output told).bytes (refusal_output told).status ran.sink status → Answers ran status
refused ran status told given is kept ends =
    done_with (outside_over ran.words given.files given.bind_files) ran status (refusal_output told)
    (record {
      files = given.files;
      schema = schema-over ran.words given.files;
      schema_told = given.told;
      bind_files = given.bind_files;
      bind = bind-for ran.words given.bind_files;
      bind_told = given.bind_told;
      script_told = given.told;
    })
    kept (refusal_meant ran.words given.files given.bind_files told is (given.answer is)) ends

-- nothing was loaded
pub not_loaded : (ran : Ran) (status : ℕ) (name : List ℕ) (told : Refusal) → LoadedFrom ran.files ran.words (Err told) →
    HasCause {A = Loaded} ran.words (Err told) (record { count = ran.library_before; name = name }) (record { count = ran.library_now; name = ran.failed_name }) →
    Ends (refusal_output told).bytes (refusal_output told).status ran.sink status → (status ≡ 1 → ran.sink.holds ≡ ran.sink.held) → Answers ran status
not_loaded ran status name (refusal.Library file) given cause ends nothing = unread ran status file (inl cause.may) cause.rose cause.named ends nothing
not_loaded ran status name refusal.Memory given cause ends nothing = ended_for_memory ran status ends nothing
not_loaded ran status name told given cause ends nothing = refused ran status told given tt (ap (λ (f : Failures). f.count) cause) ends
