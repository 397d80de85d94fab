-- The definitions that stand before those of each schema (this project's own choice, written as a schema is: QAPI
-- code generation guide, "Schema syntax").
use Rattle.std.specs.Prelude.{ℕ, Bool, true, false, not, List, [], ◌∷◌, codes}
use Rattle.std.specs.{List.filter, List.list_any, Str.bytes_eq}
use Rattle.qapi_define.specs.declared.definition.{Definition.Definition, EnumValue.EnumValue, Flags.Flags, Member.Member, Part.Part, Sort.Sort, TypeName.TypeName}
use Rattle.qapi_define.specs.declared.definition.Part.TheVariants as part
use Rattle.qapi_define.specs.declared.definition.Sort.TheVariants as sorts

-- flags at their defaults, but for whether the command may be executed before the machine is configured
abbrev pub flags : Bool → Flags
flags allow_preconfig = record { boxed = false; generated = true; allow_oob = false; allow_preconfig = allow_preconfig; success_response = true }

-- a definition of no file, at line 0
abbrev pub defined : Sort → List ℕ → Bool → List Part → Definition
defined sort name allow_preconfig parts = record { file = []; line = 0; sort = sort; name = name; flags = flags allow_preconfig; parts = parts }

abbrev pub value : List ℕ → EnumValue
value name = record { name = name; features = []; features_first = false }

abbrev pub type_of_name : List ℕ → Bool → TypeName
type_of_name name is_array = record { name = name; is_array = is_array }

-- a member, with its type's name
abbrev pub member : List ℕ → List ℕ → Member
member name of = record { name = name; optional = false; of = type_of_name of false; features = [] }

-- a member that may be absent, an array of the type of the name
abbrev pub optional_array : List ℕ → List ℕ → Member
optional_array name of = record { name = name; optional = true; of = type_of_name of true; features = [] }

abbrev pub enum : List ℕ → List EnumValue → Definition
enum name values = defined sorts.Enum name false (part.Values values ∷ [])

abbrev pub struct : List ℕ → List Member → Definition
struct name members = defined sorts.Struct name false (part.Members members ∷ [])

abbrev pub event : List ℕ → List Member → Definition
event name members = defined sorts.Event name false (part.Members members ∷ [])

-- a command that takes members and returns nothing
abbrev pub takes : List ℕ → Bool → List Member → Definition
takes name allow_preconfig members = defined sorts.Command name allow_preconfig (part.Members members ∷ [])

-- a command that takes nothing
abbrev pub returns : List ℕ → Bool → List ℕ → Bool → Definition
returns name allow_preconfig of is_array = defined sorts.Command name allow_preconfig (part.Returns (type_of_name of is_array) ∷ [])

abbrev pub capability : Definition
capability = enum (codes "QMPCapability") (value (codes "oob") ∷ [])

abbrev pub qmp_capabilities : Definition
qmp_capabilities = takes (codes "qmp_capabilities") true (optional_array (codes "enable") (codes "QMPCapability") ∷ [])

abbrev pub version_triple : Definition
version_triple = struct (codes "VersionTriple")
    (member (codes "micro") (codes "int") ∷ member (codes "minor") (codes "int") ∷ member (codes "major") (codes "int") ∷ [])

abbrev pub version_info : Definition
version_info = struct (codes "VersionInfo") (member (codes "qemu") (codes "VersionTriple") ∷ member (codes "package") (codes "str") ∷ [])

abbrev pub query_version : Definition
query_version = returns (codes "query-version") true (codes "VersionInfo") false

abbrev pub command_info : Definition
command_info = struct (codes "CommandInfo") (member (codes "name") (codes "str") ∷ [])

abbrev pub query_commands : Definition
query_commands = returns (codes "query-commands") true (codes "CommandInfo") true

abbrev pub query_qmp_schema : Definition
query_qmp_schema = returns (codes "query-qmp-schema") true (codes "any") true

abbrev pub job_status : Definition
job_status = enum (codes "JobStatus")
    (value (codes "undefined") ∷ value (codes "created") ∷ value (codes "running") ∷ value (codes "paused") ∷ value (codes "ready")
    ∷ value (codes "standby") ∷ value (codes "waiting") ∷ value (codes "pending") ∷ value (codes "aborting")
    ∷ value (codes "concluded") ∷ value (codes "null") ∷ [])

abbrev pub job_info : Definition
job_info = struct (codes "JobInfo")
    (member (codes "id") (codes "str") ∷ member (codes "status") (codes "JobStatus")
    ∷ member (codes "current-progress") (codes "int") ∷ member (codes "total-progress") (codes "int") ∷ [])

abbrev pub query_jobs : Definition
query_jobs = returns (codes "query-jobs") false (codes "JobInfo") true

-- a command on the job of an id
abbrev pub job_command : List ℕ → Definition
job_command name = takes name false (member (codes "id") (codes "str") ∷ [])

abbrev pub quit : Definition
quit = defined sorts.Command (codes "quit") true []

abbrev pub job_status_change : Definition
job_status_change = event (codes "JOB_STATUS_CHANGE") (member (codes "id") (codes "str") ∷ member (codes "status") (codes "JobStatus") ∷ [])

-- the definitions in their order
abbrev pub prelude : List Definition
prelude =
    capability ∷ qmp_capabilities ∷ version_triple ∷ version_info ∷ query_version ∷ command_info ∷ query_commands
    ∷ query_qmp_schema ∷ job_status ∷ job_info ∷ query_jobs
    ∷ job_command (codes "job-cancel") ∷ job_command (codes "job-pause") ∷ job_command (codes "job-resume")
    ∷ job_command (codes "job-complete") ∷ job_command (codes "job-finalize") ∷ job_command (codes "job-dismiss")
    ∷ quit ∷ job_status_change ∷ []

-- a definition of the prelude has the name
abbrev pub is_prelude_name : List ℕ → Bool
is_prelude_name name = list_any (λ (d : Definition). bytes_eq d.name name) prelude

-- the definitions whose names are no names of the prelude
abbrev pub without_prelude_names : List Definition → List Definition
without_prelude_names definitions = filter (λ d. not (is_prelude_name d.name)) definitions
