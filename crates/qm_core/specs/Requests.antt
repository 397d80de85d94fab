-- The entries of one request, and those of one session (this project's own rule).
use Rattle.std.specs.Prelude.{ℕ, ◌==◌, Bool, false, ◌&&◌}
use Rattle.std.specs.Option.{option_and_then, option_map_or}
use Rattle.qapi_types.specs.Lookups.{place_of, command_names}
use Rattle.qm_core.specs.{Inputs.command_of, Verdicts.allows_out_of_band, declared.inputs.Input.Input, declared.world.World.World}
use Rattle.qm_core.specs.declared.entries.Entry.{Entry, TheVariants.Admit, TheVariants.Start, TheVariants.Done, TheVariants.OobDone}

-- the entry admits the request of this number
abbrev pub admits_request : ℕ → ℕ → Entry → Bool
admits_request s k (Admit t j lane input) = t == s && j == k
admits_request s k _ = false

-- the entry replies to it
abbrev pub replies_to : ℕ → ℕ → Entry → Bool
replies_to s k (Done t j plan reply moment) = t == s && j == k
replies_to s k (OobDone t j plan reply moment) = t == s && j == k
replies_to s k _ = false

-- the entry starts a request of the session
abbrev pub starts : ℕ → Entry → Bool
starts s (Start t k) = t == s
starts s _ = false

-- the input names a command that may be run out of band
abbrev pub names_out_of_band : World → Input → Bool
names_out_of_band world input =
    option_map_or (allows_out_of_band world) (option_and_then (place_of (command_names world.schema)) (command_of input)) false
