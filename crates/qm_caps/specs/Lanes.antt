-- The lane of a request (QMP specification, "Out-of-band execution").
use Rattle.std.specs.Prelude.{Bool, true, false, not, if◌then◌else◌, ◌&&◌, codes}
use Rattle.qm_json.specs.{declared.value.Json.Json, Members.has_name, Members.members_of}
use Rattle.qm_caps.specs.{Modes.may_be_out_of_band, declared.mode.Lane.Lane, declared.mode.Mode.Mode}
use Rattle.qm_caps.specs.declared.mode.Lane.TheVariants.{InBand, Oob}

abbrev pub is_in_band : Lane → Bool
is_in_band InBand = true
is_in_band Oob = false

-- the value is an object that has `exec-oob` and no `execute`
abbrev pub asks_out_of_band : Json → Bool
asks_out_of_band value = has_name (members_of value) (codes "exec-oob") && not (has_name (members_of value) (codes "execute"))

-- the lane of a value that is admitted in a mode
abbrev pub lane_of : Mode → Json → Lane
lane_of mode value = if may_be_out_of_band mode && asks_out_of_band value then Oob else InBand
