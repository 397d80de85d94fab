-- What a mode allows (QMP specification, "Capabilities Negotiation"; the bound is this project's own rule).
use Rattle.std.specs.Prelude.{ℕ, Bool, true, false}
use Rattle.qm_caps.specs.declared.mode.Mode.{Mode, TheVariants.Negotiating, TheVariants.Command, TheVariants.CommandOob}

-- how many in-band requests of a session may wait or run at a time
abbrev pub bound_of : Mode → ℕ
bound_of Negotiating = 1
bound_of Command = 1
bound_of CommandOob = 8

-- a request may ask to be run out of band
abbrev pub may_be_out_of_band : Mode → Bool
may_be_out_of_band CommandOob = true
may_be_out_of_band _ = false

-- only `qmp_capabilities` is answered
abbrev pub is_negotiating : Mode → Bool
is_negotiating Negotiating = true
is_negotiating _ = false
