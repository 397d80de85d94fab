use Rattle.std.proofs.Common.{◌≡◌, ◌++◌, take}
use Rattle.qm_script.specs.Fed.{fed_inputs_of}
use Rattle.qm_script.proofs.feeder.Feeder.fed.Given as goal

abbrev pub invariant-loop-byte : goal.invariant-loop-byte
invariant-loop-byte l = (l.inputs.items ≡ fed_inputs_of l.framer.given) × (l.framer.given ≡ l.fn.self ++ take l.byte-index l.bytes)
