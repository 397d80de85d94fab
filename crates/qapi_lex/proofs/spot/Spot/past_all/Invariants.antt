use Rattle.std.proofs.Common.{◌≡◌, drop}
use Rattle.qapi_lex.specs.Spots.{after_bytes}
use Rattle.qapi_lex.proofs.spot.Spot.past_all.Given as goal

abbrev pub invariant-loop-byte : goal.invariant-loop-byte
invariant-loop-byte l = after_bytes l.spot (drop l.byte-index l.bytes) ≡ after_bytes l.fn.self l.bytes
