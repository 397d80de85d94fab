use Rattle.std.proofs.Common.{◌≡◌, drop}
use Rattle.qapi_tree.specs.Reading.{on, run, whole, last_line, objects_of}
use Rattle.qapi_tree.proofs.parsing.objects.Given as goal

-- what is left, from what was read, is the whole from the beginning
abbrev pub invariant-loop-token : goal.invariant-loop-token
invariant-loop-token l = on (run l.parser (drop l.token-index l.token-items)) (λ s. whole s.stack (last_line l.line (drop l.token-index l.token-items))) ≡ objects_of l.tokens
