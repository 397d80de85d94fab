use Rattle.std.proofs.Common.{◌≡◌, ◌+◌, ◌≤◌, ◌++◌, length, vec_capacity}
use Rattle.std.specs.List.{flat_map}
use Rattle.qm_throttle.specs.Steps.{ticked, sent_at}
use Rattle.qm_throttle.proofs.Ending.{ended_all, sent_all}
use Rattle.qm_throttle.proofs.endings.end_all.Given as goal

abbrev pub invariant-loop-key : goal.invariant-loop-key
invariant-loop-key l = record {
  windows : flat_map (ticked l.moment) l.fn.map.entries ≡ ended_all l.moment l.key-iterator l.map.entries;
  sent : flat_map (sent_at l.moment) l.fn.map.entries ≡ l.sent.items ++ sent_all l.moment l.key-iterator l.map.entries;
  room : length l.sent.items + length l.key-iterator ≤ vec_capacity l.sent;
}
