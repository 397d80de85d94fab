use Rattle.std.proofs.Common.{◌≡◌}
use Rattle.history_cases.proofs.history_rows.journal_of.Given as goal

-- the journal has its places
abbrev pub invariant-loop-entry : goal.invariant-loop-entry
invariant-loop-entry l =
    (goal.iterator-loop-entry).can_next l.entry-iterator ×
    (goal.iterator-loop-entry).is_finite l.entry-iterator ×
    (l.journal.places ≡ l.places)
