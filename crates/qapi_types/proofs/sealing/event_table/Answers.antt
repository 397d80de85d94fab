use Rattle.std.proofs.Common.{map, ap, ◌∙◌}
use Rattle.qapi_types.specs.declared.parts.EventDef.{EventDef}
use Rattle.qapi_types.proofs.SealLaws.{event_names_apart}
use Rattle.qapi_types.proofs.sealing.event_table.Goals as goal

pub table_of-requires-clause-apart : goal.table_of-requires-clause-apart
table_of-requires-clause-apart c = event_names_apart c.args.parts.now _ (ap (map (λ k. k.now)) c.as_slice-2.ensures ∙ c.in_ok-names.ensures ∙ ap (map (λ (x : EventDef). x.name)) c.as_slice.ensures) c.requires
