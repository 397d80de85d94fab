use Rattle.qapi_types.proofs.SealLaws.{namable}
use Rattle.qapi_types.proofs.sealing.tables_of.Goals as goal

pub kind_tables-requires : goal.kind_tables-requires
kind_tables-requires c = namable c.args.parts.now c.as_slice.result.now c.as_slice.ensures c.requires
