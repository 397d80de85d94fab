use Rattle.std.proofs.Common.{[], slice_index_or}
use Rattle.qapi_types.specs.Types.{kind_of, member_names}
use Rattle.qm_admit.proofs.BlockLaws.{place-within}
use Rattle.qm_admit.proofs.members.place_at.Goals as goal

pub returns-then-is_empty-clause-within : goal.returns-then-is_empty-clause-within
returns-then-is_empty-clause-within c = place-within c.args.given.now c.as_slice-name.result.now c.place_of_name.result c.place_of_name.ensures

pub returns-clause-within : goal.returns-clause-within
returns-clause-within c = place-within c.args.given.now (slice_index_or (member_names (kind_of c.args.schema.now.kinds c.args.type_id)) c.args.position []) c.place_in_block.result c.place_in_block.ensures.value
