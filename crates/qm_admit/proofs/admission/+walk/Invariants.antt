use Rattle.std.proofs.Common.{◌≡◌, ◌<◌, ◌-◌, [], drop, map, length, IfSome}
use Rattle.qm_admit.specs.Misfits.{inner_of, items_misfit, members_misfit, types_misfit, choices_from}
use Rattle.qapi_types.specs.Types.{kind_of, member_names}
use Rattle.std.specs.List.{All}
use Rattle.qm_admit.specs.declared.members.Block.{Block}
use Rattle.qm_admit.specs.Blocks.{ArePlaced}
use Rattle.qm_admit.specs.Walks.{inners, chosen_types, item_list_misfit}
use Rattle.qm_admit.proofs.admission.+walk.Given as goal

abbrev pub invariant-walk_items-loop-i : goal.invariant-walk_items-loop-i
invariant-walk_items-loop-i l = (l.path ≡ []) × (item_list_misfit l.schema.kinds l.element l.items ≡ items_misfit l.element l.i (drop l.i (map (inner_of l.schema.kinds) l.items)))

abbrev pub invariant-walk_members-loop-i : goal.invariant-walk_members-loop-i
invariant-walk_members-loop-i l = (l.path ≡ []) × All (λ (b : Block). ArePlaced l.given (member_names (kind_of l.schema.kinds l.type_id)) b.start b.places) l.blocks × (members_misfit (inners l.schema.kinds l.given) l.type_id 0 l.members ≡ members_misfit (inners l.schema.kinds l.given) l.type_id l.i (drop l.i l.members))

abbrev pub invariant-walk_choices-loop-turn : goal.invariant-walk_choices-loop-turn
invariant-walk_choices-loop-turn l = (l.path ≡ []) × IfSome l.next (λ t. t < length l.schema.kinds) × (types_misfit l.schema.kinds (inners l.schema.kinds l.given) (chosen_types l.schema.kinds l.given l.type_id) ≡ types_misfit l.schema.kinds (inners l.schema.kinds l.given) (choices_from (length l.schema.kinds - l.turn) l.schema.kinds (inners l.schema.kinds l.given) l.next))
