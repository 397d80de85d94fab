use Rattle.std.proofs.Common.{◌-◌, ◌∙◌, ap, sym, refl, arith, length, Option, ℕ}
use Rattle.qapi_types.specs.Types.{members_of, kind_of}
use Rattle.qm_json.specs.declared.value.Json.{out-Json}
use Rattle.qm_json.specs.declared.value.Json.TheOpen as layer
use Rattle.qm_json.specs.declared.value.Json.TheViews.{outs-Null, outs-Bool, outs-Int, outs-Num, outs-Str}
use Rattle.qm_admit.specs.Misfits.{members_misfit, types_misfit, choices_from}
use Rattle.qm_admit.specs.Walks.{asked, inners, chosen_types, item_list_misfit}
use Rattle.qm_admit.proofs.Steps.{no-way, walked-some, value-once, value-array, value-object, array-walked, array-other, object-other, object-stops, object-walked, item-passes, item-stops, member-passes, member-stops, choice-passes, choice-stops}
use Rattle.qm_admit.proofs.BlockLaws.{own-place}
use Rattle.qm_admit.proofs.admission.+walk.Goals as goal

pub walked-returns-in-Some : goal.walked-returns-in-Some
walked-returns-in-Some t c = walked-some c.args.schema.now.kinds c.args.type_id c.args.value.now c.sort_of.result c.in-Some.found c.sort_of.ensures (sym c.alternative.ensures.value ∙ c.in-Some.is) c.walk_value.ensures

pub walk_value-returns-in-Null : goal.walk_value-returns-in-Null
unfolding asked
walk_value-returns-in-Null t c = value-once c.args.schema.now.kinds c.args.type_id c.kind-kind.result.now c.args.value.now layer.Json-F.Null c.null_fault.result c.kind-kind.ensures (ap out-Json c.in-Null.is ∙ outs-Null) (c.null_fault.ensures c.args.schema.now.kinds c.args.type_id) c.requires.path

pub walk_value-returns-in-Bool : goal.walk_value-returns-in-Bool
unfolding asked
walk_value-returns-in-Bool t c = value-once c.args.schema.now.kinds c.args.type_id c.kind-kind.result.now c.args.value.now (layer.Json-F.Bool c.in-Bool.b) c.bool_fault.result c.kind-kind.ensures (ap out-Json c.in-Bool.is ∙ outs-Bool c.in-Bool.b) (c.bool_fault.ensures c.args.schema.now.kinds c.args.type_id) c.requires.path

pub walk_value-returns-in-Int : goal.walk_value-returns-in-Int
unfolding asked
walk_value-returns-in-Int t c = value-once c.args.schema.now.kinds c.args.type_id c.kind-kind.result.now c.args.value.now (layer.Json-F.Int c.in-Int.n) c.int_fault.result c.kind-kind.ensures (ap out-Json c.in-Int.is ∙ outs-Int c.in-Int.n) (c.int_fault.ensures c.args.schema.now.kinds c.args.type_id) c.requires.path

pub walk_value-returns-in-Num : goal.walk_value-returns-in-Num
unfolding asked
walk_value-returns-in-Num t c = value-once c.args.schema.now.kinds c.args.type_id c.kind-kind.result.now c.args.value.now (layer.Json-F.Num c.as_slice.result.now) c.num_fault.result c.kind-kind.ensures (ap out-Json c.in-Num.is ∙ outs-Num c.in-Num.text ∙ ap layer.Json-F.Num (sym c.as_slice.ensures)) (c.num_fault.ensures c.args.schema.now.kinds c.args.type_id) c.requires.path

pub walk_value-returns-in-Str : goal.walk_value-returns-in-Str
unfolding asked
walk_value-returns-in-Str t c = value-once c.args.schema.now.kinds c.args.type_id (kind_of c.args.schema.now.kinds c.args.type_id) c.args.value.now (layer.Json-F.Str c.as_slice-in-Str.result.now) c.text_fault.result refl (ap out-Json c.in-Str.is ∙ outs-Str c.in-Str.text ∙ ap layer.Json-F.Str (sym c.as_slice-in-Str.ensures)) c.text_fault.ensures c.requires.path

pub walk_value-returns-in-Arr : goal.walk_value-returns-in-Arr
walk_value-returns-in-Arr t c = value-array c.args.schema.now.kinds c.args.type_id c.args.value.now c.in-Arr.items c.as_slice-in-Arr.result.now c.in-Arr.is c.as_slice-in-Arr.ensures c.walk_array.ensures

pub walk_value-returns-in-Obj : goal.walk_value-returns-in-Obj
walk_value-returns-in-Obj t c = value-object c.args.schema.now.kinds c.args.type_id c.args.value.now c.in-Obj.given c.as_slice-in-Obj.result.now c.in-Obj.is c.as_slice-in-Obj.ensures c.walk_object.ensures

pub walk_array-returns-in-None : goal.walk_array-returns-in-None
walk_array-returns-in-None t c = array-other c.args.schema.now.kinds c.args.type_id c.args.items.now c.kind.result.now c.other_fault.result c.in-None.ensures.none c.kind.ensures c.other_fault.ensures c.requires.path

pub walk_array-returns-in-Some : goal.walk_array-returns-in-Some
walk_array-returns-in-Some t c = array-walked c.args.schema.now.kinds c.args.type_id c.in-Some.element c.args.items.now c.in-Some.ensures.some.0 c.walk_items.ensures

pub walk_items-returns-in-Some : goal.walk_items-returns-in-Some
walk_items-returns-in-Some t c = item-stops c.args.schema.now.kinds c.args.element c.loop-i.i c.args.items.now c.index-items-i.result (item_list_misfit c.args.schema.now.kinds c.args.element c.args.items.now) c.loop-i-test.true c.index-items-i.is c.loop-i.invariant.1 c.in-Some.ensures c.prepend.ensures

pub walk_items-loop-i-preserved : goal.walk_items-loop-i-preserved
walk_items-loop-i-preserved t c = (no-way c.in-None.ensures, item-passes c.args.schema.now.kinds c.args.element c.loop-i.i c.args.items.now c.index-items-i.result (item_list_misfit c.args.schema.now.kinds c.args.element c.args.items.now) c.loop-i-test.true c.index-items-i.is c.loop-i.invariant.1 c.in-None.ensures)

pub walk_members-returns-in-Some : goal.walk_members-returns-in-Some
walk_members-returns-in-Some t c = member-stops c.args.schema.now.kinds c.args.given.now c.args.type_id c.loop-i.i c.args.members.now c.index-members-i.result c.place_at-found.result (members_misfit (inners c.args.schema.now.kinds c.args.given.now) c.args.type_id 0 c.args.members.now) c.loop-i-test.true c.index-members-i.is (own-place c.args.given.now c.args.members.now (members_of (kind_of c.args.schema.now.kinds c.args.type_id)) c.loop-i.i c.index-members-i.result c.place_at-found.result c.requires.members c.loop-i-test.true c.index-members-i.is c.place_at-found.ensures.value) c.loop-i.invariant.2 c.in-Some.ensures

pub walk_members-loop-i-preserved : goal.walk_members-loop-i-preserved
walk_members-loop-i-preserved t c = (no-way c.in-None.ensures, c.place_at-found.ensures.placed, member-passes c.args.schema.now.kinds c.args.given.now c.args.type_id c.loop-i.i c.args.members.now c.index-members-i.result c.place_at-found.result (members_misfit (inners c.args.schema.now.kinds c.args.given.now) c.args.type_id 0 c.args.members.now) c.loop-i-test.true c.index-members-i.is (own-place c.args.given.now c.args.members.now (members_of (kind_of c.args.schema.now.kinds c.args.type_id)) c.loop-i.i c.index-members-i.result c.place_at-found.result c.requires.members c.loop-i-test.true c.index-members-i.is c.place_at-found.ensures.value) c.loop-i.invariant.2 c.in-None.ensures)

pub walk_choices-returns-in-Some-walk_own : goal.walk_choices-returns-in-Some-walk_own
walk_choices-returns-in-Some-walk_own t c =
    choice-stops c.args.schema.now.kinds c.args.given.now (length c.args.schema.now.kinds) c.loop-turn.turn c.in-Some.own (types_misfit c.args.schema.now.kinds (inners c.args.schema.now.kinds c.args.given.now) (chosen_types c.args.schema.now.kinds c.args.given.now c.args.type_id)) (omega arith)
    (c.loop-turn.invariant.2 ∙ ap (λ (o : Option ℕ). types_misfit c.args.schema.now.kinds (inners c.args.schema.now.kinds c.args.given.now) (choices_from (length c.args.schema.now.kinds - c.loop-turn.turn) c.args.schema.now.kinds (inners c.args.schema.now.kinds c.args.given.now) o)) c.in-Some.is)
    c.in-Some-walk_own.ensures

pub walk_choices-loop-turn-preserved : goal.walk_choices-loop-turn-preserved
walk_choices-loop-turn-preserved t c = (
  no-way c.in-None-walk_own.ensures,
  c.chosen-next.ensures.within,
  choice-passes c.args.schema.now.kinds c.args.given.now (length c.args.schema.now.kinds) c.loop-turn.turn c.in-Some.own c.chosen-next.result (types_misfit c.args.schema.now.kinds (inners c.args.schema.now.kinds c.args.given.now) (chosen_types c.args.schema.now.kinds c.args.given.now c.args.type_id)) (omega arith) c.chosen-next.ensures.value
      (c.loop-turn.invariant.2 ∙ ap (λ (o : Option ℕ). types_misfit c.args.schema.now.kinds (inners c.args.schema.now.kinds c.args.given.now) (choices_from (length c.args.schema.now.kinds - c.loop-turn.turn) c.args.schema.now.kinds (inners c.args.schema.now.kinds c.args.given.now) o)) c.in-Some.is)
      c.in-None-walk_own.ensures,
)

pub walk_object-returns-then-not-is_object : goal.walk_object-returns-then-not-is_object
walk_object-returns-then-not-is_object t c = object-other c.args.schema.now.kinds c.args.type_id c.args.given.now c.kind.result.now c.other_fault.result (sym c.is_object.ensures ∙ grind (arith, c.if-not-is_object.true)) c.kind.ensures c.other_fault.ensures c.requires.path

pub walk_object-returns-in-None : goal.walk_object-returns-in-None
walk_object-returns-in-None t c = object-walked c.args.schema.now.kinds c.args.type_id c.args.given.now (sym c.is_object.ensures ∙ grind (arith, c.if-not-is_object.false)) c.in-None.ensures c.unexpected.ensures

pub walk_object-returns-in-Some : goal.walk_object-returns-in-Some
walk_object-returns-in-Some t c = object-stops c.args.schema.now.kinds c.args.type_id c.args.given.now (sym c.is_object.ensures ∙ grind (arith, c.if-not-is_object.false)) c.in-Some.ensures
