use Rattle.std.proofs.Common.{◌-◌, ◌∙◌, sym, ap, refl, replicate, arith, List, ℕ, Option, None}
use Rattle.std.proofs.lemmas.List.{get_or-replicate}
use Rattle.qm_json.specs.declared.value.Member.{Member}
use Rattle.qapi_types.specs.Lookups.{place_of}
use Rattle.qapi_types.specs.Types.{kind_of, member_names}
use Rattle.qm_admit.specs.Blocks.{slot_of}
use Rattle.qm_admit.proofs.BlockLaws.{names-apart, none-kept, note-keeps, noted-long}
use Rattle.qm_admit.proofs.members.block_of.Goals as goal

pub loop-i-init : goal.loop-i-init
loop-i-init c = (omega arith, refl, none-kept c.args.given.now (member_names (kind_of c.args.schema.now.kinds c.args.type_id)) c.args.start (replicate 256 None) (λ k l. get_or-replicate {A = Option ℕ} 256 k None None l))

pub loop-i-preserved : goal.loop-i-preserved
loop-i-preserved c = (
  omega arith,
  noted-long c.loop-i.places c.note.new.places c.slot-found.result (c.loop-i.i - 1) c.loop-i.invariant.1 c.note.ensures,
  note-keeps c.args.given.now (member_names (kind_of c.args.schema.now.kinds c.args.type_id)) c.args.start c.loop-i.i (c.loop-i.i - 1) c.index-given-i.result c.slot-found.result c.loop-i.places c.note.new.places (names-apart c.args.schema.now c.parts-parts.ensures.good c.args.type_id c.requires) (omega arith) refl c.loop-i.invariant.0 c.index-given-i.is
      (c.slot-found.ensures.value ∙ ap (λ (n : List ℕ). slot_of c.args.start (place_of (member_names (kind_of c.args.schema.now.kinds c.args.type_id)) n)) c.as_slice.ensures ∙ ap (λ (m : Member). slot_of c.args.start (place_of (member_names (kind_of c.args.schema.now.kinds c.args.type_id)) m.name)) (sym c.index-given-i.is)) c.loop-i.invariant.1 c.note.ensures c.loop-i.invariant.2,
)
