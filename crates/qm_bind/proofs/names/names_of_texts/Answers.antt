use Rattle.std.proofs.Common.{◌+◌, List, ℕ, take, subst, sym, arith, rules}
use Rattle.qapi_types.specs.Sets.{HasNames}
use Rattle.qm_bind.specs.Parts.{names_of}
use Rattle.qm_bind.proofs.NameLaws.{text-more, text-same}
use Rattle.qm_bind.proofs.names.names_of_texts.Goals as goal
use Rattle.qm_bind.proofs.names.names_of_texts.Goals.{in-Some+in_ok-_is_new, in_default}

pub loop-item-preserved : goal.loop-item-preserved
loop-item-preserved c = elim c.match-text_of.branch [
  | in-Some+in_ok-_is_new w ↦ subst (λ (s : List (List ℕ)). HasNames s (names_of (take (c.loop-item.item-index + 1) c.args.items.now))) (sym w.set-is) (text-more c.loop-item.set w.add.new.self c.args.items.now c.loop-item.item-index c.item-item.result w.in-Some.name.now w.in_ok-_is_new._is_new (omega arith) c.item-item.is w.in-Some.ensures.some c.loop-item.invariant w.in_ok-_is_new.ensures)
  | in_default w ↦ subst (λ (s : List (List ℕ)). HasNames s (names_of (take (c.loop-item.item-index + 1) c.args.items.now))) (sym w.set-is) (text-same c.loop-item.set c.args.items.now c.loop-item.item-index c.item-item.result (omega arith) c.item-item.is (search (rules, w.in_default.ensures)) c.loop-item.invariant)
]
