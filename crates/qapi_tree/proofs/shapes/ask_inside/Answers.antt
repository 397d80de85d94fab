use Rattle.std.proofs.Common.{sym, subst, Bool, IfOk}
use Rattle.qapi_tree.specs.Asking.{Asks, are_shaped}
use Rattle.qapi_tree.proofs.{CountLaws.fewer, CountLaws.listed, CountLaws.membered, ShapeLaws.shaped_list, ShapeLaws.shaped_dict}
use Rattle.qapi_tree.proofs.shapes.ask_inside.Goals as goal

pub returns-in-List-clause-shapes : goal.returns-in-List-clause-shapes
returns-in-List-clause-shapes c =
    subst (λ (holds : Bool). IfOk c.ask_list.result (λ answer. Asks answer (are_shaped c.ask_list.new.pending.items) holds (are_shaped c.args.pending.now.items)))
    (sym (shaped_list _ c.in-List.items c.as_slice.result.now c.args.wanted.shape c.rule_of-rule.result c.in-List.is c.as_slice.ensures c.rule_of-rule.ensures)) c.ask_list.ensures.shapes

pub returns-in-List-clause-left : goal.returns-in-List-clause-left
returns-in-List-clause-left c = fewer c.ask_list.result _ _ _ _ c.ask_list.ensures.left (listed _ c.in-List.items c.as_slice.result.now c.in-List.is c.as_slice.ensures)

pub returns-in-Dict-clause-shapes : goal.returns-in-Dict-clause-shapes
returns-in-Dict-clause-shapes c =
    subst (λ (holds : Bool). IfOk c.ask_dict.result (λ answer. Asks answer (are_shaped c.ask_dict.new.pending.items) holds (are_shaped c.args.pending.now.items)))
    (sym (shaped_dict _ c.in-Dict.members c.as_slice-in-Dict.result.now c.args.wanted.shape c.rule_of-rule.result c.in-Dict.is c.as_slice-in-Dict.ensures c.rule_of-rule.ensures)) c.ask_dict.ensures.shapes

pub returns-in-Dict-clause-left : goal.returns-in-Dict-clause-left
returns-in-Dict-clause-left c = fewer c.ask_dict.result _ _ _ _ c.ask_dict.ensures.left (membered _ c.in-Dict.members c.as_slice-in-Dict.result.now c.in-Dict.is c.as_slice-in-Dict.ensures)
