use Rattle.std.proofs.Common.{◌++◌, ap, sym, subst, ◌∙◌}
use Rattle.std.specs.Prelude.{codes}
use Rattle.psg_wanted.specs.Texts.{menu_or_none, say_nothing, values_text}
use Rattle.psg_lint.specs.Blamed.{IsEndMessage}
use Rattle.psg_lint.proofs.EndLaws.{menu_message, values_message}
use Rattle.psg_lint.proofs.MessageLaws.{same_sorted}
use Rattle.psg_lint.proofs.WrongLaws.{beside_formed}
use Rattle.psg_lint.proofs.ends.of_list.Goals as goal

pub list_at-list-requires-clause-formed : goal.list_at-list-requires-clause-formed
list_at-list-requires-clause-formed g c = beside_formed c.args.wrong c.args.tree.now c.requires.kinds

pub returns-then-silent : goal.returns-then-silent
returns-then-silent g c =
    let def = c.args.wrong.judged.definition.now in
    subst (IsEndMessage def c.args.tree.now c.args.path.now)
    (sym (c.in_ok-message.ensures ∙ ap (λ ops. codes "an element is missing here: " ++ menu_or_none def ops) c.as_slice-then-silent.ensures.value))
    (menu_message def c.args.tree.now c.args.path.now c.list_at-list.result c.list_at-list.ensures c.in_ok-wanted.wanted.items c.in_ok-ops.ops.items c.in_ok-wanted.ensures.values
    (sym (c.say_nothing-silent.ensures ∙ ap say_nothing c.as_slice.ensures.value) ∙ c.if-silent.true) c.in_ok-ops.ensures)

pub told_values-requires : goal.told_values-requires
told_values-requires g c =
    same_sorted c.args.wrong.judged.definition.now.signature c.in_ok-wanted.wanted.items c.as_slice-2.result.now c.as_slice-2.ensures.value c.in_ok-wanted.ensures.sorted

pub returns : goal.returns
returns g c =
    let def = c.args.wrong.judged.definition.now in
    subst (IsEndMessage def c.args.tree.now c.args.path.now)
    (sym (c.in_ok-told.ensures ∙ ap (λ values. codes "an element is missing here, wanted " ++ values_text def.signature values) c.as_slice-2.ensures.value))
    (values_message def c.args.tree.now c.args.path.now c.list_at-list.result c.list_at-list.ensures c.in_ok-wanted.wanted.items c.in_ok-wanted.ensures.declaring c.in_ok-wanted.ensures.values
    (sym (c.say_nothing-silent.ensures ∙ ap say_nothing c.as_slice.ensures.value) ∙ c.if-silent.false))
