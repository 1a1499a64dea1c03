use Rattle.std.proofs.Common.{◌++◌, ap, ap₂, sym, subst, ◌∙◌}
use Rattle.std.specs.Prelude.{codes, string_bytes}
use Rattle.psg_wanted.specs.Texts.{entity_wanted}
use Rattle.psg_lint.specs.Blamed.{IsUseMessage, use_message}
use Rattle.psg_lint.specs.Judged.{fresh_of}
use Rattle.psg_lint.proofs.MessageLaws.{same_sorted}
use Rattle.psg_lint.proofs.messages.use_message.Goals as goal

pub entity_wanted-requires : goal.entity_wanted-requires
entity_wanted-requires g c =
    same_sorted c.args.wrong.judged.definition.now.signature c.in_ok-terms.terms.items c.as_slice.result.now c.as_slice.ensures.value c.in_ok-terms.ensures.sorted

pub returns : goal.returns
returns g c = λ r spots.
    let w = c.args.wrong in
    let def = w.judged.definition.now in
    let name = c.args.name.now.name in
    let wanted = c.as_str-2.ensures.value ∙ c.in_ok-wanted.ensures ∙ ap (entity_wanted def.signature) c.as_slice.ensures.value in
    subst (IsUseMessage def w.judged.text.now w.judged.tree.now r (fresh_of w) c.args.kept.now c.args.number c.args.name.now)
    (sym (c.in_ok-message.ensures.ok ∙ ap (λ n. n ++ (codes " does not fit here" ++ (c.as_str-2.result.now ++ c.as_str-3.result.now))) c.as_str.ensures
    ∙ ap₂ (λ a b. name ++ (codes " does not fit here" ++ (a ++ b))) wanted c.as_str-3.ensures.value))
    (use_message c.in_ok-terms.terms.items (string_bytes c.in_ok-declared.declared) c.in_ok-terms.ensures.values (c.in_ok-declared.ensures r spots))
