use Rattle.std.proofs.Common.{◌++◌, [], cond, ap, sym, ◌∙◌}
use Rattle.std.specs.Prelude.{codes}
use Rattle.psg_wanted.specs.Texts.{values_text}
use Rattle.psg_lint.proofs.open_places.wanted_text.Goals as goal

pub returns-then-plain : goal.returns-then-plain
returns-then-plain c =
    let said = codes ", wanted " ++ values_text c.args.own.judged.definition.now.signature c.args.values.now in
    c.new.ensures.bytes ∙ ap (λ b. cond b [] said) (sym c.if-plain.true ∙ c.is_plain_hole-plain.ensures)

pub returns : goal.returns
returns c =
    let said = codes ", wanted " ++ values_text c.args.own.judged.definition.now.signature c.args.values.now in
    c.in_ok-text.ensures.ok ∙ ap (λ t. codes ", wanted " ++ t) (c.as_str.ensures.value ∙ c.in_ok-told.ensures)
    ∙ ap (λ b. cond b [] said) (sym c.if-plain.false ∙ c.is_plain_hole-plain.ensures)
