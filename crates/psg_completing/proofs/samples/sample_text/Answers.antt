use Rattle.std.proofs.Common.{ap, ap₂, sym, ◌∙◌}
use Rattle.psg_unparse.specs.Layout.{text_of}
use Rattle.psg_unparse.specs.Rows.{is_below_level}
use Rattle.psg_completing.specs.Samples.{in_brackets, one_line}
use Rattle.psg_completing.proofs.samples.sample_text.Goals as goal

pub sample-requires : goal.sample-requires
sample-requires c = c.requires.operator

pub unparse-requires : goal.unparse-requires
unparse-requires c = record { sound = c.requires.sound }

pub returns : goal.returns
returns c =
    c.in_ok-text.ensures ∙ c.in_ok-put.ensures
    ∙ ap₂ in_brackets
    (c.is_below-below.ensures ∙ ap (λ o. is_below_level o c.args.least) (sym c.requires.operator))
    (c.in_ok-line.ensures
    ∙ ap one_line (c.as_str-whole.ensures ∙ ap (λ p. p.text) c.in_ok-printed.ensures.printed
    ∙ ap (text_of c.args.definition.now) c.in_ok-tree.ensures))
