use Rattle.std.proofs.Common.{ap, ap₂, length, map, ◌∙◌}
use Rattle.psg_unparse.proofs.SpacedBack.{spaced_reads_back}
use Rattle.psg_layout.specs.Arranged.{arranged_puts}
use Rattle.psg_layout.proofs.GrowLaws.{arranged_is_spaced}
use Rattle.psg_layout.proofs.arranging.arrange.Goals as goal

pub returns-clause-arranged : goal.returns-clause-arranged
returns-clause-arranged c =
    let puts = arranged_puts c.args.definition.now c.args.layout.now c.args.cols c.args.tree.now in
    ap₂ (λ x y. record { text = x; spans = y }) (c.in_ok-text.ensures ∙ c.in_ok-made.ensures.text)
    (c.in_ok-spans.ensures puts (c.as_slice.ensures.value ∙ c.in_ok-made.ensures.tokens)
    (c.len.ensures ∙ c.in_ok-made.made.out.bytes.ok.0 ∙ ap length c.in_ok-made.ensures.text) ∙ c.in_ok-made.ensures.spans)

pub returns-clause-spaced : goal.returns-clause-spaced
returns-clause-spaced c = arranged_is_spaced c.args.definition.now c.args.layout.now c.args.cols c.args.tree.now

pub returns-clause-back : goal.returns-clause-back
returns-clause-back c = λ class words printable kind formed.
    spaced_reads_back c.args.definition.now c.requires.sound words class c.args.tree.now printable kind formed
    _ (arranged_is_spaced c.args.definition.now c.args.layout.now c.args.cols c.args.tree.now)
