use Rattle.std.proofs.Common.{◌+◌, take, ap, subst, ◌∙◌}
use Rattle.psg_deflines.specs.Refusals.{line_feeds}
use Rattle.psg_layout.specs.declared.layout.LayoutFault.TheVariants as faults
use Rattle.psg_layout.specs.Layouts.{AreLayout}
use Rattle.psg_layout.proofs.LastLaws.{bytes_layout, bytes_only, bytes_faultless, bytes_no_text, shown}
use Rattle.psg_layout.proofs.reading.read_layout.Goals as goal

pub returns-in-Err-clause-err : goal.returns-in-Err-clause-err
returns-in-Err-clause-err c =
    bytes_no_text c.args.definition.now c.args.bytes.now _ c.in_ok-refused-in-Err.refused c.in-Err.ensures.cases.1
    (c.in_ok-refused-in-Err.ensures ∙ ap (λ n. faults.Line (line_feeds (take n c.args.bytes.now) + 1) 1) c.valid_up_to.ensures)

pub returns-clause-ok : goal.returns-clause-ok
returns-clause-ok c =
    bytes_layout c.args.definition.now c.args.bytes.now c.in-Ok.text.now c.in-Ok.ensures.cases.0 c.in-Ok.ensures.cases.1 c.in_ok-layout.layout
    (subst (λ ts. AreLayout c.args.definition.now ts c.in_ok-layout.layout) (ap shown c.as_slice.ensures.value ∙ c.in_ok-texts.ensures) c.in_ok-layout.ensures.ok)

pub returns-clause-only : goal.returns-clause-only
returns-clause-only c = λ other h.
    bytes_only c.args.definition.now c.args.bytes.now c.in-Ok.text.now c.in-Ok.ensures.cases.0 c.in-Ok.ensures.cases.1 c.requires.sound c.in_ok-layout.layout other
    (subst (λ ts. AreLayout c.args.definition.now ts c.in_ok-layout.layout) (ap shown c.as_slice.ensures.value ∙ c.in_ok-texts.ensures) c.in_ok-layout.ensures.ok) h

pub returns-clause-faultless : goal.returns-clause-faultless
returns-clause-faultless c = λ line code.
    bytes_faultless c.args.definition.now c.args.bytes.now c.in-Ok.text.now c.in-Ok.ensures.cases.0 c.in-Ok.ensures.cases.1 c.in_ok-layout.layout
    (subst (λ ts. AreLayout c.args.definition.now ts c.in_ok-layout.layout) (ap shown c.as_slice.ensures.value ∙ c.in_ok-texts.ensures) c.in_ok-layout.ensures.ok) line code
