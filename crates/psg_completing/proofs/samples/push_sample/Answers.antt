use Rattle.std.proofs.Common.{ap, sym, ◌∙◌}
use Rattle.psg_grammar.specs.Fragments.{with_child, with_name, with_text}
use Rattle.psg_completing.specs.Samples.{with_sample}
use Rattle.psg_completing.proofs.Sampling.{sample_pushed}
use Rattle.psg_completing.proofs.samples.push_sample.Goals as goal

pub returns-in_ok-push-in-Slot : goal.returns-in_ok-push-in-Slot
returns-in_ok-push-in-Slot c =
    sample_pushed c.args.definition.now c.args.name.now c.args.item.now c.args.parts.now.items _ _
    c.in_ok-push-in-Slot.ensures.items
    (λ g. ap (with_child g) c.in_ok-tree-in-Slot.ensures ∙ sym (ap (with_sample c.args.definition.now c.args.name.now g) c.in-Slot.is))

pub returns-in_ok-push-in-Refers : goal.returns-in_ok-push-in-Refers
returns-in_ok-push-in-Refers c =
    sample_pushed c.args.definition.now c.args.name.now c.args.item.now c.args.parts.now.items _ _
    c.in_ok-push-in-Refers.ensures.items
    (λ g. ap (with_name g) c.in_ok-name-in-Refers.ensures ∙ sym (ap (with_sample c.args.definition.now c.args.name.now g) c.in-Refers.is))

pub returns-in_ok-push-in-Declares : goal.returns-in_ok-push-in-Declares
returns-in_ok-push-in-Declares c =
    sample_pushed c.args.definition.now c.args.name.now c.args.item.now c.args.parts.now.items _ _
    c.in_ok-push-in-Declares.ensures.items
    (λ g. ap (with_name g) c.in_ok-name-in-Declares.ensures ∙ sym (ap (with_sample c.args.definition.now c.args.name.now g) c.in-Declares.is))

pub returns-in_ok-push-in-Number : goal.returns-in_ok-push-in-Number
returns-in_ok-push-in-Number c =
    sample_pushed c.args.definition.now c.args.name.now c.args.item.now c.args.parts.now.items _ _
    c.in_ok-push-in-Number.ensures.items
    (λ g. sym (ap (with_sample c.args.definition.now c.args.name.now g) c.in-Number.is))

pub returns-in_ok-push-in-Text : goal.returns-in_ok-push-in-Text
returns-in_ok-push-in-Text c =
    sample_pushed c.args.definition.now c.args.name.now c.args.item.now c.args.parts.now.items _ _
    c.in_ok-push-in-Text.ensures.items
    (λ g. ap (with_text g) c.in_ok-text-in-Text.ensures ∙ sym (ap (with_sample c.args.definition.now c.args.name.now g) c.in-Text.is))
