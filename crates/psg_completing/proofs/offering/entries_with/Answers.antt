use Rattle.std.proofs.Common.{Some, ap, ap₂, subst, sym, ◌∙◌, ◌≡◌}
use Rattle.psg_grammar.specs.Lookups.{operator_at}
use Rattle.psg_grammar.specs.Sound.{IsSound}
use Rattle.psg_completing.specs.Offering.{entry}
use Rattle.psg_completing.specs.Samples.{sample_text}
use Rattle.psg_completing.proofs.Offers.{mapped_at, mapped_end}
use Rattle.psg_completing.proofs.offering.entries_with.Goals as goal

pub sample_text-requires : goal.sample_text-requires
sample_text-requires c = record {
  sound = subst IsSound (sym c.definition-definition.ensures.same) c.definition-definition.ensures.sound;
  operator = subst (λ d. operator_at d c.args.op ≡ Some c.args.operator.now) (sym c.definition-definition.ensures.same)
      c.requires;
}

pub loop-place-preserved : goal.loop-place-preserved
loop-place-preserved c =
    mapped_at (λ name. entry c.args.operator.now.name
    (sample_text c.args.open.known.program.language.now c.args.open.least name c.args.op))
    c.args.names.now c.loop-place.place c.name_at-name.result.now _ _ _ _ c.name_at-name.ensures
    (ap₂ entry c.in_ok-own.ensures
    (c.in_ok-text.ensures
    ∙ ap (λ d. sample_text d c.args.open.least c.name_at-name.result.now c.args.op)
    c.definition-definition.ensures.same))
    c.in_ok-push.ensures.items c.loop-place.invariant

pub returns : goal.returns
returns c =
    mapped_end (λ name. entry c.args.operator.now.name
    (sample_text c.args.open.known.program.language.now c.args.open.least name c.args.op))
    c.args.names.now c.loop-place.place _ _ c.loop-place-test.false c.loop-place.invariant
