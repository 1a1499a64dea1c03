use Rattle.std.proofs.Common.{length, refl, sym, ◌∙◌, true≢false, arith}
use Rattle.psg_terms.proofs.Lists.{get_or_fixed}
use Rattle.psg_grammar.specs.Kinds.{HasKind}
use Rattle.psg_specimen.specs.Conditions.{IsQuiet}
use Rattle.psg_covering.proofs.Firsts.{more, fails, all}
use Rattle.psg_specimen.proofs.Firsts.{each}
use Rattle.psg_specimen.proofs.forms.first_loud.Goals as goal

pub is_quiet-requires-clause-kind : goal.is_quiet-requires-clause-kind
is_quiet-requires-clause-kind c = each (HasKind c.args.definition.now) c.args.slots.now c.requires.kinds c.loop-number.number _ c.loop-number-test.true (get_or_fixed c.args.slots.now c.loop-number.number _ c.loop-number-test.true)

pub loop-number-preserved : goal.loop-number-preserved
loop-number-preserved c =
    more c.args.slots.now (IsQuiet c.args.definition.now) c.loop-number.number _ c.loop-number-test.true (get_or_fixed c.args.slots.now c.loop-number.number _ c.loop-number-test.true)
    (c.is_quiet.ensures.0 c.if-not-is_quiet.false) c.loop-number.invariant

pub returns-then-not-is_quiet : goal.returns-then-not-is_quiet
returns-then-not-is_quiet c = (
  fails c.args.slots.now (IsQuiet c.args.definition.now) c.loop-number.number _ c.loop-number-test.true (get_or_fixed c.args.slots.now c.loop-number.number _ c.loop-number-test.true)
      (λ p. true≢false (sym (c.is_quiet.ensures.1 p) ∙ c.if-not-is_quiet.true)),
  c.loop-number.invariant,
)

pub returns : goal.returns
returns c = all c.args.slots.now (IsQuiet c.args.definition.now) (length c.args.slots.now) refl (λ m lt. c.loop-number.invariant m (omega arith))
