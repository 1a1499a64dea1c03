use Rattle.std.proofs.Common.{arith, refl, sym, ◌∙◌}
use Rattle.psg_program.proofs.Sorting.{after_all, at_one, before_one, past_one}
use Rattle.psg_program.proofs.words.place_for.Goals as goal

pub loop-place-init : goal.loop-place-init
loop-place-init c = (omega arith, refl)

pub loop-place-preserved : goal.loop-place-preserved
loop-place-preserved c = (
  omega arith,
  past_one c.args.word.now c.args.words.now c.loop-place.place _ (omega arith) c.index-words-place.is
      (sym c.order.ensures ∙ c.in-Greater.is) c.loop-place.invariant.1,
)

pub returns-in-Less : goal.returns-in-Less
returns-in-Less c = (
  omega arith,
  before_one c.args.word.now c.args.words.now c.loop-place.place _ (omega arith) c.index-words-place.is
      (sym c.order.ensures ∙ c.in-Less.is) c.loop-place.invariant.1,
)

pub returns-in-Equal : goal.returns-in-Equal
returns-in-Equal c =
    at_one c.args.word.now c.args.words.now c.loop-place.place _ (omega arith) c.index-words-place.is
    (sym c.order.ensures ∙ c.in-Equal.is) c.loop-place.invariant.1

pub returns : goal.returns
returns c = (
  omega arith,
  after_all c.args.word.now c.args.words.now c.loop-place.place (omega arith) c.loop-place.invariant.1,
)
