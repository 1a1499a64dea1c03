use Rattle.std.proofs.Common.{true≢false, ap, rules, sym, ◌∙◌}
use Rattle.std.proofs.lemmas.Bool.{false≢true}
use Rattle.psg_commented.specs.Keeping.{token_of}
use Rattle.psg_commented.proofs.Lists.{other_place}
use Rattle.psg_keeping.proofs.same.are_same.Goals as goal

pub returns-then-not-is_same : goal.returns-then-not-is_same
returns-then-not-is_same c = (
  λ h. absurd (false≢true h),
  λ e. absurd (other_place token_of c.args.own.now c.args.shown.now c.loop-place.place c.index-own-place.result c.index-shown-place.result
      (search rules) (search rules) c.index-own-place.is c.index-shown-place.is
      (λ same. true≢false (sym (c.is_same.ensures.1 (sym (ap token_of c.index-own-place.is) ∙ same ∙ ap token_of c.index-shown-place.is))
      ∙ c.if-not-is_same.true)) e),
)
