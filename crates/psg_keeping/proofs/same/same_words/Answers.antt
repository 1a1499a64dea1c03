use Rattle.std.proofs.Common.{true≢false, rules, sym, ◌∙◌}
use Rattle.std.proofs.lemmas.Bool.{false≢true}
use Rattle.psg_commented.specs.Keeping.{words_of}
use Rattle.psg_commented.proofs.Lists.{other_place}
use Rattle.psg_keeping.proofs.same.same_words.Goals as goal

pub returns-then-not-says_same : goal.returns-then-not-says_same
returns-then-not-says_same c = (
  λ h. absurd (false≢true h),
  λ e. absurd (other_place words_of c.args.found.now c.args.notes.now c.loop-place.place c.index-found-place.result c.index-notes-place.result
      (search rules) (search rules) c.index-found-place.is c.index-notes-place.is
      (λ same. true≢false (sym (c.says_same.ensures.1 same) ∙ c.if-not-says_same.true)) e),
)
