use Rattle.std.proofs.Common.{true≢false, rules, sym, ◌∙◌}
use Rattle.std.proofs.lemmas.Bool.{false≢true}
use Rattle.psg_commented.specs.Keeping.{place_of}
use Rattle.psg_commented.proofs.Lists.{other_place}
use Rattle.psg_keeping.proofs.same.same_places.Goals as goal

pub returns-then-not-is_beside : goal.returns-then-not-is_beside
returns-then-not-is_beside c = (
  λ h. absurd (false≢true h),
  λ e. absurd (other_place place_of c.args.found.now c.args.notes.now c.loop-place.place c.index-found-place.result c.index-notes-place.result
      (search rules) (search rules) c.index-found-place.is c.index-notes-place.is
      (λ same. true≢false (sym (c.is_beside.ensures.1 same) ∙ c.if-not-is_beside.true)) e),
)
