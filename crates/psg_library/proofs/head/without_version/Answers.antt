use Rattle.std.proofs.Common.{[], ◌∷◌, sym, ◌∙◌}
use Rattle.std.proofs.lemmas.Bool.{both_ways}
use Rattle.std.proofs.lemmas.Slice.Eq.{bytes_eq-Decides}
use Rattle.psg_library.proofs.HeadWords.{version_none, version_two, version_other}
use Rattle.psg_library.proofs.head.without_version.Goals as goal

pub returns-in_default : goal.returns-in_default
returns-in_default c = version_none c.args.text.now c.in_default.ensures.none

pub returns-then-eq : goal.returns-then-eq
returns-then-eq c =
    version_two c.args.text.now c.in-Some.word.now c.in-Some.rest.now c.in-Some.ensures.some.0
    ((bytes_eq-Decides c.in-Some.word.now (50 ∷ [])).0 (sym c.eq.ensures ∙ c.if-eq.true))

pub returns-else-eq : goal.returns-else-eq
returns-else-eq c =
    version_other c.args.text.now c.in-Some.word.now c.in-Some.rest.now c.in-Some.ensures.some.0 c.in-Some.ensures.some.1
    (λ e. both_ways _ c.if-eq.false (c.eq.ensures ∙ (bytes_eq-Decides c.in-Some.word.now (50 ∷ [])).1 e))
