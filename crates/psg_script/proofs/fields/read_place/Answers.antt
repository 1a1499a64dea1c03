use Rattle.std.proofs.Common.{[], ◌∷◌, ◌∙◌, lit<}
use Rattle.std.proofs.lemmas.Bool.{both_ways}
use Rattle.std.proofs.lemmas.Slice.Eq.{bytes_eq-Decides}
use Rattle.std.proofs.lemmas.Str.Pattern.{strip_prefix_char}
use Rattle.psg_script.proofs.StepLemmas.{not_empty, no_place, no_steps}
use Rattle.psg_script.proofs.fields.read_place.Goals as goal

pub returns-in_default : goal.returns-in_default
returns-in_default c =
    no_place c.args.word.now (λ e. both_ways _ c.if-eq.false (c.eq.ensures ∙ (bytes_eq-Decides c.args.word.now (46 ∷ [])).1 e)) (rw c.in_default.is at (strip_prefix_char 47 c.args.word.now _ c.strip_prefix.ensures.cases (lit< tt)))

pub returns-in-None : goal.returns-in-None
returns-in-None c =
    let slash = rw c.in-Some.is at (strip_prefix_char 47 c.args.word.now _ c.strip_prefix.ensures.cases (lit< tt)) in
    no_steps c.args.word.now _ slash (not_empty _ _ c.if-is_empty.false c.is_empty.ensures) (rw c.in-None.is at c.in_ok-steps.ensures)
