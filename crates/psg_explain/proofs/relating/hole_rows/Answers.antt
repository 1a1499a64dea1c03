use Rattle.psg_grammar.specs.Fragments.{hole}
use Rattle.psg_explain.proofs.RelatingLaws.{hole_own, known_summary, not_wide}
use Rattle.psg_explain.proofs.relating.hole_rows.Goals as goal

pub eval_hole-answer-requires-clause-phylum : goal.eval_hole-answer-requires-clause-phylum
eval_hole-answer-requires-clause-phylum g c = let (kind, formed) = c.requires.formed in formed.0.2

pub known-requires : goal.known-requires
known-requires g c = not_wide c.args.language.now.definition (hole c.args.phylum) c.requires.light c.eval_hole-answer.result c.eval_hole-answer.ensures.answer

pub returns-clause-rows : goal.returns-clause-rows
returns-clause-rows g c =
    hole_own c.args.language.now.definition c.args.phylum c.in_ok-whole.whole c.in_ok-rows.rows.items
    (known_summary c.args.language.now.definition (hole c.args.phylum) c.eval_hole-answer.result c.in_ok-whole.whole c.eval_hole-answer.ensures.answer c.in_ok-whole.ensures) c.in_ok-rows.ensures
