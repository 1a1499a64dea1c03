use Rattle.std.proofs.Common.{◌↔◌, length, ap, ◌∙◌, ◌+◌, ◌++◌, subst}
use Rattle.std.specs.Prelude.{IsTrue}
use Rattle.psg_grammar.specs.Specimens.{holes_of, tree_of}
use Rattle.psg_eval.specs.Walks.{run}
use Rattle.psg_specimen.specs.Patterns.{IsPatternOf}
use Rattle.psg_specimen.specs.Shown.{IsFirstTerm, IsRowShown, value_terms}
use Rattle.psg_specimen.proofs.CaseShown.{case_tells, place_tells}
use Rattle.psg_specimen.proofs.showing.shows_case.Goals as goal

pub returns-in-Some : goal.returns-in-Some
returns-in-Some c = λ def sound case p.
    let one = c.args.one.now in
    let b = c.in_ok-shown-in-Some.shown in
    let e = c.as_slice.ensures.value ∙ c.in_ok-add_places.ensures ∙ ap (λ l. l ++ holes_of one.specimen) c.new-places.ensures.items in
    let here = subst (λ ps. IsTrue b ↔ IsRowShown c.rel.result.now (run 0 (length ps + 1)) (value_terms one.term ps)) e c.in_ok-shown-in-Some.ensures in
    case_tells def sound one b c.in-Some.pattern case (subst (IsPatternOf def (tree_of one.specimen)) c.in-Some.is p)
    (subst (λ rel. IsTrue b ↔ IsRowShown rel (run 0 (length (holes_of one.specimen) + 1)) (value_terms one.term (holes_of one.specimen))) c.rel.ensures here)

pub returns : goal.returns
returns c = λ def sound case p.
    let one = c.args.one.now in
    let b = c.is_first_term.result in
    let e = c.as_slice-in-None.ensures.value ∙ c.in_ok-add_places.ensures ∙ ap (λ l. l ++ holes_of one.specimen) c.new-places.ensures.items in
    place_tells def sound one b case (subst (IsPatternOf def (tree_of one.specimen)) c.in-None.is p)
    (subst (λ ps. IsTrue b ↔ IsFirstTerm one.term ps) e c.is_first_term.ensures)
