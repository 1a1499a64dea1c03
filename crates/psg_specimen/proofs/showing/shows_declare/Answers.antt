use Rattle.std.proofs.Common.{◌↔◌, ap, ◌∙◌, ◌++◌, subst}
use Rattle.std.specs.Prelude.{IsTrue}
use Rattle.psg_grammar.specs.Specimens.{holes_of, tree_of}
use Rattle.psg_specimen.specs.Patterns.{IsPatternOf}
use Rattle.psg_specimen.specs.Shown.{IsFirstTerm}
use Rattle.psg_specimen.proofs.CaseShown.{alone_tells}
use Rattle.psg_specimen.proofs.showing.shows_declare.Goals as goal

pub returns-in-Some : goal.returns-in-Some
returns-in-Some c = λ def sound row p.
    let d = c.args.row.now in
    let e = c.as_slice.ensures.value ∙ c.in_ok-add_places.ensures ∙ ap (λ l. l ++ holes_of d.specimen) c.new-places.ensures.items in
    c.in_ok-shown-in-Some.ensures def sound row e (subst (IsPatternOf def (tree_of d.specimen)) c.in-Some.is p)

pub returns : goal.returns
returns c = λ def sound row p.
    let d = c.args.row.now in
    let b = c.is_first_term.result in
    let e = c.as_slice-in-None.ensures.value ∙ c.in_ok-add_places.ensures ∙ ap (λ l. l ++ holes_of d.specimen) c.new-places.ensures.items in
    alone_tells def sound d b row (subst (IsPatternOf def (tree_of d.specimen)) c.in-None.is p)
    (subst (λ ps. IsTrue b ↔ IsFirstTerm d.value ps) e c.is_first_term.ensures)
