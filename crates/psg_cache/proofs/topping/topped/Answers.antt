use Rattle.std.proofs.Common.{◌∙◌, List, ap, map, sym, subst}
use Rattle.std.specs.List.{AllByRecursion}
use Rattle.psg_grammar.specs.Fragments.{children_of}
use Rattle.psg_eval.specs.declared.summary.SummaryParts.{SummaryParts}
use Rattle.psg_eval.specs.Summaries.{AreSummariesOf, IsSummary}
use Rattle.psg_cache.specs.Annotated.{whole_in}
use Rattle.psg_cache.specs.Walks.{IsTop}
use Rattle.psg_cache.proofs.WalkLaws.{formed_children, made_noted, notes_summaries, notes_usual}
use Rattle.psg_cache.proofs.topping.topped.Goals as goal

pub top-requires-clause-summaries : goal.top-requires-clause-summaries
top-requires-clause-summaries g c =
    let def = c.args.language.definition.now in
    let tree = c.args.tree.now in
    let wholes = c.as_slice-2.ensures.value ∙ c.in_ok-wholes.ensures ∙ ap (map whole_in) c.as_slice.ensures.value in
    subst (AreSummariesOf def tree) (sym wholes)
    (notes_summaries def (children_of tree) c.args.below.items (formed_children def tree c.requires.formed)
    c.requires.below)

pub top-requires-clause-usual : goal.top-requires-clause-usual
top-requires-clause-usual g c =
    let wholes = c.as_slice-2.ensures.value ∙ c.in_ok-wholes.ensures ∙ ap (map whole_in) c.as_slice.ensures.value in
    subst (AllByRecursion (IsSummary c.args.language.definition.now)) (sym wholes)
    (notes_usual c.args.language.definition.now c.args.below.items c.requires.below.1)

pub returns-clause-ok : goal.returns-clause-ok
returns-clause-ok g c =
    let def = c.args.language.definition.now in
    let tree = c.args.tree.now in
    let wholes = c.as_slice-2.ensures.value ∙ c.in_ok-wholes.ensures ∙ ap (map whole_in) c.as_slice.ensures.value in
    let s = c.in_ok-suffixes.suffixes in
    made_noted def tree c.args.below.items s.whole s.rests c.in_ok-note.note c.requires.below
    (subst (λ (ws : List SummaryParts). IsTop def tree ws s.whole s.rests) wholes c.in_ok-suffixes.ensures.ok)
    c.in_ok-note.ensures
