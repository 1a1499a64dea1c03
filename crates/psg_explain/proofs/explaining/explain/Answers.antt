use Rattle.std.proofs.Common.{sym, subst, ◌∙◌}
use Rattle.psg_cache.specs.Annotated.{tree_in}
use Rattle.psg_cache.specs.Completed.{IsByCompletions}
use Rattle.psg_cache.specs.Notes.{IsNoteOf}
use Rattle.psg_cache.proofs.Completed.{noted_completable}
use Rattle.psg_grammar.specs.Sound.{IsSound}
use Rattle.psg_specimen.specs.Conditions.{IsMet}
use Rattle.psg_explain.proofs.ExplainLaws.{culprits_are, first_culprit, first_item, no_culprit, no_first}
use Rattle.psg_explain.proofs.explaining.explain.Goals as goal

pub true_rows-requires : goal.true_rows-requires
true_rows-requires g c = subst IsMet (sym c.definition-definition.ensures.same) c.definition-definition.ensures.accepted.met

pub wrong-requires-clause-culprit : goal.wrong-requires-clause-culprit
wrong-requires-clause-culprit g c =
    let def = c.args.lang.now in
    let note = c.args.note.now in
    let paths = c.in_ok-culprits.culprits.items in
    let same = c.definition-definition.ensures.same in
    let tells = noted_completable c.definition-definition.result.now (subst IsSound (sym same) c.definition-definition.ensures.sound) (tree_in note) note (subst (λ d. IsNoteOf d (tree_in note) note) (sym same) c.requires) c.true_rows.ensures.rows in
    let mark = culprits_are def note c.requires (subst (λ d. IsByCompletions d (tree_in note) note) same tells) paths c.in_ok-culprits.ensures.paths in
    let (others, is) = first_item c.as_slice.result.now c.first.result c.in-Some.path c.first.ensures.value c.in-Some.is in
    first_culprit def (tree_in note) c.requires.formed paths c.in-Some.path.now others (sym c.as_slice.ensures.value ∙ is) mark

pub returns-clause-explained : goal.returns-clause-explained
returns-clause-explained g c =
    let def = c.args.lang.now in
    let note = c.args.note.now in
    let paths = c.in_ok-culprits.culprits.items in
    let same = c.definition-definition.ensures.same in
    let tells = noted_completable c.definition-definition.result.now (subst IsSound (sym same) c.definition-definition.ensures.sound) (tree_in note) note (subst (λ d. IsNoteOf d (tree_in note) note) (sym same) c.requires) c.true_rows.ensures.rows in
    let mark = culprits_are def note c.requires (subst (λ d. IsByCompletions d (tree_in note) note) same tells) paths c.in_ok-culprits.ensures.paths in
    no_culprit def (tree_in note) paths (sym c.as_slice.ensures.value ∙ no_first c.as_slice.result.now c.first.result c.first.ensures.value c.in-None.is) mark
