use Rattle.std.proofs.Common.{◌∙◌, ◌∷◌, ◌++◌, ap, map, take, sym, subst}
use Rattle.std.specs.List.{AllByRecursion}
use Rattle.std.proofs.lemmas.List.{take-map}
use Rattle.psg_eval.specs.Summaries.{IsSummary}
use Rattle.psg_cache.specs.Annotated.{whole_in}
use Rattle.psg_cache.specs.Renoting.{AreOfCells, IsCellsFault, TakesCells}
use Rattle.psg_cache.specs.Walks.{IsStepFault, top_steps}
use Rattle.psg_cache.proofs.Passing.{passed}
use Rattle.psg_cache.proofs.RemakeLaws.{first_within, kept_within, olds_usual, remade_fault, remade_noted, remade_olds, remade_takes}
use Rattle.psg_cache.proofs.remaking.relisted.Goals as goal

pub suffix-kept-requires : goal.suffix-kept-requires
suffix-kept-requires g c =
    kept_within c.args.language.definition.now c.args.made.now c.args.list c.args.same c.args.front c.args.behind c.args.old.now
    c.args.below.items c.requires.numbered c.requires.kept

pub rests_behind-rests-requires : goal.rests_behind-rests-requires
rests_behind-rests-requires g c =
    kept_within c.args.language.definition.now c.args.made.now c.args.list c.args.same c.args.front c.args.behind c.args.old.now
    c.args.below.items c.requires.numbered c.requires.kept

pub cells-requires-clause-takes : goal.cells-requires-clause-takes
cells-requires-clause-takes g c =
    let def = c.args.language.definition.now in
    let (es, u, same) = c.requires.numbered in
    let all = c.as_slice-first.ensures.value ∙ c.in_ok-wholes.ensures
    ∙ ap (λ ns. map whole_in (take c.args.front ns)) c.as_slice-news.ensures.value
    ∙ sym (take-map whole_in c.args.front c.args.below.items) in
    subst (λ ws. TakesCells def c.args.list ws c.suffix-kept.result.now) (sym all)
    (remade_takes def c.args.made.now c.args.list es u c.args.same c.args.front c.args.behind c.args.old.now c.args.below.items
    c.suffix-kept.result.now same c.requires.formed c.requires.below c.requires.kept c.suffix-kept.ensures)

pub returns-in_err-made_cells-clause-err : goal.returns-in_err-made_cells-clause-err
returns-in_err-made_cells-clause-err g c =
    let def = c.args.language.definition.now in
    let path = c.args.path.now in
    let made = c.args.made.now in
    let (es, u, same) = c.requires.numbered in
    let all = c.as_slice-first.ensures.value ∙ c.in_ok-wholes.ensures
    ∙ ap (λ ns. map whole_in (take c.args.front ns)) c.as_slice-news.ensures.value
    ∙ sym (take-map whole_in c.args.front c.args.below.items) in
    passed (IsStepFault def (top_steps def path made)) _ c.in_err-made_cells.field-0.0
    c.from_residual-in_err-made_cells.ensures.1
    (remade_fault def path made c.args.list es u c.args.same c.args.front c.args.behind c.args.old.now c.args.below.items
    c.suffix-kept.result.now c.in_err-made_cells.field-0.0 same c.requires.formed c.requires.below c.requires.kept
    c.suffix-kept.ensures
    (subst (λ ws. IsCellsFault def path c.args.list ws c.suffix-kept.result.now
    c.in_err-made_cells.field-0.0) all c.in_err-made_cells.ensures.err))

pub returns-clause-ok : goal.returns-clause-ok
returns-clause-ok g c =
    let def = c.args.language.definition.now in
    let (es, u, same) = c.requires.numbered in
    let kept = c.suffix-kept.result.now in
    let news = c.in_ok-made_cells.made_cells.items in
    let all = c.as_slice-first.ensures.value ∙ c.in_ok-wholes.ensures
    ∙ ap (λ ns. map whole_in (take c.args.front ns)) c.as_slice-news.ensures.value
    ∙ sym (take-map whole_in c.args.front c.args.below.items) in
    remade_noted def c.args.made.now c.args.list es u c.args.same c.args.front c.args.behind c.args.old.now c.args.below.items
    kept news c.in_ok-suffixes.suffixes.whole c.in_ok-suffixes.suffixes.rests c.in_ok-note.note same
    c.requires.formed c.requires.below c.requires.kept c.suffix-kept.ensures
    (subst (λ ws. AreOfCells def c.args.list ws kept news) all c.in_ok-made_cells.ensures.ok)
    c.in_ok-made_cells.ensures.usual (c.in_ok-suffixes.ensures ∙ ap (λ r. news ++ kept ∷ r) c.rests_behind-rests.ensures)
    c.in_ok-note.ensures

pub suffix-was-requires : goal.suffix-was-requires
suffix-was-requires g c =
    first_within c.args.language.definition.now c.args.made.now c.args.list c.args.same c.args.front c.args.behind
    c.args.old.now c.args.below.items c.requires.numbered c.requires.kept

pub suffixes_before-requires : goal.suffixes_before-requires
suffixes_before-requires g c =
    first_within c.args.language.definition.now c.args.made.now c.args.list c.args.same c.args.front c.args.behind
    c.args.old.now c.args.below.items c.requires.numbered c.requires.kept

pub cells-requires-clause-olds : goal.cells-requires-clause-olds
cells-requires-clause-olds g c =
    let def = c.args.language.definition.now in
    let (es, u, same) = c.requires.numbered in
    let all = c.as_slice-first.ensures.value ∙ c.in_ok-wholes.ensures
    ∙ ap (λ ns. map whole_in (take c.args.front ns)) c.as_slice-news.ensures.value
    ∙ sym (take-map whole_in c.args.front c.args.below.items) in
    let olds = c.in_ok-olds.ensures in
    let was = c.suffix-was.result.now in (
      c.args.same,
      subst (λ ws. AreOfCells def c.args.list (take c.args.same ws) was c.in_ok-olds.olds.items) (sym all)
          (subst (AreOfCells def c.args.list (take c.args.same (take c.args.front (map whole_in c.args.below.items))) was) (sym olds)
          (remade_olds def c.args.made.now c.args.list es u c.args.same c.args.front c.args.behind c.args.old.now
          c.args.below.items was same c.requires.kept c.suffix-was.ensures)),
    )

pub cells-requires-clause-old_usual : goal.cells-requires-clause-old_usual
cells-requires-clause-old_usual g c =
    let def = c.args.language.definition.now in
    let olds = c.in_ok-olds.ensures in
    subst (AllByRecursion (IsSummary def)) (sym olds)
    (olds_usual def c.args.made.now c.args.same c.args.front c.args.behind c.args.old.now c.args.below.items c.requires.kept)
