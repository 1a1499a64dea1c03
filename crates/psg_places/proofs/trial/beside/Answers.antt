use Rattle.std.proofs.Common.{◌+◌, ◌≤◌, refl, sym, subst}
use Rattle.std.specs.Prelude.{IfErr, IfOk}
use Rattle.psg_grammar.specs.Paths.{replaced as replaced_at}
use Rattle.psg_cache.specs.Annotated.{tree_in}
use Rattle.psg_cache.specs.Completed.{TellsCompletable}
use Rattle.psg_cache.specs.Diff.{diff_of}
use Rattle.psg_cache.specs.Edits.{MayReplace}
use Rattle.psg_cache.specs.Notes.{IsNoteFault, IsNoteOf, TellsOpen}
use Rattle.psg_cache.specs.declared.note.NoteFault.TheVariants.{Memory}
use Rattle.psg_cache.proofs.FormedTrees.{formed_is_kind}
use Rattle.psg_cache.proofs.Passing.{passed}
use Rattle.psg_places.proofs.trial.beside.Goals as goal

pub returns-in_err-root-clause-fault : goal.returns-in_err-root-clause-fault
returns-in_err-root-clause-fault g c =
    passed (IsNoteFault c.args.definition.now c.args.tree.now) _ Memory c.from_residual.ensures.1 tt

pub replaced-requires-clause-place : goal.replaced-requires-clause-place
replaced-requires-clause-place g c =
    let def = c.args.definition.now in
    let old = tree_in c.args.old.now in
    let new = c.args.tree.now in
    let (kind, was, is) = c.requires.kinds in
    subst (λ p. MayReplace def old p new) (sym c.in_ok-root.ensures) (record {
      node = old;
      there = refl;
      kind = kind;
      of_kind = formed_is_kind def old kind was;
      formed = is;
    })

pub returns-clause-note : goal.returns-clause-note
returns-clause-note g c =
    subst (λ p. IfOk c.replaced.result (IsNoteOf c.args.definition.now (replaced_at p c.args.tree.now (tree_in c.args.old.now))))
    c.in_ok-root.ensures c.replaced.ensures.note

pub returns-clause-good : goal.returns-clause-good
returns-clause-good g c =
    subst (λ p. IfOk c.replaced.result (TellsOpen c.args.definition.now (replaced_at p c.args.tree.now (tree_in c.args.old.now))))
    c.in_ok-root.ensures c.replaced.ensures.good

pub returns-clause-completions : goal.returns-clause-completions
returns-clause-completions g c =
    subst (λ p. IfOk c.replaced.result
    (TellsCompletable c.args.definition.now (replaced_at p c.args.tree.now (tree_in c.args.old.now)))) c.in_ok-root.ensures
    c.replaced.ensures.completions

pub returns-clause-fault : goal.returns-clause-fault
returns-clause-fault g c =
    subst (λ p. IfErr c.replaced.result (IsNoteFault c.args.definition.now (replaced_at p c.args.tree.now (tree_in c.args.old.now))))
    c.in_ok-root.ensures c.replaced.ensures.fault

pub returns-clause-ticks : goal.returns-clause-ticks
returns-clause-ticks g c =
    subst (λ p. c.replaced.new.steps ≤ c.args.steps.now
    + diff_of (tree_in c.args.old.now) (replaced_at p c.args.tree.now (tree_in c.args.old.now))) c.in_ok-root.ensures
    c.replaced.ensures.ticks
