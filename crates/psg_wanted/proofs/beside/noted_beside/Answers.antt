use Rattle.std.proofs.Common.{◌+◌, ◌≤◌, refl, sym, subst}
use Rattle.psg_grammar.specs.Paths.{replaced as replaced_at}
use Rattle.psg_cache.specs.Annotated.{tree_in}
use Rattle.psg_cache.specs.Diff.{diff_of}
use Rattle.psg_cache.specs.Edits.{MayReplace}
use Rattle.psg_cache.specs.Notes.{IsNoteFault, IsNoteOf, TellsOpen}
use Rattle.psg_cache.proofs.FormedTrees.{formed_is_kind}
use Rattle.psg_wanted.proofs.ValueLaws.{fault_told}
use Rattle.psg_wanted.proofs.beside.noted_beside.Goals as goal

pub replaced-requires-clause-place : goal.replaced-requires-clause-place
replaced-requires-clause-place g c =
    let def = c.args.definition.now in
    let old = tree_in c.args.old.now in
    let new = c.args.tree.now in
    let (kind, was, is) = c.requires.kinds in
    subst (λ p. MayReplace def old p new) (sym c.in_ok-root.ensures) (record {
      node = old;
      there = refl;
      kind = kind;
      of_kind = formed_is_kind def old kind was;
      formed = is;
    })

pub returns-in-Ok-clause-note : goal.returns-in-Ok-clause-note
returns-in-Ok-clause-note g c =
    subst (λ p. IsNoteOf c.args.definition.now (replaced_at p c.args.tree.now (tree_in c.args.old.now)) c.in-Ok.note)
    c.in_ok-root.ensures c.in-Ok.ensures.note

pub returns-in-Ok-clause-open : goal.returns-in-Ok-clause-open
returns-in-Ok-clause-open g c =
    subst (λ p. TellsOpen c.args.definition.now (replaced_at p c.args.tree.now (tree_in c.args.old.now)) c.in-Ok.note)
    c.in_ok-root.ensures c.in-Ok.ensures.good

pub returns-in-Ok-clause-ticks : goal.returns-in-Ok-clause-ticks
returns-in-Ok-clause-ticks g c =
    subst (λ p. c.replaced.new.steps ≤ c.args.steps.now
    + diff_of (tree_in c.args.old.now) (replaced_at p c.args.tree.now (tree_in c.args.old.now))) c.in_ok-root.ensures
    c.replaced.ensures.ticks

pub returns-in_err-none-in-Err-clause-ticks : goal.returns-in_err-none-in-Err-clause-ticks
returns-in_err-none-in-Err-clause-ticks g c =
    subst (λ p. c.replaced.new.steps ≤ c.args.steps.now
    + diff_of (tree_in c.args.old.now) (replaced_at p c.args.tree.now (tree_in c.args.old.now))) c.in_ok-root.ensures
    c.replaced.ensures.ticks

pub returns-clause-none : goal.returns-clause-none
returns-clause-none g c = λ e.
    fault_told c.args.definition.now c.args.tree.now c.in-Err.fault c.in_ok-none-in-Err.ensures.some
    (subst (λ p. IsNoteFault c.args.definition.now (replaced_at p c.args.tree.now (tree_in c.args.old.now)) c.in-Err.fault)
    c.in_ok-root.ensures c.in-Err.ensures.fault)
