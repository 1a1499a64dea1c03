use Rattle.std.proofs.Common.{sym, subst}
use Rattle.psg_cache.specs.Completed.{IsByCompletions}
use Rattle.psg_cache.specs.Notes.{IsFormed, IsNoteFault, IsNoteOf}
use Rattle.psg_specimen.proofs.TrueRows.{true_rows}
use Rattle.psg_pointing.proofs.judging.noted.Goals as goal

pub build-requires : goal.build-requires
build-requires g c = record {
  sound = c.parts-parts.ensures.parts.sound;
  tables = c.parts-parts.ensures.parts.tables;
  formed = subst (λ d. IsFormed d c.args.tree.now) (sym c.parts-parts.ensures.definition) c.requires;
}

pub returns-in-Ok-clause-note : goal.returns-in-Ok-clause-note
returns-in-Ok-clause-note g c =
    subst (λ d. IsNoteOf d c.args.tree.now c.in-Ok.note) c.parts-parts.ensures.definition c.in-Ok.ensures.note

pub returns-in-Ok-clause-good : goal.returns-in-Ok-clause-good
returns-in-Ok-clause-good g c =
    subst (λ d. IsByCompletions d c.args.tree.now c.in-Ok.note) c.parts-parts.ensures.definition
    (c.in-Ok.ensures.completions
    (true_rows c.parts-parts.result.now.definition c.parts-parts.ensures.parts.accepted.met))

pub returns-in_ok-check_noted-in-Err-clause-none : goal.returns-in_ok-check_noted-in-Err-clause-none
returns-in_ok-check_noted-in-Err-clause-none g c =
    c.in_ok-check_noted-in-Err.ensures c.args.language.now c.args.tree.now
    (subst (λ d. IsNoteFault d c.args.tree.now c.in-Err.fault) c.parts-parts.ensures.definition c.in-Err.ensures.fault)
