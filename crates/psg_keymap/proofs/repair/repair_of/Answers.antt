use Rattle.std.proofs.Common.{sym, subst, ◌∙◌}
use Rattle.psg_cache.specs.Notes.{AreTables, IsFormed}
use Rattle.psg_completions.specs.Conditions.{HasTrueRows}
use Rattle.psg_grammar.specs.Sound.{IsSound}
use Rattle.psg_specimen.proofs.TrueRows.{true_rows}
use Rattle.psg_keymap.specs.Repairs.{IsAnswer}
use Rattle.psg_keymap.proofs.RepairLaws.{ticks_in}
use Rattle.psg_keymap.proofs.repair.repair_of.Goals as goal

pub found_by-requires : goal.found_by-requires
found_by-requires g c =
    let same = c.definition-definition.ensures.same in
    record {
      sound = subst IsSound (sym same) c.definition-definition.ensures.sound;
      tables = subst (λ d. AreTables d c.parts-parts.result.now.tables)
          (c.parts-parts.ensures.definition ∙ sym same) c.parts-parts.ensures.parts.tables;
      rows = subst HasTrueRows (sym same) (true_rows c.args.language.now c.definition-definition.ensures.accepted.met);
      formed = subst (λ d. IsFormed d c.args.tree.now) (sym same) c.requires.formed;
    }

pub returns-clause-found : goal.returns-clause-found
returns-clause-found g c =
    subst (λ d. IsAnswer d c.args.tree.now c.in_ok-found.found) c.definition-definition.ensures.same
    c.in_ok-found.ensures.found

pub returns-clause-ticks : goal.returns-clause-ticks
returns-clause-ticks g c =
    ticks_in _ _ c.args.tree.now _ _ c.definition-definition.ensures.same c.in_ok-found.ensures.ticks

pub returns-in_err-found-clause-ticks : goal.returns-in_err-found-clause-ticks
returns-in_err-found-clause-ticks g c =
    ticks_in _ _ c.args.tree.now _ _ c.definition-definition.ensures.same c.in_err-found.ensures.ticks
