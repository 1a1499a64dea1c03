use Rattle.std.proofs.Common.{◌∷◌, [], false, sym, subst}
use Rattle.psg_recover.specs.declared.finding.Finding.{Finding}
use Rattle.psg_recover.specs.Findings.{has_error}
use Rattle.psg_lint.specs.Reports.{AreFound, found_limit}
use Rattle.psg_lint.proofs.WrongLaws.{is_sound}
use Rattle.psg_lint.proofs.judging.tell_program.Goals as goal

pub build-requires-clause-sound : goal.build-requires-clause-sound
build-requires-clause-sound g c = is_sound c.args.judged c.requires.judged

pub build-requires-clause-tables : goal.build-requires-clause-tables
build-requires-clause-tables g c = c.requires.judged.tables

pub build-requires-clause-formed : goal.build-requires-clause-formed
build-requires-clause-formed g c = c.requires.judged.formed

pub returns-in_ok-push-in-Err : goal.returns-in_ok-push-in-Err
returns-in_ok-push-in-Err g c = λ r is.
    let j = c.args.judged in
    let (real, e) = c.in_ok-told-in-Err.ensures r is in (
      c.in_ok-told-in-Err.told ∷ [],
      c.in_ok-push-in-Err.ensures.items,
      (
        false,
        subst (λ (x : Finding). AreFound j.definition.now j.text.now j.tree.now r (has_error c.args.found.now.items) false (x ∷ []) false)
            (sym e) (found_limit c.in-Err.fault c.in-Err.ensures.fault real),
      ),
    )
