use Rattle.std.proofs.Common.{IfOk, IfErr, sym, subst}
use Rattle.psg_cache.specs.Annotated.{tree_in}
use Rattle.psg_cache.specs.Notes.{IsNoteOf, IsNoteFault}
use Rattle.psg_session.specs.declared.edits.Edit.{Edit}
use Rattle.psg_session.specs.Edits.{edited}
use Rattle.psg_session.proofs.Verdicts.{noted_by}
use Rattle.psg_session.proofs.noting.note_after.Goals as goal

pub returns-in-Put-clause-noted : goal.returns-in-Put-clause-noted
returns-in-Put-clause-noted g c =
    let def = c.args.language.now.definition in
    let old = tree_in c.args.note.now in
    noted_by def (edited c.args.edit.now old) c.replaced.result
    (subst (λ (e : Edit). IfOk c.replaced.result (IsNoteOf def (edited e old))) (sym c.in-Put.is) c.replaced.ensures.note)
    (subst (λ (e : Edit). IfErr c.replaced.result (IsNoteFault def (edited e old))) (sym c.in-Put.is) c.replaced.ensures.fault)

pub returns-in-Add-clause-noted : goal.returns-in-Add-clause-noted
returns-in-Add-clause-noted g c =
    let def = c.args.language.now.definition in
    let old = tree_in c.args.note.now in
    noted_by def (edited c.args.edit.now old) c.inserted.result
    (subst (λ (e : Edit). IfOk c.inserted.result (IsNoteOf def (edited e old))) (sym c.in-Add.is) c.inserted.ensures.note)
    (subst (λ (e : Edit). IfErr c.inserted.result (IsNoteFault def (edited e old))) (sym c.in-Add.is) c.inserted.ensures.fault)

pub returns-in-Take-clause-noted : goal.returns-in-Take-clause-noted
returns-in-Take-clause-noted g c =
    let def = c.args.language.now.definition in
    let old = tree_in c.args.note.now in
    noted_by def (edited c.args.edit.now old) c.removed.result
    (subst (λ (e : Edit). IfOk c.removed.result (IsNoteOf def (edited e old))) (sym c.in-Take.is) c.removed.ensures.note)
    (subst (λ (e : Edit). IfErr c.removed.result (IsNoteFault def (edited e old))) (sym c.in-Take.is) c.removed.ensures.fault)
