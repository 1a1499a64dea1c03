use Rattle.std.proofs.Common.{Option, sym, ◌∙◌, ap, subst}
use Rattle.psg_cache.specs.Notes.{IsNoteOf}
use Rattle.psg_cache.specs.Annotated.{tree_in}
use Rattle.psg_grammar.specs.declared.types.Definition.{Definition}
use Rattle.psg_session.specs.declared.editor.OpenedTree.{OpenedTree}
use Rattle.psg_session.specs.Sessions.{opened_of, state_of}
use Rattle.psg_run.proofs.Saying.{note_alike, nothing_said, nothing_spent, opened_said, opened_spent}
use Rattle.psg_run.proofs.explaining.opened_text.Goals as goal

pub noted_text-requires : goal.noted_text-requires
noted_text-requires g c =
    let (old, opened, noted) = c.in-Some.ensures.noted in
    subst (λ (d : Definition). IsNoteOf d (tree_in c.in-Some.note.now) c.in-Some.note.now) (sym c.language.ensures.same)
    (note_alike c.args.session.now.language old.tree c.in-Some.note.now noted)

pub returns-in-Some-clause-text : goal.returns-in-Some-clause-text
returns-in-Some-clause-text g c =
    let (old, opened, noted) = c.in-Some.ensures.noted in
    opened_said (state_of c.args.session.now.editor).opened c.args.session.now.language c.language.result.now old (tree_in c.in-Some.note.now) opened noted.tree c.language.ensures.same
    c.noted_text.result c.noted_text.ensures.text

pub returns-in-Some-clause-ticks : goal.returns-in-Some-clause-ticks
returns-in-Some-clause-ticks g c =
    let (old, opened, noted) = c.in-Some.ensures.noted in
    opened_spent (state_of c.args.session.now.editor).opened old (tree_in c.in-Some.note.now) c.args.steps.now c.noted_text.new.steps opened noted.tree c.noted_text.ensures.ticks

pub returns-in-None-clause-text : goal.returns-in-None-clause-text
returns-in-None-clause-text g c =
    nothing_said (state_of c.args.session.now.editor).opened c.args.session.now.language (ap (λ (o : Option OpenedTree). opened_of o) c.in-None.ensures.noted)
    c.from_str.result c.from_str.ensures.ok

pub returns-in-None-clause-ticks : goal.returns-in-None-clause-ticks
returns-in-None-clause-ticks g c =
    nothing_spent (state_of c.args.session.now.editor).opened c.args.steps.now (ap (λ (o : Option OpenedTree). opened_of o) c.in-None.ensures.noted)
