use Rattle.std.proofs.Common.{Some, ap, ◌∙◌}
use Rattle.psg_cache.specs.Annotated.{Annotated}
use Rattle.psg_asking.proofs.ProgramLaws.{held_in, same_state, session_of}
use Rattle.psg_asking.proofs.program.editor_of.Goals as goal

pub returns-clause-state : goal.returns-clause-state
returns-clause-state c =
    same_state c.args.program.kind c.args.program.note.now c.in_ok-note.note c.in_ok-cursor.cursor c.in_ok-history.history
    c.of-saved.result c.in_ok-note.ensures c.in_ok-cursor.ensures c.in_ok-history.ensures.earlier
    c.in_ok-history.ensures.later (c.of-saved.ensures ∙ c.new-none.ensures.items)

pub returns-clause-session : goal.returns-clause-session
returns-clause-session c =
    session_of c.args.program.language.now c.args.program.kind c.args.program.note.now c.requires _
    (ap (λ (n : Annotated). Some (held_in c.args.program.kind n)) c.in_ok-note.ensures)
    c.in_ok-history.ensures.earlier c.in_ok-history.ensures.later (c.of-saved.ensures ∙ c.new-none.ensures.items)
    (same_state c.args.program.kind c.args.program.note.now c.in_ok-note.note c.in_ok-cursor.cursor
    c.in_ok-history.history c.of-saved.result c.in_ok-note.ensures c.in_ok-cursor.ensures
    c.in_ok-history.ensures.earlier c.in_ok-history.ensures.later (c.of-saved.ensures ∙ c.new-none.ensures.items))
