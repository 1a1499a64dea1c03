use Rattle.std.proofs.Common.{sym, ap, subst, ◌∙◌}
use Rattle.psg_session.specs.Outcomes.{after, IsFit}
use Rattle.psg_session.proofs.Settling.{gone_editor, gone_state}
use Rattle.psg_session.proofs.Stepping.{back_editor, back_state, forward_editor, forward_state}
use Rattle.psg_session.proofs.editor.Editor.settle.Goals as goal

pub returns-in-Changes-clause-state : goal.returns-in-Changes-clause-state
returns-in-Changes-clause-state c =
    gone_state c.args.self.now c.go_on.new.self c.in-Changes.note c.in-Changes.cursor c.in-Changes.mark c.go_on.ensures
    ∙ ap (after c.args.self.now) (sym c.in-Changes.is)

pub returns-in-Changes-clause-editor : goal.returns-in-Changes-clause-editor
returns-in-Changes-clause-editor c = λ def editor fit.
    gone_editor c.args.self.now c.go_on.new.self c.in-Changes.note c.in-Changes.cursor c.in-Changes.mark def
    c.go_on.ensures editor (subst (IsFit def c.args.self.now.opened) c.in-Changes.is fit)

pub returns-in-Undoes-clause-state : goal.returns-in-Undoes-clause-state
returns-in-Undoes-clause-state c =
    back_state c.args.self.now c.go_back.new.self c.in-Undoes.cursor c.in-Undoes.mark c.go_back.ensures
    ∙ ap (after c.args.self.now) (sym c.in-Undoes.is)

pub returns-in-Undoes-clause-editor : goal.returns-in-Undoes-clause-editor
returns-in-Undoes-clause-editor c = λ def editor fit.
    back_editor c.args.self.now c.go_back.new.self c.in-Undoes.cursor def editor c.go_back.ensures

pub returns-in-Redoes-clause-state : goal.returns-in-Redoes-clause-state
returns-in-Redoes-clause-state c =
    forward_state c.args.self.now c.go_forward.new.self c.in-Redoes.cursor c.in-Redoes.mark c.go_forward.ensures
    ∙ ap (after c.args.self.now) (sym c.in-Redoes.is)

pub returns-in-Redoes-clause-editor : goal.returns-in-Redoes-clause-editor
returns-in-Redoes-clause-editor c = λ def editor fit.
    forward_editor c.args.self.now c.go_forward.new.self c.in-Redoes.cursor def editor c.go_forward.ensures

pub returns-in-Goes-clause-state : goal.returns-in-Goes-clause-state
returns-in-Goes-clause-state c = ap (after c.args.self.now) (sym c.in-Goes.is)

pub returns-in-Goes-clause-editor : goal.returns-in-Goes-clause-editor
returns-in-Goes-clause-editor c = λ def editor fit.
    record { earlier = editor.earlier; later = editor.later; saved = editor.saved }
