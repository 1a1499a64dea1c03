use Rattle.std.proofs.Common.{◌∙◌, Ok, inl, inr, ap₂, refl, subst}
use Rattle.psg_session.specs.declared.changes.Proposal.{Proposal}
use Rattle.psg_session.specs.declared.editor.OpenedTree.{OpenedTree}
use Rattle.psg_session.proofs.Printouts.{one_made}
use Rattle.psg_session.proofs.StepLaws.{some_once}
use Rattle.psg_session.specs.Outcomes.{IsJudged, IsOutcome, IsProposal, IsPlan}
use Rattle.psg_session.specs.Edits.{edited}
use Rattle.psg_session.specs.PlainState.{not_asked}
use Rattle.psg_session.specs.Sessions.{state_of}
use Rattle.psg_cache.specs.Annotated.{tree_in}
use Rattle.psg_session.proofs.Carrying.{changed_here, may_here, refused_here, refused_plan, small_here, ticks_here}
use Rattle.psg_session.proofs.EditLaws.{opened_version}
use Rattle.psg_session.proofs.Stopping.{found_by}
use Rattle.psg_session.proofs.Ticking.{quiet}
use Rattle.psg_session.proofs.editor.carry_out.Goals as goal

pub returns-in_err-made-clause-outcome : goal.returns-in_err-made-clause-outcome
returns-in_err-made-clause-outcome g c = λ command plan.
    let def = c.args.language.now.definition in
    found_by (IsOutcome def c.args.editor.now not_asked command) _ c.in_err-made.field-0.0 c.from_residual.ensures.1
    (refused_plan def c.args.editor.now command c.in_err-made.field-0.0
    (subst (IsPlan def c.args.editor.now command) c.in_err-made.was plan))

pub returns-in_err-made-clause-ticks : goal.returns-in_err-made-clause-ticks
returns-in_err-made-clause-ticks g c = λ command plan.
    quiet c.args.language.now.definition (state_of c.args.editor.now) command _ _ refl

pub returns-in_err-made-clause-spends : goal.returns-in_err-made-clause-spends
returns-in_err-made-clause-spends g c = inl refl

pub unreachable-requires : goal.unreachable-requires
unreachable-requires g c =
    let (command, plan) = c.requires.plan in
    let made : IsProposal c.args.language.now.definition c.args.editor.now command c.in_ok-made.made =
    subst (IsPlan c.args.language.now.definition c.args.editor.now command) c.in_ok-made.was plan in
    c.in_default.not-Some made.held made.opened

pub note_after-noted-requires-clause-noted : goal.note_after-noted-requires-clause-noted
note_after-noted-requires-clause-noted g c =
    (opened_version c.args.language.now.definition c.args.editor.now c.in-Some.held c.requires.editor c.in-Some.is).noted

pub note_after-noted-requires-clause-may : goal.note_after-noted-requires-clause-may
note_after-noted-requires-clause-may g c =
    let (command, plan) = c.requires.plan in
    may_here c.args.language.now.definition c.args.editor.now command c.in_ok-made.made
    (subst (IsPlan c.args.language.now.definition c.args.editor.now command) c.in_ok-made.was plan)
    c.in-Some.held c.in-Some.is

pub returns-in_err-note-clause-outcome : goal.returns-in_err-note-clause-outcome
returns-in_err-note-clause-outcome g c = λ command plan.
    let def = c.args.language.now.definition in
    let m = subst (IsPlan def c.args.editor.now command) c.in_ok-made.was plan in
    let f = edited c.in_ok-made.made.edit (tree_in c.in-Some.held.note) in
    found_by (IsOutcome def c.args.editor.now not_asked command) _ c.in_err-note.field-0.0
    c.from_residual-in_err-note.ensures.1
    (refused_here def c.args.editor.now command c.in_ok-made.made m c.in-Some.held c.in-Some.is
    c.in_err-note.field-0.0 (c.in_err-note.ensures.judged def f c.note_after-noted.ensures.noted
    (small_here def c.args.editor.now command c.in_ok-made.made m c.in-Some.held c.in-Some.is c.requires.editor)))

pub returns-in_err-note-clause-ticks : goal.returns-in_err-note-clause-ticks
returns-in_err-note-clause-ticks g c = λ command plan.
    ticks_here c.args.language.now.definition c.args.editor.now command c.in_ok-made.made
    (subst (IsPlan c.args.language.now.definition c.args.editor.now command) c.in_ok-made.was plan)
    c.in-Some.held c.in-Some.is _ _ c.note_after-noted.ensures.ticks

pub returns-in_err-mark-clause-ticks : goal.returns-in_err-mark-clause-ticks
returns-in_err-mark-clause-ticks g c = λ command plan.
    ticks_here c.args.language.now.definition c.args.editor.now command c.in_ok-made.made
    (subst (IsPlan c.args.language.now.definition c.args.editor.now command) c.in_ok-made.was plan)
    c.in-Some.held c.in-Some.is _ _ c.note_after-noted.ensures.ticks

pub returns-clause-outcome : goal.returns-clause-outcome
returns-clause-outcome g c = λ command plan.
    let def = c.args.language.now.definition in
    let m = subst (IsPlan def c.args.editor.now command) c.in_ok-made.was plan in
    let f = edited c.in_ok-made.made.edit (tree_in c.in-Some.held.note) in
    changed_here def c.args.editor.now command c.in_ok-made.made m c.in-Some.held c.in-Some.is c.requires.editor
    c.in_ok-note.note (c.in_ok-note.ensures.judged def f c.note_after-noted.ensures.noted
    (small_here def c.args.editor.now command c.in_ok-made.made m c.in-Some.held c.in-Some.is c.requires.editor))
    c.in_ok-mark.mark c.in_ok-mark.ensures

pub returns-clause-ticks : goal.returns-clause-ticks
returns-clause-ticks g c = λ command plan.
    ticks_here c.args.language.now.definition c.args.editor.now command c.in_ok-made.made
    (subst (IsPlan c.args.language.now.definition c.args.editor.now command) c.in_ok-made.was plan)
    c.in-Some.held c.in-Some.is _ _ c.note_after-noted.ensures.ticks

pub returns-in_err-note-clause-spends : goal.returns-in_err-note-clause-spends
returns-in_err-note-clause-spends g c =
    inr (c.in_ok-made.made, c.in_ok-made.was, c.in-Some.held, c.in-Some.is, c.note_after-noted.ensures.ticks)

pub returns-in_err-mark-clause-spends : goal.returns-in_err-mark-clause-spends
returns-in_err-mark-clause-spends g c =
    inr (c.in_ok-made.made, c.in_ok-made.was, c.in-Some.held, c.in-Some.is, c.note_after-noted.ensures.ticks)

pub returns-clause-spends : goal.returns-clause-spends
returns-clause-spends g c =
    inr (c.in_ok-made.made, c.in_ok-made.was, c.in-Some.held, c.in-Some.is, c.note_after-noted.ensures.ticks)

pub returns-clause-version : goal.returns-clause-version
returns-clause-version g c = λ held made opened makes.
    let (command, plan) = c.requires.plan in
    let def = c.args.language.now.definition in
    let m = subst (IsPlan def c.args.editor.now command) c.in_ok-made.was plan in
    let f = edited c.in_ok-made.made.edit (tree_in c.in-Some.held.note) in
    let judged : IsJudged def c.in_ok-made.made.trial f (Ok c.in_ok-note.note) =
    c.in_ok-note.ensures.judged def f c.note_after-noted.ensures.noted
    (small_here def c.args.editor.now command c.in_ok-made.made m c.in-Some.held c.in-Some.is c.requires.editor) in
    judged.0.tree
    ∙ ap₂ (λ (h : OpenedTree) (p : Proposal). edited p.edit (tree_in h.note))
    (some_once c.in-Some.held held c.args.editor.now.opened c.in-Some.is opened)
    (one_made c.args.plan c.in_ok-made.made made c.in_ok-made.was makes)
