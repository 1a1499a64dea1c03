use Rattle.std.proofs.Common.{Some, Ok, Err, sym, ap, subst, ◌∙◌, true≢false}
use Rattle.psg_session.specs.declared.judging.Trial.TheVariants.{Opens}
use Rattle.psg_session.specs.Outcomes.{IsJudged, IsOutcome}
use Rattle.psg_session.specs.Sessions.{state_of}
use Rattle.psg_session.specs.Shrinking.{IsSmallFor}
use Rattle.psg_session.proofs.Carrying.{new_declaring, new_opened, new_refused, new_unknown}
use Rattle.psg_session.proofs.NewTrees.{blank_formed}
use Rattle.psg_session.proofs.Opening.{has_kind, one_kind}
use Rattle.psg_session.proofs.Smaller.{blank_small}
use Rattle.psg_session.proofs.Ticking.{new_counted}
use Rattle.psg_script.specs.declared.command.Command.TheVariants.{New}
use Rattle.psg_session.specs.PlainState.{not_asked}
use Rattle.psg_session.proofs.Stopping.{found_by}
use Rattle.psg_session.proofs.editor.open_new.Goals as goal
use Rattle.psg_grammar.specs.WellFormed.{WellFormed}

pub kind_named-requires : goal.kind_named-requires
kind_named-requires g c = c.requires.language.sound

pub returns-in_default-clause-outcome : goal.returns-in_default-clause-outcome
returns-in_default-clause-outcome g c = new_unknown c.args.language.now.definition c.args.editor.now c.args.name.now
    (λ kind named. c.in_default.not-Some kind (c.kind_named.ensures.only kind (named ∙ ap Some (sym c.as_str.ensures))))

pub is_declaring-requires-clause-kind : goal.is_declaring-requires-clause-kind
is_declaring-requires-clause-kind g c = has_kind c.args.language.now.definition c.in-Some.kind c.as_str.result.now c.in-Some.ensures.found

pub blank-requires : goal.blank-requires
blank-requires g c = has_kind c.args.language.now.definition c.in-Some.kind c.as_str.result.now c.in-Some.ensures.found

pub returns-then-is_declaring-clause-outcome : goal.returns-then-is_declaring-clause-outcome
returns-then-is_declaring-clause-outcome g c = new_declaring c.args.language.now.definition c.args.editor.now c.args.name.now c.in-Some.kind
    (c.in-Some.ensures.found ∙ ap Some c.as_str.ensures) (c.is_declaring.ensures.0 c.if-is_declaring.true)

pub note_of-noted-requires-clause-formed : goal.note_of-noted-requires-clause-formed
note_of-noted-requires-clause-formed g c = (
  c.in-Some.kind,
  subst (λ f. WellFormed c.args.language.now.definition f c.in-Some.kind) (sym c.in_ok-tree.ensures)
      (blank_formed c.args.language.now.definition c.in-Some.kind (has_kind c.args.language.now.definition c.in-Some.kind c.as_str.result.now c.in-Some.ensures.found)
      (λ declares. true≢false (sym (c.is_declaring.ensures.1 declares) ∙ c.if-is_declaring.false))),
)

pub returns-in_err-note-clause-ticks : goal.returns-in_err-note-clause-ticks
returns-in_err-note-clause-ticks g c =
    new_counted c.args.language.now.definition (state_of c.args.editor.now) c.args.name.now c.in-Some.kind
    c.in_ok-tree.tree c.in_ok-tree.ensures _ _ c.note_of-noted.ensures.ticks

pub returns-in_err-note-clause-outcome : goal.returns-in_err-note-clause-outcome
returns-in_err-note-clause-outcome g c =
    let def = c.args.language.now.definition in
    let named = c.in-Some.ensures.found ∙ ap Some c.as_str.ensures in
    found_by (IsOutcome def c.args.editor.now not_asked (New c.args.name.now)) _ c.in_err-note.field-0.0
    c.from_residual-in_err-note.ensures.1
    (new_refused def c.args.editor.now c.args.name.now c.in-Some.kind named
    (one_kind def c.requires.language.sound c.in-Some.kind c.args.name.now named)
    (λ declares. true≢false (sym (c.is_declaring.ensures.1 declares) ∙ c.if-is_declaring.false)) c.in_err-note.field-0.0
    (subst (λ f. IsJudged def Opens f (Err c.in_err-note.field-0.0)) c.in_ok-tree.ensures
    (c.in_err-note.ensures.judged def c.in_ok-tree.tree c.note_of-noted.ensures.noted
    (subst (IsSmallFor def Opens) (sym c.in_ok-tree.ensures) (blank_small def c.in-Some.kind)))))

pub returns-in_err-mark-clause-ticks : goal.returns-in_err-mark-clause-ticks
returns-in_err-mark-clause-ticks g c =
    new_counted c.args.language.now.definition (state_of c.args.editor.now) c.args.name.now c.in-Some.kind
    c.in_ok-tree.tree c.in_ok-tree.ensures _ _ c.note_of-noted.ensures.ticks

pub returns-in_err-cursor-clause-ticks : goal.returns-in_err-cursor-clause-ticks
returns-in_err-cursor-clause-ticks g c =
    new_counted c.args.language.now.definition (state_of c.args.editor.now) c.args.name.now c.in-Some.kind
    c.in_ok-tree.tree c.in_ok-tree.ensures _ _ c.note_of-noted.ensures.ticks

pub returns-clause-outcome : goal.returns-clause-outcome
returns-clause-outcome g c =
    let def = c.args.language.now.definition in
    let kind = c.in-Some.kind in
    let named = c.in-Some.ensures.found ∙ ap Some c.as_str.ensures in
    new_opened def c.args.editor.now c.args.name.now kind named
    (one_kind def c.requires.language.sound kind c.args.name.now named)
    (λ declares. true≢false (sym (c.is_declaring.ensures.1 declares) ∙ c.if-is_declaring.false))
    (blank_formed def kind (has_kind def kind c.as_str.result.now c.in-Some.ensures.found)
    (λ declares. true≢false (sym (c.is_declaring.ensures.1 declares) ∙ c.if-is_declaring.false))) c.in_ok-note.note
    (subst (λ f. IsJudged def Opens f (Ok c.in_ok-note.note)) c.in_ok-tree.ensures
    (c.in_ok-note.ensures.judged def c.in_ok-tree.tree c.note_of-noted.ensures.noted
    (subst (IsSmallFor def Opens) (sym c.in_ok-tree.ensures) (blank_small def c.in-Some.kind))))
    c.in_ok-cursor.cursor c.in_ok-cursor.ensures c.in_ok-mark.mark c.in_ok-mark.ensures

pub returns-clause-ticks : goal.returns-clause-ticks
returns-clause-ticks g c =
    new_counted c.args.language.now.definition (state_of c.args.editor.now) c.args.name.now c.in-Some.kind
    c.in_ok-tree.tree c.in_ok-tree.ensures _ _ c.note_of-noted.ensures.ticks
