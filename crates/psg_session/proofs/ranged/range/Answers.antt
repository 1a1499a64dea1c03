use Rattle.std.proofs.Common.{refl, sym, ap, subst}
use Rattle.std.specs.Option.{option_copied}
use Rattle.psg_script.specs.declared.command.Command.TheVariants.{Range}
use Rattle.psg_session.specs.Outcomes.{IsPlan, IsProposal, MaySpend}
use Rattle.psg_session.specs.RangeAnswers.{HasChange}
use Rattle.psg_session.specs.Ranged.{replacing}
use Rattle.psg_session.specs.Sessions.{plain}
use Rattle.psg_session.proofs.ChangeRange.{held_formed, held_printable, held_shallow, range_made, range_refused, range_refused_spends, range_spends, range_ticks, range_unopened, range_unread}
use Rattle.psg_session.proofs.Printouts.{is_printed, never_none}
use Rattle.psg_session.proofs.Options.{only_none}
use Rattle.psg_session.proofs.Stopping.{passed}
use Rattle.psg_session.specs.declared.stop.Stop.TheVariants as stops
use Rattle.psg_session.specs.Stops.{stop_of_text}
use Rattle.psg_session.proofs.ranged.range.Goals as goal

pub returns-in_default-clause-plan : goal.returns-in_default-clause-plan
returns-in_default-clause-plan g c =
    range_unopened c.args.language.now.definition c.args.editor.now c.args.start c.args.end c.args.text.now
    (only_none c.args.editor.now.opened c.in_default.not-Some)

pub returns-in_default-clause-ticks : goal.returns-in_default-clause-ticks
returns-in_default-clause-ticks g c =
    range_unread c.args.language.now.definition c.args.editor.now c.args.start c.args.end c.args.text.now _ _ refl

pub returns-in_default-clause-spends : goal.returns-in_default-clause-spends
returns-in_default-clause-spends g c =
    range_refused_spends c.args.language.now.definition c.args.editor.now c.args.start c.args.end c.args.text.now _ _ _
    (range_unread c.args.language.now.definition c.args.editor.now c.args.start c.args.end c.args.text.now _ _ refl)

pub unreachable-requires : goal.unreachable-requires
unreachable-requires g c =
    never_none c.args.language.now.definition c.args.editor.now c.in-Some.held c.in-Some.is
    (option_copied c.args.printed) c.requires.printed (ap option_copied c.in_default-printed.is)

pub read_change-requires-clause-printed : goal.read_change-requires-clause-printed
read_change-requires-clause-printed g c =
    is_printed c.args.language.now.definition c.args.editor.now c.in-Some.held c.in-Some.is
    (option_copied c.args.printed) c.requires.printed c.in-Some-printed.printed.now
    (ap option_copied c.in-Some-printed.is)

pub read_change-requires-clause-formed : goal.read_change-requires-clause-formed
read_change-requires-clause-formed g c =
    held_formed c.args.language.now.definition c.args.editor.now c.args.start c.args.end c.args.text.now c.in-Some.held
    c.in-Some.is c.requires.editor c.requires.formed

pub read_change-requires-clause-printable : goal.read_change-requires-clause-printable
read_change-requires-clause-printable g c =
    held_printable c.args.language.now.definition c.args.editor.now c.args.start c.args.end c.args.text.now c.in-Some.held
    c.in-Some.is c.requires.editor c.requires.formed

pub read_change-requires-clause-shallow : goal.read_change-requires-clause-shallow
read_change-requires-clause-shallow g c =
    held_shallow c.args.language.now.definition c.args.editor.now c.args.start c.args.end c.args.text.now c.in-Some.held
    c.in-Some.is c.requires.editor c.requires.formed

pub returns-clause-plan : goal.returns-clause-plan
returns-clause-plan g c =
    let def = c.args.language.now.definition in
    let change : HasChange def (replacing c.args.start c.args.end c.args.text.now) (plain c.in-Some.held) c.in_ok-change.change =
    c.in_ok-change.ensures.answer in
    subst (IsProposal def c.args.editor.now (Range c.args.start c.args.end c.args.text.now)) (sym c.in_ok-made.ensures)
    (range_made def c.args.editor.now c.args.start c.args.end c.args.text.now c.in-Some.held c.in-Some.is
    c.requires.language.accepted.of_class c.in_ok-change.change change)

pub returns-clause-ticks : goal.returns-clause-ticks
returns-clause-ticks g c =
    let def = c.args.language.now.definition in
    range_ticks def c.args.editor.now c.args.start c.args.end c.args.text.now c.in-Some.held
    c.in-Some.is _ _
    c.in_ok-change.ensures.ticks

pub returns-clause-spends : goal.returns-clause-spends
returns-clause-spends g c =
    let def = c.args.language.now.definition in
    let change : HasChange def (replacing c.args.start c.args.end c.args.text.now) (plain c.in-Some.held) c.in_ok-change.change =
    c.in_ok-change.ensures.answer in
    range_spends def c.args.editor.now c.args.start c.args.end c.args.text.now c.in-Some.held c.in-Some.is
    c.requires.language.accepted.of_class c.in_ok-change.change change c.in_ok-made.made c.in_ok-made.ensures _ _
    c.in_ok-change.ensures.ticks

pub returns-in_err-made-clause-ticks : goal.returns-in_err-made-clause-ticks
returns-in_err-made-clause-ticks g c =
    let def = c.args.language.now.definition in
    range_ticks def c.args.editor.now c.args.start c.args.end c.args.text.now c.in-Some.held
    c.in-Some.is _ _
    c.in_ok-change.ensures.ticks

pub returns-in_err-made-clause-spends : goal.returns-in_err-made-clause-spends
returns-in_err-made-clause-spends g c =
    let def = c.args.language.now.definition in
    passed (MaySpend def c.args.editor.now (Range c.args.start c.args.end c.args.text.now) c.args.steps.now
    c.read_change.new.steps) _ stops.Memory c.from_residual-in_err-made.ensures.1
    (range_refused_spends def c.args.editor.now c.args.start c.args.end c.args.text.now stops.Memory _ _
    (range_ticks def c.args.editor.now c.args.start c.args.end c.args.text.now c.in-Some.held
    c.in-Some.is _ _
    c.in_ok-change.ensures.ticks))

pub returns-in_err-change-clause-plan : goal.returns-in_err-change-clause-plan
returns-in_err-change-clause-plan g c =
    let def = c.args.language.now.definition in
    passed (IsPlan def c.args.editor.now (Range c.args.start c.args.end c.args.text.now)) _
    (stop_of_text c.in_err-change.field-0.0) c.from_residual.ensures.1
    (range_refused def c.args.editor.now c.args.start c.args.end c.args.text.now c.in-Some.held c.in-Some.is
    c.in_err-change.field-0.0
    (c.in_err-change.ensures.answer))

pub returns-in_err-change-clause-ticks : goal.returns-in_err-change-clause-ticks
returns-in_err-change-clause-ticks g c =
    let def = c.args.language.now.definition in
    range_ticks def c.args.editor.now c.args.start c.args.end c.args.text.now c.in-Some.held
    c.in-Some.is _ _
    c.in_err-change.ensures.ticks

pub returns-in_err-change-clause-spends : goal.returns-in_err-change-clause-spends
returns-in_err-change-clause-spends g c =
    let def = c.args.language.now.definition in
    passed (MaySpend def c.args.editor.now (Range c.args.start c.args.end c.args.text.now) c.args.steps.now
    c.read_change.new.steps) _ (stop_of_text c.in_err-change.field-0.0) c.from_residual.ensures.1
    (range_refused_spends def c.args.editor.now c.args.start c.args.end c.args.text.now (stop_of_text c.in_err-change.field-0.0) _ _
    (range_ticks def c.args.editor.now c.args.start c.args.end c.args.text.now c.in-Some.held
    c.in-Some.is _ _
    c.in_err-change.ensures.ticks))
