use Rattle.std.proofs.Common.{[], ◌∙◌, List, Ok, Err, ap, map, subst}
use Rattle.std.specs.Prelude.{string_bytes}
use Rattle.psg_terms.specs.Relations.{IsIn}
use Rattle.psg_terms.specs.Terms.{Term}
use Rattle.psg_focus.specs.Shown.{rows_of}
use Rattle.psg_session.specs.Answers.{rows_lines}
use Rattle.psg_session.specs.Stops.{stop_of_focus}
use Rattle.psg_script.specs.declared.command.Command.TheVariants.{Relation}
use Rattle.psg_session.specs.declared.replies.Reply.TheVariants.{Answered, Refused}
use Rattle.psg_session.proofs.Asking.{own_some, stayed}
use Rattle.psg_session.proofs.RelationLaws.{frames_are, no_frames, own_climbs, own_shown, own_silent, own_ticks, own_usual, related, relation_not_found, shown_sorted, unrelated}
use Rattle.psg_session.specs.Outcomes.{IsOutcome}
use Rattle.psg_session.specs.PlainState.{not_asked}
use Rattle.psg_session.proofs.Stopping.{found_by, refused_by}
use Rattle.psg_session.proofs.relating.relation.Goals as goal

pub returns-in_err-found-clause-outcome : goal.returns-in_err-found-clause-outcome
returns-in_err-found-clause-outcome g c =
    let def = c.args.language.now.definition in
    let place = c.args.place.now in
    refused_by (IsOutcome def c.args.editor.now not_asked (Relation place)) _ c.in_err-found.field-0.0 c.from_residual.ensures.1
    (stayed def c.args.editor.now (Relation place) (Refused c.in_err-found.field-0.0)
    (relation_not_found def c.args.editor.now place c.in_err-found.field-0.0 c.in_err-found.ensures.err))

pub unreachable-requires : goal.unreachable-requires
unreachable-requires g c =
    own_some c.args.language.now.definition c.args.editor.now c.args.place.now c.requires.editor c.in_ok-found.found
    c.in_ok-found.ensures.ok c.in_default.ensures.none

pub unreachable-requires-in_default-framed : goal.unreachable-requires-in_default-framed
unreachable-requires-in_default-framed g c =
    let f = c.in_ok-found.found in
    own_some c.args.language.now.definition c.args.editor.now c.args.place.now c.requires.editor f c.in_ok-found.ensures.ok
    (no_frames f.held.now.note f.path.now c.in_ok-framed.framed c.in_default-framed.is c.in_ok-framed.ensures)

pub relation_at-requires-clause-tables : goal.relation_at-requires-clause-tables
relation_at-requires-clause-tables g c = c.requires.language.tables

pub relation_at-requires-clause-own : goal.relation_at-requires-clause-own
relation_at-requires-clause-own g c =
    let f = c.in_ok-found.found in
    let are = frames_are f.held.now.note f.path.now c.in_ok-framed.framed c.in-Some-framed.frames c.as_slice-around.result.now c.in-Some-framed.is c.as_slice-around.ensures.value c.in_ok-framed.ensures in
    own_usual c.args.language.now.definition c.args.editor.now c.args.place.now f c.in_ok-found.ensures.ok c.requires.editor c.in-Some.summary.now c.in-Some.ensures.some c.as_slice-around.result.now are

pub relation_at-requires-clause-silent : goal.relation_at-requires-clause-silent
relation_at-requires-clause-silent g c =
    let f = c.in_ok-found.found in
    let are = frames_are f.held.now.note f.path.now c.in_ok-framed.framed c.in-Some-framed.frames c.as_slice-around.result.now c.in-Some-framed.is c.as_slice-around.ensures.value c.in_ok-framed.ensures in
    own_silent c.args.language.now.definition c.args.editor.now c.args.place.now f c.in_ok-found.ensures.ok c.requires.editor c.in-Some.summary.now c.in-Some.ensures.some c.as_slice-around.result.now are

pub relation_at-requires-clause-frames : goal.relation_at-requires-clause-frames
relation_at-requires-clause-frames g c =
    let f = c.in_ok-found.found in
    let are = frames_are f.held.now.note f.path.now c.in_ok-framed.framed c.in-Some-framed.frames c.as_slice-around.result.now c.in-Some-framed.is c.as_slice-around.ensures.value c.in_ok-framed.ensures in
    own_climbs c.args.language.now.definition c.args.editor.now c.args.place.now f c.in_ok-found.ensures.ok c.requires.editor c.in-Some.summary.now c.in-Some.ensures.some c.as_slice-around.result.now are

pub terms_lines-requires : goal.terms_lines-requires
terms_lines-requires g c = λ t i.
    shown_sorted c.args.language.now.definition.signature c.in_ok-shown.shown.items c.in_ok-shown.ensures.sorted t
    (subst (IsIn t) c.as_slice.ensures.value i)

pub returns-in_err-shown-clause-ticks : goal.returns-in_err-shown-clause-ticks
returns-in_err-shown-clause-ticks g c =
    let f = c.in_ok-found.found in
    let are = frames_are f.held.now.note f.path.now c.in_ok-framed.framed c.in-Some-framed.frames c.as_slice-around.result.now c.in-Some-framed.is c.as_slice-around.ensures.value c.in_ok-framed.ensures in
    own_ticks c.args.language.now.definition c.args.editor.now c.args.place.now f c.in_ok-found.ensures.ok c.requires.editor c.in-Some.summary.now c.in-Some.ensures.some c.as_slice-around.result.now are _ _
    c.relation_at.ensures.ticks

pub returns-in_err-lines-clause-ticks : goal.returns-in_err-lines-clause-ticks
returns-in_err-lines-clause-ticks g c =
    let f = c.in_ok-found.found in
    let are = frames_are f.held.now.note f.path.now c.in_ok-framed.framed c.in-Some-framed.frames c.as_slice-around.result.now c.in-Some-framed.is c.as_slice-around.ensures.value c.in_ok-framed.ensures in
    own_ticks c.args.language.now.definition c.args.editor.now c.args.place.now f c.in_ok-found.ensures.ok c.requires.editor c.in-Some.summary.now c.in-Some.ensures.some c.as_slice-around.result.now are _ _
    c.relation_at.ensures.ticks

pub returns-clause-ticks : goal.returns-clause-ticks
returns-clause-ticks g c =
    let f = c.in_ok-found.found in
    let are = frames_are f.held.now.note f.path.now c.in_ok-framed.framed c.in-Some-framed.frames c.as_slice-around.result.now c.in-Some-framed.is c.as_slice-around.ensures.value c.in_ok-framed.ensures in
    own_ticks c.args.language.now.definition c.args.editor.now c.args.place.now f c.in_ok-found.ensures.ok c.requires.editor c.in-Some.summary.now c.in-Some.ensures.some c.as_slice-around.result.now are _ _
    c.relation_at.ensures.ticks

pub returns-in_err-shown-clause-outcome : goal.returns-in_err-shown-clause-outcome
returns-in_err-shown-clause-outcome g c =
    let def = c.args.language.now.definition in
    let e = c.args.editor.now in
    let place = c.args.place.now in
    let f = c.in_ok-found.found in
    let are = frames_are f.held.now.note f.path.now c.in_ok-framed.framed c.in-Some-framed.frames c.as_slice-around.result.now c.in-Some-framed.is c.as_slice-around.ensures.value c.in_ok-framed.ensures in
    found_by (IsOutcome def e not_asked (Relation place)) _ (stop_of_focus c.in_err-shown.field-0.0)
    c.from_residual-in_err-shown.ensures.1
    (unrelated def e place f c.in_ok-found.ensures.ok c.in_err-shown.field-0.0
    (own_shown def e place f c.in_ok-found.ensures.ok c.requires.editor c.in-Some.summary.now c.in-Some.ensures.some
    c.as_slice-around.result.now are (Err c.in_err-shown.field-0.0) c.in_err-shown.ensures.shown))

pub returns-clause-outcome : goal.returns-clause-outcome
returns-clause-outcome g c =
    let def = c.args.language.now.definition in
    let e = c.args.editor.now in
    let place = c.args.place.now in
    let f = c.in_ok-found.found in
    let are = frames_are f.held.now.note f.path.now c.in_ok-framed.framed c.in-Some-framed.frames c.as_slice-around.result.now c.in-Some-framed.is c.as_slice-around.ensures.value c.in_ok-framed.ensures in
    stayed def e (Relation place) (Answered c.in_ok-lines.lines)
    (related def e place f c.in_ok-found.ensures.ok c.in_ok-shown.shown
    (own_shown def e place f c.in_ok-found.ensures.ok c.requires.editor c.in-Some.summary.now c.in-Some.ensures.some
    c.as_slice-around.result.now are (Ok c.in_ok-shown.shown) c.in_ok-shown.ensures.shown)
    (map string_bytes c.in_ok-lines.lines.items)
    (c.in_ok-lines.ensures ∙ ap (λ (ts : List Term). rows_lines def.signature [] (rows_of ts)) c.as_slice.ensures.value))
