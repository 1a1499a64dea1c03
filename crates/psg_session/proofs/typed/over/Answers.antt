use Rattle.std.proofs.Common.{Err, Ok, refl, sym, subst}
use Rattle.psg_script.specs.declared.command.Command.TheVariants.{Over}
use Rattle.psg_session.specs.Outcomes.{IsPlan, IsProposal, MaySpend}
use Rattle.psg_session.specs.Typed.{HasRead, HasTree, IsTextAnswer}
use Rattle.psg_session.proofs.ChangeLaws.{found_formed}
use Rattle.psg_session.proofs.ChangeOver.{made_spends, over_made, over_nowhere, over_refused, read_ticks, refused_spends, unread_ticks}
use Rattle.psg_session.proofs.Stopping.{passed}
use Rattle.psg_session.specs.declared.stop.Stop.TheVariants as stops
use Rattle.psg_session.proofs.typed.over.Goals as goal

pub returns-in_err-found-clause-plan : goal.returns-in_err-found-clause-plan
returns-in_err-found-clause-plan g c =
    passed (IsPlan c.args.language.now.definition c.args.editor.now (Over c.args.place.now c.args.text.now)) _ (stops.Refused c.in_err-found.field-0.0) c.from_residual.ensures.1
    (over_nowhere c.args.language.now.definition c.args.editor.now c.args.place.now c.args.text.now
    c.in_err-found.field-0.0 c.in_err-found.ensures.err)

pub returns-in_err-found-clause-ticks : goal.returns-in_err-found-clause-ticks
returns-in_err-found-clause-ticks g c =
    unread_ticks c.args.language.now.definition c.args.editor.now c.args.place.now c.args.text.now _ _ refl

pub returns-in_err-found-clause-spends : goal.returns-in_err-found-clause-spends
returns-in_err-found-clause-spends g c =
    passed (MaySpend c.args.language.now.definition c.args.editor.now (Over c.args.place.now c.args.text.now)
    c.args.steps.now c.args.steps.now) _ (stops.Refused c.in_err-found.field-0.0) c.from_residual.ensures.1
    (refused_spends c.args.language.now.definition c.args.editor.now c.args.place.now c.args.text.now
    (stops.Refused c.in_err-found.field-0.0) _ _
    (unread_ticks c.args.language.now.definition c.args.editor.now c.args.place.now c.args.text.now _ _ refl))

pub kind_of-kind-requires : goal.kind_of-kind-requires
kind_of-kind-requires g c =
    let formed = found_formed c.args.language.now.definition c.args.editor.now c.args.place.now c.in_ok-found.found
    c.requires.editor c.in_ok-found.ensures.ok in
    record { formed = formed }

pub returns-in_err-new-clause-ticks : goal.returns-in_err-new-clause-ticks
returns-in_err-new-clause-ticks g c =
    let def = c.args.language.now.definition in
    read_ticks def c.args.editor.now c.args.place.now c.args.text.now c.in_ok-found.found c.in_ok-found.ensures.ok _ _
    (subst (λ t. HasRead def t c.args.steps.now c.read_tree.new.steps) c.as_str-typed.ensures
    c.in_err-new.ensures.read)

pub returns-in_err-new-clause-plan : goal.returns-in_err-new-clause-plan
returns-in_err-new-clause-plan g c =
    let def = c.args.language.now.definition in
    passed (IsPlan def c.args.editor.now (Over c.args.place.now c.args.text.now)) _ c.in_err-new.field-0.0
    c.from_residual-in_err-new.ensures.1
    (over_refused def c.args.editor.now c.args.place.now c.args.text.now c.in_ok-found.found c.in_ok-found.ensures.ok
    c.kind_of-kind.result c.kind_of-kind.ensures c.in_err-new.field-0.0
    (subst (λ t. IsTextAnswer def c.kind_of-kind.result t (Err c.in_err-new.field-0.0)) c.as_str-typed.ensures
    c.in_err-new.ensures.answer))

pub returns-in_err-new-clause-spends : goal.returns-in_err-new-clause-spends
returns-in_err-new-clause-spends g c =
    let def = c.args.language.now.definition in
    passed (MaySpend def c.args.editor.now (Over c.args.place.now c.args.text.now) c.args.steps.now
    c.read_tree.new.steps) _ c.in_err-new.field-0.0 c.from_residual-in_err-new.ensures.1
    (refused_spends def c.args.editor.now c.args.place.now c.args.text.now c.in_err-new.field-0.0 _ _
    (read_ticks def c.args.editor.now c.args.place.now c.args.text.now c.in_ok-found.found c.in_ok-found.ensures.ok _ _
    (subst (λ t. HasRead def t c.args.steps.now c.read_tree.new.steps) c.as_str-typed.ensures
    c.in_err-new.ensures.read)))

pub returns-in_err-made-clause-ticks : goal.returns-in_err-made-clause-ticks
returns-in_err-made-clause-ticks g c =
    let def = c.args.language.now.definition in
    read_ticks def c.args.editor.now c.args.place.now c.args.text.now c.in_ok-found.found c.in_ok-found.ensures.ok _ _
    (subst (λ t. HasRead def t c.args.steps.now c.read_tree.new.steps) c.as_str-typed.ensures
    c.in_ok-new.ensures.read)

pub returns-in_err-made-clause-spends : goal.returns-in_err-made-clause-spends
returns-in_err-made-clause-spends g c =
    let def = c.args.language.now.definition in
    passed (MaySpend def c.args.editor.now (Over c.args.place.now c.args.text.now) c.args.steps.now
    c.read_tree.new.steps) _ stops.Memory c.from_residual-in_err-made.ensures.1
    (refused_spends def c.args.editor.now c.args.place.now c.args.text.now stops.Memory _ _
    (read_ticks def c.args.editor.now c.args.place.now c.args.text.now c.in_ok-found.found c.in_ok-found.ensures.ok _ _
    (subst (λ t. HasRead def t c.args.steps.now c.read_tree.new.steps) c.as_str-typed.ensures
    c.in_ok-new.ensures.read)))

pub returns-clause-plan : goal.returns-clause-plan
returns-clause-plan g c =
    let def = c.args.language.now.definition in
    let tree : HasTree def c.kind_of-kind.result c.args.text.now c.in_ok-new.new =
    subst (λ t. IsTextAnswer def c.kind_of-kind.result t (Ok c.in_ok-new.new)) c.as_str-typed.ensures
    c.in_ok-new.ensures.answer in
    subst (IsProposal def c.args.editor.now (Over c.args.place.now c.args.text.now)) (sym c.in_ok-made.ensures)
    (over_made def c.args.editor.now c.args.place.now c.args.text.now c.in_ok-found.found c.in_ok-found.ensures.ok
    c.kind_of-kind.result c.kind_of-kind.ensures c.requires.language.accepted.of_class c.in_ok-new.new tree c.requires.editor)

pub returns-clause-ticks : goal.returns-clause-ticks
returns-clause-ticks g c =
    let def = c.args.language.now.definition in
    read_ticks def c.args.editor.now c.args.place.now c.args.text.now c.in_ok-found.found c.in_ok-found.ensures.ok _ _
    (subst (λ t. HasRead def t c.args.steps.now c.read_tree.new.steps) c.as_str-typed.ensures
    c.in_ok-new.ensures.read)

pub returns-clause-spends : goal.returns-clause-spends
returns-clause-spends g c =
    let def = c.args.language.now.definition in
    let tree : HasTree def c.kind_of-kind.result c.args.text.now c.in_ok-new.new =
    subst (λ t. IsTextAnswer def c.kind_of-kind.result t (Ok c.in_ok-new.new)) c.as_str-typed.ensures
    c.in_ok-new.ensures.answer in
    made_spends def c.args.editor.now c.args.place.now c.args.text.now c.in_ok-found.found c.in_ok-found.ensures.ok
    c.kind_of-kind.result c.kind_of-kind.ensures c.requires.language.accepted.of_class c.in_ok-new.new tree c.in_ok-made.made
    c.in_ok-made.ensures _ _
    (subst (λ t. HasRead def t c.args.steps.now c.read_tree.new.steps) c.as_str-typed.ensures
    c.in_ok-new.ensures.read)
