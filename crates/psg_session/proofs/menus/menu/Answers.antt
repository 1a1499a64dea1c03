use Rattle.std.proofs.Common.{[], ◌∷◌, ap, map, sym, ◌∙◌, ◌+◌, ◌≤◌, subst}
use Rattle.psg_terms.specs.Relations.{IsIn}
use Rattle.psg_grammar.specs.Kinds.{op_name_of}
use Rattle.psg_renaming.specs.Occurring.{occurring}
use Rattle.psg_cache.specs.Annotated.{tree_in}
use Rattle.psg_grammar.specs.declared.types.Kind.TheVariants.{Phylum}
use Rattle.psg_grammar.specs.Open.{IsOpen}
use Rattle.psg_eval.specs.Frames.{CanClimb, StandAt}
use Rattle.psg_menu.specs.Answers.{menu_ticks}
use Rattle.psg_menu.specs.Menus.{AreUsed, in_byte_order, operators_of}
use Rattle.psg_script.specs.declared.command.Command.TheVariants.{Menu}
use Rattle.psg_session.specs.Answers.{names_line}
use Rattle.psg_session.specs.Replies.{answered, refused}
use Rattle.psg_session.specs.Stops.{stop_of_focus}
use Rattle.psg_session.specs.declared.replies.Reply.TheVariants.{Refused}
use Rattle.psg_session.proofs.Asking.{Answers, stayed}
use Rattle.psg_session.proofs.EditLaws.{opened_version}
use Rattle.psg_session.proofs.NameWalks.{are_used}
use Rattle.psg_session.proofs.Offers.{in_range, menu_answered, menu_no_place, menu_not_found, menu_stopped, menu_ticked, no_site, site_is}
use Rattle.psg_session.specs.Outcomes.{IsOutcome}
use Rattle.psg_session.specs.PlainState.{not_asked}
use Rattle.psg_session.proofs.Stopping.{found_by, refused_by}
use Rattle.psg_session.proofs.menus.menu.Goals as goal

pub returns-in_err-found-clause-outcome : goal.returns-in_err-found-clause-outcome
returns-in_err-found-clause-outcome g c =
    let def = c.args.language.now.definition in
    let e = c.args.editor.now in
    let place = c.args.place.now in
    let k = c.args.number in
    refused_by (IsOutcome def e not_asked (Menu place k)) _ c.in_err-found.field-0.0 c.from_residual.ensures.1
    (stayed def e (Menu place k) (Refused c.in_err-found.field-0.0) (menu_not_found def e place k c.in_err-found.field-0.0 c.in_err-found.ensures.err))

pub site_of-requires-clause-version : goal.site_of-requires-clause-version
site_of-requires-clause-version g c =
    let f = c.in_ok-found.found in
    (f.held.now.kind, opened_version c.args.language.now.definition c.args.editor.now f.held.now c.requires.editor c.in_ok-found.ensures.ok.held)

pub site_of-requires-clause-node : goal.site_of-requires-clause-node
site_of-requires-clause-node g c = c.in_ok-found.ensures.ok.node

pub returns-in_default-clause-outcome : goal.returns-in_default-clause-outcome
returns-in_default-clause-outcome g c =
    let def = c.args.language.now.definition in
    let e = c.args.editor.now in
    let place = c.args.place.now in
    let k = c.args.number in
    let f = c.in_ok-found.found in
    let found = c.in_ok-found.ensures.ok in
    let tree = tree_in f.held.now.note in
    stayed def e (Menu place k) (Refused c.refusal_at.result)
    (subst (λ r. Answers def e (Menu place k) (refused r)) (sym c.refusal_at.ensures)
    (menu_no_place def e place k f found
    (no_site def tree f.path.now k f.node.now c.in_ok-tried.tried c.in_default.is c.in_ok-tried.ensures)))

pub operators-requires-clause-phylum : goal.operators-requires-clause-phylum
operators-requires-clause-phylum g c =
    let def = c.args.language.now.definition in
    let e = c.args.editor.now in
    let place = c.args.place.now in
    let k = c.args.number in
    let f = c.in_ok-found.found in
    let found = c.in_ok-found.ensures.ok in
    let tree = tree_in f.held.now.note in
    let site = c.in-Some.site in
    let is = site_is def tree f.path.now k f.node.now c.in_ok-tried.tried site c.in-Some.is c.in_ok-tried.ensures in
    is.known

pub operators-requires-clause-frames : goal.operators-requires-clause-frames
operators-requires-clause-frames g c =
    let def = c.args.language.now.definition in
    let e = c.args.editor.now in
    let place = c.args.place.now in
    let k = c.args.number in
    let f = c.in_ok-found.found in
    let found = c.in_ok-found.ensures.ok in
    let tree = tree_in f.held.now.note in
    let site = c.in-Some.site in
    let is = site_is def tree f.path.now k f.node.now c.in_ok-tried.tried site c.in-Some.is c.in_ok-tried.ensures in
    subst (λ a. CanClimb def a (Phylum site.phylum)) (sym c.as_slice-around.ensures.value) is.climb

pub operator_names-requires : goal.operator_names-requires
operator_names-requires g c = λ o i.
    let def = c.args.language.now.definition in
    let e = c.args.editor.now in
    let place = c.args.place.now in
    let k = c.args.number in
    let f = c.in_ok-found.found in
    let found = c.in_ok-found.ensures.ok in
    let tree = tree_in f.held.now.note in
    let site = c.in-Some.site in
    let is = site_is def tree f.path.now k f.node.now c.in_ok-tried.tried site c.in-Some.is c.in_ok-tried.ensures in
    let stand = subst (λ a. StandAt def a f.path.now k tree) (sym c.as_slice-around.ensures.value) is.stand in
    let used = subst (λ u. AreUsed u tree) (sym (c.as_slice.ensures.value ∙ c.in_ok-used.ensures ∙ ap (λ t. in_byte_order (occurring t)) c.tree.ensures)) (are_used tree) in
    in_range def (IsOpen def) tree f.path.now k site.phylum c.in_ok-ops.ops (c.in_ok-ops.ensures.open tree f.path.now k stand used) o
    (subst (IsIn o) c.as_slice-2.ensures.value i)

pub returns-in_err-ops-clause-ticks : goal.returns-in_err-ops-clause-ticks
returns-in_err-ops-clause-ticks g c =
    let def = c.args.language.now.definition in
    let e = c.args.editor.now in
    let place = c.args.place.now in
    let k = c.args.number in
    let f = c.in_ok-found.found in
    let found = c.in_ok-found.ensures.ok in
    let tree = tree_in f.held.now.note in
    let site = c.in-Some.site in
    let is = site_is def tree f.path.now k f.node.now c.in_ok-tried.tried site c.in-Some.is c.in_ok-tried.ensures in
    menu_ticked def e place k f found c.requires.editor site is _ _
    (subst (λ a. c.operators.new.steps ≤ c.args.steps.now + menu_ticks def (operators_of def site.phylum) a) c.as_slice-around.ensures.value c.operators.ensures.ticks)

pub returns-in_err-names-clause-ticks : goal.returns-in_err-names-clause-ticks
returns-in_err-names-clause-ticks g c =
    let def = c.args.language.now.definition in
    let e = c.args.editor.now in
    let place = c.args.place.now in
    let k = c.args.number in
    let f = c.in_ok-found.found in
    let found = c.in_ok-found.ensures.ok in
    let tree = tree_in f.held.now.note in
    let site = c.in-Some.site in
    let is = site_is def tree f.path.now k f.node.now c.in_ok-tried.tried site c.in-Some.is c.in_ok-tried.ensures in
    menu_ticked def e place k f found c.requires.editor site is _ _
    (subst (λ a. c.operators.new.steps ≤ c.args.steps.now + menu_ticks def (operators_of def site.phylum) a) c.as_slice-around.ensures.value c.operators.ensures.ticks)

pub returns-in_err-reply-clause-ticks : goal.returns-in_err-reply-clause-ticks
returns-in_err-reply-clause-ticks g c =
    let def = c.args.language.now.definition in
    let e = c.args.editor.now in
    let place = c.args.place.now in
    let k = c.args.number in
    let f = c.in_ok-found.found in
    let found = c.in_ok-found.ensures.ok in
    let tree = tree_in f.held.now.note in
    let site = c.in-Some.site in
    let is = site_is def tree f.path.now k f.node.now c.in_ok-tried.tried site c.in-Some.is c.in_ok-tried.ensures in
    menu_ticked def e place k f found c.requires.editor site is _ _
    (subst (λ a. c.operators.new.steps ≤ c.args.steps.now + menu_ticks def (operators_of def site.phylum) a) c.as_slice-around.ensures.value c.operators.ensures.ticks)

pub returns-clause-ticks : goal.returns-clause-ticks
returns-clause-ticks g c =
    let def = c.args.language.now.definition in
    let e = c.args.editor.now in
    let place = c.args.place.now in
    let k = c.args.number in
    let f = c.in_ok-found.found in
    let found = c.in_ok-found.ensures.ok in
    let tree = tree_in f.held.now.note in
    let site = c.in-Some.site in
    let is = site_is def tree f.path.now k f.node.now c.in_ok-tried.tried site c.in-Some.is c.in_ok-tried.ensures in
    menu_ticked def e place k f found c.requires.editor site is _ _
    (subst (λ a. c.operators.new.steps ≤ c.args.steps.now + menu_ticks def (operators_of def site.phylum) a) c.as_slice-around.ensures.value c.operators.ensures.ticks)

pub returns-in_err-ops-clause-outcome : goal.returns-in_err-ops-clause-outcome
returns-in_err-ops-clause-outcome g c =
    let def = c.args.language.now.definition in
    let e = c.args.editor.now in
    let place = c.args.place.now in
    let k = c.args.number in
    let f = c.in_ok-found.found in
    let found = c.in_ok-found.ensures.ok in
    let tree = tree_in f.held.now.note in
    let site = c.in-Some.site in
    let is = site_is def tree f.path.now k f.node.now c.in_ok-tried.tried site c.in-Some.is c.in_ok-tried.ensures in
    let stand = subst (λ a. StandAt def a f.path.now k tree) (sym c.as_slice-around.ensures.value) is.stand in
    let used = subst (λ u. AreUsed u tree) (sym (c.as_slice.ensures.value ∙ c.in_ok-used.ensures ∙ ap (λ t. in_byte_order (occurring t)) c.tree.ensures)) (are_used tree) in
    found_by (IsOutcome def e not_asked (Menu place k)) _ (stop_of_focus c.in_err-ops.field-0.0)
    c.from_residual-in_err-ops.ensures.1
    (menu_stopped def e place k f found c.requires.editor site is c.in_err-ops.field-0.0
    (c.in_err-ops.ensures.open tree f.path.now k stand used))

pub returns-clause-outcome : goal.returns-clause-outcome
returns-clause-outcome g c =
    let def = c.args.language.now.definition in
    let e = c.args.editor.now in
    let place = c.args.place.now in
    let k = c.args.number in
    let f = c.in_ok-found.found in
    let found = c.in_ok-found.ensures.ok in
    let tree = tree_in f.held.now.note in
    let site = c.in-Some.site in
    let is = site_is def tree f.path.now k f.node.now c.in_ok-tried.tried site c.in-Some.is c.in_ok-tried.ensures in
    let stand = subst (λ a. StandAt def a f.path.now k tree) (sym c.as_slice-around.ensures.value) is.stand in
    let used = subst (λ u. AreUsed u tree) (sym (c.as_slice.ensures.value ∙ c.in_ok-used.ensures ∙ ap (λ t. in_byte_order (occurring t)) c.tree.ensures)) (are_used tree) in
    menu_answered def e place k f found c.requires.editor site is c.in_ok-ops.ops
    (c.in_ok-ops.ensures.open tree f.path.now k stand used) c.in_ok-names.names.items
    (ap (map (op_name_of def)) (sym c.as_slice-2.ensures.value) ∙ c.in_ok-names.ensures) c.in_ok-reply.reply
    (c.in_ok-reply.ensures ∙ ap (λ ns. answered (names_line ns ∷ [])) c.as_slice-3.ensures.value)
