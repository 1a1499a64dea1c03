use Rattle.std.proofs.Common.{[], ◌∷◌, ap, sym, ◌∙◌, ◌+◌, ◌≤◌, subst}
use Rattle.std.specs.List.{AllByRecursion}
use Rattle.psg_grammar.specs.WellFormed.{IsName}
use Rattle.psg_renaming.specs.Occurring.{occurring}
use Rattle.psg_cache.specs.Annotated.{tree_in}
use Rattle.psg_grammar.specs.declared.types.Kind.TheVariants.{Phylum}
use Rattle.psg_eval.specs.Frames.{CanClimb, StandAt}
use Rattle.psg_menu.specs.Answers.{names_ticks}
use Rattle.psg_menu.specs.Menus.{in_byte_order}
use Rattle.psg_script.specs.declared.command.Command.TheVariants.{Names}
use Rattle.std.specs.Prelude.{Err, Ok}
use Rattle.psg_session.specs.Offering.{IsNamingAnswer}
use Rattle.psg_session.specs.Answers.{names_line}
use Rattle.psg_session.specs.Replies.{answered, refused}
use Rattle.psg_session.specs.Stops.{stop_of_focus}
use Rattle.psg_session.specs.declared.replies.Reply.TheVariants.{Refused}
use Rattle.psg_session.proofs.Asking.{Answers, stayed}
use Rattle.psg_session.proofs.EditLaws.{opened_version}
use Rattle.psg_session.proofs.NameWalks.{candidates_are}
use Rattle.psg_session.proofs.Offers.{naming_refused, names_answered, names_no_place, names_not_found, names_stopped, names_ticked, no_site, site_is}
use Rattle.psg_session.specs.Outcomes.{IsOutcome}
use Rattle.psg_session.specs.PlainState.{not_asked}
use Rattle.psg_session.proofs.Stopping.{found_by, refused_by}
use Rattle.psg_session.proofs.menus.suggest.Goals as goal

pub returns-in_err-found-clause-outcome : goal.returns-in_err-found-clause-outcome
returns-in_err-found-clause-outcome g c =
    let def = c.args.language.now.definition in
    let e = c.args.editor.now in
    let place = c.args.place.now in
    let k = c.args.number in
    let name = c.args.name.now in
    refused_by (IsOutcome def e not_asked (Names place k name)) _ c.in_err-found.field-0.0 c.from_residual.ensures.1
    (stayed def e (Names place k name) (Refused c.in_err-found.field-0.0) (names_not_found def e place k name c.in_err-found.field-0.0 c.in_err-found.ensures.err))

pub site_of-requires-clause-version : goal.site_of-requires-clause-version
site_of-requires-clause-version g c =
    let f = c.in_ok-found.found in
    (f.held.now.kind, opened_version c.args.language.now.definition c.args.editor.now f.held.now c.requires.editor c.in_ok-found.ensures.ok.held)

pub site_of-requires-clause-node : goal.site_of-requires-clause-node
site_of-requires-clause-node g c = c.in_ok-found.ensures.ok.node

pub returns-in_default-clause-outcome : goal.returns-in_default-clause-outcome
returns-in_default-clause-outcome g c =
    let def = c.args.language.now.definition in
    let e = c.args.editor.now in
    let place = c.args.place.now in
    let k = c.args.number in
    let name = c.args.name.now in
    let f = c.in_ok-found.found in
    let found = c.in_ok-found.ensures.ok in
    let tree = tree_in f.held.now.note in
    stayed def e (Names place k name) (Refused c.refusal_at.result)
    (subst (λ r. Answers def e (Names place k name) (refused r)) (sym c.refusal_at.ensures)
    (names_no_place def e place k f found name
    (no_site def tree f.path.now k f.node.now c.in_ok-tried.tried c.in_default.is c.in_ok-tried.ensures)))

pub returns-in_err-op-clause-outcome : goal.returns-in_err-op-clause-outcome
returns-in_err-op-clause-outcome g c =
    let def = c.args.language.now.definition in
    let e = c.args.editor.now in
    let place = c.args.place.now in
    let k = c.args.number in
    let name = c.args.name.now in
    let f = c.in_ok-found.found in
    let found = c.in_ok-found.ensures.ok in
    let tree = tree_in f.held.now.note in
    let site = c.in-Some.site in
    let is = site_is def tree f.path.now k f.node.now c.in_ok-tried.tried site c.in-Some.is c.in_ok-tried.ensures in
    refused_by (IsOutcome def e not_asked (Names place k name)) _ c.in_err-op.field-0.0 c.from_residual-in_err-op.ensures.1
    (stayed def e (Names place k name) (Refused c.in_err-op.field-0.0)
    (naming_refused def e place k f found c.requires.editor site is c.requires.language.sound name c.in_err-op.field-0.0
    (subst (λ n. IsNamingAnswer def site.phylum n (Err c.in_err-op.field-0.0)) c.as_str.ensures c.in_err-op.ensures)))

pub names-requires-clause-one : goal.names-requires-clause-one
names-requires-clause-one g c =
    let def = c.args.language.now.definition in
    let e = c.args.editor.now in
    let place = c.args.place.now in
    let k = c.args.number in
    let name = c.args.name.now in
    let f = c.in_ok-found.found in
    let found = c.in_ok-found.ensures.ok in
    let tree = tree_in f.held.now.note in
    let site = c.in-Some.site in
    let is = site_is def tree f.path.now k f.node.now c.in_ok-tried.tried site c.in-Some.is c.in_ok-tried.ensures in
    let o = c.in_ok-op.op in
    let (named, has) = subst (λ n. IsNamingAnswer def site.phylum n (Ok o)) c.as_str.ensures c.in_ok-op.ensures in
    (site.phylum, has, subst (λ a. CanClimb def a (Phylum site.phylum)) (sym c.as_slice-around.ensures.value) is.climb)

pub names-requires-clause-names : goal.names-requires-clause-names
names-requires-clause-names g c =
    let def = c.args.language.now.definition in
    let e = c.args.editor.now in
    let place = c.args.place.now in
    let k = c.args.number in
    let name = c.args.name.now in
    let f = c.in_ok-found.found in
    let found = c.in_ok-found.ensures.ok in
    let tree = tree_in f.held.now.note in
    let are = c.as_slice.ensures.value ∙ c.in_ok-candidates.ensures ∙ ap (λ t. in_byte_order (occurring t)) c.tree.ensures in
    subst (AllByRecursion (IsName def)) (sym are)
    (candidates_are def tree f.held.now.kind (opened_version def e f.held.now c.requires.editor found.held).formed.0)

pub returns-in_err-kept-clause-ticks : goal.returns-in_err-kept-clause-ticks
returns-in_err-kept-clause-ticks g c =
    let def = c.args.language.now.definition in
    let e = c.args.editor.now in
    let place = c.args.place.now in
    let k = c.args.number in
    let name = c.args.name.now in
    let f = c.in_ok-found.found in
    let found = c.in_ok-found.ensures.ok in
    let tree = tree_in f.held.now.note in
    let site = c.in-Some.site in
    let is = site_is def tree f.path.now k f.node.now c.in_ok-tried.tried site c.in-Some.is c.in_ok-tried.ensures in
    let o = c.in_ok-op.op in
    let (named, has) = subst (λ n. IsNamingAnswer def site.phylum n (Ok o)) c.as_str.ensures c.in_ok-op.ensures in
    let stand = subst (λ a. StandAt def a f.path.now k tree) (sym c.as_slice-around.ensures.value) is.stand in
    let are = c.as_slice.ensures.value ∙ c.in_ok-candidates.ensures ∙ ap (λ t. in_byte_order (occurring t)) c.tree.ensures in
    names_ticked def e place k f found c.requires.editor site is c.requires.language.sound name o named has c.as_slice.result.now are _ _
    (subst (λ a. c.names.new.steps ≤ c.args.steps.now + names_ticks def o c.as_slice.result.now a) c.as_slice-around.ensures.value c.names.ensures.ticks)

pub returns-in_err-reply-clause-ticks : goal.returns-in_err-reply-clause-ticks
returns-in_err-reply-clause-ticks g c =
    let def = c.args.language.now.definition in
    let e = c.args.editor.now in
    let place = c.args.place.now in
    let k = c.args.number in
    let name = c.args.name.now in
    let f = c.in_ok-found.found in
    let found = c.in_ok-found.ensures.ok in
    let tree = tree_in f.held.now.note in
    let site = c.in-Some.site in
    let is = site_is def tree f.path.now k f.node.now c.in_ok-tried.tried site c.in-Some.is c.in_ok-tried.ensures in
    let o = c.in_ok-op.op in
    let (named, has) = subst (λ n. IsNamingAnswer def site.phylum n (Ok o)) c.as_str.ensures c.in_ok-op.ensures in
    let stand = subst (λ a. StandAt def a f.path.now k tree) (sym c.as_slice-around.ensures.value) is.stand in
    let are = c.as_slice.ensures.value ∙ c.in_ok-candidates.ensures ∙ ap (λ t. in_byte_order (occurring t)) c.tree.ensures in
    names_ticked def e place k f found c.requires.editor site is c.requires.language.sound name o named has c.as_slice.result.now are _ _
    (subst (λ a. c.names.new.steps ≤ c.args.steps.now + names_ticks def o c.as_slice.result.now a) c.as_slice-around.ensures.value c.names.ensures.ticks)

pub returns-clause-ticks : goal.returns-clause-ticks
returns-clause-ticks g c =
    let def = c.args.language.now.definition in
    let e = c.args.editor.now in
    let place = c.args.place.now in
    let k = c.args.number in
    let name = c.args.name.now in
    let f = c.in_ok-found.found in
    let found = c.in_ok-found.ensures.ok in
    let tree = tree_in f.held.now.note in
    let site = c.in-Some.site in
    let is = site_is def tree f.path.now k f.node.now c.in_ok-tried.tried site c.in-Some.is c.in_ok-tried.ensures in
    let o = c.in_ok-op.op in
    let (named, has) = subst (λ n. IsNamingAnswer def site.phylum n (Ok o)) c.as_str.ensures c.in_ok-op.ensures in
    let stand = subst (λ a. StandAt def a f.path.now k tree) (sym c.as_slice-around.ensures.value) is.stand in
    let are = c.as_slice.ensures.value ∙ c.in_ok-candidates.ensures ∙ ap (λ t. in_byte_order (occurring t)) c.tree.ensures in
    names_ticked def e place k f found c.requires.editor site is c.requires.language.sound name o named has c.as_slice.result.now are _ _
    (subst (λ a. c.names.new.steps ≤ c.args.steps.now + names_ticks def o c.as_slice.result.now a) c.as_slice-around.ensures.value c.names.ensures.ticks)

pub returns-in_err-kept-clause-outcome : goal.returns-in_err-kept-clause-outcome
returns-in_err-kept-clause-outcome g c =
    let def = c.args.language.now.definition in
    let e = c.args.editor.now in
    let place = c.args.place.now in
    let k = c.args.number in
    let name = c.args.name.now in
    let f = c.in_ok-found.found in
    let found = c.in_ok-found.ensures.ok in
    let tree = tree_in f.held.now.note in
    let site = c.in-Some.site in
    let is = site_is def tree f.path.now k f.node.now c.in_ok-tried.tried site c.in-Some.is c.in_ok-tried.ensures in
    let o = c.in_ok-op.op in
    let (named, has) = subst (λ n. IsNamingAnswer def site.phylum n (Ok o)) c.as_str.ensures c.in_ok-op.ensures in
    let stand = subst (λ a. StandAt def a f.path.now k tree) (sym c.as_slice-around.ensures.value) is.stand in
    let are = c.as_slice.ensures.value ∙ c.in_ok-candidates.ensures ∙ ap (λ t. in_byte_order (occurring t)) c.tree.ensures in
    found_by (IsOutcome def e not_asked (Names place k name)) _ (stop_of_focus c.in_err-kept.field-0.0)
    c.from_residual-in_err-kept.ensures.1
    (names_stopped def e place k f found c.requires.editor site is c.requires.language.sound name o named has
    c.as_slice.result.now are c.in_err-kept.field-0.0 (c.in_err-kept.ensures.open tree f.path.now k stand))

pub returns-clause-outcome : goal.returns-clause-outcome
returns-clause-outcome g c =
    let def = c.args.language.now.definition in
    let e = c.args.editor.now in
    let place = c.args.place.now in
    let k = c.args.number in
    let name = c.args.name.now in
    let f = c.in_ok-found.found in
    let found = c.in_ok-found.ensures.ok in
    let tree = tree_in f.held.now.note in
    let site = c.in-Some.site in
    let is = site_is def tree f.path.now k f.node.now c.in_ok-tried.tried site c.in-Some.is c.in_ok-tried.ensures in
    let o = c.in_ok-op.op in
    let (named, has) = subst (λ n. IsNamingAnswer def site.phylum n (Ok o)) c.as_str.ensures c.in_ok-op.ensures in
    let stand = subst (λ a. StandAt def a f.path.now k tree) (sym c.as_slice-around.ensures.value) is.stand in
    let are = c.as_slice.ensures.value ∙ c.in_ok-candidates.ensures ∙ ap (λ t. in_byte_order (occurring t)) c.tree.ensures in
    names_answered def e place k f found c.requires.editor site is c.requires.language.sound name o named has
    c.as_slice.result.now are c.in_ok-kept.kept (c.in_ok-kept.ensures.open tree f.path.now k stand) c.in_ok-reply.reply
    (c.in_ok-reply.ensures ∙ ap (λ ns. answered (names_line ns ∷ [])) c.as_slice-2.ensures.value)
