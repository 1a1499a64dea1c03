-- Which step the plain editor takes at a question, from what was found of the opened fragment.
use Rattle.std.proofs.Common.{◌≡◌, inl, ℕ, List, [], ◌∷◌, map, Some, None, refl, sym, ◌∙◌, ap, subst}
use Rattle.psg_terms.specs.Terms.{Term}
use Rattle.psg_terms.specs.Signature.{AreTerms}
use Rattle.psg_terms.specs.Relations.{IsIn}
use Rattle.psg_grammar.specs.declared.types.Definition.{Definition}
use Rattle.psg_grammar.specs.Fragments.{Fragment}
use Rattle.psg_grammar.specs.Regions.{names_of}
use Rattle.psg_grammar.specs.Relations.{IsRelationOf}
use Rattle.psg_scope.specs.Headers.{keys}
use Rattle.psg_cache.specs.Annotated.{tree_in, whole_in}
use Rattle.psg_cache.specs.Edits.{IsSummaryAt, IsNoSummaryAt}
use Rattle.psg_cache.specs.Notes.{IsFormed}
use Rattle.psg_eval.specs.Summaries.{IsSummaryOf}
use Rattle.psg_eval.specs.declared.summary.SummaryParts.{SummaryParts}
use Rattle.psg_session.proofs.Verdicts.{root_is}
use Rattle.std.proofs.lemmas.Option.{none-some}
use Rattle.psg_grammar.specs.Paths.{node_at}
use Rattle.psg_cache.proofs.FormedTrees.{node_formed as formed_below}
use Rattle.psg_script.specs.declared.command.Where.{Where}
use Rattle.psg_script.specs.declared.command.Command.{Command}
use Rattle.psg_script.specs.declared.command.Command.TheVariants.{Own, Free}
use Rattle.psg_session.specs.declared.editor.Editor.{Editor}
use Rattle.psg_session.specs.declared.editor.OpenedTree.{OpenedTree}
use Rattle.psg_session.specs.declared.finding.Target.{Target}
use Rattle.psg_session.specs.Answers.{key_text, names_line, rows_lines}
use Rattle.psg_session.specs.Good.{IsGoodIn}
use Rattle.psg_session.specs.declared.editor.Outcome.TheVariants.{Stays}
use Rattle.psg_session.specs.declared.refusal.Refusal.{Refusal}
use Rattle.psg_session.specs.declared.refusal.Refusal.TheVariants.{NothingOpened}
use Rattle.psg_session.specs.declared.replies.Reply.{Reply as Given}
use Rattle.psg_session.specs.Outcomes.{IsTarget, HasNoTarget, IsOutcome}
use Rattle.psg_session.specs.PlainState.{not_asked}
use Rattle.psg_session.specs.PlainStep.{Steps, refuses, owns, frees}
use Rattle.psg_session.specs.Sessions.{IsEditor, plain, state_of}
use Rattle.psg_session.specs.Views.{names_without, reply_of}
use Rattle.psg_session.proofs.EditLaws.{opened_version}
use Rattle.psg_session.proofs.StepLaws.{is_opened, is_opened_by, is_there, node_is, not_opened, nowhere, opened_is, opened_plain, some_once}
use Rattle.psg_session.specs.Replies.{Reply, refused, answered}
use Rattle.psg_session.proofs.KeyMarks.{free_are}

-- the state stays, and the reply is this one
abbrev pub Answers : Definition → Editor → Command → Reply → Type 0
Answers def e command reply = Steps def (IsGoodIn def) (state_of e) not_asked command (state_of e) reply

-- an outcome that leaves the editor as it is
pub stayed : (def : Definition) (e : Editor) (command : Command) (reply : Given)
    → Answers def e command (reply_of reply) → IsOutcome def e not_asked command (Stays reply)
stayed def e command reply steps = record { steps = steps; fit = tt }

-- a member of the relation of a tree has terms
pub row_terms : (def : Definition) (f : Fragment) (rows : List (List Term)) → IsRelationOf def f rows
    → (row : List Term) → IsIn row rows
    → AreTerms def.signature row
row_terms def f rows (sorts, rel) row h = (sorts, (rel.shapes row h).sorted)

module _ (def : Definition) (e : Editor) where
  pub node_formed : IsEditor def e → (place : Where) (f : Target) → IsTarget e place f → IsFormed def f.node.now
  node_formed editor place f found =
      formed_below def (tree_in f.held.now.note) f.held.now.kind f.path.now f.node.now
      (opened_version def e f.held.now editor found.held).formed found.node

  module _ (none : e.opened ≡ None) where
    pub free_unopened : Answers def e Free (refused NothingOpened)
    free_unopened = refuses (inl (not_opened def e none, refl))

  module _ (held : OpenedTree) (opened : e.opened ≡ Some held) where
    pub free_opened : IsEditor def e → (line : List ℕ)
        → line ≡ names_line (names_without def (whole_in held.note).header.names) → Answers def e Free (answered (line ∷ []))
    free_opened editor line written =
        let told = written ∙ ap names_line (free_are def (tree_in held.note) (whole_in held.note).header
        (root_is def (tree_in held.note) held.note (opened_version def e held editor opened).noted).header) in
        subst (λ l. Answers def e Free (answered (l ∷ []))) (sym told)
        (frees (plain held) (is_opened_by def e held opened, tt) (opened_plain def e held opened))

  module _ (place : Where) where
    pub own_not_found : (r : Refusal) → HasNoTarget e place r → Answers def e (Own place) (refused r)
    own_not_found r missing = refuses (nowhere def e place r missing)

    pub own_found : (f : Target) → IsTarget e place f → (known : SummaryParts) → IsSummaryOf def f.node.now known
        → (lines : List (List ℕ)) → lines ≡ rows_lines def.signature (map (key_text def) (keys known.header.names)) known.rel
        → Answers def e (Own place) (answered lines)
    own_found f found known is lines written =
        let rows = known.rel in
        let told : lines ≡ rows_lines def.signature (map (key_text def) (names_of def f.node.now)) rows =
        written ∙ ap (λ ks. rows_lines def.signature (map (key_text def) ks) rows) is.header.keys_are in
        let step : Answers def e (Own place) (answered (rows_lines def.signature (map (key_text def) (names_of def f.node.now)) rows)) =
        owns (plain f.held.now) f.node.now rows
        (is_opened def e place f found, (is_there def e place f found, tt))
        (opened_is def e place f found) (node_is def e place f found) is.rows in
        subst (λ l. Answers def e (Own place) (answered l)) (sym told) step

    -- the summary at the path is that of the node that was found
    pub own_known : IsEditor def e → (f : Target) → IsTarget e place f → (known : SummaryParts)
        → IsSummaryAt f.held.now.note f.path.now known → IsSummaryOf def f.node.now known
    own_known editor f found known at =
        let version = opened_version def e f.held.now editor found.held in
        let (node, there, is, usual) = at def (tree_in f.held.now.note) version.noted in
        subst (λ x. IsSummaryOf def x known) (some_once node f.node.now (node_at (tree_in f.held.now.note) f.path.now) there found.node) is

    -- there is one
    pub own_some : IsEditor def e → (f : Target) → IsTarget e place f → IsNoSummaryAt f.held.now.note f.path.now → ⊥
    own_some editor f found none =
        let version = opened_version def e f.held.now editor found.held in
        none-some f.node.now (sym (none def (tree_in f.held.now.note) version.noted) ∙ found.node)
