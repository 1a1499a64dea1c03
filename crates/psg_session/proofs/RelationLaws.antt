-- Which step the plain editor takes at a question about a node's values.
use Rattle.std.proofs.Common.{◌≡◌, inl, inr, ℕ, ◌+◌, ◌≤◌, ◌<◌, List, [], ◌∷◌, map, take, zero, suc, length, Option, Some, None, refl, sym, ◌∙◌, ap, subst, arith}
use Rattle.std.specs.Prelude.{MatchOption, Result, Ok, Err, Vec}
use Rattle.std.specs.declared.alloc.Global.{Global}
use Rattle.psg_terms.specs.Terms.{Term}
use Rattle.psg_terms.specs.Relations.{IsIn, first, later}
use Rattle.psg_terms.specs.Signature.{Signature, HasSort}
use Rattle.psg_relation.specs.Choices.{AllHaveSorts}
use Rattle.psg_grammar.specs.declared.types.Definition.{Definition}
use Rattle.psg_grammar.specs.Fragments.{Fragment}
use Rattle.psg_grammar.specs.Paths.{Path, node_at}
use Rattle.psg_grammar.specs.Relations.{IsShownRelation}
use Rattle.psg_grammar.specs.Steps.{IsWideAt}
use Rattle.psg_grammar.specs.Work.{climb_of}
use Rattle.psg_cache.specs.Annotated.{Annotated, tree_in}
use Rattle.psg_cache.specs.Edits.{IsNoSummaryAt, IsSummaryAt}
use Rattle.psg_cache.specs.NoteFrames.{AreFramesAt}
use Rattle.psg_cache.proofs.Evaluations.{one_kind}
use Rattle.psg_cache.proofs.FrameParts.{quiet}
use Rattle.psg_cache.proofs.RealTrees.{real}
use Rattle.psg_eval.specs.declared.frame.Frame.{Frame}
use Rattle.psg_eval.specs.declared.question.FocusFault.{FocusFault}
use Rattle.psg_eval.specs.declared.question.FocusFault.TheVariants as questions
use Rattle.psg_eval.specs.declared.summary.SummaryParts.{SummaryParts}
use Rattle.psg_eval.specs.Frames.{CanClimb, IsSilent, StandFor, rungs}
use Rattle.psg_eval.specs.Summaries.{IsSummary, IsSummaryOf}
use Rattle.psg_focus.specs.Shown.{IsShown, rows_of}
use Rattle.psg_script.specs.declared.command.Where.{Where}
use Rattle.psg_script.specs.declared.command.Command.TheVariants.{Relation}
use Rattle.psg_session.specs.declared.editor.Editor.{Editor}
use Rattle.psg_session.specs.declared.finding.Target.{Target}
use Rattle.psg_session.specs.declared.refusal.Refusal.{Refusal}
use Rattle.psg_session.specs.declared.refusal.Refusal.TheVariants.{TooWide}
use Rattle.psg_session.specs.declared.replies.Reply.TheVariants.{Refused}
use Rattle.psg_session.specs.Answers.{row_line, rows_lines}
use Rattle.psg_session.specs.Outcomes.{IfFound, IsOutcome, IsTarget, HasNoTarget}
use Rattle.psg_session.specs.PlainState.{Opened, named_path, not_asked}
use Rattle.psg_session.specs.PlainStep.{refuses, relates}
use Rattle.psg_session.specs.Replies.{answered, refused}
use Rattle.psg_session.specs.Sessions.{IsEditor, plain, state_of}
use Rattle.psg_session.specs.Stops.{stop_of_focus}
use Rattle.psg_session.specs.Ticks.{HasTicked}
use Rattle.psg_session.proofs.Asking.{Answers, node_formed, stayed}
use Rattle.psg_session.proofs.EditLaws.{opened_version}
use Rattle.psg_session.proofs.StepLaws.{at_node, has_node, is_opened, is_there, nowhere, opened_is, some_once}

-- ---- lines

map_twice : (sig : Signature) (terms : List Term) → map (λ t. row_line sig [] (t ∷ [])) terms ≡ map (row_line sig []) (rows_of terms)
map_twice sig [] = refl
map_twice sig (t ∷ ts) = ap (λ l. row_line sig [] (t ∷ []) ∷ l) (map_twice sig ts)

pub lines_of_terms : (sig : Signature) (terms : List Term) (lines : List (List ℕ)) → 0 < length terms → lines ≡ map (λ t. row_line sig [] (t ∷ [])) terms
    → lines ≡ rows_lines sig [] (rows_of terms)
lines_of_terms sig [] lines some e = absurd (omega (arith, some))
lines_of_terms sig (t ∷ ts) lines some e = e ∙ map_twice sig (t ∷ ts)

pub lines_of_none : (sig : Signature) (terms : List Term) → length terms ≡ 0 → rows_lines sig [] (rows_of terms) ≡ rows_lines sig [] []
lines_of_none sig [] none = refl
lines_of_none sig (t ∷ ts) none = absurd (omega (arith, none))

-- the end of the loop over them
pub lines_of_all : (sig : Signature) (terms : List Term) (lines : List (List ℕ)) (i : ℕ) → i ≡ length terms → 0 < length terms
    → lines ≡ map (λ t. row_line sig [] (t ∷ [])) (take i terms) → lines ≡ rows_lines sig [] (rows_of terms)
lines_of_all sig terms lines i end some e =
    lines_of_terms sig terms lines some (e ∙ ap (λ ts. map (λ t. row_line sig [] (t ∷ [])) ts) (all terms i end)) where
      all : (xs : List Term) (i : ℕ) → i ≡ length xs → take i xs ≡ xs
      all [] zero e = refl
      all [] (suc i) e = absurd (omega (arith, e))
      all (x ∷ xs) zero e = absurd (omega (arith, e))
      all (x ∷ xs) (suc i) e = ap (λ z. x ∷ z) (all xs i (omega (arith, e)))

-- each of the terms has a sort
pub each_sorted : (sig : Signature) (terms : List Term) (sort : ℕ) → AllHaveSorts sig (rows_of terms) (sort ∷ []) → (t : Term) → IsIn t terms → (s : ℕ) × HasSort sig t s
each_sorted sig (u ∷ ts) sort all t first = (sort, (all (u ∷ []) first).0)
each_sorted sig (u ∷ ts) sort all t (later i) = each_sorted sig ts sort (λ row h. all row (later h)) t i
each_sorted sig [] sort all t i = elim i [ ]

pub shown_sorted : (sig : Signature) (terms : List Term) → ((sort : ℕ) × AllHaveSorts sig (rows_of terms) (sort ∷ []))
    → (t : Term) → IsIn t terms → (s : ℕ) × HasSort sig t s
shown_sorted sig terms (sort, all) = each_sorted sig terms sort all

-- ---- steps

module _ (def : Definition) (e : Editor) (place : Where) where
  pub relation_not_found : (r : Refusal) → HasNoTarget e place r → Answers def e (Relation place) (refused r)
  relation_not_found r missing = refuses (nowhere def e place r missing)

  module _ (f : Target) (found : IsTarget e place f) where
    abbrev IsWideHere : Opened → Fragment → Type 0
    IsWideHere old node = IsWideAt def old.tree (named_path place (state_of e).cursor)

    relation_wide : IsWideAt def (tree_in f.held.now.note) f.path.now → Answers def e (Relation place) (refused TooWide)
    relation_wide wide =
        refuses (inr (
          is_opened def e place f found,
          inr (
            is_there def e place f found,
            inl (has_node def e place f found IsWideHere (subst (IsWideAt def (tree_in f.held.now.note)) found.path wide), refl),
          ),
        ))

    relation_told : (rows : List (List Term)) → IsShownRelation def (tree_in f.held.now.note) f.path.now rows → (IsWideAt def (tree_in f.held.now.note) f.path.now → ⊥)
        → Answers def e (Relation place) (answered (rows_lines def.signature [] rows))
    relation_told rows shown narrow =
        relates (plain f.held.now) rows (
          is_opened def e place f found,
          (
            is_there def e place f found,
            ((λ at. narrow (subst (IsWideAt def (tree_in f.held.now.note)) (sym found.path) (at_node def e place f found IsWideHere at))), tt),
          ),
        )
        (opened_is def e place f found) (subst (λ p. IsShownRelation def (tree_in f.held.now.note) p rows) found.path shown)

    -- the values that were found are told
    pub related : (terms : Vec Term Global) → IsShown def f.path.now (tree_in f.held.now.note) (Ok terms)
        → (lines : List (List ℕ)) → lines ≡ rows_lines def.signature [] (rows_of terms.items)
        → Answers def e (Relation place) (answered lines)
    related terms is lines told =
        subst (λ ls. Answers def e (Relation place) (answered ls)) (sym told) (relation_told (rows_of terms.items) is.0 is.1)

    -- a relation is too wide
    pub unrelated : (fault : FocusFault) → IsShown def f.path.now (tree_in f.held.now.note) (Err fault)
        → IfFound (Err (stop_of_focus fault)) (IsOutcome def e not_asked (Relation place))
    unrelated questions.Wide wide = stayed def e (Relation place) (Refused TooWide) (relation_wide wide)
    unrelated questions.Memory h = tt

    -- ---- what the question is asked with

    module _ (editor : IsEditor def e) (own : SummaryParts) (at : IsSummaryAt f.held.now.note f.path.now own) (around : List Frame) (are : AreFramesAt f.held.now.note f.path.now around) where
      pub own_usual : IsSummary def own
      own_usual = (at def (tree_in f.held.now.note) (opened_version def e f.held.now editor found.held).noted).3

      own_of : IsSummaryOf def f.node.now own
      own_of =
          let (node, there, is, usual) = at def (tree_in f.held.now.note) (opened_version def e f.held.now editor found.held).noted in
          subst (λ x. IsSummaryOf def x own) (some_once node f.node.now (node_at (tree_in f.held.now.note) f.path.now) there found.node) is

      pub own_silent : IsSilent own
      own_silent = own_of.seen ∙ quiet f.node.now (real def f.node.now (node_formed def e editor place f found))

      pub own_climbs : CanClimb def around own.kind
      own_climbs =
          let a = are def (tree_in f.held.now.note) (opened_version def e f.held.now editor found.held).noted in
          let same : a.node ≡ f.node.now = some_once a.node f.node.now (node_at (tree_in f.held.now.note) f.path.now) a.there found.node in
          subst (CanClimb def around) (one_kind def f.node.now a.kind own.kind (subst (λ x. Rattle.psg_grammar.specs.Kinds.IsOfKind def x a.kind) same a.of_kind) own_of.kind) a.climb

      pub own_shown : (shown : Result (Vec Term Global) FocusFault)
          → ((g node : Fragment) (path : Path) → StandFor def around path g node → IsSummaryOf def node own → IsShown def path g shown)
          → IsShown def f.path.now (tree_in f.held.now.note) shown
      own_shown shown h =
          let a = are def (tree_in f.held.now.note) (opened_version def e f.held.now editor found.held).noted in
          let same : a.node ≡ f.node.now = some_once a.node f.node.now (node_at (tree_in f.held.now.note) f.path.now) a.there found.node in
          h (tree_in f.held.now.note) f.node.now f.path.now (subst (StandFor def around f.path.now (tree_in f.held.now.note)) same a.stand) own_of

      pub own_ticks : (from to : ℕ) → to ≤ from + (1 + rungs around) → HasTicked def (state_of e) (Relation place) from to
      own_ticks from to few =
          let a = are def (tree_in f.held.now.note) (opened_version def e f.held.now editor found.held).noted in
          let same : climb_of (tree_in f.held.now.note) f.path.now ≡ climb_of (tree_in f.held.now.note) (named_path place (state_of e).cursor) =
          ap (climb_of (tree_in f.held.now.note)) found.path in
          let cost : rungs around ≡ climb_of (tree_in f.held.now.note) f.path.now = a.cost in
          record {
            taken = 1 + rungs around;
            counted = few;
            within = inr (has_node def e place f found (λ old node. 1 + rungs around ≤ 1 + climb_of old.tree (named_path place (state_of e).cursor)) (omega (arith, same, cost)));
          }

-- ---- the frames that the note gave

pub frames_are : (n : Annotated) (path : Path) (o : Option (Vec Frame Global)) (v : Vec Frame Global) (around : List Frame) → o ≡ Some v → around ≡ v.items
    → MatchOption o (IsNoSummaryAt n path) (λ w. AreFramesAt n path w.items) → AreFramesAt n path around
frames_are n path o v around e same h =
    subst (AreFramesAt n path) (sym same) (subst (λ x. MatchOption x (IsNoSummaryAt n path) (λ w. AreFramesAt n path w.items)) e h)

pub no_frames : (n : Annotated) (path : Path) (o : Option (Vec Frame Global)) → o ≡ None → MatchOption o (IsNoSummaryAt n path) (λ w. AreFramesAt n path w.items) → IsNoSummaryAt n path
no_frames n path o e h = subst (λ x. MatchOption x (IsNoSummaryAt n path) (λ w. AreFramesAt n path w.items)) e h
