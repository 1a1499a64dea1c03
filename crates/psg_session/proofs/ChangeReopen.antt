-- What it is answered that a list is opened again, before its tree is tested.
use Rattle.std.proofs.Common.{arith, ◌≡◌, ◌↔◌, inl, inr, Bool, true, false, true≢false, not, IsTrue, Some, refl, sym, ◌∙◌, ap, subst, Err}
use Rattle.psg_grammar.specs.declared.types.Kind.TheVariants as kinds
use Rattle.psg_grammar.specs.declared.types.ListKind.{ListKind}
use Rattle.psg_grammar.specs.declared.types.Kind.{Kind}
use Rattle.psg_grammar.specs.declared.types.Definition.{Definition}
use Rattle.psg_grammar.specs.Fragments.{Fragment}
use Rattle.psg_grammar.specs.Paths.{change_at, ended, IsList, replaced}
use Rattle.psg_cache.proofs.FormedTrees.{ended_formed}
use Rattle.psg_script.specs.declared.command.Where.{Where}
use Rattle.psg_script.specs.declared.command.Command.TheVariants.{Reopen}
use Rattle.psg_session.specs.declared.changes.Listed.{Listed}
use Rattle.psg_session.specs.declared.stop.Stop.TheVariants as stops
use Rattle.psg_session.specs.declared.edits.Edit.TheVariants.{Put}
use Rattle.psg_session.specs.declared.editor.Editor.{Editor}
use Rattle.psg_session.specs.declared.finding.Target.{Target}
use Rattle.psg_session.specs.declared.judging.Trial.TheVariants.{Loosens}
use Rattle.psg_session.specs.declared.refusal.Refusal.{Refusal}
use Rattle.psg_session.specs.declared.refusal.Refusal.TheVariants.{NoPlace}
use Rattle.psg_session.specs.PlainState.{Opened, named_path}
use Rattle.psg_session.specs.PlainStep.{Gives, by_change, by_reopen, Makes, MayReopen, end_of}
use Rattle.psg_session.specs.Outcomes.{IsTarget, IsListed, IsProposal, HasNoTarget, IsPlan, proposal_of}
use Rattle.psg_grammar.specs.WellFormed.{WellFormed}
use Rattle.psg_session.specs.Sessions.{IsEditor, plain, state_of}
use Rattle.psg_cache.specs.Annotated.{tree_in}
use Rattle.psg_session.proofs.Smaller.{ended_smaller}
use Rattle.psg_session.proofs.StepLaws.{at_node, has_node, is_opened, is_there, nowhere, opened_is, path_is, same_old}
use Rattle.psg_session.proofs.ChangeLaws.{end_is_list, kind_is, may_put, one_list_kind, put_is}

-- a list that may be unfinished stays of its kind
pub reopen_keeps : (def : Definition) (node : Fragment) → MayReopen def node → (K : Kind) → WellFormed def node K
    → WellFormed def (ended true node) K
reopen_keeps def node (own, (l, of, at), may, ends) K formed =
    let is : K ≡ kinds.List l = kind_is def node K (kinds.List l) formed of in
    subst (WellFormed def (ended true node)) (sym is)
    (ended_formed def true node l own (subst (WellFormed def node) is formed) at (λ e. may))

module _ (def : Definition) (e : Editor) (place : Where) where
  -- nothing is opened, or there is no node
  pub reopen_nowhere : (r : Refusal) → HasNoTarget e place r → IsPlan def e (Reopen place) (Err (stops.Refused r))
  reopen_nowhere r none = nowhere def e place r none

  abbrev MayNot : Opened → Fragment → Type 0
  MayNot old node = MayReopen def node → ⊥

  module _ (f : Target) (found : IsTarget e place f) where
    -- the node is no finished list that may be unfinished
    pub reopen_refused : (MayReopen def f.node.now → ⊥) → IsPlan def e (Reopen place) (Err (stops.Refused NoPlace))
    reopen_refused never = inr (
      is_opened def e place f found,
      inr (
        is_there def e place f found,
        inl (has_node def e place f found MayNot never, refl),
      ),
    )

    reopened_once : (other : Fragment) → Gives def (state_of e) (Reopen place) other
        → other ≡ change_at (ended true) (named_path place e.cursor) (tree_in f.held.now.note)
    reopened_once other (by_change (by_reopen old opened)) =
        ap (λ x. change_at (ended true) (named_path place e.cursor) x.tree) (same_old def e place f found old opened)

    -- the list is unfinished
    pub reopen_made : IsEditor def e → MayReopen def f.node.now → (new : Fragment) → new ≡ ended true f.node.now
        → IsProposal def e (Reopen place) (proposal_of Loosens (Put f.path.now new) f.path.now)
    reopen_made editor may new is =
        let result = put_is e def place f found (ended true) new is in
        let tree : Fragment = replaced f.path.now new (tree_in f.held.now.note) in
        let it : Makes def (state_of e) (Reopen place) tree f.path.now =
        subst (λ q. Makes def (state_of e) (Reopen place) (replaced f.path.now new (tree_in f.held.now.note)) q) (path_is def e place f found)
        (subst (λ t. Makes def (state_of e) (Reopen place) t (named_path place e.cursor)) result
        (by_reopen (plain f.held.now) (opened_is def e place f found))) in
        record {
          held = f.held.now;
          opened = found.held;
          may = may_put def e place f editor found new
              (λ K formed. subst (λ t. WellFormed def t K) (sym is) (reopen_keeps def f.node.now may K formed));
          makes = it;
          only = λ other given. reopened_once other given ∙ result;
          refused = λ r h. inr (
            is_opened def e place f found,
            inr (
              is_there def e place f found,
              inr ((λ h'. at_node def e place f found MayNot h' may), h),
            ),
          );
          taken = λ h. (
            is_opened def e place f found,
            (
              is_there def e place f found,
              ((λ h'. at_node def e place f found MayNot h' may), h),
            ),
          );
          sized = ended_smaller (tree_in f.held.now.note) f.node.now f.path.now found.node true new is;
          counts = inr (plain f.held.now, tree, f.path.now, opened_is def e place f found, it, omega arith);
        }

not_unfinished : (b : Bool) → IsTrue (not b) → b ≡ false
not_unfinished true h = absurd (true≢false (sym h))
not_unfinished false h = refl

-- ---- by what is told of a list

module _ (def : Definition) (node : Fragment) where
  pub unfinished_by : (list : Listed) → IsListed def node list → IsTrue list.unfinished ↔ (end_of node ≡ Some true)
  unfinished_by list listed = (
    λ h. listed.end ∙ ap Some h,
    λ ends. let d : Some list.unfinished ≡ Some true = sym listed.end
        ∙ ends in let is : list.unfinished ≡ true = cc in is,
  )

  pub no_end : (IsList node → ⊥) → IsTrue false ↔ (end_of node ≡ Some true)
  no_end never = (λ h. absurd (true≢false (sym h)), λ ends. absurd (never (end_is_list def node true ends)))

  module _ (list : Listed) (listed : IsListed def node list) where
    pub reopens_if : list.kind.now.unfinished ≡ true → IsTrue (not list.unfinished) ↔ MayReopen def node
    reopens_if may = (
      λ h. (list.kind.now, listed.kind, may, listed.end ∙ ap Some (not_unfinished list.unfinished h)),
      λ (own, of, also, ends).
          let d : Some list.unfinished ≡ Some false = sym listed.end ∙ ends in
          let finished : list.unfinished ≡ false = cc in
          ap not finished,
    )

    pub reopens_not : list.kind.now.unfinished ≡ false → IsTrue list.kind.now.unfinished ↔ MayReopen def node
    reopens_not never = (
      λ h. absurd (true≢false (sym h ∙ never)),
      λ (own, of, may, ends). absurd
          (true≢false
          (sym may ∙ ap (λ (x : ListKind). x.unfinished) (one_list_kind def node own list.kind.now of listed.kind)
          ∙ never)),
    )

  pub never_reopens : (IsList node → ⊥) → IsTrue false ↔ MayReopen def node
  never_reopens never =
      (λ h. absurd (true≢false (sym h)), λ (own, of, may, ends). absurd (never (end_is_list def node false ends)))
