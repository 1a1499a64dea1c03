-- What it is answered that a list is closed, before its tree is tested.
use Rattle.std.proofs.Common.{arith, ◌≡◌, inl, inr, true, false, Some, refl, sym, ◌∙◌, ap, subst, Err}
use Rattle.psg_grammar.specs.declared.types.Definition.{Definition}
use Rattle.psg_grammar.specs.Fragments.{Fragment}
use Rattle.psg_grammar.specs.Paths.{change_at, ended, replaced}
use Rattle.psg_script.specs.declared.command.Where.{Where}
use Rattle.psg_script.specs.declared.command.Command.TheVariants.{Close}
use Rattle.psg_session.specs.declared.stop.Stop.TheVariants as stops
use Rattle.psg_session.specs.declared.edits.Edit.TheVariants.{Put}
use Rattle.psg_session.specs.declared.editor.Editor.{Editor}
use Rattle.psg_session.specs.declared.finding.Target.{Target}
use Rattle.psg_session.specs.declared.judging.Trial.TheVariants.{Closes}
use Rattle.psg_session.specs.declared.refusal.Refusal.{Refusal}
use Rattle.psg_session.specs.declared.refusal.Refusal.TheVariants.{NoPlace}
use Rattle.psg_session.specs.PlainState.{Opened, named_path}
use Rattle.psg_session.specs.PlainStep.{Gives, by_change, by_close, Makes, end_of}
use Rattle.psg_session.specs.Outcomes.{IsTarget, IsProposal, HasNoTarget, IsPlan, proposal_of}
use Rattle.psg_grammar.specs.WellFormed.{WellFormed}
use Rattle.psg_session.specs.Sessions.{IsEditor, plain, state_of}
use Rattle.psg_cache.specs.Annotated.{tree_in}
use Rattle.psg_session.proofs.Smaller.{ended_smaller}
use Rattle.psg_session.proofs.StepLaws.{at_node, has_node, is_opened, is_there, nowhere, opened_is, path_is, same_old}
use Rattle.psg_session.proofs.ChangeLaws.{finished_formed, may_put, put_is}

abbrev IsNotUnfinished : Opened → Fragment → Type 0
IsNotUnfinished old node = end_of node ≡ Some true → ⊥

module _ (def : Definition) (e : Editor) (place : Where) where
  -- nothing is opened, or there is no node
  pub close_nowhere : (r : Refusal) → HasNoTarget e place r → IsPlan def e (Close place) (Err (stops.Refused r))
  close_nowhere r none = nowhere def e place r none

  module _ (f : Target) (found : IsTarget e place f) where
    -- the node is no unfinished list
    pub close_refused : (end_of f.node.now ≡ Some true → ⊥) → IsPlan def e (Close place) (Err (stops.Refused NoPlace))
    close_refused never = inr (
      is_opened def e place f found,
      inr (
        is_there def e place f found,
        inl (has_node def e place f found IsNotUnfinished never, refl),
      ),
    )

    closed_once : (other : Fragment) → Gives def (state_of e) (Close place) other
        → other ≡ change_at (ended false) (named_path place e.cursor) (tree_in f.held.now.note)
    closed_once other (by_change (by_close old opened)) =
        ap (λ x. change_at (ended false) (named_path place e.cursor) x.tree) (same_old def e place f found old opened)

    -- the list is finished
    pub close_made : IsEditor def e → end_of f.node.now ≡ Some true → (new : Fragment) → new ≡ ended false f.node.now
        → IsProposal def e (Close place) (proposal_of Closes (Put f.path.now new) f.path.now)
    close_made editor ends new is =
        let result = put_is e def place f found (ended false) new is in
        let tree : Fragment = replaced f.path.now new (tree_in f.held.now.note) in
        let it : Makes def (state_of e) (Close place) tree f.path.now =
        subst (λ q. Makes def (state_of e) (Close place) (replaced f.path.now new (tree_in f.held.now.note)) q) (path_is def e place f found)
        (subst (λ t. Makes def (state_of e) (Close place) t (named_path place e.cursor)) result
        (by_close (plain f.held.now) (opened_is def e place f found))) in
        record {
          held = f.held.now;
          opened = found.held;
          may = may_put def e place f editor found new
              (λ K formed. subst (λ t. WellFormed def t K) (sym is) (finished_formed def f.node.now K formed));
          makes = it;
          only = λ other given. closed_once other given ∙ result;
          refused = λ r h. inr (
            is_opened def e place f found,
            inr (
              is_there def e place f found,
              inr ((λ h'. at_node def e place f found IsNotUnfinished h' ends), h),
            ),
          );
          taken = λ h. (
            is_opened def e place f found,
            (
              is_there def e place f found,
              ((λ h'. at_node def e place f found IsNotUnfinished h' ends), h),
            ),
          );
          sized = ended_smaller (tree_in f.held.now.note) f.node.now f.path.now found.node false new is;
          counts = inr (plain f.held.now, tree, f.path.now, opened_is def e place f found, it, omega arith);
        }
