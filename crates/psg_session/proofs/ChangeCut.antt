-- What a cut is answered, before its tree is tested.
use Rattle.std.proofs.Common.{arith, ◌≡◌, inl, inr, refl, sym, ◌∙◌, ap, subst, Err}
use Rattle.psg_grammar.specs.Insertion.{blank}
use Rattle.psg_grammar.specs.Kinds.{HasKind, IsOfKind}
use Rattle.psg_grammar.specs.declared.types.Kind.{Kind}
use Rattle.psg_grammar.specs.declared.types.Definition.{Definition}
use Rattle.psg_grammar.specs.Fragments.{Fragment}
use Rattle.psg_grammar.specs.Paths.{replaced}
use Rattle.psg_cache.proofs.FormedTrees.{kind_once}
use Rattle.psg_session.proofs.NewTrees.{blank_formed}
use Rattle.psg_script.specs.declared.command.Where.{Where}
use Rattle.psg_script.specs.declared.command.Command.TheVariants.{Cut}
use Rattle.psg_session.specs.declared.stop.Stop.TheVariants as stops
use Rattle.psg_session.specs.declared.edits.Edit.TheVariants.{Put}
use Rattle.psg_session.specs.declared.editor.Editor.{Editor}
use Rattle.psg_session.specs.declared.finding.Target.{Target}
use Rattle.psg_session.specs.declared.judging.Trial.TheVariants.{Loosens}
use Rattle.psg_session.specs.declared.refusal.Refusal.{Refusal}
use Rattle.psg_session.specs.declared.refusal.Refusal.TheVariants.{NoPlaceholder}
use Rattle.psg_session.specs.PlainState.{Opened, named_path}
use Rattle.psg_session.specs.PlainStep.{AtNode, Gives, by_change, by_cut, IsDeclaringPhylum, Makes}
use Rattle.psg_session.specs.Outcomes.{IsTarget, IsProposal, HasNoTarget, IsPlan, proposal_of}
use Rattle.psg_grammar.specs.WellFormed.{WellFormed}
use Rattle.psg_session.specs.Sessions.{IsEditor, plain, state_of}
use Rattle.psg_cache.specs.Annotated.{tree_in}
use Rattle.psg_session.proofs.Smaller.{cut_smaller}
use Rattle.psg_session.proofs.StepLaws.{at_node, has_node, is_opened, is_there, node_is, nowhere, opened_is, path_is, same_old}
use Rattle.psg_session.proofs.ChangeLaws.{kind_is, may_put, put_is}

module _ (def : Definition) (e : Editor) (place : Where) where
  -- nothing is opened, or there is no node
  pub cut_nowhere : (r : Refusal) → HasNoTarget e place r → IsPlan def e (Cut place) (Err (stops.Refused r))
  cut_nowhere r none = nowhere def e place r none

  abbrev Declares : Opened → Fragment → Type 0
  Declares old node = (kind : Kind) × IsOfKind def node kind × IsDeclaringPhylum def kind

  -- the tree stays of the node's kind
  cut_keeps : (node : Fragment) (kind : Kind) → IsOfKind def node kind → HasKind def kind
      → (IsDeclaringPhylum def kind → ⊥) → (new : Fragment) → new ≡ blank def kind → (K : Kind) → WellFormed def node K → WellFormed def new K
  cut_keeps node kind is there never new fresh K formed =
      subst (λ t. WellFormed def t K) (sym fresh)
      (subst (WellFormed def (blank def kind)) (sym (kind_is def node K kind formed is)) (blank_formed def kind there never))

  module _ (f : Target) (found : IsTarget e place f) (kind : Kind) (is : IsOfKind def f.node.now kind) where
    -- a placeholder would not say which names it declares
    pub cut_declares : IsDeclaringPhylum def kind → IsPlan def e (Cut place) (Err (stops.Refused NoPlaceholder))
    cut_declares declares = inr (
      is_opened def e place f found,
      inr (
        is_there def e place f found,
        inl (has_node def e place f found Declares (kind, is, declares), refl),
      ),
    )

    cut_once : (other : Fragment) → Gives def (state_of e) (Cut place) other
        → other ≡ replaced (named_path place e.cursor) (blank def kind) (tree_in f.held.now.note)
    cut_once other (by_change (by_cut old node own opened at of)) =
        let here : IsOfKind def f.node.now own = at_node def e place f found (λ x y. IsOfKind def y own)
        (old, opened, node, at, of) in
        ap (λ x. replaced (named_path place e.cursor) (blank def own) x.tree)
        (same_old def e place f found old opened)
        ∙ ap (λ x. replaced (named_path place e.cursor) (blank def x) (tree_in f.held.now.note))
        (kind_once def f.node.now own kind here is)

    usual : (IsDeclaringPhylum def kind → ⊥) → AtNode def (state_of e) place Declares → ⊥
    usual never h =
        let (own, of, declares) = at_node def e place f found Declares h in
        never (subst (IsDeclaringPhylum def) (kind_once def f.node.now own kind of is) declares)

    -- a new tree is in place of the node
    pub cut_made : IsEditor def e → HasKind def kind → (IsDeclaringPhylum def kind → ⊥) → (new : Fragment)
        → new ≡ blank def kind → IsProposal def e (Cut place) (proposal_of Loosens (Put f.path.now new) f.path.now)
    cut_made editor there never new fresh =
        let result = put_is e def place f found (λ old. blank def kind) new fresh in
        let tree : Fragment = replaced f.path.now new (tree_in f.held.now.note) in
        let it : Makes def (state_of e) (Cut place) tree f.path.now =
        subst (λ q. Makes def (state_of e) (Cut place) (replaced f.path.now new (tree_in f.held.now.note)) q)
        (path_is def e place f found)
        (subst (λ t. Makes def (state_of e) (Cut place) t (named_path place e.cursor)) result
        (by_cut (plain f.held.now) f.node.now kind (opened_is def e place f found)
        (node_is def e place f found) is)) in
        record {
          held = f.held.now;
          opened = found.held;
          may = may_put def e place f editor found new
              (λ K formed. cut_keeps f.node.now kind is there never new fresh K formed);
          makes = it;
          only = λ other given. cut_once other given ∙ result;
          refused = λ r h. inr (
            is_opened def e place f found,
            inr (
              is_there def e place f found,
              inr (usual never, h),
            ),
          );
          taken = λ h. (is_opened def e place f found, (is_there def e place f found, (usual never, h)));
          sized = cut_smaller (tree_in f.held.now.note) f.node.now f.path.now found.node def kind new fresh;
          counts = inr (plain f.held.now, tree, f.path.now, opened_is def e place f found, it, omega arith);
        }
