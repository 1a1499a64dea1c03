-- What it is answered that an element is taken away, before its tree is tested.
use Rattle.std.proofs.Common.{◌≡◌, ◌⊎◌, inl, inr, ℕ, ◌<◌, ◌≤◌, length, refl, ◌∙◌, ap, subst, arith, Err}
use Rattle.psg_grammar.specs.declared.types.Definition.{Definition}
use Rattle.psg_grammar.specs.Fragments.{Fragment, children_of}
use Rattle.psg_grammar.specs.Paths.{change_at, IsList, removed}
use Rattle.psg_script.specs.declared.command.Where.{Where}
use Rattle.psg_script.specs.declared.command.Command.TheVariants.{Remove}
use Rattle.psg_session.specs.declared.changes.Listed.{Listed}
use Rattle.psg_session.specs.declared.stop.Stop.TheVariants as stops
use Rattle.psg_session.specs.declared.edits.Edit.TheVariants.{Take}
use Rattle.psg_session.specs.declared.editor.Editor.{Editor}
use Rattle.psg_session.specs.declared.finding.Target.{Target}
use Rattle.psg_session.specs.declared.judging.Trial.TheVariants.{Loosens}
use Rattle.psg_session.specs.declared.refusal.Refusal.{Refusal}
use Rattle.psg_session.specs.declared.refusal.Refusal.TheVariants.{NoPlace}
use Rattle.psg_session.specs.PlainState.{Opened, named_path}
use Rattle.psg_session.specs.PlainStep.{AtNode, Gives, by_change, by_remove, Makes}
use Rattle.psg_session.specs.Outcomes.{IsTarget, IsListed, IsProposal, HasNoTarget, IsPlan, proposal_of}
use Rattle.psg_session.proofs.ChangeLaws.{cost_here}
use Rattle.psg_session.specs.Sessions.{plain, state_of}
use Rattle.psg_cache.specs.Annotated.{tree_in}
use Rattle.psg_session.proofs.Smaller.{removed_smaller}
use Rattle.psg_session.proofs.StepLaws.{at_node, has_node, is_opened, is_there, nowhere, opened_is, path_is, same_old}

-- the node is no list, or has no such element
abbrev HasNoElement : ℕ → Opened → Fragment → Type 0
HasNoElement k old node = (IsList node → ⊥) ⊎ (length (children_of node) ≤ k)

module _ (def : Definition) (e : Editor) (place : Where) (k : ℕ) where
  -- nothing is opened, or there is no node
  pub remove_nowhere : (r : Refusal) → HasNoTarget e place r → IsPlan def e (Remove place k) (Err (stops.Refused r))
  remove_nowhere r none = nowhere def e place r none

  module _ (f : Target) (found : IsTarget e place f) where
    remove_no_element : HasNoElement k (plain f.held.now) f.node.now → IsPlan def e (Remove place k) (Err (stops.Refused NoPlace))
    remove_no_element none = inr (
      is_opened def e place f found,
      inr (
        is_there def e place f found,
        inl (has_node def e place f found (HasNoElement k) none, refl),
      ),
    )

    -- the node is no list
    pub remove_no_list : (IsList f.node.now → ⊥) → IsPlan def e (Remove place k) (Err (stops.Refused NoPlace))
    remove_no_list never = remove_no_element (inl never)

    module _ (list : Listed) (listed : IsListed def f.node.now list) where
      -- the list has no such element
      pub remove_behind : list.elements ≤ k → IsPlan def e (Remove place k) (Err (stops.Refused NoPlace))
      remove_behind less = remove_no_element (inr (let same = listed.elements in omega (arith, same, less)))

      removed_once : (other : Fragment) → Gives def (state_of e) (Remove place k) other
          → other ≡ change_at (removed k) (named_path place e.cursor) (tree_in f.held.now.note)
      removed_once other (by_change (by_remove old opened)) =
          ap (λ x. change_at (removed k) (named_path place e.cursor) x.tree) (same_old def e place f found old opened)

      module _ (within : k < list.elements) where
        no_bad_place : HasNoElement k (plain f.held.now) f.node.now → ⊥
        no_bad_place (inl never) = never listed.is_list
        no_bad_place (inr less) = let same = listed.elements in absurd (omega (arith, same, less, within))

        usual : AtNode def (state_of e) place (HasNoElement k) → ⊥
        usual h = no_bad_place (at_node def e place f found (HasNoElement k) h)

        -- the list is without the element
        pub remove_made : IsProposal def e (Remove place k) (proposal_of Loosens (Take f.path.now k) f.path.now)
        remove_made =
            let here = path_is def e place f found in
            let result : change_at (removed k) (named_path place e.cursor) (tree_in f.held.now.note)
            ≡ change_at (removed k) f.path.now (tree_in f.held.now.note) =
            ap (λ q. change_at (removed k) q (tree_in f.held.now.note)) here in
            let tree : Fragment = change_at (removed k) f.path.now (tree_in f.held.now.note) in
            let it : Makes def (state_of e) (Remove place k) tree f.path.now =
            subst (λ q. Makes def (state_of e) (Remove place k)
            (change_at (removed k) q (tree_in f.held.now.note)) q) here
            (by_remove (plain f.held.now) (opened_is def e place f found)) in
            record {
              held = f.held.now;
              opened = found.held;
              may = record {
                node = f.node.now;
                there = found.node;
                list = listed.is_list;
                within = let same = listed.elements in omega (arith, same, within);
              };
              makes = it;
              only = λ other given. removed_once other given ∙ result;
              refused = λ r h. inr (is_opened def e place f found, inr (is_there def e place f found, inr (usual, h)));
              taken = λ h. (is_opened def e place f found, (is_there def e place f found, (usual, h)));
              sized = removed_smaller (tree_in f.held.now.note) f.node.now f.path.now found.node k;
              counts = inr (plain f.held.now, tree, f.path.now, opened_is def e place f found, it, cost_here e place f found k k refl);
            }
