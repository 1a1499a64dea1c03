-- What a refinement is answered, before its tree is tested.
use Rattle.std.proofs.Common.{arith, ◌≡◌, inl, inr, ℕ, List, None, Ok, Err, refl, sym, ◌∙◌, ap, subst}
use Rattle.psg_terms.specs.Names.{Name}
use Rattle.psg_grammar.specs.Insertion.{Leaf, fresh_operator, with_operator}
use Rattle.psg_grammar.specs.declared.types.Kind.{Kind}
use Rattle.psg_grammar.specs.declared.types.Definition.{Definition}
use Rattle.psg_grammar.specs.Fragments.{Fragment, hole}
use Rattle.psg_grammar.specs.Paths.{replaced}
use Rattle.psg_grammar.specs.Sound.{IsSound}
use Rattle.psg_script.specs.declared.command.Where.{Where}
use Rattle.psg_script.specs.declared.command.Command.TheVariants.{Refine}
use Rattle.psg_session.specs.declared.stop.Stop.{Stop}
use Rattle.psg_session.specs.declared.stop.Stop.TheVariants as stops
use Rattle.psg_session.specs.declared.edits.Edit.TheVariants.{Put}
use Rattle.psg_session.specs.declared.editor.Editor.{Editor}
use Rattle.psg_session.specs.declared.finding.Target.{Target}
use Rattle.psg_session.specs.declared.judging.Trial.TheVariants.{Grows}
use Rattle.psg_session.specs.declared.refusal.Refusal.{Refusal}
use Rattle.psg_session.specs.declared.refusal.Refusal.TheVariants.{NotHole}
use Rattle.psg_session.specs.PlainState.{Opened, named_path}
use Rattle.psg_session.specs.PlainStep.{AtNode, Gives, by_change, by_refine, IsOfPhylum, IsOperator, IsOther, IsWanted, Makes}
use Rattle.psg_session.specs.Outcomes.{IsTarget, IsFreshAnswer, IsProposal, HasNoTarget, IsPlan, proposal_of}
use Rattle.psg_grammar.specs.WellFormed.{WellFormed}
use Rattle.psg_session.specs.Sessions.{IsEditor, plain, state_of}
use Rattle.psg_cache.specs.Annotated.{tree_in}
use Rattle.psg_session.proofs.StepLaws.{at_node, has_node, is_opened, is_there, nowhere, opened_is, path_is, same_old}
use Rattle.psg_session.proofs.ChangeLaws.{answer_formed, gives_none, is_other, may_put, not_other, one_operator, put_is}
use Rattle.psg_menu.specs.Menus.{HasQuietSlots}
use Rattle.psg_session.specs.Leaves.{GivesLeaves}
use Rattle.psg_session.proofs.LeafReads.{one_list}

abbrev IsNoHole : Opened → Fragment → Type 0
IsNoHole old node = (p : ℕ) → node ≡ hole p → ⊥

module _ (def : Definition) (e : Editor) (place : Where) (name : Name) (args : List ℕ) where
  -- nothing is opened, or there is no node
  pub refine_nowhere : (r : Refusal) → HasNoTarget e place r → IsPlan def e (Refine place name args) (Err (stops.Refused r))
  refine_nowhere r none = nowhere def e place r none

  -- the tree stays of the node's kind
  refine_keeps : IsSound def → HasQuietSlots def → (node : Fragment) (p : ℕ) → node ≡ hole p → (fresh : Fragment)
      → IsFreshAnswer def p name args (Ok fresh) → (K : Kind) → WellFormed def node K → WellFormed def fresh K
  refine_keeps sound slots node p is fresh answer K formed =
      let it : WellFormed def (hole p) K = subst (λ x. WellFormed def x K) is formed in
      subst (WellFormed def fresh) (sym it.0.1) (answer_formed def sound slots p name args fresh answer)

  module _ (f : Target) (found : IsTarget e place f) where
    -- the node is no placeholder
    pub refine_no_hole : ((p : ℕ) → f.node.now ≡ hole p → ⊥)
        → IsPlan def e (Refine place name args) (Err (stops.Refused NotHole))
    refine_no_hole never = inr (
      is_opened def e place f found,
      inr (
        is_there def e place f found,
        inl (has_node def e place f found IsNoHole never, refl),
      ),
    )

    module _ (sound : IsSound def) (p : ℕ) (is : f.node.now ≡ hole p) where
      only_wanted : (q : ℕ) → IsWanted def None f.node.now q → q ≡ p
      only_wanted q want = let d : hole q ≡ hole p = sym want ∙ is in cc

      usual : AtNode def (state_of e) place IsNoHole → ⊥
      usual h = at_node def e place f found IsNoHole h p is

      -- there is no such operator with these leaves
      pub refine_refused : (stop : Stop) → IsFreshAnswer def p name args (Err stop)
          → IsPlan def e (Refine place name args) (Err stop)
      refine_refused stops.Memory h = tt
      refine_refused (stops.Refused r) (inl (e', never)) = inr (
        is_opened def e place f found,
        inr (
          is_there def e place f found,
          inr (usual, inl (never, sym e')),
        ),
      )
      refine_refused (stops.Refused r) (inr (inl (e', o, named, never))) =
          inr (
            is_opened def e place f found,
            inr (
              is_there def e place f found,
              inr (
                usual,
                inr (
                  (λ h. h o named),
                  inl (is_other def e place f found sound None p is only_wanted name args o named never, sym e'),
                ),
              ),
            ),
          )
      refine_refused (stops.Refused r) (inr (inr (e', o, named, of, never))) =
          inr (
            is_opened def e place f found,
            inr (
              is_there def e place f found,
              inr (
                usual,
                inr (
                  (λ h. h o named),
                  inr (
                    not_other def e place f found sound None p is only_wanted name args o named of,
                    inl (gives_none def e place f found sound None p is only_wanted name args o named never, sym e'),
                  ),
                ),
              ),
            ),
          )

      module _ (o : ℕ) (leaves : List Leaf) (named : IsOperator def o name) (of : IsOfPhylum def o p)
          (gives : GivesLeaves def o args leaves) where
        refined_once : (other : Fragment) → Gives def (state_of e) (Refine place name args) other
            → other ≡ with_operator def (tree_in f.held.now.note) (named_path place e.cursor) None o leaves
        refined_once other (by_change (by_refine old x others opened also given)) =
            ap (λ y. with_operator def y.tree (named_path place e.cursor) None x others)
            (same_old def e place f found old opened)
            ∙ ap (λ y. with_operator def (tree_in f.held.now.note) (named_path place e.cursor) None y others)
            (one_operator def sound x o name also named)
            ∙ ap (with_operator def (tree_in f.held.now.note) (named_path place e.cursor) None o)
            (one_list def x o args others leaves given gives)

        no_other : IsOther def (state_of e) place None name → ⊥
        no_other = not_other def e place f found sound None p is only_wanted name args o named of

        -- the operator is in place of the placeholder
        pub refine_made : HasQuietSlots def → IsEditor def e → (fresh : Fragment) → fresh ≡ fresh_operator def o leaves
            → IsProposal def e (Refine place name args) (proposal_of Grows (Put f.path.now fresh) f.path.now)
        refine_made slots editor fresh is_fresh =
            let result = put_is e def place f found (λ old. fresh_operator def o leaves) fresh is_fresh in
            let tree : Fragment = replaced f.path.now fresh (tree_in f.held.now.note) in
            let it : Makes def (state_of e) (Refine place name args) tree f.path.now =
            subst (λ q. Makes def (state_of e) (Refine place name args)
            (replaced f.path.now fresh (tree_in f.held.now.note)) q) (path_is def e place f found)
            (subst (λ t. Makes def (state_of e) (Refine place name args) t (named_path place e.cursor)) result
            (by_refine (plain f.held.now) o leaves (opened_is def e place f found) named gives)) in
            record {
              held = f.held.now;
              opened = found.held;
              may = may_put def e place f editor found fresh
                  (refine_keeps sound slots f.node.now p is fresh (o, leaves, named, of, gives, is_fresh));
              makes = it;
              only = λ other given. refined_once other given ∙ result;
              refused = λ r h. inr (
                is_opened def e place f found,
                inr (
                  is_there def e place f found,
                  inr (usual, inr ((λ k. k o named), inr (no_other, inr ((λ none. none o leaves named gives), h)))),
                ),
              );
              taken = λ h. (
                is_opened def e place f found,
                (
                  is_there def e place f found,
                  (usual, ((λ k. k o named), (no_other, ((λ none. none o leaves named gives), h)))),
                ),
              );
              sized = tt;
              counts = inr (plain f.held.now, tree, f.path.now, opened_is def e place f found, it, omega arith);
            }
