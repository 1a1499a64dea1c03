-- What an insertion is answered, before its tree is tested.
use Rattle.std.proofs.Common.{◌≡◌, ◌⊎◌, inl, inr, ℕ, ◌<◌, ◌≤◌, List, [], ◌∷◌, ◌++◌, length, Some, Err, refl, sym, ◌∙◌, ap, subst, arith, ◌+◌}
use Rattle.psg_terms.specs.Names.{Name}
use Rattle.psg_grammar.specs.declared.types.ListKind.{ListKind}
use Rattle.psg_grammar.specs.Insertion.{Leaf, fresh_operator, with_operator}
use Rattle.psg_grammar.specs.declared.types.Definition.{Definition}
use Rattle.psg_grammar.specs.Fragments.{Fragment, children_of}
use Rattle.psg_grammar.specs.Paths.{change_at, inserted, IsList, Path}
use Rattle.psg_grammar.specs.Sound.{IsSound}
use Rattle.psg_script.specs.declared.command.Where.{Where}
use Rattle.psg_script.specs.declared.command.Command.TheVariants.{Insert}
use Rattle.psg_session.specs.declared.changes.Listed.{Listed}
use Rattle.psg_session.specs.declared.stop.Stop.{Stop}
use Rattle.psg_session.specs.declared.stop.Stop.TheVariants as stops
use Rattle.psg_session.specs.declared.edits.Edit.TheVariants.{Add}
use Rattle.psg_session.specs.declared.editor.Editor.{Editor}
use Rattle.psg_session.specs.declared.finding.Target.{Target}
use Rattle.psg_session.specs.declared.judging.Trial.TheVariants.{Grows}
use Rattle.psg_session.specs.declared.refusal.Refusal.{Refusal}
use Rattle.psg_session.specs.declared.refusal.Refusal.TheVariants.{NoPlace}
use Rattle.psg_session.specs.PlainState.{Opened, named_path}
use Rattle.psg_session.specs.PlainStep.{AtNode, Gives, by_change, by_insert, IsOfPhylum, IsOperator, IsOther, IsWanted, Makes}
use Rattle.psg_session.specs.Outcomes.{IsTarget, IsFreshAnswer, IsListed, IsProposal, HasNoTarget, IsPlan, proposal_of}
use Rattle.psg_grammar.specs.Work.{work_of}
use Rattle.psg_session.specs.Sessions.{plain, state_of}
use Rattle.psg_cache.specs.Annotated.{tree_in}
use Rattle.psg_session.proofs.StepLaws.{at_node, has_node, is_opened, is_there, nowhere, opened_is, path_is, same_old}
use Rattle.psg_session.proofs.ChangeLaws.{answer_formed, gives_none, is_other, not_other, one_list_kind, one_operator, cost_here}
use Rattle.psg_menu.specs.Menus.{HasQuietSlots}
use Rattle.psg_session.specs.Leaves.{GivesLeaves}
use Rattle.psg_session.proofs.LeafReads.{one_list}

-- the node is no list, or has no such place
abbrev HasNoPlace : ℕ → Opened → Fragment → Type 0
HasNoPlace k old node = (IsList node → ⊥) ⊎ (length (children_of node) < k)

module _ (def : Definition) (e : Editor) (place : Where) (k : ℕ) (name : Name) (args : List ℕ) where
  -- nothing is opened, or there is no node
  pub insert_nowhere : (r : Refusal) → HasNoTarget e place r → IsPlan def e (Insert place k name args) (Err (stops.Refused r))
  insert_nowhere r none = nowhere def e place r none

  module _ (f : Target) (found : IsTarget e place f) where
    insert_no_place : HasNoPlace k (plain f.held.now) f.node.now
        → IsPlan def e (Insert place k name args) (Err (stops.Refused NoPlace))
    insert_no_place none = inr (
      is_opened def e place f found,
      inr (
        is_there def e place f found,
        inl (has_node def e place f found (HasNoPlace k) none, refl),
      ),
    )

    -- the node is no list
    pub insert_no_list : (IsList f.node.now → ⊥) → IsPlan def e (Insert place k name args) (Err (stops.Refused NoPlace))
    insert_no_list never = insert_no_place (inl never)

    module _ (list : Listed) (listed : IsListed def f.node.now list) where
      -- the list has fewer elements
      pub insert_behind : list.elements < k → IsPlan def e (Insert place k name args) (Err (stops.Refused NoPlace))
      insert_behind less = insert_no_place (inr (let same = listed.elements in omega (arith, same, less)))

      abbrev wanted : IsWanted def (Some k) f.node.now list.kind.now.element
      wanted = (list.kind.now, listed.kind, refl)

      only_wanted : (q : ℕ) → IsWanted def (Some k) f.node.now q → q ≡ list.kind.now.element
      only_wanted q (other, is_list, is) = is
          ∙ ap (λ (x : ListKind). x.element) (one_list_kind def f.node.now other list.kind.now is_list listed.kind)

      module _ (sound : IsSound def) (within : k ≤ list.elements) where
        no_bad_place : HasNoPlace k (plain f.held.now) f.node.now → ⊥
        no_bad_place (inl never) = never listed.is_list
        no_bad_place (inr less) = let same = listed.elements in absurd (omega (arith, same, less, within))

        usual : AtNode def (state_of e) place (HasNoPlace k) → ⊥
        usual h = no_bad_place (at_node def e place f found (HasNoPlace k) h)

        -- there is no such operator with these leaves
        pub insert_refused : (stop : Stop) → IsFreshAnswer def list.kind.now.element name args (Err stop)
            → IsPlan def e (Insert place k name args) (Err stop)
        insert_refused stops.Memory h = tt
        insert_refused (stops.Refused r) (inl (e', never)) = inr (
          is_opened def e place f found,
          inr (
            is_there def e place f found,
            inr (usual, inl (never, sym e')),
          ),
        )
        insert_refused (stops.Refused r) (inr (inl (e', o, named, never))) =
            inr (
              is_opened def e place f found,
              inr (
                is_there def e place f found,
                inr (
                  usual,
                  inr (
                    (λ h. h o named),
                    inl (
                      is_other def e place f found sound (Some k) list.kind.now.element wanted only_wanted name args o named
                          never,
                      sym e',
                    ),
                  ),
                ),
              ),
            )
        insert_refused (stops.Refused r) (inr (inr (e', o, named, of, never))) =
            inr (
              is_opened def e place f found,
              inr (
                is_there def e place f found,
                inr (
                  usual,
                  inr (
                    (λ h. h o named),
                    inr (
                      not_other def e place f found sound (Some k) list.kind.now.element wanted only_wanted name args o
                          named of,
                      inl (
                        gives_none def e place f found sound (Some k) list.kind.now.element wanted only_wanted name args o
                            named never,
                        sym e',
                      ),
                    ),
                  ),
                ),
              ),
            )

        module _ (o : ℕ) (leaves : List Leaf) (named : IsOperator def o name)
            (of : IsOfPhylum def o list.kind.now.element) (gives : GivesLeaves def o args leaves) where
          inserted_once : (other : Fragment) → Gives def (state_of e) (Insert place k name args) other
              → other ≡ with_operator def (tree_in f.held.now.note) (named_path place e.cursor) (Some k) o leaves
          inserted_once other (by_change (by_insert old x others opened also given)) =
              ap (λ y. with_operator def y.tree (named_path place e.cursor) (Some k) x others)
              (same_old def e place f found old opened)
              ∙ ap (λ y. with_operator def (tree_in f.held.now.note) (named_path place e.cursor) (Some k) y others)
              (one_operator def sound x o name also named)
              ∙ ap (with_operator def (tree_in f.held.now.note) (named_path place e.cursor) (Some k) o)
              (one_list def x o args others leaves given gives)

          no_other : IsOther def (state_of e) place (Some k) name → ⊥
          no_other =
              not_other def e place f found sound (Some k) list.kind.now.element wanted only_wanted name args o named of

          -- the operator is a new element
          pub insert_made : HasQuietSlots def → (fresh : Fragment) → fresh ≡ fresh_operator def o leaves
              → IsProposal def e (Insert place k name args) (proposal_of Grows (Add f.path.now k fresh) (f.path.now ++ k ∷ []))
          insert_made slots fresh is_fresh =
              let (l, of_list, at) = listed.kind in
              let here = path_is def e place f found in
              let result : with_operator def (tree_in f.held.now.note) (named_path place e.cursor) (Some k) o leaves
              ≡ change_at (inserted k fresh) f.path.now (tree_in f.held.now.note) =
              ap (λ q. with_operator def (tree_in f.held.now.note) q (Some k) o leaves) here
              ∙ ap (λ t. change_at (inserted k t) f.path.now (tree_in f.held.now.note)) (sym is_fresh) in
              let tree : Fragment = change_at (inserted k fresh) f.path.now (tree_in f.held.now.note) in
              let it : Makes def (state_of e) (Insert place k name args) tree (f.path.now ++ k ∷ []) =
              subst (λ (q : Path). Makes def (state_of e) (Insert place k name args)
              (change_at (inserted k fresh) f.path.now (tree_in f.held.now.note)) (q ++ k ∷ [])) here
              (subst (λ t. Makes def (state_of e) (Insert place k name args) t (named_path place e.cursor ++ k ∷ []))
              result (by_insert (plain f.held.now) o leaves (opened_is def e place f found) named gives)) in
              record {
                held = f.held.now;
                opened = found.held;
                may = record {
                  node = f.node.now;
                  there = found.node;
                  number = l;
                  of_kind = of_list;
                  list = list.kind.now;
                  found = at;
                  formed = answer_formed def sound slots list.kind.now.element name args fresh
                      (o, leaves, named, of, gives, is_fresh);
                  within = let same = listed.elements in omega (arith, same, within);
                };
                makes = it;
                only = λ other given. inserted_once other given ∙ result;
                refused = λ r h. inr (
                  is_opened def e place f found,
                  inr (
                    is_there def e place f found,
                    inr (
                      usual,
                      inr (
                        (λ h'. h' o named),
                        inr (no_other, inr ((λ none. none o leaves named gives), h)),
                      ),
                    ),
                  ),
                );
                taken = λ h. (
                  is_opened def e place f found,
                  (
                    is_there def e place f found,
                    (usual, ((λ h'. h' o named), (no_other, ((λ none. none o leaves named gives), h)))),
                  ),
                );
                sized = tt;
                counts = inr (
                  plain f.held.now,
                  tree,
                  f.path.now ++ k ∷ [],
                  opened_is def e place f found,
                  it,
                  (
                    o,
                    leaves,
                    named,
                    gives,
                    cost_here e place f found (work_of fresh + (k + 1))
                        (work_of (fresh_operator def o leaves) + (k + 1)) (ap (λ t. work_of t + (k + 1)) is_fresh),
                  ),
                );
              }
