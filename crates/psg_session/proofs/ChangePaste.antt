-- What a paste is answered, before its tree is tested.
use Rattle.std.proofs.Common.{◌≡◌, ◌↔◌, ◌==◌, Bool, IsTrue, inl, inr, ℕ, ◌<◌, ◌≤◌, ◌+◌, Option, Some, None, List, [], ◌∷◌, ◌++◌, length, refl, sym, ◌∙◌, ap, subst, arith, Err}
use Rattle.std.proofs.lemmas.Option.{none-some}
use Rattle.psg_terms.specs.Names.{Name}
use Rattle.psg_grammar.specs.declared.types.Kind.{Kind}
use Rattle.psg_grammar.specs.declared.types.Kind.TheVariants as kinds
use Rattle.psg_grammar.specs.declared.types.ListKind.{ListKind}
use Rattle.psg_grammar.specs.declared.types.Definition.{Definition}
use Rattle.psg_grammar.specs.Fragments.{Fragment, hole, children_of}
use Rattle.psg_grammar.specs.Kinds.{IsOfKind}
use Rattle.psg_grammar.specs.Paths.{change_at, inserted, IsList, replaced}
use Rattle.psg_grammar.specs.Work.{work_of}
use Rattle.psg_grammar.specs.WellFormed.{WellFormed}
use Rattle.psg_cache.specs.Annotated.{tree_in}
use Rattle.psg_cache.proofs.FormedTrees.{kind_once}
use Rattle.psg_script.specs.declared.command.Where.{Where}
use Rattle.psg_script.specs.declared.command.Command.TheVariants.{Paste}
use Rattle.psg_session.specs.declared.changes.Listed.{Listed}
use Rattle.psg_session.specs.declared.stop.Stop.TheVariants as stops
use Rattle.psg_session.specs.declared.edits.Edit.TheVariants.{Put, Add}
use Rattle.psg_session.specs.declared.editor.Editor.{Editor}
use Rattle.psg_session.specs.declared.judging.Trial.TheVariants.{Grows}
use Rattle.psg_session.specs.declared.pasting.Source.{Source}
use Rattle.psg_session.specs.declared.refusal.Refusal.{Refusal}
use Rattle.psg_session.specs.declared.refusal.Refusal.TheVariants.{NotHole, NoPlace, OtherPhylum}
use Rattle.psg_library.specs.declared.fragment.SavedFragment.{SavedFragment as Saved}
use Rattle.psg_session.specs.declared.editor.OpenedTree.{OpenedTree}
use Rattle.psg_session.specs.Outcomes.{IsListed, IsProposal, HasNoTarget, IsNoSource, IsPlan, IsSource, proposal_of}
use Rattle.psg_session.specs.PlainState.{Opened, named_path}
use Rattle.psg_session.specs.PlainStep.{AtNode, by_change, by_paste, by_paste_in, Gives, HasNoRoom, IsEmptyPlace, IsOtherSaved, Makes, MayTake}
use Rattle.psg_session.specs.Sessions.{IsEditor, plain, state_of}
use Rattle.psg_session.specs.Shelf.{saved_at}
use Rattle.psg_session.proofs.ChangeLaws.{cost_here, kind_is, may_put, one_list_kind, put_is}
use Rattle.psg_session.proofs.Options.{empty_is}
use Rattle.psg_session.proofs.Shelving.{kept_at}
use Rattle.psg_session.proofs.StepLaws.{at_node, has_node, is_opened, is_opened_by, is_there, not_opened, opened_is, opened_plain, path_is, same_old, some_once}

-- there is such a fragment, and no node
pub no_source : (e : Editor) (place : Where) (name : Name) (held : OpenedTree) → e.opened ≡ Some held → (x : Saved)
    → saved_at e.saved name ≡ Some x → (r : Refusal) → HasNoTarget e place r → IsNoSource e place name r
no_source e place name held opened x at r (inl (is, none)) = absurd (none-some held (sym none ∙ opened))
no_source e place name held opened x at r (inr (is, other, also, none)) = inr (other, also, inr (is, x, at, none))

-- ---- empty places

no_hole_list : (p : ℕ) (node : Fragment) → IsList node → node ≡ hole p → ⊥
no_hole_list p node list is = subst IsList is list

module _ (def : Definition) (node : Fragment) where
  -- a list is one where it has no elements
  pub empty_list : (l : Listed) → IsListed def node l → IsTrue (l.elements == 0) ↔ IsEmptyPlace def node
  empty_list l listed = (
    (λ t. inr (listed.is_list, empty_is (children_of node) (ap (λ n. n == 0) (sym listed.elements) ∙ t))),
    (λ h. elim h [
      | inl hole_is ↦ absurd (no_hole_list hole_is.0 node listed.is_list hole_is.1)
      | inr list_is ↦ ap (λ n. n == 0) (listed.elements ∙ ap (λ (xs : List Fragment). length xs) list_is.1)
    ]),
  )

  -- another node is one where it is a placeholder
  pub empty_other : (IsList node → ⊥) → (is : Bool) → IsTrue is ↔ ((p : ℕ) × (node ≡ hole p))
      → IsTrue is ↔ IsEmptyPlace def node
  empty_other never is both = (
    (λ t. inl (both.0 t)),
    (λ h. elim h [ inl hole_is ↦ both.1 hole_is | inr list_is ↦ absurd (never list_is.0) ]),
  )

module _ (def : Definition) (e : Editor) (place : Where) (k : Option ℕ) (name : Name) where
  -- nothing is opened, or there is no such fragment or no node
  pub paste_nowhere : (r : Refusal) → IsNoSource e place name r → IsPlan def e (Paste place k name) (Err (stops.Refused r))
  paste_nowhere r (inl (is, none)) = inl (not_opened def e none, sym is)
  paste_nowhere r (inr (held, opened, inl (is, none))) = inr (is_opened_by def e held opened, inl (none, sym is))
  paste_nowhere r (inr (held, opened, inr (is, x, at, none))) = inr (
    is_opened_by def e held opened,
    inr (
      (λ never. none-some x (sym never ∙ at)),
      inl ((plain held, opened_plain def e held opened, none), sym is),
    ),
  )

  module _ (x : Source) (source : IsSource e place name x) where
    abbrev Room : Opened → Fragment → Type 0
    Room old node = HasNoRoom def k node

    abbrev Other : Opened → Fragment → Type 0
    Other old node = (y : Saved) → saved_at e.saved name ≡ Some y → MayTake def k node y.kind → ⊥

    is_saved : saved_at e.saved name ≡ None → ⊥
    is_saved never = none-some x.saved.now (sym never ∙ source.saved)

    usual : (HasNoRoom def k x.found.node.now → ⊥) → AtNode def (state_of e) place Room → ⊥
    usual room h = room (at_node def e place x.found source.found Room h)

    no_other : MayTake def k x.found.node.now x.saved.now.kind → IsOtherSaved def (state_of e) place k name → ⊥
    no_other takes h = at_node def e place x.found source.found Other h x.saved.now source.saved takes

    is_other : (MayTake def k x.found.node.now x.saved.now.kind → ⊥) → IsOtherSaved def (state_of e) place k name
    is_other never = has_node def e place x.found source.found Other
        (λ y at takes. never (subst (λ (z : Saved). MayTake def k x.found.node.now z.kind)
        (some_once y x.saved.now (saved_at e.saved name) at source.saved) takes))

module _ (def : Definition) (e : Editor) (place : Where) (name : Name) (x : Source) (source : IsSource e place name x) where
  -- ---- in place of the node

  -- the node is neither a placeholder nor an empty list
  pub paste_no_hole : (IsEmptyPlace def x.found.node.now → ⊥) → IsPlan def e (Paste place None name) (Err (stops.Refused NotHole))
  paste_no_hole never = inr (
    is_opened def e place x.found source.found,
    inr (
      is_saved def e place None name x source,
      inr (
        is_there def e place x.found source.found,
        inl (has_node def e place x.found source.found (Room def e place None name x source) never, refl),
      ),
    ),
  )

  module _ (empty : IsEmptyPlace def x.found.node.now) where
    has_room : HasNoRoom def None x.found.node.now → ⊥
    has_room never = never empty

    -- the fragment is of another kind than the node
    pub paste_other : (kind : Kind) → IsOfKind def x.found.node.now kind → (x.saved.now.kind ≡ kind → ⊥)
        → IsPlan def e (Paste place None name) (Err (stops.Refused OtherPhylum))
    paste_other kind is never = inr (
      is_opened def e place x.found source.found,
      inr (
        is_saved def e place None name x source,
        inr (
          is_there def e place x.found source.found,
          inr (
            usual def e place None name x source has_room,
            inl (
              is_other def e place None name x source
                  (λ takes. never (kind_once def x.found.node.now x.saved.now.kind kind takes is)),
              refl,
            ),
          ),
        ),
      ),
    )

    pasted_once : (other : Fragment) → Gives def (state_of e) (Paste place None name) other
        → other ≡ replaced (named_path place e.cursor) x.saved.now.tree (tree_in x.found.held.now.note)
    pasted_once other (by_change (by_paste old y opened at)) =
        ap (λ (o : Opened). replaced (named_path place e.cursor) y.tree o.tree)
        (same_old def e place x.found source.found old opened)
        ∙ ap (λ (z : Saved). replaced (named_path place e.cursor) z.tree (tree_in x.found.held.now.note))
        (some_once y x.saved.now (saved_at e.saved name) at source.saved)

    -- the fragment is in place of the node
    pub paste_made : IsEditor def e → IsOfKind def x.found.node.now x.saved.now.kind → (new : Fragment)
        → new ≡ x.saved.now.tree
        → IsProposal def e (Paste place None name) (proposal_of Grows (Put x.found.path.now new) x.found.path.now)
    paste_made editor takes new is =
        let f = x.found in
        let found = source.found in
        let result = put_is e def place f found (λ old. x.saved.now.tree) new is in
        let formed : WellFormed def new x.saved.now.kind =
        subst (λ t. WellFormed def t x.saved.now.kind) (sym is) (kept_at def e.saved name x.saved.now source.saved editor.saved) in
        let tree : Fragment = replaced f.path.now new (tree_in f.held.now.note) in
        let it : Makes def (state_of e) (Paste place None name) tree f.path.now =
        subst (λ q. Makes def (state_of e) (Paste place None name)
        (replaced f.path.now new (tree_in f.held.now.note)) q) (path_is def e place f found)
        (subst (λ t. Makes def (state_of e) (Paste place None name) t (named_path place e.cursor)) result
        (by_paste (plain f.held.now) x.saved.now (opened_is def e place f found) source.saved)) in
        record {
          held = f.held.now;
          opened = found.held;
          may = may_put def e place f editor found new
              (λ K node. subst (WellFormed def new) (sym (kind_is def f.node.now K x.saved.now.kind node takes)) formed);
          makes = it;
          only = λ other given. pasted_once other given ∙ result;
          refused = λ r h. inr (
            is_opened def e place f found,
            inr (
              is_saved def e place None name x source,
              inr (
                is_there def e place f found,
                inr (
                  usual def e place None name x source has_room,
                  inr (no_other def e place None name x source takes, h),
                ),
              ),
            ),
          );
          taken = λ h. (
            is_opened def e place f found,
            (
              is_saved def e place None name x source,
              (
                is_there def e place f found,
                (
                  usual def e place None name x source has_room,
                  (no_other def e place None name x source takes, h),
                ),
              ),
            ),
          );
          sized = tt;
          counts = inr (plain f.held.now, tree, f.path.now, opened_is def e place f found, it, omega arith);
        }

  -- ---- as a new element

  module _ (k : ℕ) where
    paste_no_place : HasNoRoom def (Some k) x.found.node.now → IsPlan def e (Paste place (Some k) name) (Err (stops.Refused NoPlace))
    paste_no_place none = inr (
      is_opened def e place x.found source.found,
      inr (
        is_saved def e place (Some k) name x source,
        inr (
          is_there def e place x.found source.found,
          inl (has_node def e place x.found source.found (Room def e place (Some k) name x source) none, refl),
        ),
      ),
    )

    -- the node is no list
    pub paste_no_list : (IsList x.found.node.now → ⊥) → IsPlan def e (Paste place (Some k) name) (Err (stops.Refused NoPlace))
    paste_no_list never = paste_no_place (inl never)

    module _ (list : Listed) (listed : IsListed def x.found.node.now list) where
      -- the list has fewer elements
      pub paste_behind : list.elements < k → IsPlan def e (Paste place (Some k) name) (Err (stops.Refused NoPlace))
      paste_behind less = paste_no_place (inr (let same = listed.elements in omega (arith, same, less)))

      module _ (within : k ≤ list.elements) where
        has_place : HasNoRoom def (Some k) x.found.node.now → ⊥
        has_place (inl never) = never listed.is_list
        has_place (inr less) = let same = listed.elements in absurd (omega (arith, same, less, within))

        -- the fragment is of another phylum than the elements
        pub paste_other_in : (x.saved.now.kind ≡ kinds.Phylum list.kind.now.element → ⊥)
            → IsPlan def e (Paste place (Some k) name) (Err (stops.Refused OtherPhylum))
        paste_other_in never = inr (
          is_opened def e place x.found source.found,
          inr (
            is_saved def e place (Some k) name x source,
            inr (
              is_there def e place x.found source.found,
              inr (
                usual def e place (Some k) name x source has_place,
                inl (
                  is_other def e place (Some k) name x source
                      (λ takes. let (other, is_list, is) = takes in never (is
                      ∙ ap (λ (l : ListKind). kinds.Phylum l.element)
                      (one_list_kind def x.found.node.now other list.kind.now is_list listed.kind))),
                  refl,
                ),
              ),
            ),
          ),
        )

        pasted_in_once : (other : Fragment) → Gives def (state_of e) (Paste place (Some k) name) other
            → other ≡ change_at (inserted k x.saved.now.tree) (named_path place e.cursor) (tree_in x.found.held.now.note)
        pasted_in_once other (by_change (by_paste_in old y opened at)) =
            ap (λ (o : Opened). change_at (inserted k y.tree) (named_path place e.cursor) o.tree)
            (same_old def e place x.found source.found old opened)
            ∙ ap (λ (z : Saved). change_at (inserted k z.tree) (named_path place e.cursor) (tree_in x.found.held.now.note))
            (some_once y x.saved.now (saved_at e.saved name) at source.saved)

        -- the fragment is a new element
        pub paste_in_made : IsEditor def e → x.saved.now.kind ≡ kinds.Phylum list.kind.now.element → (new : Fragment)
            → new ≡ x.saved.now.tree
            → IsProposal def e (Paste place (Some k) name)
            (proposal_of Grows (Add x.found.path.now k new) (x.found.path.now ++ k ∷ []))
        paste_in_made editor same_kind new is =
            let f = x.found in
            let found = source.found in
            let (l, of_list, at) = listed.kind in
            let here = path_is def e place f found in
            let takes : MayTake def (Some k) f.node.now x.saved.now.kind = (list.kind.now, listed.kind, same_kind) in
            let result : change_at (inserted k x.saved.now.tree) (named_path place e.cursor) (tree_in f.held.now.note)
            ≡ change_at (inserted k new) f.path.now (tree_in f.held.now.note) =
            ap (λ q. change_at (inserted k x.saved.now.tree) q (tree_in f.held.now.note)) here
            ∙ ap (λ t. change_at (inserted k t) f.path.now (tree_in f.held.now.note)) (sym is) in
            let tree : Fragment = change_at (inserted k new) f.path.now (tree_in f.held.now.note) in
            let it : Makes def (state_of e) (Paste place (Some k) name) tree (f.path.now ++ k ∷ []) =
            subst (λ q. Makes def (state_of e) (Paste place (Some k) name)
            (change_at (inserted k new) f.path.now (tree_in f.held.now.note)) (q ++ k ∷ [])) here
            (subst (λ t. Makes def (state_of e) (Paste place (Some k) name) t (named_path place e.cursor ++ k ∷ []))
            result (by_paste_in (plain f.held.now) x.saved.now (opened_is def e place f found) source.saved)) in
            record {
              held = f.held.now;
              opened = found.held;
              may = record {
                node = f.node.now;
                there = found.node;
                number = l;
                of_kind = of_list;
                list = list.kind.now;
                found = at;
                formed = subst (WellFormed def new) same_kind
                    (subst (λ t. WellFormed def t x.saved.now.kind) (sym is)
                    (kept_at def e.saved name x.saved.now source.saved editor.saved));
                within = let same = listed.elements in omega (arith, same, within);
              };
              makes = it;
              only = λ other given. pasted_in_once other given ∙ result;
              refused = λ r h. inr (
                is_opened def e place f found,
                inr (
                  is_saved def e place (Some k) name x source,
                  inr (
                    is_there def e place f found,
                    inr (
                      usual def e place (Some k) name x source has_place,
                      inr (no_other def e place (Some k) name x source takes, h),
                    ),
                  ),
                ),
              );
              taken = λ h. (
                is_opened def e place f found,
                (
                  is_saved def e place (Some k) name x source,
                  (
                    is_there def e place f found,
                    (
                      usual def e place (Some k) name x source has_place,
                      (no_other def e place (Some k) name x source takes, h),
                    ),
                  ),
                ),
              );
              sized = tt;
              counts = inr (
                plain f.held.now,
                tree,
                f.path.now ++ k ∷ [],
                opened_is def e place f found,
                it,
                (
                  x.saved.now,
                  source.saved,
                  cost_here e place f found (work_of new + (k + 1)) (work_of x.saved.now.tree + (k + 1))
                      (ap (λ t. work_of t + (k + 1)) is),
                ),
              );
            }
