-- What a change of well-formed trees gives is well-formed, and its cursor leads to a node.
use Rattle.std.proofs.Common.{◌≡◌, ◌⊎◌, inl, inr, ℕ, zero, suc, ◌<◌, Bool, true, false, List, [], ◌∷◌, ◌++◌, length, cond, slice_get, Option, Some, None, IsUtf8, bytes_eq, refl, sym, ◌∙◌, ap, subst, true≢false, append-nil, arith}
use Rattle.std.specs.List.{AllByRecursion}
use Rattle.std.specs.Option.{option_map, option_and_then}
use Rattle.std.proofs.lemmas.Bool.{cases_Bool}
use Rattle.std.proofs.lemmas.Bool.Decides.{eqb_tells}
use Rattle.std.proofs.lemmas.Option.{none-some}
use Rattle.psg_terms.specs.Names.{Name}
use Rattle.psg_grammar.specs.declared.types.Kind.{Kind}
use Rattle.psg_grammar.specs.declared.types.Kind.TheVariants as kinds
use Rattle.psg_grammar.specs.declared.types.Item.{Item}
use Rattle.psg_grammar.specs.declared.types.Item.TheVariants as items
use Rattle.psg_grammar.specs.declared.types.ListKind.{ListKind}
use Rattle.psg_grammar.specs.declared.types.Operator.{Operator}
use Rattle.psg_grammar.specs.declared.types.Definition.{Definition}
use Rattle.psg_grammar.specs.Fragments.{Fragment, hole, ending, cell, operator, with_child, with_name, with_number, with_text, anything, observed, children_of}
use Rattle.psg_grammar.specs.Insertion.{Leaf, blank, fresh_operator, with_operator}
use Rattle.psg_grammar.specs.Kinds.{IsOfKind}
use Rattle.psg_grammar.specs.Paths.{Path, node_at, change_at, replaced, inserted, removed, ended, IsList}
use Rattle.psg_grammar.specs.Sound.{IsSound}
use Rattle.psg_grammar.specs.WellFormed.{Fits, IsPlain, WellFormed, fixed_words}
use Rattle.psg_grammar.proofs.PathLaws.{change-below}
use Rattle.psg_class.specs.Texts.{tokens_of}
use Rattle.psg_class.proofs.FormedLaws.{yields_are_trees}
use Rattle.psg_cache.proofs.FormedTrees.{changed_formed, ended_formed, formed_is_kind, inserted_formed, kind_once, node_formed, removed_formed}
use Rattle.psg_script.specs.declared.command.Where.{Where}
use Rattle.psg_menu.specs.Menus.{HasQuietSlots}
use Rattle.psg_menu.proofs.FormedTrials.{fresh_formed}
use Rattle.psg_library.specs.declared.fragment.SavedFragment.{SavedFragment as Saved}
use Rattle.psg_session.specs.Formed.{IsFormedSaved, IsFormedState}
use Rattle.psg_session.specs.Leaves.{GivesLeaves}
use Rattle.psg_session.specs.PlainState.{State, Opened, named_path}
use Rattle.psg_session.specs.PlainStep.{AtNode, HasNoRoom, IsDeclaringPhylum, IsListOf, IsNoNode, IsOperator, IsOther, IsOtherSaved, IsWanted, MayReopen, end_of}
use Rattle.psg_session.specs.Shelf.{saved_at}
use Rattle.psg_session.specs.Typed.{ReadsFor}
use Rattle.psg_session.proofs.ChangeLaws.{end_is_list, finished_formed, kind_is, kind_there, one_list_kind, one_operator}
use Rattle.psg_session.proofs.NewTrees.{blank_formed}
use Rattle.psg_session.proofs.StepLaws.{some_once}
use Rattle.psg_textedit.proofs.TokenValues.{text_values}

-- ---- one or the other

some_or : (o : Option Fragment) → (o ≡ None → ⊥) → (x : Fragment) × (o ≡ Some x)
some_or None never = absurd (never refl)
some_or (Some x) never = (x, refl)

pub hole_or : (x : Fragment) → ((p : ℕ) × (x ≡ hole p)) ⊎ ((p : ℕ) → x ≡ hole p → ⊥)
hole_or (hole p) = inl (p, refl)
hole_or (ending l u) = inr (λ p e. cc)
hole_or (cell l e r) = inr (λ p d. cc)
hole_or (operator o) = inr (λ p e. cc)
hole_or (with_child f t) = inr (λ p e. cc)
hole_or (with_name f n) = inr (λ p e. cc)
hole_or (with_number f n) = inr (λ p e. cc)
hole_or (with_text f t) = inr (λ p e. cc)
hole_or anything = inr (λ p e. cc)
hole_or (observed f) = inr (λ p e. cc)

list_or : (x : Fragment) → IsList x ⊎ (IsList x → ⊥)
list_or (ending l u) = inl tt
list_or (cell l e r) = inl tt
list_or (hole p) = inr (λ h. h)
list_or (operator o) = inr (λ h. h)
list_or (with_child f t) = inr (λ h. h)
list_or (with_name f n) = inr (λ h. h)
list_or (with_number f n) = inr (λ h. h)
list_or (with_text f t) = inr (λ h. h)
list_or anything = inr (λ h. h)
list_or (observed f) = inr (λ h. h)

kind_or : (a b : Kind) → (a ≡ b) ⊎ (a ≡ b → ⊥)
kind_or (kinds.Phylum p) (kinds.Phylum q) = elim (eqb_tells p q) [
  | inl e ↦ inl (ap kinds.Phylum e.1)
  | inr e ↦ inr (λ d. e.1 cc)
]
kind_or (kinds.List l) (kinds.List m) = elim (eqb_tells l m) [
  | inl e ↦ inl (ap kinds.List e.1)
  | inr e ↦ inr (λ d. e.1 cc)
]
kind_or (kinds.Phylum p) (kinds.List m) = inr (λ d. cc)
kind_or (kinds.List l) (kinds.Phylum q) = inr (λ d. cc)

-- the operator of a name
named_operator : (o : Option Operator) (name : Name) → option_map (λ (op : Operator). op.name) o ≡ Some name
    → (op : Operator) × (o ≡ Some op)
named_operator None name e = absurd (none-some name e)
named_operator (Some op) name e = (op, refl)

-- what holds of all holds of the one that is found
pub found_has : (name : Name) (P : Saved → Type 0) (xs : List Saved) (x : Saved) → AllByRecursion P xs
    → saved_at xs name ≡ Some x → P x
found_has name P [] x all e = absurd (none-some x e)
found_has name P (y ∷ ys) x all e = elim (cases_Bool (bytes_eq y.name name)) [
  | inl t ↦
      let d : Some y ≡ Some x = subst (λ b. cond b (Some y) (saved_at ys name) ≡ Some x) t e in
      let same : y ≡ x = cc in
      subst P same all.0
  | inr t ↦
      found_has name P ys x all.1 (subst (λ b. cond b (Some y) (saved_at ys name) ≡ Some x) t e)
]

module _ (def : Definition) where
  -- a tree of a list kind is a list
  fits_list : (f : Fragment) (more : List Item) (l : ℕ) → Fits def f more (kinds.List l) → IsPlain f
      → (more ≡ []) × IsList f
  fits_list (ending m u) more l (none, is, rest) plain = (none, tt)
  fits_list (cell m e r) more l (none, is, k, found, fe, fr, z) plain = (none, tt)
  fits_list (hole p) more l (none, is, small, quiet) plain = absurd (cc)
  fits_list (operator o) more l (op, found, all, is) plain = absurd (cc)
  fits_list (with_child f t) more l (k, hf, ht) plain =
      let (empty, is) = fits_list f (items.Slot k ∷ more) l hf plain.0 in absurd (cc)
  fits_list (with_name f n) more l (inl (s, h), name) plain =
      let (empty, is) = fits_list f (items.Refers s ∷ more) l h plain in absurd (cc)
  fits_list (with_name f n) more l (inr (s, h), name) plain =
      let (empty, is) = fits_list f (items.Declares s ∷ more) l h plain in absurd (cc)
  fits_list (with_number f n) more l (h, small) plain =
      let (empty, is) = fits_list f (items.Number ∷ more) l h plain in absurd (cc)
  fits_list (with_text f t) more l (h, text) plain =
      let (empty, is) = fits_list f (items.Text ∷ more) l h plain in absurd (cc)
  fits_list anything more l h plain = absurd h
  fits_list (observed f) more l h plain = absurd plain

  -- the kind of a list is there
  list_there : (f : Fragment) (K : Kind) → WellFormed def f K → IsList f
      → (l : ℕ) × (list : ListKind) × (K ≡ kinds.List l) × (slice_get def.lists l ≡ Some list) × IsListOf def f list
  list_there (ending l u) K ((none, is, (list, found, may)), plain) is_list = (l, list, is, found, (l, refl, found))
  list_there (cell l e r) K ((none, is, list, found, fe, fr, z), plain) is_list = (l, list, is, found, (l, refl, found))
  list_there (hole p) K h is_list = absurd is_list
  list_there (operator o) K h is_list = absurd is_list
  list_there (with_child f t) K h is_list = absurd is_list
  list_there (with_name f n) K h is_list = absurd is_list
  list_there (with_number f n) K h is_list = absurd is_list
  list_there (with_text f t) K h is_list = absurd is_list
  list_there anything K h is_list = absurd is_list
  list_there (observed f) K h is_list = absurd is_list

  -- a new element is at its place
  inserted_there : (k : ℕ) (new f : Fragment) (K : Kind) → WellFormed def f K → IsList f
      → (length (children_of f) < k → ⊥) → slice_get (children_of (inserted k new f)) k ≡ Some new
  inserted_there zero new (ending l u) K h is short = refl
  inserted_there zero new (cell l e r) K h is short = refl
  inserted_there (suc k) new (ending l u) K h is short = absurd (short (omega arith))
  inserted_there (suc k) new (cell l e r) K ((none, same, list, found, fe, fr, z), plain) is short =
      inserted_there k new r (kinds.List l) (fr, plain.1) (fits_list r [] l fr plain.1).1
      (λ h. short (omega (arith, h)))
  inserted_there zero new f K h is short = absurd is
  inserted_there (suc k) new f K h is short = absurd is

  -- A list that may be unfinished stays of its kind where it becomes so.
  reopened_formed : (f : Fragment) (K : Kind) → WellFormed def f K → MayReopen def f → WellFormed def (ended true f) K
  reopened_formed f K formed (list, (l, of, found), may, end) =
      let same : K ≡ kinds.List l = kind_is def f K (kinds.List l) formed of in
      subst (WellFormed def (ended true f)) (sym same)
      (ended_formed def true f l list (subst (WellFormed def f) same formed) found (λ e. may))

  reopen_or : (f : Fragment) (K : Kind) → WellFormed def f K → MayReopen def f ⊎ (MayReopen def f → ⊥)
  reopen_or f K formed = elim (list_or f) [
    | inr never ↦ inr (λ (list, of, may, end). never (end_is_list def f false end))
    | inl is ↦
        let (l, list, same, found, of) = list_there f K formed is in
        elim (cases_Bool list.unfinished) [
          | inr e ↦
              inr (λ (other, also, may, end). true≢false (sym may ∙ ap (λ (x : ListKind). x.unfinished)
              (one_list_kind def f other list also of) ∙ e))
          | inl e ↦ elim (end_or f is) [
            | inl end ↦ inl (list, of, e, end)
            | inr never ↦ inr (λ (other, also, may, end). never end)
          ]
        ]
  ] where
    end_or : (x : Fragment) → IsList x → (end_of x ≡ Some false) ⊎ (end_of x ≡ Some false → ⊥)
    end_or x is = go (end_of x) where
      go : (o : Option Bool) → (o ≡ Some false) ⊎ (o ≡ Some false → ⊥)
      go None = inr (λ e. cc)
      go (Some true) = inr (λ e. cc)
      go (Some false) = inl refl

  module _ (sound : IsSound def) (slots : HasQuietSlots def) (s : State) (formed : IsFormedState def s)
      (place : Where) (old : Opened) (opened : s.opened ≡ Some old) where
    abbrev there : Path
    there = named_path place s.cursor

    -- the tree is of the opened kind, and the path leads to a node of it
    abbrev pub IsGiven : Fragment → Path → Type 0
    IsGiven tree path = WellFormed def tree old.kind × (node : Fragment) × (node_at tree path ≡ Some node)

    whole : WellFormed def old.tree old.kind
    whole = formed.opened old opened

    pub node_there : (IsNoNode def s place → ⊥) → (node : Fragment) × (node_at old.tree there ≡ Some node)
    node_there some = some_or (node_at old.tree there) (λ none. some (old, opened, none))

    changed_given : (g : Fragment → Fragment) (node : Fragment) → node_at old.tree there ≡ Some node
        → ((K : Kind) → WellFormed def node K → WellFormed def (g node) K) → IsGiven (change_at g there old.tree) there
    changed_given g node at keeps = (
      changed_formed def g old.tree old.kind there node whole at keeps,
      g node,
      subst (λ p. node_at (change_at g there old.tree) p ≡ Some (g node)) (append-nil there)
          (change-below g there [] old.tree node at),
    )

    pub put_given : (new node : Fragment) (K : Kind) → node_at old.tree there ≡ Some node → IsOfKind def node K
        → WellFormed def new K → IsGiven (replaced there new old.tree) there
    put_given new node K at is fresh =
        changed_given (λ x. new) node at
        (λ J h. subst (WellFormed def new) (kind_once def node K J is (formed_is_kind def node J h)) fresh)

    -- a new element of a list
    pub added_given : (k : ℕ) (new node : Fragment) (l : ℕ) (list : ListKind) → node_at old.tree there ≡ Some node
        → WellFormed def node (kinds.List l) → slice_get def.lists l ≡ Some list → IsList node
        → (length (children_of node) < k → ⊥) → WellFormed def new (kinds.Phylum list.element)
        → IsGiven (change_at (inserted k new) there old.tree) (there ++ k ∷ [])
    added_given k new node l list at of_list found is short fresh =
        let keeps : (K : Kind) → WellFormed def node K → WellFormed def (inserted k new node) K =
        λ K h. subst (WellFormed def (inserted k new node)) (kind_once def node (kinds.List l) K
        (formed_is_kind def node (kinds.List l) of_list) (formed_is_kind def node K h))
        (inserted_formed def k new node l list of_list found fresh) in
        let (made, last, at_last) = changed_given (inserted k new) node at keeps in (
          made,
          new,
          change-below (inserted k new) there (k ∷ []) old.tree node at
              ∙ ap (option_and_then (λ t. node_at t [])) (inserted_there k new node (kinds.List l) of_list is short),
        )

    -- the list at the place, and that the new place is in it
    pub list_at : (k : ℕ) → (IsNoNode def s place → ⊥)
        → (AtNode def s place (λ o node. (IsList node → ⊥) ⊎ (length (children_of node) < k)) → ⊥)
        → (node : Fragment) × (l : ℕ) × (list : ListKind) × (node_at old.tree there ≡ Some node)
        × WellFormed def node (kinds.List l) × (slice_get def.lists l ≡ Some list) × IsListOf def node list × IsList node
        × (length (children_of node) < k → ⊥)
    list_at k some room =
        let (node, at) = node_there some in
        elim (list_or node) [
          | inr never ↦ absurd (room (old, opened, node, at, inl never))
          | inl is ↦
              let (K, node_is) = node_formed def old.tree old.kind there node whole at in
              let (l, list, same, found, of) = list_there node K node_is is in (
                node,
                l,
                list,
                at,
                subst (WellFormed def node) same node_is,
                found,
                of,
                is,
                (λ h. room (old, opened, node, at, inr h)),
              )
        ]

    -- ---- new operators

    -- the operator is of the phylum that is wanted
    pub of_phylum : (k : Option ℕ) (name : Name) (node : Fragment) (p : ℕ) → node_at old.tree there ≡ Some node
        → ((q : ℕ) → IsWanted def k node q → q ≡ p) → (IsOther def s place k name → ⊥) → (o : ℕ)
        → IsOperator def o name
        → (op : Operator) × (slice_get def.operators o ≡ Some op) × (op.phylum ≡ p)
    of_phylum k name node p at only same o named =
        let (op, found) = named_operator (slice_get def.operators o) name named in
        elim (eqb_tells op.phylum p) [
          | inl e ↦ (op, found, e.1)
          | inr e ↦ absurd (same (
            old,
            opened,
            node,
            at,
            λ q u want also of. e.1 (
                ap (λ (x : Operator). x.phylum) (some_once op of.0 (slice_get def.operators u)
                (subst (λ x. slice_get def.operators x ≡ Some op) (one_operator def sound o u name named also) found) of.1)
                ∙ of.2 ∙ only q want),
          ))
        ]

    module _ (name : Name) (args : List ℕ) (o : ℕ) (leaves : List Leaf) (named : IsOperator def o name)
        (gives : GivesLeaves def o args leaves) where
      abbrev fresh : Fragment
      fresh = fresh_operator def o leaves

      fresh_of : (p : ℕ) (op : Operator) → slice_get def.operators o ≡ Some op → op.phylum ≡ p
          → WellFormed def fresh (kinds.Phylum p)
      fresh_of p op found same =
          subst (λ q. WellFormed def fresh (kinds.Phylum q)) same (fresh_formed def sound slots o op leaves found gives.3)

      pub refined : (IsNoNode def s place → ⊥) → (AtNode def s place (λ o node. (p : ℕ) → node ≡ hole p → ⊥) → ⊥)
          → (IsOther def s place None name → ⊥) → IsGiven (with_operator def old.tree there None o leaves) there
      refined some is_hole same =
          let (node, at) = node_there some in
          elim (hole_or node) [
            | inr never ↦ absurd (is_hole (old, opened, node, at, never))
            | inl h ↦
                let only : (q : ℕ) → IsWanted def None node q → q ≡ h.0 =
                λ q want. let d : hole q ≡ hole h.0 = sym want ∙ h.1 in cc in
                let (op, found, is) = of_phylum None name node h.0 at only same o named in
                put_given fresh node (kinds.Phylum h.0) at (subst (λ x. IsOfKind def x (kinds.Phylum h.0)) (sym h.1) refl)
                (fresh_of h.0 op found is)
          ]

      pub put_in : (k : ℕ) → (IsNoNode def s place → ⊥)
          → (AtNode def s place (λ o node. (IsList node → ⊥) ⊎ (length (children_of node) < k)) → ⊥)
          → (IsOther def s place (Some k) name → ⊥)
          → IsGiven (with_operator def old.tree there (Some k) o leaves) (there ++ k ∷ [])
      put_in k some room same =
          let (node, l, list, at, of_list, listed, of, is, short) = list_at k some room in
          let only : (q : ℕ) → IsWanted def (Some k) node q → q ≡ list.element =
          λ q (other, also, e). e ∙ ap (λ (x : ListKind). x.element) (one_list_kind def node other list also of) in
          let (op, found, same_phylum) = of_phylum (Some k) name node list.element at only same o named in
          added_given k fresh node l list at of_list listed is short (fresh_of list.element op found same_phylum)

    -- ---- what is taken away, and how lists end

    pub cut_given : (node : Fragment) (kind : Kind) → node_at old.tree there ≡ Some node → IsOfKind def node kind
        → (AtNode def s place (λ o x. (K : Kind) × IsOfKind def x K × IsDeclaringPhylum def K) → ⊥)
        → IsGiven (replaced there (blank def kind) old.tree) there
    cut_given node kind at of silent =
        put_given (blank def kind) node kind at of
        (blank_formed def kind (kind_there def sound node kind (node_formed def old.tree old.kind there node whole at) of)
        (λ loud. silent (old, opened, node, at, (kind, of, loud))))

    pub removed_given : (k : ℕ) → (IsNoNode def s place → ⊥) → IsGiven (change_at (removed k) there old.tree) there
    removed_given k some =
        let (node, at) = node_there some in
        changed_given (removed k) node at (λ K h. removed_formed def k node K h)

    pub closed_given : (IsNoNode def s place → ⊥) → IsGiven (change_at (ended false) there old.tree) there
    closed_given some =
        let (node, at) = node_there some in
        changed_given (ended false) node at (λ K h. finished_formed def node K h)

    pub reopened_given : (IsNoNode def s place → ⊥) → (AtNode def s place (λ o node. MayReopen def node → ⊥) → ⊥)
        → IsGiven (change_at (ended true) there old.tree) there
    reopened_given some may =
        let (node, at) = node_there some in
        let (K, node_is) = node_formed def old.tree old.kind there node whole at in
        elim (reopen_or node K node_is) [
          | inr never ↦ absurd (may (old, opened, node, at, never))
          | inl is_open ↦
              changed_given (ended true) node at (λ J h. reopened_formed node J h is_open)
        ]

    -- ---- saved fragments

    module _ (name : Name) (x : Saved) (is_saved : saved_at s.saved name ≡ Some x) where
      kept : WellFormed def x.tree x.kind
      kept = found_has name (IsFormedSaved def) s.saved x formed.saved is_saved

      pub pasted : (IsNoNode def s place → ⊥) → (IsOtherSaved def s place None name → ⊥)
          → IsGiven (replaced there x.tree old.tree) there
      pasted some same =
          let (node, at) = node_there some in
          let (K, node_is) = node_formed def old.tree old.kind there node whole at in
          elim (kind_or K x.kind) [
            | inl e ↦
                put_given x.tree node x.kind at (subst (IsOfKind def node) e (formed_is_kind def node K node_is)) kept
            | inr e ↦ absurd (same (
              old,
              opened,
              node,
              at,
              λ y also takes. e (
                  kind_is def node K y.kind node_is takes
                  ∙ ap (λ (z : Saved). z.kind) (some_once y x (saved_at s.saved name) also is_saved)),
            ))
          ]

      pub pasted_in : (k : ℕ) → (IsNoNode def s place → ⊥) → (AtNode def s place (λ o node. HasNoRoom def (Some k) node) → ⊥)
          → (IsOtherSaved def s place (Some k) name → ⊥)
          → IsGiven (change_at (inserted k x.tree) there old.tree) (there ++ k ∷ [])
      pasted_in k some room same =
          let (node, l, list, at, of_list, listed, of, is, short) = list_at k some room in
          elim (kind_or x.kind (kinds.Phylum list.element)) [
            | inl e ↦
                added_given k x.tree node l list at of_list listed is short (subst (WellFormed def x.tree) e kept)
            | inr e ↦ absurd (same (
              old,
              opened,
              node,
              at,
              λ y also (other, takes, phylum). e (
                  ap (λ (z : Saved). z.kind) (some_once x y (saved_at s.saved name) is_saved also) ∙ phylum
                  ∙ ap (λ (z : ListKind). kinds.Phylum z.element) (one_list_kind def node other list takes of)),
            ))
          ]

    -- ---- typed text

    pub typed_given : (text : List ℕ) (node new : Fragment) (nesting : ℕ) → IsUtf8 text
        → node_at old.tree there ≡ Some node → ReadsFor def node text new nesting
        → IsGiven (replaced there new old.tree) there
    typed_given text node new nesting utf8 at reads =
        let read : WellFormed def new reads.kind =
        yields_are_trees def reads.kind 0 nesting new (tokens_of reads.reads.tokens)
        (text_values (fixed_words def) text 0 reads.reads.tokens utf8 reads.reads.are) reads.reads.yields in
        put_given new node reads.kind at reads.of_kind read
