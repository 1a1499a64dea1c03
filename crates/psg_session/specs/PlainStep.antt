-- What the plain editor does at a command: the first of the command's tests that holds refuses it, otherwise it is
-- done.
use Rattle.std.specs.Prelude.{ℕ, ◌≡◌, ◌<◌, ◌≤◌, ◌⊎◌, Bool, true, false, List, [], ◌∷◌, ◌++◌, length, map, codes, Option}
use Rattle.std.specs.Prelude.{Some, None, slice_get}
use Rattle.psg_terms.specs.Names.{Name}
use Rattle.psg_terms.specs.Terms.{Term}
use Rattle.psg_grammar.specs.declared.types.Kind.{Kind}
use Rattle.psg_grammar.specs.declared.types.Kind.TheVariants as kinds
use Rattle.psg_grammar.specs.declared.types.ListKind.{ListKind}
use Rattle.psg_grammar.specs.declared.types.Operator.{Operator}
use Rattle.psg_grammar.specs.declared.types.Definition.{Definition}
pub use Rattle.psg_specimen.specs.Languages.{IsDeclaringPhylum}
use Rattle.psg_grammar.specs.Fragments.{Fragment, hole, ending, cell, children_of}
use Rattle.psg_grammar.specs.Paths.{Path, node_at, change_at, replaced, inserted, removed, ended, IsList}
use Rattle.psg_grammar.specs.Insertion.{Leaf, blank, with_operator}
use Rattle.psg_grammar.specs.Kinds.{kind_name_of, op_name_of, IsOfKind}
use Rattle.psg_grammar.specs.Regions.{names_of}
use Rattle.psg_grammar.specs.Relations.{IsRelationOf, IsShownRelation}
use Rattle.psg_grammar.specs.Sizes.{IsBig, IsDeep}
use Rattle.psg_grammar.specs.Steps.{IsWide, IsHeavy, IsWideAt}
use Rattle.psg_grammar.specs.Marks.{Mark, IsMarkBy}
use Rattle.psg_unparse.specs.Layout.{text_of}
use Rattle.psg_unparse.specs.Spots.{Placed}
use Rattle.psg_library.specs.Keeping.{IsKept}
use Rattle.psg_screen.specs.Window.{window_of}
use Rattle.psg_unparse.specs.Spans.{span_of}
use Rattle.psg_textedit.specs.Regions.{IsOutside}
use Rattle.psg_class.specs.Texts.{HasNoTokens, HasNoTree}
use Rattle.psg_renaming.specs.Occurring.{occurring}
use Rattle.psg_menu.specs.Menus.{in_byte_order, IsMenu, IsNameMenu, HasWideTrial, HasWideNaming}
use Rattle.psg_menu.specs.Answers.{HasOneName}
use Rattle.psg_script.specs.declared.command.Where.{Where}
use Rattle.psg_script.specs.declared.command.Command.{Command}
use Rattle.psg_script.specs.declared.command.Command.TheVariants.{New, Goto, Refine, Insert, Cut, Remove, Close, Reopen}
use Rattle.psg_script.specs.declared.command.Command.TheVariants.{Over, Range, Show, Screen, Relation, Own, Menu, Names}
use Rattle.psg_script.specs.declared.command.Command.TheVariants.{Free, Undo, Redo, Save, Paste, Keep, Fetch}
use Rattle.psg_session.specs.Exchanges.{most_kept_bytes}
use Rattle.psg_session.specs.Kept.{IsUnreadable, OfBytes, OfFetched}
use Rattle.psg_session.specs.PlainState.{State, Opened, Answer, stored, got, lost, named_path, with_new, with_change}
use Rattle.psg_session.specs.PlainState.{with_version, with_saved, with_cursor}
use Rattle.psg_library.specs.declared.fragment.SavedFragment.{SavedFragment as Saved}
use Rattle.psg_session.specs.Shelf.{saved_at, IsFull}
use Rattle.psg_session.specs.declared.refusal.Refusal.{Refusal}
use Rattle.psg_session.specs.declared.refusal.Refusal.TheVariants.{NoNode, NotHole, Unknown, OtherPhylum, BadArguments}
use Rattle.psg_session.specs.declared.refusal.Refusal.TheVariants.{NoPlace, TooBig, TooDeep, TooWide, TooHeavy}
use Rattle.psg_session.specs.declared.refusal.Refusal.TheVariants.{Inadmissible, NoTokens, NoTree, NothingEarlier}
use Rattle.psg_session.specs.declared.refusal.Refusal.TheVariants.{NothingLater, NoFragment, ShelfFault, KeptUnreadable}
use Rattle.psg_session.specs.declared.refusal.Refusal.TheVariants.{NoRange, NoPlaceholder, NothingOpened, ShelfFull}
use Rattle.psg_session.specs.Refusals.{Tests, done, test, Refuses, Passes, place_test}
use Rattle.psg_session.specs.Replies.{Reply, refused, answered, marked, shown}
use Rattle.psg_session.specs.Leaves.{GivesLeaves}
use Rattle.psg_session.specs.Typed.{HasNoTreeFor, NestsTooDeep, ReadsFor}
use Rattle.psg_session.specs.Ranged.{NestsTooDeepWith, OfOpened, ReadsWith, replacing, text_with}
use Rattle.psg_session.specs.Answers.{key_text, rows_lines, free_names, names_line}
use Rattle.psg_session.specs.Printing.{goto_line, lines_in, view_of, what_is, IsWrittenAt}

-- how a list ends, finished or not; no other node has an end
abbrev pub end_of : Fragment → Option Bool
end_of (ending l u) = Some u
end_of (cell l e r) = end_of r
end_of _ = None

module _ (def : Definition) where
  abbrev pub HasName : Kind → Name → Type 0
  HasName kind name = kind_name_of def kind ≡ Some name

  abbrev pub IsOperator : ℕ → Name → Type 0
  IsOperator o name = op_name_of def o ≡ Some name

  -- the operator is of the phylum
  abbrev pub IsOfPhylum : ℕ → ℕ → Type 0
  IsOfPhylum o p = (op : Operator) × (slice_get def.operators o ≡ Some op) × (op.phylum ≡ p)

  -- the node is a list of the kind
  abbrev pub IsListOf : Fragment → ListKind → Type 0
  IsListOf node list = (l : ℕ) × IsOfKind def node (kinds.List l) × (slice_get def.lists l ≡ Some list)

  -- The phylum that an operator at the node must have: that of the placeholder, or, for a new element, that of the
  -- list's elements.
  abbrev pub IsWanted : Option ℕ → Fragment → ℕ → Type 0
  IsWanted None node p = node ≡ hole p
  IsWanted (Some k) node p = (list : ListKind) × IsListOf node list × (p ≡ list.element)

  -- the list is finished, and its kind may be unfinished
  abbrev pub MayReopen : Fragment → Type 0
  MayReopen node = (list : ListKind) × IsListOf node list × (list.unfinished ≡ true) × (end_of node ≡ Some false)

  -- a placeholder, or a list without elements
  abbrev pub IsEmptyPlace : Fragment → Type 0
  IsEmptyPlace node = ((p : ℕ) × (node ≡ hole p)) ⊎ (IsList node × (children_of node ≡ []))

  -- The node has no room for a saved fragment: in its own place, or as a new element.
  abbrev pub HasNoRoom : Option ℕ → Fragment → Type 0
  HasNoRoom None node = IsEmptyPlace node → ⊥
  HasNoRoom (Some k) node = (IsList node → ⊥) ⊎ (length (children_of node) < k)

  -- The node has no place for an operator: it is no placeholder, or, for a new element, no list with such a place.
  abbrev pub HasNoPlace : Option ℕ → Fragment → Type 0
  HasNoPlace None node = (p : ℕ) → node ≡ hole p → ⊥
  HasNoPlace (Some k) node = (IsList node → ⊥) ⊎ (length (children_of node) < k)

  -- The kind that a saved fragment must have at the node: the node's own, or, for a new element, the phylum of the
  -- list's elements.
  abbrev pub MayTake : Option ℕ → Fragment → Kind → Type 0
  MayTake None node kind = IsOfKind def node kind
  MayTake (Some k) node kind = (list : ListKind) × IsListOf node list × (kind ≡ kinds.Phylum list.element)

  -- the opened fragment, if there is one, has the property with the node at the place
  abbrev pub AtNode : State → Where → (Opened → Fragment → Type 0) → Type 0
  AtNode s place P = (old : Opened) × (s.opened ≡ Some old) × (node : Fragment)
      × (node_at old.tree (named_path place s.cursor) ≡ Some node) × P old node

  -- the place leads to no node of the opened fragment
  abbrev pub IsNoNode : State → Where → Type 0
  IsNoNode s place = (old : Opened) × (s.opened ≡ Some old) × (node_at old.tree (named_path place s.cursor) ≡ None)

  -- the operator of the name is not of the phylum that is wanted at the place
  abbrev pub IsOther : State → Where → Option ℕ → Name → Type 0
  IsOther s place k name =
      AtNode s place (λ old node. (p : ℕ) (o : ℕ) → IsWanted k node p → IsOperator o name → IsOfPhylum o p → ⊥)

  -- the saved fragment of the name is of another kind than the place
  abbrev pub IsOtherSaved : State → Where → Option ℕ → Name → Type 0
  IsOtherSaved s place k name =
      AtNode s place (λ old node. (x : Saved) → saved_at s.saved name ≡ Some x → MayTake k node x.kind → ⊥)

  -- no operator of the name has exactly one name
  abbrev pub HasNotOneName : Name → Type 0
  HasNotOneName name = (o p : ℕ) → IsOperator o name → HasOneName def o p → ⊥

  -- the tree of a trial of an operator of the wanted phylum at the place is too wide
  abbrev pub IsMenuTooWide : State → Where → Option ℕ → Type 0
  IsMenuTooWide s place k =
      AtNode s place (λ old node. (p : ℕ) × IsWanted k node p
      × HasWideTrial def old.tree (named_path place s.cursor) k p)

  -- the tree of a trial of the operator there, with a name that occurs in the fragment, is too wide
  abbrev pub IsNamesTooWide : State → Where → Option ℕ → Name → Type 0
  IsNamesTooWide s place k name =
      AtNode s place (λ old node. (o : ℕ) × IsOperator o name
      × HasWideNaming def old.tree (named_path place s.cursor) k o (in_byte_order (occurring old.tree)))

  abbrev pub GivesNone : Name → List ℕ → Type 0
  GivesNone name args = (o : ℕ) (leaves : List Leaf) → IsOperator o name → GivesLeaves def o args leaves → ⊥

  -- Makes s command tree path: what a change of the opened fragment gives before it is tested, and the path of the
  -- cursor then. Undo, redo and fetch have no case here, since a case is a new version.
  pub data Makes (s : State) : Command → Fragment → Path → Type 0 where
    by_refine : {place : Where} {name : Name} {args : List ℕ} (old : Opened) (o : ℕ) (leaves : List Leaf)
        → s.opened ≡ Some old → IsOperator o name → GivesLeaves def o args leaves
        → Makes s (Refine place name args) (with_operator def old.tree (named_path place s.cursor) None o leaves)
        (named_path place s.cursor)
    by_insert : {place : Where} {k : ℕ} {name : Name} {args : List ℕ} (old : Opened) (o : ℕ) (leaves : List Leaf)
        → s.opened ≡ Some old → IsOperator o name → GivesLeaves def o args leaves
        → Makes s (Insert place k name args) (with_operator def old.tree (named_path place s.cursor) (Some k) o leaves)
        (named_path place s.cursor ++ k ∷ [])
    by_cut : {place : Where} (old : Opened) (node : Fragment) (kind : Kind) → s.opened ≡ Some old
        → node_at old.tree (named_path place s.cursor) ≡ Some node → IsOfKind def node kind
        → Makes s (Cut place) (replaced (named_path place s.cursor) (blank def kind) old.tree)
        (named_path place s.cursor)
    by_remove : {place : Where} {k : ℕ} (old : Opened) → s.opened ≡ Some old
        → Makes s (Remove place k) (change_at (removed k) (named_path place s.cursor) old.tree)
        (named_path place s.cursor)
    by_close : {place : Where} (old : Opened) → s.opened ≡ Some old
        → Makes s (Close place) (change_at (ended false) (named_path place s.cursor) old.tree)
        (named_path place s.cursor)
    by_reopen : {place : Where} (old : Opened) → s.opened ≡ Some old
        → Makes s (Reopen place) (change_at (ended true) (named_path place s.cursor) old.tree)
        (named_path place s.cursor)
    by_paste : {place : Where} {name : Name} (old : Opened) (x : Saved) → s.opened ≡ Some old
        → saved_at s.saved name ≡ Some x
        → Makes s (Paste place None name) (replaced (named_path place s.cursor) x.tree old.tree)
        (named_path place s.cursor)
    by_paste_in : {place : Where} {k : ℕ} {name : Name} (old : Opened) (x : Saved) → s.opened ≡ Some old
        → saved_at s.saved name ≡ Some x
        → Makes s (Paste place (Some k) name) (change_at (inserted k x.tree) (named_path place s.cursor) old.tree)
        (named_path place s.cursor ++ k ∷ [])
    by_over : {place : Where} {text : List ℕ} (old : Opened) (node new : Fragment) (nesting : ℕ) → s.opened ≡ Some old
        → node_at old.tree (named_path place s.cursor) ≡ Some node → ReadsFor def node text new nesting
        → Makes s (Over place text) (replaced (named_path place s.cursor) new old.tree) (named_path place s.cursor)
    by_range : {start end : ℕ} {text : List ℕ} (old : Opened) (tree : Fragment) (nesting : ℕ) → s.opened ≡ Some old
        → ReadsWith def (replacing start end text) old tree nesting
        → Makes s (Range start end text) tree []

  -- what a command gives before it is tested: what a change makes, or the new tree of a kind
  pub data Gives (s : State) : Command → Fragment → Type 0 where
    by_change : {command : Command} {tree : Fragment} {path : Path} → Makes s command tree path → Gives s command tree
    by_new : {name : Name} (kind : Kind) → HasName kind name → Gives s (New name) (blank def kind)

  -- what the command gives has the property
  abbrev pub OfResult : State → Command → (Fragment → Type 0) → Type 0
  OfResult s command P = (tree : Fragment) × Gives s command tree × P tree

-- The tests of a definition's editor. `IsGood` says which trees are good.
module _ (def : Definition) (IsGood : Fragment → Type 0) where
  -- The tests of the tree that a command gives. `Of` says that this tree has a property.
  abbrev pub opening : ((Fragment → Type 0) → Type 0) → Tests
  opening Of = test TooWide (Of (IsWide def)) done

  -- if something is taken away, or a list is made unfinished
  abbrev pub loosening : ((Fragment → Type 0) → Type 0) → Tests
  loosening Of = test TooWide (Of (IsWide def)) (test TooHeavy (Of (IsHeavy def)) done)

  -- where a list is finished: the tree has to be good
  abbrev pub closing : ((Fragment → Type 0) → Type 0) → Tests
  closing Of =
      test TooWide (Of (IsWide def))
      (test TooHeavy (Of (IsHeavy def))
      (test Inadmissible (Of (λ f. IsGood f → ⊥))
      done))

  -- where nodes are added
  abbrev pub growing : ((Fragment → Type 0) → Type 0) → Tests
  growing Of = test TooDeep (Of IsDeep) (test TooBig (Of IsBig) (closing Of))

  -- If text is typed, which may be any program. Its brackets may nest too deep although its tree, which has none, does
  -- not.
  abbrev pub typing : Type 0 → ((Fragment → Type 0) → Type 0) → Tests
  typing Nested Of = test TooDeep (Nested ⊎ Of IsDeep) (test TooBig (Of IsBig) (loosening Of))

  -- nothing is opened, or no node is at the place
  abbrev pub at_place : State → Where → Tests → Tests
  at_place s place rest = test NothingOpened (s.opened ≡ None) (test NoNode (IsNoNode def s place) rest)

  -- the tests of each command, in their order
  abbrev pub tests : State → Answer → Command → Tests
  tests s answer (New name) =
      test Unknown ((kind : Kind) → HasName def kind name → ⊥)
      (test NoPlaceholder ((kind : Kind) × HasName def kind name × IsDeclaringPhylum def kind)
      (opening (OfResult def s (New name))))
  tests s answer (Refine place name args) =
      at_place s place
      (test NotHole (AtNode def s place (λ old node. (p : ℕ) → node ≡ hole p → ⊥))
      (test Unknown ((o : ℕ) → IsOperator def o name → ⊥)
      (test OtherPhylum (IsOther def s place None name)
      (test BadArguments (GivesNone def name args)
      (growing (OfResult def s (Refine place name args)))))))
  tests s answer (Insert place k name args) =
      at_place s place
      (test NoPlace (AtNode def s place (λ old node. (IsList node → ⊥) ⊎ (length (children_of node) < k)))
      (test Unknown ((o : ℕ) → IsOperator def o name → ⊥)
      (test OtherPhylum (IsOther def s place (Some k) name)
      (test BadArguments (GivesNone def name args)
      (growing (OfResult def s (Insert place k name args)))))))
  tests s answer (Cut place) =
      at_place s place
      (test NoPlaceholder (AtNode def s place
      (λ old node. (kind : Kind) × IsOfKind def node kind × IsDeclaringPhylum def kind))
      (loosening (OfResult def s (Cut place))))
  tests s answer (Remove place k) =
      at_place s place
      (test NoPlace (AtNode def s place (λ old node. (IsList node → ⊥) ⊎ (length (children_of node) ≤ k)))
      (loosening (OfResult def s (Remove place k))))
  tests s answer (Close place) =
      at_place s place
      (test NoPlace (AtNode def s place (λ old node. end_of node ≡ Some true → ⊥))
      (closing (OfResult def s (Close place))))
  tests s answer (Reopen place) =
      at_place s place
      (test NoPlace (AtNode def s place (λ old node. MayReopen def node → ⊥))
      (loosening (OfResult def s (Reopen place))))
  tests s answer Show = test NothingOpened (s.opened ≡ None) done
  tests s answer (Own place) = at_place s place done
  tests s answer Free = test NothingOpened (s.opened ≡ None) done
  tests s answer (Goto place) = at_place s place done
  tests s answer (Over place text) =
      at_place s place
      (test NoTokens (HasNoTokens def text)
      (test NoTree (AtNode def s place (λ old node. HasNoTreeFor def node text))
      (typing (AtNode def s place (λ old node. NestsTooDeep def node text)) (OfResult def s (Over place text)))))
  tests s answer (Range start end text) =
      test NothingOpened (s.opened ≡ None)
      (test NoRange (OfOpened s (λ old. IsOutside (replacing start end text) (text_of def old.tree)))
      (test NoTokens (OfOpened s (λ old. HasNoTokens def (text_with def (replacing start end text) old)))
      (test NoTree (OfOpened s (λ old. HasNoTree def old.kind (text_with def (replacing start end text) old)))
      (typing (OfOpened s (NestsTooDeepWith def (replacing start end text))) (OfResult def s (Range start end text))))))
  tests s answer (Screen top left rows cols) = test NothingOpened (s.opened ≡ None) done
  tests s answer (Relation place) =
      at_place s place (test TooWide
      (AtNode def s place (λ old node. IsWideAt def old.tree (named_path place s.cursor))) done)
  tests s answer (Menu place k) =
      at_place s place
      (test (place_test k) (AtNode def s place (λ old node. HasNoPlace def k node))
      (test TooWide (IsMenuTooWide def s place k) done))
  tests s answer (Names place k name) =
      at_place s place
      (test (place_test k) (AtNode def s place (λ old node. HasNoPlace def k node))
      (test Unknown ((o : ℕ) → IsOperator def o name → ⊥)
      (test OtherPhylum (IsOther def s place k name)
      (test BadArguments (HasNotOneName def name)
      (test TooWide (IsNamesTooWide def s place k name) done)))))
  tests s answer Undo = test NothingOpened (s.opened ≡ None) (test NothingEarlier (s.earlier ≡ []) done)
  tests s answer Redo = test NothingOpened (s.opened ≡ None) (test NothingLater (s.later ≡ []) done)
  tests s answer (Save name place) = at_place s place (test ShelfFull (IsFull s.saved name) done)
  tests s answer (Paste place k name) =
      test NothingOpened (s.opened ≡ None)
      (test NoFragment (saved_at s.saved name ≡ None)
      (test NoNode (IsNoNode def s place)
      (test (place_test k) (AtNode def s place (λ old node. HasNoRoom def k node))
      (test OtherPhylum (IsOtherSaved def s place k name)
      (growing (OfResult def s (Paste place k name)))))))
  tests s answer (Keep name file) =
      test NoFragment (saved_at s.saved name ≡ None)
      (test TooBig (OfBytes def s name (λ bytes. most_kept_bytes < length bytes))
      (test ShelfFault (answer ≡ lost) done))
  tests s answer (Fetch file) =
      test ShelfFault (answer ≡ lost)
      (test KeptUnreadable (IsUnreadable def answer)
      (test TooBig (OfFetched def answer (λ x. IsBig x.tree))
      (test ShelfFull (OfFetched def answer (λ x. IsFull s.saved x.name)) done)))

  -- the first test that holds has this refusal
  abbrev pub IsRefused : State → Answer → Command → Refusal → Type 0
  IsRefused s answer command r = Refuses (tests s answer command) r

  -- no test holds
  abbrev pub IsTaken : State → Answer → Command → Type 0
  IsTaken s answer command = Passes (tests s answer command)

  -- Steps s answer command new reply: at the command, with the answer of the files where it asks for one, the plain
  -- editor goes from the state to the new one with the reply.
  pub data Steps (s : State) (answer : Answer) : Command → State → Reply → Type 0 where
    refuses : {command : Command} {r : Refusal} → IsRefused s answer command r
        → Steps s answer command s (refused r)
    opens : {name : Name} (kind : Kind) (mark : Mark) → IsTaken s answer (New name) → HasName def kind name
        → IsMarkBy IsGood (blank def kind) mark
        → Steps s answer (New name) (with_new s kind (blank def kind)) (marked mark)
    changes : {command : Command} {tree : Fragment} {path : Path} (old : Opened) (mark : Mark)
        → IsTaken s answer command → s.opened ≡ Some old
        → Makes def s command tree path → IsMarkBy IsGood tree mark
        → Steps s answer command (with_change s old tree path) (marked mark)
    undoes : (old : Opened) (tree : Fragment) (rest : List Fragment) (mark : Mark)
        → IsTaken s answer Undo → s.opened ≡ Some old → s.earlier ≡ tree ∷ rest → IsMarkBy IsGood tree mark
        → Steps s answer Undo (with_version s old tree rest (old.tree ∷ s.later)) (marked mark)
    redoes : (old : Opened) (tree : Fragment) (rest : List Fragment) (mark : Mark)
        → IsTaken s answer Redo → s.opened ≡ Some old → s.later ≡ tree ∷ rest → IsMarkBy IsGood tree mark
        → Steps s answer Redo (with_version s old tree (old.tree ∷ s.earlier) rest) (marked mark)
    saves : {name : Name} {place : Where} (old : Opened) (node : Fragment) (kind : Kind)
        → IsTaken s answer (Save name place) → s.opened ≡ Some old
        → node_at old.tree (named_path place s.cursor) ≡ Some node → IsOfKind def node kind
        → Steps s answer (Save name place) (with_saved s (record { name = name; kind = kind; tree = node }))
        (answered ((codes "saved " ++ name) ∷ []))
    keeps : {name file : Name} → IsTaken s answer (Keep name file) → answer ≡ stored
        → Steps s answer (Keep name file) s (answered ((codes "kept " ++ name) ∷ []))
    fetches : {file : Name} (bytes : List ℕ) (x : Saved) → IsTaken s answer (Fetch file) → answer ≡ got bytes
        → IsKept def bytes x
        → Steps s answer (Fetch file) (with_saved s x) (answered ((codes "fetched " ++ x.name) ∷ []))
    shows : (old : Opened) (mark : Mark) → IsTaken s answer Show → s.opened ≡ Some old → IsMarkBy IsGood old.tree mark
        → Steps s answer Show s (shown (lines_in (text_of def old.tree)) mark)
    goes : {place : Where} (old : Opened) (p : Placed) (kind : Kind) (name : Name) → IsTaken s answer (Goto place)
        → s.opened ≡ Some old → IsWrittenAt def old.tree (named_path place s.cursor) p → IsOfKind def p.node kind
        → HasName def kind name
        → Steps s answer (Goto place) (with_cursor s (named_path place s.cursor))
        (answered (goto_line name (what_is def p.node) (span_of def p) ∷ []))
    screens : {top left rows cols : ℕ} (old : Opened) → IsTaken s answer (Screen top left rows cols)
        → s.opened ≡ Some old
        → Steps s answer (Screen top left rows cols) s
        (answered (window_of (text_of def old.tree) (view_of top left rows cols)))
    owns : {place : Where} (old : Opened) (node : Fragment) (rows : List (List Term)) → IsTaken s answer (Own place)
        → s.opened ≡ Some old → node_at old.tree (named_path place s.cursor) ≡ Some node → IsRelationOf def node rows
        → Steps s answer (Own place) s
        (answered (rows_lines def.signature (map (key_text def) (names_of def node)) rows))
    relates : {place : Where} (old : Opened) (rows : List (List Term)) → IsTaken s answer (Relation place)
        → s.opened ≡ Some old → IsShownRelation def old.tree (named_path place s.cursor) rows
        → Steps s answer (Relation place) s (answered (rows_lines def.signature [] rows))
    frees : (old : Opened) → IsTaken s answer Free → s.opened ≡ Some old
        → Steps s answer Free s (answered (names_line (free_names def old.tree) ∷ []))
    offers : {place : Where} {k : Option ℕ} (old : Opened) (node : Fragment) (p : ℕ) (ops : List ℕ) (names : List Name)
        → IsTaken s answer (Menu place k) → s.opened ≡ Some old
        → node_at old.tree (named_path place s.cursor) ≡ Some node → IsWanted def k node p
        → IsMenu def old.tree (named_path place s.cursor) k IsGood p ops → map (op_name_of def) ops ≡ map Some names
        → Steps s answer (Menu place k) s (answered (names_line names ∷ []))
    suggests : {place : Where} {k : Option ℕ} {name : Name} (old : Opened) (o : ℕ) (names : List Name)
        → IsTaken s answer (Names place k name) → s.opened ≡ Some old → IsOperator def o name
        → IsNameMenu def old.tree (named_path place s.cursor) k IsGood o names
        → Steps s answer (Names place k name) s (answered (names_line names ∷ []))
