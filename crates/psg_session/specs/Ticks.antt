-- How many evaluations a command may take if it makes a tree: those by which it differs from the old one, or those of a
-- new element and of the nodes and list suffixes above it. Typed text counts one for each of its tokens too, and
-- replaced bytes one for each token of the nodes that are read again.
use Rattle.std.specs.Prelude.{ℕ, ◌≡◌, ◌≤◌, ◌⊎◌, ◌+◌, List, Option, Some, None, length, ◌*◌, sum_by}
use Rattle.psg_terms.specs.Names.{Name}
use Rattle.psg_grammar.specs.declared.types.Definition.{Definition}
use Rattle.psg_grammar.specs.Fragments.{Fragment}
use Rattle.psg_grammar.specs.Insertion.{Leaf, fresh_operator}
use Rattle.psg_grammar.specs.Paths.{Path}
use Rattle.psg_grammar.specs.Work.{work_of, climb_of}
use Rattle.psg_cache.specs.Diff.{diff_of}
use Rattle.psg_class.specs.Texts.{TextTokens}
use Rattle.psg_grammar.specs.Lookups.{operator_at}
use Rattle.psg_renaming.specs.Occurring.{occurring}
use Rattle.psg_menu.specs.Menus.{in_byte_order, operators_of}
use Rattle.psg_menu.specs.Answers.{slots_of}
use Rattle.psg_lexis.specs.declared.token.Spanned.{Spanned}
use Rattle.psg_textedit.specs.Regions.{IsReading}
use Rattle.psg_script.specs.declared.command.Where.{Where}
use Rattle.psg_script.specs.declared.command.Command.{Command}
use Rattle.psg_script.specs.declared.command.Command.TheVariants.{New, Goto, Refine, Insert, Cut, Remove, Close, Reopen}
use Rattle.psg_script.specs.declared.command.Command.TheVariants.{Over, Range, Show, Screen, Relation, Own, Menu, Names}
use Rattle.psg_script.specs.declared.command.Command.TheVariants.{Free, Undo, Redo, Save, Paste, Keep, Fetch}
use Rattle.psg_session.specs.Leaves.{GivesLeaves}
use Rattle.psg_session.specs.Kept.{MayRead}
use Rattle.psg_session.specs.PlainState.{Answer, State, Opened, named_path}
use Rattle.psg_session.specs.PlainStep.{AtNode, IsOperator, Makes, IsWanted}
use Rattle.psg_session.specs.Ranged.{OfOpened, replacing}
use Rattle.psg_session.specs.Shelf.{saved_at}
use Rattle.psg_library.specs.declared.fragment.SavedFragment.{SavedFragment as Saved}

module _ (def : Definition) (s : State) where
  -- the evaluations of the nodes above the place
  abbrev pub above : Opened → Where → ℕ
  above old place = climb_of old.tree (named_path place s.cursor)

  -- none, or the command makes a tree, and the number is within what `Within` says of the old tree and of this
  abbrev pub OfMade : Command → (Opened → Fragment → ℕ → Type 0) → ℕ → Type 0
  OfMade command Within n =
      (n ≡ 0)
      ⊎ ((old : Opened) × (tree : Fragment) × (path : Path) × (s.opened ≡ Some old) × Makes def s command tree path
      × Within old tree n)

  -- no more than the tree that is made differs from the old one
  abbrev pub OfDiff : Command → ℕ → Type 0
  OfDiff command n = OfMade command (λ old tree m. m ≤ diff_of old.tree tree) n

  -- the operator with its names and literals has the property
  abbrev pub OfFresh : Name → List ℕ → (Fragment → Type 0) → Type 0
  OfFresh name args P =
      (o : ℕ) × (leaves : List Leaf) × IsOperator def o name × GivesLeaves def o args leaves
      × P (fresh_operator def o leaves)

  -- the saved fragment of the name has the property
  abbrev pub OfSaved : Name → (Fragment → Type 0) → Type 0
  OfSaved name P = (x : Saved) × (saved_at s.saved name ≡ Some x) × P x.tree

  -- no more than the tokens of the text; or than these and what the tree that is made of it differs by from the old one
  abbrev pub OfTyped : Where → List ℕ → Opened → ℕ → Type 0
  OfTyped place text old n =
      (ts : List Spanned) × TextTokens def text ts
      × ((n ≤ length ts)
      ⊎ ((tree : Fragment) × (path : Path) × Makes def s (Over place text) tree path
      × (n ≤ length ts + diff_of old.tree tree)))

  -- Whatever the reading of the change is: no more than the tokens that it reads; or than these and what the tree that
  -- is made differs by from the old one. There is exactly one reading, by two laws of psg_textedit.
  abbrev pub OfRanged : ℕ → ℕ → List ℕ → Opened → ℕ → Type 0
  OfRanged start end text old n =
      (found : Option Path) (read : ℕ) → IsReading def old.tree (replacing start end text) found read
      → (n ≤ read)
      ⊎ ((tree : Fragment) × (path : Path) × Makes def s (Range start end text) tree path
      × (n ≤ read + diff_of old.tree tree))

  -- the evaluations above the place, and those of a list up to a new element
  abbrev pub above_trial : Opened → Where → Option ℕ → ℕ
  above_trial old place None = above old place
  above_trial old place (Some k) = (k + 1) + above old place

  -- of each operator of the phylum: one, its slots, and a climb
  abbrev pub menu_work : ℕ → ℕ → ℕ
  menu_work p climb = sum_by (λ o. 1 + slots_of def (operator_at def o) + climb) (operators_of def p)

  -- for each candidate name: one, the slots of the operator, and a climb
  abbrev pub names_work : ℕ → List Name → ℕ → ℕ
  names_work o candidates climb = length candidates * (1 + slots_of def (operator_at def o) + climb)

  -- n evaluations are within the command's bound
  abbrev pub MayTick : Command → ℕ → Type 0
  MayTick (New name) n = n ≤ 1
  MayTick (Refine place name args) n = OfDiff (Refine place name args) n
  MayTick (Insert place k name args) n =
      OfMade (Insert place k name args)
      (λ old tree m. OfFresh name args (λ fresh. m ≤ work_of fresh + (k + 1) + above old place)) n
  MayTick (Cut place) n = OfDiff (Cut place) n
  MayTick (Remove place k) n = OfMade (Remove place k) (λ old tree m. m ≤ k + above old place) n
  MayTick (Close place) n = OfDiff (Close place) n
  MayTick (Reopen place) n = OfDiff (Reopen place) n
  MayTick (Own place) n = n ≡ 0
  MayTick Show n = n ≡ 0
  MayTick Free n = n ≡ 0
  MayTick (Goto place) n = n ≡ 0
  MayTick (Over place text) n = (n ≡ 0) ⊎ AtNode def s place (λ old node. OfTyped place text old n)
  MayTick (Range start end text) n = (n ≡ 0) ⊎ OfOpened s (λ old. OfRanged start end text old n)
  MayTick (Screen top left rows cols) n = n ≡ 0
  MayTick (Relation place) n = (n ≡ 0) ⊎ AtNode def s place (λ old node. n ≤ 1 + above old place)
  MayTick (Menu place k) n =
      (n ≡ 0) ⊎ AtNode def s place
      (λ old node. (p : ℕ) × IsWanted def k node p × (n ≤ menu_work p (above_trial old place k)))
  MayTick (Names place k name) n =
      (n ≡ 0)
      ⊎ AtNode def s place (λ old node. (o : ℕ) × IsOperator def o name
      × (n ≤ names_work o (in_byte_order (occurring old.tree)) (above_trial old place k)))
  MayTick Undo n = n ≡ 0
  MayTick Redo n = n ≡ 0
  MayTick (Save name place) n = n ≡ 0
  MayTick (Paste place None name) n = OfDiff (Paste place None name) n
  MayTick (Paste place (Some k) name) n =
      OfMade (Paste place (Some k) name)
      (λ old tree m. OfSaved name (λ new. m ≤ work_of new + (k + 1) + above old place)) n
  MayTick (Keep name file) n = n ≡ 0
  MayTick (Fetch file) n = n ≡ 0

  -- the count went up by no more than the command may take
  pub record HasTicked (command : Command) (from to : ℕ) : Type 0 where
    pub taken : ℕ
    pub counted : to ≤ from + taken
    pub within : MayTick command taken

  -- n is within the bound of the command: its evaluations and tokens, with the tokens that are counted while the answer
  -- of the files is read.
  pub record MayTickWith (answer : Answer) (command : Command) (n : ℕ) : Type 0 where
    pub taken : ℕ
    pub read : ℕ
    pub whole : n ≡ taken + read
    pub within : MayTick command taken
    pub reading : MayRead def answer read

  -- the count went up by no more than the command may take with this answer
  pub record HasTickedWith (answer : Answer) (command : Command) (from to : ℕ) : Type 0 where
    pub taken : ℕ
    pub counted : to ≤ from + taken
    pub within : MayTickWith answer command taken
