-- What the parts of a step answer.
use Rattle.std.specs.Prelude.{ℕ, ◌≡◌, ◌⊎◌, ◌+◌, ◌≤◌, List, [], ◌∷◌, length, map, Some, None, Option, Result, Ok}
use Rattle.std.specs.Prelude.{Err, take}
use Rattle.std.specs.List.{AllByRecursion}
use Rattle.psg_terms.specs.Names.{Name}
use Rattle.psg_grammar.specs.declared.types.Definition.{Definition}
use Rattle.psg_grammar.specs.Fragments.{Fragment, children_of}
use Rattle.psg_grammar.specs.Insertion.{Leaf, fresh_operator}
use Rattle.psg_grammar.specs.Paths.{Path, node_at, IsList}
use Rattle.psg_grammar.specs.Sizes.{IsBig, IsDeep}
use Rattle.psg_cache.specs.Notes.{IsNoteOf, IsNoteFault}
use Rattle.psg_cache.specs.Annotated.{Annotated, tree_in}
use Rattle.psg_cache.specs.declared.note.NoteFault.{NoteFault}
use Rattle.psg_history.specs.Versions.{Versions}
use Rattle.psg_script.specs.declared.command.Command.{Command}
use Rattle.psg_script.specs.declared.command.Where.{Where}
use Rattle.psg_session.specs.declared.editor.OpenedTree.{OpenedTree}
use Rattle.psg_session.specs.declared.editor.Editor.{Editor}
use Rattle.psg_session.specs.declared.editor.Outcome.{Outcome}
use Rattle.psg_session.specs.declared.editor.Outcome.TheVariants.{Stays, Opens as OpensTree, Changes, Undoes, Redoes}
use Rattle.psg_session.specs.declared.editor.Outcome.TheVariants.{Saves, Goes}
use Rattle.psg_session.specs.declared.finding.Target.{Target}
use Rattle.psg_session.specs.declared.pasting.Source.{Source}
use Rattle.psg_session.specs.Shelf.{saved_at}
use Rattle.psg_session.specs.declared.judging.Trial.{Trial}
use Rattle.psg_session.specs.declared.judging.Trial.TheVariants.{Opens, Grows, Types, Closes, Loosens}
use Rattle.psg_session.specs.declared.changes.Listed.{Listed}
use Rattle.psg_session.specs.declared.changes.Proposal.{Proposal}
use Rattle.psg_session.specs.declared.refusal.Refusal.{Refusal}
use Rattle.psg_session.specs.declared.refusal.Refusal.TheVariants.{NoFragment, NoNode, NothingOpened, TooBig, TooDeep}
use Rattle.psg_session.specs.declared.refusal.Refusal.TheVariants.{Unknown, OtherPhylum}
use Rattle.psg_session.specs.declared.refusal.Refusal.TheVariants.{BadArguments}
use Rattle.psg_session.specs.declared.replies.Reply.{Reply}
use Rattle.psg_session.specs.declared.replies.Reply.TheVariants.{Answered, Marked, Refused}
use Rattle.psg_session.specs.declared.stop.Stop.{Stop}
use Rattle.psg_session.specs.declared.stop.Stop.TheVariants as stops
use Rattle.psg_session.specs.declared.edits.Edit.{Edit}
use Rattle.psg_library.specs.declared.fragment.SavedFragment.{SavedFragment as Saved}
use Rattle.psg_session.specs.Edits.{MayEdit, cost_of, edited}
use Rattle.psg_session.specs.Good.{IsGoodIn}
use Rattle.psg_session.specs.PlainState.{Answer, Opened, State, most_versions, not_asked, named_path, with_change}
use Rattle.psg_session.specs.PlainState.{with_cursor}
use Rattle.psg_session.specs.Leaves.{GivesLeaves}
use Rattle.psg_session.specs.PlainStep.{Gives, IsRefused, IsTaken, Makes, IsOperator, IsOfPhylum, IsListOf, OfResult}
use Rattle.psg_session.specs.PlainStep.{Steps, end_of, opening, growing, closing, loosening}
use Rattle.psg_session.specs.Refusals.{Tests, Refuses, Passes, test}
use Rattle.psg_session.specs.Shrinking.{IsSizedBy}
use Rattle.psg_session.specs.Ticks.{MayTick, HasTicked}
use Rattle.psg_session.specs.Formed.{IsFormedSaved}
use Rattle.psg_session.specs.Sessions.{IsVersion, opened_of, plain, state_of}
use Rattle.psg_session.specs.Views.{reply_of}

-- ---- what a command does to the editor

-- the state with another tree of the opened kind; if nothing is opened, it stays
abbrev pub changed : State → Option Opened → Fragment → Path → State
changed s None tree path = s
changed s (Some old) tree path = with_change s old tree path

-- The state in which the nearest earlier tree is opened, or the nearest later one; if there is none, it stays.
abbrev pub undone : State → Option Opened → List Fragment → Path → State
undone s None earlier cursor = s
undone s (Some old) [] cursor = s
undone s (Some old) (tree ∷ rest) cursor = record {
  opened = Some (record { kind = old.kind; tree = tree });
  cursor = cursor;
  earlier = rest;
  later = old.tree ∷ s.later;
  saved = s.saved;
}

-- The state in which the nearest later tree is opened; if there is none, it stays.
abbrev pub redone : State → Option Opened → List Fragment → Path → State
redone s None later cursor = s
redone s (Some old) [] cursor = s
redone s (Some old) (tree ∷ rest) cursor = record {
  opened = Some (record { kind = old.kind; tree = tree });
  cursor = cursor;
  earlier = old.tree ∷ s.earlier;
  later = rest;
  saved = s.saved;
}

-- the state with these saved fragments
abbrev pub shelved : State → List Saved → State
shelved s saved = record { opened = s.opened; cursor = s.cursor; earlier = s.earlier; later = s.later; saved = saved }

-- the plain state after the command
abbrev pub after : Editor → Outcome → State
after e (Stays reply) = state_of e
after e (Goes cursor lines) = with_cursor (state_of e) cursor
after e (OpensTree held cursor mark) =
    record { opened = Some (plain held); cursor = cursor; earlier = []; later = []; saved = e.saved }
after e (Changes note cursor mark) = changed (state_of e) (opened_of e.opened) (tree_in note) cursor
after e (Undoes cursor mark) = undone (state_of e) (opened_of e.opened) (map tree_in e.history.earlier) cursor
after e (Redoes cursor mark) = redone (state_of e) (opened_of e.opened) (map tree_in e.history.later) cursor
after e (Saves saved lines) = shelved (state_of e) saved

-- the reply that the outcome gives
abbrev pub reply_in : Outcome → Reply
reply_in (Stays reply) = reply
reply_in (Goes cursor lines) = Answered lines
reply_in (OpensTree held cursor mark) = Marked mark
reply_in (Changes note cursor mark) = Marked mark
reply_in (Undoes cursor mark) = Marked mark
reply_in (Redoes cursor mark) = Marked mark
reply_in (Saves saved lines) = Answered lines

-- a new version is this tree
abbrev pub IsVersionOf : Fragment → Outcome → Type 0
IsVersionOf f (Changes note cursor mark) = tree_in note ≡ f
IsVersionOf f _ = Unit {0}

-- the editor stays
abbrev pub IsStay : Outcome → Type 0
IsStay (Stays reply) = Unit {0}
IsStay (Goes cursor lines) = ⊥
IsStay (OpensTree held cursor mark) = ⊥
IsStay (Changes note cursor mark) = ⊥
IsStay (Undoes cursor mark) = ⊥
IsStay (Redoes cursor mark) = ⊥
IsStay (Saves saved lines) = ⊥

-- A new version is one of the opened tree's kind, and saved fragments are trees of their kinds.
abbrev pub IsFit : Definition → Option OpenedTree → Outcome → Type 0
IsFit def opened (Stays reply) = Unit {0}
IsFit def opened (Goes cursor lines) = Unit {0}
IsFit def opened (OpensTree held cursor mark) = IsVersion def held.kind held.note
IsFit def opened (Undoes cursor mark) = Unit {0}
IsFit def opened (Redoes cursor mark) = Unit {0}
IsFit def opened (Saves saved lines) = AllByRecursion (IsFormedSaved def) saved
IsFit def None (Changes note cursor mark) = ⊥
IsFit def (Some held) (Changes note cursor mark) = IsVersion def held.kind note

-- the plain editor takes this step, with this answer of the files
pub record IsOutcome (def : Definition) (e : Editor) (answer : Answer) (command : Command)
    (outcome : Outcome) : Type 0 where
  pub steps : Steps def (IsGoodIn def) (state_of e) answer command (after e outcome) (reply_of (reply_in outcome))
  pub fit : IsFit def e.opened outcome

-- What is found has the property: the outcome, or that the editor stays and the reply is the refusal. Nothing is said
-- where memory ran out.
abbrev pub IfFound : Result Outcome Stop → (Outcome → Type 0) → Type 0
IfFound (Ok outcome) P = P outcome
IfFound (Err (stops.Refused r)) P = P (Stays (Refused r))
IfFound (Err stops.Memory) P = Unit {0}

-- the editor went on with another version of the opened fragment; if nothing was opened, it stays
abbrev pub IsGoneOn : Editor → Editor → Annotated → Path → Type 0
IsGoneOn old new note cursor =
    ((old.opened ≡ None) × (new ≡ old))
    ⊎ ((held : OpenedTree) × (old.opened ≡ Some held)
    × (new.opened ≡ Some (record { kind = held.kind; note = note })) × (new.cursor ≡ cursor)
    × (new.history.earlier ≡ take most_versions (held.note ∷ old.history.earlier)) × (new.history.later ≡ [])
    × (new.saved ≡ old.saved))

-- The editor stepped to another version. `from` is what a history keeps on the side to which it steps: the nearest note
-- there is now opened. `to` is what it keeps on the other side: the note that was opened is now the nearest one there.
-- The cursor is at the path. Where there is nothing to step to, the editor stays.
abbrev pub HasStepped : (from to : Versions Annotated → List Annotated) → Editor → Editor → Path → Type 0
HasStepped from to old new cursor =
    (((old.opened ≡ None) ⊎ (from old.history ≡ [])) × (new ≡ old))
    ⊎ ((held : OpenedTree) × (note : Annotated) × (old.opened ≡ Some held)
    × (from old.history ≡ note ∷ from new.history) × (to new.history ≡ held.note ∷ to old.history)
    × (new.opened ≡ Some (record { kind = held.kind; note = note })) × (new.cursor ≡ cursor) × (new.saved ≡ old.saved))

-- the earlier versions, the nearest first
abbrev pub earlier_in : Versions Annotated → List Annotated
earlier_in h = h.earlier

-- the later versions, the nearest first
abbrev pub later_in : Versions Annotated → List Annotated
later_in h = h.later

-- ---- the node that a command names

-- the node of the place in the opened fragment
pub record IsTarget (e : Editor) (place : Where) (f : Target) : Type 0 where
  pub held : e.opened ≡ Some f.held.now
  pub path : f.path.now ≡ named_path place e.cursor
  pub node : node_at (tree_in f.held.now.note) f.path.now ≡ Some f.node.now

-- nothing is opened, or there is no node at the place
abbrev pub HasNoTarget : Editor → Where → Refusal → Type 0
HasNoTarget e place r =
    ((r ≡ NothingOpened) × (e.opened ≡ None))
    ⊎ ((r ≡ NoNode) × (held : OpenedTree) × (e.opened ≡ Some held)
    × (node_at (tree_in held.note) (named_path place e.cursor) ≡ None))

-- the saved fragment of the name, and the node of the place
pub record IsSource (e : Editor) (place : Where) (name : Name) (x : Source) : Type 0 where
  pub saved : saved_at e.saved name ≡ Some x.saved.now
  pub found : IsTarget e place x.found

-- nothing is opened, or no saved fragment has the name, or there is no node at the place
abbrev pub IsNoSource : Editor → Where → Name → Refusal → Type 0
IsNoSource e place name r =
    ((r ≡ NothingOpened) × (e.opened ≡ None))
    ⊎ ((held : OpenedTree) × (e.opened ≡ Some held)
    × (((r ≡ NoFragment) × (saved_at e.saved name ≡ None))
    ⊎ ((r ≡ NoNode) × (x : Saved) × (saved_at e.saved name ≡ Some x)
    × (node_at (tree_in held.note) (named_path place e.cursor) ≡ None))))

-- ---- the tests of a tree

-- the tests of what a change gives; `Of` says that this has a property
abbrev pub tree_tests : Definition → Trial → ((Fragment → Type 0) → Type 0) → Tests
tree_tests def Opens Of = opening def (IsGoodIn def) Of
tree_tests def Grows Of = growing def (IsGoodIn def) Of
tree_tests def Types Of = test TooDeep (Of IsDeep) (test TooBig (Of IsBig) (loosening def (IsGoodIn def) Of))
tree_tests def Closes Of = closing def (IsGoodIn def) Of
tree_tests def Loosens Of = loosening def (IsGoodIn def) Of

-- the tree's note, or why there is none
abbrev pub IsNoted : Definition → Fragment → Result Annotated NoteFault → Type 0
IsNoted def f (Ok note) = IsNoteOf def f note
IsNoted def f (Err fault) = IsNoteFault def f fault

-- the note of the tree, which passes all tests; or the refusal of the first test that it fails
abbrev pub IsJudged : Definition → Trial → Fragment → Result Annotated Stop → Type 0
IsJudged def trial f (Ok note) = IsNoteOf def f note × Passes (tree_tests def trial (λ P. P f))
IsJudged def trial f (Err (stops.Refused r)) = Refuses (tree_tests def trial (λ P. P f)) r
IsJudged def trial f (Err stops.Memory) = Unit {0}

-- the change must leave a good fragment
abbrev pub MustBeGood : Trial → Type 0
MustBeGood Opens = ⊥
MustBeGood Grows = Unit {0}
MustBeGood Types = ⊥
MustBeGood Closes = Unit {0}
MustBeGood Loosens = ⊥

-- ---- plans

-- the plan of these three
abbrev pub proposal_of : Trial → Edit → Path → Proposal
proposal_of trial edit cursor = record { trial = trial; edit = edit; cursor = cursor }

-- A change of the opened tree that is what the command makes, and nothing else; none of the command's tests holds but
-- perhaps those of its tree. Where it adds nothing, the tree is no larger than the old one.
pub record IsProposal (def : Definition) (e : Editor) (command : Command) (m : Proposal) : Type 0 where
  pub held : OpenedTree
  pub opened : e.opened ≡ Some held
  pub may : MayEdit def (tree_in held.note) m.edit
  pub makes : Makes def (state_of e) command (edited m.edit (tree_in held.note)) m.cursor
  pub only : (tree : Fragment) → Gives def (state_of e) command tree → tree ≡ edited m.edit (tree_in held.note)
  pub refused : (r : Refusal) → Refuses (tree_tests def m.trial (OfResult def (state_of e) command)) r
      → IsRefused def (IsGoodIn def) (state_of e) not_asked command r
  pub taken : Passes (tree_tests def m.trial (OfResult def (state_of e) command))
      → IsTaken def (IsGoodIn def) (state_of e) not_asked command
  pub counts : MayTick def (state_of e) command (cost_of m.edit (tree_in held.note))
  pub sized : IsSizedBy m.trial (tree_in held.note) (edited m.edit (tree_in held.note))

-- what the command makes, or the refusal of the first test that holds
abbrev pub IsPlan : Definition → Editor → Command → Result Proposal Stop → Type 0
IsPlan def e command (Ok m) = IsProposal def e command m
IsPlan def e command (Err (stops.Refused r)) = IsRefused def (IsGoodIn def) (state_of e) not_asked command r
IsPlan def e command (Err stops.Memory) = Unit {0}

-- The counter went up by no more than the planned change costs; if nothing was planned, it stayed.
abbrev pub Spends : Editor → Result Proposal Stop → ℕ → ℕ → Type 0
Spends e plan from to =
    (to ≡ from)
    ⊎ ((m : Proposal) × (plan ≡ Ok m) × (held : OpenedTree) × (e.opened ≡ Some held)
    × (to ≤ from + cost_of m.edit (tree_in held.note)))

-- if the counter is at the number `so_far`, the planned change may be made within the bound of the command
abbrev pub MaySpend : Definition → Editor → Command → ℕ → ℕ → Result Proposal Stop → Type 0
MaySpend def e command from so_far plan =
    (to : ℕ) → Spends e plan so_far to → HasTicked def (state_of e) command from to

-- the list with what a change needs of it: its kind, how many elements it has, and whether it is unfinished
pub record IsListed (def : Definition) (node : Fragment) (l : Listed) : Type 0 where
  pub kind : IsListOf def node l.kind.now
  pub elements : l.elements ≡ length (children_of node)
  pub end : end_of node ≡ Some l.unfinished
  pub is_list : IsList node

-- the operator with its names and literals; or why there is none, if one of the phylum is wanted
abbrev pub IsFreshAnswer : Definition → ℕ → Name → List ℕ → Result Fragment Stop → Type 0
IsFreshAnswer def p name args (Ok fresh) =
    (o : ℕ) × (leaves : List Leaf) × IsOperator def o name × IsOfPhylum def o p × GivesLeaves def o args leaves
    × (fresh ≡ fresh_operator def o leaves)
IsFreshAnswer def p name args (Err stops.Memory) = Unit {0}
IsFreshAnswer def p name args (Err (stops.Refused r)) =
    ((r ≡ Unknown) × ((o : ℕ) → IsOperator def o name → ⊥))
    ⊎ ((r ≡ OtherPhylum) × (o : ℕ) × IsOperator def o name × (IsOfPhylum def o p → ⊥))
    ⊎ ((r ≡ BadArguments) × (o : ℕ) × IsOperator def o name × IsOfPhylum def o p
    × ((leaves : List Leaf) → GivesLeaves def o args leaves → ⊥))
