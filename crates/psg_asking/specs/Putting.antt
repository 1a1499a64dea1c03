-- An operator that is put into a wrong program: as the text that it has in the repaired one.
use Rattle.std.specs.Prelude.{ℕ, ◌≡◌, List, Option, Some, None, option_map}
use Rattle.psg_terms.specs.Names.{Name}
use Rattle.psg_grammar.specs.declared.types.Definition.{Definition}
use Rattle.psg_grammar.specs.declared.types.Kind.{Kind}
use Rattle.psg_grammar.specs.Fragments.{Fragment}
use Rattle.psg_grammar.specs.Legal.{IsCompletable}
use Rattle.psg_grammar.specs.Paths.{node_at}
use Rattle.psg_unparse.specs.declared.spans.Span.{Span}
use Rattle.psg_unparse.specs.Layout.{text_of}
use Rattle.psg_keymap.specs.declared.spots.Spot.{Spot}
use Rattle.psg_keymap.specs.Faces.{with_place}
use Rattle.psg_keymap.specs.declared.table.Due.{Due}
use Rattle.psg_keymap.specs.Table.{putting, text_at}
use Rattle.psg_session.specs.declared.refusal.Refusal.{Refusal}
use Rattle.psg_session.specs.PlainState.{Opened, State, not_asked}
use Rattle.psg_session.specs.PlainStep.{Steps}
use Rattle.psg_session.specs.Replies.{answered, refused}
use Rattle.psg_asking.specs.Asked.{IsAskedAt, There}
use Rattle.psg_asking.specs.Programs.{IsReply, opened_with}

-- the command of the table that puts the operator at the spot of the program that is asked
abbrev pub put_there : There → Name → List ℕ → Due
put_there t op args = putting t.spot.target t.spot.place op args

-- the cursor is at a node of what is opened
abbrev pub IsAtNode : State → Type 0
IsAtNode s =
    (old : Opened) × (s.opened ≡ Some old) × (node : Fragment) × (node_at old.tree s.cursor ≡ Some node)

-- the text is the node at the cursor, as it is written by itself
abbrev pub IsTextHere : Definition → State → List ℕ → Type 0
IsTextHere def s text =
    (old : Opened) × (s.opened ≡ Some old) × (node : Fragment) × (node_at old.tree s.cursor ≡ Some node)
    × (text ≡ text_of def node)

-- The text of what the plain editor puts into the program for the operator: that node, as it is written by itself.
-- There is none where the operator is refused.
pub data IsPutText (def : Definition) (kind : Kind) (t : There) (op : Name) (args : List ℕ)
    : Option (List ℕ) → Type 0 where
  refuses : (refusal : Refusal) → IsReply def kind t.tree (put_there t op args).command (refused refusal)
      → IsPutText def kind t op args None
  puts : (new : State) (lines : List (List ℕ)) (grown node : Fragment)
      → Steps def (IsCompletable def) (opened_with kind t.tree) not_asked (put_there t op args).command new
      (answered lines) → new.opened ≡ Some (record { kind = kind; tree = grown })
      → node_at grown (with_place t.spot.target t.spot.place) ≡ Some node
      → IsPutText def kind t op args (Some (text_of def node))

-- The command puts that text at the spot of the wrong program. There is none where no program is asked, and where the
-- operator is refused there.
pub data IsTextOf (def : Definition) (kind : Kind) (tree : Fragment) (spans : List Span) (spot : Spot) (op : Name)
    (args : List ℕ) : Option Due → Type 0 where
  nowhere : IsAskedAt def tree spot None → IsTextOf def kind tree spans spot op args None
  there : (t : There) (text : Option (List ℕ)) → IsAskedAt def tree spot (Some t) → IsPutText def kind t op args text
      → IsTextOf def kind tree spans spot op args
      (option_map (λ words. text_at def tree spans spot.target spot.place words) text)
