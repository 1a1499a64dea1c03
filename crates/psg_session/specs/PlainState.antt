-- The state of the plain editor: trees and a path, and nothing that is made of them.
use Rattle.std.specs.Prelude.{ℕ, List, [], ◌∷◌, take, Option, None, Some}
use Rattle.psg_grammar.specs.declared.types.Kind.{Kind}
use Rattle.psg_grammar.specs.Fragments.{Fragment}
use Rattle.psg_grammar.specs.Paths.{Path}
use Rattle.psg_script.specs.declared.command.Where.{Where}
use Rattle.psg_script.specs.declared.command.Where.TheVariants.{Cursor, At}
use Rattle.psg_library.specs.declared.fragment.SavedFragment.{SavedFragment as Saved}
use Rattle.psg_session.specs.Shelf.{saved_with}

-- the opened fragment with its kind
pub record Opened : Type 0 where
  pub kind : Kind
  pub tree : Fragment

-- Text, relations, marks and menus are made again at each command, so none of them is here. The nearest earlier tree
-- and the nearest later one are first in their lists.
pub record State : Type 0 where
  pub opened : Option Opened
  pub cursor : Path
  pub earlier : List Fragment
  pub later : List Fragment
  pub saved : List Saved

-- nothing is opened, and nothing is saved
abbrev pub start : State
start = record { opened = None; cursor = []; earlier = []; later = []; saved = [] }

-- what the files answered to a command that reaches them
pub data Answer : Type 0 where
  not_asked : Answer
  stored : Answer
  got : (bytes : List ℕ) → Answer
  lost : Answer

-- the path that a command names
abbrev pub named_path : Where → Path → Path
named_path Cursor cursor = cursor
named_path (At path) cursor = path

-- a new tree is opened; versions of another one are of no use to it
abbrev pub with_new : State → Kind → Fragment → State
with_new s kind tree = record {
  opened = Some (record { kind = kind; tree = tree });
  cursor = [];
  earlier = [];
  later = [];
  saved = s.saved;
}

-- the cursor alone is set
abbrev pub with_cursor : State → Path → State
with_cursor s path = record {
  opened = s.opened;
  cursor = path;
  earlier = s.earlier;
  later = s.later;
  saved = s.saved;
}

-- at most this number of earlier and of later trees is kept
abbrev pub most_versions : ℕ
most_versions = 32

-- The tree was changed at a path: the old one is the nearest earlier one, and the later ones go.
abbrev pub with_change : State → Opened → Fragment → Path → State
with_change s old tree path = record {
  opened = Some (record { kind = old.kind; tree = tree });
  cursor = path;
  earlier = take most_versions (old.tree ∷ s.earlier);
  later = [];
  saved = s.saved;
}

-- Another version of the opened tree is opened, between these earlier and later ones.
abbrev pub with_version : State → Opened → Fragment → List Fragment → List Fragment → State
with_version s old tree earlier later = record {
  opened = Some (record { kind = old.kind; tree = tree });
  cursor = [];
  earlier = earlier;
  later = later;
  saved = s.saved;
}

-- one more fragment is saved
abbrev pub with_saved : State → Saved → State
with_saved s new = record {
  opened = s.opened;
  cursor = s.cursor;
  earlier = s.earlier;
  later = s.later;
  saved = saved_with s.saved new;
}
