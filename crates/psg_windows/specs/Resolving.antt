-- A command with a path in place of the cursor.
use Rattle.std.specs.Prelude.{Option, Some, None, IfSome}
use Rattle.psg_grammar.specs.Paths.{Path}
use Rattle.psg_script.specs.declared.command.Where.{Where}
use Rattle.psg_script.specs.declared.command.Where.TheVariants.{Cursor, At}
use Rattle.psg_script.specs.declared.command.Command.{Command}
use Rattle.psg_script.specs.declared.command.Command.TheVariants.{New, Goto, Refine, Insert, Cut, Remove, Close, Reopen}
use Rattle.psg_script.specs.declared.command.Command.TheVariants.{Over, Range, Show, Screen, Relation, Own, Menu, Names}
use Rattle.psg_script.specs.declared.command.Command.TheVariants.{Free, Undo, Redo, Save, Paste, Keep, Fetch}

-- the place, with the path where it is the cursor
abbrev pub at_path : Path → Where → Where
at_path cursor Cursor = At cursor
at_path cursor (At path) = At path

-- the command, with the path where it names the cursor
abbrev pub resolved : Path → Command → Command
resolved c (New phylum) = New phylum
resolved c (Goto place) = Goto (at_path c place)
resolved c (Refine place op args) = Refine (at_path c place) op args
resolved c (Insert place k op args) = Insert (at_path c place) k op args
resolved c (Cut place) = Cut (at_path c place)
resolved c (Remove place k) = Remove (at_path c place) k
resolved c (Close place) = Close (at_path c place)
resolved c (Reopen place) = Reopen (at_path c place)
resolved c (Over place text) = Over (at_path c place) text
resolved c (Range start end text) = Range start end text
resolved c Show = Show
resolved c (Screen top left rows cols) = Screen top left rows cols
resolved c (Relation place) = Relation (at_path c place)
resolved c (Own place) = Own (at_path c place)
resolved c (Menu place k) = Menu (at_path c place) k
resolved c (Names place k op) = Names (at_path c place) k op
resolved c Free = Free
resolved c Undo = Undo
resolved c Redo = Redo
resolved c (Save name place) = Save name (at_path c place)
resolved c (Paste place k name) = Paste (at_path c place) k name
resolved c (Keep name file) = Keep name file
resolved c (Fetch file) = Fetch file

-- the place that a command names, if it names one
abbrev pub place_of : Command → Option Where
place_of (New phylum) = None
place_of (Goto place) = Some place
place_of (Refine place op args) = Some place
place_of (Insert place k op args) = Some place
place_of (Cut place) = Some place
place_of (Remove place k) = Some place
place_of (Close place) = Some place
place_of (Reopen place) = Some place
place_of (Over place text) = Some place
place_of (Range start end text) = None
place_of Show = None
place_of (Screen top left rows cols) = None
place_of (Relation place) = Some place
place_of (Own place) = Some place
place_of (Menu place k) = Some place
place_of (Names place k op) = Some place
place_of Free = None
place_of Undo = None
place_of Redo = None
place_of (Save name place) = Some place
place_of (Paste place k name) = Some place
place_of (Keep name file) = None
place_of (Fetch file) = None

-- the place is a path, and not the cursor
abbrev pub IsPath : Where → Type 0
IsPath Cursor = ⊥
IsPath (At path) = Unit {0}

-- no cursor is left in the command
abbrev pub IsResolved : Command → Type 0
IsResolved command = IfSome (place_of command) IsPath
