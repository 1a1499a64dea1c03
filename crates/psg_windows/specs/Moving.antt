-- Where the cursors of the windows are after a command of one of them.
use Rattle.std.specs.Prelude.{ℕ, ◌<◌, ◌+◌, ◌-◌, ◌==◌, nat_lt, nat_le, Bool, true, false, cond, List, [], ◌∷◌, map, set}
use Rattle.std.specs.Prelude.{Some, None, replicate, get_or}
use Rattle.std.specs.List.{AllByRecursion}
use Rattle.psg_grammar.specs.Paths.{Path}
use Rattle.psg_script.specs.declared.command.Where.{Where}
use Rattle.psg_script.specs.declared.command.Where.TheVariants.{Cursor, At}
use Rattle.psg_script.specs.declared.command.Command.{Command}
use Rattle.psg_script.specs.declared.command.Command.TheVariants.{New, Goto, Refine, Insert, Cut, Remove, Close, Reopen}
use Rattle.psg_script.specs.declared.command.Command.TheVariants.{Over, Range, Show, Screen, Relation, Own, Menu, Names}
use Rattle.psg_script.specs.declared.command.Command.TheVariants.{Free, Undo, Redo, Save, Paste, Keep, Fetch}

-- Where the second path goes on below the first one, its next step and all after it are changed. Any other path stays.
abbrev pub below : (ℕ → List ℕ → Path) → Path → Path → Path
below change [] [] = []
below change [] (k ∷ rest) = change k rest
below change (q ∷ at) [] = []
below change (q ∷ at) (k ∷ rest) = cond (q == k) (k ∷ below change at rest) (k ∷ rest)

-- the cursor, where an element was put before the place of the list at the path
abbrev pub raised : Path → ℕ → Path → Path
raised at place = below (λ k rest. cond (nat_le place k) (k + 1) k ∷ rest) at

-- the cursor, where the element at the place was taken out of the list at the path
abbrev pub lowered : Path → ℕ → Path → Path
lowered at place = below (λ k rest. cond (k == place) [] (cond (nat_lt place k) (k - 1) k ∷ rest)) at

-- the cursor, where the node at the path was replaced
abbrev pub lifted : Path → Path → Path
lifted at = below (λ k rest. []) at

-- the path of a place, in a command that has no cursor left
abbrev pub path_of : Where → Path
path_of Cursor = []
path_of (At path) = path

-- another window's cursor after the command
abbrev pub other_moved : Command → Path → Path
other_moved (New phylum) c = []
other_moved (Range start end text) c = []
other_moved Undo c = []
other_moved Redo c = []
other_moved (Insert place k op args) c = raised (path_of place) k c
other_moved (Paste place (Some k) name) c = raised (path_of place) k c
other_moved (Remove place k) c = lowered (path_of place) k c
other_moved (Refine place op args) c = lifted (path_of place) c
other_moved (Cut place) c = lifted (path_of place) c
other_moved (Over place text) c = lifted (path_of place) c
other_moved (Paste place None name) c = lifted (path_of place) c
other_moved (Goto place) c = c
other_moved (Close place) c = c
other_moved (Reopen place) c = c
other_moved Show c = c
other_moved (Screen top left rows cols) c = c
other_moved (Relation place) c = c
other_moved (Own place) c = c
other_moved (Menu place k) c = c
other_moved (Names place k op) c = c
other_moved Free c = c
other_moved (Save name place) c = c
other_moved (Keep name file) c = c
other_moved (Fetch file) c = c

-- the command changes the fragment, or is `goto`
abbrev pub moves_own : Command → Bool
moves_own (New phylum) = true
moves_own (Goto place) = true
moves_own (Refine place op args) = true
moves_own (Insert place k op args) = true
moves_own (Cut place) = true
moves_own (Remove place k) = true
moves_own (Close place) = true
moves_own (Reopen place) = true
moves_own (Over place text) = true
moves_own (Range start end text) = true
moves_own Show = false
moves_own (Screen top left rows cols) = false
moves_own (Relation place) = false
moves_own (Own place) = false
moves_own (Menu place k) = false
moves_own (Names place k op) = false
moves_own Free = false
moves_own Undo = true
moves_own Redo = true
moves_own (Save name place) = false
moves_own (Paste place k name) = true
moves_own (Keep name file) = false
moves_own (Fetch file) = false

-- the window's own cursor after its command, where the editor's is `own` then
abbrev pub own_moved : Command → Path → Path → Path
own_moved command own c = cond (moves_own command) own c

-- how many windows there are
abbrev pub windows : ℕ
windows = 8

abbrev pub start_cursors : List Path
start_cursors = replicate windows []

abbrev pub cursor_of : List Path → ℕ → Path
cursor_of cursors window = get_or cursors window []

-- the cursors after a command of the window: its own one, and all others
abbrev pub moved : ℕ → Command → Path → List Path → List Path
moved window command own cursors =
    set (map (other_moved command) cursors) window (own_moved command own (cursor_of cursors window))

-- each step can be raised by one, as a number of 32 bits
abbrev pub HasRoom : List Path → Type 0
HasRoom cursors = AllByRecursion (AllByRecursion (λ k. k < 4294967295)) cursors
