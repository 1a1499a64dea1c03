-- The first words of commands, and what follows them.
use Rattle.std.specs.Prelude.{List, [], ◌∷◌, codes}
use Rattle.psg_script.specs.Forms.{Text, words_of}
use Rattle.psg_script.specs.declared.command.Command.{Command}
use Rattle.psg_script.specs.declared.command.Command.TheVariants as commands
use Rattle.psg_script.specs.declared.keyword.Keyword.{Keyword}
use Rattle.psg_script.specs.declared.keyword.Keyword.TheVariants.{New, Goto, Refine, Insert, Cut, Remove, Close, Reopen}
use Rattle.psg_script.specs.declared.keyword.Keyword.TheVariants.{Over, Range, Show, Screen, Relation, Own, Menu, Names}
use Rattle.psg_script.specs.declared.keyword.Keyword.TheVariants.{Free, Undo, Redo, Save, Paste, Keep, Fetch}

-- the word that a keyword is written as
abbrev pub keyword_text : Keyword → Text
keyword_text New = codes "new"
keyword_text Goto = codes "goto"
keyword_text Refine = codes "refine"
keyword_text Insert = codes "insert"
keyword_text Cut = codes "cut"
keyword_text Remove = codes "remove"
keyword_text Close = codes "close"
keyword_text Reopen = codes "reopen"
keyword_text Over = codes "over"
keyword_text Range = codes "range"
keyword_text Show = codes "show"
keyword_text Screen = codes "screen"
keyword_text Relation = codes "relation"
keyword_text Own = codes "own"
keyword_text Menu = codes "menu"
keyword_text Names = codes "names"
keyword_text Free = codes "free"
keyword_text Undo = codes "undo"
keyword_text Redo = codes "redo"
keyword_text Save = codes "save"
keyword_text Paste = codes "paste"
keyword_text Keep = codes "keep"
keyword_text Fetch = codes "fetch"

-- the first word of a command
abbrev pub keyword_of : Command → Keyword
keyword_of (commands.New phylum) = New
keyword_of (commands.Goto place) = Goto
keyword_of (commands.Refine place op args) = Refine
keyword_of (commands.Insert place k op args) = Insert
keyword_of (commands.Cut place) = Cut
keyword_of (commands.Remove place k) = Remove
keyword_of (commands.Close place) = Close
keyword_of (commands.Reopen place) = Reopen
keyword_of (commands.Over place text) = Over
keyword_of (commands.Range start end text) = Range
keyword_of commands.Show = Show
keyword_of (commands.Screen top left rows cols) = Screen
keyword_of (commands.Relation place) = Relation
keyword_of (commands.Own place) = Own
keyword_of (commands.Menu place k) = Menu
keyword_of (commands.Names place k op) = Names
keyword_of commands.Free = Free
keyword_of commands.Undo = Undo
keyword_of commands.Redo = Redo
keyword_of (commands.Save name place) = Save
keyword_of (commands.Paste place k name) = Paste
keyword_of (commands.Keep name file) = Keep
keyword_of (commands.Fetch file) = Fetch

-- all words but the first
abbrev pub behind_first : List Text → List Text
behind_first [] = []
behind_first (w ∷ ws) = ws

-- the words after the first one
abbrev pub fields_of : Command → List Text
fields_of c = behind_first (words_of c)
