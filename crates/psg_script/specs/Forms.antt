-- Which line spells which command: the words of the command, with spaces between them.
use Rattle.std.specs.Prelude.{ℕ, suc, ◌<◌, ◌≤◌, ◌^◌, ◌≡◌, ◌≢◌, ◌||◌, ◌==◌, Bool, IsTrue, List, [], ◌∷◌, ◌++◌, length}
use Rattle.std.specs.Prelude.{replicate, Option, Some, None, codes, decimal, IsUtf8}
use Rattle.std.specs.List.{AllByRecursion}
use Rattle.std.specs.Char.{is_ascii_alphabetic, is_ascii_alphanumeric}
use Rattle.psg_script.specs.declared.command.Where.{Where}
use Rattle.psg_script.specs.declared.command.Where.TheVariants.{Cursor, At}
use Rattle.psg_script.specs.declared.command.Command.{Command}
use Rattle.psg_script.specs.declared.command.Command.TheVariants.{New, Goto, Refine, Insert, Cut, Remove, Close, Reopen}
use Rattle.psg_script.specs.declared.command.Command.TheVariants.{Over, Range, Show, Screen, Relation, Own, Menu, Names}
use Rattle.psg_script.specs.declared.command.Command.TheVariants.{Free, Undo, Redo, Save, Paste, Keep, Fetch}
use Rattle.psg_script.specs.declared.command.CommandFault.{CommandFault}
use Rattle.psg_script.specs.declared.command.CommandFault.TheVariants as faults

-- A text, by its bytes.
abbrev pub Text : Type 0
Text = List ℕ

-- The parts of a command.

-- a byte of a word: anything but a space
abbrev pub IsInWord : ℕ → Type 0
IsInWord b = b ≢ 32

-- one byte or more, none of them a space
abbrev pub IsWord : Text → Type 0
IsWord w = (0 < length w) × AllByRecursion IsInWord w

-- a letter or digit of ASCII, or `_`
abbrev pub goes_on_name : ℕ → Bool
goes_on_name b = is_ascii_alphanumeric b || (b == 95)

-- a letter of ASCII, and then at most 63 letters, digits and `_`
abbrev pub IsName : Text → Type 0
IsName [] = ⊥
IsName (b ∷ bs) = IsTrue (is_ascii_alphabetic b) × AllByRecursion (λ c. IsTrue (goes_on_name c)) bs × (length bs < 64)

-- a word of at most 255 bytes
abbrev pub IsFile : Text → Type 0
IsFile w = IsWord w × (length w ≤ 255)

-- a number of 32 bits
abbrev pub IsNumber : ℕ → Type 0
IsNumber n = n < 2 ^ 32

-- a number of 32 bits, where there is one
abbrev pub IsNumberIfAny : Option ℕ → Type 0
IsNumberIfAny None = Unit {0}
IsNumberIfAny (Some n) = IsNumber n

-- the steps of a path are numbers of 32 bits
abbrev pub IsPlace : Where → Type 0
IsPlace Cursor = Unit {0}
IsPlace (At path) = AllByRecursion IsNumber path

-- a text that may be at the end of a line, after the spaces that set it off: it begins with no space
abbrev pub IsTail : Text → Type 0
IsTail [] = Unit {0}
IsTail (b ∷ bs) = b ≢ 32

-- each part of the command has its form
abbrev pub IsCommand : Command → Type 0
IsCommand (New phylum) = IsName phylum
IsCommand (Goto place) = IsPlace place
IsCommand (Refine place op args) = IsPlace place × IsName op × IsTail args
IsCommand (Insert place k op args) = IsPlace place × IsNumber k × IsName op × IsTail args
IsCommand (Cut place) = IsPlace place
IsCommand (Remove place k) = IsPlace place × IsNumber k
IsCommand (Close place) = IsPlace place
IsCommand (Reopen place) = IsPlace place
IsCommand (Over place text) = IsPlace place × IsTail text
IsCommand (Range start end text) = IsNumber start × IsNumber end × IsTail text
IsCommand Show = Unit {0}
IsCommand (Screen top left rows cols) = IsNumber top × IsNumber left × (1 ≤ rows) × (rows ≤ 200) × (1 ≤ cols)
    × (cols ≤ 400)
IsCommand (Relation place) = IsPlace place
IsCommand (Own place) = IsPlace place
IsCommand (Menu place k) = IsPlace place × IsNumberIfAny k
IsCommand (Names place k op) = IsPlace place × IsNumberIfAny k × IsName op
IsCommand Free = Unit {0}
IsCommand Undo = Unit {0}
IsCommand Redo = Unit {0}
IsCommand (Save name place) = IsName name × IsPlace place
IsCommand (Paste place k name) = IsPlace place × IsNumberIfAny k × IsName name
IsCommand (Keep name file) = IsName name × IsFile file
IsCommand (Fetch file) = IsFile file

-- How the parts are written.

-- each step after a `/`
abbrev pub steps_text : List ℕ → Text
steps_text [] = []
steps_text (k ∷ ks) = 47 ∷ (decimal k ++ steps_text ks)

-- `.` for the cursor, `/` for the top, else the steps
abbrev pub place_text : Where → Text
place_text Cursor = codes "."
place_text (At []) = codes "/"
place_text (At (k ∷ ks)) = steps_text (k ∷ ks)

-- the words `k`, or none
abbrev pub number_words : Option ℕ → List Text
number_words None = []
number_words (Some k) = decimal k ∷ []

-- the words of a command, except for the text at its end
abbrev pub words_of : Command → List Text
words_of (New phylum) = codes "new" ∷ phylum ∷ []
words_of (Goto place) = codes "goto" ∷ place_text place ∷ []
words_of (Refine place op args) = codes "refine" ∷ place_text place ∷ op ∷ []
words_of (Insert place k op args) = codes "insert" ∷ place_text place ∷ decimal k ∷ op ∷ []
words_of (Cut place) = codes "cut" ∷ place_text place ∷ []
words_of (Remove place k) = codes "remove" ∷ place_text place ∷ decimal k ∷ []
words_of (Close place) = codes "close" ∷ place_text place ∷ []
words_of (Reopen place) = codes "reopen" ∷ place_text place ∷ []
words_of (Over place text) = codes "over" ∷ place_text place ∷ []
words_of (Range start end text) = codes "range" ∷ decimal start ∷ decimal end ∷ []
words_of Show = codes "show" ∷ []
words_of (Screen top left rows cols) = codes "screen" ∷ decimal top ∷ decimal left ∷ decimal rows ∷ decimal cols ∷ []
words_of (Relation place) = codes "relation" ∷ place_text place ∷ []
words_of (Own place) = codes "own" ∷ place_text place ∷ []
words_of (Menu place k) = codes "menu" ∷ place_text place ∷ number_words k
words_of (Names place k op) = codes "names" ∷ place_text place ∷ (number_words k ++ op ∷ [])
words_of Free = codes "free" ∷ []
words_of Undo = codes "undo" ∷ []
words_of Redo = codes "redo" ∷ []
words_of (Save name place) = codes "save" ∷ name ∷ place_text place ∷ []
words_of (Paste place k name) = codes "paste" ∷ place_text place ∷ (number_words k ++ name ∷ [])
words_of (Keep name file) = codes "keep" ∷ name ∷ file ∷ []
words_of (Fetch file) = codes "fetch" ∷ file ∷ []

-- the text at the end of the line, in a form that has one
abbrev pub tail_of : Command → Option Text
tail_of (Refine place op args) = Some args
tail_of (Insert place k op args) = Some args
tail_of (Over place text) = Some text
tail_of (Range start end text) = Some text
tail_of (New phylum) = None
tail_of (Goto place) = None
tail_of (Cut place) = None
tail_of (Remove place k) = None
tail_of (Close place) = None
tail_of (Reopen place) = None
tail_of Show = None
tail_of (Screen top left rows cols) = None
tail_of (Relation place) = None
tail_of (Own place) = None
tail_of (Menu place k) = None
tail_of (Names place k op) = None
tail_of Free = None
tail_of Undo = None
tail_of Redo = None
tail_of (Save name place) = None
tail_of (Paste place k name) = None
tail_of (Keep name file) = None
tail_of (Fetch file) = None

-- Lines.

-- that many spaces
abbrev pub spaces : ℕ → Text
spaces n = replicate n 32

-- What follows a word, where these words follow it and then this text. One or more spaces are before a word,
-- and before a text that has bytes. After the last word without a text, and before an empty text, there may be any
-- number of spaces.
abbrev pub Follow : List Text → Option Text → Text → Type 0
Follow [] None behind = (n : ℕ) × (behind ≡ spaces n)
Follow [] (Some text) behind = (n : ℕ) × (behind ≡ spaces n ++ text) × (n ≡ 0 → text ≡ [])
Follow (w ∷ ws) tail behind = (n : ℕ) × (after : Text) × (behind ≡ spaces (suc n) ++ (w ++ after))
    × Follow ws tail after

-- the line is these words and then this text; no space is before the first word
abbrev pub IsLineOf : List Text → Option Text → Text → Type 0
IsLineOf [] tail line = ⊥
IsLineOf (w ∷ ws) tail line = (after : Text) × (line ≡ w ++ after) × Follow ws tail after

-- the line is a text of UTF-8 and one of the ways to write this command, which is in order
pub record Spells (line : Text) (c : Command) : Type 0 where
  pub utf8 : IsUtf8 line
  pub formed : IsCommand c
  pub written : IsLineOf (words_of c) (tail_of c) line

-- where a line gives no command: it is no text; it is one and spells no command; any line, where there is no room
abbrev pub IsCommandFault : Text → CommandFault → Type 0
IsCommandFault line faults.NotText = IsUtf8 line → ⊥
IsCommandFault line faults.Form = IsUtf8 line × ((c : Command) → Spells line c → ⊥)
IsCommandFault line faults.Memory = Unit {0}
