-- Commands that are resolved.
use Rattle.std.proofs.Common.{◌≡◌, refl, ap}
use Rattle.psg_grammar.specs.Paths.{Path}
use Rattle.psg_script.specs.declared.command.Where.{Where}
use Rattle.psg_script.specs.declared.command.Where.TheVariants.{Cursor, At}
use Rattle.psg_script.specs.declared.command.Command.{Command}
use Rattle.psg_script.specs.declared.command.Command.TheVariants.{New, Goto, Refine, Insert, Cut, Remove, Close, Reopen}
use Rattle.psg_script.specs.declared.command.Command.TheVariants.{Over, Range, Show, Screen, Relation, Own, Menu, Names}
use Rattle.psg_script.specs.declared.command.Command.TheVariants.{Free, Undo, Redo, Save, Paste, Keep, Fetch}
use Rattle.psg_windows.specs.Resolving.{at_path, resolved, IsPath, IsResolved}

is_path : (c : Path) (place : Where) → IsPath (at_path c place)
is_path c Cursor = tt
is_path c (At path) = tt

same_place : (c : Path) (place : Where) → IsPath place → at_path c place ≡ place
same_place c Cursor h = absurd h
same_place c (At path) h = refl

-- a resolved command names no cursor
pub none_left : (c : Path) (command : Command) → IsResolved (resolved c command)
none_left c (New phylum) = tt
none_left c (Goto place) = is_path c place
none_left c (Refine place op args) = is_path c place
none_left c (Insert place k op args) = is_path c place
none_left c (Cut place) = is_path c place
none_left c (Remove place k) = is_path c place
none_left c (Close place) = is_path c place
none_left c (Reopen place) = is_path c place
none_left c (Over place text) = is_path c place
none_left c (Range start end text) = tt
none_left c Show = tt
none_left c (Screen top left rows cols) = tt
none_left c (Relation place) = is_path c place
none_left c (Own place) = is_path c place
none_left c (Menu place k) = is_path c place
none_left c (Names place k op) = is_path c place
none_left c Free = tt
none_left c Undo = tt
none_left c Redo = tt
none_left c (Save name place) = is_path c place
none_left c (Paste place k name) = is_path c place
none_left c (Keep name file) = tt
none_left c (Fetch file) = tt

-- a command that names none is its own resolved one
pub stays_resolved : (c : Path) (command : Command) → IsResolved command → resolved c command ≡ command
stays_resolved c (New phylum) h = refl
stays_resolved c (Goto place) h = ap (λ p. Goto p) (same_place c place h)
stays_resolved c (Refine place op args) h = ap (λ p. Refine p op args) (same_place c place h)
stays_resolved c (Insert place k op args) h = ap (λ p. Insert p k op args) (same_place c place h)
stays_resolved c (Cut place) h = ap (λ p. Cut p) (same_place c place h)
stays_resolved c (Remove place k) h = ap (λ p. Remove p k) (same_place c place h)
stays_resolved c (Close place) h = ap (λ p. Close p) (same_place c place h)
stays_resolved c (Reopen place) h = ap (λ p. Reopen p) (same_place c place h)
stays_resolved c (Over place text) h = ap (λ p. Over p text) (same_place c place h)
stays_resolved c (Range start end text) h = refl
stays_resolved c Show h = refl
stays_resolved c (Screen top left rows cols) h = refl
stays_resolved c (Relation place) h = ap (λ p. Relation p) (same_place c place h)
stays_resolved c (Own place) h = ap (λ p. Own p) (same_place c place h)
stays_resolved c (Menu place k) h = ap (λ p. Menu p k) (same_place c place h)
stays_resolved c (Names place k op) h = ap (λ p. Names p k op) (same_place c place h)
stays_resolved c Free h = refl
stays_resolved c Undo h = refl
stays_resolved c Redo h = refl
stays_resolved c (Save name place) h = ap (λ p. Save name p) (same_place c place h)
stays_resolved c (Paste place k name) h = ap (λ p. Paste p k name) (same_place c place h)
stays_resolved c (Keep name file) h = refl
stays_resolved c (Fetch file) h = refl
