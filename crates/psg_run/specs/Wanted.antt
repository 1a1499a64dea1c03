-- What the program's reader of words finds.
use Rattle.std.specs.Prelude.{Bool, true, false, List}
use Rattle.psg_terms.specs.Names.{Name}
use Rattle.psg_run.specs.declared.framing.Framing.{Framing}
use Rattle.psg_run.specs.declared.framing.Framing.TheVariants as framings
use Rattle.psg_run.specs.declared.words.Form.{Form as Found}
use Rattle.psg_run.specs.declared.words.Form.TheVariants.{Check, Edit, Live, Windows, Gen, Layout, Itself, Format, Lint}
use Rattle.psg_run.specs.declared.words.Form.TheVariants.{Explain}
use Rattle.psg_run.specs.Promise.{Form, IsForm, check, edit, live, windows, gen}
use Rattle.psg_run.specs.Promise.{layout, itself, format, check_format, lint}
use Rattle.psg_run.specs.Promise.{explain, framed}

-- `format`, with the word `--check` or without
abbrev pub formatting : Bool → Name → Name → Name → Form
formatting false definition kind program = format definition kind program
formatting true definition kind program = check_format definition kind program

-- `live`, with the word `--framed` or without
abbrev pub living : Framing → Name → Form
living framings.Plain definition = live definition
living framings.Framed definition = framed definition

-- the form that the program's form is
abbrev pub form_told : Found → Form
form_told (Check definition) = check definition.now
form_told (Edit definition script) = edit definition.now script.now
form_told (Live definition framing) = living framing definition.now
form_told (Windows definition script) = windows definition.now script.now
form_told (Gen number) = gen number
form_told (Layout definition script rules columns) = layout definition.now script.now rules.now columns
form_told (Itself script file) = itself script.now file.now
form_told (Format definition kind program checks) = formatting checks definition.now kind.now program.now
form_told (Lint definition kind program) = lint definition.now kind.now program.now
form_told (Explain definition script) = explain definition.now script.now

-- what was found is the form that the words have
abbrev pub IsWanted : List Name → Found → Type 0
IsWanted words found = IsForm words (form_told found)
