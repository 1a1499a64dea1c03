-- Lines of terms from their parts.
use Rattle.psg_deflines.specs.Forms.{HasFixedWords, IsShallow}
use Rattle.psg_deflines.specs.TermWalks.{Parts}
use Rattle.psg_deflines.specs.FormReads.{IsForm, HasNoForm}
use Rattle.psg_deflines.specs.Only.{IsOnly}
use Rattle.psg_deflines.specs.declared.lines.Line.{Line}
use Rattle.psg_deflines.specs.declared.term_forms.FormRead.{FormRead}
use Rattle.psg_deflines.specs.declared.term_forms.FormRead.TheVariants as reads

-- The parts have no form, or that of one line, which is nested too deep or is kept.
abbrev pub IsFormRead : Parts → FormRead → Type 0
IsFormRead parts reads.Nothing = HasNoForm parts
IsFormRead parts reads.TooDeep = (line : Line) × IsOnly (IsForm parts) line × HasFixedWords line × (IsShallow line → ⊥)
IsFormRead parts (reads.Read line) = IsOnly (IsForm parts) line × IsShallow line
