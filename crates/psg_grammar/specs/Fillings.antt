-- What fills a tree with placeholders.
use Rattle.std.specs.Prelude.{◌≡◌, true, false}
use Rattle.psg_grammar.specs.declared.types.Kind.TheVariants as kinds
use Rattle.psg_grammar.specs.declared.types.Definition.{Definition}
use Rattle.psg_grammar.specs.Fragments.{Fragment, hole, ending, cell, operator, with_child, with_name, with_number}
use Rattle.psg_grammar.specs.Fragments.{with_text, anything, observed}
use Rattle.psg_grammar.specs.WellFormed.{WellFormed, IsComplete}

-- Fills f t: the complete tree t has the parts of f, with a complete tree of the phylum for each placeholder, and with
-- any further elements where a list of f is unfinished. The end of an unfinished list is filled by any complete list of
-- its kind, which is that list's further elements.
module _ (def : Definition) where
  abbrev pub Fills : Fragment → Fragment → Type 0
  Fills (hole p) t = WellFormed def t (kinds.Phylum p) × IsComplete t
  Fills (ending l true) t = WellFormed def t (kinds.List l) × IsComplete t
  Fills (ending l false) t = t ≡ ending l false
  Fills (cell l e r) t = (e' : Fragment) × (r' : Fragment) × (t ≡ cell l e' r') × Fills e e' × Fills r r'
  Fills (operator o) t = t ≡ operator o
  Fills (with_child f c) t = (f' : Fragment) × (c' : Fragment) × (t ≡ with_child f' c') × Fills f f' × Fills c c'
  Fills (with_name f n) t = (f' : Fragment) × (t ≡ with_name f' n) × Fills f f'
  Fills (with_number f n) t = (f' : Fragment) × (t ≡ with_number f' n) × Fills f f'
  Fills (with_text f n) t = (f' : Fragment) × (t ≡ with_text f' n) × Fills f f'
  Fills anything t = ⊥
  Fills (observed f) t = (f' : Fragment) × (t ≡ observed f') × Fills f f'
