use Rattle.std.proofs.Common.{◌↔◌, chars, length}
use denote.Text.{Utf8}
use denote.Shadow.{shadow}
use Rattle.psg_lexis.specs.Classes.{is_symbol, All}
use Rattle.psg_comments.proofs.fitting.all_symbols.Given as goal

abbrev pub invariant-loop-first : goal.invariant-loop-first
invariant-loop-first l = shadow (Utf8 l.rest) × (All is_symbol (chars l.rest) ↔ All is_symbol (chars l.text))

abbrev pub decreases-loop-first : goal.decreases-loop-first
decreases-loop-first l = length l.rest
