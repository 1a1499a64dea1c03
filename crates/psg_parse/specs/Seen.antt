-- The terminal of what the program sees of a token.
use Rattle.psg_class.specs.Terminals.{Terminal, fixed, a_name, a_number, a_text, a_hole, a_more, stray}
use Rattle.psg_parse.specs.declared.seen.Seen.{Seen}
use Rattle.psg_parse.specs.declared.seen.Seen.TheVariants as seen

abbrev pub terminal_seen : Seen → Terminal
terminal_seen (seen.Fixed w) = fixed w.now
terminal_seen seen.Name = a_name
terminal_seen seen.Number = a_number
terminal_seen seen.Text = a_text
terminal_seen (seen.Hole p) = a_hole p.now
terminal_seen seen.More = a_more
terminal_seen seen.Stray = stray
