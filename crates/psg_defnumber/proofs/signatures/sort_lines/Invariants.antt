use Rattle.std.proofs.Common.{◌≡◌, take}
use Rattle.psg_deflines.specs.Entries.{written}
use Rattle.psg_defnumber.specs.Numbers.{sort_decls}
use Rattle.psg_defnumber.proofs.signatures.sort_lines.Given as goal

abbrev pub invariant-loop-entry : goal.invariant-loop-entry
invariant-loop-entry l = l.made.items ≡ sort_decls (written (take l.entry-index l.entries))
