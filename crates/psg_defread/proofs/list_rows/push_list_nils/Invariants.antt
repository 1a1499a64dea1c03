use Rattle.std.proofs.Common.{◌≡◌, ◌++◌, map, drop}
use Rattle.psg_deflines.specs.declared.lines.Line.TheVariants as lines
use Rattle.psg_defread.specs.WrittenLines.{term_written}
use Rattle.psg_defread.proofs.list_rows.push_list_nils.Given as goal

abbrev pub invariant-loop-i : goal.invariant-loop-i
invariant-loop-i l =
    l.out.items ++ map (λ t. lines.Nil l.list.name (term_written l.definition t)) (drop l.i l.rows)
    ≡ l.initial.out.items ++ map (λ t. lines.Nil l.list.name (term_written l.definition t)) l.rows
