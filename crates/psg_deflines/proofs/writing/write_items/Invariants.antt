use Rattle.std.proofs.Common.{◌≡◌, ◌++◌, map, take, string_bytes}
use Rattle.psg_deflines.specs.Forms.{item_part}
use Rattle.psg_deflines.specs.LineTexts.{behind}
use Rattle.psg_deflines.proofs.writing.write_items.Given as goal

abbrev pub invariant-loop-i : goal.invariant-loop-i
invariant-loop-i l = string_bytes l.out ≡ string_bytes l.initial.out ++ behind (map item_part (take l.i l.items))
