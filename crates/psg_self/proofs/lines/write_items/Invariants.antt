use Rattle.std.proofs.Common.{◌≡◌, ◌++◌, ◌∷◌, drop, string_bytes}
use Rattle.std.specs.List.{flat_map}
use Rattle.psg_deflines.specs.Forms.{item_part}
use Rattle.psg_self.specs.SelfLines.{item_of}
use Rattle.psg_self.proofs.lines.write_items.Given as goal

abbrev pub invariant-loop-i : goal.invariant-loop-i
invariant-loop-i l =
    string_bytes l.out ++ flat_map (λ x. 32 ∷ item_part (item_of x)) (drop l.i l.items)
    ≡ string_bytes l.initial.out ++ flat_map (λ x. 32 ∷ item_part (item_of x)) l.items
