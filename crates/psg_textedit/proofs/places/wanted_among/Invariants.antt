use Rattle.std.proofs.Common.{◌≡◌, ◌≤◌, drop, length}
use Rattle.psg_grammar.specs.Lookups.{operator_at}
use Rattle.psg_unparse.specs.Rows.{from_part, items_in}
use Rattle.psg_textedit.specs.Places.{wanted_among}
use Rattle.psg_textedit.proofs.places.wanted_among.Given as goal

abbrev pub invariant-loop-part : goal.invariant-loop-part
invariant-loop-part l =
    (wanted_among (operator_at l.definition l.op) l.rest (drop l.part-index l.parts) l.left
    ≡ wanted_among (operator_at l.definition l.op) (from_part (items_in (operator_at l.definition l.op))) l.parts l.number)
    × (length l.rest ≤ length l.items)
