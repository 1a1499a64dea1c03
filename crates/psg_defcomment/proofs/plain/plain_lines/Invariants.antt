use Rattle.std.proofs.Common.{◌≡◌, ◌+◌, map, take}
use Rattle.psg_defcomment.specs.Writing.{ArePlain}
use Rattle.psg_defcomment.proofs.plain.plain_lines.Given as goal

abbrev pub invariant-loop-line : goal.invariant-loop-line
invariant-loop-line l =
    (l.number ≡ l.line-index + 2) × ArePlain (map (λ b. b.now) (take l.line-index l.lines)) l.bytes.items l.named.items
