use Rattle.std.proofs.Common.{◌-◌, length, refl, sym, ap, ◌∙◌}
use Rattle.std.specs.Prelude.{◌||◌, nat_le, reverse}
use Rattle.psg_keeping.proofs.LineLaws.{next_is}
use Rattle.psg_keeping.proofs.moving.is_paired_next.Goals as goal

pub returns-then-paired : goal.returns-then-paired
returns-then-paired c = λ steps a.
    c.if-paired.true ∙ sym (ap (λ p. p || nat_le (length c.args.places.now - 1) c.args.count) c.if-paired.true)
    ∙ next_is steps c.args.places.now c.args.count c.saturating_sub.result (length c.args.places.now - 1) c.is_paired-paired.result a
    refl c.saturating_sub.ensures (c.is_paired-paired.ensures (reverse steps) a)

pub returns-else-paired : goal.returns-else-paired
returns-else-paired c = λ steps a.
    sym (ap (λ p. p || nat_le (length c.args.places.now - 1) c.args.count) c.if-paired.false)
    ∙ next_is steps c.args.places.now c.args.count c.saturating_sub.result (length c.args.places.now - 1) c.is_paired-paired.result a
    refl c.saturating_sub.ensures (c.is_paired-paired.ensures (reverse steps) a)
