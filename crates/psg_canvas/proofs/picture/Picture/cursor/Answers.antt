use Rattle.std.proofs.Common.{◌+◌, ◌*◌, ◌<◌, ◌^◌, ℕ, length, Option, Some, None, arith, rules}
use Rattle.std.specs.Prelude.{IfSome}
use Rattle.psg_canvas.proofs.picture.Picture.cursor.Goals as goal

small : (cursor : Option ℕ) (count : ℕ) → IfSome cursor (λ place. place < count) → count < 2 ^ 64 → IfSome cursor (λ place. place + 1 < 2 ^ 64)
small None count within fits = tt
small (Some place) count within fits = omega (arith, within, fits)

pub returns-clause-small : goal.returns-clause-small
returns-clause-small c =
    let fits : length c.self.inside.slots.items < 2 ^ 64 = first_of (search rules, search (rules, c.self.inside.slots.small), omega (arith, c.self.inside.slots.ok.0, c.self.inside.slots.small)) in
    let count : c.self.inside.rows * c.self.inside.cols < 2 ^ 64 = omega (arith, fits, c.self.invariant.size) in
    small c.self.inside.cursor (c.self.inside.rows * c.self.inside.cols) c.self.invariant.within count
