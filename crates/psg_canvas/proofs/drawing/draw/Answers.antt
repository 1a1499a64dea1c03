use Rattle.std.proofs.Common.{◌≡◌, ◌<◌, ◌+◌, ◌++◌, ◌^◌, ℕ, ap, sym, subst, ◌∙◌, Some, None, Option, string_bytes, arith}
use Rattle.std.specs.Prelude.{IfSome}
use Rattle.std.specs.Option.{option_copied}
use Rattle.psg_canvas.specs.Cells.{Picture, IsPicture}
use Rattle.psg_canvas.specs.Orders.{bytes_of_all}
use Rattle.psg_canvas.specs.Drawing.{IsKept, cursor_orders}
use Rattle.psg_canvas.specs.Walking.{AwaitsPicture, Turns}
use Rattle.psg_canvas.proofs.WalkLaws.{draws, cols_some}
use Rattle.psg_canvas.proofs.drawing.draw.Goals as goal

may_set : (p : Picture) (held : ℕ) (cursor : Option ℕ) → IsPicture p → held ≡ p.cols → cursor ≡ p.cursor
    → IfSome cursor (λ place. place + 1 < 2 ^ 64) → IfSome cursor (λ place. (0 < held) × (place + 1 < 2 ^ 64))
may_set p held None whole same is small = tt
may_set p held (Some place) whole same is small =
    let some : 0 < p.cols = cols_some p place whole (sym is) in (omega (arith, some, same), small)

pub set_cursor-requires : goal.set_cursor-requires
set_cursor-requires c =
    may_set c.args.new.now c.put_picture.new.pen.cols c.cursor.result c.cursor.ensures.picture
    (c.in_ok-put_picture.ensures.cols ∙ c.new-pen.ensures.cols ∙ c.cols.ensures) c.cursor.ensures.cursor c.cursor.ensures.small

pub returns : goal.returns
returns c =
    let pen = c.put_picture.new.pen in
    let same : pen.cols ≡ c.args.new.now.cols = c.in_ok-put_picture.ensures.cols ∙ c.new-pen.ensures.cols ∙ c.cols.ensures in
    draws (option_copied c.args.old) c.args.new.now (string_bytes pen.out) (string_bytes c.into_text.result) pen.at pen.style pen.cols
    c.cursor.ensures.picture same
    (subst (λ text. Turns (IsKept (option_copied c.args.old) c.args.new.now) (AwaitsPicture (option_copied c.args.old) c.args.new.now)
    c.args.new.now.cols c.args.new.now.slots text (string_bytes pen.out) pen.at pen.style) c.new-pen.ensures.out
    c.in_ok-put_picture.ensures.turns)
    (ap string_bytes c.into_text.ensures ∙ c.in_ok-set_cursor.ensures
    ∙ ap (λ cursor. string_bytes pen.out ++ bytes_of_all pen.cols (cursor_orders pen.at cursor)) c.cursor.ensures.cursor)
