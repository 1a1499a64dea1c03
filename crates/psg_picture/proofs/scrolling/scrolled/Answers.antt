use Rattle.std.proofs.Common.{sym, subst}
use Rattle.psg_screen.specs.declared.View.{View}
use Rattle.psg_picture.specs.Scrolling.{IsSeen, end_column, first_column, line_of, text_rows}
use Rattle.psg_picture.proofs.ScrollLaws.{scrolled_seen}
use Rattle.psg_picture.proofs.scrolling.scrolled.Goals as goal

pub returns-clause-seen : goal.returns-clause-seen
returns-clause-seen c =
    subst (λ (view : View). IsSeen (text_rows c.args.view) view (line_of c.args.text.now c.args.chosen.0) (first_column c.args.text.now c.args.chosen) (end_column c.args.text.now c.args.chosen))
    (sym c.moved.ensures) (scrolled_seen c.args.view c.args.text.now c.args.chosen)
