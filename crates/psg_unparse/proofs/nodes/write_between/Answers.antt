use Rattle.std.proofs.Common.{sym, ◌∙◌, subst}
use Rattle.psg_unparse.specs.Writing.{Adds}
use Rattle.psg_unparse.proofs.Adding.{adds-nothing}
use Rattle.psg_unparse.proofs.Items.{between-none, between-some}
use Rattle.psg_unparse.proofs.nodes.write_between.Goals as goal

pub returns-then-is_ended : goal.returns-then-is_ended
returns-then-is_ended c =
    subst (λ r. Adds r c.args.writer.now c.args.writer.now)
    (sym (between-none c.args.definition.now c.args.list c.args.behind.now c.args.unfinished (sym c.is_ended.ensures ∙ c.if-is_ended.true)))
    (adds-nothing c.args.writer.now)

pub returns : goal.returns
returns c =
    subst (λ r. Adds r c.args.writer.now c.write_separator.new.writer)
    (sym (between-some c.args.definition.now c.args.list c.args.behind.now c.args.unfinished (sym c.is_ended.ensures ∙ c.if-is_ended.false)))
    c.in_ok-write_separator.ensures
