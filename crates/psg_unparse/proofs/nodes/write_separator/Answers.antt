use Rattle.std.proofs.Common.{sym, ap, ◌∙◌, subst, slice_get}
use Rattle.psg_terms.proofs.Lists.{got_some, got_none}
use Rattle.psg_unparse.specs.Rows.{separating}
use Rattle.psg_unparse.specs.Writing.{Adds}
use Rattle.psg_unparse.proofs.Adding.{adds-nothing}
use Rattle.psg_unparse.proofs.nodes.write_separator.Goals as goal

pub returns-in_ok-write_separator_of-in-Some : goal.returns-in_ok-write_separator_of-in-Some
returns-in_ok-write_separator_of-in-Some c =
    subst (λ k. Adds (separating k) c.args.writer.now c.write_separator_of.new.writer)
    (sym (ap (λ xs. slice_get xs c.args.list) (sym c.as_slice.ensures) ∙ got_some c.as_slice.result.now c.args.list c.get.result c.in-Some.kind c.get.ensures.lookup c.in-Some.is))
    c.in_ok-write_separator_of-in-Some.ensures

pub returns-in-None : goal.returns-in-None
returns-in-None c =
    subst (λ k. Adds (separating k) c.args.writer.now c.args.writer.now)
    (sym (ap (λ xs. slice_get xs c.args.list) (sym c.as_slice.ensures) ∙ got_none c.as_slice.result.now c.args.list c.get.result c.get.ensures.lookup c.in-None.is))
    (adds-nothing c.args.writer.now)
