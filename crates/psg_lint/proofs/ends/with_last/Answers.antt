use Rattle.std.proofs.Common.{ap, ◌∙◌}
use Rattle.psg_grammar.specs.Fragments.{Fragment}
use Rattle.psg_grammar.specs.Paths.{change_at, inserted}
use Rattle.psg_lint.proofs.EndLaws.{more_is}
use Rattle.psg_lint.proofs.ends.with_last.Goals as goal

pub with_element-requires : goal.with_element-requires
with_element-requires c =
    let (node, at, is_list, many) = c.requires.there in
    record { there = (node, at, is_list, c.in_ok-place.ensures.step ∙ many) }

pub returns : goal.returns
returns c =
    let (node, at, is_list, many) = c.requires.there in
    c.in_ok-more.ensures
    ∙ ap (λ (g : Fragment). change_at (inserted c.in_ok-place.place g) c.args.path.now c.args.tree.now) c.in_ok-hole.ensures
    ∙ more_is c.args.tree.now c.args.path.now c.args.list.phylum c.in_ok-place.place node at (c.in_ok-place.ensures.step ∙ many)
