use Rattle.std.proofs.Common.{ap, sym, ◌∙◌}
use Rattle.psg_terms.proofs.Lists.{got_none, got_some}
use Rattle.psg_uses.specs.ByParts.{has_number, has_number_in}
use Rattle.psg_uses.proofs.regions.has_space.Goals as goal

pub returns-in-Some : goal.returns-in-Some
returns-in-Some c =
    c.has_number.ensures ∙ ap (λ xs. has_number xs c.args.space) c.as_slice.ensures.value
    ∙ ap (λ o. has_number_in o c.args.space)
    (sym (got_some c.args.spaces.now c.args.phylum c.get.result c.in-Some.own c.get.ensures.lookup c.in-Some.is))

pub returns-in-None : goal.returns-in-None
returns-in-None c =
    ap (λ o. has_number_in o c.args.space)
    (sym (got_none c.args.spaces.now c.args.phylum c.get.result c.get.ensures.lookup c.in-None.is))
