use Rattle.std.proofs.Common.{Some, subst, sym, ◌≡◌}
use Rattle.psg_cache.specs.Annotated.{tree_in}
use Rattle.psg_grammar.specs.Kinds.{op_name_of}
use Rattle.psg_grammar.specs.Sound.{IsSound}
use Rattle.psg_completing.proofs.Offers.{not_named, unknown_of}
use Rattle.psg_pointing.proofs.Walks.{some_in}
use Rattle.psg_completing.proofs.offering.offers_of.Goals as goal

pub op_named-requires : goal.op_named-requires
op_named-requires g c = subst IsSound (sym c.definition-definition.ensures.same) c.definition-definition.ensures.sound

pub offers_with-requires : goal.offers_with-requires
offers_with-requires g c = record {
  known = c.requires;
  name = subst (λ d. op_name_of d c.in-Some.op ≡ Some c.args.name.now) c.definition-definition.ensures.same
      (some_in (λ o. op_name_of c.definition-definition.result.now o ≡ Some c.args.name.now) c.op_named.result
      c.in-Some.op c.in-Some.is c.op_named.ensures.found);
}

pub returns-in-None : goal.returns-in-None
returns-in-None g c =
    let gap = c.args.open in
    unknown_of gap.known.program.language.now gap.known.program.kind (tree_in gap.known.program.note.now)
    gap.spot.now gap.least gap.sample.now gap.prefix.now c.args.name.now c.no_offers.result
    (not_named gap.known.program.language.now c.definition-definition.result.now c.args.name.now c.op_named.result
    c.definition-definition.ensures.same c.op_named.ensures.only c.in-None.is)
    c.no_offers.ensures.entries c.no_offers.ensures.more
