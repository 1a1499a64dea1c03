use Rattle.std.proofs.Common.{sym, subst, ◌∙◌}
use Rattle.psg_class.specs.Class.{IsClass}
use Rattle.psg_completing.proofs.Fits.{found_for, no_node_there, no_placeholder_there, placeholder_is}
use Rattle.psg_pointing.proofs.Judgements.{made_for}
use Rattle.psg_completing.proofs.fitting.placeholder_at.Goals as goal

pub ranges_of-requires : goal.ranges_of-requires
ranges_of-requires c = record {
  class = subst IsClass (sym c.definition-definition.ensures.same) c.definition-definition.ensures.accepted.of_class;
}

pub returns-then-hole-clause-some : goal.returns-then-hole-clause-some
returns-then-hole-clause-some c =
    let p = c.args.program.now in
    placeholder_is c.args.language.now c.args.kind p.tokens.items p.tree c.args.byte c.args.phylum c.in_ok-ranges.ranges.nodes
    (made_for c.args.language.now c.args.kind p.tree _ _ p.tokens.items _ c.definition-definition.ensures.same
    c.as_slice-tokens.ensures.value c.in_ok-ranges.ensures) c.in_ok-found.found
    (found_for p.tokens.items _ c.in_ok-ranges.ranges.nodes _ c.args.byte c.in_ok-found.found
    c.as_slice-tokens.ensures.value c.all-all.ensures c.in_ok-found.ensures)
    c.in-Some.path c.in-Some.is (sym c.is_hole_at-hole.ensures ∙ c.if-hole.true)

pub returns-in-Some-clause-none : goal.returns-in-Some-clause-none
returns-in-Some-clause-none c =
    let p = c.args.program.now in
    no_placeholder_there c.args.language.now c.args.kind p.tokens.items p.tree c.args.byte c.args.phylum
    c.in_ok-ranges.ranges.nodes
    (made_for c.args.language.now c.args.kind p.tree _ _ p.tokens.items _ c.definition-definition.ensures.same
    c.as_slice-tokens.ensures.value c.in_ok-ranges.ensures) c.in_ok-found.found
    (found_for p.tokens.items _ c.in_ok-ranges.ranges.nodes _ c.args.byte c.in_ok-found.found
    c.as_slice-tokens.ensures.value c.all-all.ensures c.in_ok-found.ensures)
    c.in-Some.path c.in-Some.is (sym c.is_hole_at-hole.ensures ∙ c.if-hole.false)

pub returns-clause-none : goal.returns-clause-none
returns-clause-none c =
    let p = c.args.program.now in
    no_node_there c.args.language.now c.args.kind p.tokens.items p.tree c.args.byte c.args.phylum
    c.in_ok-ranges.ranges.nodes
    (made_for c.args.language.now c.args.kind p.tree _ _ p.tokens.items _ c.definition-definition.ensures.same
    c.as_slice-tokens.ensures.value c.in_ok-ranges.ensures) c.in_ok-found.found
    (found_for p.tokens.items _ c.in_ok-ranges.ranges.nodes _ c.args.byte c.in_ok-found.found
    c.as_slice-tokens.ensures.value c.all-all.ensures c.in_ok-found.ensures) c.in-None.is
