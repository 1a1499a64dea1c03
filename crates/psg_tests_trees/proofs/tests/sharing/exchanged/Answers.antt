use Rattle.std.proofs.Common.{◌∙◌, ap, sym}
use Rattle.std.specs.Prelude.{option_copied}
use Rattle.psg_grammar.specs.declared.types.Kind.TheVariants as kinds
use Rattle.psg_grammar.specs.Paths.{node_at}
use Rattle.psg_cache.proofs.FormedTrees.{formed_is_kind}
use Rattle.psg_tests_trees.proofs.tests.sharing.exchanged.Goals as goal

pub replaced-requires-clause-place : goal.replaced-requires-clause-place
replaced-requires-clause-place g c =
    let def = c.args.definition.now in
    let node = c.in-Some.node.now in
    let fits = c.well_formed-fits.ensures.0 c.if-not-fits.false in
    record {
      node = node;
      there = sym (ap (λ t. node_at t c.args.path.now) c.tree.ensures) ∙ sym c.at.ensures ∙ ap option_copied c.in-Some.is;
      kind = (kinds.Phylum 0);
      of_kind = formed_is_kind def node (kinds.Phylum 0) fits;
      formed = c.well_formed-formed.ensures.0 c.if-not-formed.false;
    }
