use Rattle.std.proofs.Common.{ap, subst, sym}
use Rattle.psg_cache.specs.Annotated.{tree_in}
use Rattle.psg_grammar.specs.Sound.{IsSound}
use Rattle.psg_completing.specs.Naming.{IsSampleName}
use Rattle.psg_completing.proofs.Completions.{offers_for}
use Rattle.psg_completing.proofs.completing.offers_in.Goals as goal

pub least_at-requires : goal.least_at-requires
least_at-requires g c = subst IsSound (sym c.definition-definition.ensures.same) c.definition-definition.ensures.sound

pub known-known-requires : goal.known-known-requires
known-known-requires g c = c.requires

pub offers_at-requires : goal.offers_at-requires
offers_at-requires g c = c.known-known.ensures.known

pub returns : goal.returns
returns g c =
    offers_for c.args.language.now c.definition-definition.result.now c.known-known.result.program.language.now c.args.kind
    c.known-known.result.program.kind (tree_in c.args.judged.now.note) c.tree-tree.result.now
    (tree_in c.known-known.result.program.note.now) c.args.path c.in_ok-least.least c.as_str-sample.result.now
    c.args.prefix.now
    c.in_ok-offers.offers c.definition-definition.ensures.same c.known-known.ensures.language c.known-known.ensures.kind
    c.tree-tree.ensures (ap tree_in c.known-known.ensures.note) c.in_ok-least.ensures
    (subst (IsSampleName c.args.language.now) (sym c.as_str-sample.ensures) c.in_ok-name.ensures) c.in_ok-offers.ensures
