use Rattle.std.proofs.Common.{◌≡◌, ◌<◌, List, length, ap, arith, subst, sym}
use Rattle.psg_class.specs.Texts.{tokens_of}
use Rattle.psg_grammar.specs.declared.types.Phylum.{Phylum}
use Rattle.psg_recover.specs.Candidates.{AreCandidatesTo}
use Rattle.psg_recover.proofs.candidates.add_candidates.Goals as goal

pub overflow_cast-phylum : goal.overflow_cast-phylum
overflow_cast-phylum c =
    let few = c.requires.reader.known.sound.few_phyla in
    let same = ap (λ (ps : List Phylum). length ps) c.as_slice-phyla.ensures in
    omega (arith, few, same)

pub add_if-requires : goal.add_if-requires
add_if-requires c = record {
  reader = c.requires.reader;
  stop = c.requires.stop;
  from = c.requires.from;
  phylum = (let same = ap (λ (ps : List Phylum). length ps) c.as_slice-phyla.ensures in omega (arith, same));
  found = c.loop-place.invariant;
}

pub loop-place-init : goal.loop-place-init
loop-place-init c = c.requires.found

pub loop-place-preserved : goal.loop-place-preserved
loop-place-preserved c = c.in_ok-add_if.ensures

pub returns : goal.returns
returns c =
    let def = c.args.reader.known.definition.now in
    let same = ap (λ (ps : List Phylum). length ps) c.as_slice-phyla.ensures in
    let whole : c.loop-place.place ≡ length def.phyla = omega (arith, same) in
    subst (λ n. AreCandidatesTo def c.args.reader.kind (tokens_of c.args.tokens.now) c.args.stop c.args.from n c.loop-place.found.items) whole c.loop-place.invariant
