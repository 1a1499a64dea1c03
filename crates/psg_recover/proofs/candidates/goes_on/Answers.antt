use Rattle.std.proofs.Common.{◌∙◌}
use Rattle.psg_terms.proofs.Lists.{got_none, got_some, slice_get_some}
use Rattle.psg_recover.proofs.ReaderLaws.{goes_none, goes_some, trees_at}
use Rattle.psg_recover.proofs.candidates.goes_on.Goals as goal

pub begins-requires : goal.begins-requires
begins-requires c =
    let r = c.requires.reader in
    record { reader = r; trees = trees_at c.args.reader.known.definition.now r.can_end c.args.reader.kind r.kind }

pub front-requires : goal.front-requires
front-requires c =
    let r = c.requires.reader in
    record { reader = r; trees = trees_at c.args.reader.known.definition.now r.can_end c.args.reader.kind r.kind }

pub returns-in-Some : goal.returns-in-Some
returns-in-Some c =
    let def = c.args.reader.known.definition.now in
    let (phylum, at) = slice_get_some def.phyla c.args.candidate.phylum c.requires.phylum in
    goes_some def c.args.reader.kind c.args.tokens.now c.args.to c.args.candidate phylum c.in-Some.next.now c.in_ok-row.row.items
    c.as_slice.result.now c.in_ok-begins-in-Some.begins at
    (got_some c.args.tokens.now c.args.to c.get.result c.in-Some.next c.get.ensures.lookup c.in-Some.is)
    (c.in_ok-row.ensures phylum at) (c.as_slice.ensures.value ∙ c.in_ok-push_one-in-Some.ensures) c.in_ok-begins-in-Some.ensures

pub returns : goal.returns
returns c =
    let def = c.args.reader.known.definition.now in
    let (phylum, at) = slice_get_some def.phyla c.args.candidate.phylum c.requires.phylum in
    goes_none def c.args.reader.kind c.args.tokens.now c.args.to c.args.candidate phylum c.as_slice-in-None.result.now
    c.in_ok-front-in-None.front.whole at
    (got_none c.args.tokens.now c.args.to c.get.result c.get.ensures.lookup c.in-None.is)
    (c.as_slice-in-None.ensures.value ∙ c.in_ok-row.ensures phylum at) c.in_ok-front-in-None.ensures.whole
