use Rattle.std.proofs.Common.{◌∙◌, ◌-◌, drop, refl, take}
use Rattle.psg_terms.proofs.Lists.{slice_get_some}
use Rattle.psg_grammar.specs.declared.types.Kind.TheVariants as kinds
use Rattle.psg_class.specs.Texts.{tokens_of}
use Rattle.psg_recover.proofs.ReaderLaws.{candidate_iff, part_not, part_tokens, row_tokens, trees_at}
use Rattle.psg_recover.proofs.candidates.is_candidate.Goals as goal

pub begins-requires : goal.begins-requires
begins-requires c =
    let r = c.requires.reader in
    record {
      reader = r;
      trees = trees_at c.args.reader.known.definition.now r.can_end (kinds.Phylum c.args.candidate.phylum) c.requires.phylum;
    }

pub begins-requires-2 : goal.begins-requires-2
begins-requires-2 c =
    let r = c.requires.reader in
    record { reader = r; trees = trees_at c.args.reader.known.definition.now r.can_end c.args.reader.kind r.kind }

pub returns-then-not-starts : goal.returns-then-not-starts
returns-then-not-starts c =
    part_not c.args.reader.known.definition.now c.args.reader.kind (tokens_of c.args.tokens.now) c.args.stop c.args.candidate
    (tokens_of (take (c.args.stop - c.args.candidate.from) (drop c.args.candidate.from c.args.tokens.now))) c.in_ok-starts.starts
    (part_tokens c.args.tokens.now (take (c.args.stop - c.args.candidate.from) (drop c.args.candidate.from c.args.tokens.now)) c.args.candidate.from c.args.stop c.requires.from refl)
    c.in_ok-starts.ensures c.if-not-starts.true

pub returns : goal.returns
returns c =
    let def = c.args.reader.known.definition.now in
    let ts = c.args.tokens.now in
    let (phylum, at) = slice_get_some def.phyla c.args.candidate.phylum c.requires.phylum in
    candidate_iff def c.args.reader.kind (tokens_of ts) c.args.stop c.args.candidate phylum (tokens_of (take (c.args.stop - c.args.candidate.from) (drop c.args.candidate.from c.args.tokens.now)))
    (tokens_of c.as_slice.result.now) c.in_ok-starts.starts c.in_ok-follows.follows at c.requires.stands c.requires.from
    (part_tokens ts (take (c.args.stop - c.args.candidate.from) (drop c.args.candidate.from c.args.tokens.now)) c.args.candidate.from c.args.stop c.requires.from refl)
    c.in_ok-starts.ensures c.if-not-starts.false
    (row_tokens ts c.as_slice.result.now c.args.candidate.from c.args.stop phylum.name (c.as_slice.ensures.value ∙ c.in_ok-row.ensures phylum at))
    c.in_ok-follows.ensures
