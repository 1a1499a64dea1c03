use Rattle.std.proofs.Common.{◌∙◌, ◌<◌, List, ap, length, slice_get, subst, sym}
use Rattle.psg_grammar.specs.declared.types.Phylum.{Phylum}
use Rattle.psg_terms.proofs.Lists.{slice_get_item}
use Rattle.psg_recover.proofs.ReaderLaws.{row_is}
use Rattle.psg_recover.proofs.candidates.row_of.Goals as goal

pub returns : goal.returns
returns c = λ phylum there.
    let p = c.args.candidate.phylum in
    let from = c.args.candidate.from in
    let ts = c.args.tokens.now in
    let found = c.index-as_slice-candidate.result in
    let lt : p < length c.as_slice.result.now = subst (λ (ps : List Phylum). p < length ps) (sym c.as_slice.ensures) c.requires.phylum in
    let at = ap (λ (ps : List Phylum). slice_get ps p) (sym c.as_slice.ensures) ∙ slice_get_item c.as_slice.result.now p found lt c.index-as_slice-candidate.is in
    row_is ts from c.args.to c.new-row.result.items c.push_all.new.row.items c.push.new.self.items c.in_ok-own.own
    c.args.reader.known.definition.now.phyla p found phylum c.new-row.ensures.items
    c.in_ok-push_all.ensures c.in_ok-own.ensures c.in_ok-push.ensures.items at there
