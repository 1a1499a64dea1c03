use Rattle.std.proofs.Common.{◌∙◌, ◌++◌, List, ap}
use Rattle.std.proofs.lemmas.List.{take_rest}
use Rattle.psg_lexis.specs.declared.token.Spanned.{Spanned}
use Rattle.psg_terms.proofs.Lists.{slice_get_some}
use Rattle.psg_recover.proofs.ReaderLaws.{whole_row}
use Rattle.psg_recover.proofs.candidates.replaced.Goals as goal

pub returns : goal.returns
returns c =
    let def = c.args.reader.known.definition.now in
    let (phylum, at) = slice_get_some def.phyla c.args.at.phylum c.requires.phylum in
    record {
      phylum = phylum;
      there = at;
      row_is = whole_row c.args.tokens.now c.args.at.from c.args.at.to phylum c.in_ok-row.row.items c.push_all.new.row.items
          (c.in_ok-row.ensures phylum at) (c.in_ok-push_all.ensures ∙ ap (λ (l : List Spanned). c.in_ok-row.row.items ++ l) (take_rest c.args.tokens.now c.args.at.to));
    }
