use Rattle.std.proofs.Common.{◌≡◌, Some, slice_get, sym, ap, ◌∙◌, true≢false, arith}
use Rattle.std.proofs.lemmas.Option.{slice_get_within, slice_get-get_or}
use Rattle.psg_terms.proofs.Lists.{slice_get_once}
use Rattle.psg_grammar.specs.declared.types.Phylum.{Phylum}
use Rattle.psg_class.specs.Grids.{is_set}
use Rattle.psg_class.specs.Forms.{LacksBracket}
use Rattle.psg_class.proofs.FormCells.{none_more}
use Rattle.psg_class.proofs.forms.lowest_bare.Goals as goal
use Rattle.psg_class.proofs.forms.lowest_bare.Goals.{else-not-phyla-phylum-via-then-not-phyla-phylum+else-is_below, else-not-phyla-phylum-via-else-not-phyla-phylum}

pub loop-phylum-preserved : goal.loop-phylum-preserved
loop-phylum-preserved c = none_more (LacksBracket c.args.phyla.now (is_set c.args.bound.now) (is_set c.args.asked.now)) c.loop-phylum.phylum c.loop-phylum.invariant (λ l.
    let at : slice_get c.args.phyla.now c.loop-phylum.phylum ≡ Some c.index-phyla-phylum.result = slice_get-get_or c.args.phyla.now c.loop-phylum.phylum c.index-phyla-phylum.result c.loop-phylum-test.true ∙ ap Some (sym c.index-phyla-phylum.is) in
    let same : l.phylum ≡ c.index-phyla-phylum.result = slice_get_once c.args.phyla.now c.loop-phylum.phylum l.phylum c.index-phyla-phylum.result l.found at in
    elim c.else-not-phyla-phylum.branch [
      | else-not-phyla-phylum-via-then-not-phyla-phylum+else-is_below w ↦ true≢false (sym (w.is_below.ensures.1 l.apart) ∙ w.if-is_below.false)
      | else-not-phyla-phylum-via-else-not-phyla-phylum w ↦ true≢false (sym w.if-not-phyla-phylum.false ∙ ap (λ (p : Phylum). p.bracketed) (sym c.index-phyla-phylum.is) ∙ ap (λ (p : Phylum). p.bracketed) (sym same) ∙ l.bare)
    ])

pub returns : goal.returns
returns c = λ n l. c.loop-phylum.invariant n (let h = slice_get_within c.args.phyla.now n l.phylum l.found in omega arith) l
