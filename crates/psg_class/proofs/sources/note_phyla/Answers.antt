use Rattle.std.proofs.Common.{◌+◌, Some, subst, sym, ap, ◌∙◌, arith}
use Rattle.std.proofs.lemmas.Option.{slice_get-get_or}
use Rattle.psg_class.specs.Sources.{Adds, If, NoLink, PhylumFactAt}
use Rattle.psg_class.proofs.WholeDraft.{facts_more, phylum_at}
use Rattle.psg_class.proofs.sources.note_phyla.Goals as goal

pub loop-number-preserved : goal.loop-number-preserved
loop-number-preserved c =
    let rows = c.args.rows.now in
    let n = c.loop-number.number in
    let holes = c.args.numbers.holes.now in
    facts_more (PhylumFactAt rows c.args.numbers.opening c.args.numbers.closing c.args.phyla.now holes) n c.args.draft.now c.loop-number.draft c.put_if-in-loop-number-2.new.self c.loop-number.invariant
    (phylum_at rows c.args.numbers.opening c.args.numbers.closing c.args.phyla.now holes n c.index-phyla-number.result _ c.loop-number.draft c.put_if.new.self c.put_if-in-loop-number.new.self c.put_if-in-loop-number-2.new.self
    (slice_get-get_or c.args.phyla.now n c.index-phyla-number.result c.loop-number-test.true ∙ ap Some (sym c.index-phyla-number.is))
    (slice_get-get_or holes n _ (let e = c.requires.holes in let h = c.loop-number-test.true in omega arith)) c.put_if.ensures
    (subst (λ k. Adds (If k.bracketed n c.args.numbers.opening) NoLink c.put_if.new.self c.put_if-in-loop-number.new.self) (sym c.index-phyla-number.is) c.put_if-in-loop-number.ensures)
    (subst (λ k. Adds (If k.bracketed (rows.kinds + n) c.args.numbers.closing) NoLink c.put_if-in-loop-number.new.self c.put_if-in-loop-number-2.new.self) (sym c.index-phyla-number.is) c.put_if-in-loop-number-2.ensures))
