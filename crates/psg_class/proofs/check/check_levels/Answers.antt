use Rattle.std.proofs.Common.{inr, ◌<◌, length, Some, None, sym, subst, arith}
use Rattle.std.proofs.lemmas.Option.{slice_get_within}
use Rattle.psg_class.specs.Forms.{AreInPhyla}
use Rattle.psg_class.proofs.ReadLaws.{bare_of, mixed_of, in_phyla, have_levels, phylum_at}
use Rattle.psg_class.proofs.check.check_levels.Goals as goal

pub first_bare-requires-clause-inside : goal.first_bare-requires-clause-inside
first_bare-requires-clause-inside c = let (words, read) = c.requires.shapes in
    subst (λ p. AreInPhyla (length p) c.args.shapes.now) (sym c.as_slice-phyla.ensures) (in_phyla c.args.definition.now words c.args.shapes.now read)

pub first_bare-requires-clause-levels : goal.first_bare-requires-clause-levels
first_bare-requires-clause-levels c = let (words, read) = c.requires.shapes in have_levels c.args.definition.now words c.args.shapes.now read

pub first_mixed-requires-clause-inside : goal.first_mixed-requires-clause-inside
first_mixed-requires-clause-inside c = let (words, read) = c.requires.shapes in
    subst (λ p. AreInPhyla (length p) c.args.shapes.now) (sym c.as_slice-phyla.ensures) (in_phyla c.args.definition.now words c.args.shapes.now read)

pub first_mixed-requires-clause-levels : goal.first_mixed-requires-clause-levels
first_mixed-requires-clause-levels c = let (words, read) = c.requires.shapes in have_levels c.args.definition.now words c.args.shapes.now read

pub overflow_cast-result : goal.overflow_cast-result
overflow_cast-result c =
    let (words, read) = c.requires.shapes in
    let f = bare_of c.args.definition.now words c.args.shapes.now read c.as_slice-phyla.result.now c.as_slice-phyla.ensures c.in_ok-phylum.field-0 c.in_ok-phylum.ensures (Some c.in-Some.phylum) c.in-Some.is in
    let h = slice_get_within c.args.definition.now.phyla c.in-Some.phylum f.0.phylum f.0.found in let k = read.sound.few_phyla in omega (arith, h, k)

pub returns-in-Some-clause-refusal : goal.returns-in-Some-clause-refusal
returns-in-Some-clause-refusal c =
    let (words, read) = c.requires.shapes in
    let f = bare_of c.args.definition.now words c.args.shapes.now read c.as_slice-phyla.result.now c.as_slice-phyla.ensures c.in_ok-phylum.field-0 c.in_ok-phylum.ensures (Some c.in-Some.phylum) c.in-Some.is in
    inr ((c.requires.before, f), slice_get_within c.args.definition.now.phyla c.in-Some.phylum f.0.phylum f.0.found)

pub overflow_cast-result-in-Some-2 : goal.overflow_cast-result-in-Some-2
overflow_cast-result-in-Some-2 c =
    let (words, read) = c.requires.shapes in
    let f = mixed_of c.args.definition.now words c.args.shapes.now read c.in_ok-phylum-2.field-0 c.in_ok-phylum-2.ensures (Some (c.in-Some-2.phylum, c.in-Some-2.level)) c.in-Some-2.is in
    let h = phylum_at c.args.definition.now words c.args.shapes.now read f.1.0.n f.1.0.o f.1.0.found in let e = f.1.0.of_phylum in let k = read.sound.few_phyla in omega (arith, h, k, e)

pub returns-in-Some-2-clause-refusal : goal.returns-in-Some-2-clause-refusal
returns-in-Some-2-clause-refusal c =
    let (words, read) = c.requires.shapes in
    let f = mixed_of c.args.definition.now words c.args.shapes.now read c.in_ok-phylum-2.field-0 c.in_ok-phylum-2.ensures (Some (c.in-Some-2.phylum, c.in-Some-2.level)) c.in-Some-2.is in
    let none = bare_of c.args.definition.now words c.args.shapes.now read c.as_slice-phyla.result.now c.as_slice-phyla.ensures c.in_ok-phylum.field-0 c.in_ok-phylum.ensures None c.in_default.is in
    inr (((c.requires.before, none), f.0, f.1), subst (λ p. p < length c.args.definition.now.phyla) f.1.0.of_phylum (phylum_at c.args.definition.now words c.args.shapes.now read f.1.0.n f.1.0.o f.1.0.found))

pub returns-clause-holds : goal.returns-clause-holds
returns-clause-holds c =
    let (words, read) = c.requires.shapes in
    let none = bare_of c.args.definition.now words c.args.shapes.now read c.as_slice-phyla.result.now c.as_slice-phyla.ensures c.in_ok-phylum.field-0 c.in_ok-phylum.ensures None c.in_default.is in
    ((c.requires.before, none), mixed_of c.args.definition.now words c.args.shapes.now read c.in_ok-phylum-2.field-0 c.in_ok-phylum-2.ensures None c.in_default-2.is)
