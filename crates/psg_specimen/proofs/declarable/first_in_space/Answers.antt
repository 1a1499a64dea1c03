use Rattle.std.proofs.Common.{◌<◌, length, slice_get, sym, ap, ◌∙◌}
use Rattle.psg_terms.proofs.Lists.{each_at, got_some, got_none}
use Rattle.psg_grammar.specs.declared.types.Space.{Space}
use Rattle.psg_specimen.specs.Given.{has_given}
use Rattle.psg_specimen.proofs.DeclarableLaws.{space_found, no_space}
use Rattle.psg_specimen.proofs.declarable.first_in_space.Goals as goal

pub constructors_of-cons-requires : goal.constructors_of-cons-requires
constructors_of-cons-requires c =
    let def = c.args.definition.now in
    let at = ap (λ l. slice_get l c.args.space) (sym c.as_slice.ensures) ∙ got_some c.as_slice.result.now c.args.space c.get.result c.in-Some.found c.get.ensures.lookup c.in-Some.is in
    each_at (λ (e : Space). e.sort.0 < length def.signature.sorts) def.spaces c.requires.sound.space_sorts c.args.space c.in-Some.found.now at

pub returns-in-Some : goal.returns-in-Some
returns-in-Some c =
    let at = ap (λ l. slice_get l c.args.space) (sym c.as_slice.ensures) ∙ got_some c.as_slice.result.now c.args.space c.get.result c.in-Some.found c.get.ensures.lookup c.in-Some.is in
    space_found c.args.definition.now (has_given c.args.given.now) c.requires.given c.args.list c.args.space c.in-Some.found.now at c.constructors_of-cons.result.now c.constructors_of-cons.ensures c.first_missing.result c.first_missing.ensures

pub returns-in-None : goal.returns-in-None
returns-in-None c =
    let at = ap (λ l. slice_get l c.args.space) (sym c.as_slice.ensures) ∙ got_none c.as_slice.result.now c.args.space c.get.result c.get.ensures.lookup c.in-None.is in
    no_space c.args.definition.now (has_given c.args.given.now) c.requires.given c.args.list c.args.space at
