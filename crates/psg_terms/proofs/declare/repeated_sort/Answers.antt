use Rattle.std.proofs.Common.{ap, sym, subst, ◌∙◌, arith}
use Rattle.psg_terms.specs.Declarations.{sort_names}
use Rattle.psg_terms.specs.Numbered.{Knows}
use Rattle.psg_terms.specs.declared.declare.SortDecl.{SortDecl}
use Rattle.std.proofs.lemmas.List.{take_all}
use Rattle.psg_terms.proofs.DeclareLaws.{sort_names-at, sort_names-length, knows-among}
use Rattle.psg_terms.proofs.DeclareSteps.{repeat-found, distinct-step, knows-step}
use Rattle.psg_terms.proofs.declare.repeated_sort.Goals as goal

pub returns-then-contains_key-clause-repeat : goal.returns-then-contains_key-clause-repeat
returns-then-contains_key-clause-repeat c = λ _.
    let names = sort_names c.args.sorts.now in (
      c.index-sorts-i.result.name,
      repeat-found names c.loop-i.i c.index-sorts-i.result.name c.as_str-name.result.now c.loop-i.numbers c.contains_key.result
          (sort_names-at c.args.sorts.now c.loop-i.i c.index-sorts-i.result c.loop-i-test.true c.index-sorts-i.is)
          c.loop-i.invariant.0 (λ n. knows-among _ c.loop-i.numbers n c.loop-i.invariant.1) (c.as_str-name.ensures ∙ ap (λ (d : SortDecl). d.name) (sym c.index-sorts-i.is)) c.contains_key.ensures c.if-contains_key.true,
    )

pub loop-i-preserved : goal.loop-i-preserved
loop-i-preserved c =
    let names = sort_names c.args.sorts.now in
    let at = sort_names-at c.args.sorts.now c.loop-i.i c.index-sorts-i.result c.loop-i-test.true c.index-sorts-i.is in (
      distinct-step names c.loop-i.i c.index-sorts-i.result.name c.as_str-name.result.now c.loop-i.numbers c.contains_key.result at
          c.loop-i.invariant.0 (λ n. knows-among _ c.loop-i.numbers n c.loop-i.invariant.1) (c.as_str-name.ensures ∙ ap (λ (d : SortDecl). d.name) (sym c.index-sorts-i.is)) c.contains_key.ensures c.if-contains_key.false,
      knows-step names c.loop-i.i c.index-sorts-i.result.name c.as_str-name.result.now c.loop-i.numbers c.insert.new.self at
          c.loop-i.invariant.1 (c.as_str-name.ensures ∙ ap (λ (d : SortDecl). d.name) (sym c.index-sorts-i.is)) c.in_ok-insert.ensures.updates,
    )

pub returns-clause-none : goal.returns-clause-none
returns-clause-none c = λ _.
    let names = sort_names c.args.sorts.now in
    let l = sort_names-length c.args.sorts.now in
    subst (λ xs. Knows xs c.loop-i.numbers) (take_all c.loop-i.i names (omega arith)) c.loop-i.invariant.1
