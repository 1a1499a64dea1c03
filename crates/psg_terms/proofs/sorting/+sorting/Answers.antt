use Rattle.std.proofs.Common.{sym, ap, subst, ◌∙◌, get_or, arith}
use Rattle.std.proofs.lemmas.Bool.{false≢true}
use Rattle.psg_terms.specs.Shapes.{term_of}
use Rattle.psg_terms.specs.Sizes.{size, sizes}
use Rattle.psg_terms.specs.Signature.{HasSort, HaveSorts}
use Rattle.psg_terms.specs.Kept.{numbers_of}
use Rattle.psg_terms.proofs.Nodes.{size-con}
use Rattle.psg_terms.proofs.Weights.{sizes-at}
use Rattle.psg_terms.proofs.SortTests.{symbol_past, symbol_other, arguments_decide, lengths_apart, have-at, have-step}
use Rattle.psg_terms.proofs.sorting.+sorting.Goals as goal

pub has_sort-have_sorts-fitting-requires : goal.has_sort-have_sorts-fitting-requires
has_sort-have_sorts-fitting-requires t c =
    let s = size-con c.args.term.now c.in-Con.con.0 c.in-Con.args (sym c.node.ensures ∙ ap term_of c.in-Con.is) in
    let d = ap sizes c.as_slice.ensures in
    (omega arith, tt)

pub have_sorts-has_sort-requires : goal.have_sorts-has_sort-requires
have_sorts-has_sort-requires t c =
    let z = sizes-at c.args.row.now c.loop-i.i c.index-row-i.result c.loop-i-test.true in
    let r = ap size c.index-row-i.is in
    (omega arith, tt)

pub have_sorts-loop-i-init : goal.have_sorts-loop-i-init
have_sorts-loop-i-init t c = (c.if-row-sorts.false, tt)

pub has_sort-returns-then-con-constructors : goal.has_sort-returns-then-con-constructors
has_sort-returns-then-con-constructors t c = (
  λ h. absurd (false≢true h),
  λ h. absurd (symbol_past c.args.sig.now c.args.term.now c.in-Con.con.0 c.in-Con.args c.args.sort.0 (sym c.node.ensures ∙ ap term_of c.in-Con.is)
      (let n = c.constructors.ensures in let le = c.if-con-constructors.true in omega arith) h),
)

pub has_sort-returns-then-made-sort : goal.has_sort-returns-then-made-sort
has_sort-returns-then-made-sort t c = (
  λ h. absurd (false≢true h),
  λ h. absurd (symbol_other c.args.sig.now c.args.term.now c.in-Con.con.0 c.in-Con.args c.args.sort.0 c.sort_of-made.result.0 (sym c.node.ensures ∙ ap term_of c.in-Con.is) c.sort_of-made.ensures c.if-made-sort.true h),
)

pub has_sort-returns-else-made-sort : goal.has_sort-returns-else-made-sort
has_sort-returns-else-made-sort t c =
    let h = c.have_sorts-fitting.ensures in
    arguments_decide c.args.sig.now c.args.term.now c.in-Con.con.0 c.in-Con.args c.args.sort.0 c.sort_of-made.result.0 c.constructor-constructor.result.now.name (numbers_of c.constructor-constructor.result.now.args) c.have_sorts-fitting.result
    (sym c.node.ensures ∙ ap term_of c.in-Con.is) c.sort_of-made.ensures c.if-made-sort.false c.constructor-constructor.ensures (
      λ y. subst (λ xs. HaveSorts c.args.sig.now xs (numbers_of c.constructor-constructor.result.now.args)) c.as_slice.ensures
          (subst (λ ss. HaveSorts c.args.sig.now c.as_slice.result.now (numbers_of ss)) c.as_slice-in-Con.ensures (h.0 y)),
      λ k. h.1 (subst (λ ss. HaveSorts c.args.sig.now c.as_slice.result.now (numbers_of ss)) (sym c.as_slice-in-Con.ensures)
          (subst (λ xs. HaveSorts c.args.sig.now xs (numbers_of c.constructor-constructor.result.now.args)) (sym c.as_slice.ensures) k)),
    )

pub have_sorts-returns-then-row-sorts : goal.have_sorts-returns-then-row-sorts
have_sorts-returns-then-row-sorts t c = (λ h. absurd (false≢true h), λ h. absurd (lengths_apart c.args.sig.now c.args.row.now c.args.sorts.now c.if-row-sorts.true h))

pub have_sorts-returns-then-not-has_sort : goal.have_sorts-returns-then-not-has_sort
have_sorts-returns-then-not-has_sort t c = (
  λ h. absurd (false≢true h),
  λ h. absurd (false≢true (sym c.if-not-has_sort.true ∙ c.has_sort.ensures.1
      (subst (λ x. HasSort c.args.sig.now x (get_or c.args.sorts.now c.loop-i.i (record { 0 = 0 })).0) (sym c.index-row-i.is) (have-at c.args.sig.now c.args.row.now c.args.sorts.now c.loop-i.i c.index-row-i.result (record { 0 = 0 }) h c.loop-i-test.true)))),
)

pub have_sorts-loop-i-preserved : goal.have_sorts-loop-i-preserved
have_sorts-loop-i-preserved t c =
    let l = c.loop-i.invariant.0 in (
      l,
      have-step c.args.sig.now c.args.row.now c.args.sorts.now c.loop-i.i c.index-row-i.result (record { 0 = 0 }) c.loop-i.invariant.1 (c.has_sort.ensures.0 c.if-not-has_sort.false) c.loop-i-test.true (omega arith) c.index-row-i.is,
    )
