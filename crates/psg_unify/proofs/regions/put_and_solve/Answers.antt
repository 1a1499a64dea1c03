use Rattle.std.proofs.Common.{ℕ, ◌<◌, ◌-◌, ◌++◌, All, length, reverse, sym, ap₂, ◌∙◌, subst}
use Rattle.psg_pool.specs.declared.cells.CellId.{CellId}
use Rattle.psg_unify.specs.Pairs.{Pair}
use Rattle.psg_unify.specs.Circles.{FallsFrom}
use Rattle.psg_unify.specs.Asking.{AskFor}
use Rattle.psg_unify.proofs.VariablesPut.{longer_both}
use Rattle.psg_unify.proofs.Solution.{extended_longer, extended_bound, pairs_within, can_solve, clash_none, going_begins, put_count, closed_both, solved_state, circle_none, solved_in}
use Rattle.psg_unify.proofs.regions.put_and_solve.Goals as goal

pub put_row-requires-clause-terms : goal.put_row-requires-clause-terms
put_row-requires-clause-terms c = (c.requires.joinable.left_sorts, c.requires.joinable.left_sorted)

pub equations_of-requires : goal.equations_of-requires
equations_of-requires c =
    subst (λ l. All (λ (q : Pair). (q.0 < length l) × (q.1 < length c.as_slice-2.result.now)) c.args.pairs.now) (sym c.as_slice.ensures.value)
    (subst (λ r. All (λ (q : Pair). (q.0 < length c.in_ok-lefts.lefts.items) × (q.1 < length r)) c.args.pairs.now) (sym c.as_slice-2.ensures.value)
    (pairs_within c.args.sig.now c.args.left.now c.args.right.now c.args.pairs.now c.args.pool.now c.put_row.new.pool c.put_row-2.new.pool c.in_ok-lefts.lefts.items c.in_ok-rights.rights.items
    (record { signature = c.sound.ensures; joinable = c.requires.joinable; sound = c.mark-mark.ensures.sound; fits = c.requires.fits; one = c.in_ok-lefts.ensures.put; two = c.in_ok-rights.ensures.put })))

pub returns-in_err-classes-clause-extended : goal.returns-in_err-classes-clause-extended
returns-in_err-classes-clause-extended c =
    extended_longer c.args.pool.now c.put_row-2.new.pool (longer_both c.args.pool.now c.put_row.new.pool c.put_row-2.new.pool c.put_row.ensures.longer c.put_row-2.ensures.longer)

pub solve-requires-clause-solving : goal.solve-requires-clause-solving
solve-requires-clause-solving c =
    can_solve c.args.sig.now c.args.left.now c.args.right.now c.args.pairs.now c.args.pool.now c.put_row.new.pool c.put_row-2.new.pool c.in_ok-lefts.lefts.items c.in_ok-rights.rights.items
    (record { signature = c.sound.ensures; joinable = c.requires.joinable; sound = c.mark-mark.ensures.sound; fits = c.requires.fits; one = c.in_ok-lefts.ensures.put; two = c.in_ok-rights.ensures.put })
    (reverse c.in_ok-equations.equations.items) c.in_ok-classes.classes
    (subst (λ l. AskFor l c.in_ok-rights.rights.items c.args.pairs.now (reverse c.in_ok-equations.equations.items)) c.as_slice.ensures.value
    (subst (λ r. AskFor c.as_slice.result.now r c.args.pairs.now (reverse c.in_ok-equations.equations.items)) c.as_slice-2.ensures.value c.in_ok-equations.ensures))
    c.in_ok-classes.ensures.none

pub solve-requires-clause-going : goal.solve-requires-clause-going
solve-requires-clause-going c =
    going_begins c.args.sig.now c.args.left.now c.args.right.now c.args.pairs.now c.args.pool.now c.put_row.new.pool c.put_row-2.new.pool c.in_ok-lefts.lefts.items c.in_ok-rights.rights.items
    (record { signature = c.sound.ensures; joinable = c.requires.joinable; sound = c.mark-mark.ensures.sound; fits = c.requires.fits; one = c.in_ok-lefts.ensures.put; two = c.in_ok-rights.ensures.put })
    (reverse c.in_ok-equations.equations.items) c.in_ok-classes.classes (c.count.result - c.count-start.result)
    (subst (λ l. AskFor l c.in_ok-rights.rights.items c.args.pairs.now (reverse c.in_ok-equations.equations.items)) c.as_slice.ensures.value
    (subst (λ r. AskFor c.as_slice.result.now r c.args.pairs.now (reverse c.in_ok-equations.equations.items)) c.as_slice-2.ensures.value c.in_ok-equations.ensures))
    (c.in_ok-classes.ensures.base ∙ c.count-start.ensures) c.in_ok-classes.ensures.next c.in_ok-classes.ensures.heights
    (put_count c.args.pool.now c.put_row-2.new.pool c.count-start.result c.count.result c.count-start.ensures c.count.ensures
    (longer_both c.args.pool.now c.put_row.new.pool c.put_row-2.new.pool c.put_row.ensures.longer c.put_row-2.ensures.longer))

pub is_falling-requires : goal.is_falling-requires
is_falling-requires c =
    let s = solved_state c.args.sig.now c.args.left.now c.args.right.now c.args.pairs.now c.args.pool.now c.put_row.new.pool c.put_row-2.new.pool c.in_ok-lefts.lefts.items c.in_ok-rights.rights.items
    (record { signature = c.sound.ensures; joinable = c.requires.joinable; sound = c.mark-mark.ensures.sound; fits = c.requires.fits; one = c.in_ok-lefts.ensures.put; two = c.in_ok-rights.ensures.put })
    (reverse c.in_ok-equations.equations.items) c.in_ok-classes.classes c.solve.new.classes c.solve.new.pool
    (subst (λ l. AskFor l c.in_ok-rights.rights.items c.args.pairs.now (reverse c.in_ok-equations.equations.items)) c.as_slice.ensures.value
    (subst (λ r. AskFor c.as_slice.result.now r c.args.pairs.now (reverse c.in_ok-equations.equations.items)) c.as_slice-2.ensures.value c.in_ok-equations.ensures))
    c.in_ok-classes.ensures.none (c.in_ok-classes.ensures.base ∙ c.count-start.ensures) (c.in_ok-solve.ensures.yes c.if-not-branch.false) in
    let k = closed_both c.args.sig.now c.args.left.now c.args.right.now c.args.pairs.now c.args.pool.now c.put_row.new.pool c.put_row-2.new.pool c.solve.new.pool c.in_ok-lefts.lefts.items c.in_ok-rights.rights.items
    (record { signature = c.sound.ensures; joinable = c.requires.joinable; sound = c.mark-mark.ensures.sound; fits = c.requires.fits; one = c.in_ok-lefts.ensures.put; two = c.in_ok-rights.ensures.put })
    (reverse c.in_ok-equations.equations.items)
    (subst (λ l. AskFor l c.in_ok-rights.rights.items c.args.pairs.now (reverse c.in_ok-equations.equations.items)) c.as_slice.ensures.value
    (subst (λ r. AskFor c.as_slice.result.now r c.args.pairs.now (reverse c.in_ok-equations.equations.items)) c.as_slice-2.ensures.value c.in_ok-equations.ensures))
    c.solve.new.classes s.0 c.in_ok-solve.ensures.more c.mark-solved.ensures.sound s.1 c.count-start.result c.count-start.ensures in
    record { base = k.0; closed = k.1 }

pub returns-then-not-branch-clause-none : goal.returns-then-not-branch-clause-none
returns-then-not-branch-clause-none c =
    clash_none c.args.sig.now c.args.left.now c.args.right.now c.args.pairs.now c.args.pool.now c.put_row.new.pool c.put_row-2.new.pool c.in_ok-lefts.lefts.items c.in_ok-rights.rights.items
    (record { signature = c.sound.ensures; joinable = c.requires.joinable; sound = c.mark-mark.ensures.sound; fits = c.requires.fits; one = c.in_ok-lefts.ensures.put; two = c.in_ok-rights.ensures.put })
    (reverse c.in_ok-equations.equations.items) c.in_ok-classes.classes
    (subst (λ l. AskFor l c.in_ok-rights.rights.items c.args.pairs.now (reverse c.in_ok-equations.equations.items)) c.as_slice.ensures.value
    (subst (λ r. AskFor c.as_slice.result.now r c.args.pairs.now (reverse c.in_ok-equations.equations.items)) c.as_slice-2.ensures.value c.in_ok-equations.ensures))
    c.in_ok-classes.ensures.none (c.in_ok-solve.ensures.no c.if-not-branch.true)

pub returns-then-not-branch-2-clause-none : goal.returns-then-not-branch-2-clause-none
returns-then-not-branch-2-clause-none c =
    let s = solved_state c.args.sig.now c.args.left.now c.args.right.now c.args.pairs.now c.args.pool.now c.put_row.new.pool c.put_row-2.new.pool c.in_ok-lefts.lefts.items c.in_ok-rights.rights.items
    (record { signature = c.sound.ensures; joinable = c.requires.joinable; sound = c.mark-mark.ensures.sound; fits = c.requires.fits; one = c.in_ok-lefts.ensures.put; two = c.in_ok-rights.ensures.put })
    (reverse c.in_ok-equations.equations.items) c.in_ok-classes.classes c.solve.new.classes c.solve.new.pool
    (subst (λ l. AskFor l c.in_ok-rights.rights.items c.args.pairs.now (reverse c.in_ok-equations.equations.items)) c.as_slice.ensures.value
    (subst (λ r. AskFor c.as_slice.result.now r c.args.pairs.now (reverse c.in_ok-equations.equations.items)) c.as_slice-2.ensures.value c.in_ok-equations.ensures))
    c.in_ok-classes.ensures.none (c.in_ok-classes.ensures.base ∙ c.count-start.ensures) (c.in_ok-solve.ensures.yes c.if-not-branch.false) in
    circle_none c.args.sig.now c.args.left.now c.args.right.now c.args.pairs.now c.args.pool.now c.put_row.new.pool c.put_row-2.new.pool c.solve.new.pool c.in_ok-lefts.lefts.items c.in_ok-rights.rights.items
    (record { signature = c.sound.ensures; joinable = c.requires.joinable; sound = c.mark-mark.ensures.sound; fits = c.requires.fits; one = c.in_ok-lefts.ensures.put; two = c.in_ok-rights.ensures.put })
    (reverse c.in_ok-equations.equations.items)
    (subst (λ l. AskFor l c.in_ok-rights.rights.items c.args.pairs.now (reverse c.in_ok-equations.equations.items)) c.as_slice.ensures.value
    (subst (λ r. AskFor c.as_slice.result.now r c.args.pairs.now (reverse c.in_ok-equations.equations.items)) c.as_slice-2.ensures.value c.in_ok-equations.ensures))
    c.solve.new.classes s.0 c.in_ok-solve.ensures.more c.mark-solved.ensures.sound s.1 (c.in_ok-is_falling.ensures.no c.if-not-branch-2.true)

pub returns-clause-some : goal.returns-clause-some
returns-clause-some c =
    let s = solved_state c.args.sig.now c.args.left.now c.args.right.now c.args.pairs.now c.args.pool.now c.put_row.new.pool c.put_row-2.new.pool c.in_ok-lefts.lefts.items c.in_ok-rights.rights.items
    (record { signature = c.sound.ensures; joinable = c.requires.joinable; sound = c.mark-mark.ensures.sound; fits = c.requires.fits; one = c.in_ok-lefts.ensures.put; two = c.in_ok-rights.ensures.put })
    (reverse c.in_ok-equations.equations.items) c.in_ok-classes.classes c.solve.new.classes c.solve.new.pool
    (subst (λ l. AskFor l c.in_ok-rights.rights.items c.args.pairs.now (reverse c.in_ok-equations.equations.items)) c.as_slice.ensures.value
    (subst (λ r. AskFor c.as_slice.result.now r c.args.pairs.now (reverse c.in_ok-equations.equations.items)) c.as_slice-2.ensures.value c.in_ok-equations.ensures))
    c.in_ok-classes.ensures.none (c.in_ok-classes.ensures.base ∙ c.count-start.ensures) (c.in_ok-solve.ensures.yes c.if-not-branch.false) in
    let h = subst (λ n. (height : CellId → ℕ) × FallsFrom c.solve.new.pool n height) c.count-start.ensures (c.in_ok-is_falling.ensures.yes c.if-not-branch-2.false) in
    solved_in c.args.sig.now c.args.left.now c.args.right.now c.args.pairs.now c.args.pool.now c.put_row.new.pool c.put_row-2.new.pool c.solve.new.pool c.in_ok-lefts.lefts.items c.in_ok-rights.rights.items
    (record { signature = c.sound.ensures; joinable = c.requires.joinable; sound = c.mark-mark.ensures.sound; fits = c.requires.fits; one = c.in_ok-lefts.ensures.put; two = c.in_ok-rights.ensures.put })
    (reverse c.in_ok-equations.equations.items)
    (subst (λ l. AskFor l c.in_ok-rights.rights.items c.args.pairs.now (reverse c.in_ok-equations.equations.items)) c.as_slice.ensures.value
    (subst (λ r. AskFor c.as_slice.result.now r c.args.pairs.now (reverse c.in_ok-equations.equations.items)) c.as_slice-2.ensures.value c.in_ok-equations.ensures))
    c.solve.new.classes s.0 c.in_ok-solve.ensures.more c.mark-solved.ensures.sound s.1 h.0 h.1 c.in_ok-cells.cells.items
    (c.in_ok-cells.ensures ∙ ap₂ (λ a b. a ++ b) c.as_slice-3.ensures.value c.as_slice-4.ensures.value)

pub returns-in_err-solve-clause-extended : goal.returns-in_err-solve-clause-extended
returns-in_err-solve-clause-extended c =
    extended_bound c.args.pool.now c.put_row-2.new.pool c.solve.new.pool
    (longer_both c.args.pool.now c.put_row.new.pool c.put_row-2.new.pool c.put_row.ensures.longer c.put_row-2.ensures.longer) c.solve.ensures.more

pub returns-then-not-branch-clause-extended : goal.returns-then-not-branch-clause-extended
returns-then-not-branch-clause-extended c =
    extended_bound c.args.pool.now c.put_row-2.new.pool c.solve.new.pool
    (longer_both c.args.pool.now c.put_row.new.pool c.put_row-2.new.pool c.put_row.ensures.longer c.put_row-2.ensures.longer) c.solve.ensures.more

pub returns-in_err-is_falling-clause-extended : goal.returns-in_err-is_falling-clause-extended
returns-in_err-is_falling-clause-extended c =
    extended_bound c.args.pool.now c.put_row-2.new.pool c.solve.new.pool
    (longer_both c.args.pool.now c.put_row.new.pool c.put_row-2.new.pool c.put_row.ensures.longer c.put_row-2.ensures.longer) c.solve.ensures.more

pub returns-then-not-branch-2-clause-extended : goal.returns-then-not-branch-2-clause-extended
returns-then-not-branch-2-clause-extended c =
    extended_bound c.args.pool.now c.put_row-2.new.pool c.solve.new.pool
    (longer_both c.args.pool.now c.put_row.new.pool c.put_row-2.new.pool c.put_row.ensures.longer c.put_row-2.ensures.longer) c.solve.ensures.more

pub returns-in_err-cells-clause-extended : goal.returns-in_err-cells-clause-extended
returns-in_err-cells-clause-extended c =
    extended_bound c.args.pool.now c.put_row-2.new.pool c.solve.new.pool
    (longer_both c.args.pool.now c.put_row.new.pool c.put_row-2.new.pool c.put_row.ensures.longer c.put_row-2.ensures.longer) c.solve.ensures.more

pub returns-clause-extended : goal.returns-clause-extended
returns-clause-extended c =
    extended_bound c.args.pool.now c.put_row-2.new.pool c.solve.new.pool
    (longer_both c.args.pool.now c.put_row.new.pool c.put_row-2.new.pool c.put_row.ensures.longer c.put_row-2.ensures.longer) c.solve.ensures.more
