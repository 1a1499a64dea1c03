use Rattle.std.proofs.Common.{◌≡◌, ◌-◌, suc, get_or, sym, ◌∙◌, arith}
use Rattle.psg_terms.specs.Places.{first_with}
use Rattle.psg_terms.proofs.Knowing.{placed}
use Rattle.psg_terms.proofs.Tabled.{none_with, here_with}
use Rattle.psg_terms.proofs.known.find.Goals as goal

pub returns-then-first-eq0 : goal.returns-then-first-eq0
returns-then-first-eq0 c = none_with c.args.order.now c.args.sort.0 c.args.number (sym (c.requires c.args.number c.if-near-table.true) ∙ c.if-first-eq0.true)

pub returns-then-is_of_sort : goal.returns-then-is_of_sort
returns-then-is_of_sort c =
    let (k, at, s) = c.is_of_sort.ensures c.if-is_of_sort.true in
    let r = c.requires c.args.number c.if-near-table.true in
    let z = c.if-first-eq0.false in
    let e : first_with c.args.number c.args.order.now ≡ suc (get_or c.args.table.now c.args.number 0 - 1) = grind arith in
    here_with c.args.order.now c.args.sort.0 c.args.number (get_or c.args.table.now c.args.number 0 - 1) k e at s

pub returns : goal.returns
returns c = placed (record { sort = c.args.sort; number = c.args.number }) c.args.order.now c.search-found.result c.search-found.ensures
