use Rattle.std.proofs.Common.{◌≡◌, ◌+◌, false, length, ap, sym, ◌∙◌, subst, arith}
use Rattle.psg_terms.specs.Canonical.{Variable, is_noted, noted}
use Rattle.psg_terms.specs.Renaming.{keys}
use Rattle.psg_terms.specs.Places.{IsTable}
use Rattle.psg_terms.proofs.Tabled.{noted_last, table_grows}
use Rattle.psg_terms.proofs.known.Known.note.Goals as goal

pub find-found-requires : goal.find-found-requires
find-found-requires c = subst (λ t. IsTable t c.as_slice.result.now) (sym c.as_slice-2.ensures.value) (subst (λ o. IsTable c.self.inside.table.items o) (sym c.as_slice.ensures.value) c.self.invariant)

pub invariant_of-self-in-None : goal.invariant_of-self-in-None
invariant_of-self-in-None c =
    let order = c.self.inside.order in
    let count : c.len-count.result + 1 ≡ length order.items + 1 = omega (arith, c.len-count.ensures, order.ok.0) in
    table_grows c.self.inside.table.items c.mark.new.table.items order.items c.push.new.self.items (record { sort = c.args.sort; number = c.args.number }) (c.len-count.result + 1)
    c.self.invariant c.in_ok-push-in-None.ensures.items count c.mark.ensures

pub returns-in_ok-push-in-None-clause-noted : goal.returns-in_ok-push-in-None-clause-noted
returns-in_ok-push-in-None-clause-noted c =
    let x : Variable = (c.args.sort.0, c.args.number) in
    let order = c.self.inside.order.items in
    let new : is_noted x (keys order) ≡ false = ap (λ o. is_noted x (keys o)) (sym c.as_slice.ensures.value) ∙ c.in-None.ensures in
    (noted_last order c.push.new.self.items (record { sort = c.args.sort; number = c.args.number }) c.in_ok-push-in-None.ensures.items new).0 ∙ ap (λ xs. noted xs x) c.self.view_is

pub returns-in_ok-push-in-None-clause-place : goal.returns-in_ok-push-in-None-clause-place
returns-in_ok-push-in-None-clause-place c =
    let x : Variable = (c.args.sort.0, c.args.number) in
    let order = c.self.inside.order in
    let new : is_noted x (keys order.items) ≡ false = ap (λ o. is_noted x (keys o)) (sym c.as_slice.ensures.value) ∙ c.in-None.ensures in
    let count : c.len-count.result ≡ length order.items = omega (arith, c.len-count.ensures, order.ok.0) in
    count ∙ (noted_last order.items c.push.new.self.items (record { sort = c.args.sort; number = c.args.number }) c.in_ok-push-in-None.ensures.items new).1
