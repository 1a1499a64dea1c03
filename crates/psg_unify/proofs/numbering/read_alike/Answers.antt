use Rattle.std.proofs.Common.{◌≡◌, ◌∷◌, [], ◌++◌, map, reverse, Some, slice_get, ap, sym, ◌∙◌, subst}
use Rattle.psg_pool.specs.declared.cells.CellId.{CellId}
use Rattle.psg_unify.specs.declared.walking.Item.TheVariants.{Visit}
use Rattle.psg_unify.specs.Filling.{IsFilled}
use Rattle.psg_unify.proofs.NumberSteps.{two_begin, two_end, alike}
use Rattle.psg_unify.proofs.numbering.read_alike.Goals as goal

pub number_all-requires-clause-filling : goal.number_all-requires-clause-filling
number_all-requires-clause-filling c = (
  c.args.a ∷ c.args.b ∷ [],
  two_begin c.args.pool.now c.args.numbers.now.cells.items c.args.a c.args.b c.push_cells.new.stack.items
      (c.in_ok-push_cells.ensures ∙ ap (λ l. l ++ reverse (map (λ (x : CellId). Visit x) (c.args.a ∷ c.args.b ∷ []))) c.new-stack.ensures.items) c.requires.count c.requires.a c.requires.b,
)

pub number_of-requires : goal.number_of-requires
number_of-requires c =
    subst (λ w. IsFilled w c.args.a) (sym c.as_slice-cells.ensures.value)
    (two_end c.args.pool.now c.number_all.new.numbers.cells.items c.args.a c.args.b (c.in_ok-number_all.ensures.stays (c.args.a ∷ c.args.b ∷ [])
    (two_begin c.args.pool.now c.args.numbers.now.cells.items c.args.a c.args.b c.push_cells.new.stack.items
    (c.in_ok-push_cells.ensures ∙ ap (λ l. l ++ reverse (map (λ (x : CellId). Visit x) (c.args.a ∷ c.args.b ∷ []))) c.new-stack.ensures.items) c.requires.count c.requires.a c.requires.b))).0

pub number_of-requires-2 : goal.number_of-requires-2
number_of-requires-2 c =
    subst (λ w. IsFilled w c.args.b) (sym c.as_slice-cells.ensures.value)
    (two_end c.args.pool.now c.number_all.new.numbers.cells.items c.args.a c.args.b (c.in_ok-number_all.ensures.stays (c.args.a ∷ c.args.b ∷ [])
    (two_begin c.args.pool.now c.args.numbers.now.cells.items c.args.a c.args.b c.push_cells.new.stack.items
    (c.in_ok-push_cells.ensures ∙ ap (λ l. l ++ reverse (map (λ (x : CellId). Visit x) (c.args.a ∷ c.args.b ∷ []))) c.new-stack.ensures.items) c.requires.count c.requires.a c.requires.b))).1

pub returns-clause-alike : goal.returns-clause-alike
returns-clause-alike c =
    alike c.args.sig.now c.args.pool.now c.args.numbers.now c.number_all.new.numbers c.args.a c.args.b c.number_of.result c.number_of-2.result c.in_ok-number_all.ensures.numbered
    (subst (λ w. slice_get w c.args.a.0 ≡ Some (Some c.number_of.result)) c.as_slice-cells.ensures.value c.number_of.ensures)
    (subst (λ w. slice_get w c.args.b.0 ≡ Some (Some c.number_of-2.result)) c.as_slice-cells.ensures.value c.number_of-2.ensures)

pub returns-clause-count : goal.returns-clause-count
returns-clause-count c =
    (two_end c.args.pool.now c.number_all.new.numbers.cells.items c.args.a c.args.b (c.in_ok-number_all.ensures.stays (c.args.a ∷ c.args.b ∷ [])
    (two_begin c.args.pool.now c.args.numbers.now.cells.items c.args.a c.args.b c.push_cells.new.stack.items
    (c.in_ok-push_cells.ensures ∙ ap (λ l. l ++ reverse (map (λ (x : CellId). Visit x) (c.args.a ∷ c.args.b ∷ []))) c.new-stack.ensures.items) c.requires.count c.requires.a c.requires.b))).2
