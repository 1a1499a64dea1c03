use Rattle.std.proofs.Common.{◌≡◌, ◌<◌, ℕ, length, subst, sym, ap, ◌∙◌}
use Rattle.psg_class.specs.Grids.{AreInside, is_set, once}
use Rattle.psg_class.specs.Forms.{bound_cell, asked_cell, cells_by, LacksBracket}
use Rattle.psg_class.proofs.FormCells.{bound_inside, asked_inside, if_same, lacks_same}
use Rattle.psg_class.proofs.forms.first_bare.Goals as goal

pub marked-requires : goal.marked-requires
marked-requires c = subst (AreInside (length c.args.phyla.now) 11) (sym (c.as_slice.ensures.value ∙ c.in_ok-bound.ensures)) (bound_inside (length c.args.phyla.now) c.args.shapes.now c.requires.inside c.requires.levels)

pub marked-requires-2 : goal.marked-requires-2
marked-requires-2 c = subst (AreInside (length c.args.phyla.now) 11) (sym (c.as_slice-2.ensures.value ∙ c.in_ok-asked.ensures)) (asked_inside (length c.args.phyla.now) c.args.shapes.now c.requires.inside c.requires.levels)

pub returns : goal.returns
returns c =
    let bound : (r k : ℕ) → k < 11 → is_set c.in_ok-bound-2.bound r k ≡ cells_by bound_cell c.args.shapes.now r k = λ r k h. c.in_ok-bound-2.ensures.exact r k h ∙ ap (once r k) (c.as_slice.ensures.value ∙ c.in_ok-bound.ensures) in
    let asked : (r k : ℕ) → k < 11 → is_set c.in_ok-asked-2.asked r k ≡ cells_by asked_cell c.args.shapes.now r k = λ r k h. c.in_ok-asked-2.ensures.exact r k h ∙ ap (once r k) (c.as_slice-2.ensures.value ∙ c.in_ok-asked.ensures) in
    if_same (LacksBracket c.args.phyla.now (is_set c.in_ok-bound-2.bound) (is_set c.in_ok-asked-2.asked)) (LacksBracket c.args.phyla.now (cells_by bound_cell c.args.shapes.now) (cells_by asked_cell c.args.shapes.now))
    (lacks_same c.args.phyla.now _ _ _ _ bound asked) (lacks_same c.args.phyla.now _ _ _ _ (λ r k h. sym (bound r k h)) (λ r k h. sym (asked r k h))) c.lowest_bare.result c.lowest_bare.ensures
