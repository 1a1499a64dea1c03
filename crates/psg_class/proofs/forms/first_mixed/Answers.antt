use Rattle.std.proofs.Common.{◌≡◌, ◌<◌, ◌+◌, ◌*◌, ℕ, map, subst, sym, ap, ◌∙◌}
use Rattle.psg_class.specs.Grids.{AreInside, is_set, once}
use Rattle.psg_class.specs.Forms.{form_cell, cells_by, Mixes}
use Rattle.psg_class.proofs.FormCells.{form_inside, mixes_same, once_inside, both, pair_of}
use Rattle.psg_class.proofs.forms.first_mixed.Goals as goal

pub marked-requires : goal.marked-requires
marked-requires c = subst (AreInside c.args.phyla 50) (sym (c.as_slice.ensures.value ∙ c.in_ok-uses.ensures)) (form_inside c.args.phyla c.args.shapes.now c.requires.inside c.requires.levels)

pub returns : goal.returns
returns c =
    let same : (r k : ℕ) → k < 50 → is_set c.in_ok-uses-2.uses r k ≡ cells_by form_cell c.args.shapes.now r k = λ r k h. c.in_ok-uses-2.ensures.exact r k h ∙ ap (once r k) (c.as_slice.ensures.value ∙ c.in_ok-uses.ensures) in
    let inside : (p level : ℕ) → Mixes (is_set c.in_ok-uses-2.uses) p level → p < c.args.phyla = λ p level m.
    let u = mixes_same (is_set c.in_ok-uses-2.uses) (cells_by form_cell c.args.shapes.now) same p level m in
    (once_inside c.args.phyla 50 p (5 * level + u.one) (map form_cell c.args.shapes.now) (form_inside c.args.phyla c.args.shapes.now c.requires.inside c.requires.levels) u.has_one).0 in
    pair_of (Mixes (is_set c.in_ok-uses-2.uses)) (Mixes (cells_by form_cell c.args.shapes.now)) (mixes_same (is_set c.in_ok-uses-2.uses) (cells_by form_cell c.args.shapes.now) same) (mixes_same (cells_by form_cell c.args.shapes.now) (is_set c.in_ok-uses-2.uses) (λ r k h. sym (same r k h))) c.lowest_mixed.result
    (both (is_set c.in_ok-uses-2.uses) c.args.phyla inside c.lowest_mixed.result c.lowest_mixed.ensures.first c.lowest_mixed.ensures.none)
