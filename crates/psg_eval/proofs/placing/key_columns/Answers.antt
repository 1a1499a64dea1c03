use Rattle.std.proofs.Common.{◌≡◌, length, ◌+◌, sym, subst, ◌∙◌, ap, true≢false, arith}
use Rattle.std.proofs.lemmas.List.{length-map}
use Rattle.psg_scope.specs.Headers.{ArePlaces, key_of}
use Rattle.psg_eval.specs.Walks.{FillPlaces}
use Rattle.psg_eval.proofs.PlaceLists.{AreFilledFrom, both_go, filled_end, left_goes, of_a_side, right_goes}
use Rattle.psg_eval.proofs.WalkSteps.{IsPlacedUpTo, none_placed, all_placed, both_placed, left_placed, right_placed}
use Rattle.psg_eval.proofs.placing.key_columns.Goals as goal
use Rattle.psg_eval.proofs.placing.key_columns.Goals.{then-on_left+then-on_right+in_ok-add_both, then-on_left+else-on_right+in_ok-add_left, else-on_left+then-on_right-2+in_ok-add_right}

pub loop-place-init : goal.loop-place-init
loop-place-init c =
    let n = length c.args.joined.now.header.names in
    record {
      placed = none_placed c.args.joined.now.header.names c.as_slice-lefts.result.now c.as_slice-rights.result.now c.args.left.now c.args.right.now c.args.offset _ _ c.in_ok-with_capacity.ensures.items c.in_ok-with_capacity-2.ensures.items;
      filled = subst (λ xs. FillPlaces 0 n xs c.as_slice-rights.result.now) (sym c.as_slice-lefts.ensures)
          (subst (λ xs. FillPlaces 0 n c.args.joined.now.left xs) (sym c.as_slice-rights.ensures) c.requires.all);
    }

pub unreachable-requires : goal.unreachable-requires
unreachable-requires c =
    let n = length c.args.joined.now.header.names in
    absurd (of_a_side n c.as_slice-lefts.result.now c.as_slice-rights.result.now c.loop-place.made c.loop-place.place c.loop-place.invariant.filled
    (omega (arith, c.loop-place-test.true, ap length c.as_slice-place-end.ensures))
    (λ e. true≢false (sym (c.is_next-on_left.ensures.1 e) ∙ c.if-on_left.false)) (λ e. true≢false (sym (c.is_next-on_right.ensures.1 e) ∙ c.if-on_right-2.false)))

pub loop-place-preserved : goal.loop-place-preserved
loop-place-preserved c =
    let cols = c.args.joined.now.header.names in
    let lefts = c.as_slice-lefts.result.now in
    let rights = c.as_slice-rights.result.now in
    let left = c.args.left.now in
    let right = c.args.right.now in
    let offset = c.args.offset in
    let old = c.loop-place.made in
    let place = c.loop-place.place in
    let n = length cols in
    let many : length left ≡ length lefts = c.requires.lefts ∙ ap length (sym c.as_slice-lefts.ensures) in
    let manys : length right ≡ length rights = c.requires.rights ∙ ap length (sym c.as_slice-rights.ensures) in
    let placed = c.loop-place.invariant.placed in
    let filled = c.loop-place.invariant.filled in
    elim c.if-on_left.branch [
      | then-on_left+then-on_right+in_ok-add_both w ↦
          let at = c.is_next-on_left.ensures.0 w.if-on_left.true in
          let too = c.is_next-on_right.ensures.0 w.if-on_right.true in
          let g = w.in_ok-add_both.ensures in
          record {
            placed = subst (λ made. IsPlacedUpTo cols lefts rights left right offset made (place + 1)) (sym w.made-is)
                (both_placed cols lefts rights left right offset old w.add_both.new.self place many manys placed at too g);
            filled = subst (λ made. AreFilledFrom n lefts rights made (place + 1)) (sym w.made-is)
                (both_go n lefts rights old place filled w.add_both.new.self at too g.lefts g.rights);
          }
      | then-on_left+else-on_right+in_ok-add_left w ↦
          let at = c.is_next-on_left.ensures.0 w.if-on_left.true in
          let g = w.in_ok-add_left.ensures in
          record {
            placed = subst (λ made. IsPlacedUpTo cols lefts rights left right offset made (place + 1)) (sym w.made-is)
                (left_placed cols lefts rights left right offset old w.add_left.new.self place many manys placed at g);
            filled = subst (λ made. AreFilledFrom n lefts rights made (place + 1)) (sym w.made-is)
                (left_goes n lefts rights old place filled w.add_left.new.self at
                (λ e. true≢false (sym (c.is_next-on_right.ensures.1 e) ∙ w.if-on_right.false)) g.lefts g.rights);
          }
      | else-on_left+then-on_right-2+in_ok-add_right w ↦
          let at = c.is_next-on_right.ensures.0 w.if-on_right-2.true in
          let g = w.in_ok-add_right.ensures in
          record {
            placed = subst (λ made. IsPlacedUpTo cols lefts rights left right offset made (place + 1)) (sym w.made-is)
                (right_placed cols lefts rights left right offset old w.add_right.new.self place many manys placed at g);
            filled = subst (λ made. AreFilledFrom n lefts rights made (place + 1)) (sym w.made-is)
                (right_goes n lefts rights old place filled w.add_right.new.self
                (λ e. true≢false (sym (c.is_next-on_left.ensures.1 e) ∙ w.if-on_left.false)) at g.lefts g.rights);
          }
    ]

pub returns : goal.returns
returns c = λ K L hk hl.
    let cols = c.args.joined.now.header.names in
    let lefts = c.as_slice-lefts.result.now in
    let rights = c.as_slice-rights.result.now in
    let el = c.as_slice-lefts.ensures in
    let er = c.as_slice-rights.ensures in
    let end = filled_end (length cols) lefts rights c.loop-place.made c.loop-place.place c.loop-place.invariant.filled (omega (arith, ap length c.as_slice-place-end.ensures)) in
    all_placed cols lefts rights c.args.left.now c.args.right.now c.args.offset c.loop-place.made c.loop-place.place
    (c.requires.lefts ∙ ap length (sym el)) (c.requires.rights ∙ ap length (sym er)) c.loop-place.invariant.placed end.0 end.1
    (omega (arith, length-map cols key_of, ap length c.as_slice-place-end.ensures)) K L
    (subst (λ ps. ArePlaces cols ps K) (sym el) hk) (subst (λ ps. ArePlaces cols ps L) (sym er) hl)
