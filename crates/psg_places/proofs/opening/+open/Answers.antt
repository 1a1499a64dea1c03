use Rattle.std.proofs.Common.{◌+◌, ◌∙◌, false, cond, drop, ap, subst, arith}
use Rattle.psg_terms.proofs.Lists.{drop_item}
use Rattle.psg_grammar.specs.Fragments.{operator}
use Rattle.psg_tree.specs.Shapes.{height, with_parts, list_of}
use Rattle.psg_tree.proofs.Heights.{part_in, element_in, op_height, list_height, height-list_of}
use Rattle.psg_places.specs.Openings.{OpenTo}
use Rattle.psg_places.proofs.OpeningLaws.{elements_next, list_count, list_places, list_tree, parts_more}
use Rattle.psg_places.proofs.opening.+open.Goals as goal

pub open_contents-open_parts-requires : goal.open_contents-open_parts-requires
open_contents-open_parts-requires t c =
    let e = op_height _ _ _ _ c.in-Op.is c.shape.ensures in
    let p = ap (λ ps. height (with_parts (operator 0) ps)) c.as_slice.ensures in
    (omega arith, c.requires.known)

pub open_contents-open_list-requires : goal.open_contents-open_list-requires
open_contents-open_list-requires t c =
    let e = list_height _ _ _ _ _ c.in-List.is c.shape.ensures in
    let p = ap (λ es. height (list_of 0 es false)) c.as_slice-in-List.ensures in
    let f = height-list_of 0 c.in-List.elements c.in-List.unfinished false in
    (omega arith, c.requires.known)

pub open_elements-open_member-requires : goal.open_elements-open_member-requires
open_elements-open_member-requires t c =
    let e = element_in 0 c.args.elements.now false c.loop-i.i c.index-elements-i.result c.loop-i-test.true c.index-elements-i.is in
    (omega arith, (c.requires.known, c.stays-kept.ensures))

pub open_elements-loop-i-preserved : goal.open_elements-loop-i-preserved
open_elements-loop-i-preserved t c =
    elements_next c.args.keeping c.args.free c.args.above c.args.place c.args.elements.now c.index-elements-i.result
    (drop (c.loop-i.i + 1) c.args.elements.now) c.loop-i.made.items c.push_kept.new.made.items c.loop-i.declared
    c.loop-i.others c.in_ok-over.over c.in_ok-next.next c.in_ok-opened.opened c.stays-kept.result
    c.in_ok-more_declared.more_declared c.in_ok-more_others.more_others
    (subst
    (λ xs. OpenTo c.args.keeping c.args.free c.args.above c.args.place c.args.elements.now c.loop-i.made.items c.loop-i.declared c.loop-i.others xs)
    (drop_item c.args.elements.now c.loop-i.i c.index-elements-i.result c.loop-i-test.true c.index-elements-i.is)
    c.loop-i.invariant)
    c.in_ok-over.ensures.sum c.in_ok-next.ensures.sum c.in_ok-opened.ensures c.stays-kept.ensures
    c.in_ok-push_kept.ensures c.in_ok-more_declared.ensures.sum c.in_ok-more_others.ensures.sum

pub open_list-returns : goal.open_list-returns
open_list-returns t c =
    let o = c.in_ok-opened.opened in
    record {
      tree =
          c.in_ok-tree.ensures ∙ ap (λ es. list_of c.args.list es c.is_open_end-open.result) c.of.ensures
          ∙ list_tree c.args.keeping c.goes_on-free.result c.args.above c.args.place c.args.elements.now
          o.elements.items o.declared o.others c.in_ok-end.end c.args.list c.args.unfinished
          c.is_open_end-open.result c.in_ok-opened.ensures c.goes_on-free.ensures c.in_ok-end.ensures.sum
          c.is_open_end-open.ensures;
      declared =
          list_count c.args.keeping c.goes_on-free.result c.args.above c.args.place c.args.elements.now o.elements.items
          o.declared o.others c.args.list c.args.unfinished c.in_ok-opened.ensures c.goes_on-free.ensures;
      others =
          list_places c.args.keeping c.goes_on-free.result c.args.above c.args.place c.args.elements.now o.elements.items
          o.declared o.others c.one_if-last.result c.in_ok-others.others c.args.list c.args.unfinished
          c.in_ok-opened.ensures c.goes_on-free.ensures
          (c.one_if-last.ensures.exact ∙ ap (λ b. cond b 1 0) c.is_end_place.ensures) c.in_ok-others.ensures.sum;
    }

pub open_parts-open_part-requires : goal.open_parts-open_part-requires
open_parts-open_part-requires t c =
    let e = part_in (operator 0) c.args.parts.now c.loop-i.i c.index-parts-i.result c.loop-i-test.true c.index-parts-i.is in
    (omega arith, c.requires.known)

pub open_parts-loop-i-preserved : goal.open_parts-loop-i-preserved
open_parts-loop-i-preserved t c =
    parts_more c.args.keeping c.args.op c.args.above c.args.place c.args.parts.now c.loop-i.i c.index-parts-i.result
    c.loop-i.made.items c.push.new.self.items c.loop-i.declared c.loop-i.others c.in_ok-over.over c.in_ok-next.next
    c.is_declared-declares.result c.in_ok-opened.opened c.in_ok-more_declared.more_declared
    c.in_ok-more_others.more_others c.loop-i-test.true c.index-parts-i.is c.loop-i.invariant
    c.is_declared-declares.ensures c.in_ok-over.ensures.sum c.in_ok-next.ensures.sum c.in_ok-opened.ensures
    c.in_ok-push.ensures.items c.in_ok-more_declared.ensures.sum c.in_ok-more_others.ensures.sum
