use Rattle.std.proofs.Common.{◌+◌, ◌++◌, List, length, slice_index_or, ap, ◌∙◌, arith}
use Rattle.std.proofs.lemmas.List.{take_all}
use Rattle.std.proofs.lemmas.List.Elements.{All-get_or}
use Rattle.std.proofs.lemmas.Option.{slice_get-get_or}
use Rattle.psg_unify.specs.Columns.{picked}
use Rattle.psg_relation.specs.declared.narrowing.Place.{Place}
use Rattle.psg_relation.specs.declared.narrowing.Place.TheVariants.{Solved}
use Rattle.psg_relation.specs.Narrowing.{IsPlace, spot_of, spots}
use Rattle.psg_relation.proofs.NarrowPlans.{more_picked}
use Rattle.psg_relation.proofs.narrowing.planned_row.Goals as goal

pub term_at-requires : goal.term_at-requires
term_at-requires c =
    All-get_or (IsPlace (length c.args.solved.now) (length c.args.left.now + length c.args.right.now)) c.args.places.now c.loop-i.i (Solved 0) c.loop-i-test.true c.requires

pub loop-i-preserved : goal.loop-i-preserved
loop-i-preserved c =
    more_picked (spot_of (length c.args.solved.now)) (c.args.solved.now ++ (c.args.left.now ++ c.args.right.now)) c.args.places.now c.loop-i.i (slice_index_or c.args.places.now c.loop-i.i (Solved 0))
    c.loop-i.terms.items c.push.new.self.items c.in_ok-term.term (slice_get-get_or c.args.places.now c.loop-i.i (Solved 0) c.loop-i-test.true) c.in_ok-term.ensures c.loop-i.invariant c.in_ok-push.ensures.items

pub returns : goal.returns
returns c =
    c.new.ensures ∙ c.loop-i.invariant
    ∙ ap (λ (p : List Place). picked (c.args.solved.now ++ (c.args.left.now ++ c.args.right.now)) (spots (length c.args.solved.now) p)) (take_all c.loop-i.i c.args.places.now (omega arith))
