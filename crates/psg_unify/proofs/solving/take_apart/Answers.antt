use Rattle.std.proofs.Common.{◌∷◌, reverse, sym}
use Rattle.psg_unify.proofs.SolvingSteps.{takes_apart, linked_here, linked_back}
use Rattle.psg_unify.proofs.Climbs.{closer, united_joined, next_joined, has_room, end_within, end_within_next, apart_from}
use Rattle.psg_unify.proofs.solving.take_apart.Goals as goal

pub height_of-requires : goal.height_of-requires
height_of-requires c = record { from = c.requires.y_end.from; within = end_within c.args.pool.now c.args.classes.now c.args.y c.requires.going.climbing c.requires.y_end }

pub height_of-requires-2 : goal.height_of-requires-2
height_of-requires-2 c = record { from = c.requires.x_end.from; within = end_within c.args.pool.now c.args.classes.now c.args.x c.requires.going.climbing c.requires.x_end }

pub join_to-requires : goal.join_to-requires
join_to-requires c = record {
  from = c.requires.y_end.from;
  within = end_within_next c.args.pool.now c.args.classes.now c.args.y c.requires.going.climbing c.requires.y_end;
  to_from = c.requires.x_end.from;
  to_within = end_within_next c.args.pool.now c.args.classes.now c.args.x c.requires.going.climbing c.requires.x_end;
  heights = c.requires.going.climbing.heights;
  room = has_room c.args.pool.now c.args.classes.now c.args.y c.requires.going.climbing c.requires.y_end;
}

pub join_to-requires-2 : goal.join_to-requires-2
join_to-requires-2 c = record {
  from = c.requires.x_end.from;
  within = end_within_next c.args.pool.now c.args.classes.now c.args.x c.requires.going.climbing c.requires.x_end;
  to_from = c.requires.y_end.from;
  to_within = end_within_next c.args.pool.now c.args.classes.now c.args.y c.requires.going.climbing c.requires.y_end;
  heights = c.requires.going.climbing.heights;
  room = has_room c.args.pool.now c.args.classes.now c.args.x c.requires.going.climbing c.requires.x_end;
}

pub returns-then-height_of-clause-apart : goal.returns-then-height_of-clause-apart
returns-then-height_of-clause-apart c =
    takes_apart c.args.pool.now c.args.classes.now c.join_to.new.classes (reverse c.args.left.now.items) (reverse c.push_arguments.new.left.items) c.args.x c.args.y c.args.y c.args.x c.args.con
    c.args.count c.mark-mark.ensures.sound c.requires.x_end.there c.requires.x c.requires.y c.in_ok-push_arguments.ensures (λ apart. linked_back apart c.args.x c.args.y)
    (next_joined c.args.classes.now c.join_to.new.classes c.args.y c.args.x c.requires.y_end.from c.join_to.ensures.base c.join_to.ensures.next)

pub returns-clause-apart : goal.returns-clause-apart
returns-clause-apart c =
    takes_apart c.args.pool.now c.args.classes.now c.join_to-2.new.classes (reverse c.args.left.now.items) (reverse c.push_arguments.new.left.items) c.args.x c.args.y c.args.x c.args.y c.args.con
    c.args.count c.mark-mark.ensures.sound c.requires.y_end.there c.requires.x c.requires.y c.in_ok-push_arguments.ensures (λ apart. linked_here apart c.args.x c.args.y)
    (next_joined c.args.classes.now c.join_to-2.new.classes c.args.x c.args.y c.requires.x_end.from c.join_to-2.ensures.base c.join_to-2.ensures.next)

pub returns-then-height_of-clause-closer : goal.returns-then-height_of-clause-closer
returns-then-height_of-clause-closer c =
    closer c.args.pool.now c.args.pool.now c.args.classes.now c.join_to.new.classes c.args.y c.args.x c.requires.going.climbing c.requires.y_end c.requires.x_end (λ e. c.requires.other (sym e))
    (united_joined c.args.pool.now c.args.classes.now c.join_to.new.classes c.args.y c.args.x c.join_to.ensures.base c.join_to.ensures.next c.join_to.ensures.heights c.requires.going.climbing c.requires.y_end)
    ((c.args.x, c.args.y) ∷ reverse c.args.left.now.items) (reverse c.push_arguments.new.left.items) c.requires.going
    (apart_from c.args.pool.now c.args.classes.now c.args.x c.args.y (reverse c.args.left.now.items) (reverse c.push_arguments.new.left.items) c.requires.x_end.from c.requires.y_end.from
    c.in_ok-push_arguments.ensures c.requires.going)

pub returns-clause-closer : goal.returns-clause-closer
returns-clause-closer c =
    closer c.args.pool.now c.args.pool.now c.args.classes.now c.join_to-2.new.classes c.args.x c.args.y c.requires.going.climbing c.requires.x_end c.requires.y_end c.requires.other
    (united_joined c.args.pool.now c.args.classes.now c.join_to-2.new.classes c.args.x c.args.y c.join_to-2.ensures.base c.join_to-2.ensures.next c.join_to-2.ensures.heights c.requires.going.climbing c.requires.x_end)
    ((c.args.x, c.args.y) ∷ reverse c.args.left.now.items) (reverse c.push_arguments.new.left.items) c.requires.going
    (apart_from c.args.pool.now c.args.classes.now c.args.x c.args.y (reverse c.args.left.now.items) (reverse c.push_arguments.new.left.items) c.requires.x_end.from c.requires.y_end.from
    c.in_ok-push_arguments.ensures c.requires.going)
