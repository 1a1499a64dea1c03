use Rattle.std.proofs.Common.{◌∷◌}
use Rattle.std.proofs.lemmas.List.Elements.{All-tail}
use Rattle.psg_unify.specs.Climbing.{AreFrom}
use Rattle.psg_unify.proofs.Climbs.{closer, united_bound, has_room, end_within}
use Rattle.psg_unify.proofs.SolvingSteps.{stays_bound}
use Rattle.psg_unify.proofs.solving.bind_free.Goals as goal

pub bind-requires-clause-is_free : goal.bind-requires-clause-is_free
bind-requires-clause-is_free c = (c.requires.is_free, c.requires.x_end.unbound)

pub bind-requires-clause-among : goal.bind-requires-clause-among
bind-requires-clause-among c = c.requires.y_end.there

pub raise-requires : goal.raise-requires
raise-requires c = record {
  lower_from = c.requires.x_end.from;
  lower_within = end_within c.args.pool.now c.args.classes.now c.args.x c.requires.climbing c.requires.x_end;
  higher_from = c.requires.y_end.from;
  higher_within = end_within c.args.pool.now c.args.classes.now c.args.y c.requires.climbing c.requires.y_end;
  room = has_room c.args.pool.now c.args.classes.now c.args.x c.requires.climbing c.requires.x_end;
}

pub returns-clause-bound : goal.returns-clause-bound
returns-clause-bound c = λ left.
    stays_bound c.args.pool.now c.bind.new.self c.args.classes.now c.raise.new.classes left c.args.x c.args.y
    c.requires.x_end.unbound c.bind.ensures.keeps c.in_ok-bind.ensures.ok c.requires.x_end.from c.requires.y_end.from c.raise.ensures.base c.raise.ensures.next

pub returns-clause-closer : goal.returns-clause-closer
returns-clause-closer c = λ left going.
    closer c.args.pool.now c.bind.new.self c.args.classes.now c.raise.new.classes c.args.x c.args.y c.requires.climbing c.requires.x_end c.requires.y_end c.requires.other
    (united_bound c.args.pool.now c.bind.new.self c.args.classes.now c.raise.new.classes c.args.x c.args.y c.raise.ensures.base c.raise.ensures.next c.raise.ensures.heights c.bind.ensures.keeps
    c.in_ok-bind.ensures.ok c.requires.x_end)
    ((c.args.x, c.args.y) ∷ left) left going (All-tail (AreFrom c.args.classes.now.base) (c.args.x, c.args.y) left going.left_from)
