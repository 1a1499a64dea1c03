use Rattle.std.proofs.Common.{◌∷◌, reverse, length, subst}
use Rattle.psg_terms.specs.Renaming.{keys}
use Rattle.psg_unify.specs.declared.making.Task.{Task}
use Rattle.psg_unify.specs.Making.{IsPutting, MayPut}
use Rattle.psg_unify.proofs.PuttingSteps.{put_made}
use Rattle.psg_unify.proofs.PuttingTasks.{may_made}
use Rattle.psg_unify.proofs.making.do_task.Goals as goal

pub put_whole-requires-clause-may : goal.put_whole-requires-clause-may
put_whole-requires-clause-may c =
    subst (λ (t : Task). MayPut c.args.sig.now (keys c.args.known.now.keys) (length c.args.cells.now.items) (t ∷ reverse c.args.tasks.now.items)) c.in-Whole.is c.requires.may

pub make-requires-clause-count : goal.make-requires-clause-count
make-requires-clause-count c =
    (subst (λ (t : Task). MayPut c.args.sig.now (keys c.args.known.now.keys) (length c.args.cells.now.items) (t ∷ reverse c.args.tasks.now.items)) c.in-Make.is c.requires.may).0

pub returns-in_ok-make-in-Make-clause-may : goal.returns-in_ok-make-in-Make-clause-may
returns-in_ok-make-in-Make-clause-may c =
    may_made c.args.sig.now (keys c.args.known.now.keys) c.args.pool.now c.make.new.pool c.args.cells.now.items c.make.new.cells.items c.in-Make.con c.in-Make.count (reverse c.args.tasks.now.items)
    c.in_ok-make-in-Make.ensures.made
    (subst (λ (t : Task). MayPut c.args.sig.now (keys c.args.known.now.keys) (length c.args.cells.now.items) (t ∷ reverse c.args.tasks.now.items)) c.in-Make.is c.requires.may)

pub returns-in_ok-put_whole-in-Whole-clause-put : goal.returns-in_ok-put_whole-in-Whole-clause-put
returns-in_ok-put_whole-in-Whole-clause-put c = λ old row sound base p.
    c.in_ok-put_whole-in-Whole.ensures.put old c.args.pool.now row sound base
    (subst (λ (t : Task). IsPutting c.args.sig.now old (keys c.args.known.now.keys) row c.args.pool.now (t ∷ reverse c.args.tasks.now.items) c.args.cells.now.items) c.in-Whole.is p)

pub returns-in_ok-make-in-Make-clause-put : goal.returns-in_ok-make-in-Make-clause-put
returns-in_ok-make-in-Make-clause-put c = λ old row sound base p.
    put_made c.args.sig.now old (keys c.args.known.now.keys) row c.args.pool.now c.make.new.pool c.in-Make.con c.in-Make.count (reverse c.args.tasks.now.items) c.args.cells.now.items
    c.make.new.cells.items c.in_ok-make-in-Make.ensures.sound c.in_ok-make-in-Make.ensures.made
    (subst (λ (t : Task). IsPutting c.args.sig.now old (keys c.args.known.now.keys) row c.args.pool.now (t ∷ reverse c.args.tasks.now.items) c.args.cells.now.items) c.in-Make.is p)
