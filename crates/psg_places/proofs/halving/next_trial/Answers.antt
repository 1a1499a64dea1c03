use Rattle.std.proofs.Common.{◌≡◌, ◌↔◌, ◌+◌, ◌≤◌, inr, true, subst, arith}
use Rattle.psg_grammar.specs.Open.{IsOpen}
use Rattle.psg_cache.specs.Annotated.{tree_in}
use Rattle.psg_cache.specs.Diff.{diff_of}
use Rattle.psg_places.specs.declared.fault.BlameFault.TheVariants.{Memory}
use Rattle.psg_places.specs.Answers.{IsBlameFault}
use Rattle.psg_places.specs.Blame.{kept_in}
use Rattle.psg_places.specs.NewNames.{new_name}
use Rattle.psg_places.specs.Opened.{opened}
use Rattle.psg_places.proofs.AnswerLaws.{limit_fault, passed}
use Rattle.psg_places.proofs.halving.next_trial.Goals as goal

pub with_next-requires : goal.with_next-requires
with_next-requires g c = omega (arith, c.requires.more.inside, c.requires.small)

pub returns-in_err-next-clause-fault : goal.returns-in_err-next-clause-fault
returns-in_err-next-clause-fault g c =
    passed (IsBlameFault c.args.definition.now c.args.tree.now) _ Memory c.from_residual.ensures.1 tt

pub returns-in_err-trial-clause-fault : goal.returns-in_err-trial-clause-fault
returns-in_err-trial-clause-fault g c =
    let def = c.args.definition.now in
    let tree = c.args.tree.now in
    passed (IsBlameFault def tree) _ c.in_err-trial.field-0.0 c.from_residual-in_err-trial.ensures.1
    (limit_fault def c.args.front.now c.in_ok-next.next.items tree c.requires.front
    (inr (record {
      before = c.args.kept.now;
      more = c.args.more;
      next = c.in_ok-next.ensures;
      due = c.requires.more;
    }))
    c.in_err-trial.field-0.0 c.in_err-trial.ensures.fault)

pub returns-clause-open : goal.returns-clause-open
returns-clause-open g c =
    let def = c.args.definition.now in
    subst (λ xs. (c.in_ok-trial.trial.good ≡ true) ↔ IsOpen def (opened def (kept_in xs) (new_name c.args.front.now) c.args.tree.now))
    c.in_ok-next.ensures c.in_ok-trial.ensures.trial.opens

pub returns-in_err-trial-clause-climb : goal.returns-in_err-trial-clause-climb
returns-in_err-trial-clause-climb g c =
    subst (λ xs. c.tried.new.steps ≤ c.args.steps.now + diff_of (tree_in c.args.old.now)
    (opened c.args.definition.now (kept_in xs) (new_name c.args.front.now) c.args.tree.now)) c.in_ok-next.ensures
    c.tried.ensures.climb

pub returns-clause-climb : goal.returns-clause-climb
returns-clause-climb g c =
    subst (λ xs. c.tried.new.steps ≤ c.args.steps.now + diff_of (tree_in c.args.old.now)
    (opened c.args.definition.now (kept_in xs) (new_name c.args.front.now) c.args.tree.now)) c.in_ok-next.ensures
    c.tried.ensures.climb

pub returns-clause-tree : goal.returns-clause-tree
returns-clause-tree g c =
    subst (λ xs. tree_in c.in_ok-trial.trial.note
    ≡ opened c.args.definition.now (kept_in xs) (new_name c.args.front.now) c.args.tree.now) c.in_ok-next.ensures
    c.in_ok-trial.ensures.trial.note.tree
