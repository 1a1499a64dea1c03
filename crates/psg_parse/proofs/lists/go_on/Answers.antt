use Rattle.std.proofs.Common.{◌≡◌, [], ◌∷◌, refl, sym, subst, inr, arith, ◌+◌}
use Rattle.psg_class.specs.Machine.{then_list}
use Rattle.psg_class.specs.Runs.{start}
use Rattle.psg_parse.specs.States.{IsStack, running}
use Rattle.psg_parse.specs.declared.state.Frame.TheVariants as frames
use Rattle.psg_class.specs.Texts.{tokens_of}
use Rattle.psg_parse.proofs.Leading.{stays}
use Rattle.psg_parse.proofs.Stacks.{pushed}
use Rattle.psg_parse.specs.Work.{stack_work}
use Rattle.psg_parse.proofs.WorkLaws.{pushed_work}
use Rattle.psg_parse.proofs.lists.go_on.Goals as goal

pub returns-clause-leads : goal.returns-clause-leads
returns-clause-leads c st before n h x = record {
  aim = running (start c.args.element 0);
  st = then_list c.args.list before n ∷ st;
  stands = record {
    mode = refl;
    stack = subst (λ s. IsStack s (then_list c.args.list before n ∷ st)) (sym c.in_ok-push.ensures.items) (pushed c.args.stack.items st (frames.List c.args.list c.args.listed) (then_list c.args.list before n) (before, n, x, refl) h);
  };
  taken = [];
  are = refl;
  moves = stays c.args.definition.now (running (start c.args.element 0)) (then_list c.args.list before n ∷ st) (tokens_of c.args.rest.now);
}

pub returns-clause-falls : goal.returns-clause-falls
returns-clause-falls c =
    let e : stack_work c.push.new.self.items ≡ stack_work c.args.stack.items + 1 = pushed_work c.push.new.self.items c.args.stack.items (frames.List c.args.list c.args.listed) c.in_ok-push.ensures.items in
    inr (refl, omega (arith, e))
