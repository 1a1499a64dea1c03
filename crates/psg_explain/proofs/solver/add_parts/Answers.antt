use Rattle.std.proofs.Common.{◌++◌, ◌-◌, ℕ, refl, sym, ap, subst, ◌∙◌, arith}
use Rattle.psg_explain.specs.declared.refutation.Rule.TheVariants as rules
use Rattle.psg_explain.specs.Equations.{Gives}
use Rattle.psg_explain.specs.Solutions.{tasks_of}
use Rattle.psg_explain.proofs.SolvingLaws.{extends_refl, extends_trans, gives_part, paired_end, part_at, parts_step, still_arguments}
use Rattle.psg_explain.proofs.solver.add_parts.Goals as goal

pub loop-place-init : goal.loop-place-init
loop-place-init c =
    let e = c.min-place.ensures in
    record {
      bounded = omega (arith, e);
      tasks = sym (ap (λ l. l ++ tasks_of c.args.work.now) (paired_end c.args.left.now c.args.right.now c.min-place.result (omega (arith, e))));
      stays = λ given w h. w;
      extends = extends_refl c.args.work.now.derived.all.items;
      failure = refl;
    }

pub loop-place-preserved : goal.loop-place-preserved
loop-place-preserved c =
    let inv = c.loop-place.invariant in
    let some = c.loop-place-test.true in
    let within = inv.bounded in
    let a = part_at c.args.left.now c.loop-place.place c.index-left-place.result c.in_ok-one.one some (omega (arith, within)) c.index-left-place.is c.in_ok-one.ensures in
    let b = part_at c.args.right.now c.loop-place.place c.index-right-place.result c.in_ok-two.two some (omega (arith, within)) c.index-right-place.is c.in_ok-two.ensures in
    record {
      bounded = omega (arith, within);
      tasks = parts_step c.args.left.now c.args.right.now c.loop-place.place c.in_ok-one.one c.in_ok-two.two (tasks_of c.loop-place.work) (tasks_of c.args.work.now) (tasks_of c.add.new.self) some a b inv.tasks c.in_ok-add.ensures.tasks;
      stays = λ given w h.
          let has = still_arguments c.args.work.now.derived.all.items c.loop-place.work.derived.all.items c.args.number c.args.left.now c.args.right.now inv.extends h in
          c.in_ok-add.ensures.work given (inv.stays given w h)
          (subst (λ (n : ℕ). Gives given c.loop-place.work.derived.all.items (rules.Part c.args.number n) (c.in_ok-one.one, c.in_ok-two.two)) (sym c.in_ok-part.ensures.number)
          (gives_part given c.loop-place.work.derived.all.items c.args.number (c.loop-place.place - 1) c.args.left.now c.args.right.now c.in_ok-one.one c.in_ok-two.two has a b));
      extends = extends_trans c.args.work.now.derived.all.items c.loop-place.work.derived.all.items c.add.new.self.derived.all.items inv.extends c.in_ok-add.ensures.extends;
      failure = c.in_ok-add.ensures.failure ∙ inv.failure;
    }
