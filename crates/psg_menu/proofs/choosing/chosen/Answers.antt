use Rattle.std.proofs.Common.{rules, Bool, true, false, get_or, ◌≡◌, ◌<◌, length, sym, subst, arith}
use Rattle.std.specs.Prelude.{Ok, Err}
use Rattle.std.specs.List.{AllByRecursion}
use Rattle.psg_grammar.specs.Open.{IsOpen}
use Rattle.psg_menu.specs.Answers.{IsChosenAnswer}
use Rattle.psg_menu.specs.Trials.{IsClass, IsOffered}
use Rattle.psg_menu.proofs.BlankLaws.{fixed}
use Rattle.psg_menu.proofs.MenuLaws.{CanStand, chooses_none, chooses_passed, chooses_taken, chooses_whole, chosen_fault, each_op, ticks_next}
use Rattle.psg_menu.proofs.choosing.chosen.Goals as goal

pub loop-place-init : goal.loop-place-init
loop-place-init g c =
    let def = c.args.menu.definition.now in
    record {
      chooses = chooses_none def c.args.menu.frames.now c.args.menu.used.now c.args.ops.now c.new-found.result.items c.new-found.ensures.items;
      classes = subst (AllByRecursion (IsClass def c.args.menu.frames.now)) (sym c.new-classes.ensures) tt;
      counted = omega arith;
    }

pub offered-requires-clause-operator : goal.offered-requires-clause-operator
offered-requires-clause-operator g c =
    let def = c.args.menu.definition.now in
    let within : c.loop-place.place < length c.args.ops.now = search rules in
    each_op def (CanStand def c.args.menu.frames.now) c.args.ops.now c.loop-place.place (get_or c.args.ops.now c.loop-place.place 0) c.requires.operators within (fixed c.args.ops.now c.loop-place.place within)

pub returns-in_err-good-clause-open : goal.returns-in_err-good-clause-open
returns-in_err-good-clause-open g c = λ f path k stand all.
    let def = c.args.menu.definition.now in
    let within : c.loop-place.place < length c.args.ops.now = search rules in
    let fault = c.in_err-good.field-0.0 in
    let d : c.from_residual.result ≡ Err fault = search rules in
    subst (IsChosenAnswer def (IsOpen def) f path k c.args.ops.now) (sym d)
    (chosen_fault def c.args.menu.frames.now c.args.menu.used.now c.args.ops.now c.loop-place.place (get_or c.args.ops.now c.loop-place.place 0) fault within (fixed c.args.ops.now c.loop-place.place within) c.in_err-good.ensures.offered f path k stand all)

pub returns-in_err-good-clause-ticks : goal.returns-in_err-good-clause-ticks
returns-in_err-good-clause-ticks g c =
    let def = c.args.menu.definition.now in
    let within : c.loop-place.place < length c.args.ops.now = search rules in
    let next = ticks_next def c.args.menu.frames.now c.args.ops.now c.loop-place.place (get_or c.args.ops.now c.loop-place.place 0) within (fixed c.args.ops.now c.loop-place.place within) in
    omega (arith, next, c.offered.ensures.ticks, c.loop-place.invariant.counted)

pub returns-clause-open : goal.returns-clause-open
returns-clause-open g c =
    let end : c.loop-place.place ≡ length c.args.ops.now = search rules in
    chooses_whole c.args.menu.definition.now c.args.menu.frames.now c.args.menu.used.now c.args.ops.now c.loop-place.found.items c.loop-place.place end c.loop-place.invariant.chooses

pub returns-clause-ticks : goal.returns-clause-ticks
returns-clause-ticks g c = omega (arith, c.loop-place.invariant.counted)

pub loop-place-preserved-then-not-good : goal.loop-place-preserved-then-not-good
loop-place-preserved-then-not-good g c =
    let def = c.args.menu.definition.now in
    let around = c.args.menu.frames.now in
    let within : c.loop-place.place < length c.args.ops.now = search rules in
    let op = get_or c.args.ops.now c.loop-place.place 0 in
    let at = fixed c.args.ops.now c.loop-place.place within in
    let is : c.in_ok-good.good ≡ false = search rules in
    let next = ticks_next def around c.args.ops.now c.loop-place.place op within at in
    record {
      chooses =
          chooses_passed def around c.args.menu.used.now c.args.ops.now c.loop-place.place op c.loop-place.found.items within at c.loop-place.invariant.chooses
          (subst (λ (b : Bool). IsOffered def around c.args.menu.used.now op (Ok b)) is c.in_ok-good.ensures.offered);
      classes = c.in_ok-good.ensures.classes;
      counted = omega (arith, next, c.offered.ensures.ticks, c.loop-place.invariant.counted);
    }

pub loop-place-preserved : goal.loop-place-preserved
loop-place-preserved g c =
    let def = c.args.menu.definition.now in
    let around = c.args.menu.frames.now in
    let within : c.loop-place.place < length c.args.ops.now = search rules in
    let op = get_or c.args.ops.now c.loop-place.place 0 in
    let at = fixed c.args.ops.now c.loop-place.place within in
    let is : c.in_ok-good.good ≡ true = search rules in
    let next = ticks_next def around c.args.ops.now c.loop-place.place op within at in
    record {
      chooses =
          chooses_taken def around c.args.menu.used.now c.args.ops.now c.loop-place.place op c.loop-place.found.items c.push.new.self.items within at c.loop-place.invariant.chooses
          (subst (λ (b : Bool). IsOffered def around c.args.menu.used.now op (Ok b)) is c.in_ok-good.ensures.offered) c.in_ok-push.ensures.items;
      classes = c.in_ok-good.ensures.classes;
      counted = omega (arith, next, c.offered.ensures.ticks, c.loop-place.invariant.counted);
    }
