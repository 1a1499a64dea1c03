use Rattle.std.proofs.Common.{◌≡◌, [], ◌∷◌, ℕ, List, false, suc, max, refl, sym, ap, ◌∙◌, subst, true≢false, inl, inr, arith, ◌+◌, ◌*◌, length}
use Rattle.std.proofs.lemmas.Result.{IfOk-weaker}
use Rattle.psg_grammar.specs.Fragments.{Fragment, with_child}
use Rattle.psg_class.specs.Places.{solid}
use Rattle.psg_class.specs.Terminals.{close_bracket, terminal_of}
use Rattle.psg_class.proofs.ClassFacts.{facts}
use Rattle.psg_class.specs.Runs.{grow, parts}
use Rattle.psg_class.specs.Machine.{Frame as Plain, Ends, then_grow, then_parts, then_close, then_list}
use Rattle.psg_class.proofs.Machine.{step_open}
use Rattle.psg_class.specs.Texts.{tokens_of}
use Rattle.psg_parse.specs.States.{giving, running, Moves, Steps}
use Rattle.psg_parse.specs.declared.state.Frame.TheVariants as frames
use Rattle.psg_parse.proofs.Stacks.{top}
use Rattle.psg_parse.proofs.Moving.{moves_close, moves_to_grow, moves_to_parts, next_there, no_next, one_terminal}
use Rattle.psg_parse.specs.Work.{stack_work}
use Rattle.psg_parse.proofs.WorkLaws.{popped_work, shorter, falls_advances}
use Rattle.psg_parse.proofs.gives.give.Goals as goal

pub returns-in-Grow-clause-leads : goal.returns-in-Grow-clause-leads
returns-in-Grow-clause-leads c st f n h x =
    let def = c.args.definition.now in
    let ts = tokens_of c.args.rest.now in
    let (plain, left, e, is, s) = top c.args.stack.items c.pop.new.self.items c.in-Some.frame (frames.Grow c.in-Grow.phylum c.in-Grow.least c.in-Grow.level) st c.in-Some.ensures.items c.in-Grow.is h in
    let frame : st ≡ then_grow c.in-Grow.phylum c.in-Grow.least c.in-Grow.level ∷ left = e ∙ ap (λ y. y ∷ left) is in
    let aim = running (grow c.in-Grow.phylum c.in-Grow.least f n c.in-Grow.level) in
    record {
      aim = aim;
      st = left;
      stands = record { mode = (f, n, x, refl); stack = s };
      taken = [];
      are = refl;
      moves = subst (λ z. Moves def (giving f n) z [] ts aim left) (sym frame) (moves_to_grow def c.requires.class f n left ts c.in-Grow.phylum c.in-Grow.least c.in-Grow.level);
    }

pub returns-in_ok-built-in-Parts-clause-leads : goal.returns-in_ok-built-in-Parts-clause-leads
returns-in_ok-built-in-Parts-clause-leads c st f n h x =
    let def = c.args.definition.now in
    let ts = tokens_of c.args.rest.now in
    let (plain, left, e, (g, m, partly, is), s) = top c.args.stack.items c.pop.new.self.items c.in-Some.frame (frames.Parts c.in-Parts.operator c.in-Parts.built c.in-Parts.more) st c.in-Some.ensures.items c.in-Parts.is h in
    let frame : st ≡ then_parts c.in-Parts.operator.now g m (solid c.in-Parts.more.now) ∷ left = e ∙ ap (λ y. y ∷ left) is in
    let aim = running (parts c.in-Parts.operator.now false (with_child g f) (max m n) (solid c.in-Parts.more.now)) in
    record {
      aim = aim;
      st = left;
      stands = record { mode = (with_child g f, max m n, c.in_ok-built-in-Parts.ensures g f m n partly x, refl); stack = s };
      taken = [];
      are = refl;
      moves = subst (λ z. Moves def (giving f n) z [] ts aim left) (sym frame) (moves_to_parts def c.requires.class f n left ts c.in-Parts.operator.now g m (solid c.in-Parts.more.now));
    }

pub returns-in_default-split_first-clause-leads : goal.returns-in_default-split_first-clause-leads
returns-in_default-split_first-clause-leads c st f n h x us seen F D y =
    let def = c.args.definition.now in
    let (plain, left, e, is, s) = top c.args.stack.items c.pop.new.self.items c.in-Some.frame frames.Close st c.in-Some.ensures.items c.in-Close.is h in
    let frame : st ≡ then_close ∷ left = e ∙ ap (λ z. z ∷ left) is in
    step_open def (facts def c.requires.class) F D left f n us (no_next def c.args.rest.now c.in_default-split_first.ensures.cases us seen close_bracket)
    (subst (λ z. Ends def z f n us F D) frame y)

pub returns-then-not-is_fixed-clause-leads : goal.returns-then-not-is_fixed-clause-leads
returns-then-not-is_fixed-clause-leads c st f n h x us seen F D y =
    let def = c.args.definition.now in
    let (plain, left, e, is, s) = top c.args.stack.items c.pop.new.self.items c.in-Some.frame frames.Close st c.in-Some.ensures.items c.in-Close.is h in
    let frame : st ≡ then_close ∷ left = e ∙ ap (λ z. z ∷ left) is in
    let next = next_there def c.args.rest.now c.in-Some-split_first.spanned.now c.in-Some-split_first.others.now c.in-Some-split_first.ensures.cases.0 us seen in
    step_open def (facts def c.requires.class) F D left f n us
    (λ b. true≢false (sym (c.is_fixed.ensures.1 (c.see.ensures ∙ one_terminal def (terminal_of def c.in-Some-split_first.spanned.now.token) close_bracket (sym next ∙ b))) ∙ c.if-not-is_fixed.true))
    (subst (λ z. Ends def z f n us F D) frame y)

pub returns-else-not-is_fixed-clause-leads : goal.returns-else-not-is_fixed-clause-leads
returns-else-not-is_fixed-clause-leads c st f n h x =
    let def = c.args.definition.now in
    let u = c.in-Some-split_first.spanned.now.token in
    let others = tokens_of c.in-Some-split_first.others.now in
    let (plain, left, e, is, s) = top c.args.stack.items c.pop.new.self.items c.in-Some.frame frames.Close st c.in-Some.ensures.items c.in-Close.is h in
    let frame : st ≡ then_close ∷ left = e ∙ ap (λ z. z ∷ left) is in
    record {
      aim = giving f (suc n);
      st = left;
      stands = record { mode = (f, suc n, c.close-tree.ensures f n x, refl); stack = s };
      taken = c.in-Some-split_first.spanned.now.token ∷ [];
      are = ap tokens_of c.in-Some-split_first.ensures.cases.0;
      moves = subst (λ z. Moves def (giving f n) z (u ∷ []) others (giving f (suc n)) left) (sym frame)
          (moves_close def c.requires.class f n left others u (sym c.see.ensures ∙ c.is_fixed.ensures.0 c.if-not-is_fixed.false));
    }

pub returns-in_ok-listed-in-List-clause-leads : goal.returns-in_ok-listed-in-List-clause-leads
returns-in_ok-listed-in-List-clause-leads c =
    IfOk-weaker c.tail.result _ (λ s. (st : List Plain) (f : Fragment) (n : ℕ) → _ → _ → Steps c.args.definition.now (giving f n) st (tokens_of c.args.rest.now) s)
    (λ s k st f n h x.
    let (plain, left, e, (before, d, are, is), on) = top c.args.stack.items c.pop.new.self.items c.in-Some.frame (frames.List c.in-List.list c.in-List.listed) st c.in-Some.ensures.items c.in-List.is h in
    let frame : st ≡ then_list c.in-List.list before d ∷ left = e ∙ ap (λ y. y ∷ left) is in
    subst (λ z. Steps c.args.definition.now (giving f n) z (tokens_of c.args.rest.now) s) (sym frame) (k left before f d n on (c.in_ok-listed-in-List.ensures before f d n are x)))
    c.tail.ensures.leads

pub returns-in-Grow-clause-advances : goal.returns-in-Grow-clause-advances
returns-in-Grow-clause-advances c =
    let e : stack_work c.args.stack.items ≡ stack_work c.pop.new.self.items + 2 = popped_work c.args.stack.items c.pop.new.self.items c.in-Some.frame (frames.Grow c.in-Grow.phylum c.in-Grow.least c.in-Grow.level) c.in-Some.ensures.items c.in-Grow.is in
    inr (refl, omega (arith, e))

pub returns-in_ok-built-in-Parts-clause-advances : goal.returns-in_ok-built-in-Parts-clause-advances
returns-in_ok-built-in-Parts-clause-advances c =
    let e : stack_work c.args.stack.items ≡ stack_work c.pop.new.self.items + (4 * length c.in-Parts.more.now + 2) = popped_work c.args.stack.items c.pop.new.self.items c.in-Some.frame (frames.Parts c.in-Parts.operator c.in-Parts.built c.in-Parts.more) c.in-Some.ensures.items c.in-Parts.is in
    inr (refl, omega (arith, e))

pub returns-else-not-is_fixed-clause-advances : goal.returns-else-not-is_fixed-clause-advances
returns-else-not-is_fixed-clause-advances c =
    inl (shorter c.args.rest.now c.in-Some-split_first.spanned.now c.in-Some-split_first.others.now c.in-Some-split_first.ensures.cases.0)

pub returns-in_ok-listed-in-List-clause-advances : goal.returns-in_ok-listed-in-List-clause-advances
returns-in_ok-listed-in-List-clause-advances c =
    let e : stack_work c.args.stack.items ≡ stack_work c.pop.new.self.items + 1 = popped_work c.args.stack.items c.pop.new.self.items c.in-Some.frame (frames.List c.in-List.list c.in-List.listed) c.in-Some.ensures.items c.in-List.is in
    IfOk-weaker c.tail.result _ _ (λ s k. falls_advances (length c.args.rest.now) (1 + stack_work c.pop.new.self.items) (stack_work c.args.stack.items) s (omega (arith, e)) k) c.tail.ensures.falls
