use Rattle.std.proofs.Common.{◌≡◌, [], ◌∷◌, Some, false, refl, sym, ap, ◌∙◌, subst, true≢false, inl, inr, arith, ◌+◌, ◌*◌, ◌<◌, length}
use Rattle.psg_grammar.specs.declared.types.Item.TheVariants as items
use Rattle.psg_class.specs.Places.{solid}
use Rattle.psg_class.specs.Runs.{parts as reading, start, list}
use Rattle.psg_class.specs.Machine.{then_parts, taken}
use Rattle.psg_class.specs.Texts.{tokens_of}
use Rattle.psg_parse.specs.States.{GoesOn, IsStack, giving, running}
use Rattle.psg_parse.specs.declared.state.Frame.TheVariants as frames
use Rattle.psg_parse.specs.declared.state.Mode.{Mode}
use Rattle.psg_parse.specs.declared.state.Step.TheVariants as steps
use Rattle.psg_parse.proofs.Stacks.{pushed}
use Rattle.psg_parse.proofs.Items.{items_mismatch}
use Rattle.psg_parse.proofs.Moving.{moves_end, moves_slot, moves_list, moves_token, next_there, no_next}
use Rattle.psg_parse.specs.Work.{Falls, stack_work}
use Rattle.psg_parse.proofs.WorkLaws.{pushed_work, shorter}
use Rattle.psg_parse.proofs.steps.parts.Goals as goal
use Rattle.psg_parse.proofs.steps.parts.Goals.{in-Phylum, in-List}

pub returns-in_default-clause-leads : goal.returns-in_default-clause-leads
returns-in_default-clause-leads c st f n h x = record {
  aim = giving f n;
  st = st;
  stands = record { mode = (f, n, c.in_ok-tree.ensures f n x, refl); stack = h };
  taken = [];
  are = refl;
  moves = moves_end c.args.definition.now c.requires.class c.args.operator.now f n st c.without_marks.result.now c.args.more.now c.without_marks.ensures.same c.in_default.ensures.cases (tokens_of c.args.rest.now);
}

pub returns-in-Slot-clause-leads : goal.returns-in-Slot-clause-leads
returns-in-Slot-clause-leads c st f n h x =
    let def = c.args.definition.now in
    let plain = then_parts c.args.operator.now f n (solid c.in-Some.behind.now) in
    let stack : IsStack c.push.new.self.items (plain ∷ st) =
    subst (λ s. IsStack s (plain ∷ st)) (sym c.in_ok-push.ensures.items) (pushed c.args.stack.items st (frames.Parts c.args.operator c.args.built c.in-Some.behind) plain (f, n, x, refl) h) in
    let goes = λ (m : Mode). GoesOn def (running (reading c.args.operator.now false f n (solid c.args.more.now))) st (tokens_of c.args.rest.now) (record { mode = m; stack = c.push.new.self; rest = c.args.rest }) in
    elim c.match-kind.branch [
      | in-Phylum w ↦ subst goes (sym w.mode-is) (record {
        aim = running (start w.in-Phylum.phylum w.slot_least.result);
        st = plain ∷ st;
        stands = record { mode = refl; stack = stack };
        taken = [];
        are = refl;
        moves = moves_slot def c.requires.class c.args.operator.now f n st c.without_marks.result.now c.args.more.now c.without_marks.ensures.same c.without_marks.ensures.bare w.in-Phylum.phylum c.in-Some.behind.now
            (c.in-Some.ensures.cases.0 ∙ ap (λ y. y ∷ c.in-Some.behind.now) (c.in-Slot.is ∙ ap items.Slot w.in-Phylum.is)) w.slot_least.result w.slot_least.ensures (tokens_of c.args.rest.now);
      })
      | in-List w ↦ subst goes (sym w.mode-is) (record {
        aim = running (list w.in-List.list);
        st = plain ∷ st;
        stands = record { mode = refl; stack = stack };
        taken = [];
        are = refl;
        moves = moves_list def c.requires.class c.args.operator.now f n st c.without_marks.result.now c.args.more.now c.without_marks.ensures.same c.without_marks.ensures.bare w.in-List.list c.in-Some.behind.now
            (c.in-Some.ensures.cases.0 ∙ ap (λ y. y ∷ c.in-Some.behind.now) (c.in-Slot.is ∙ ap items.Slot w.in-List.is)) (tokens_of c.args.rest.now);
      })
    ]

pub returns-in_default-split_first-clause-leads : goal.returns-in_default-split_first-clause-leads
returns-in_default-split_first-clause-leads c st f n h x us e F D y =
    let def = c.args.definition.now in
    items_mismatch def c.requires.class c.args.operator.now f n st c.without_marks.result.now c.args.more.now c.without_marks.ensures.same F D c.without_marks.ensures.bare c.in-Some.item.now c.in-Some.behind.now c.in-Some.ensures.cases.0
    c.in_default-item.not-Slot us (λ t i m. no_next def c.args.rest.now c.in_default-split_first.ensures.cases us e t m) y

pub returns-then-not-takes-clause-leads : goal.returns-then-not-takes-clause-leads
returns-then-not-takes-clause-leads c st f n h x us e F D y =
    let def = c.args.definition.now in
    items_mismatch def c.requires.class c.args.operator.now f n st c.without_marks.result.now c.args.more.now c.without_marks.ensures.same F D c.without_marks.ensures.bare c.in-Some.item.now c.in-Some.behind.now c.in-Some.ensures.cases.0
    c.in_default-item.not-Slot us
    (λ t i m. true≢false (sym (c.takes.ensures.1 (i ∙ sym m ∙ next_there def c.args.rest.now c.in-Some-split_first.spanned.now c.in-Some-split_first.others.now c.in-Some-split_first.ensures.cases.0 us e ∙ ap Some (sym c.see.ensures))) ∙ c.if-not-takes.true)) y

pub returns-clause-leads : goal.returns-clause-leads
returns-clause-leads c st f n h x =
    let def = c.args.definition.now in
    let token = c.in-Some-split_first.spanned.now.token in
    let made = taken c.in-Some.item.now c.in-Some-split_first.spanned.now.token f in
    record {
      aim = running (reading c.args.operator.now false made n (solid c.in-Some.behind.now));
      st = st;
      stands = record { mode = (made, n, c.in_ok-built.ensures f n x, refl); stack = h };
      taken = c.in-Some-split_first.spanned.now.token ∷ [];
      are = ap tokens_of c.in-Some-split_first.ensures.cases.0;
      moves = moves_token def c.requires.class c.args.operator.now f n st c.without_marks.result.now c.args.more.now c.without_marks.ensures.same c.without_marks.ensures.bare c.in-Some.item.now c.in-Some.behind.now c.in-Some.ensures.cases.0
          token (c.takes.ensures.0 c.if-not-takes.false ∙ ap Some c.see.ensures) (tokens_of c.in-Some-split_first.others.now);
    }

pub returns-in_default-clause-falls : goal.returns-in_default-clause-falls
returns-in_default-clause-falls c = inr (refl, omega arith)

pub returns-in-Slot-clause-falls : goal.returns-in-Slot-clause-falls
returns-in-Slot-clause-falls c =
    let n : length c.in-Some.behind.now < length c.without_marks.result.now = shorter c.without_marks.result.now c.in-Some.item.now c.in-Some.behind.now c.in-Some.ensures.cases.0 in
    let e : stack_work c.push.new.self.items ≡ stack_work c.args.stack.items + (4 * length c.in-Some.behind.now + 2) =
    pushed_work c.push.new.self.items c.args.stack.items (frames.Parts c.args.operator c.args.built c.in-Some.behind) c.in_ok-push.ensures.items in
    let falls = λ (m : Mode). Falls (length c.args.rest.now) (4 * length c.args.more.now + 1 + stack_work c.args.stack.items) (steps.Go (record { mode = m; stack = c.push.new.self; rest = c.args.rest })) in
    elim c.match-kind.branch [
      | in-Phylum w ↦ subst falls (sym w.mode-is) (inr (refl, omega (arith, n, e, c.without_marks.ensures.short)))
      | in-List w ↦ subst falls (sym w.mode-is) (inr (refl, omega (arith, n, e, c.without_marks.ensures.short)))
    ]

pub returns-clause-falls : goal.returns-clause-falls
returns-clause-falls c = inl (shorter c.args.rest.now c.in-Some-split_first.spanned.now c.in-Some-split_first.others.now c.in-Some-split_first.ensures.cases.0)
