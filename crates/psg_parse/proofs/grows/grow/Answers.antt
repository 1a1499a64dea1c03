use Rattle.std.proofs.Common.{◌≡◌, ◌<◌, ◌≤◌, [], ◌∷◌, max, Some, false, arith, refl, sym, ap, ◌∙◌, subst, true≢false, inl, inr}
use Rattle.psg_grammar.specs.declared.types.Item.TheVariants as items
use Rattle.psg_grammar.specs.Fragments.{operator, with_child}
use Rattle.psg_grammar.specs.Levels.{level_number, first_level}
use Rattle.psg_class.specs.Places.{solid}
use Rattle.psg_class.specs.Follow.{Led}
use Rattle.psg_class.specs.Terminals.{terminal_of}
use Rattle.psg_class.specs.Runs.{Reaches, Stops, parts}
use Rattle.psg_class.specs.Machine.{then_grow, taken}
use Rattle.psg_class.specs.Texts.{tokens_of}
use Rattle.psg_parse.specs.Seen.{terminal_seen}
use Rattle.psg_parse.specs.States.{IsStack, giving, running}
use Rattle.psg_parse.specs.declared.state.Frame.TheVariants as frames
use Rattle.psg_parse.proofs.Finds.{operator_here, within}
use Rattle.psg_parse.proofs.Items.{none_left}
use Rattle.psg_parse.proofs.Stacks.{pushed}
use Rattle.psg_parse.proofs.Grown.{stops_end, stops_none, stops_low, two_items, item_there}
use Rattle.psg_parse.proofs.Moving.{moves_stop, moves_led, none_unreached, next_there}
use Rattle.psg_parse.proofs.WorkLaws.{shorter}
use Rattle.psg_parse.proofs.grows.grow.Goals as goal

pub returns-in_default-clause-leads : goal.returns-in_default-clause-leads
returns-in_default-clause-leads c st f n h x = record {
  aim = giving f n;
  st = st;
  stands = record { mode = (f, n, x, refl); stack = h };
  taken = [];
  are = refl;
  moves = moves_stop c.args.definition.now c.requires.class c.args.phylum c.args.least f n c.args.level st (tokens_of c.args.rest.now)
      (stops_end c.args.definition.now c.requires.class c.args.phylum c.args.least c.args.rest.now c.in_default.ensures.cases);
}

pub returns-in_default-led-clause-leads : goal.returns-in_default-led-clause-leads
returns-in_default-led-clause-leads c st f n h x =
    let def = c.args.definition.now in
    let ts : tokens_of c.args.rest.now ≡ c.in-Some.spanned.now.token ∷ tokens_of c.in-Some.others.now = ap tokens_of c.in-Some.ensures.cases.0 in
    record {
      aim = giving f n;
      st = st;
      stands = record { mode = (f, n, x, refl); stack = h };
      taken = [];
      are = refl;
      moves = moves_stop def c.requires.class c.args.phylum c.args.least f n c.args.level st (tokens_of c.args.rest.now)
          (subst (Stops def c.args.phylum c.args.least) (sym ts) (stops_none def c.requires.class c.args.phylum c.args.least c.in-Some.spanned.now.token (tokens_of c.in-Some.others.now)
          (λ k l. c.in_default-led.ensures k (subst (Led def c.args.phylum k) (sym c.see.ensures) l))));
    }

pub bounds-as_slice-op : goal.bounds-as_slice-op
bounds-as_slice-op c =
    let l : Led c.args.definition.now c.args.phylum c.in-Some-led.op (terminal_seen c.see.result) = c.in-Some-led.ensures in
    within c.args.definition.now.operators c.as_slice.result.now c.as_slice.ensures c.in-Some-led.op l.o l.found

pub returns-then-binding-least-clause-leads : goal.returns-then-binding-least-clause-leads
returns-then-binding-least-clause-leads c st f n h x =
    let def = c.args.definition.now in
    let ts : tokens_of c.args.rest.now ≡ c.in-Some.spanned.now.token ∷ tokens_of c.in-Some.others.now = ap tokens_of c.in-Some.ensures.cases.0 in
    let l : Led c.args.definition.now c.args.phylum c.in-Some-led.op (terminal_of c.args.definition.now c.in-Some.spanned.now.token) = subst (Led def c.args.phylum c.in-Some-led.op) c.see.ensures c.in-Some-led.ensures in
    let same : l.o ≡ c.index-as_slice-op.result = operator_here def.operators c.as_slice.result.now c.as_slice.ensures c.in-Some-led.op l.o c.index-as_slice-op.result c.index-as_slice-op.is l.found in
    let low : level_number c.index-as_slice-op.result.level < c.args.least = omega (arith, c.op_level.ensures, c.from-binding.ensures, c.if-binding-least.true) in
    record {
      aim = giving f n;
      st = st;
      stands = record { mode = (f, n, x, refl); stack = h };
      taken = [];
      are = refl;
      moves = moves_stop def c.requires.class c.args.phylum c.args.least f n c.args.level st (tokens_of c.args.rest.now)
          (subst (Stops def c.args.phylum c.args.least) (sym ts) (stops_low def c.requires.class c.args.phylum c.args.least c.in-Some.spanned.now.token (tokens_of c.in-Some.others.now) c.in-Some-led.op l c.index-as_slice-op.result same low));
    }

pub returns-then-not-reaches-clause-leads : goal.returns-then-not-reaches-clause-leads
returns-then-not-reaches-clause-leads c st f n h x us e F D y =
    let def = c.args.definition.now in
    let l : Led c.args.definition.now c.args.phylum c.in-Some-led.op (terminal_of c.args.definition.now c.in-Some.spanned.now.token) = subst (Led def c.args.phylum c.in-Some-led.op) c.see.ensures c.in-Some-led.ensures in
    let same : l.o ≡ c.index-as_slice-op.result = operator_here def.operators c.as_slice.result.now c.as_slice.ensures c.in-Some-led.op l.o c.index-as_slice-op.result c.index-as_slice-op.is l.found in
    let least : c.args.least ≤ level_number l.o.level = subst (λ o. c.args.least ≤ level_number o.level) (sym same) (omega (arith, c.op_level.ensures, c.from-binding.ensures, c.if-binding-least.false)) in
    none_unreached def c.requires.class c.args.phylum c.args.least f n c.args.level st (terminal_of def c.in-Some.spanned.now.token) c.in-Some-led.op l least
    (λ r. true≢false (sym (c.reaches.ensures.1 (subst (λ o. Reaches (first_level o.level) c.args.level) same r)) ∙ c.if-not-reaches.true))
    us (next_there def c.args.rest.now c.in-Some.spanned.now c.in-Some.others.now c.in-Some.ensures.cases.0 us e) F D y

pub returns-in_default-split_first-clause-leads : goal.returns-in_default-split_first-clause-leads
returns-in_default-split_first-clause-leads c st f n h x us e F D y =
    let l : Led c.args.definition.now c.args.phylum c.in-Some-led.op (terminal_seen c.see.result) = c.in-Some-led.ensures in
    let same : l.o ≡ c.index-as_slice-op.result = operator_here c.args.definition.now.operators c.as_slice.result.now c.as_slice.ensures c.in-Some-led.op l.o c.index-as_slice-op.result c.index-as_slice-op.is l.found in
    none_left c.without_marks.result.now c.index-as_slice-op.result.items (items.Slot l.slot) (l.item ∷ l.more) (c.without_marks.ensures.same ∙ ap solid c.as_slice-2.ensures) c.in_default-split_first.ensures.cases (ap (λ o. solid o.items) (sym same) ∙ l.items)

pub returns-in_default-split_first-2-clause-leads : goal.returns-in_default-split_first-2-clause-leads
returns-in_default-split_first-2-clause-leads c st f n h x us e F D y =
    let l : Led c.args.definition.now c.args.phylum c.in-Some-led.op (terminal_seen c.see.result) = c.in-Some-led.ensures in
    let same : l.o ≡ c.index-as_slice-op.result = operator_here c.args.definition.now.operators c.as_slice.result.now c.as_slice.ensures c.in-Some-led.op l.o c.index-as_slice-op.result c.index-as_slice-op.is l.found in
    item_there c.args.definition.now c.args.phylum c.in-Some-led.op (terminal_seen c.see.result) l c.index-as_slice-op.result same c.without_marks.result.now c.in-Some-split_first.field-0-0.now c.in-Some-split_first.behind.now c.without_marks-2.result.now
    (c.without_marks.ensures.same ∙ ap solid c.as_slice-2.ensures) c.without_marks.ensures.bare c.in-Some-split_first.ensures.cases.0 c.without_marks-2.ensures.same c.in_default-split_first-2.ensures.cases

pub returns-clause-leads : goal.returns-clause-leads
returns-clause-leads c st f n h x =
    let def = c.args.definition.now in
    let t = c.in-Some.spanned.now.token in
    let op = c.in-Some-led.op in
    let o = c.index-as_slice-op.result in
    let item = c.in-Some-split_first-2.item.now in
    let more = solid c.in-Some-split_first-2.more.now in
    let l : Led c.args.definition.now c.args.phylum c.in-Some-led.op (terminal_of c.args.definition.now c.in-Some.spanned.now.token) = subst (Led def c.args.phylum op) c.see.ensures c.in-Some-led.ensures in
    let same : l.o ≡ c.index-as_slice-op.result = operator_here def.operators c.as_slice.result.now c.as_slice.ensures op l.o c.index-as_slice-op.result c.index-as_slice-op.is l.found in
    let bound : c.from-binding.result ≡ level_number c.index-as_slice-op.result.level = omega (arith, c.op_level.ensures, c.from-binding.ensures) in
    let least : c.args.least ≤ level_number c.index-as_slice-op.result.level = omega (arith, bound, c.if-binding-least.false) in
    let reach : Reaches (first_level c.index-as_slice-op.result.level) c.args.level = c.reaches.ensures.0 c.if-not-reaches.false in
    let are = two_items o c.without_marks.result.now c.in-Some-split_first.field-0-0.now c.in-Some-split_first.behind.now c.without_marks-2.result.now item c.in-Some-split_first-2.more.now
    (c.without_marks.ensures.same ∙ ap solid c.as_slice-2.ensures) c.without_marks.ensures.bare c.in-Some-split_first.ensures.cases.0 c.without_marks-2.ensures.same c.without_marks-2.ensures.bare c.in-Some-split_first-2.ensures.cases.0 in
    let plain = then_grow c.args.phylum c.args.least (Some (level_number c.index-as_slice-op.result.level)) in
    let frame : then_grow c.args.phylum c.args.least (Some (level_number c.index-as_slice-op.result.level)) ≡ then_grow c.args.phylum c.args.least (Some c.from-binding.result) = ap (λ k. then_grow c.args.phylum c.args.least (Some k)) (sym bound) in
    let stack : IsStack c.push.new.self.items (plain ∷ st) =
    subst (λ s. IsStack s (plain ∷ st)) (sym c.in_ok-push.ensures.items) (pushed c.args.stack.items st (frames.Grow c.args.phylum c.args.least (Some c.from-binding.result)) plain frame h) in
    let made = taken item t (with_child (operator op) f) in
    record {
      aim = running (parts o false made (max 0 n) more);
      st = plain ∷ st;
      stands = record { mode = (made, max 0 n, c.in_ok-built.ensures (with_child (operator op) f) (max 0 n) (c.in_ok-first.ensures (operator op) f 0 n c.new.ensures x), refl); stack = stack };
      taken = c.in-Some.spanned.now.token ∷ [];
      are = ap tokens_of c.in-Some.ensures.cases.0;
      moves = moves_led def c.requires.class c.args.phylum c.args.least f n c.args.level st t (tokens_of c.in-Some.others.now) op l o same least reach c.in-Some-split_first.field-0-0.now item more are;
    }

pub returns-in_default-clause-falls : goal.returns-in_default-clause-falls
returns-in_default-clause-falls c = inr (refl, omega arith)

pub returns-in_default-led-clause-falls : goal.returns-in_default-led-clause-falls
returns-in_default-led-clause-falls c = inr (refl, omega arith)

pub returns-then-binding-least-clause-falls : goal.returns-then-binding-least-clause-falls
returns-then-binding-least-clause-falls c = inr (refl, omega arith)

pub returns-clause-falls : goal.returns-clause-falls
returns-clause-falls c = inl (shorter c.args.rest.now c.in-Some.spanned.now c.in-Some.others.now c.in-Some.ensures.cases.0)
