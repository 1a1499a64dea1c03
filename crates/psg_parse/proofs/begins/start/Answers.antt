use Rattle.std.proofs.Common.{◌≡◌, ◌<◌, ◌≤◌, [], ◌∷◌, Some, None, false, arith, refl, sym, ap, ◌∙◌, subst, inl}
use Rattle.psg_grammar.specs.Fragments.{hole, operator}
use Rattle.psg_grammar.specs.Levels.{level_number}
use Rattle.psg_class.specs.Places.{solid}
use Rattle.psg_class.specs.Follow.{Leads, First}
use Rattle.psg_class.specs.Terminals.{terminal_of}
use Rattle.psg_class.specs.Runs.{parts, grow as growing, start as starting}
use Rattle.psg_class.specs.Machine.{then_grow, then_close, taken}
use Rattle.psg_class.specs.Texts.{tokens_of}
use Rattle.psg_parse.specs.Seen.{terminal_seen}
use Rattle.psg_parse.specs.States.{IsStack, running}
use Rattle.psg_parse.specs.Tables.{OpensHole, OpensBracket}
use Rattle.psg_parse.specs.declared.state.Frame.TheVariants as frames
use Rattle.psg_parse.proofs.Finds.{operator_here, within}
use Rattle.psg_parse.proofs.Items.{bare_solid, none_left}
use Rattle.psg_parse.proofs.Stacks.{pushed}
use Rattle.psg_parse.proofs.Opens.{nothing_opens}
use Rattle.psg_parse.proofs.Moving.{moves_hole, moves_bracket, moves_leading, none_at_end, none_low, none_starts, next_there, no_next}
use Rattle.psg_parse.proofs.WorkLaws.{shorter}
use Rattle.psg_parse.proofs.begins.start.Goals as goal

pub returns-then-opens_hole-clause-leads : goal.returns-then-opens_hole-clause-leads
returns-then-opens_hole-clause-leads c st h =
    let def = c.args.definition.now in
    let t = c.in-Some.spanned.now.token in
    record {
      aim = running (growing c.args.phylum c.args.least (hole c.args.phylum) 0 None);
      st = st;
      stands = record { mode = (hole c.args.phylum, 0, c.in_ok-tree.ensures, refl); stack = h };
      taken = c.in-Some.spanned.now.token ∷ [];
      are = ap tokens_of c.in-Some.ensures.cases.0;
      moves = moves_hole def c.requires.class c.args.phylum c.args.least st t (tokens_of c.in-Some.others.now) (subst (OpensHole def c.args.phylum) c.see-seen.ensures (c.opens_hole.ensures.0 c.if-opens_hole.true));
    }

pub returns-then-opens_bracket-clause-leads : goal.returns-then-opens_bracket-clause-leads
returns-then-opens_bracket-clause-leads c st h =
    let def = c.args.definition.now in
    let t = c.in-Some.spanned.now.token in
    let plain = then_grow c.args.phylum c.args.least None in
    let one : IsStack c.push.new.self.items (plain ∷ st) = subst (λ s. IsStack s (plain ∷ st)) (sym c.in_ok-push.ensures.items) (pushed c.args.stack.items st (frames.Grow c.args.phylum c.args.least None) plain refl h) in
    let two : IsStack c.push-then-opens_bracket.new.self.items (then_close ∷ plain ∷ st) =
    subst (λ s. IsStack s (then_close ∷ plain ∷ st)) (sym c.in_ok-push-2.ensures.items) (pushed c.push.new.self.items (plain ∷ st) frames.Close then_close refl one) in
    record {
      aim = running (starting c.args.phylum 0);
      st = then_close ∷ plain ∷ st;
      stands = record { mode = refl; stack = two };
      taken = c.in-Some.spanned.now.token ∷ [];
      are = ap tokens_of c.in-Some.ensures.cases.0;
      moves = moves_bracket def c.requires.class c.args.phylum c.args.least st t (tokens_of c.in-Some.others.now) (subst (OpensBracket def c.args.phylum) c.see-seen.ensures (c.opens_bracket.ensures.0 c.if-opens_bracket.true));
    }

pub returns-in_default-clause-leads : goal.returns-in_default-clause-leads
returns-in_default-clause-leads c st h us e F D y =
    let def = c.args.definition.now in
    none_at_end def c.requires.class c.args.phylum c.args.least st us (no_next def c.args.rest.now c.in_default.ensures.cases us e) F D y

pub returns-in_default-leading-clause-leads : goal.returns-in_default-leading-clause-leads
returns-in_default-leading-clause-leads c st h us e F D y =
    let def = c.args.definition.now in
    none_starts def c.requires.class c.args.phylum c.args.least st (terminal_of def c.in-Some.spanned.now.token)
    (λ x. nothing_opens def c.args.phylum (terminal_seen c.see-seen.result) c.opens_hole.result c.opens_bracket.result c.opens_hole.ensures.1 c.if-opens_hole.false c.opens_bracket.ensures.1 c.if-opens_bracket.false c.in_default-leading.ensures
    (subst (First def c.args.phylum) (sym c.see-seen.ensures) x))
    us (next_there def c.args.rest.now c.in-Some.spanned.now c.in-Some.others.now c.in-Some.ensures.cases.0 us e) F D y

pub bounds-as_slice-op : goal.bounds-as_slice-op
bounds-as_slice-op c =
    let l : Leads c.args.definition.now c.args.phylum c.in-Some-leading.op (terminal_seen c.see-seen.result) = c.in-Some-leading.ensures in
    within c.args.definition.now.operators c.as_slice.result.now c.as_slice.ensures c.in-Some-leading.op l.o l.found

pub returns-then-binding-least-clause-leads : goal.returns-then-binding-least-clause-leads
returns-then-binding-least-clause-leads c st h us e F D y =
    let def = c.args.definition.now in
    let l : Leads c.args.definition.now c.args.phylum c.in-Some-leading.op (terminal_of c.args.definition.now c.in-Some.spanned.now.token) = subst (Leads def c.args.phylum c.in-Some-leading.op) c.see-seen.ensures c.in-Some-leading.ensures in
    let same : l.o ≡ c.index-as_slice-op.result = operator_here def.operators c.as_slice.result.now c.as_slice.ensures c.in-Some-leading.op l.o c.index-as_slice-op.result c.index-as_slice-op.is l.found in
    let low : level_number c.index-as_slice-op.result.level < c.args.least = omega (arith, c.op_level.ensures, c.from-binding.ensures, c.if-binding-least.true) in
    none_low def c.requires.class c.args.phylum c.args.least st (terminal_of def c.in-Some.spanned.now.token) c.in-Some-leading.op l c.index-as_slice-op.result same low
    us (next_there def c.args.rest.now c.in-Some.spanned.now c.in-Some.others.now c.in-Some.ensures.cases.0 us e) F D y

pub returns-in_default-split_first-clause-leads : goal.returns-in_default-split_first-clause-leads
returns-in_default-split_first-clause-leads c st h us e F D y =
    let l : Leads c.args.definition.now c.args.phylum c.in-Some-leading.op (terminal_seen c.see-seen.result) = c.in-Some-leading.ensures in
    let same : l.o ≡ c.index-as_slice-op.result = operator_here c.args.definition.now.operators c.as_slice.result.now c.as_slice.ensures c.in-Some-leading.op l.o c.index-as_slice-op.result c.index-as_slice-op.is l.found in
    none_left c.without_marks.result.now c.index-as_slice-op.result.items l.item l.more (c.without_marks.ensures.same ∙ ap solid c.as_slice-2.ensures) c.in_default-split_first.ensures.cases (ap (λ o. solid o.items) (sym same) ∙ l.items)

pub returns-clause-leads : goal.returns-clause-leads
returns-clause-leads c st h =
    let def = c.args.definition.now in
    let t = c.in-Some.spanned.now.token in
    let op = c.in-Some-leading.op in
    let o = c.index-as_slice-op.result in
    let item = c.in-Some-split_first.item.now in
    let more = solid c.in-Some-split_first.more.now in
    let l : Leads c.args.definition.now c.args.phylum c.in-Some-leading.op (terminal_of c.args.definition.now c.in-Some.spanned.now.token) = subst (Leads def c.args.phylum op) c.see-seen.ensures c.in-Some-leading.ensures in
    let same : l.o ≡ c.index-as_slice-op.result = operator_here def.operators c.as_slice.result.now c.as_slice.ensures op l.o c.index-as_slice-op.result c.index-as_slice-op.is l.found in
    let bound : c.from-binding.result ≡ level_number c.index-as_slice-op.result.level = omega (arith, c.op_level.ensures, c.from-binding.ensures) in
    let least : c.args.least ≤ level_number c.index-as_slice-op.result.level = omega (arith, bound, c.if-binding-least.false) in
    let are = bare_solid c.without_marks.result.now o.items item c.in-Some-split_first.more.now (c.without_marks.ensures.same ∙ ap solid c.as_slice-2.ensures) c.without_marks.ensures.bare c.in-Some-split_first.ensures.cases.0 in
    let plain = then_grow c.args.phylum c.args.least (Some (level_number c.index-as_slice-op.result.level)) in
    let frame : then_grow c.args.phylum c.args.least (Some (level_number c.index-as_slice-op.result.level)) ≡ then_grow c.args.phylum c.args.least (Some c.from-binding.result) = ap (λ n. then_grow c.args.phylum c.args.least (Some n)) (sym bound) in
    let stack : IsStack c.push-2.new.self.items (plain ∷ st) =
    subst (λ s. IsStack s (plain ∷ st)) (sym c.in_ok-push-3.ensures.items) (pushed c.args.stack.items st (frames.Grow c.args.phylum c.args.least (Some c.from-binding.result)) plain frame h) in
    record {
      aim = running (parts o false (taken item t (operator op)) 0 more);
      st = plain ∷ st;
      stands = record { mode = (taken item t (operator op), 0, c.in_ok-built.ensures (operator op) 0 c.new.ensures, refl); stack = stack };
      taken = c.in-Some.spanned.now.token ∷ [];
      are = ap tokens_of c.in-Some.ensures.cases.0;
      moves = moves_leading def c.requires.class c.args.phylum c.args.least st t (tokens_of c.in-Some.others.now) op l o same least item more are;
    }

pub returns-then-opens_hole-clause-falls : goal.returns-then-opens_hole-clause-falls
returns-then-opens_hole-clause-falls c = inl (shorter c.args.rest.now c.in-Some.spanned.now c.in-Some.others.now c.in-Some.ensures.cases.0)

pub returns-then-opens_bracket-clause-falls : goal.returns-then-opens_bracket-clause-falls
returns-then-opens_bracket-clause-falls c = inl (shorter c.args.rest.now c.in-Some.spanned.now c.in-Some.others.now c.in-Some.ensures.cases.0)

pub returns-clause-falls : goal.returns-clause-falls
returns-clause-falls c = inl (shorter c.args.rest.now c.in-Some.spanned.now c.in-Some.others.now c.in-Some.ensures.cases.0)
