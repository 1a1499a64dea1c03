use Rattle.std.proofs.Common.{false, chars, sym, ◌∙◌, ap, subst, ne_eqb, eq-eqb}
use Rattle.std.specs.Str.{IsUtf8}
use Rattle.std.specs.Str.Iter.{chars_rest}
use Rattle.psg_lexis.specs.Faults.{is_closed}
use Rattle.psg_lexis.proofs.Runs.{first_off, no_chars}
use Rattle.psg_lexis.proofs.Closing.{closed_past, open_at_line_end, closed_at, at_first}
use Rattle.psg_lexis.proofs.literal.is_closed.Goals as goal

pub loop-c-init : goal.loop-c-init
loop-c-init c =
    let same = ap chars_rest c.into_iter-c-iterator.ensures.into_iter_gives ∙ c.chars-c-items.ensures.rest in
    record { utf8 = subst IsUtf8 (sym same) c.utf8.text; answer = ap (λ b. is_closed false (chars b)) same }

pub loop-c-preserved : goal.loop-c-preserved
loop-c-preserved c =
    let first = first_off _ _ _ c.loop-c.invariant.utf8 c.in-Some.ensures.steps.0 in
    record {
      utf8 = first.utf8;
      answer = sym (closed_past c.loop-c.escaped c.in-Some.c (chars (chars_rest c.next.new.self)) (ne_eqb _ _ c.if-c-eq10.false) c.if-escaped-c.false) ∙ at_first _ _ _ _ _ first c.loop-c.invariant.answer;
    }

pub returns-then-c-eq10 : goal.returns-then-c-eq10
returns-then-c-eq10 c =
    let first = first_off _ _ _ c.loop-c.invariant.utf8 c.in-Some.ensures.steps.0 in
    sym (open_at_line_end c.loop-c.escaped _ (chars (chars_rest c.next.new.self)) (eq-eqb _ _ c.if-c-eq10.true))
    ∙ at_first _ _ _ _ _ first c.loop-c.invariant.answer

pub returns-then-escaped-c : goal.returns-then-escaped-c
returns-then-escaped-c c =
    let first = first_off _ _ _ c.loop-c.invariant.utf8 c.in-Some.ensures.steps.0 in
    sym (closed_at c.loop-c.escaped _ (chars (chars_rest c.next.new.self)) (ne_eqb _ _ c.if-c-eq10.false) c.if-escaped-c.true) ∙ at_first _ _ _ _ _ first c.loop-c.invariant.answer

pub returns : goal.returns
returns c = ap (is_closed c.loop-c.escaped) (sym (no_chars _ c.in-None.ensures.steps.0.0)) ∙ c.loop-c.invariant.answer
