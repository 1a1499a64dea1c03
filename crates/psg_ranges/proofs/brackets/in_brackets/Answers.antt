use Rattle.std.proofs.Common.{rules, ◌<◌, ◌-◌, ◌≤◌, length, refl, sym, ◌∙◌, arith}
use Rattle.std.proofs.lemmas.List.{length-map}
use Rattle.psg_lexis.specs.declared.token.Spanned.{Spanned}
use Rattle.psg_class.specs.Texts.{tokens_of}
use Rattle.psg_ranges.proofs.Rows.{close_within, closing_end, taking_init, taking_next, taken, taken_all}
use Rattle.psg_ranges.proofs.brackets.in_brackets.Goals as goal

pub brackets-init : goal.brackets-init
brackets-init c = taking_init (tokens_of c.args.tokens.now) c.args.first c.args.inner.start c.args.inner.end

pub returns-then-not-is_close_at-clause-start : goal.returns-then-not-is_close_at-clause-start
returns-then-not-is_close_at-clause-start c =
    (taken (tokens_of c.args.tokens.now) c.args.first c.args.inner.start c.args.inner.end c.brackets.outer.start c.brackets.outer.end c.brackets.invariant
    (closing_end (c.brackets.outer.start - c.args.first) (tokens_of c.args.tokens.now) c.brackets.outer.end (sym c.is_close_at.ensures ∙ c.if-not-is_close_at.true))).0

pub returns-then-not-is_close_at-clause-end : goal.returns-then-not-is_close_at-clause-end
returns-then-not-is_close_at-clause-end c =
    (taken (tokens_of c.args.tokens.now) c.args.first c.args.inner.start c.args.inner.end c.brackets.outer.start c.brackets.outer.end c.brackets.invariant
    (closing_end (c.brackets.outer.start - c.args.first) (tokens_of c.args.tokens.now) c.brackets.outer.end (sym c.is_close_at.ensures ∙ c.if-not-is_close_at.true))).1

pub overflow_add-outer : goal.overflow_add-outer
overflow_add-outer c =
    let lt = close_within (tokens_of c.args.tokens.now) c.brackets.outer.end (sym c.is_close_at.ensures ∙ c.if-not-is_close_at.false) in
    let len = length-map c.args.tokens.now (λ (s : Spanned). s.token) in
    let small : c.brackets.outer.end < length c.args.tokens.now = omega (arith, lt, len) in
    search (rules, small)

pub brackets-preserved : goal.brackets-preserved
brackets-preserved c =
    taking_next (tokens_of c.args.tokens.now) c.args.first c.args.inner.start c.args.inner.end c.brackets.outer.start c.brackets.outer.end _ _ c.brackets.invariant c.brackets-test.true
    (sym c.is_close_at.ensures ∙ c.if-not-is_close_at.false) refl refl

pub returns-clause-start : goal.returns-clause-start
returns-clause-start c =
    let done : c.brackets.outer.start ≤ c.args.first = omega (arith, c.brackets-test.false) in
    (taken_all (tokens_of c.args.tokens.now) c.args.first c.args.inner.start c.args.inner.end c.brackets.outer.start c.brackets.outer.end c.brackets.invariant done).0

pub returns-clause-end : goal.returns-clause-end
returns-clause-end c =
    let done : c.brackets.outer.start ≤ c.args.first = omega (arith, c.brackets-test.false) in
    (taken_all (tokens_of c.args.tokens.now) c.args.first c.args.inner.start c.args.inner.end c.brackets.outer.start c.brackets.outer.end c.brackets.invariant done).1
