use Rattle.std.proofs.Common.{rules, ◌<◌, length, sym, ◌∙◌, arith}
use Rattle.std.proofs.lemmas.List.{length-map}
use Rattle.psg_lexis.specs.declared.token.Spanned.{Spanned}
use Rattle.psg_class.specs.Texts.{tokens_of}
use Rattle.psg_ranges.proofs.Rows.{open_within, opening_next, unbracketed, after_opened}
use Rattle.psg_ranges.proofs.brackets.after_open.Goals as goal

pub returns-then-not-bracketed : goal.returns-then-not-bracketed
returns-then-not-bracketed c = unbracketed c.args.bracketed c.args.at _ c.if-not-bracketed.true

pub overflow_add-next : goal.overflow_add-next
overflow_add-next c =
    let lt = open_within (tokens_of c.args.tokens.now) c.brackets.next (sym c.is_open_at.ensures ∙ c.brackets-test.true) in
    let len = length-map c.args.tokens.now (λ (s : Spanned). s.token) in
    let small : c.brackets.next < length c.args.tokens.now = omega (arith, lt, len) in
    search (rules, small)

pub brackets-smaller : goal.brackets-smaller
brackets-smaller c =
    let lt = open_within (tokens_of c.args.tokens.now) c.brackets.next (sym c.is_open_at.ensures ∙ c.brackets-test.true) in
    let len = length-map c.args.tokens.now (λ (s : Spanned). s.token) in
    omega (arith, lt, len)

pub brackets-preserved : goal.brackets-preserved
brackets-preserved c =
    opening_next (tokens_of c.args.tokens.now) c.brackets.next (sym c.is_open_at.ensures ∙ c.brackets-test.true) ∙ c.brackets.invariant

pub returns : goal.returns
returns c =
    after_opened c.args.bracketed (tokens_of c.args.tokens.now) c.args.at c.brackets.next c.if-not-bracketed.false c.brackets.invariant
    (sym c.is_open_at.ensures ∙ c.brackets-test.false)
