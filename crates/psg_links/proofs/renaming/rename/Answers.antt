use Rattle.std.proofs.Common.{sym, ◌∙◌}
use Rattle.std.proofs.lemmas.Option.{MatchOption-at_none, MatchOption-at_some}
use Rattle.psg_program.specs.Decoding.{unmarked}
use Rattle.psg_links.proofs.RenameLaws.{answer_is, declared_is, none_is}
use Rattle.psg_links.proofs.renaming.rename.Goals as goal

pub returns-in_default : goal.returns-in_default
returns-in_default g c = λ f h. MatchOption-at_none _ _ c.in_default.is (c.covering.ensures f h)

pub returns-then-outside : goal.returns-then-outside
returns-then-outside g c = λ f h.
    let found = MatchOption-at_some _ _ _ c.in-Some.is (c.covering.ensures f h) in
    (c.in-Some.link.now, found.link, none_is c.in-Some.link.now.declaration (sym c.is_outside-outside.ensures ∙ c.if-outside.true))

pub returns : goal.returns
returns g c = λ f h.
    let found = MatchOption-at_some _ _ _ c.in-Some.is (c.covering.ensures f h) in
    answer_is c.args.language.now c.args.kind (unmarked c.args.bytes.now) c.args.page.now.tokens.items f
    c.args.page.now.links.items c.args.byte c.in-Some.link.now c.args.new.now c.in_ok-answer.answer
    (declared_is c.args.language.now c.args.kind (unmarked c.args.bytes.now) c.args.page.now.tokens.items f
    c.args.page.now.links.items c.args.byte c.in-Some.link.now _ found (sym c.is_outside-outside.ensures ∙ c.if-outside.false))
    (c.in_ok-answer.ensures f h)
