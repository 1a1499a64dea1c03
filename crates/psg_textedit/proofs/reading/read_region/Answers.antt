use Rattle.std.proofs.Common.{Global, Vec, refl, arith}
use Rattle.psg_terms.proofs.Lists.{IfSome_at}
use Rattle.psg_class.specs.Texts.{HasNoTokens, TextTokens}
use Rattle.psg_lexis.specs.declared.token.Spanned.{Spanned}
use Rattle.psg_textedit.specs.Typing.{definition_of}
use Rattle.psg_textedit.proofs.NodeReads.{across_end, across_start, answered, counted, counted_none, may_read, none_in, unread}
use Rattle.psg_textedit.proofs.reading.read_region.Goals as goal

pub returns-in_default-clause-answer : goal.returns-in_default-clause-answer
returns-in_default-clause-answer g c =
    unread (definition_of c.args.reader.now) c.args.goal c.args.text.now
    (none_in (HasNoTokens (definition_of c.args.reader.now) c.args.text.now) c.in_ok-tokens.field-0 c.in_default.is
    c.in_ok-tokens.ensures.none) c.args.region.now.all.now c.args.region.now.start c.args.region.now.end

pub returns-in_default-clause-counted : goal.returns-in_default-clause-counted
returns-in_default-clause-counted g c =
    counted_none (definition_of c.args.reader.now) c.args.goal c.args.text.now
    (none_in (HasNoTokens (definition_of c.args.reader.now) c.args.text.now) c.in_ok-tokens.field-0 c.in_default.is
    c.in_ok-tokens.ensures.none) c.args.steps.now

pub returns-then-not-is_apart-clause-answer : goal.returns-then-not-is_apart-clause-answer
returns-then-not-is_apart-clause-answer g c =
    across_start (definition_of c.args.reader.now) c.args.goal c.args.text.now c.args.region.now.all.now
    c.args.region.now.start c.args.region.now.end (c.is_apart.ensures.no c.if-not-is_apart.true)

pub returns-then-not-is_apart-clause-counted : goal.returns-then-not-is_apart-clause-counted
returns-then-not-is_apart-clause-counted g c =
    let are = IfSome_at (λ (v : Vec Spanned Global). TextTokens (definition_of c.args.reader.now) c.args.text.now v.items)
    c.in_ok-tokens.field-0 c.in-Some.tokens c.in-Some.is c.in_ok-tokens.ensures.some in
    counted (definition_of c.args.reader.now) c.args.goal c.args.text.now c.in-Some.tokens.items c.in-Some.tokens.items are refl
    c.args.steps.now c.args.steps.now (omega arith)

pub returns-then-not-is_apart-2-clause-answer : goal.returns-then-not-is_apart-2-clause-answer
returns-then-not-is_apart-2-clause-answer g c =
    across_end (definition_of c.args.reader.now) c.args.goal c.args.text.now c.args.region.now.all.now
    c.args.region.now.start c.args.region.now.end (c.is_apart-2.ensures.no c.if-not-is_apart-2.true)

pub returns-then-not-is_apart-2-clause-counted : goal.returns-then-not-is_apart-2-clause-counted
returns-then-not-is_apart-2-clause-counted g c =
    let are = IfSome_at (λ (v : Vec Spanned Global). TextTokens (definition_of c.args.reader.now) c.args.text.now v.items)
    c.in_ok-tokens.field-0 c.in-Some.tokens c.in-Some.is c.in_ok-tokens.ensures.some in
    counted (definition_of c.args.reader.now) c.args.goal c.args.text.now c.in-Some.tokens.items c.in-Some.tokens.items are refl
    c.args.steps.now c.args.steps.now (omega arith)

pub returns-in_err-reading-clause-steps : goal.returns-in_err-reading-clause-steps
returns-in_err-reading-clause-steps g c =
    let are = IfSome_at (λ (v : Vec Spanned Global). TextTokens (definition_of c.args.reader.now) c.args.text.now v.items)
    c.in_ok-tokens.field-0 c.in-Some.tokens c.in-Some.is c.in_ok-tokens.ensures.some in
    may_read (definition_of c.args.reader.now) c.args.goal c.args.text.now c.in-Some.tokens.items c.as_slice.result.now are
    c.as_slice.ensures.value c.args.steps.now c.parsed.new.steps c.in_err-reading.ensures.steps

pub returns-clause-answer : goal.returns-clause-answer
returns-clause-answer g c =
    let are = IfSome_at (λ (v : Vec Spanned Global). TextTokens (definition_of c.args.reader.now) c.args.text.now v.items)
    c.in_ok-tokens.field-0 c.in-Some.tokens c.in-Some.is c.in_ok-tokens.ensures.some in
    answered (definition_of c.args.reader.now) c.args.goal c.args.text.now c.in-Some.tokens.items c.as_slice.result.now are
    c.as_slice.ensures.value c.args.region.now.all.now c.args.region.now.start c.args.region.now.end
    (c.is_apart.ensures.yes c.if-not-is_apart.false) (c.is_apart-2.ensures.yes c.if-not-is_apart-2.false)
    c.in_ok-reading.reading c.in_ok-reading.ensures.reading

pub returns-clause-counted : goal.returns-clause-counted
returns-clause-counted g c =
    let are = IfSome_at (λ (v : Vec Spanned Global). TextTokens (definition_of c.args.reader.now) c.args.text.now v.items)
    c.in_ok-tokens.field-0 c.in-Some.tokens c.in-Some.is c.in_ok-tokens.ensures.some in
    counted (definition_of c.args.reader.now) c.args.goal c.args.text.now c.in-Some.tokens.items c.as_slice.result.now are
    c.as_slice.ensures.value c.args.steps.now c.parsed.new.steps c.in_ok-reading.ensures.steps

pub returns-clause-steps : goal.returns-clause-steps
returns-clause-steps g c =
    let are = IfSome_at (λ (v : Vec Spanned Global). TextTokens (definition_of c.args.reader.now) c.args.text.now v.items)
    c.in_ok-tokens.field-0 c.in-Some.tokens c.in-Some.is c.in_ok-tokens.ensures.some in
    may_read (definition_of c.args.reader.now) c.args.goal c.args.text.now c.in-Some.tokens.items c.as_slice.result.now are
    c.as_slice.ensures.value c.args.steps.now c.parsed.new.steps c.in_ok-reading.ensures.steps
