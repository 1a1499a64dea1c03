use Rattle.std.proofs.Common.{Global, Vec, inl, refl}
use Rattle.psg_terms.proofs.Lists.{IfSome_at}
use Rattle.psg_class.specs.Texts.{HasNoTokens, TextTokens}
use Rattle.psg_lexis.specs.declared.token.Spanned.{Spanned}
use Rattle.psg_session.proofs.LeafLaws.{none_in}
use Rattle.psg_session.proofs.TypedLaws.{not_parsed, parsed_tree, ticks_read}
use Rattle.psg_session.specs.Stops.{stop_of_parse}
use Rattle.psg_session.specs.Typed.{IsTextAnswer}
use Rattle.psg_session.proofs.Stopping.{passed}
use Rattle.psg_session.proofs.typed.read_tree.Goals as goal

pub returns-in_default-clause-answer : goal.returns-in_default-clause-answer
returns-in_default-clause-answer g c = inl (
  refl,
  none_in (HasNoTokens c.args.language.now.definition c.args.text.now) c.in_ok-tokens.field-0 c.in_default.is
      c.in_ok-tokens.ensures.none,
)

pub returns-in_default-clause-read : goal.returns-in_default-clause-read
returns-in_default-clause-read g c = inl refl

pub returns-in_err-tree-clause-answer : goal.returns-in_err-tree-clause-answer
returns-in_err-tree-clause-answer g c =
    let def = c.args.language.now.definition in
    passed (IsTextAnswer def c.args.kind c.args.text.now) _ (stop_of_parse c.in_err-tree.field-0.0)
    c.from_residual-in_err-tree.ensures.1
    (not_parsed def c.args.kind c.args.text.now c.in-Some.tokens.items c.as_slice.result.now
    (IfSome_at (λ (v : Vec Spanned Global). TextTokens def c.args.text.now v.items) c.in_ok-tokens.field-0
    c.in-Some.tokens c.in-Some.is c.in_ok-tokens.ensures.some) c.as_slice.ensures.value
    c.in_err-tree.field-0.0 c.in_err-tree.ensures.fault)

pub returns-in_err-tree-clause-read : goal.returns-in_err-tree-clause-read
returns-in_err-tree-clause-read g c =
    let def = c.args.language.now.definition in
    ticks_read def c.args.kind c.args.text.now c.in-Some.tokens.items c.as_slice.result.now
    (IfSome_at (λ (v : Vec Spanned Global). TextTokens def c.args.text.now v.items) c.in_ok-tokens.field-0
    c.in-Some.tokens c.in-Some.is c.in_ok-tokens.ensures.some) c.as_slice.ensures.value _ _
    c.parse_with.ensures.steps

pub returns-clause-answer : goal.returns-clause-answer
returns-clause-answer g c =
    let def = c.args.language.now.definition in
    parsed_tree def c.args.kind c.args.text.now c.in-Some.tokens.items c.as_slice.result.now
    (IfSome_at (λ (v : Vec Spanned Global). TextTokens def c.args.text.now v.items) c.in_ok-tokens.field-0
    c.in-Some.tokens c.in-Some.is c.in_ok-tokens.ensures.some) c.as_slice.ensures.value c.in_ok-tree.tree
    c.in_ok-tree.ensures.tree c.in_ok-tree.ensures.formed

pub returns-clause-read : goal.returns-clause-read
returns-clause-read g c =
    let def = c.args.language.now.definition in
    ticks_read def c.args.kind c.args.text.now c.in-Some.tokens.items c.as_slice.result.now
    (IfSome_at (λ (v : Vec Spanned Global). TextTokens def c.args.text.now v.items) c.in_ok-tokens.field-0
    c.in-Some.tokens c.in-Some.is c.in_ok-tokens.ensures.some) c.as_slice.ensures.value _ _
    c.parse_with.ensures.steps
