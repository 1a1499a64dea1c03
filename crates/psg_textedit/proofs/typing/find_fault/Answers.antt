use Rattle.std.proofs.Common.{◌∙◌, Global, subst, Vec}
use Rattle.psg_terms.proofs.Lists.{IfSome_at}
use Rattle.psg_class.specs.Texts.{HasNoTokens, TextTokens}
use Rattle.psg_lexis.specs.declared.token.Spanned.{Spanned}
use Rattle.psg_textedit.specs.Typing.{definition_of}
use Rattle.psg_textedit.proofs.NodeReads.{none_in}
use Rattle.psg_textedit.proofs.typing.find_fault.Goals as goal

pub unreachable-requires : goal.unreachable-requires
unreachable-requires c =
    c.requires.none c.in-Some._tokens.items
    (subst (λ bs. TextTokens (definition_of c.args.reader.now) bs c.in-Some._tokens.items) (c.as_str-new.ensures.value ∙ c.in_ok-whole.ensures)
    (IfSome_at (λ (v : Vec Spanned Global). TextTokens (definition_of c.args.reader.now) c.as_str-new.result.now v.items) c.in_ok-_tokens.field-0
    c.in-Some._tokens c.in-Some.is c.in_ok-_tokens.ensures.some))

pub returns-in_default : goal.returns-in_default
returns-in_default c =
    subst (HasNoTokens (definition_of c.args.reader.now)) (c.as_str-new.ensures.value ∙ c.in_ok-whole.ensures)
    (none_in (HasNoTokens (definition_of c.args.reader.now) c.as_str-new.result.now) c.in_ok-_tokens.field-0 c.in_default.is
    c.in_ok-_tokens.ensures.none)
