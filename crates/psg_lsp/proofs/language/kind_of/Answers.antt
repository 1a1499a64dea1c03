use Rattle.std.proofs.Common.{◌≡◌, Some, sym, ◌∙◌, subst, true≢false}
use Rattle.psg_grammar.specs.Kinds.{kind_name_of}
use Rattle.psg_lsp.proofs.KindLaws.{has_kind}
use Rattle.psg_lsp.proofs.language.kind_of.Goals as goal

pub kind_named-requires : goal.kind_named-requires
kind_named-requires c = rw c.definition.ensures.same c.definition.ensures.sound

pub is_declaring-requires : goal.is_declaring-requires
is_declaring-requires c =
    has_kind c.args.language.now c.in-Some.kind c.args.name.now
    (subst (λ def. kind_name_of def c.in-Some.kind ≡ Some c.args.name.now) c.definition.ensures.same c.in-Some.ensures.found)

pub returns-clause-there : goal.returns-clause-there
returns-clause-there c =
    has_kind c.args.language.now c.in-Some.kind c.args.name.now
    (subst (λ def. kind_name_of def c.in-Some.kind ≡ Some c.args.name.now) c.definition.ensures.same c.in-Some.ensures.found)

pub returns-clause-quiet : goal.returns-clause-quiet
returns-clause-quiet c = λ declares. true≢false (sym (c.is_declaring.ensures.1 declares) ∙ c.if-is_declaring.false)
