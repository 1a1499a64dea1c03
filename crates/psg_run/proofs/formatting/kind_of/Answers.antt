use Rattle.std.proofs.Common.{◌≡◌, Some, sym, ◌∙◌, subst, true≢false}
use Rattle.std.proofs.lemmas.Option.{none-some}
use Rattle.psg_grammar.specs.Kinds.{kind_name_of}
use Rattle.psg_session.proofs.Opening.{has_kind}
use Rattle.psg_run.specs.Formatting.{is_declaring, is_unknown}
use Rattle.psg_run.proofs.formatting.kind_of.Goals as goal

pub kind_named-requires : goal.kind_named-requires
kind_named-requires g c = rw c.definition.ensures.same c.definition.ensures.sound

pub is_declaring-requires : goal.is_declaring-requires
is_declaring-requires g c =
    has_kind c.args.language.now c.in-Some.kind c.args.name.now
    (subst (λ def. kind_name_of def c.in-Some.kind ≡ Some c.args.name.now) c.definition.ensures.same c.in-Some.ensures.found)

pub returns-in-None-clause-err : goal.returns-in-None-clause-err
returns-in-None-clause-err g c = λ files input ticks.
    is_unknown (λ kind e. none-some kind
    (sym c.in-None.is ∙ c.kind_named.ensures.only kind (subst (λ def. kind_name_of def kind ≡ Some c.args.name.now) (sym c.definition.ensures.same) e)))
    (c.put_line.ensures files input ticks)

pub returns-then-is_declaring-clause-err : goal.returns-then-is_declaring-clause-err
returns-then-is_declaring-clause-err g c = λ files input ticks.
    is_declaring c.in-Some.kind
    (subst (λ def. kind_name_of def c.in-Some.kind ≡ Some c.args.name.now) c.definition.ensures.same c.in-Some.ensures.found)
    (c.is_declaring.ensures.0 c.if-is_declaring.true) (c.put_line-then-is_declaring.ensures files input ticks)

pub returns-clause-kind : goal.returns-clause-kind
returns-clause-kind g c =
    subst (λ def. kind_name_of def c.in-Some.kind ≡ Some c.args.name.now) c.definition.ensures.same c.in-Some.ensures.found

pub returns-clause-quiet_kind : goal.returns-clause-quiet_kind
returns-clause-quiet_kind g c = λ declares. true≢false (sym (c.is_declaring.ensures.1 declares) ∙ c.if-is_declaring.false)

pub returns-clause-there : goal.returns-clause-there
returns-clause-there g c =
    has_kind c.args.language.now c.in-Some.kind c.args.name.now
    (subst (λ def. kind_name_of def c.in-Some.kind ≡ Some c.args.name.now) c.definition.ensures.same c.in-Some.ensures.found)
