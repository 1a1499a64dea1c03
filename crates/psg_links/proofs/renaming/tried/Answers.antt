use Rattle.std.proofs.Common.{List, subst}
use Rattle.std.specs.Prelude.{MatchOption}
use Rattle.psg_grammar.specs.Fragments.{Fragment}
use Rattle.psg_program.specs.OneAnswer.{HasOneAnswer}
use Rattle.psg_program.specs.Programs.{IsProgram}
use Rattle.psg_links.specs.declared.link.Link.{Link}
use Rattle.psg_links.specs.Renaming.{IsWithin}
use Rattle.psg_links.specs.Spots.{IsPage}
use Rattle.psg_links.proofs.RenameLaws.{never_read, tried_is}
use Rattle.psg_links.proofs.renaming.tried.Goals as goal

pub one_answer-requires : goal.one_answer-requires
one_answer-requires g c = rw c.definition-definition.ensures.same c.definition-definition.ensures.accepted.of_class

pub returns-in_default : goal.returns-in_default
returns-in_default g c =
    never_read c.args.language.now c.args.kind c.args.text.now c.args.own.now c.args.new.now c.args.links.now
    (subst (λ o. MatchOption o ((f : Fragment) → IsProgram c.args.language.now c.args.kind c.args.text.now f → ⊥)
    (IsPage c.args.language.now c.args.kind c.args.text.now)) c.in_default.is c.in_ok-read.ensures)

pub returns : goal.returns
returns g c =
    tried_is c.args.language.now c.args.kind c.args.text.now c.args.own.now c.args.new.now c.args.links.now
    (subst HasOneAnswer c.definition-definition.ensures.same c.one_answer.ensures) c.in-Some.page
    (subst (λ o. MatchOption o ((f : Fragment) → IsProgram c.args.language.now c.args.kind c.args.text.now f → ⊥)
    (IsPage c.args.language.now c.args.kind c.args.text.now)) c.in-Some.is c.in_ok-read.ensures)
    c.within-why.result
    (subst (λ (ls : List Link). IsWithin c.args.own.now c.args.new.now c.args.links.now ls c.within-why.result)
    c.as_slice.ensures.value c.within-why.ensures)
