use Rattle.std.proofs.Common.{◌≡◌, ◌∷◌, [], Option, ap, false, sym, subst, ◌∙◌}
use Rattle.std.specs.Prelude.{codes}
use Rattle.psg_grammar.specs.Open.{IsOpen}
use Rattle.psg_places.specs.Answers.{IsBlame}
use Rattle.psg_places.specs.declared.blaming.Blamed.{Blamed}
use Rattle.psg_recover.specs.declared.finding.Finding.{Finding}
use Rattle.psg_recover.specs.Findings.{error_at}
use Rattle.psg_recover.specs.TextPlaces.{first_byte}
use Rattle.psg_lint.specs.Wrongs.{AreWrong, hopeless}
use Rattle.psg_lint.proofs.ReadLaws.{byte_is}
use Rattle.psg_lint.proofs.blaming.tell_answer.Goals as goal

pub tell_blamed-requires-clause-blamed : goal.tell_blamed-requires-clause-blamed
tell_blamed-requires-clause-blamed g c =
    let j = c.args.judged in
    subst (λ (o : Option Blamed). IsBlame (IsOpen j.definition.now) j.definition.now j.tree.now o) c.in-Some.is c.requires.answer

pub returns-in_ok-push-in-None : goal.returns-in_ok-push-in-None
returns-in_ok-push-in-None g c = λ r is.
    let j = c.args.judged in
    let none = subst (λ (o : Option Blamed). IsBlame (IsOpen j.definition.now) j.definition.now j.tree.now o) c.in-None.is c.requires.answer in
    let e : c.in_ok-told-in-None.told ≡ error_at (first_byte j.definition.now r) (codes "this does not fit here") =
    c.in_ok-told-in-None.ensures
    ∙ ap (λ b. error_at b (codes "this does not fit here"))
    (byte_is (λ d q. first_byte d q) j c.requires.judged r is c.first-top.result (λ nodes are. c.first-top.ensures nodes)) in (
      c.in_ok-told-in-None.told ∷ [],
      c.in_ok-push-in-None.ensures.items,
      subst (λ (x : Finding). AreWrong j.definition.now j.text.now j.tree.now r false (x ∷ []) false) (sym e) (hopeless c.requires.wrong none.1),
    )
