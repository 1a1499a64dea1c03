use Rattle.std.proofs.Common.{ap, true≢false, sym, ◌∙◌}
use Rattle.std.proofs.lemmas.Bool.Decides.{Decides-eqb}
use Rattle.std.proofs.lemmas.Slice.Eq.{slice_eq-Decides}
use Rattle.psg_uses.specs.Naming.{path_of_place}
use Rattle.psg_lint.specs.Wrongs.{list_path}
use Rattle.psg_lint.proofs.TellLaws.{is_element}
use Rattle.psg_lint.proofs.blaming.is_element_of.Goals as goal

pub returns-in-Element : goal.returns-in-Element
returns-in-Element c =
    let d = slice_eq-Decides Decides-eqb _ _ _ c.eq.ensures in (
      (λ t. (_, c.in-Element.is, sym c.list_of.ensures ∙ d.0 t)),
      (λ (other, is, same). d.1 (c.list_of.ensures ∙ ap list_path (ap path_of_place (sym c.in-Element.is ∙ is)) ∙ same)),
    )

pub returns-in-Node : goal.returns-in-Node
returns-in-Node c = (
  (λ t. absurd (true≢false (sym t))),
  (λ (other, is, same). absurd (true≢false (sym (ap is_element is) ∙ ap is_element c.in-Node.is))),
)

pub returns-in-End : goal.returns-in-End
returns-in-End c = (
  (λ t. absurd (true≢false (sym t))),
  (λ (other, is, same). absurd (true≢false (sym (ap is_element is) ∙ ap is_element c.in-End.is))),
)

pub returns-in-Name : goal.returns-in-Name
returns-in-Name c = (
  (λ t. absurd (true≢false (sym t))),
  (λ (other, is, same). absurd (true≢false (sym (ap is_element is) ∙ ap is_element c.in-Name.is))),
)
