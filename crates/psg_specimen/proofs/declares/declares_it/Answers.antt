use Rattle.std.proofs.Common.{◌≡◌, ◌++◌, true, sym, ap, ◌∙◌, subst, eqb-true, eq-eqb, true≢false}
use Rattle.std.specs.List.{AllByRecursion}
use Rattle.psg_grammar.specs.Specimens.{tree_of}
use Rattle.psg_specimen.specs.declared.its.Spot.{Spot}
use Rattle.psg_specimen.proofs.ItCounts.{counted_by, declared_its, keeps_its}
use Rattle.psg_specimen.specs.Its.{declare_in, its_in}
use Rattle.psg_specimen.proofs.declares.declares_it.Goals as goal

pub returns-then-not-is_operator : goal.returns-then-not-is_operator
returns-then-not-is_operator c = (
  λ h. absurd (true≢false (sym h)),
  λ d. absurd (true≢false (sym (c.is_operator.ensures.1 d.operator) ∙ c.if-not-is_operator.true)),
)

pub returns-then-not-are_of : goal.returns-then-not-are_of
returns-then-not-are_of c =
    let row = c.args.row.now in
    let kept = keeps_its c.args.definition.now row.space (tree_of row.specimen) in
    let same = c.as_slice-its.ensures.value ∙ c.in_ok-add_its.ensures ∙ ap (λ l. l ++ its_in c.args.definition.now true (tree_of row.specimen)) c.new-its.ensures.items in (
      λ h. absurd (true≢false (sym h)),
      λ d. absurd (true≢false (sym (c.are_of.ensures.1 (subst (AllByRecursion (λ (x : Spot). x.space ≡ row.space)) (sym same) (kept.1 d.keeps))) ∙ c.if-not-are_of.true)),
    )

pub returns : goal.returns
returns c =
    let row = c.args.row.now in
    let def = c.args.definition.now in
    let kept = keeps_its def row.space (tree_of row.specimen) in
    let same = c.as_slice-its.ensures.value ∙ c.in_ok-add_its.ensures ∙ ap (λ l. l ++ its_in c.args.definition.now true (tree_of row.specimen)) c.new-its.ensures.items in
    let number = c.declaring.ensures ∙ counted_by row.space c.as_slice-its.result.now ∙ ap (declare_in row.space) same ∙ declared_its row.space def (tree_of row.specimen) in (
      λ h. record {
        operator = c.is_operator.ensures.0 c.if-not-is_operator.false;
        once = sym number ∙ eqb-true c.declaring.result 1 h;
        keeps = kept.0 (subst (AllByRecursion (λ (x : Spot). x.space ≡ row.space)) same (c.are_of.ensures.0 c.if-not-are_of.false));
      },
      λ d. eq-eqb c.declaring.result 1 (number ∙ d.once),
    )
