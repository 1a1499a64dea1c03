use Rattle.std.proofs.Common.{◌≡◌, sym, ◌∙◌, length, eq-eqb, eqb-true}
use Rattle.psg_lexis.proofs.Reserved.{word_if_all, all_if_word}
use Rattle.psg_lexis.proofs.lexis.is_word.Goals as goal

pub returns-then-starts_word : goal.returns-then-starts_word
returns-then-starts_word c =
    let e = c.is_empty.ensures in (
      λ h. word_if_all _ _ _ _ _ c.in-Some.ensures.first (sym c.starts_word.ensures
          ∙ c.if-starts_word.true) c.split_run.ensures.run (eqb-true _ _ (sym e ∙ h)),
      λ w. let left_none : length c.split_run.result.1.now ≡ 0 =
          all_if_word _ _ _ _ _ c.in-Some.ensures.first c.split_run.ensures.run w in e ∙ eq-eqb _ _ left_none,
    )
