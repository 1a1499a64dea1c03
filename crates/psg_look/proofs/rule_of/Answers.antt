use Rattle.std.proofs.Common.{sym, subst, ◌∙◌}
use Rattle.psg_comments.specs.Fitting.{IsFit}
use Rattle.psg_defcomment.specs.Reading.{IsCommentOf}
use Rattle.psg_grammar.specs.WellFormed.{fixed_words}
use Rattle.psg_look.proofs.rule_of.Goals as goal

pub new-rule-requires : goal.new-rule-requires
new-rule-requires c =
    let words = fixed_words c.args.definition.now in
    record {
      fit = subst (λ ws. IsFit ws c.in-Some.token)
          (sym (c.in_ok-lexis.ensures.words ∙ c.as_slice.ensures.value ∙ c.in_ok-words.ensures))
          (subst (λ o. IsCommentOf words o) c.in-Some.is c.requires);
    }
