use Rattle.std.proofs.Common.{not, sym, ap, ◌∙◌, true≢false}
use Rattle.std.proofs.lemmas.Bool.{not-true}
use Rattle.psg_grammar.specs.WellFormed.{fixed_words}
use Rattle.psg_tree.proofs.NameTests.{free_word, free_word_is_word, free_word_is_free}
use Rattle.psg_tree.proofs.words.is_name.Goals as goal

pub returns-then-not-is_word : goal.returns-then-not-is_word
returns-then-not-is_word c = (
  λ h. absurd (true≢false (sym h)),
  λ w. absurd (true≢false (sym (free_word_is_word (fixed_words c.args.definition.now) c.args.text.now c.utf8.text w) ∙ sym c.is_word.ensures ∙ c.if-not-is_word.true)),
)

pub returns : goal.returns
returns c = (
  λ h. free_word (fixed_words c.args.definition.now) c.args.text.now c.utf8.text (sym c.is_word.ensures ∙ c.if-not-is_word.false) (sym c.is_fixed.ensures ∙ not-true c.is_fixed.result h),
  λ w. ap not (c.is_fixed.ensures ∙ free_word_is_free (fixed_words c.args.definition.now) c.args.text.now w),
)
