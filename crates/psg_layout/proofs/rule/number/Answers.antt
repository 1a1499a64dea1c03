use Rattle.std.proofs.Common.{[], ◌∷◌, sym, ◌∙◌, lit<}
use Rattle.std.proofs.lemmas.Bool.{both_ways}
use Rattle.std.proofs.lemmas.Slice.Eq.{bytes_eq-Decides}
use Rattle.std.proofs.lemmas.Str.Pattern.{starts_char}
use Rattle.psg_script.proofs.NumberLemmas.{reads_zero, only_zero, no_plus, parsed}
use Rattle.psg_layout.proofs.rule.number.Goals as goal

pub returns-then-eq : goal.returns-then-eq
returns-then-eq c =
    reads_zero c.args.word.now ((bytes_eq-Decides c.args.word.now (48 ∷ [])).0 (sym c.eq.ensures ∙ c.if-eq.true))

pub returns-else-eq : goal.returns-else-eq
returns-else-eq c =
    only_zero c.args.word.now ((starts_char 48 _ _ c.starts_with.ensures.cases (lit< tt) (lit< tt)).0 c.if-starts_with.true) (λ e. both_ways _ c.if-eq.false (c.eq.ensures ∙ (bytes_eq-Decides c.args.word.now (48 ∷ [])).1 e))

pub returns-then-starts_with-2 : goal.returns-then-starts_with-2
returns-then-starts_with-2 c =
    no_plus c.args.word.now ((starts_char 43 _ _ c.starts_with-2.ensures.cases (lit< tt) (lit< tt)).0 c.if-starts_with-2.true)

pub returns : goal.returns
returns c =
    rw c.ok.ensures.value
    (parsed c.args.word.now _ c.parse.ensures.value.0 (λ e. both_ways _ c.if-starts_with.false ((starts_char 48 _ _ c.starts_with.ensures.cases (lit< tt) (lit< tt)).1 e)) (λ e. both_ways _ c.if-starts_with-2.false ((starts_char 43 _ _ c.starts_with-2.ensures.cases (lit< tt) (lit< tt)).1 e)))
