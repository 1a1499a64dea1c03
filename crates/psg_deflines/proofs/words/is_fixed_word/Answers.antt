use Rattle.std.proofs.Common.{◌≡◌, ◌≢◌, false, [], ◌∷◌, length, sym, subst, ap, ◌∙◌}
use Rattle.std.specs.Prelude.{IsTrue, ◌↔◌, chars}
use Rattle.std.proofs.lemmas.Bool.{false≢true}
use Rattle.std.proofs.lemmas.Result.{IfOk-weaker}
use Rattle.psg_lexis.specs.Tokens.{HasTokens, IsFixedWord}
use Rattle.psg_lexis.specs.declared.token.LexFault.TheVariants.{Memory}
use Rattle.psg_deflines.specs.FixedTokens.{IsOneToken}
use Rattle.psg_deflines.proofs.FixedLaws.{word-from-token, token-from-word}
use Rattle.psg_deflines.proofs.words.is_fixed_word.Goals as goal

pub returns-in-Ok : goal.returns-in-Ok
returns-in-Ok c =
    let same : c.as_str-text.result.now ≡ c.args.word.now = c.as_str-text.ensures in
    let fixed : c.in_ok-lexis.lexis ≡ c.as_str-text.result.now ∷ [] =
    c.in_ok-lexis.ensures.words ∙ c.as_slice.ensures.value ∙ c.in_ok-words.ensures.items ∙ ap (λ x. x ∷ []) (c.in_ok-share.ensures ∙ sym same) in
    let slice : c.as_slice-in-Ok.result.now ≡ c.in-Ok.tokens.items = c.as_slice-in-Ok.ensures.value in (
      λ h. subst IsFixedWord same (word-from-token c.in_ok-lexis.lexis c.as_str-text.result.now c.in-Ok.tokens.items c.as_str-text.utf8 c.in-Ok.ensures.ok (subst (λ ts. IsOneToken ts (length c.as_str-text.result.now)) slice (c.is_one_token.ensures.0 h))),
      λ h.
          let one = token-from-word c.as_str-text.result.now c.as_str-text.utf8 (subst IsFixedWord (sym same) h) in
          let whole = c.in-Ok.ensures.whole one.found (subst (λ f. HasTokens f (chars c.as_str-text.result.now) 0 one.found) (sym fixed) one.tokens) in
          c.is_one_token.ensures.1 (subst (λ ts. IsOneToken ts (length c.as_str-text.result.now)) (sym (slice ∙ whole)) one.one),
    )

pub returns : goal.returns
returns c =
    let same : c.as_str-text.result.now ≡ c.args.word.now = c.as_str-text.ensures in
    let fixed : c.in_ok-lexis.lexis ≡ c.as_str-text.result.now ∷ [] =
    c.in_ok-lexis.ensures.words ∙ c.as_slice.ensures.value ∙ c.in_ok-words.ensures.items ∙ ap (λ x. x ∷ []) (c.in_ok-share.ensures ∙ sym same) in
    IfOk-weaker c.unless_memory.result (λ b. (b ≡ false) × (c.in-Err.fault ≢ Memory)) (λ b. IsTrue b ↔ IsFixedWord c.args.word.now)
    (λ b e. (
      λ h. absurd (false≢true (sym e.0 ∙ h)),
      λ h.
          let one = token-from-word c.as_str-text.result.now c.as_str-text.utf8 (subst IsFixedWord (sym same) h) in
          absurd (e.1 (c.in-Err.ensures.whole one.found (subst (λ f. HasTokens f (chars c.as_str-text.result.now) 0 one.found) (sym fixed) one.tokens))),
    ))
    c.unless_memory.ensures
