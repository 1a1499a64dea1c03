use Rattle.std.proofs.Common.{◌≡◌, ◌∷◌, [], sym, subst}
use Rattle.std.specs.Prelude.{MatchOption, string_bytes}
use Rattle.psg_run.specs.Promise.{HasNoForm}
use Rattle.psg_run.specs.Wanted.{IsWanted}
use Rattle.psg_run.specs.Worlds.{texts_of}
use Rattle.psg_run.proofs.WordForms.{five_words, four_words}
use Rattle.psg_run.proofs.words.form_of.Goals as goal

pub returns-in-len5 : goal.returns-in-len5
returns-in-len5 c =
    let e0 : c.as_str-in-len5.result.now ≡ string_bytes c.form-item-then-words-lt6.result = c.as_str-in-len5.ensures.value in
    let e1 : c.as_str-in-len5-2.result.now ≡ string_bytes c.first-item-then-words-lt6.result = c.as_str-in-len5-2.ensures.value in
    let e2 : c.as_str-in-len5-3.result.now ≡ string_bytes c.second-item-then-words-lt6.result = c.as_str-in-len5-3.ensures.value in
    let e3 : c.as_str-in-len5-4.result.now ≡ string_bytes c.third-item-then-words-lt6.result = c.as_str-in-len5-4.ensures.value in
    let e4 : c.as_str-in-len5-5.result.now ≡ string_bytes c.last-item.result = c.as_str-in-len5-5.ensures.value in
    let whole = five_words c.args.words.now c.form-item-then-words-lt6.result c.first-item-then-words-lt6.result c.second-item-then-words-lt6.result c.third-item-then-words-lt6.result c.last-item.result
    c.in-len5.len_at_least c.in-len5.len_below c.form-item-then-words-lt6.is c.first-item-then-words-lt6.is c.second-item-then-words-lt6.is c.third-item-then-words-lt6.is c.last-item.is in
    let words : texts_of c.args.words.now ≡ c.as_str-in-len5.result.now ∷ c.as_str-in-len5-2.result.now ∷ c.as_str-in-len5-3.result.now ∷ c.as_str-in-len5-4.result.now ∷ c.as_str-in-len5-5.result.now ∷ [] = cc in
    subst (λ w. MatchOption c.of_five.result (HasNoForm w) (IsWanted w)) (sym words) c.of_five.ensures

pub returns-in-len4 : goal.returns-in-len4
returns-in-len4 c =
    let e0 : c.as_str-in-len4.result.now ≡ string_bytes c.form-item-then-words-lt5.result = c.as_str-in-len4.ensures.value in
    let e1 : c.as_str-in-len4-2.result.now ≡ string_bytes c.first-item.result = c.as_str-in-len4-2.ensures.value in
    let e2 : c.as_str-in-len4-3.result.now ≡ string_bytes c.second-item.result = c.as_str-in-len4-3.ensures.value in
    let e3 : c.as_str-in-len4-4.result.now ≡ string_bytes c.third-item.result = c.as_str-in-len4-4.ensures.value in
    let whole = four_words c.args.words.now c.form-item-then-words-lt5.result c.first-item.result c.second-item.result c.third-item.result
    c.in-len4.len_at_least c.in-len4.len_below c.form-item-then-words-lt5.is c.first-item.is c.second-item.is c.third-item.is in
    let words : texts_of c.args.words.now ≡ c.as_str-in-len4.result.now ∷ c.as_str-in-len4-2.result.now ∷ c.as_str-in-len4-3.result.now ∷ c.as_str-in-len4-4.result.now ∷ [] = cc in
    subst (λ w. MatchOption c.of_four.result (HasNoForm w) (IsWanted w)) (sym words) c.of_four.ensures
