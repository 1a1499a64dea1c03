-- What Tab makes of a word.
use Rattle.std.proofs.Common.{◌≡◌, ℕ, ◌+◌, ◌<◌, ◌≤◌, List, [], ◌∷◌, length, drop, get_or, refl, sym, ap, ◌∙◌, arith}
use Rattle.std.specs.Prelude.{None}
use Rattle.std.proofs.lemmas.List.{drop_all, drop_more, nil_from_length}
use Rattle.psg_prompt.specs.Completing.{common, rest_after}

common_nil : (one : List ℕ) → common one [] ≡ 0
common_nil [] = refl
common_nil (c ∷ one) = refl

pub common_end : (one other : List ℕ) (n : ℕ) → common one other ≡ n + common (drop n one) (drop n other)
    → length other ≤ n → n ≡ common one other
common_end one other n same le =
    let none : common (drop n one) (drop n other) ≡ 0 =
    ap (common (drop n one)) (drop_all n other le) ∙ common_nil (drop n one) in
    omega (arith, same, none)

-- the word ends before what is typed does
pub rest_none : (typed word rest : List ℕ) (n : ℕ) → n < length typed → length rest ≡ 0
    → rest_after (drop n typed) rest ≡ rest_after typed word → None ≡ rest_after typed word
rest_none typed word rest n lt empty same =
    let e : rest_after (drop n typed) rest ≡ None =
    ap (λ x. rest_after x rest) (drop_more typed n 0 lt)
    ∙ ap (rest_after (get_or typed n 0 ∷ drop (n + 1) typed)) (nil_from_length rest empty) in
    sym e ∙ same
