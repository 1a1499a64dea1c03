use Rattle.std.proofs.Common.{List, ℕ, [], ◌∷◌, ◌++◌, ap, ap₂, sym, ◌∙◌}
use Rattle.std.specs.Option.{unwrap_or}
use Rattle.psg_unparse.specs.declared.spans.Printed.{Printed}
use Rattle.psg_library.specs.Heads.{head_of}
use Rattle.psg_library.proofs.HeadWords.{head_before}
use Rattle.psg_library.proofs.writing.fragment_bytes.Goals as goal

pub returns : goal.returns
returns c =
    let whole : List ℕ → List ℕ → List ℕ = λ w t. head_of c.args.name.now w ++ 10 ∷ (t ++ 10 ∷ []) in
    let word = sym (ap (λ o. unwrap_or o []) c.kind_name-word.ensures) in
    let text = c.as_str-text.ensures ∙ ap (λ (p : Printed). p.text) c.in_ok-printed.ensures.printed in
    rw c.into_bytes.ensures.value
    (c.in_ok-bytes.ensures
    ∙ (head_before c.args.name.now c.kind_name-word.result.now (10 ∷ (c.as_str-text.result.now ++ 10 ∷ [])) ∙ ap₂ whole word text))
