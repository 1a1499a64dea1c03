use Rattle.std.proofs.Common.{◌≡◌, ◌++◌, ◌∷◌, [], ◌∙◌, ap, sym, subst, List, ℕ}
use Rattle.psg_class.specs.Terminals.{a_name, terminal_of, word}
use Rattle.psg_stop.proofs.Runs.{AreBounded, run_is_name, run_push}
use Rattle.psg_stop.proofs.naming.free_name.Goals as goal

pub returns : goal.returns
returns c =
    let m = c.longest-length.result in
    let text = c.in_ok-push_str.ensures.bytes ∙ ap (λ (b : List ℕ). b ++ 97 ∷ []) c.in_ok-text.ensures ∙ run_push m in
    subst (λ n. terminal_of c.args.definition.now (word n) ≡ a_name) (sym (c.in_ok-name.ensures ∙ text))
    (run_is_name c.args.definition.now m (subst (AreBounded m) (c.as_slice.ensures.value ∙ c.in_ok-words.ensures) c.longest-length.ensures))
