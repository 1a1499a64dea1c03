-- Where the new lines have a fault, the whole new text has no tokens.
use Rattle.std.proofs.Common.{◌≡◌, ℕ, List, chars, subst}
use Rattle.std.specs.Str.{IsUtf8}
use Rattle.psg_grammar.specs.declared.types.Definition.{Definition}
use Rattle.psg_grammar.specs.WellFormed.{fixed_words}
use Rattle.psg_lexis.specs.declared.token.Spanned.{Spanned}
use Rattle.psg_lexis.proofs.Laws.{no_fault_with_tokens}
use Rattle.psg_class.specs.Texts.{HasNoTokens, TextTokens}
use Rattle.psg_textedit.specs.Regions.{Typing, edited, IsInside}
use Rattle.psg_textedit.specs.Lines.{AreLines, lines_with}
use Rattle.psg_textedit.proofs.Whole.{lines_have}

pub spoilt : (def : Definition) (e : Typing) (text : List ℕ) → IsUtf8 text → IsInside e text → IsUtf8 e.new
    → (before behind : List ℕ) → AreLines e text before behind → (lines : List ℕ) → lines ≡ lines_with e before behind
    → HasNoTokens def lines → (ts : List Spanned) → TextTokens def (edited e text) ts → ⊥
spoilt def e text utf8 inside new before behind l lines same faulty ts are =
    let (us, have) = lines_have (fixed_words def) e text before behind inside utf8 new l ts are in
    let h = subst (HasNoTokens def) same faulty in
    no_fault_with_tokens (fixed_words def) (chars (lines_with e before behind)) 0 us h.0 have h.1
