-- What a writer knows of the row that it has written.
use Rattle.std.proofs.Common.{◌≡◌, Bool, true, false, ◌&&◌, List, sym, ap₂, ◌∙◌}
use Rattle.std.proofs.lemmas.Bool.{true≢false}
use Rattle.psg_unparse.specs.Rows.{Piece}
use Rattle.psg_unparse.specs.Plain.{has_token, IsPlain}
use Rattle.psg_unparse.specs.Writing.{IsWritten}
use Rattle.psg_unparse.specs.declared.layout.Writer.{Writer}

pub not_line : (w : Writer) → w.line ≡ true → (row : List Piece) → IsWritten w row → IsPlain row → ⊥
not_line w e row h p = true≢false (sym e ∙ h.line ∙ p.line)

pub not_tight : (w : Writer) → w.tight ≡ true → (row : List Piece) → IsWritten w row → IsPlain row → ⊥
not_tight w e row h p = true≢false (sym e ∙ h.tight ∙ p.tight)

pub not_space : (w : Writer) → w.space ≡ true → (row : List Piece) → IsWritten w row → IsPlain row → ⊥
not_space w e row h p = true≢false (sym e ∙ h.space ∙ p.space)

pub not_plain : (w : Writer) (r : Bool) → r ≡ (w.plain && has_token w.last) → r ≡ false → (row : List Piece) → IsWritten w row
    → IsPlain row → ⊥
not_plain w r e f row h p =
    let plain : w.plain ≡ true = h.plain ∙ p.marks in
    true≢false (sym (ap₂ (λ a b. a && has_token b) plain (h.last ∙ p.last_is)) ∙ sym e ∙ f)
