-- What is lost of comments.
use Rattle.std.proofs.Common.{◌≡◌, ℕ, List, Option, Some, None, ap, ◌∙◌, subst}
use Rattle.std.specs.Prelude.{IfNone, IfSome, chars}
use Rattle.psg_terms.specs.Names.{Name}
use Rattle.psg_lexis.specs.Tokens.{HasTokens}
use Rattle.psg_lexis.specs.declared.token.Spanned.{Spanned}
use Rattle.psg_commented.specs.Keeping.{DoesNotKeep, IsLost}
use Rattle.psg_commented.specs.Printing.{with_notes}
use Rattle.psg_commented.specs.declared.noting.Note.{Note}

pub if_none : {X P Q : Type 0} (o : Option X) → (P → Q) → IfNone o P → IfNone o Q
if_none (Some x) f h = tt
if_none None f h = f h

pub some_at : {X : Type 0} (P : X → Type 0) (o : Option X) (x : X) → o ≡ Some x → IfSome o P → P x
some_at P o x e h = rw e at h

pub none_at : {X Q : Type 0} (o : Option X) → o ≡ None → IfNone o Q → Q
none_at o e h = rw e at h

-- The text with the comments does not keep them, and the printed text has these tokens alone.
pub lost_by : (fixed : List Name) (token : Name) (printed printed' : List ℕ) (notes : List Note) (shown one two : List Spanned)
    (text : List ℕ) → one ≡ shown → two ≡ shown → printed' ≡ printed → text ≡ with_notes printed' one notes
    → ((other : List Spanned) → HasTokens fixed (chars printed) 0 other → shown ≡ other)
    → DoesNotKeep fixed token two notes text → IsLost fixed token printed notes
lost_by fixed token printed printed' notes shown one two text e1 e2 ep et only lost = λ other are.
    let here : text ≡ with_notes printed shown notes =
    et ∙ ap (λ p. with_notes p one notes) ep ∙ ap (λ ts. with_notes printed ts notes) e1 in
    subst (λ ts. DoesNotKeep fixed token ts notes (with_notes printed ts notes)) (only other are)
    (subst (λ t. DoesNotKeep fixed token shown notes t) here (subst (λ ts. DoesNotKeep fixed token ts notes text) e2 lost))
