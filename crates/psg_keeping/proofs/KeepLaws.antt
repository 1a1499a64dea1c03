-- What is written for a new text.
use Rattle.std.proofs.Common.{◌≡◌, ℕ, List, [], ◌++◌, sym, ap, ◌∙◌, subst}
use Rattle.psg_terms.specs.Names.{Name}
use Rattle.psg_comments.specs.Blanking.{IsBlanked}
use Rattle.psg_comments.specs.declared.finding.Comment.{Comment}
use Rattle.psg_commented.specs.Keeping.{IsCommented, IsLost}
use Rattle.psg_commented.specs.Printing.{heads}
use Rattle.psg_commented.specs.declared.noting.Note.{Note}
use Rattle.psg_keeping.specs.Writing.{AreMoved, IsKept, no_comments, with_them, on_top}

module _ (fixed : List Name) (token old new : List ℕ) where
  pub kept_none : (comments : List Comment) (blanked bytes : List ℕ) → IsBlanked fixed token old comments blanked
      → comments ≡ [] → bytes ≡ new → IsKept fixed token old new bytes
  kept_none comments blanked bytes b none e =
      subst (λ l. IsKept fixed token old new l) (sym e)
      (no_comments blanked (subst (λ l. IsBlanked fixed token old l blanked) none b))

  pub kept_with : (notes notes' : List Note) (text bytes : List ℕ) → AreMoved fixed token old new notes → notes' ≡ notes
      → IsCommented fixed token new notes' text → bytes ≡ text → IsKept fixed token old new bytes
  kept_with notes notes' text bytes m same c e =
      subst (λ l. IsKept fixed token old new l) (sym e)
      (with_them notes text m (subst (λ ns. IsCommented fixed token new ns text) same c))

  pub kept_top : (notes notes' notes'' : List Note) (bytes : List ℕ) → AreMoved fixed token old new notes → notes' ≡ notes
      → notes'' ≡ notes → IsLost fixed token new notes' → bytes ≡ heads notes'' ++ new → IsKept fixed token old new bytes
  kept_top notes notes' notes'' bytes m same same' lost e =
      subst (λ l. IsKept fixed token old new l) (sym (e ∙ ap (λ ns. heads ns ++ new) same'))
      (on_top notes m (subst (λ ns. IsLost fixed token new ns) same lost))
