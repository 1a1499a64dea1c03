-- A word that is put into a map of openers.
use Rattle.std.proofs.Common.{◌≡◌, ◌⊎◌, inl, inr, ℕ, Bool, true, false, cond, Some, refl, sym, ap, ◌∙◌, subst}
use Rattle.std.proofs.lemmas.Bool.{cases_Bool}
use Rattle.std.specs.Prelude.{bytes_eq}
use Rattle.std.specs.HashMap.{get_by_text}
use Rattle.std.specs.Map.{update}
use Rattle.psg_terms.specs.Names.{Name}
use Rattle.psg_terms.proofs.DeclareLaws.{bytes_eq-same, bytes_eq-refl}
use Rattle.psg_grammar.specs.declared.types.Item.{Item}
use Rattle.psg_grammar.specs.declared.types.Item.TheVariants as items
use Rattle.psg_class.specs.Terminals.{fixed, a_name, a_number, a_text, a_hole, a_more, stray, item_terminal}
use Rattle.psg_parse.specs.declared.lookup.Openers.{Openers}
use Rattle.psg_parse.specs.Lookups.{opener, Puts as PutsIn}

module _ (old new : Openers) (w : Name) (op : ℕ) where
  at_word : (v : Name) → get_by_text new.words v ≡ cond (bytes_eq w v) (Some op) (get_by_text old.words v)
      → ((item_terminal (items.Word w) ≡ Some (fixed v)) × (opener new (fixed v) ≡ Some op)) ⊎ ((item_terminal (items.Word w) ≡ Some (fixed v) → ⊥) × (opener new (fixed v) ≡ opener old (fixed v)))
  at_word v h = of (cases_Bool (bytes_eq w v)) where
    apart : bytes_eq w v ≡ false → Some (fixed w) ≡ Some (fixed v) → ⊥
    apart e same = let x : w ≡ v = cc in let y : true ≡ false = sym (subst (λ z. bytes_eq w z ≡ true) x (bytes_eq-refl w)) ∙ e in cc

    of : (bytes_eq w v ≡ true) ⊎ (bytes_eq w v ≡ false)
        → ((item_terminal (items.Word w) ≡ Some (fixed v)) × (opener new (fixed v) ≡ Some op)) ⊎ ((item_terminal (items.Word w) ≡ Some (fixed v) → ⊥) × (opener new (fixed v) ≡ opener old (fixed v)))
    of (inl e) = inl (ap (λ x. Some (fixed x)) (bytes_eq-same w v e), h ∙ ap (λ b. cond b (Some op) (get_by_text old.words v)) e)
    of (inr e) = inr (apart e, h ∙ ap (λ b. cond b (Some op) (get_by_text old.words v)) e)

  puts : ((v : Name) → get_by_text new.words v ≡ update bytes_eq (get_by_text old.words) w (Some op) v)
      → new.name ≡ old.name → new.number ≡ old.number → new.text ≡ old.text → PutsIn old (items.Word w) op new
  puts h name number text (fixed v) = at_word v (h v)
  puts h name number text a_name = inr (λ e. let x : Some (fixed w) ≡ Some a_name = e in cc, name)
  puts h name number text a_number = inr (λ e. let x : Some (fixed w) ≡ Some a_number = e in cc, number)
  puts h name number text a_text = inr (λ e. let x : Some (fixed w) ≡ Some a_text = e in cc, text)
  puts h name number text (a_hole p) = inr (λ e. let x : Some (fixed w) ≡ Some (a_hole p) = e in cc, refl)
  puts h name number text a_more = inr (λ e. let x : Some (fixed w) ≡ Some a_more = e in cc, refl)
  puts h name number text stray = inr (λ e. let x : Some (fixed w) ≡ Some stray = e in cc, refl)

  pub puts_word : (item : Item) → item ≡ items.Word w → ((v : Name) → get_by_text new.words v ≡ update bytes_eq (get_by_text old.words) w (Some op) v)
      → new.name ≡ old.name → new.number ≡ old.number → new.text ≡ old.text → PutsIn old item op new
  puts_word item is h name number text = subst (λ i. PutsIn old i op new) (sym is) (puts h name number text)
