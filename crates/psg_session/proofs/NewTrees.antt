-- New trees are well-formed: placeholders and empty lists, and operators, none of whose slots is for a phylum that declares.
use Rattle.std.proofs.Common.{◌≡◌, inl, inr, ℕ, suc, false, List, [], ◌∷◌, slice_get, Some, refl, sym, ◌∙◌, ap, subst}
use Rattle.std.specs.List.{AllByRecursion}
use Rattle.std.proofs.lemmas.Bool.{cases_Bool}
use Rattle.psg_terms.proofs.Lists.{slice_get_some}
use Rattle.psg_grammar.specs.declared.types.Kind.{Kind}
use Rattle.psg_grammar.specs.declared.types.Kind.TheVariants as kinds
use Rattle.psg_grammar.specs.declared.types.Item.{Item}
use Rattle.psg_grammar.specs.declared.types.Item.TheVariants as items
use Rattle.psg_grammar.specs.declared.types.Definition.{Definition}
use Rattle.psg_grammar.specs.Declaring.{is_declaring}
use Rattle.psg_grammar.specs.Insertion.{blank, may_be_unfinished}
use Rattle.psg_grammar.specs.Kinds.{HasKind}
use Rattle.psg_grammar.specs.WellFormed.{WellFormed}
use Rattle.psg_eval.specs.Summaries.{slot_kinds as slots_among}
use Rattle.psg_menu.specs.Menus.{HasQuietSlots, IsQuiet as MayBeBlank}
use Rattle.psg_specimen.specs.Conditions.{IsQuiet, slot_kinds}
use Rattle.psg_specimen.specs.Refusal.{IsAccepted}
use Rattle.psg_specimen.proofs.TrueRows.{quiet_slots as quiet_at}
use Rattle.psg_session.specs.PlainStep.{IsDeclaringPhylum}

module _ (def : Definition) where
  quiet_phylum : (p : ℕ) → (IsDeclaringPhylum def (kinds.Phylum p) → ⊥) → (s : ℕ) → is_declaring def s (kinds.Phylum p) ≡ false
  quiet_phylum p never s = elim (cases_Bool (is_declaring def s (kinds.Phylum p))) [
    | inl e ↦ absurd (never (s, e))
    | inr e ↦ e
  ]

  -- the new tree of a kind of which there may be a placeholder
  pub blank_formed : (kind : Kind) → HasKind def kind → (IsDeclaringPhylum def kind → ⊥) → WellFormed def (blank def kind) kind
  blank_formed (kinds.Phylum p) h never = ((refl, refl, h, quiet_phylum p never), tt)
  blank_formed (kinds.List l) h never =
      let (k, found) = slice_get_some def.lists l h in
      ((refl, refl, (k, found, λ e. sym (ap may_be_unfinished found) ∙ e)), tt)

  -- ---- the slots of an accepted definition

  one_quiet : (kind : Kind) → IsQuiet def kind → MayBeBlank def kind
  one_quiet (kinds.Phylum p) h = h
  one_quiet (kinds.List l) h = tt

  each_quiet : (ks : List Kind) → ((k : ℕ) (kind : Kind) → slice_get ks k ≡ Some kind → IsQuiet def kind)
      → AllByRecursion (MayBeBlank def) ks
  each_quiet [] h = tt
  each_quiet (x ∷ xs) h = (one_quiet x (h 0 x refl), each_quiet xs (λ k. h (suc k)))

  same_slots : (is : List Item) → slot_kinds is ≡ slots_among def is
  same_slots [] = refl
  same_slots (items.Slot k ∷ is) = ap (λ ks. k ∷ ks) (same_slots is)
  same_slots (_ ∷ is) = same_slots is

  pub quiet_slots : IsAccepted def → HasQuietSlots def
  quiet_slots accepted o op found =
      subst (AllByRecursion (MayBeBlank def)) (same_slots op.items)
      (each_quiet (slot_kinds op.items) (λ k. quiet_at def accepted.met o k op found))
