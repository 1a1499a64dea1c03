-- Nothing declares there, so each kind has placeholders.
use Rattle.std.proofs.Common.{◌≡◌, ℕ, zero, suc, ◌+◌, ◌==◌, ◌&&◌, ◌||◌, not, Bool, true, false, List, [], ◌∷◌, map, length, Option, Some, None, slice_get, refl, ap, ap₂, ◌∙◌}
use Rattle.psg_grammar.specs.declared.types.Kind.{Kind}
use Rattle.psg_grammar.specs.declared.types.Kind.TheVariants as kinds
use Rattle.psg_grammar.specs.declared.types.Item.{Item}
use Rattle.psg_grammar.specs.declared.types.Item.TheVariants as items
use Rattle.psg_grammar.specs.declared.types.ListKind.{ListKind}
use Rattle.psg_grammar.specs.declared.types.Operator.{Operator}
use Rattle.psg_grammar.specs.declared.types.Definition.{Definition}
use Rattle.psg_grammar.specs.Declaring.{HasHoles, any_item, any_operator, declares_within, element_declares}
use Rattle.psg_recover.specs.Grammars.{quiet, quiet_item, quiet_operator}

and_false : (a b c : Bool) → c ≡ false → (a && b && c) ≡ false
and_false true true c e = e
and_false true false c e = refl
and_false false b c e = refl

module _ (s : ℕ) (test : Kind → Bool) (never : (k : Kind) → test k ≡ false) where
  no_item : (is : List Item) → any_item s test (map quiet_item is) ≡ false
  no_item [] = refl
  no_item (items.Slot k ∷ is) = ap₂ (λ a b. a || b) (never k) (no_item is)
  no_item (items.Word w ∷ is) = no_item is
  no_item (items.Refers n ∷ is) = no_item is
  no_item (items.Declares n ∷ is) = no_item is
  no_item (items.Number ∷ is) = no_item is
  no_item (items.Text ∷ is) = no_item is
  no_item (items.Space ∷ is) = no_item is
  no_item (items.Tight ∷ is) = no_item is
  no_item (items.Line ∷ is) = no_item is
  no_item (items.In ∷ is) = no_item is
  no_item (items.Out ∷ is) = no_item is

  no_operator : (p : ℕ) (os : List Operator) → any_operator s test p (map quiet_operator os) ≡ false
  no_operator p [] = refl
  no_operator p (o ∷ os) = ap₂ (λ a b. a || b) (and_false (o.phylum == p) (not o.scope) (any_item s test (map quiet_item o.items)) (no_item o.items)) (no_operator p os)

  no_element : (o : Option ListKind) → element_declares test o ≡ false
  no_element None = refl
  no_element (Some l) = never (kinds.Phylum l.element)

never_within : (def : Definition) (s n : ℕ) (k : Kind) → declares_within (quiet def) s n k ≡ false
never_within def s zero k = refl
never_within def s (suc n) (kinds.Phylum p) = no_operator s (declares_within (quiet def) s n) (never_within def s n) p def.operators
never_within def s (suc n) (kinds.List l) = no_element s (declares_within (quiet def) s n) (never_within def s n) (slice_get (quiet def).lists l)

pub quiet_holes : (def : Definition) (k : Kind) → HasHoles (quiet def) k
quiet_holes def k s = never_within def s (length (quiet def).phyla + length (quiet def).lists) k
