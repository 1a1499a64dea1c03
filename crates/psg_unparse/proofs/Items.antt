-- The items of an operator, the levels of trees and what is between elements.
use Rattle.std.proofs.Common.{◌≡◌, ℕ, ◌≤◌, ◌==◌, Bool, true, false, cond, ◌&&◌, not, List, [], ◌∷◌, length, None, refl, ap, sym, subst, ◌∙◌, arith}
use Rattle.std.specs.Prelude.{option_and_then, slice_get}
use Rattle.std.proofs.lemmas.Bool.{false≢true}
use Rattle.std.proofs.lemmas.List.{nil_from_length}
use Rattle.psg_terms.proofs.Lists.{suc_is_not_zero}
use Rattle.psg_grammar.specs.declared.types.Definition.{Definition}
use Rattle.psg_grammar.specs.declared.types.Item.{Item}
use Rattle.psg_grammar.specs.declared.types.Item.TheVariants as items
use Rattle.psg_grammar.specs.Fragments.{Fragment, operator, top_operator}
use Rattle.psg_grammar.specs.Lookups.{is_part, operator_at}
use Rattle.psg_tree.specs.declared.tree.Part.{Part}
use Rattle.psg_tree.specs.declared.tree.Part.TheVariants.{Sub, Name, Number, Text}
use Rattle.psg_tree.specs.declared.tree.Shape.{Shape}
use Rattle.psg_tree.specs.declared.tree.Shape.TheVariants.{Op, List as ListOf, Hole}
use Rattle.psg_tree.specs.Shapes.{with_part, with_parts, list_of, tree_of}
use Rattle.psg_unparse.specs.declared.layout.Writer.{Writer}
use Rattle.psg_unparse.specs.Rows.{words, from_part, behind_first, operator_of, between, separating}
use Rattle.psg_unparse.specs.Writing.{Adds, piece}
use Rattle.psg_unparse.proofs.Adding.{adds-nothing, adds-then}

-- ---- words in front of a part

words-item : (i : Item) (behind : List Item) → is_part i ≡ false → words (i ∷ behind) ≡ piece i ∷ words behind
words-item (items.Word w) behind h = refl
words-item (items.Slot k) behind h = absurd (false≢true (sym h))
words-item (items.Refers s) behind h = absurd (false≢true (sym h))
words-item (items.Declares s) behind h = absurd (false≢true (sym h))
words-item items.Number behind h = absurd (false≢true (sym h))
words-item items.Text behind h = absurd (false≢true (sym h))
words-item items.Space behind h = refl
words-item items.Tight behind h = refl
words-item items.Line behind h = refl
words-item items.In behind h = refl
words-item items.Out behind h = refl

words-part : (i : Item) (behind : List Item) → is_part i ≡ true → words (i ∷ behind) ≡ []
words-part (items.Slot k) behind h = refl
words-part (items.Refers s) behind h = refl
words-part (items.Declares s) behind h = refl
words-part items.Number behind h = refl
words-part items.Text behind h = refl
words-part (items.Word w) behind h = absurd (false≢true h)
words-part items.Space behind h = absurd (false≢true h)
words-part items.Tight behind h = absurd (false≢true h)
words-part items.Line behind h = absurd (false≢true h)
words-part items.In behind h = absurd (false≢true h)
words-part items.Out behind h = absurd (false≢true h)

-- What is written of the words, and what is left to be written.
pub record AreLeft (all more : List Item) (start now : Writer) : Type 0 where
  pub adds : (new : Writer) → Adds (words more) now new → Adds (words all) start new
  pub rest : from_part more ≡ from_part all

pub left-all : (all : List Item) (w : Writer) → AreLeft all all w w
left-all all w = record { adds = λ new a. a; rest = refl }

pub left-item : (all rest : List Item) (i : Item) (behind : List Item) (start now next : Writer) → AreLeft all rest start now → rest ≡ i ∷ behind → is_part i ≡ false
    → Adds (piece i ∷ []) now next → AreLeft all behind start next
left-item all rest i behind start now next h e p a = record {
  adds = λ new b. h.adds new (subst (λ x. Adds x now new) (sym (ap words e ∙ words-item i behind p)) (adds-then a b));
  rest = sym (ap from_part e ∙ ap (λ b. cond b (i ∷ behind) (from_part behind)) p) ∙ h.rest;
}

pub left-part-adds : (all rest : List Item) (i : Item) (behind : List Item) (start now : Writer) → AreLeft all rest start now → rest ≡ i ∷ behind → is_part i ≡ true
    → Adds (words all) start now
left-part-adds all rest i behind start now h e p = h.adds now (subst (λ x. Adds x now now) (sym (ap words e ∙ words-part i behind p)) (adds-nothing now))

pub left-part-rest : (all rest : List Item) (i : Item) (behind : List Item) (start now : Writer) → AreLeft all rest start now → rest ≡ i ∷ behind → is_part i ≡ true
    → rest ≡ from_part all
left-part-rest all rest i behind start now h e p = e ∙ sym (ap from_part e ∙ ap (λ b. cond b (i ∷ behind) (from_part behind)) p) ∙ h.rest

pub left-end-adds : (all rest : List Item) (start now : Writer) → AreLeft all rest start now → length rest ≡ 0 → Adds (words all) start now
left-end-adds all rest start now h e = h.adds now (subst (λ x. Adds x now now) (sym (ap words (nil_from_length rest e))) (adds-nothing now))

pub left-end-rest : (all rest : List Item) (start now : Writer) → AreLeft all rest start now → length rest ≡ 0 → rest ≡ from_part all
left-end-rest all rest start now h e = nil_from_length rest e ∙ sym (ap from_part (nil_from_length rest e)) ∙ h.rest

short-cond : (b : Bool) (i : Item) (xs : List Item) → length (from_part xs) ≤ length xs → length (cond b (i ∷ xs) (from_part xs)) ≤ length (i ∷ xs)
short-cond true i xs h = omega arith
short-cond false i xs h = omega (arith, h)

pub short-from : (xs : List Item) → length (from_part xs) ≤ length xs
short-from [] = omega arith
short-from (i ∷ xs) = short-cond (is_part i) i xs (short-from xs)

pub short-behind : (xs : List Item) → length (behind_first xs) ≤ length xs
short-behind [] = omega arith
short-behind (i ∷ xs) = omega arith

-- ---- the operator of a tree

pub top-part : (f : Fragment) (p : Part) → top_operator (with_part f p) ≡ top_operator f
top-part f (Sub t) = refl
top-part f (Name n) = refl
top-part f (Number x) = refl
top-part f (Text t) = refl

pub top-parts : (f : Fragment) (ps : List Part) → top_operator (with_parts f ps) ≡ top_operator f
top-parts f [] = refl
top-parts f (p ∷ ps) = top-parts (with_part f p) ps ∙ top-part f p

pub operator-parts : (def : Definition) (o : ℕ) (ps : List Part) → operator_of def (with_parts (operator o) ps) ≡ operator_at def o
operator-parts def o ps = ap (option_and_then (operator_at def)) (top-parts (operator o) ps)

pub operator-node : (def : Definition) (s : Shape) (o : ℕ) (ps : List Part) (f : Fragment) → s ≡ Op o ps → tree_of s ≡ f → operator_at def o ≡ operator_of def f
operator-node def s o ps f e h = sym (operator-parts def o ps) ∙ ap (operator_of def) (sym (ap tree_of e) ∙ h)

no-operator : (def : Definition) (l : ℕ) (es : List Fragment) (u : Bool) → None ≡ operator_of def (list_of l es u)
no-operator def l [] u = refl
no-operator def l (e ∷ es) u = refl

pub operator-list : (def : Definition) (s : Shape) (l : ℕ) (es : List Fragment) (u : Bool) (f : Fragment) → s ≡ ListOf l es u → tree_of s ≡ f → None ≡ operator_of def f
operator-list def s l es u f e h = no-operator def l es u ∙ ap (operator_of def) (sym (ap tree_of e) ∙ h)

pub operator-hole : (def : Definition) (s : Shape) (p : ℕ) (f : Fragment) → s ≡ Hole p → tree_of s ≡ f → None ≡ operator_of def f
operator-hole def s p f e h = ap (operator_of def) (sym (ap tree_of e) ∙ h)

-- ---- between elements

pub between-none : (def : Definition) (l : ℕ) (es : List Fragment) (u : Bool) → (length es == 0 && not u) ≡ true → between def l (list_of l es u) ≡ []
between-none def l [] true h = absurd (false≢true h)
between-none def l [] false h = refl
between-none def l (e ∷ es) u h = absurd (false≢true (sym (ap (λ b. b && not u) (suc_is_not_zero (length es))) ∙ h))

pub between-some : (def : Definition) (l : ℕ) (es : List Fragment) (u : Bool) → (length es == 0 && not u) ≡ false → between def l (list_of l es u) ≡ separating (slice_get def.lists l)
between-some def l [] true h = refl
between-some def l [] false h = absurd (false≢true (sym h))
between-some def l (e ∷ es) u h = refl
