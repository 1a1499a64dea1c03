-- Laws of name positions and slots.
use Rattle.std.proofs.Common.{◌≡◌, ℕ, zero, suc, ◌+◌, ◌<◌, List, [], ◌∷◌, ◌++◌, length, take, get_or, cond, refl, sym, ap, ◌∙◌, arith, append-nil, append_assoc}
use Rattle.std.specs.Prelude.{count_by}
use Rattle.std.specs.List.{AllByRecursion}
use Rattle.std.proofs.lemmas.List.Recursion.{is_count_by}
use Rattle.psg_grammar.specs.declared.types.Item.{Item}
use Rattle.psg_grammar.specs.declared.types.Item.TheVariants as items
use Rattle.psg_grammar.specs.Levels.{is_name_position}
use Rattle.psg_specimen.specs.Conditions.{IsNamePosition, slot_kinds}
use Rattle.psg_specimen.specs.Tables.{slots_of}

abbrev names_in : List Item → ℕ
names_in [] = 0
names_in (x ∷ xs) = cond (is_name_position x) (1 + names_in xs) (names_in xs)

names_counted : (xs : List Item) → names_in xs ≡ count_by is_name_position xs
names_counted = is_count_by names_in is_name_position refl (λ x xs. refl)

none_in : (xs : List Item) → names_in xs ≡ 0 → AllByRecursion (λ i. IsNamePosition i → ⊥) xs
none_in [] e = tt
none_in (items.Slot k ∷ xs) e = (λ x. x, none_in xs e)
none_in (items.Word w ∷ xs) e = (λ x. x, none_in xs e)
none_in (items.Refers s ∷ xs) e = absurd (let h : 1 + names_in xs ≡ 0 = e in omega (arith, h))
none_in (items.Declares s ∷ xs) e = absurd (let h : 1 + names_in xs ≡ 0 = e in omega (arith, h))
none_in (items.Number ∷ xs) e = (λ x. x, none_in xs e)
none_in (items.Text ∷ xs) e = (λ x. x, none_in xs e)
none_in (items.Space ∷ xs) e = (λ x. x, none_in xs e)
none_in (items.Tight ∷ xs) e = (λ x. x, none_in xs e)
none_in (items.Line ∷ xs) e = (λ x. x, none_in xs e)
none_in (items.In ∷ xs) e = (λ x. x, none_in xs e)
none_in (items.Out ∷ xs) e = (λ x. x, none_in xs e)

in_none : (xs : List Item) → AllByRecursion (λ i. IsNamePosition i → ⊥) xs → names_in xs ≡ 0
in_none [] h = refl
in_none (items.Slot k ∷ xs) h = in_none xs h.1
in_none (items.Word w ∷ xs) h = in_none xs h.1
in_none (items.Refers s ∷ xs) h = absurd (h.0 tt)
in_none (items.Declares s ∷ xs) h = absurd (h.0 tt)
in_none (items.Number ∷ xs) h = in_none xs h.1
in_none (items.Text ∷ xs) h = in_none xs h.1
in_none (items.Space ∷ xs) h = in_none xs h.1
in_none (items.Tight ∷ xs) h = in_none xs h.1
in_none (items.Line ∷ xs) h = in_none xs h.1
in_none (items.In ∷ xs) h = in_none xs h.1
in_none (items.Out ∷ xs) h = in_none xs h.1

pub none_counted : (xs : List Item) → count_by is_name_position xs ≡ 0 → AllByRecursion (λ i. IsNamePosition i → ⊥) xs
none_counted xs e = none_in xs (names_counted xs ∙ e)

pub count_none : (xs : List Item) → AllByRecursion (λ i. IsNamePosition i → ⊥) xs → count_by is_name_position xs ≡ 0
count_none xs h = sym (names_counted xs) ∙ in_none xs h

-- ---- slots

slot_first : (x : Item) (xs : List Item) → slot_kinds (x ∷ xs) ≡ slots_of x ++ slot_kinds xs
slot_first (items.Slot k) xs = refl
slot_first (items.Word w) xs = refl
slot_first (items.Refers s) xs = refl
slot_first (items.Declares s) xs = refl
slot_first items.Number xs = refl
slot_first items.Text xs = refl
slot_first items.Space xs = refl
slot_first items.Tight xs = refl
slot_first items.Line xs = refl
slot_first items.In xs = refl
slot_first items.Out xs = refl

slots_next : (xs : List Item) (i : ℕ) (x : Item) → i < length xs → x ≡ get_or xs i x → slot_kinds (take i xs) ++ slots_of x ≡ slot_kinds (take (suc i) xs)
slots_next [] i x lt e = absurd (omega arith)
slots_next (y ∷ xs) zero x lt e = ap slots_of e ∙ sym (append-nil (slots_of y)) ∙ sym (slot_first y [])
slots_next (y ∷ xs) (suc i) x lt e =
    ap (λ l. l ++ slots_of x) (slot_first y (take i xs)) ∙ append_assoc (slots_of y) (slot_kinds (take i xs)) (slots_of x)
    ∙ ap (λ l. slots_of y ++ l) (slots_next xs i x (omega arith) e) ∙ sym (slot_first y (take (suc i) xs))

-- one more item
pub slots_more : (xs : List Item) (i : ℕ) (x : Item) → i < length xs → x ≡ get_or xs i x → slot_kinds (take i xs) ++ slots_of x ≡ slot_kinds (take (i + 1) xs)
slots_more xs i x lt e = let same : suc i ≡ i + 1 = omega arith in slots_next xs i x lt e ∙ ap (λ k. slot_kinds (take k xs)) same
