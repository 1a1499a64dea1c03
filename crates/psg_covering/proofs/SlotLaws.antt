-- The slots of an operator's row, item by item.
use Rattle.std.proofs.Common.{◌≡◌, ℕ, zero, suc, ◌<◌, ◌+◌, List, [], ◌∷◌, ◌++◌, append_assoc, append-nil, drop, take, length, get_or, refl, sym, ap, ◌∙◌, arith}
use Rattle.psg_terms.proofs.Lists.{drop_item}
use Rattle.psg_terms.specs.Terms.{Term}
use Rattle.psg_grammar.specs.declared.types.Kind.{Kind}
use Rattle.psg_grammar.specs.declared.types.Item.{Item}
use Rattle.psg_grammar.specs.declared.types.Item.TheVariants as items
use Rattle.psg_covering.specs.Slots.{IsMoved, kinds_in, slot_kinds, slot_terms, tail_of}
use Rattle.psg_covering.proofs.Firsts.{drop_all}

kinds_first : (x : Item) (xs : List Item) → slot_kinds (x ∷ xs) ≡ kinds_in x ++ slot_kinds xs
kinds_first (items.Slot k) xs = refl
kinds_first (items.Word w) xs = refl
kinds_first (items.Refers s) xs = refl
kinds_first (items.Declares s) xs = refl
kinds_first items.Number xs = refl
kinds_first items.Text xs = refl
kinds_first items.Space xs = refl
kinds_first items.Tight xs = refl
kinds_first items.Line xs = refl
kinds_first items.In xs = refl
kinds_first items.Out xs = refl

kinds_next : (xs : List Item) (i : ℕ) (x : Item) → i < length xs → x ≡ get_or xs i x → slot_kinds (take i xs) ++ kinds_in x ≡ slot_kinds (take (suc i) xs)
kinds_next [] i x lt e = absurd (omega arith)
kinds_next (y ∷ xs) zero x lt e = ap kinds_in e ∙ sym (append-nil (kinds_in y)) ∙ sym (kinds_first y [])
kinds_next (y ∷ xs) (suc i) x lt e =
    ap (λ l. l ++ kinds_in x) (kinds_first y (take i xs)) ∙ append_assoc (kinds_in y) (slot_kinds (take i xs)) (kinds_in x)
    ∙ ap (λ l. kinds_in y ++ l) (kinds_next xs i x (omega arith) e) ∙ sym (kinds_first y (take (suc i) xs))

-- one more item
pub kinds_more : (xs : List Item) (i : ℕ) (x : Item) → i < length xs → x ≡ get_or xs i x → slot_kinds (take i xs) ++ kinds_in x ≡ slot_kinds (take (i + 1) xs)
kinds_more xs i x lt e = let same : suc i ≡ i + 1 = omega arith in kinds_next xs i x lt e ∙ ap (λ k. slot_kinds (take k xs)) same

-- ---- columns

no_terms : (xs : List Item) → slot_terms xs [] ≡ []
no_terms [] = refl
no_terms (items.Slot k ∷ xs) = refl
no_terms (items.Word w ∷ xs) = no_terms xs
no_terms (items.Refers s ∷ xs) = refl
no_terms (items.Declares s ∷ xs) = refl
no_terms (items.Number ∷ xs) = no_terms xs
no_terms (items.Text ∷ xs) = no_terms xs
no_terms (items.Space ∷ xs) = no_terms xs
no_terms (items.Tight ∷ xs) = no_terms xs
no_terms (items.Line ∷ xs) = no_terms xs
no_terms (items.In ∷ xs) = no_terms xs
no_terms (items.Out ∷ xs) = no_terms xs

pub moved_first : (item : Item) (k : Kind) (more : List Item) (terms columns new left : List Term) → item ≡ items.Slot k → IsMoved terms columns new left
    → terms ++ slot_terms (item ∷ more) columns ≡ new ++ slot_terms more left
moved_first item k more terms [] new left e (a, b) =
    ap (λ i. terms ++ slot_terms (i ∷ more) []) e ∙ ap (λ l. terms ++ l) (sym (no_terms more)) ∙ ap (λ l. l ++ slot_terms more []) (sym a) ∙ ap (λ l. new ++ slot_terms more l) (sym b)
moved_first item k more terms (t ∷ columns) new left e (a, b) =
    ap (λ i. terms ++ slot_terms (i ∷ more) (t ∷ columns)) e ∙ sym (append_assoc terms (t ∷ []) (slot_terms more columns)) ∙ ap (λ l. l ++ slot_terms more columns) (sym a)
    ∙ ap (λ l. new ++ slot_terms more l) (sym b)

refers_first : (s : ℕ) (more : List Item) (columns : List Term) → slot_terms (items.Refers s ∷ more) columns ≡ slot_terms more (tail_of columns)
refers_first s more [] = sym (no_terms more)
refers_first s more (t ∷ columns) = refl

declares_first : (s : ℕ) (more : List Item) (columns : List Term) → slot_terms (items.Declares s ∷ more) columns ≡ slot_terms more (tail_of columns)
declares_first s more [] = sym (no_terms more)
declares_first s more (t ∷ columns) = refl

pub passed_refers : (item : Item) (s : ℕ) (more : List Item) (terms columns left : List Term) → item ≡ items.Refers s → left ≡ tail_of columns
    → terms ++ slot_terms (item ∷ more) columns ≡ terms ++ slot_terms more left
passed_refers item s more terms columns left e d =
    ap (λ i. terms ++ slot_terms (i ∷ more) columns) e ∙ ap (λ l. terms ++ l) (refers_first s more columns) ∙ ap (λ l. terms ++ slot_terms more l) (sym d)

pub passed_declares : (item : Item) (s : ℕ) (more : List Item) (terms columns left : List Term) → item ≡ items.Declares s → left ≡ tail_of columns
    → terms ++ slot_terms (item ∷ more) columns ≡ terms ++ slot_terms more left
passed_declares item s more terms columns left e d =
    ap (λ i. terms ++ slot_terms (i ∷ more) columns) e ∙ ap (λ l. terms ++ l) (declares_first s more columns) ∙ ap (λ l. terms ++ slot_terms more l) (sym d)

pub passed_other : (item : Item) (more : List Item) (terms columns : List Term) → ((k : Kind) → item ≡ items.Slot k → ⊥) → ((s : ℕ) → item ≡ items.Refers s → ⊥)
    → ((s : ℕ) → item ≡ items.Declares s → ⊥) → terms ++ slot_terms (item ∷ more) columns ≡ terms ++ slot_terms more columns
passed_other (items.Slot k) more terms columns h i j = absurd (h k refl)
passed_other (items.Refers s) more terms columns h i j = absurd (i s refl)
passed_other (items.Declares s) more terms columns h i j = absurd (j s refl)
passed_other (items.Word w) more terms columns h i j = refl
passed_other items.Number more terms columns h i j = refl
passed_other items.Text more terms columns h i j = refl
passed_other items.Space more terms columns h i j = refl
passed_other items.Tight more terms columns h i j = refl
passed_other items.Line more terms columns h i j = refl
passed_other items.In more terms columns h i j = refl
passed_other items.Out more terms columns h i j = refl

pub row_more : (xs : List Item) (i : ℕ) (x : Item) (terms left new rest whole : List Term) → i < length xs → x ≡ get_or xs i x
    → ((more : List Item) → terms ++ slot_terms (x ∷ more) left ≡ new ++ slot_terms more rest) → terms ++ slot_terms (drop i xs) left ≡ whole
    → new ++ slot_terms (drop (i + 1) xs) rest ≡ whole
row_more xs i x terms left new rest whole lt e step before =
    sym (step (drop (i + 1) xs)) ∙ ap (λ l. terms ++ slot_terms l left) (sym (drop_item xs i x lt e)) ∙ before

pub row_end : (xs : List Item) (i : ℕ) (terms left whole : List Term) → i ≡ length xs → terms ++ slot_terms (drop i xs) left ≡ whole → terms ≡ whole
row_end xs i terms left whole e before = sym (append-nil terms) ∙ ap (λ l. terms ++ slot_terms l left) (sym (drop_all xs i e)) ∙ before
