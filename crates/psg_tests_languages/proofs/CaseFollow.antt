-- What may follow an expression and a list of sums, and what may not.
use Rattle.std.proofs.Common.{◌≡◌, ◌∙◌, ◌⊎◌, ◌++◌, ℕ, zero, suc, true, false, List, [], ◌∷◌, codes, Some, None, refl, sym, ap, subst, slice_get, true≢false, bytes_eq, inl, inr}
use Rattle.std.proofs.lemmas.Option.{none-some}
use Rattle.psg_terms.specs.Names.{Name}
use Rattle.psg_grammar.specs.declared.types.Kind.{Kind}
use Rattle.psg_grammar.specs.declared.types.Kind.TheVariants as kinds
use Rattle.psg_grammar.specs.declared.types.Item.{Item}
use Rattle.psg_grammar.specs.declared.types.Item.TheVariants as items
use Rattle.psg_grammar.specs.declared.types.Operator.{Operator}
use Rattle.psg_grammar.specs.declared.types.ListKind.{ListKind}
use Rattle.psg_grammar.specs.declared.types.Phylum.{Phylum}
use Rattle.psg_class.specs.Terminals.{item_terminal, Terminal, fixed, a_number, a_hole, open_bracket, close_bracket}
use Rattle.psg_class.specs.Places.{solid, is_own_last}
use Rattle.psg_class.specs.Follow.{Leads, Led, First, first_operator, first_hole, first_bracket, BeginsWith, CanBeEmpty, Inside, Follow, by_rest, by_end, by_led, by_separator, by_list, by_bracket}
use Rattle.psg_grammar.proofs.CaseLanguage.{sort_id}
use Rattle.psg_tests_languages.proofs.CaseSums.{sums, op_number, op_sum, op_all, list_all}

-- ---- what begins an expression

number_first : First sums 0 a_number
number_first = first_operator 0 record { o = op_number; found = refl; phylum = refl; item = items.Number; more = []; items = refl; begins = refl }

square_first : First sums 0 (fixed (codes "["))
square_first = first_operator 2 record { o = op_all; found = refl; phylum = refl; item = items.Word (codes "["); more = _; items = refl; begins = refl }

hole_first : First sums 0 (a_hole (codes "Exp"))
hole_first = first_hole _ refl (λ s. refl)

round_first : First sums 0 open_bracket
round_first = first_bracket _ refl refl

-- a sum is led by `+`
plus_led : Led sums 0 1 (fixed (codes "+"))
plus_led = record { o = op_sum; found = refl; phylum = refl; slot = kinds.Phylum 0; item = items.Word (codes "+"); more = _; items = refl; begins = refl }

abbrev exp : Phylum
exp = record { name = codes "Exp"; sort = sort_id 0; bracketed = true }

-- ---- what follows

-- the list in square brackets is followed by the closing one
list_in_all : Inside sums 2 (kinds.List 0) (items.Word (codes "]") ∷ [])
list_in_all = record { o = op_all; found = refl; first = items.Word (codes "["); front = []; items = refl }

square_follows_list : Follow sums (kinds.List 0) (fixed (codes "]"))
square_follows_list = by_rest 2 _ list_in_all refl

-- what follows a list follows its last element, and a separator follows each other one
square_follows : Follow sums (kinds.Phylum 0) (fixed (codes "]"))
square_follows = by_list 0 list_all refl refl square_follows_list

comma_follows : Follow sums (kinds.Phylum 0) (fixed (codes ","))
comma_follows = by_separator 0 list_all refl refl refl

round_follows : Follow sums (kinds.Phylum 0) close_bracket
round_follows = by_bracket _ refl refl refl

-- ---- `+` does not follow: it follows the first slot of a sum alone, which does not count, and the last slot is of the sum's own phylum

-- the slots that are not the first item of their operator, with the items after them
Places : Operator → Kind → List Item → Type 0
Places o kind after = ((o ≡ op_sum) × (kind ≡ kinds.Phylum 0) × (after ≡ [])) ⊎ ((o ≡ op_all) × (after ≡ items.Word (codes "]") ∷ []))

cons_apart : (x : Item) (xs front : List Item) → [] ≡ front ++ x ∷ xs → ⊥
cons_apart x xs [] e = cc
cons_apart x xs (y ∷ front) e = cc

-- which slot there is after the first item
in_sum : (kind : Kind) (after front : List Item) → items.Word (codes "+") ∷ items.Slot (kinds.Phylum 0) ∷ [] ≡ front ++ items.Slot kind ∷ after → (kind ≡ kinds.Phylum 0) × (after ≡ [])
in_sum kind after [] e = absurd (cc)
in_sum kind after (x ∷ []) e = (cc, cc)
in_sum kind after (x ∷ y ∷ front) e = absurd (cons_apart (items.Slot kind) after front (cc))

in_all : (kind : Kind) (after front : List Item) → items.Slot (kinds.List 0) ∷ items.Word (codes "]") ∷ [] ≡ front ++ items.Slot kind ∷ after → after ≡ items.Word (codes "]") ∷ []
in_all kind after [] e = cc
in_all kind after (x ∷ []) e = absurd (cc)
in_all kind after (x ∷ y ∷ front) e = absurd (cons_apart (items.Slot kind) after front (cc))

places : (n : ℕ) (kind : Kind) (after : List Item) (place : Inside sums n kind after) → Places place.o kind after
unfolding Places
places zero kind after place =
    let same : place.o ≡ op_number = let f : Some op_number ≡ Some place.o = place.found in cc in
    let all : items.Number ∷ [] ≡ place.first ∷ (place.front ++ items.Slot kind ∷ after) = subst (λ (o : Operator). solid o.items ≡ place.first ∷ (place.front ++ items.Slot kind ∷ after)) same place.items in
    absurd (cons_apart (items.Slot kind) after place.front (cc))
places (suc zero) kind after place =
    let same : place.o ≡ op_sum = let f : Some op_sum ≡ Some place.o = place.found in cc in
    let all : solid op_sum.items ≡ place.first ∷ (place.front ++ items.Slot kind ∷ after) = subst (λ (o : Operator). solid o.items ≡ place.first ∷ (place.front ++ items.Slot kind ∷ after)) same place.items in
    let (k, b) = in_sum kind after place.front (cc) in
    inl (same, k, b)
places (suc (suc zero)) kind after place =
    let same : place.o ≡ op_all = let f : Some op_all ≡ Some place.o = place.found in cc in
    let all : solid op_all.items ≡ place.first ∷ (place.front ++ items.Slot kind ∷ after) = subst (λ (o : Operator). solid o.items ≡ place.first ∷ (place.front ++ items.Slot kind ∷ after)) same place.items in
    inr (same, in_all kind after place.front (cc))
places (suc (suc (suc n))) kind after place = absurd (none-some place.o place.found)

-- such a slot has the closing bracket after it, or is the sum's own last one
no_open_end : (o : Operator) (kind : Kind) (after : List Item) → Places o kind after → CanBeEmpty after → is_own_last o kind after ≡ false → ⊥
unfolding Places
no_open_end o kind after (inl (same, k, b)) empty own =
    let one : is_own_last op_sum kind after ≡ false = subst (λ (p : Operator). is_own_last p kind after ≡ false) same own in
    let two : is_own_last op_sum (kinds.Phylum 0) after ≡ false = subst (λ p. is_own_last op_sum p after ≡ false) k one in
    true≢false (subst (λ p. is_own_last op_sum (kinds.Phylum 0) p ≡ false) b two)
no_open_end o kind after (inr (same, b)) empty own = subst CanBeEmpty b empty

begins_after : (o : Operator) (kind : Kind) (after : List Item) (terminal : Terminal) → Places o kind after → BeginsWith sums after terminal → terminal ≡ fixed (codes "]")
unfolding Places
begins_after o kind after terminal (inl (same, k, b)) begins = absurd (subst (λ p. BeginsWith sums p terminal) b begins)
begins_after o kind after terminal (inr (same, b)) begins = let e : Some (fixed (codes "]")) ≡ Some terminal = subst (λ p. BeginsWith sums p terminal) b begins in cc

words_apart : (w v : Name) (t : Terminal) → t ≡ fixed w → t ≡ fixed v → w ≡ v
words_apart w v t a b = let e : fixed w ≡ fixed v = sym a ∙ b in cc

plus_no_square : codes "+" ≡ codes "]" → ⊥
plus_no_square e = true≢false (ap (λ w. bytes_eq w (codes "+")) e)

plus_no_comma : codes "+" ≡ codes "," → ⊥
plus_no_comma e = true≢false (ap (λ w. bytes_eq w (codes "+")) e)

plus_no_round : codes "+" ≡ codes ")" → ⊥
plus_no_round e = true≢false (ap (λ w. bytes_eq w (codes "+")) e)

separator_is : (l : ℕ) (kind : ListKind) → slice_get sums.lists l ≡ Some kind → kind.separator ≡ codes ","
separator_is zero kind found = let same : kind ≡ list_all = let f : Some list_all ≡ Some kind = found in cc in ap (λ (k : ListKind). k.separator) same
separator_is (suc l) kind found = absurd (none-some kind found)

-- These three may follow an expression or a list, and nothing else.
only_these : {kind : Kind} {terminal : Terminal} → Follow sums kind terminal → (terminal ≡ fixed (codes "]")) ⊎ ((terminal ≡ fixed (codes ",")) ⊎ (terminal ≡ close_bracket))
only_these (by_rest n after place begins) = inl (begins_after place.o _ after _ (places n _ after place) begins)
only_these (by_end n after place empty own rest) = only_these rest
only_these (by_led n after place empty own m led) = absurd (no_open_end place.o _ after (places n _ after place) empty own)
only_these (by_separator l kind found element is) = inr (inl (is ∙ ap fixed (separator_is l kind found)))
only_these (by_list l kind found element rest) = only_these rest
only_these (by_bracket phylum found may is) = inr (inr is)

no_plus : (kind : Kind) → Follow sums kind (fixed (codes "+")) → ⊥
no_plus kind h = elim (only_these h) [
  | inl e ↦ plus_no_square (words_apart _ _ _ refl e)
  | inr (inl e) ↦ plus_no_comma (words_apart _ _ _ refl e)
  | inr (inr e) ↦ plus_no_round (words_apart _ _ _ refl e)
]

-- An expression begins with these four, and a sum leads with none of its own.
data IsFirstOf : Terminal → Type 0 where
  by_number : IsFirstOf a_number
  by_square : IsFirstOf (fixed (codes "["))
  by_hole : IsFirstOf (a_hole (codes "Exp"))
  by_round : IsFirstOf open_bracket

leads_are : (n : ℕ) (terminal : Terminal) → Leads sums 0 n terminal → IsFirstOf terminal
leads_are zero terminal h =
    let same : h.o ≡ op_number = let f : Some op_number ≡ Some h.o = h.found in cc in
    let all : items.Number ∷ [] ≡ h.item ∷ h.more = subst (λ (o : Operator). solid o.items ≡ h.item ∷ h.more) same h.items in
    let item : h.item ≡ items.Number = cc in
    let begins : Some a_number ≡ Some terminal = subst (λ (i : Item). item_terminal i ≡ Some terminal) item h.begins in
    let is : a_number ≡ terminal = cc in
    subst IsFirstOf is by_number
leads_are (suc zero) terminal h =
    let same : h.o ≡ op_sum = let f : Some op_sum ≡ Some h.o = h.found in cc in
    let all : solid op_sum.items ≡ h.item ∷ h.more = subst (λ (o : Operator). solid o.items ≡ h.item ∷ h.more) same h.items in
    let item : h.item ≡ items.Slot (kinds.Phylum 0) = cc in
    let begins : None ≡ Some terminal = subst (λ (i : Item). item_terminal i ≡ Some terminal) item h.begins in
    absurd (none-some terminal begins)
leads_are (suc (suc zero)) terminal h =
    let same : h.o ≡ op_all = let f : Some op_all ≡ Some h.o = h.found in cc in
    let all : solid op_all.items ≡ h.item ∷ h.more = subst (λ (o : Operator). solid o.items ≡ h.item ∷ h.more) same h.items in
    let item : h.item ≡ items.Word (codes "[") = cc in
    let begins : Some (fixed (codes "[")) ≡ Some terminal = subst (λ (i : Item). item_terminal i ≡ Some terminal) item h.begins in
    let is : fixed (codes "[") ≡ terminal = cc in
    subst IsFirstOf is by_square
leads_are (suc (suc (suc n))) terminal h = absurd (none-some h.o h.found)

only_first : (p : ℕ) (terminal : Terminal) → p ≡ 0 → First sums p terminal → IsFirstOf terminal
only_first p terminal e (first_operator n leads) = leads_are n terminal (subst (λ q. Leads sums q n terminal) e leads)
only_first p terminal e (first_hole phylum found holes) =
    let same : phylum ≡ exp = let f : Some exp ≡ Some phylum = subst (λ q. slice_get sums.phyla q ≡ Some phylum) e found in cc in
    subst (λ (k : Phylum). IsFirstOf (a_hole k.name)) (sym same) by_hole
only_first p terminal e (first_bracket phylum found may) = by_round
