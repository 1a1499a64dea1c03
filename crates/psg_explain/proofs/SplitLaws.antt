-- What items take of names and terms.
use Rattle.std.proofs.Common.{◌≡◌, ◌+◌, ◌<◌, ℕ, zero, suc, Bool, List, [], ◌∷◌, ◌++◌, take, drop, get_or, length, Some, None, slice_get, refl, ap, sym, ◌∙◌, append_assoc}
use Rattle.psg_terms.specs.Names.{Name}
use Rattle.psg_terms.specs.Terms.{Term}
use Rattle.psg_terms.proofs.Lists.{drop_item, drop_there}
use Rattle.psg_grammar.specs.declared.types.Item.{Item}
use Rattle.psg_grammar.specs.declared.types.Item.TheVariants as items
use Rattle.psg_grammar.specs.declared.types.Kind.{Kind}
use Rattle.psg_scope.specs.declared.header.NameCol.{NameCol}
use Rattle.psg_eval.specs.OwnRows.{name_terms, positions, slot_terms}
use Rattle.psg_explain.specs.Splits.{first_position, item_name, item_position, item_slot, names_left, terms_left}

-- ---- the next one

pub none_left : {X : Type 0} (xs : List X) (i : ℕ) → slice_get xs i ≡ None → drop i xs ≡ []
none_left [] zero h = refl
none_left [] (suc i) h = refl
none_left (x ∷ xs) zero h = absurd (cc)
none_left (x ∷ xs) (suc i) h = none_left xs i h

pub one_left : {X : Type 0} (xs : List X) (i : ℕ) (x : X) → slice_get xs i ≡ Some x → drop (i + 1) xs ≡ drop 1 (drop i xs)
one_left xs i x h = ap (drop 1) (sym (drop_there xs i x h))

pub nothing_left : {X : Type 0} (xs : List X) (i : ℕ) → slice_get xs i ≡ None → drop i xs ≡ drop 1 (drop i xs)
nothing_left xs i h = none_left xs i h ∙ ap (drop 1) (sym (none_left xs i h))

pub first_there : {X : Type 0} (xs : List X) (i : ℕ) (x : X) → slice_get xs i ≡ Some x → take 1 (drop i xs) ≡ x ∷ []
first_there xs i x h = ap (take 1) (drop_there xs i x h)

pub position_there : (s : ℕ) (declares : Bool) (names : List Name) (i : ℕ) (n : Name) → slice_get names i ≡ Some n
    → first_position s declares (drop i names) ≡ record { space = s; name = n; declared = declares } ∷ []
position_there s declares names i n h = ap (first_position s declares) (drop_there names i n h)

pub position_none : (s : ℕ) (declares : Bool) (names : List Name) (i : ℕ) → slice_get names i ≡ None → first_position s declares (drop i names) ≡ []
position_none s declares names i h = ap (first_position s declares) (none_left names i h)

pub first_none : {X : Type 0} (xs : List X) (i : ℕ) → slice_get xs i ≡ None → take 1 (drop i xs) ≡ []
first_none xs i h = ap (take 1) (none_left xs i h)

-- ---- items

pub no_positions : (is : List Item) → positions is [] ≡ []
no_positions [] = refl
no_positions (items.Refers s ∷ is) = refl
no_positions (items.Declares s ∷ is) = refl
no_positions (items.Word w ∷ is) = no_positions is
no_positions (items.Slot k ∷ is) = no_positions is
no_positions (items.Number ∷ is) = no_positions is
no_positions (items.Text ∷ is) = no_positions is
no_positions (items.Space ∷ is) = no_positions is
no_positions (items.Tight ∷ is) = no_positions is
no_positions (items.Line ∷ is) = no_positions is
no_positions (items.In ∷ is) = no_positions is
no_positions (items.Out ∷ is) = no_positions is

item_positions : (item : Item) (is : List Item) (names : List Name) → positions (item ∷ is) names ≡ item_position item names ++ positions is (names_left item names)
item_positions (items.Refers s) is [] = sym (no_positions is)
item_positions (items.Refers s) is (n ∷ names) = refl
item_positions (items.Declares s) is [] = sym (no_positions is)
item_positions (items.Declares s) is (n ∷ names) = refl
item_positions (items.Word w) is names = refl
item_positions (items.Slot k) is names = refl
item_positions items.Number is names = refl
item_positions items.Text is names = refl
item_positions items.Space is names = refl
item_positions items.Tight is names = refl
item_positions items.Line is names = refl
item_positions items.In is names = refl
item_positions items.Out is names = refl

no_slots : (is : List Item) → slot_terms is [] ≡ []
no_slots [] = refl
no_slots (items.Refers s ∷ is) = refl
no_slots (items.Declares s ∷ is) = refl
no_slots (items.Slot k ∷ is) = refl
no_slots (items.Word w ∷ is) = no_slots is
no_slots (items.Number ∷ is) = no_slots is
no_slots (items.Text ∷ is) = no_slots is
no_slots (items.Space ∷ is) = no_slots is
no_slots (items.Tight ∷ is) = no_slots is
no_slots (items.Line ∷ is) = no_slots is
no_slots (items.In ∷ is) = no_slots is
no_slots (items.Out ∷ is) = no_slots is

no_names : (is : List Item) → name_terms is [] ≡ []
no_names [] = refl
no_names (items.Refers s ∷ is) = refl
no_names (items.Declares s ∷ is) = refl
no_names (items.Slot k ∷ is) = refl
no_names (items.Word w ∷ is) = no_names is
no_names (items.Number ∷ is) = no_names is
no_names (items.Text ∷ is) = no_names is
no_names (items.Space ∷ is) = no_names is
no_names (items.Tight ∷ is) = no_names is
no_names (items.Line ∷ is) = no_names is
no_names (items.In ∷ is) = no_names is
no_names (items.Out ∷ is) = no_names is

item_slots : (item : Item) (is : List Item) (ts : List Term) → slot_terms (item ∷ is) ts ≡ item_slot item ts ++ slot_terms is (terms_left item ts)
item_slots (items.Slot k) is [] = sym (no_slots is)
item_slots (items.Slot k) is (t ∷ ts) = refl
item_slots (items.Refers s) is [] = sym (no_slots is)
item_slots (items.Refers s) is (t ∷ ts) = refl
item_slots (items.Declares s) is [] = sym (no_slots is)
item_slots (items.Declares s) is (t ∷ ts) = refl
item_slots (items.Word w) is ts = refl
item_slots items.Number is ts = refl
item_slots items.Text is ts = refl
item_slots items.Space is ts = refl
item_slots items.Tight is ts = refl
item_slots items.Line is ts = refl
item_slots items.In is ts = refl
item_slots items.Out is ts = refl

item_names : (item : Item) (is : List Item) (ts : List Term) → name_terms (item ∷ is) ts ≡ item_name item ts ++ name_terms is (terms_left item ts)
item_names (items.Slot k) is [] = sym (no_names is)
item_names (items.Slot k) is (t ∷ ts) = refl
item_names (items.Refers s) is [] = sym (no_names is)
item_names (items.Refers s) is (t ∷ ts) = refl
item_names (items.Declares s) is [] = sym (no_names is)
item_names (items.Declares s) is (t ∷ ts) = refl
item_names (items.Word w) is ts = refl
item_names items.Number is ts = refl
item_names items.Text is ts = refl
item_names items.Space is ts = refl
item_names items.Tight is ts = refl
item_names items.Line is ts = refl
item_names items.In is ts = refl
item_names items.Out is ts = refl

-- ---- one item more

-- what was there and what the item adds, and what is still to come
added : {X : Type 0} (old new whole mine rest back : List X) → new ≡ old ++ mine → back ≡ mine ++ rest → old ++ back ≡ whole → new ++ rest ≡ whole
added old new whole mine rest back made is now = ap (λ l. l ++ rest) made ∙ append_assoc old mine rest ∙ ap (λ l. old ++ l) (sym is) ∙ now

module _ (is : List Item) (i : ℕ) (item : Item) (lt : i < length is) (at : item ≡ get_or is i item) where
  pub positions_next : (names : List Name) (next n : ℕ) (old new whole : List NameCol) → new ≡ old ++ item_position item (drop next names) → drop n names ≡ names_left item (drop next names)
      → old ++ positions (drop i is) (drop next names) ≡ whole → new ++ positions (drop (i + 1) is) (drop n names) ≡ whole
  positions_next names next n old new whole made left now =
      added old new whole (item_position item (drop next names)) (positions (drop (i + 1) is) (drop n names)) (positions (drop i is) (drop next names)) made
      (ap (λ l. positions l (drop next names)) (drop_item is i item lt at) ∙ item_positions item (drop (i + 1) is) (drop next names)
      ∙ ap (λ l. item_position item (drop next names) ++ positions (drop (i + 1) is) l) (sym left)) now

  pub slots_next : (ts : List Term) (next n : ℕ) (old new whole : List Term) → new ≡ old ++ item_slot item (drop next ts) → drop n ts ≡ terms_left item (drop next ts)
      → old ++ slot_terms (drop i is) (drop next ts) ≡ whole → new ++ slot_terms (drop (i + 1) is) (drop n ts) ≡ whole
  slots_next ts next n old new whole made left now =
      added old new whole (item_slot item (drop next ts)) (slot_terms (drop (i + 1) is) (drop n ts)) (slot_terms (drop i is) (drop next ts)) made
      (ap (λ l. slot_terms l (drop next ts)) (drop_item is i item lt at) ∙ item_slots item (drop (i + 1) is) (drop next ts)
      ∙ ap (λ l. item_slot item (drop next ts) ++ slot_terms (drop (i + 1) is) l) (sym left)) now

  pub names_next : (ts : List Term) (next n : ℕ) (old new whole : List Term) → new ≡ old ++ item_name item (drop next ts) → drop n ts ≡ terms_left item (drop next ts)
      → old ++ name_terms (drop i is) (drop next ts) ≡ whole → new ++ name_terms (drop (i + 1) is) (drop n ts) ≡ whole
  names_next ts next n old new whole made left now =
      added old new whole (item_name item (drop next ts)) (name_terms (drop (i + 1) is) (drop n ts)) (name_terms (drop i is) (drop next ts)) made
      (ap (λ l. name_terms l (drop next ts)) (drop_item is i item lt at) ∙ item_names item (drop (i + 1) is) (drop next ts)
      ∙ ap (λ l. item_name item (drop next ts) ++ name_terms (drop (i + 1) is) l) (sym left)) now

-- an item that is none of these
pub other_position : (item : Item) (names : List Name) → ((s : ℕ) → item ≡ items.Refers s → ⊥) → ((s : ℕ) → item ≡ items.Declares s → ⊥)
    → (item_position item names ≡ []) × (names_left item names ≡ names)
other_position (items.Refers s) names h k = absurd (h s refl)
other_position (items.Declares s) names h k = absurd (k s refl)
other_position _ names h k = (refl, refl)

pub other_column : (item : Item) (ts : List Term) → ((k : Kind) → item ≡ items.Slot k → ⊥) → ((s : ℕ) → item ≡ items.Refers s → ⊥) → ((s : ℕ) → item ≡ items.Declares s → ⊥)
    → (item_slot item ts ≡ []) × (item_name item ts ≡ []) × (terms_left item ts ≡ ts)
other_column (items.Slot k) ts g h j = absurd (g k refl)
other_column (items.Refers s) ts g h j = absurd (h s refl)
other_column (items.Declares s) ts g h j = absurd (j s refl)
other_column _ ts g h j = (refl, refl, refl)
