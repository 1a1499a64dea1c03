-- The walk over an operator's items, item by item: what remains of them completes what is found.
use Rattle.std.proofs.Common.{◌≡◌, ℕ, ◌+◌, ◌<◌, ◌≤◌, suc, Bool, true, false, List, [], ◌∷◌, ◌++◌, length, drop, get_or, refl, ap, ap₂, sym, subst, ◌∙◌, append_assoc, length-drop, arith}
use Rattle.std.proofs.lemmas.List.{append-nil}
use Rattle.psg_terms.proofs.Lists.{drop_item}
use Rattle.psg_terms.specs.Names.{Name}
use Rattle.psg_grammar.specs.declared.types.Definition.{Definition}
use Rattle.psg_grammar.specs.declared.types.Item.{Item}
use Rattle.psg_grammar.specs.declared.types.Item.TheVariants as items
use Rattle.psg_grammar.specs.declared.types.Kind.{Kind}
use Rattle.psg_scope.specs.declared.header.NameCol.{NameCol}
use Rattle.psg_eval.specs.Own.{name_columns, slot_columns}
use Rattle.psg_eval.specs.OwnRows.{positions}
use Rattle.psg_eval.specs.Summaries.{are_names}

-- how many names the items have, in any definition
abbrev pub names_count : List Item → ℕ
names_count [] = 0
names_count (items.Refers s ∷ rest) = suc (names_count rest)
names_count (items.Declares s ∷ rest) = suc (names_count rest)
names_count (_ ∷ rest) = names_count rest

pub names_counted : (def : Definition) (xs : List Item) → length (are_names def xs) ≡ names_count xs
names_counted def [] = refl
names_counted def (items.Refers s ∷ xs) = ap suc (names_counted def xs)
names_counted def (items.Declares s ∷ xs) = ap suc (names_counted def xs)
names_counted def (_ ∷ xs) = names_counted def xs

-- the items before this one are walked, the next of the names and the next column are these
pub record IsFoundUpTo (xs : List Item) (names : List Name) (i column next : ℕ) (ps : List NameCol) (ns ss : List ℕ) : Type 0 where
  pub positions_are : positions xs names ≡ ps ++ positions (drop i xs) (drop next names)
  pub names_are : name_columns 1 xs ≡ ns ++ name_columns column (drop i xs)
  pub slots_are : slot_columns 1 xs ≡ ss ++ slot_columns column (drop i xs)
  pub fits : names_count (drop i xs) ≡ length (drop next names)
  pub few : column ≤ i + 1

pub found_none : (def : Definition) (xs : List Item) (names : List Name) (ps : List NameCol) (ns ss : List ℕ) → length (are_names def xs) ≡ length names → ps ≡ [] → ns ≡ [] → ss ≡ []
    → IsFoundUpTo xs names 0 1 0 ps ns ss
found_none def xs names ps ns ss fits p n s = record {
  positions_are = ap (λ l. l ++ positions xs names) (sym p);
  names_are = ap (λ l. l ++ name_columns 1 xs) (sym n);
  slots_are = ap (λ l. l ++ slot_columns 1 xs) (sym s);
  fits = sym (names_counted def xs) ∙ fits;
  few = omega arith;
}

pub found_all : (xs : List Item) (names : List Name) (i column next : ℕ) (ps : List NameCol) (ns ss : List ℕ) → IsFoundUpTo xs names i column next ps ns ss → drop i xs ≡ []
    → (ps ≡ positions xs names) × (ns ≡ name_columns 1 xs) × (ss ≡ slot_columns 1 xs)
found_all xs names i column next ps ns ss f e = (
  sym (f.positions_are ∙ ap (λ l. ps ++ positions l (drop next names)) e ∙ append-nil ps),
  sym (f.names_are ∙ ap (λ l. ns ++ name_columns column l) e ∙ append-nil ns),
  sym (f.slots_are ∙ ap (λ l. ss ++ slot_columns column l) e ∙ append-nil ss),
)

abbrev pub Named : Item → ℕ → Bool → Type 0
Named (items.Refers s) t declared = (s ≡ t) × (declared ≡ false)
Named (items.Declares s) t declared = (s ≡ t) × (declared ≡ true)
Named _ t declared = ⊥

abbrev pub IsOther : Item → Type 0
IsOther (items.Slot k) = ⊥
IsOther (items.Refers s) = ⊥
IsOther (items.Declares s) = ⊥
IsOther _ = Unit {0}

pub is_other : (item : Item) → ((k : Kind) → item ≡ items.Slot k → ⊥) → ((s : ℕ) → item ≡ items.Refers s → ⊥) → ((s : ℕ) → item ≡ items.Declares s → ⊥) → IsOther item
is_other (items.Slot k) h i j = h k refl
is_other (items.Refers s) h i j = i s refl
is_other (items.Declares s) h i j = j s refl
is_other _ h i j = tt

module _ (xs : List Item) (names : List Name) (i column next : ℕ) (ps : List NameCol) (ns ss : List ℕ) (f : IsFoundUpTo xs names i column next ps ns ss) where
  one_more : (cs : List ℕ) (rest : List ℕ → List ℕ) → cs ++ (column ∷ rest cs) ≡ (cs ++ column ∷ []) ++ rest cs
  one_more cs rest = sym (append_assoc cs (column ∷ []) (rest cs))

  next_column : suc column ≡ column + 1
  next_column = omega arith

  pub found_slot : (k : Kind) → drop i xs ≡ items.Slot k ∷ drop (i + 1) xs → (more : List ℕ) → more ≡ ss ++ column ∷ [] → IsFoundUpTo xs names (i + 1) (column + 1) next ps ns more
  found_slot k e more m = record {
    positions_are = f.positions_are ∙ ap (λ l. ps ++ positions l (drop next names)) e;
    names_are = f.names_are ∙ ap (λ l. ns ++ name_columns column l) e ∙ ap (λ n. ns ++ name_columns n (drop (i + 1) xs)) next_column;
    slots_are = f.slots_are ∙ ap (λ l. ss ++ slot_columns column l) e ∙ sym (append_assoc ss (column ∷ []) (slot_columns (suc column) (drop (i + 1) xs)))
        ∙ ap₂ (λ l n. l ++ slot_columns n (drop (i + 1) xs)) (sym m) next_column;
    fits = sym (ap names_count e) ∙ f.fits;
    few = let h = f.few in omega arith;
  }

  pub found_name : (s : ℕ) (declared : Bool) (item : Item) → Named item s declared → drop i xs ≡ item ∷ drop (i + 1) xs → (name : Name) → drop next names ≡ name ∷ drop (next + 1) names
      → (col : NameCol) → col ≡ record { space = s; name = name; declared = declared } → (ps' : List NameCol) (ns' ss' : List ℕ) → ps' ≡ ps ++ col ∷ [] → ns' ≡ ns ++ column ∷ [] → ss' ≡ ss
      → IsFoundUpTo xs names (i + 1) (column + 1) (next + 1) ps' ns' ss'
  found_name s declared item named e name d col is ps' ns' ss' p n q = step item named e
    where
      columns_are : name_columns 1 xs ≡ ns ++ (column ∷ name_columns (suc column) (drop (i + 1) xs)) → name_columns 1 xs ≡ ns' ++ name_columns (column + 1) (drop (i + 1) xs)
      columns_are h = h ∙ sym (append_assoc ns (column ∷ []) (name_columns (suc column) (drop (i + 1) xs))) ∙ ap₂ (λ l n. l ++ name_columns n (drop (i + 1) xs)) (sym n) next_column

      slots_same : slot_columns 1 xs ≡ ss ++ slot_columns (suc column) (drop (i + 1) xs) → slot_columns 1 xs ≡ ss' ++ slot_columns (column + 1) (drop (i + 1) xs)
      slots_same h = h ∙ ap₂ (λ l n. l ++ slot_columns n (drop (i + 1) xs)) (sym q) next_column

      positions_more : (c : NameCol) → c ≡ col → positions xs names ≡ ps ++ (c ∷ positions (drop (i + 1) xs) (drop (next + 1) names)) → positions xs names ≡ ps' ++ positions (drop (i + 1) xs) (drop (next + 1) names)
      positions_more c e h = h ∙ sym (append_assoc ps (c ∷ []) (positions (drop (i + 1) xs) (drop (next + 1) names)))
          ∙ ap (λ l. l ++ positions (drop (i + 1) xs) (drop (next + 1) names)) (ap (λ x. ps ++ x ∷ []) e ∙ sym p)

      fits_more : suc (names_count (drop (i + 1) xs)) ≡ length (drop next names) → names_count (drop (i + 1) xs) ≡ length (drop (next + 1) names)
      fits_more h = omega (arith, h, ap length d)

      step : (x : Item) → Named x s declared → drop i xs ≡ x ∷ drop (i + 1) xs → IsFoundUpTo xs names (i + 1) (column + 1) (next + 1) ps' ns' ss'
      step (items.Refers t) (et, ed) e = record {
        positions_are = positions_more (record { space = t; name = name; declared = false })
            (ap₂ (λ a b. let c : NameCol = record { space = a; name = name; declared = b } in c) et (sym ed) ∙ sym is)
            (f.positions_are ∙ ap₂ (λ l m. ps ++ positions l m) e d);
        names_are = columns_are (f.names_are ∙ ap (λ l. ns ++ name_columns column l) e);
        slots_are = slots_same (f.slots_are ∙ ap (λ l. ss ++ slot_columns column l) e);
        fits = fits_more (sym (ap names_count e) ∙ f.fits);
        few = let h = f.few in omega arith;
      }
      step (items.Declares t) (et, ed) e = record {
        positions_are = positions_more (record { space = t; name = name; declared = true })
            (ap₂ (λ a b. let c : NameCol = record { space = a; name = name; declared = b } in c) et (sym ed) ∙ sym is)
            (f.positions_are ∙ ap₂ (λ l m. ps ++ positions l m) e d);
        names_are = columns_are (f.names_are ∙ ap (λ l. ns ++ name_columns column l) e);
        slots_are = slots_same (f.slots_are ∙ ap (λ l. ss ++ slot_columns column l) e);
        fits = fits_more (sym (ap names_count e) ∙ f.fits);
        few = let h = f.few in omega arith;
      }
      step _ h e = absurd h

  pub found_other : (item : Item) → IsOther item → drop i xs ≡ item ∷ drop (i + 1) xs → IsFoundUpTo xs names (i + 1) column next ps ns ss
  found_other (items.Slot k) h e = absurd h
  found_other (items.Refers s) h e = absurd h
  found_other (items.Declares s) h e = absurd h
  found_other _ h e = record {
    positions_are = f.positions_are ∙ ap (λ l. ps ++ positions l (drop next names)) e;
    names_are = f.names_are ∙ ap (λ l. ns ++ name_columns column l) e;
    slots_are = f.slots_are ∙ ap (λ l. ss ++ slot_columns column l) e;
    fits = sym (ap names_count e) ∙ f.fits;
    few = let h = f.few in omega arith;
  }

  -- there is a name for a name position
  pub name_there : (s : ℕ) (declared : Bool) (item : Item) → Named item s declared → drop i xs ≡ item ∷ drop (i + 1) xs → next < length names
  name_there s declared (items.Refers t) h e = let m = sym (ap names_count e) ∙ f.fits in omega (arith, m, length-drop next names)
  name_there s declared (items.Declares t) h e = let m = sym (ap names_count e) ∙ f.fits in omega (arith, m, length-drop next names)
  name_there s declared _ h e = absurd h

-- the item and the name that the loop is at
pub item_at : (xs : List Item) (i : ℕ) (x y : Item) → i < length xs → x ≡ get_or xs i x → x ≡ y → drop i xs ≡ y ∷ drop (i + 1) xs
item_at xs i x y l e d = drop_item xs i x l e ∙ ap (λ z. z ∷ drop (i + 1) xs) d

pub settled : (xs : List Item) (names : List Name) (i column next c n : ℕ) (ps : List NameCol) (ns ss : List ℕ) → c ≡ column → n ≡ next → IsFoundUpTo xs names i column next ps ns ss → IsFoundUpTo xs names i c n ps ns ss
settled xs names i column next c n ps ns ss ec en f = subst (λ k. IsFoundUpTo xs names i k n ps ns ss) (sym ec) (subst (λ k. IsFoundUpTo xs names i column k ps ns ss) (sym en) f)

-- each name position has a column
pub columns_many : (xs : List Item) (names : List Name) (n : ℕ) → names_count xs ≡ length names → length (name_columns n xs) ≡ length (positions xs names)
columns_many [] names n e = refl
columns_many (items.Slot k ∷ xs) names n e = columns_many xs names (suc n) e
columns_many (items.Refers s ∷ xs) [] n e = absurd (omega arith)
columns_many (items.Refers s ∷ xs) (name ∷ names) n e = ap suc (columns_many xs names (suc n) (omega arith))
columns_many (items.Declares s ∷ xs) [] n e = absurd (omega arith)
columns_many (items.Declares s ∷ xs) (name ∷ names) n e = ap suc (columns_many xs names (suc n) (omega arith))
columns_many (_ ∷ xs) names n e = columns_many xs names n e
