-- The two parts of a header's keys by a name, with their columns.
use Rattle.std.proofs.Common.{◌≡◌, ℕ, suc, ◌+◌, ◌≤◌, Bool, true, false, not, List, [], ◌∷◌, ◌++◌, length, drop, bytes_eq, slice_get, Some, refl, ap, ap₂, sym, ◌∙◌, append_assoc, arith}
use Rattle.std.proofs.lemmas.List.{append-nil, drop_all}
use Rattle.psg_terms.proofs.Lists.{drop_there}
use Rattle.psg_terms.specs.Names.{Name}
use Rattle.psg_scope.specs.declared.header.NameCol.{NameCol}
use Rattle.psg_scope.specs.Headers.{keep_if, keys}
use Rattle.psg_eval.specs.declared.renaming.Apart.{Apart}
use Rattle.psg_eval.specs.Renamed.{GrowsBy, moved_names, moved_places, other_names, other_places}

kept_append : {X : Type 0} (b : Bool) (x : X) (xs : List X) → keep_if b x [] ++ xs ≡ keep_if b x xs
kept_append true x xs = refl
kept_append false x xs = refl

same_end : {X : Type 0} (new old : List X) → new ≡ old → new ≡ old ++ []
same_end new old e = e ∙ sym (append-nil old)

piece_more : {X : Type 0} (old new piece rest more all : List X) → new ≡ old ++ piece → piece ++ rest ≡ more → old ++ more ≡ all → new ++ rest ≡ all
piece_more old new piece rest more all e f h = ap (λ l. l ++ rest) e ∙ append_assoc old piece rest ∙ ap (λ l. old ++ l) f ∙ h

module _ (from to : Name) where
  pub put_moved : (old new : Apart) (key : NameCol) (column : ℕ) → bytes_eq key.name from ≡ true
      → new.moved.items ≡ old.moved.items ++ record key { name = to } ∷ [] → new.moved_columns.items ≡ old.moved_columns.items ++ column ∷ []
      → new.others.items ≡ old.others.items → new.other_columns.items ≡ old.other_columns.items → GrowsBy from to old new key column
  put_moved old new key column e a b c d = record {
    moved = a ∙ ap (λ t. old.moved.items ++ keep_if t (record key { name = to }) []) (sym e);
    moved_columns = b ∙ ap (λ t. old.moved_columns.items ++ keep_if t column []) (sym e);
    others = same_end new.others.items old.others.items c ∙ ap (λ t. old.others.items ++ keep_if (not t) key []) (sym e);
    other_columns = same_end new.other_columns.items old.other_columns.items d ∙ ap (λ t. old.other_columns.items ++ keep_if (not t) column []) (sym e);
  }

  pub put_other : (old new : Apart) (key : NameCol) (column : ℕ) → bytes_eq key.name from ≡ false
      → new.moved.items ≡ old.moved.items → new.moved_columns.items ≡ old.moved_columns.items
      → new.others.items ≡ old.others.items ++ key ∷ [] → new.other_columns.items ≡ old.other_columns.items ++ column ∷ [] → GrowsBy from to old new key column
  put_other old new key column e a b c d = record {
    moved = same_end new.moved.items old.moved.items a ∙ ap (λ t. old.moved.items ++ keep_if t (record key { name = to }) []) (sym e);
    moved_columns = same_end new.moved_columns.items old.moved_columns.items b ∙ ap (λ t. old.moved_columns.items ++ keep_if t column []) (sym e);
    others = c ∙ ap (λ t. old.others.items ++ keep_if (not t) key []) (sym e);
    other_columns = d ∙ ap (λ t. old.other_columns.items ++ keep_if (not t) column []) (sym e);
  }

  module _ (names : List NameCol) where
    -- what is taken, and what of the keys from this one on is still to be taken, are the parts of all
    pub record IsApartUpTo (made : Apart) (i : ℕ) : Type 0 where
      pub moved : made.moved.items ++ moved_names from to (drop i names) ≡ moved_names from to names
      pub moved_columns : made.moved_columns.items ++ moved_places from (suc i) (drop i names) ≡ moved_places from 1 names
      pub others : made.others.items ++ other_names from (drop i names) ≡ other_names from names
      pub other_columns : made.other_columns.items ++ other_places from (suc i) (drop i names) ≡ other_places from 1 names

    pub none_apart : (made : Apart) → made.moved.items ≡ [] → made.moved_columns.items ≡ [] → made.others.items ≡ [] → made.other_columns.items ≡ [] → IsApartUpTo made 0
    none_apart made a b c d = record {
      moved = ap (λ l. l ++ moved_names from to names) a;
      moved_columns = ap (λ l. l ++ moved_places from 1 names) b;
      others = ap (λ l. l ++ other_names from names) c;
      other_columns = ap (λ l. l ++ other_places from 1 names) d;
    }

    module _ (old new : Apart) (i : ℕ) (key : NameCol) (column : ℕ) (s : IsApartUpTo old i) (at : slice_get names i ≡ Some key) (e : column ≡ suc i) (g : GrowsBy from to old new key column) where
      abbrev rest : List NameCol
      rest = drop (i + 1) names

      next : suc (i + 1) ≡ suc (suc i)
      next = omega arith

      whole : key ∷ rest ≡ drop i names
      whole = sym (drop_there names i key at)

      pub one_apart : IsApartUpTo new (i + 1)
      one_apart = record {
        moved = piece_more old.moved.items new.moved.items (moved_names from to (key ∷ [])) (moved_names from to rest) (moved_names from to (drop i names)) (moved_names from to names) g.moved
            (kept_append (bytes_eq key.name from) (record key { name = to }) (moved_names from to rest) ∙ ap (moved_names from to) whole) s.moved;
        moved_columns = piece_more old.moved_columns.items new.moved_columns.items (moved_places from column (key ∷ [])) (moved_places from (suc (i + 1)) rest) (moved_places from (suc i) (drop i names)) (moved_places from 1 names) g.moved_columns
            (kept_append (bytes_eq key.name from) column (moved_places from (suc (i + 1)) rest)
            ∙ ap₂ (λ n m. keep_if (bytes_eq key.name from) n (moved_places from m rest)) e next ∙ ap (moved_places from (suc i)) whole) s.moved_columns;
        others = piece_more old.others.items new.others.items (other_names from (key ∷ [])) (other_names from rest) (other_names from (drop i names)) (other_names from names) g.others
            (kept_append (not (bytes_eq key.name from)) key (other_names from rest) ∙ ap (other_names from) whole) s.others;
        other_columns = piece_more old.other_columns.items new.other_columns.items (other_places from column (key ∷ [])) (other_places from (suc (i + 1)) rest) (other_places from (suc i) (drop i names)) (other_places from 1 names) g.other_columns
            (kept_append (not (bytes_eq key.name from)) column (other_places from (suc (i + 1)) rest)
            ∙ ap₂ (λ n m. keep_if (not (bytes_eq key.name from)) n (other_places from m rest)) e next ∙ ap (other_places from (suc i)) whole) s.other_columns;
      }

    module _ (made : Apart) (i : ℕ) (h : length names ≤ i) (s : IsApartUpTo made i) where
      gone : [] ≡ drop i names
      gone = sym (drop_all i names h)

      pub all_moved : made.moved.items ≡ moved_names from to names
      all_moved = sym (append-nil made.moved.items) ∙ ap (λ l. made.moved.items ++ moved_names from to l) gone ∙ s.moved

      pub all_moved_columns : made.moved_columns.items ≡ moved_places from 1 names
      all_moved_columns = sym (append-nil made.moved_columns.items) ∙ ap (λ l. made.moved_columns.items ++ moved_places from (suc i) l) gone ∙ s.moved_columns

      pub all_others : made.others.items ≡ other_names from names
      all_others = sym (append-nil made.others.items) ∙ ap (λ l. made.others.items ++ other_names from l) gone ∙ s.others

      pub all_other_columns : made.other_columns.items ≡ other_places from 1 names
      all_other_columns = sym (append-nil made.other_columns.items) ∙ ap (λ l. made.other_columns.items ++ other_places from (suc i) l) gone ∙ s.other_columns

  -- ---- as many columns as keys

  kept_many : (b : Bool) (i : ℕ) (is : List ℕ) (c : NameCol) (cs : List NameCol) → length is ≡ length (keys cs) → length (keep_if b i is) ≡ length (keys (keep_if b c cs))
  kept_many true i is c cs e = omega (arith, e)
  kept_many false i is c cs e = e

  pub moved_many : (i : ℕ) (cols : List NameCol) → length (moved_places from i cols) ≡ length (keys (moved_names from to cols))
  moved_many i [] = refl
  moved_many i (c ∷ cols) = kept_many (bytes_eq c.name from) i (moved_places from (suc i) cols) (record c { name = to }) (moved_names from to cols) (moved_many (suc i) cols)

  pub other_many : (i : ℕ) (cols : List NameCol) → length (other_places from i cols) ≡ length (keys (other_names from cols))
  other_many i [] = refl
  other_many i (c ∷ cols) = kept_many (not (bytes_eq c.name from)) i (other_places from (suc i) cols) c (other_names from cols) (other_many (suc i) cols)
