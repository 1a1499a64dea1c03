-- What the parts of a line that a definition's file has say of the names of an exported one.
use Rattle.std.proofs.Common.{arith, ◌≡◌, ℕ, true, false, Option, Some, None, List, [], ◌∷◌, ◌++◌, drop, refl, ap, sym, ◌∙◌, subst, codes}
use Rattle.std.specs.Prelude.{bytes_eq}
use Rattle.std.specs.List.{AllByRecursion, list_all}
use Rattle.std.proofs.lemmas.Bool.{and_parts, false≢true, or_parts}
use Rattle.psg_terms.specs.Names.{Name, is_among}
use Rattle.psg_terms.proofs.DeclareLaws.{bytes_eq-refl}
use Rattle.psg_grammar.specs.Sound.{IsOwnName as IsTold, is_digit}
use Rattle.psg_deflines.specs.WrittenTerms.{WrittenTerm, variable, named, apply, term_parts, opened, HasTermForm, is_variable_name}
use Rattle.psg_deflines.specs.WrittenTrees.{WrittenTree, HasTreeForm, is_front, is_digits, quoted_part, place_parts}
use Rattle.psg_deflines.specs.WrittenTrees as trees
use Rattle.psg_deflines.specs.Forms.{columns_parts, terms_parts, by_parts, HasFormBehindBy}
use Rattle.psg_self.specs.Pieces.{is_broad, IsRun}
use Rattle.psg_self.proofs.QuoteOnce.{quoted-is}
use Rattle.psg_self.proofs.LinesLaid.{first_byte, own_words, IsOwnName, IsOwnTerm, IsOwnTree}

abbrev Parts : Type 0
Parts = List (List ℕ)

-- ---- all parts of a list

module _ (P : List ℕ → Type 0) where
  pub both : (xs ys : Parts) → AllByRecursion P xs → AllByRecursion P ys → AllByRecursion P (xs ++ ys)
  both [] ys h k = k
  both (x ∷ xs) ys h k = (h.0, both xs ys h.1 k)

  pub front : (xs ys : Parts) → AllByRecursion P (xs ++ ys) → AllByRecursion P xs
  front [] ys h = tt
  front (x ∷ xs) ys h = (h.0, front xs ys h.1)

  pub back : (xs ys : Parts) → AllByRecursion P (xs ++ ys) → AllByRecursion P ys
  back [] ys h = h
  back (x ∷ xs) ys h = back xs ys h.1

-- ---- what holds of the parts of terms and specimens that have their form

-- a run is a name of its form, and so is what follows a question mark
pub record IsNamed (p : List ℕ) : Type 0 where
  pub run : IsRun p → IsTold p
  pub variable : (n : List ℕ) → p ≡ 63 ∷ n → is_variable_name n ≡ true

no-run : (c : ℕ) (cs : List ℕ) → is_broad c ≡ false → IsRun (c ∷ cs) → ⊥
no-run c cs e r = false≢true (sym e ∙ (and_parts (is_broad c) (list_all is_broad cs) r.run).0)

byte-is : (c d : ℕ) (cs ds : List ℕ) → c ∷ cs ≡ d ∷ ds → c ≡ d
byte-is c d cs ds e = ap first_byte e

mark-named : (c : ℕ) (cs : List ℕ) → is_broad c ≡ false → (c ≡ 63 → ⊥) → IsNamed (c ∷ cs)
mark-named c cs e h = record {
  run = λ r. absurd (no-run c cs e r);
  variable = λ n f. absurd (h (byte-is c 63 cs n f));
}

told-named : (n : Name) → IsTold n → IsNamed n
told-named n h = record {
  run = λ r. h;
  variable = λ m e. absurd (false≢true (subst IsTold e h));
}

variable-named : (n : Name) → is_variable_name n ≡ true → IsNamed (63 ∷ n)
variable-named n h = record {
  run = λ r. absurd (no-run 63 n refl r);
  variable = λ m e. ap is_variable_name (sym (ap (drop 1) e)) ∙ h;
}

open-named : IsNamed (codes "(")
open-named = mark-named 40 [] refl (λ e. omega (arith, e))

comma-named : IsNamed (codes ",")
comma-named = mark-named 44 [] refl (λ e. omega (arith, e))

close-named : IsNamed (codes ")")
close-named = mark-named 41 [] refl (λ e. omega (arith, e))

colon-named : IsNamed (codes ":")
colon-named = mark-named 58 [] refl (λ e. omega (arith, e))

by-named : IsNamed (codes "by")
by-named = told-named (codes "by") refl

abbrev AreNamed : Parts → Type 0
AreNamed ps = AllByRecursion IsNamed ps

mutual
  term-named : (t : WrittenTerm) → HasTermForm t → AreNamed (term_parts t)
  term-named (variable n) h = (variable-named n h, tt)
  term-named (named n) h = (told-named n h, tt)
  term-named (apply f a) h =
      both IsNamed (opened f ++ term_parts a) (codes ")" ∷ []) (both IsNamed (opened f) (term_parts a) (opened-named f h.1) (term-named a h.2))
      (close-named, tt)

  opened-named : (t : WrittenTerm) → HasTermForm t → AreNamed (opened t)
  opened-named (variable n) h = (variable-named n h, (open-named, tt))
  opened-named (named n) h = (told-named n h, (open-named, tt))
  opened-named (apply f a) h =
      both IsNamed (opened f ++ term_parts a) (codes "," ∷ []) (both IsNamed (opened f) (term_parts a) (opened-named f h.1) (term-named a h.2))
      (comma-named, tt)

terms-named : (ts : List WrittenTerm) → AllByRecursion HasTermForm ts → AreNamed (terms_parts ts)
terms-named [] h = tt
terms-named (t ∷ ts) h = both IsNamed (term_parts t) (terms_parts ts) (term-named t h.0) (terms-named ts h.1)

pub columns-named : (ts : List WrittenTerm) → AllByRecursion HasTermForm ts → AreNamed (columns_parts ts)
columns-named [] h = tt
columns-named (t ∷ ts) h = (colon-named, terms-named (t ∷ ts) h)

pub row-named : (t : WrittenTerm) (ts : List WrittenTerm) → HasTermForm t → AllByRecursion HasTermForm ts
    → AreNamed (term_parts t ++ columns_parts ts)
row-named t ts h k = both IsNamed (term_parts t) (columns_parts ts) (term-named t h) (columns-named ts k)

-- ---- and back

mutual
  pub term-formed : (t : WrittenTerm) → IsOwnTerm t → AreNamed (term_parts t) → HasTermForm t
  term-formed (variable n) h k = k.0.variable n refl
  term-formed (named n) h k = k.0.run h.is_run
  term-formed (apply f a) h k =
      let inner = front IsNamed (opened f ++ term_parts a) (codes ")" ∷ []) k in
      (h.2, opened-formed f h.0 (front IsNamed (opened f) (term_parts a) inner), term-formed a h.1 (back IsNamed (opened f) (term_parts a) inner))

  opened-formed : (t : WrittenTerm) → IsOwnTerm t → AreNamed (opened t) → HasTermForm t
  opened-formed (variable n) h k = k.0.variable n refl
  opened-formed (named n) h k = k.0.run h.is_run
  opened-formed (apply f a) h k =
      let inner = front IsNamed (opened f ++ term_parts a) (codes "," ∷ []) k in
      (h.2, opened-formed f h.0 (front IsNamed (opened f) (term_parts a) inner), term-formed a h.1 (back IsNamed (opened f) (term_parts a) inner))

terms-formed : (ts : List WrittenTerm) → AllByRecursion IsOwnTerm ts → AreNamed (terms_parts ts) → AllByRecursion HasTermForm ts
terms-formed [] h k = tt
terms-formed (t ∷ ts) h k =
    (term-formed t h.0 (front IsNamed (term_parts t) (terms_parts ts) k), terms-formed ts h.1 (back IsNamed (term_parts t) (terms_parts ts) k))

pub columns-formed : (ts : List WrittenTerm) → AllByRecursion IsOwnTerm ts → AreNamed (columns_parts ts) → AllByRecursion HasTermForm ts
columns-formed [] h k = tt
columns-formed (t ∷ ts) h k = terms-formed (t ∷ ts) h k.1

-- ---- specimens: parts that an exported specimen can have

pub record IsSimple (p : List ℕ) : Type 0 where
  pub no_digit : is_digit (first_byte p) ≡ false
  pub no_hole : p ≡ codes "hole" → ⊥
  pub no_list : first_byte p ≡ 91 → ⊥
  pub no_sigil : first_byte p ≡ 36 → ⊥
  pub no_quote : first_byte p ≡ 34 → ⊥

not-hole : (n : Name) → is_among own_words n ≡ false → n ≡ codes "hole" → ⊥
not-hole n h e =
    false≢true (sym (or_parts (bytes_eq (codes "hole") n) (is_among (drop 1 own_words) n) h).0
    ∙ ap (bytes_eq (codes "hole")) e ∙ bytes_eq-refl (codes "hole"))

run-byte : (n : List ℕ) (c : ℕ) → IsRun n → is_broad c ≡ false → first_byte n ≡ c → ⊥
run-byte [] c r h e = omega (arith, r.long)
run-byte (d ∷ ds) c r h e = no-run d ds (ap is_broad e ∙ h) r

name-simple : (n : Name) → IsOwnName n → IsSimple n
name-simple n h = record {
  no_digit = h.no_digit;
  no_hole = not-hole n h.no_word;
  no_list = run-byte n 91 h.is_run refl;
  no_sigil = run-byte n 36 h.is_run refl;
  no_quote = run-byte n 34 h.is_run refl;
}

mark-simple : (c : ℕ) (cs : List ℕ) → is_digit c ≡ false → (c ≡ 104 → ⊥) → (c ≡ 91 → ⊥) → (c ≡ 36 → ⊥) → (c ≡ 34 → ⊥) → IsSimple (c ∷ cs)
mark-simple c cs d h l s q = record {
  no_digit = d;
  no_hole = λ e. h (ap first_byte e);
  no_list = l;
  no_sigil = s;
  no_quote = q;
}

open-simple : IsSimple (codes "(")
open-simple = mark-simple 40 [] refl (λ e. omega (arith, e)) (λ e. omega (arith, e)) (λ e. omega (arith, e)) (λ e. omega (arith, e))

comma-simple : IsSimple (codes ",")
comma-simple = mark-simple 44 [] refl (λ e. omega (arith, e)) (λ e. omega (arith, e)) (λ e. omega (arith, e)) (λ e. omega (arith, e))

close-simple : IsSimple (codes ")")
close-simple = mark-simple 41 [] refl (λ e. omega (arith, e)) (λ e. omega (arith, e)) (λ e. omega (arith, e)) (λ e. omega (arith, e))

by-simple : IsSimple (codes "by")
by-simple = mark-simple 98 (codes "y") refl (λ e. omega (arith, e)) (λ e. omega (arith, e)) (λ e. omega (arith, e)) (λ e. omega (arith, e))

variable-simple : (n : Name) → IsSimple (63 ∷ n)
variable-simple n = mark-simple 63 n refl (λ e. omega (arith, e)) (λ e. omega (arith, e)) (λ e. omega (arith, e)) (λ e. omega (arith, e))

abbrev AreSimple : Parts → Type 0
AreSimple ps = AllByRecursion IsSimple ps

mutual
  term-simple : (t : WrittenTerm) → IsOwnTerm t → AreSimple (term_parts t)
  term-simple (variable n) h = (variable-simple n, tt)
  term-simple (named n) h = (name-simple n h, tt)
  term-simple (apply f a) h =
      both IsSimple (opened f ++ term_parts a) (codes ")" ∷ []) (both IsSimple (opened f) (term_parts a) (opened-simple f h.0) (term-simple a h.1))
      (close-simple, tt)

  opened-simple : (t : WrittenTerm) → IsOwnTerm t → AreSimple (opened t)
  opened-simple (variable n) h = (variable-simple n, (open-simple, tt))
  opened-simple (named n) h = (name-simple n h, (open-simple, tt))
  opened-simple (apply f a) h =
      both IsSimple (opened f ++ term_parts a) (codes "," ∷ []) (both IsSimple (opened f) (term_parts a) (opened-simple f h.0) (term-simple a h.1))
      (comma-simple, tt)

mutual
  tree-simple : (t : WrittenTree) → IsOwnTree t → AreSimple (trees.tree_parts t)
  tree-simple (trees.operator o) h = (name-simple o h, tt)
  tree-simple (trees.with_tree f t) h =
      both IsSimple (trees.opened f ++ trees.tree_parts t) (codes ")" ∷ [])
      (both IsSimple (trees.opened f) (trees.tree_parts t) (front-simple f h.0) (tree-simple t h.1)) (close-simple, tt)
  tree-simple (trees.with_name f n) h = absurd h
  tree-simple (trees.with_number f d) h = absurd h
  tree-simple (trees.with_text f w) h = absurd h
  tree-simple trees.list_end h = absurd h
  tree-simple (trees.list_rest l t) h = absurd h
  tree-simple (trees.element e r) h = absurd h
  tree-simple (trees.place k t) h = absurd h

  front-simple : (t : WrittenTree) → IsOwnTree t → AreSimple (trees.opened t)
  front-simple (trees.operator o) h = (name-simple o h, (open-simple, tt))
  front-simple (trees.with_tree f t) h =
      both IsSimple (trees.opened f ++ trees.tree_parts t) (codes "," ∷ [])
      (both IsSimple (trees.opened f) (trees.tree_parts t) (front-simple f h.0) (tree-simple t h.1)) (comma-simple, tt)
  front-simple (trees.with_name f n) h = absurd h
  front-simple (trees.with_number f d) h = absurd h
  front-simple (trees.with_text f w) h = absurd h
  front-simple trees.list_end h = absurd h
  front-simple (trees.list_rest l t) h = absurd h
  front-simple (trees.element e r) h = absurd h
  front-simple (trees.place k t) h = absurd h

pub hole-simple : (t : WrittenTerm) (w : WrittenTree) → IsOwnTerm t → IsOwnTree w → AreSimple (term_parts t ++ by_parts (Some w))
hole-simple t w h k = both IsSimple (term_parts t) (by_parts (Some w)) (term-simple t h) (by-simple, tree-simple w k)

-- ---- a specimen with such parts has named ones

digits-byte : (d : List ℕ) → is_digits d ≡ true → is_digit (first_byte d) ≡ true
digits-byte [] h = absurd (false≢true h)
digits-byte (c ∷ d) h = (and_parts (is_digit c) (list_all is_digit d) h).0

last-of : (P : List ℕ → Type 0) (xs : Parts) (p q : List ℕ) → AllByRecursion P (xs ++ p ∷ q ∷ []) → P p
last-of P [] p q h = h.0
last-of P (x ∷ xs) p q h = last-of P xs p q h.1

mutual
  tree-named : (t : WrittenTree) → HasTreeForm t → AreSimple (trees.tree_parts t) → AreNamed (trees.tree_parts t)
  tree-named (trees.operator o) h s = (told-named o h, tt)
  tree-named (trees.with_tree f t) h s =
      let inner = front IsSimple (trees.opened f ++ trees.tree_parts t) (codes ")" ∷ []) s in
      both IsNamed (trees.opened f ++ trees.tree_parts t) (codes ")" ∷ [])
      (both IsNamed (trees.opened f) (trees.tree_parts t) (front-named f h.0 h.1 (front IsSimple (trees.opened f) (trees.tree_parts t) inner))
      (tree-named t h.2 (back IsSimple (trees.opened f) (trees.tree_parts t) inner))) (close-named, tt)
  tree-named (trees.with_name f n) h s = absurd ((last-of IsSimple (trees.opened f) (36 ∷ n) (codes ")") s).no_sigil refl)
  tree-named (trees.with_number f d) h s =
      absurd (false≢true (sym (last-of IsSimple (trees.opened f) d (codes ")") s).no_digit ∙ digits-byte d h.2))
  tree-named (trees.with_text f w) h s =
      absurd ((last-of IsSimple (trees.opened f) (quoted_part w) (codes ")") s).no_quote (ap first_byte (quoted-is w h.2.utf8)))
  tree-named trees.list_end h s = absurd (s.0.no_list refl)
  tree-named (trees.list_rest l t) h s = absurd (s.0.no_list refl)
  tree-named (trees.element e r) h s = absurd (s.0.no_list refl)
  tree-named (trees.place k t) h s = absurd (s.0.no_hole refl)

  front-named : (t : WrittenTree) → is_front t ≡ true → HasTreeForm t → AreSimple (trees.opened t) → AreNamed (trees.opened t)
  front-named (trees.operator o) q h s = (told-named o h, (open-named, tt))
  front-named (trees.with_tree f t) q h s =
      let inner = front IsSimple (trees.opened f ++ trees.tree_parts t) (codes "," ∷ []) s in
      both IsNamed (trees.opened f ++ trees.tree_parts t) (codes "," ∷ [])
      (both IsNamed (trees.opened f) (trees.tree_parts t) (front-named f h.0 h.1 (front IsSimple (trees.opened f) (trees.tree_parts t) inner))
      (tree-named t h.2 (back IsSimple (trees.opened f) (trees.tree_parts t) inner))) (comma-named, tt)
  front-named (trees.with_name f n) q h s = absurd ((last-of IsSimple (trees.opened f) (36 ∷ n) (codes ",") s).no_sigil refl)
  front-named (trees.with_number f d) q h s =
      absurd (false≢true (sym (last-of IsSimple (trees.opened f) d (codes ",") s).no_digit ∙ digits-byte d h.2))
  front-named (trees.with_text f w) q h s =
      absurd ((last-of IsSimple (trees.opened f) (quoted_part w) (codes ",") s).no_quote (ap first_byte (quoted-is w h.2.utf8)))
  front-named trees.list_end q h s = absurd (false≢true q)
  front-named (trees.list_rest l t) q h s = absurd (false≢true q)
  front-named (trees.element e r) q h s = absurd (false≢true q)
  front-named (trees.place k t) q h s = absurd (false≢true q)

by-all-named : (w : Option WrittenTree) → HasFormBehindBy w → AreSimple (by_parts w) → AreNamed (by_parts w)
by-all-named None h s = tt
by-all-named (Some w) h s = (by-named, tree-named w h s.1)

pub hole-named : (t : WrittenTerm) (w : Option WrittenTree) → HasTermForm t → HasFormBehindBy w → AreSimple (term_parts t ++ by_parts w)
    → AreNamed (term_parts t ++ by_parts w)
hole-named t w h k s =
    both IsNamed (term_parts t) (by_parts w) (term-named t h) (by-all-named w k (back IsSimple (term_parts t) (by_parts w) s))

mutual
  pub tree-formed : (t : WrittenTree) → IsOwnTree t → AreNamed (trees.tree_parts t) → HasTreeForm t
  tree-formed (trees.operator o) h k = k.0.run h.is_run
  tree-formed (trees.with_tree f t) h k =
      let inner = front IsNamed (trees.opened f ++ trees.tree_parts t) (codes ")" ∷ []) k in
      let before = front-formed f h.0 (front IsNamed (trees.opened f) (trees.tree_parts t) inner) in
      (before.0, before.1, tree-formed t h.1 (back IsNamed (trees.opened f) (trees.tree_parts t) inner))
  tree-formed (trees.with_name f n) h k = absurd h
  tree-formed (trees.with_number f d) h k = absurd h
  tree-formed (trees.with_text f w) h k = absurd h
  tree-formed trees.list_end h k = absurd h
  tree-formed (trees.list_rest l t) h k = absurd h
  tree-formed (trees.element e r) h k = absurd h
  tree-formed (trees.place q t) h k = absurd h

  front-formed : (t : WrittenTree) → IsOwnTree t → AreNamed (trees.opened t) → (is_front t ≡ true) × HasTreeForm t
  front-formed (trees.operator o) h k = (refl, k.0.run h.is_run)
  front-formed (trees.with_tree f t) h k =
      let inner = front IsNamed (trees.opened f ++ trees.tree_parts t) (codes "," ∷ []) k in
      let before = front-formed f h.0 (front IsNamed (trees.opened f) (trees.tree_parts t) inner) in
      (refl, (before.0, before.1, tree-formed t h.1 (back IsNamed (trees.opened f) (trees.tree_parts t) inner)))
  front-formed (trees.with_name f n) h k = absurd h
  front-formed (trees.with_number f d) h k = absurd h
  front-formed (trees.with_text f w) h k = absurd h
  front-formed trees.list_end h k = absurd h
  front-formed (trees.list_rest l t) h k = absurd h
  front-formed (trees.element e r) h k = absurd h
  front-formed (trees.place q t) h k = absurd h
