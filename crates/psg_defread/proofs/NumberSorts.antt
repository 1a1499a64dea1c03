-- The sorts and constructors of a signature are written as they are in the file that spelled it.
use Rattle.std.proofs.Common.{◌≡◌, ◌≢◌, ℕ, ◌+◌, ◌<◌, ◌≤◌, ◌==◌, true, false, cond, List, [], ◌∷◌, ◌++◌, map, refl, ap, ap₂, sym, ◌∙◌, subst, append-nil, append_assoc, arith}
use Rattle.std.specs.List.{AllByRecursion}
use Rattle.std.proofs.lemmas.Bool.{eq-eqb, ne_eqb}
use Rattle.psg_terms.proofs.Lists.{each_append}
use Rattle.psg_terms.specs.Names.{Name, has_twice}
use Rattle.psg_terms.specs.Signature.{Symbol}
use Rattle.psg_terms.specs.Declarations.{Numbered, with_sort, in_order, AreNamed, AreSpelled, IsSpelled}
use Rattle.psg_terms.specs.Declarations as declared
use Rattle.psg_terms.specs.declared.declare.ConDecl.{ConDecl}
use Rattle.psg_terms.specs.declared.declare.SortDecl.{SortDecl}
use Rattle.psg_grammar.specs.declared.types.Definition.{Definition}
use Rattle.psg_deflines.specs.declared.lines.Line.{Line}
use Rattle.psg_deflines.specs.declared.lines.Line.TheVariants as lines
use Rattle.psg_defcheck.specs.Scopes.{sort_names, constructor_names, names_of}
use Rattle.psg_defnumber.specs.Numbers.{sort_decls}
use Rattle.psg_defread.specs.Layout.{rank}
use Rattle.psg_defread.specs.WrittenLines.{lines_of, sort_name, sort_lines, constructors_written}
use Rattle.psg_defread.proofs.NumberAll.{all-mapped}
use Rattle.psg_defread.proofs.NumberNames.{name-found}
use Rattle.psg_defread.proofs.Blocks.{from_entities, last-blocks}

abbrev HasSort : ℕ → Symbol → Type 0
HasSort n s = s.sort ≡ n

abbrev IsAtLeast : ℕ → Symbol → Type 0
IsAtLeast n s = n ≤ s.sort

abbrev IsBelow : ℕ → Symbol → Type 0
IsBelow n s = s.sort < n

abbrev IsOther : ℕ → Symbol → Type 0
IsOther n s = s.sort ≢ n

-- ---- spelled in two parts

record IsSplit (sorts : List Name) (cs ds : List Numbered) (xs : List Symbol) : Type 0 where
  front : List Symbol
  behind : List Symbol
  whole : xs ≡ front ++ behind
  of_front : AreSpelled sorts cs front
  of_behind : AreSpelled sorts ds behind

split-spelled : (sorts : List Name) (cs ds : List Numbered) (xs : List Symbol) → AreSpelled sorts (cs ++ ds) xs
    → IsSplit sorts cs ds xs
split-spelled sorts [] ds xs h = record { front = []; behind = xs; whole = refl; of_front = tt; of_behind = h }
split-spelled sorts (c ∷ cs) ds [] h = absurd h
split-spelled sorts (c ∷ cs) ds (x ∷ xs) h =
    let s = split-spelled sorts cs ds xs h.1 in
    record {
      front = x ∷ s.front;
      behind = s.behind;
      whole = ap (λ l. x ∷ l) s.whole;
      of_front = (h.0, s.of_front);
      of_behind = s.of_behind;
    }

-- ---- the sorts of spelled symbols

sort-spelled : (sorts : List Name) (n : ℕ) (cs : List ConDecl) (xs : List Symbol)
    → AreSpelled sorts (with_sort n cs) xs → AllByRecursion (HasSort n) xs
sort-spelled sorts n [] [] h = tt
sort-spelled sorts n [] (x ∷ xs) h = absurd h
sort-spelled sorts n (c ∷ cs) [] h = absurd h
sort-spelled sorts n (c ∷ cs) (x ∷ xs) h = (h.0.sort, sort-spelled sorts n cs xs h.1)

from-spelled : (sorts : List Name) (n : ℕ) (ds : List SortDecl) (xs : List Symbol)
    → AreSpelled sorts (in_order n ds) xs → AllByRecursion (IsAtLeast n) xs
from-spelled sorts n [] [] h = tt
from-spelled sorts n [] (x ∷ xs) h = absurd h
from-spelled sorts n (d ∷ ds) xs h =
    let s = split-spelled sorts (with_sort n d.constructors) (in_order (n + 1) ds) xs h in
    let own = all-mapped (HasSort n) (IsAtLeast n) (λ x e. omega (arith, e)) s.front
    (sort-spelled sorts n d.constructors s.front s.of_front) in
    let more = all-mapped (IsAtLeast (n + 1)) (IsAtLeast n) (λ x e. omega (arith, e)) s.behind
    (from-spelled sorts (n + 1) ds s.behind s.of_behind) in
    subst (AllByRecursion (IsAtLeast n)) (sym s.whole) (each_append (IsAtLeast n) s.front s.behind own more)

-- ---- the names that sorts declare

names-of : (ls : List Line) → sort_names ls ≡ declared.sort_names (sort_decls ls)
names-of [] = refl
names-of (lines.Sort d ∷ rest) = ap (λ l. d.name ∷ l) (names-of rest)
names-of (line ∷ rest) = names-of rest

abbrev made_in : List SortDecl → List Name
made_in [] = []
made_in (d ∷ ds) = names_of d.constructors ++ made_in ds

constructors-of : (ls : List Line) → constructor_names ls ≡ made_in (sort_decls ls)
constructors-of [] = refl
constructors-of (lines.Sort d ∷ rest) = ap (λ l. names_of d.constructors ++ l) (constructors-of rest)
constructors-of (line ∷ rest) = constructors-of rest

module _ (def : Definition) where
  -- the constructors of a sort among symbols
  abbrev written : ℕ → List Symbol → List ConDecl
  written n xs = constructors_written def n xs

  abbrev one : Symbol → ConDecl
  one s = record { name = s.name; args = map (sort_name def) s.arguments }

  written-other : (n : ℕ) (xs : List Symbol) → AllByRecursion (IsOther n) xs → written n xs ≡ []
  written-other n [] h = refl
  written-other n (s ∷ xs) h =
      ap (λ b. cond b (one s ∷ written n xs) (written n xs)) (ne_eqb s.sort n h.0) ∙ written-other n xs h.1

  written-append : (n : ℕ) (xs ys : List Symbol) → written n (xs ++ ys) ≡ written n xs ++ written n ys
  written-append n [] ys = refl
  written-append n (s ∷ xs) ys =
      let more = written-append n xs ys in
      elim (s.sort == n) as (λ b. cond b (one s ∷ written n (xs ++ ys)) (written n (xs ++ ys))
      ≡ cond b (one s ∷ written n xs) (written n xs) ++ written n ys) [
        | true ↦ ap (λ l. one s ∷ l) more
        | false ↦ more
      ]

  named-back : (names : List Name) (args : List ℕ) → AreNamed def.signature.sorts names args
      → map (sort_name def) args ≡ names
  named-back [] [] h = refl
  named-back [] (s ∷ ss) h = absurd h
  named-back (n ∷ ns) [] h = absurd h
  named-back (n ∷ ns) (s ∷ ss) h =
      ap₂ (λ x xs. x ∷ xs) (name-found (λ m. m) def.signature.sorts s n h.0) (named-back ns ss h.1)

  own-written : (n : ℕ) (cs : List ConDecl) (xs : List Symbol) → AreSpelled def.signature.sorts (with_sort n cs) xs
      → written n xs ≡ cs
  own-written n [] [] h = refl
  own-written n [] (x ∷ xs) h = absurd h
  own-written n (c ∷ cs) [] h = absurd h
  own-written n (c ∷ cs) (x ∷ xs) h =
      let same : one x ≡ c = ap₂ (λ (m : Name) (args : List Name). record { name = m; args = args }) h.0.name
      (named-back c.args x.arguments h.0.arguments) in
      ap (λ b. cond b (one x ∷ written n xs) (written n xs)) (eq-eqb x.sort n h.0.sort)
      ∙ ap₂ (λ d ds. d ∷ ds) same (own-written n cs xs h.1)

  -- the declarations of the sorts from the number on
  abbrev pub decls : ℕ → List Name → List SortDecl
  decls n [] = []
  decls n (name ∷ rest) =
      record { name = name; constructors = written n def.signature.symbols } ∷ decls (n + 1) rest

  middle : (n : ℕ) (front xs behind : List Symbol) → def.signature.symbols ≡ front ++ (xs ++ behind)
      → AllByRecursion (IsBelow n) front → AllByRecursion (IsAtLeast (n + 1)) behind
      → written n def.signature.symbols ≡ written n xs
  middle n front xs behind e below above =
      let none = written-other n front
      (all-mapped (IsBelow n) (IsOther n) (λ x h same. omega (arith, h, same)) front below) in
      let rest = written-other n behind
      (all-mapped (IsAtLeast (n + 1)) (IsOther n) (λ x h same. omega (arith, h, same)) behind above) in
      let last = written-append n xs behind ∙ ap (λ l. written n xs ++ l) rest ∙ append-nil (written n xs) in
      ap (written n) e ∙ written-append n front (xs ++ behind) ∙ ap (λ l. l ++ written n (xs ++ behind)) none ∙ last

  decls-again : (n : ℕ) (ds : List SortDecl) (front xs : List Symbol) → def.signature.symbols ≡ front ++ xs
      → AllByRecursion (IsBelow n) front → AreSpelled def.signature.sorts (in_order n ds) xs
      → decls n (declared.sort_names ds) ≡ ds
  decls-again n [] front xs e below h = refl
  decls-again n (d ∷ ds) front xs e below h =
      let sorts = def.signature.sorts in
      let s = split-spelled sorts (with_sort n d.constructors) (in_order (n + 1) ds) xs h in
      let parted = e ∙ ap (λ l. front ++ l) s.whole in
      let own = all-mapped (HasSort n) (IsBelow (n + 1)) (λ x k. omega (arith, k)) s.front
      (sort-spelled sorts n d.constructors s.front s.of_front) in
      let old = all-mapped (IsBelow n) (IsBelow (n + 1)) (λ x k. omega (arith, k)) front below in
      let joined = parted ∙ sym (append_assoc front s.front s.behind) in
      let more = decls-again (n + 1) ds (front ++ s.front) s.behind joined
      (each_append (IsBelow (n + 1)) front s.front old own) s.of_behind in
      let same = middle n front s.front s.behind parted below (from-spelled sorts (n + 1) ds s.behind s.of_behind)
      ∙ own-written n d.constructors s.front s.of_front in
      ap₂ (λ (cs : List ConDecl) (rest : List SortDecl). record { name = d.name; constructors = cs } ∷ rest) same more

  -- ---- in the lines

  decls-in : (n : ℕ) (names : List Name) (tail : List Line) → sort_decls tail ≡ []
      → sort_decls (sort_lines def n names ++ tail) ≡ decls n names
  decls-in n [] tail none = none
  decls-in n (name ∷ rest) tail none =
      let more = decls-in (n + 1) rest tail none in
      ap (λ l. record { name = name; constructors = written n def.signature.symbols } ∷ l) more

  decls-step : (line : Line) (rest : List Line) → rank line ≢ 0 → sort_decls rest ≡ [] → sort_decls (line ∷ rest) ≡ []
  decls-step (lines.Sort d) rest h e = absurd (h refl)
  decls-step line rest h e = e

  abbrev IsFree : ℕ → Type 0
  IsFree r = r ≢ 0

  free : (r : ℕ) → 1 ≤ r → r ≢ 0
  free r h e = omega (arith, h, e)

  decls-are : sort_decls (lines_of def) ≡ decls 0 def.signature.sorts
  decls-are = decls-in 0 def.signature.sorts (from_entities def)
      (last-blocks 1 IsFree (λ ls. sort_decls ls ≡ []) decls-step def free refl)

  module _ (file : List Line) (spelled : IsSpelled (sort_decls file) def.signature) where
    -- the sorts are written as they are in the file
    pub decls-same : decls 0 def.signature.sorts ≡ sort_decls file
    decls-same =
        ap (decls 0) spelled.sorts ∙ decls-again 0 (sort_decls file) [] def.signature.symbols refl tt
        (subst (λ names. AreSpelled names (in_order 0 (sort_decls file)) def.signature.symbols) (sym spelled.sorts)
        spelled.symbols)

    lines-same : sort_decls (lines_of def) ≡ sort_decls file
    lines-same = decls-are ∙ decls-same

    pub signature-again : IsSpelled (sort_decls (lines_of def)) def.signature
    signature-again = subst (λ ds. IsSpelled ds def.signature) (sym lines-same) spelled

    pub sort-names-are : sort_names (lines_of def) ≡ def.signature.sorts
    sort-names-are = names-of (lines_of def) ∙ ap declared.sort_names lines-same ∙ sym spelled.sorts

    pub constructors-once : has_twice (constructor_names file) ≡ false
        → has_twice (constructor_names (lines_of def)) ≡ false
    constructors-once once =
        ap has_twice (constructors-of (lines_of def) ∙ ap made_in lines-same ∙ sym (constructors-of file)) ∙ once

    pub sorts-once : has_twice (sort_names file) ≡ false → has_twice (sort_names (lines_of def)) ≡ false
    sorts-once once =
        ap has_twice (names-of (lines_of def) ∙ ap declared.sort_names lines-same ∙ sym (names-of file)) ∙ once
