-- The lines that write a definition declare each part of it.
use Rattle.std.proofs.Common.{◌≡◌, ◌≢◌, IsTrue, is_some, inl, inr, true, false, cond, ℕ, zero, suc, ◌+◌, ◌≤◌, ◌==◌, Option, Some, None, List, [], ◌∷◌, ◌++◌, length, map, slice_get, refl, ap, sym, ◌∙◌, subst, arith}
use Rattle.std.specs.Prelude.{bytes_eq}
use Rattle.std.specs.List.{flat_map}
use Rattle.std.proofs.lemmas.Bool.{false≢true, eq-eqb, ne_eqb, or_parts}
use Rattle.psg_terms.proofs.Lists.{each_at, slice_get-map_some}
use Rattle.psg_terms.specs.Names.{Name, is_among, has_twice}
use Rattle.psg_terms.specs.Signature.{Symbol}
use Rattle.psg_terms.proofs.DeclareLaws.{bytes_eq-refl, is_among-at, has_twice-front}
use Rattle.psg_grammar.specs.declared.types.Phylum.{Phylum}
use Rattle.psg_grammar.specs.declared.types.ListKind.{ListKind}
use Rattle.psg_grammar.specs.declared.types.Operator.{Operator}
use Rattle.psg_grammar.specs.declared.types.Row.{Row}
use Rattle.psg_grammar.specs.declared.types.Space.{Space}
use Rattle.psg_grammar.specs.declared.types.Definition.{Definition}
use Rattle.psg_grammar.specs.Sound.{IsSound, IsOwnName, HasSpaceSort}
use Rattle.psg_deflines.specs.declared.lines.Line.{Line}
use Rattle.psg_deflines.specs.declared.lines.Line.TheVariants as lines
use Rattle.psg_defread.proofs.NumberNames.{name-found}
use Rattle.psg_defcheck.specs.Scopes.{sort_names, sort_declared, Constructor, constructor_among, constructor_declared, KindDecl, a_phylum, kind_declared, OpDecl, operator_declared, entity_sort, space_declared, space_sort}
use Rattle.psg_defread.specs.Layout.{rank}
use Rattle.psg_defread.specs.WrittenLines.{lines_of, sort_name, space_name, sort_lines, space_line, phylum_line, list_line, row_line, operator_lines}
use Rattle.psg_defread.proofs.Blocks.{from_entities, from_phyla, from_lists, from_operators, from_nils, flat-front, first-blocks}
use Rattle.psg_defread.proofs.PassedTests.{once-at, once-first, once-rest, once-before, once-back}
use Rattle.psg_defread.proofs.PassedDeclared.{Declares, constructor_written, of_sort, with_front, sort_written, symbol_told, list_told, operator_written, sort-at}
use Rattle.psg_defread.proofs.NumberTerms.{closed-sort}

module _ (def : Definition) where
  -- ---- sorts

  sorts-in : (n : ℕ) (names : List Name) (tail : List Line) (i : ℕ) (m : Name) → has_twice names ≡ false
      → slice_get names i ≡ Some m
      → sort_declared (sort_lines def n names ++ tail) m ≡ Some (sort_written def (n + i) m)
  sorts-in n [] tail i m once e = absurd (let f : None ≡ Some m = e in cc)
  sorts-in n (x ∷ names) tail zero m once e =
      let same : m ≡ x = let f : Some x ≡ Some m = e in cc in
      let place : n ≡ n + 0 = omega arith in
      subst (λ y. sort_declared (sort_lines def n (x ∷ names) ++ tail) y ≡ Some (sort_written def (n + 0) y))
      (sym same) (
      ap (λ b. cond b (Some (sort_written def n x)) (sort_declared (sort_lines def (n + 1) names ++ tail) x))
      (bytes_eq-refl x) ∙ ap (λ k. Some (sort_written def k x)) place
      )
  sorts-in n (x ∷ names) tail (suc i) m once e =
      let place : (n + 1) + i ≡ n + suc i = omega arith in
      ap (λ b. cond b (Some (sort_written def n x)) (sort_declared (sort_lines def (n + 1) names ++ tail) m))
      (once-at x names i m once e)
      ∙ sorts-in (n + 1) names tail i m (once-rest x names once) e
      ∙ ap (λ k. Some (sort_written def k m)) place

  -- ---- constructors

  abbrev named : List Symbol → List Name
  named xs = map (λ (x : Symbol). x.name) xs

  -- the constructor of a sort of the name
  abbrev made_by : Name → Symbol → Constructor
  made_by sort s = (sort, constructor_written def s)

  -- no constructor of the name
  missing : (sort : Name) (k : ℕ) (xs : List Symbol) (n : Name) (behind : Option Constructor)
      → is_among (named xs) n ≡ false → constructor_among sort (of_sort def k xs) n behind ≡ behind
  missing sort k [] n behind h = refl
  missing sort k (x ∷ xs) n behind h =
      let both = or_parts (bytes_eq x.name n) (is_among (named xs) n) h in
      let rest = missing sort k xs n behind both.1 in
      elim (x.sort == k) as (λ b. constructor_among sort (with_front def b x k xs) n behind ≡ behind) [
        | true ↦
            ap (λ b. cond b (Some (made_by sort x)) (constructor_among sort (of_sort def k xs) n behind))
            both.0 ∙ rest
        | false ↦ rest
      ]

  -- a constructor is not in the line of another sort
  other-sort : (sort : Name) (k : ℕ) (xs : List Symbol) (c : ℕ) (s : Symbol) (behind : Option Constructor)
      → has_twice (named xs) ≡ false → slice_get xs c ≡ Some s → s.sort ≢ k
      → constructor_among sort (of_sort def k xs) s.name behind ≡ behind
  other-sort sort k [] c s behind once e other = absurd (let f : None ≡ Some s = e in cc)
  other-sort sort k (x ∷ xs) zero s behind once e other =
      let same : x ≡ s = let f : Some x ≡ Some s = e in cc in
      let test = ne_eqb x.sort k (λ f. other (ap (λ (y : Symbol). y.sort) (sym same) ∙ f)) in
      let rest = missing sort k xs x.name behind (once-first x.name (named xs) once) in
      ap (λ b. constructor_among sort (with_front def b x k xs) s.name behind)
      test ∙ subst (λ (y : Symbol). constructor_among sort (of_sort def k xs) y.name behind ≡ behind) same rest
  other-sort sort k (x ∷ xs) (suc c) s behind once e other =
      let rest = other-sort sort k xs c s behind (once-rest x.name (named xs) once) e other in
      let at = slice_get-map_some (λ (y : Symbol). y.name) xs c s e in
      elim (x.sort == k) as (λ b. constructor_among sort (with_front def b x k xs) s.name behind ≡ behind) [
        | true ↦
            ap (λ b. cond b (Some (made_by sort x))
            (constructor_among sort (of_sort def k xs) s.name behind))
            (once-at x.name (named xs) c s.name once at) ∙ rest
        | false ↦ rest
      ]

  own-sort : (sort : Name) (k : ℕ) (xs : List Symbol) (c : ℕ) (s : Symbol) (behind : Option Constructor)
      → has_twice (named xs) ≡ false → slice_get xs c ≡ Some s → s.sort ≡ k
      → constructor_among sort (of_sort def k xs) s.name behind ≡ Some (made_by sort s)
  own-sort sort k [] c s behind once e of = absurd (let f : None ≡ Some s = e in cc)
  own-sort sort k (x ∷ xs) zero s behind once e of =
      let same : x ≡ s = let f : Some x ≡ Some s = e in cc in
      let test = eq-eqb x.sort k (ap (λ (y : Symbol). y.sort) same ∙ of) in
      let here = ap (λ b. cond b (Some (made_by sort x))
      (constructor_among sort (of_sort def k xs) x.name behind)) (bytes_eq-refl x.name) in
      ap (λ b. constructor_among sort (with_front def b x k xs) s.name behind)
      test ∙ subst (λ (y : Symbol). constructor_among sort (constructor_written def x ∷ of_sort def k xs) y.name behind
      ≡ Some (made_by sort y)) same here
  own-sort sort k (x ∷ xs) (suc c) s behind once e of =
      let rest = own-sort sort k xs c s behind (once-rest x.name (named xs) once) e of in
      let at = slice_get-map_some (λ (y : Symbol). y.name) xs c s e in
      let told = Some (made_by sort s) in
      elim (x.sort == k) as (λ b. constructor_among sort (with_front def b x k xs) s.name behind ≡ told) [
        | true ↦
            ap (λ b. cond b (Some (made_by sort x))
            (constructor_among sort (of_sort def k xs) s.name behind))
            (once-at x.name (named xs) c s.name once at) ∙ rest
        | false ↦ rest
      ]

  symbols-in : has_twice (named def.signature.symbols) ≡ false → (n : ℕ) (names : List Name) (tail : List Line)
      (i : ℕ) (m : Name) (c : ℕ) (s : Symbol) → slice_get names i ≡ Some m → s.sort ≡ n + i
      → slice_get def.signature.symbols c ≡ Some s
      → constructor_declared (sort_lines def n names ++ tail) s.name ≡ Some (made_by m s)
  symbols-in once n [] tail i m c s e of at = absurd (let f : None ≡ Some m = e in cc)
  symbols-in once n (x ∷ names) tail zero m c s e of at =
      let same : x ≡ m = let f : Some x ≡ Some m = e in cc in
      let here : s.sort ≡ n = omega (arith, of) in
      let behind = constructor_declared (sort_lines def (n + 1) names ++ tail) s.name in
      own-sort x n def.signature.symbols c s behind once at here
      ∙ ap (λ y. Some (made_by y s)) same
  symbols-in once n (x ∷ names) tail (suc i) m c s e of at =
      let behind = constructor_declared (sort_lines def (n + 1) names ++ tail) s.name in
      let later : s.sort ≡ (n + 1) + i = omega (arith, of) in
      other-sort x n def.signature.symbols c s behind once at (λ f. omega (arith, of, f))
      ∙ symbols-in once (n + 1) names tail i m c s e later at

  -- ---- kinds

  abbrev phyla_named : List Phylum → List Name
  phyla_named all = map (λ (p : Phylum). p.name) all

  abbrev lists_named : List ListKind → List Name
  lists_named all = map (λ (l : ListKind). l.name) all

  abbrev phylum_told : Phylum → KindDecl
  phylum_told p = a_phylum (sort_name def p.sort.0)

  phylum-in : (all : List Phylum) (tail : List Line) (p : ℕ) (k : Phylum) → has_twice (phyla_named all) ≡ false
      → slice_get all p ≡ Some k → kind_declared (map (phylum_line def) all ++ tail) k.name ≡ Some (phylum_told k)
  phylum-in [] tail p k once e = absurd (let f : None ≡ Some k = e in cc)
  phylum-in (x ∷ all) tail zero k once e =
      let same : x ≡ k = let f : Some x ≡ Some k = e in cc in
      let lines_all = map (phylum_line def) (x ∷ all) ++ tail in
      subst (λ (y : Phylum). kind_declared lines_all y.name ≡ Some (phylum_told y)) same (
      ap (λ b. cond b (Some (phylum_told x)) (kind_declared (map (phylum_line def) all ++ tail) x.name))
      (bytes_eq-refl x.name)
      )
  phylum-in (x ∷ all) tail (suc p) k once e =
      let at = slice_get-map_some (λ (y : Phylum). y.name) all p k e in
      ap (λ b. cond b (Some (phylum_told x)) (kind_declared (map (phylum_line def) all ++ tail) k.name))
      (once-at x.name (phyla_named all) p k.name once at)
      ∙ phylum-in all tail p k (once-rest x.name (phyla_named all) once) e

  past-phyla : (all : List Phylum) (tail : List Line) (n : Name) → is_among (phyla_named all) n ≡ false
      → kind_declared (map (phylum_line def) all ++ tail) n ≡ kind_declared tail n
  past-phyla [] tail n h = refl
  past-phyla (x ∷ all) tail n h =
      let both = or_parts (bytes_eq x.name n) (is_among (phyla_named all) n) h in
      ap (λ b. cond b (Some (phylum_told x)) (kind_declared (map (phylum_line def) all ++ tail) n)) both.0
      ∙ past-phyla all tail n both.1

  list-in : (all : List ListKind) (tail : List Line) (l : ℕ) (k : ListKind) → has_twice (lists_named all) ≡ false
      → slice_get all l ≡ Some k → kind_declared (map (list_line def) all ++ tail) k.name ≡ Some (list_told def k)
  list-in [] tail l k once e = absurd (let f : None ≡ Some k = e in cc)
  list-in (x ∷ all) tail zero k once e =
      let same : x ≡ k = let f : Some x ≡ Some k = e in cc in
      let lines_all = map (list_line def) (x ∷ all) ++ tail in
      subst (λ (y : ListKind). kind_declared lines_all y.name ≡ Some (list_told def y)) same (
      ap (λ b. cond b (Some (list_told def x)) (kind_declared (map (list_line def) all ++ tail) x.name))
      (bytes_eq-refl x.name)
      )
  list-in (x ∷ all) tail (suc l) k once e =
      let at = slice_get-map_some (λ (y : ListKind). y.name) all l k e in
      ap (λ b. cond b (Some (list_told def x)) (kind_declared (map (list_line def) all ++ tail) k.name))
      (once-at x.name (lists_named all) l k.name once at)
      ∙ list-in all tail l k (once-rest x.name (lists_named all) once) e

  kinds-step : (n : Name) (told : Option KindDecl) (line : Line) (rest : List Line) → (rank line ≢ 2) × (rank line ≢ 3)
      → kind_declared rest n ≡ told → kind_declared (line ∷ rest) n ≡ told
  kinds-step n told (lines.Phylum name sort bracketed) rest h e = absurd (h.0 refl)
  kinds-step n told (lines.List name sort elements separator on_lines unfinished) rest h e = absurd (h.1 refl)
  kinds-step n told line rest h e = e

  abbrev IsNoKind : ℕ → Type 0
  IsNoKind r = (r ≢ 2) × (r ≢ 3)

  kind-in : (n : Name) (told : Option KindDecl) → kind_declared (from_phyla def) n ≡ told
      → kind_declared (lines_of def) n ≡ told
  kind-in n told h =
      first-blocks 2 IsNoKind (λ ls. kind_declared ls n ≡ told) (kinds-step n told) def
      (λ r k. ((λ e. omega (arith, k, e)), (λ e. omega (arith, k, e)))) h

  -- ---- operators

  past-rows : (rows : List Row) (more : List Line) (n : Name)
      → operator_declared (map (row_line def) rows ++ more) n ≡ operator_declared more n
  past-rows [] more n = refl
  past-rows (row ∷ rows) more n = past-rows rows more n

  abbrev operators_named : List Operator → List Name
  operators_named all = map (λ (o : Operator). o.name) all

  operator-in : (all : List Operator) (tail : List Line) (o : ℕ) (op : Operator)
      → has_twice (operators_named all) ≡ false → slice_get all o ≡ Some op
      → operator_declared (flat_map (operator_lines def) all ++ tail) op.name ≡ Some (operator_written def op)
  operator-in [] tail o op once e = absurd (let f : None ≡ Some op = e in cc)
  operator-in (x ∷ all) tail zero op once e =
      let same : x ≡ op = let f : Some x ≡ Some op = e in cc in
      let more = map (row_line def) x.rows ++ (flat_map (operator_lines def) all ++ tail) in
      let lines_all = flat_map (operator_lines def) (x ∷ all) ++ tail in
      subst (λ (y : Operator). operator_declared lines_all y.name ≡ Some (operator_written def y)) same (
      flat-front (λ ls. operator_declared ls x.name ≡ Some (operator_written def x)) (operator_lines def) x all tail (
      ap (λ b. cond b (Some (operator_written def x)) (operator_declared more x.name)) (bytes_eq-refl x.name)
      )
      )
  operator-in (x ∷ all) tail (suc o) op once e =
      let at = slice_get-map_some (λ (y : Operator). y.name) all o op e in
      let behind = flat_map (operator_lines def) all ++ tail in
      let more = map (row_line def) x.rows ++ behind in
      flat-front (λ ls. operator_declared ls op.name ≡ Some (operator_written def op)) (operator_lines def) x all tail (
      ap (λ b. cond b (Some (operator_written def x)) (operator_declared more op.name))
      (once-at x.name (operators_named all) o op.name once at)
      ∙ past-rows x.rows behind op.name
      ∙ operator-in all tail o op (once-rest x.name (operators_named all) once) e
      )

  operators-step : (n : Name) (told : Option OpDecl) (line : Line) (rest : List Line) → rank line ≢ 4
      → operator_declared rest n ≡ told → operator_declared (line ∷ rest) n ≡ told
  operators-step n told (lines.Operator name phylum scope level made) rest h e = absurd (h refl)
  operators-step n told line rest h e = e

  -- ---- spaces

  abbrev spaces_named : List Space → List Name
  spaces_named all = map (λ (s : Space). s.name) all

  entity-in : (all : List Space) (tail : List Line) (n : ℕ) (k : Space) → length all ≤ 1 → slice_get all n ≡ Some k
      → entity_sort (map (space_line def) all ++ tail) ≡ Some (sort_name def k.sort.0)
  entity-in [] tail n k few e = absurd (let f : None ≡ Some k = e in cc)
  entity-in (x ∷ all) tail zero k few e =
      let same : x ≡ k = let f : Some x ≡ Some k = e in cc in
      ap (λ (y : Space). Some (sort_name def y.sort.0)) same
  entity-in (x ∷ []) tail (suc n) k few e = absurd (let f : None ≡ Some k = e in cc)
  entity-in (x ∷ y ∷ all) tail (suc n) k few e = absurd (omega (arith, few))

  entity-some : (all : List Space) (tail : List Line) (n : ℕ) (k : Space) → slice_get all n ≡ Some k
      → IsTrue (is_some (entity_sort (map (space_line def) all ++ tail)))
  entity-some [] tail n k e = absurd (let f : None ≡ Some k = e in cc)
  entity-some (x ∷ all) tail n k e = refl

  space-in : (all : List Space) (tail : List Line) (n : ℕ) (k : Space) → has_twice (spaces_named all) ≡ false
      → slice_get all n ≡ Some k → space_declared (map (space_line def) all ++ tail) k.name ≡ Some (sort_name def k.sort.0)
  space-in [] tail n k once e = absurd (let f : None ≡ Some k = e in cc)
  space-in (x ∷ all) tail zero k once e =
      let same : x ≡ k = let f : Some x ≡ Some k = e in cc in
      subst (λ (y : Space). space_declared (map (space_line def) (x ∷ all) ++ tail) y.name ≡ Some (sort_name def y.sort.0)) same
      (ap (λ b. cond b (Some (sort_name def x.sort.0)) (space_declared (map (space_line def) all ++ tail) x.name)) (bytes_eq-refl x.name))
  space-in (x ∷ all) tail (suc n) k once e =
      let at = slice_get-map_some (λ (y : Space). y.name) all n k e in
      ap (λ b. cond b (Some (sort_name def x.sort.0)) (space_declared (map (space_line def) all ++ tail) k.name))
      (once-at x.name (spaces_named all) n k.name once at)
      ∙ space-in all tail n k (once-rest x.name (spaces_named all) once) e

  entity-step : (told : Option Name) (line : Line) (rest : List Line) → rank line ≢ 1 → entity_sort rest ≡ told
      → entity_sort (line ∷ rest) ≡ told
  entity-step told (lines.Space name sort) rest h e = absurd (h refl)
  entity-step told line rest h e = e

  some-step : (line : Line) (rest : List Line) → rank line ≢ 1 → IsTrue (is_some (entity_sort rest))
      → IsTrue (is_some (entity_sort (line ∷ rest)))
  some-step (lines.Space name sort) rest h e = absurd (h refl)
  some-step line rest h e = e

  space-step : (n : Name) (told : Option Name) (line : Line) (rest : List Line) → rank line ≢ 1 → space_declared rest n ≡ told
      → space_declared (line ∷ rest) n ≡ told
  space-step n told (lines.Space name sort) rest h e = absurd (h refl)
  space-step n told line rest h e = e

  -- ---- in all lines

  module _ (sound : IsSound def) where
    symbol-declared : (c : ℕ) (s : Symbol) → slice_get def.signature.symbols c ≡ Some s
        → constructor_declared (lines_of def) s.name ≡ Some (symbol_told def s)
    symbol-declared c s at =
        let inside = closed-sort def.signature def.signature.symbols c s sound.signature.closed at in
        let place : s.sort ≡ 0 + s.sort = omega arith in
        symbols-in sound.signature.constructor_names 0 def.signature.sorts (from_entities def) s.sort
        (sort_name def s.sort) c s (sort-at def s.sort inside) place at

    phylum-declared : (p : ℕ) (k : Phylum) → slice_get def.phyla p ≡ Some k
        → kind_declared (lines_of def) k.name ≡ Some (phylum_told k)
    phylum-declared p k at =
        let once = has_twice-front (phyla_named def.phyla) (lists_named def.lists) sound.kind_names in
        kind-in k.name (Some (phylum_told k)) (phylum-in def.phyla (from_lists def) p k once at)

    list-declared : (l : ℕ) (k : ListKind) → slice_get def.lists l ≡ Some k
        → kind_declared (lines_of def) k.name ≡ Some (list_told def k)
    list-declared l k at =
        let named = slice_get-map_some (λ (y : ListKind). y.name) def.lists l k at in
        let other = once-before (phyla_named def.phyla) (lists_named def.lists) l k.name sound.kind_names named in
        let once = once-back (phyla_named def.phyla) (lists_named def.lists) sound.kind_names in
        kind-in k.name (Some (list_told def k)) (
        past-phyla def.phyla (from_lists def) k.name other ∙ list-in def.lists (from_operators def) l k once at
        )

    operator-declared : (o : ℕ) (op : Operator) → slice_get def.operators o ≡ Some op
        → operator_declared (lines_of def) op.name ≡ Some (operator_written def op)
    operator-declared o op at =
        let told = Some (operator_written def op) in
        first-blocks 4 (λ r. r ≢ 4) (λ ls. operator_declared ls op.name ≡ told) (operators-step op.name told) def
        (λ r k e. omega (arith, k, e))
        (operator-in def.operators (from_nils def) o op sound.operator_names at)

    entity-declared : length def.spaces ≤ 1 → (n s : ℕ) → HasSpaceSort def n s
        → entity_sort (lines_of def) ≡ Some (sort_name def s)
    entity-declared few n s (k, at, e) =
        let told = Some (sort_name def s) in
        first-blocks 1 (λ r. r ≢ 1) (λ ls. entity_sort ls ≡ told) (entity-step told) def
        (λ r h f. omega (arith, h, f))
        (entity-in def.spaces (from_phyla def) n k few at ∙ ap (λ m. Some (sort_name def m)) e)

    entity-there : (n s : ℕ) → HasSpaceSort def n s → IsTrue (is_some (entity_sort (lines_of def)))
    entity-there n s (k, at, e) =
        first-blocks 1 (λ r. r ≢ 1) (λ ls. IsTrue (is_some (entity_sort ls))) some-step def
        (λ r h f. omega (arith, h, f)) (entity-some def.spaces (from_phyla def) n k at)

    by_name : (m : Name) → IsOwnName m → (o : Option Name) → space_declared (lines_of def) m ≡ o → space_sort (lines_of def) m ≡ o
    by_name [] own o e = absurd (false≢true own)
    by_name (c ∷ cs) own o e = e

    -- In version 1 the only space is the first one, and in version 2 each has its own name.
    space-declared : (n s : ℕ) → HasSpaceSort def n s
        → space_sort (lines_of def) (space_name def n) ≡ Some (sort_name def s)
    space-declared n s (k, at, e) =
        let told = Some (sort_name def s) in
        let name = name-found (λ (x : Space). x.name) def.spaces n k at in
        elim sound.spaces [
          | inl h ↦
              let none = name ∙ each_at (λ (x : Space). x.name ≡ []) def.spaces h.2 n k at in
              subst (λ m. space_sort (lines_of def) m ≡ told) (sym none) (entity-declared h.1 n s (k, at, e))
          | inr h ↦
              let found = first-blocks 1 (λ r. r ≢ 1) (λ ls. space_declared ls k.name ≡ told) (space-step k.name told) def
              (λ r j f. omega (arith, j, f))
              (space-in def.spaces (from_phyla def) n k h.2 at ∙ ap (λ m. Some (sort_name def m)) e) in
              subst (λ m. space_sort (lines_of def) m ≡ told) (sym name)
              (by_name k.name (each_at (λ (x : Space). IsOwnName x.name) def.spaces h.1 n k at) told found)
        ]

    sort-declared : (s : ℕ) (n : Name) → slice_get def.signature.sorts s ≡ Some n
        → sort_declared (lines_of def) n ≡ Some (sort_written def s n)
    sort-declared s n at =
        let place : 0 + s ≡ s = omega arith in
        sorts-in 0 def.signature.sorts (from_entities def) s n sound.signature.sort_names at
        ∙ ap (λ k. Some (sort_written def k n)) place

    pub declares-all : sort_names (lines_of def) ≡ def.signature.sorts → Declares def (lines_of def)
    declares-all names = record {
      sort_there = λ s n at.
          ap (λ ns. is_among ns n) names ∙ is_among-at def.signature.sorts s n at;
      sort_is = sort-declared;
      symbol_is = symbol-declared;
      phylum_is = phylum-declared;
      list_is = list-declared;
      operator_is = operator-declared;
      space_is = space-declared;
      entity_there = entity-there;
    }
