-- Rows that are put into their lists.
use Rattle.std.proofs.Common.{◌≡◌, ◌≢◌, ℕ, ◌+◌, ◌<◌, ◌≤◌, Bool, false, true, zero, suc, List, [], ◌∷◌, ◌++◌, take, get_or, length, refl, ap, sym, ◌∙◌, subst, inl, inr, Option, Some, slice_get, slice_set, append-nil}
use Rattle.std.specs.List.{AllByRecursion}
use Rattle.std.specs.Str.{bytes_eq}
use Rattle.std.proofs.lemmas.Bool.{or_parts, or_left, or_right, false≢true}
use Rattle.std.proofs.lemmas.List.{take_all}
use Rattle.psg_terms.proofs.Lists.{take_item}
use Rattle.psg_terms.specs.Names.{Name, is_among, has_twice}
use Rattle.psg_terms.specs.Terms.{Term}
use Rattle.psg_terms.proofs.DeclareLaws.{bytes_eq-refl}
use Rattle.psg_grammar.specs.declared.types.ListKind.{ListKind}
use Rattle.psg_grammar.specs.declared.types.Row.{Row}
use Rattle.psg_grammar.specs.declared.types.Phylum.{Phylum}
use Rattle.psg_grammar.specs.declared.types.Kind.TheVariants as kinds
use Rattle.psg_grammar.specs.Sound.{HasKindSort}
use Rattle.psg_grammar.specs.declared.types.Definition.{Definition}
use Rattle.psg_deflines.specs.Entries.{Entry, written}
use Rattle.psg_deflines.specs.WrittenTerms.{WrittenTerm}
use Rattle.psg_deflines.specs.declared.lines.Line.{Line}
use Rattle.psg_deflines.specs.declared.lines.Line.TheVariants as lines
use Rattle.psg_defcheck.specs.Scopes.{kind_names}
use Rattle.psg_defcheck.proofs.GroundLaws.{written-append}
use Rattle.psg_defnumber.specs.Growing.{Lasts}
use Rattle.psg_defnumber.specs.Numbers.{AreNils, AreCells, AreLists, IsList, IsNil, IsRow}
use Rattle.psg_defnumber.specs.Filling.{Fills}

nils-append : (full : Definition) (n : Name) (sort : ℕ) (xs ys : List Line) (rows more : List Term) → AreNils full n sort xs rows → AreNils full n sort ys more → AreNils full n sort (xs ++ ys) (rows ++ more)
nils-append full n sort [] ys rows more h k = subst (λ l. AreNils full n sort ys (l ++ more)) (sym h) k
nils-append full n sort (lines.Nil of w ∷ xs) ys rows more (inl (same, t, rest, e, is, h)) k = inl (same, t, rest ++ more, ap (λ l. l ++ more) e, is, nils-append full n sort xs ys rest more h k)
nils-append full n sort (lines.Nil of w ∷ xs) ys rows more (inr (other, h)) k = inr (other, nils-append full n sort xs ys rows more h k)
nils-append full n sort (_ ∷ xs) ys rows more h k = nils-append full n sort xs ys rows more h k

cells-append : (full : Definition) (n : Name) (sort elements : ℕ) (xs ys : List Line) (rows more : List Row) → AreCells full n sort elements xs rows → AreCells full n sort elements ys more → AreCells full n sort elements (xs ++ ys) (rows ++ more)
cells-append full n sort elements [] ys rows more h k = subst (λ l. AreCells full n sort elements ys (l ++ more)) (sym h) k
cells-append full n sort elements (lines.Cell of w first rest ∷ xs) ys rows more (inl (same, row, tail, e, is, h)) k = inl (same, row, tail ++ more, ap (λ l. l ++ more) e, is, cells-append full n sort elements xs ys tail more h k)
cells-append full n sort elements (lines.Cell of w first rest ∷ xs) ys rows more (inr (other, h)) k = inr (other, cells-append full n sort elements xs ys rows more h k)
cells-append full n sort elements (_ ∷ xs) ys rows more h k = cells-append full n sort elements xs ys rows more h k

-- the line has no row of the list with the name
abbrev Skips : Definition → Line → Name → Type 0
Skips full line m = (sort elements : ℕ) → AreNils full m sort (line ∷ []) [] × AreCells full m sort elements (line ∷ []) []

list-same : (full : Definition) (file : List Line) (line : Line) (name sort elements separator : Name) (on unfinished : Bool) (l : ListKind) → Skips full line name → IsList full file name sort elements separator on unfinished l
    → IsList full (file ++ line ∷ []) name sort elements separator on unfinished l
list-same full file line name sort elements separator on unfinished l skip h =
    let both = skip l.sort.0 h.element_sort in record {
      named = h.named;
      of_sort = h.of_sort;
      of_elements = h.of_elements;
      same_separator = h.same_separator;
      same_lines = h.same_lines;
      same_end = h.same_end;
      nils = subst (AreNils full name l.sort.0 (file ++ line ∷ [])) (append-nil l.nil_rows) (nils-append full name l.sort.0 file (line ∷ []) l.nil_rows [] h.nils both.0);
      element_sort = h.element_sort;
      elements_sort = h.elements_sort;
      cells = subst (AreCells full name l.sort.0 h.element_sort (file ++ line ∷ [])) (append-nil l.cell_rows) (cells-append full name l.sort.0 h.element_sort file (line ∷ []) l.cell_rows [] h.cells both.1);
    }

lists-same : (full : Definition) (file : List Line) (line : Line) (all : List Line) (ls : List ListKind) → AllByRecursion (Skips full line) (kind_names all) → AreLists full file all ls → AreLists full (file ++ line ∷ []) all ls
lists-same full file line [] ls skips h = h
lists-same full file line (lines.List name sort elements separator on unfinished ∷ all) ls (skip, skips) (l, rest, e, is, more) =
    (l, rest, e, list-same full file line name sort elements separator on unfinished l skip is, lists-same full file line all rest skips more)
lists-same full file line (lines.Phylum name sort bracketed ∷ all) ls (skip, skips) h = lists-same full file line all ls skips h
lists-same full file line (_ ∷ all) ls skips h = lists-same full file line all ls skips h

every : (P : Name → Type 0) → ((m : Name) → P m) → (ns : List Name) → AllByRecursion P ns
every P f [] = tt
every P f (n ∷ ns) = (f n, every P f ns)

-- where the name is not among these
but : (P : Name → Type 0) (n : Name) → ((m : Name) → n ≢ m → P m) → (ns : List Name) → is_among ns n ≡ false → AllByRecursion P ns
but P n f [] h = tt
but P n f (m ∷ ns) h =
    let both = or_parts (bytes_eq m n) (is_among ns n) h in
    (f m (λ e. false≢true (sym both.0 ∙ ap (λ x. bytes_eq x n) (sym e) ∙ bytes_eq-refl n)), but P n f ns both.1)

lists-among : (full : Definition) (file : List Line) (k : ListKind) (all : List Line) (ls : List ListKind) (p : ℕ) → AreLists full file all ls → slice_get ls p ≡ Some k → is_among (kind_names all) k.name ≡ true
lists-among full file k [] ls p h at = absurd (none p (subst (λ l. slice_get l p ≡ Some k) h at))
  where
    none : (p : ℕ) → slice_get {X = ListKind} [] p ≡ Some k → ⊥
    none p e = cc
lists-among full file k (lines.List name sort elements separator on unfinished ∷ all) ls p (l, rest, e, is, more) at = go p (λ q b. lists-among full file k all rest q more b) (subst (λ x. slice_get x p ≡ Some k) e at)
  where
    go : (p : ℕ) → ((q : ℕ) → slice_get rest q ≡ Some k → is_among (kind_names all) k.name ≡ true) → slice_get (l ∷ rest) p ≡ Some k → is_among (name ∷ kind_names all) k.name ≡ true
    go zero later a = let same : l ≡ k = cc in or_left (bytes_eq name k.name) (is_among (kind_names all) k.name) (ap (λ (x : ListKind). bytes_eq name x.name) (sym same) ∙ ap (bytes_eq name) is.named ∙ bytes_eq-refl name)
    go (suc p) later a = or_right (bytes_eq name k.name) (is_among (kind_names all) k.name) (later p a)
lists-among full file k (lines.Phylum name sort bracketed ∷ all) ls p h at = or_right (bytes_eq name k.name) (is_among (kind_names all) k.name) (lists-among full file k all ls p h at)
lists-among full file k (_ ∷ all) ls p h at = lists-among full file k all ls p h at

-- One list of the name takes the line's row.
lists-put : (full : Definition) (file : List Line) (line : Line) (n : Name) (k new : ListKind) → ((m : Name) → n ≢ m → Skips full line m)
    → ((name sort elements separator : Name) (on unfinished : Bool) → IsList full file name sort elements separator on unfinished k → IsList full (file ++ line ∷ []) name sort elements separator on unfinished new)
    → k.name ≡ n → (all : List Line) (ls : List ListKind) (p : ℕ) → has_twice (kind_names all) ≡ false → slice_get ls p ≡ Some k → AreLists full file all ls → AreLists full (file ++ line ∷ []) all (slice_set ls p new)
lists-put full file line n k new misses hits named [] ls p once at h = absurd (none p (subst (λ l. slice_get l p ≡ Some k) h at))
  where
    none : (p : ℕ) → slice_get {X = ListKind} [] p ≡ Some k → ⊥
    none p e = cc
lists-put full file line n k new misses hits named (lines.List name sort elements separator on unfinished ∷ all) ls p once at (l, rest, e, is, more) =
    subst (λ x. AreLists full (file ++ line ∷ []) (lines.List name sort elements separator on unfinished ∷ all) (slice_set x p new)) (sym e) (go p (λ q b. lists-put full file line n k new misses hits named all rest q (or_parts (is_among (kind_names all) name) (has_twice (kind_names all)) once).1 b more) (subst (λ x. slice_get x p ≡ Some k) e at))
  where
    parts : (is_among (kind_names all) name ≡ false) × (has_twice (kind_names all) ≡ false)
    parts = or_parts (is_among (kind_names all) name) (has_twice (kind_names all)) once

    go : (p : ℕ) → ((q : ℕ) → slice_get rest q ≡ Some k → AreLists full (file ++ line ∷ []) all (slice_set rest q new)) → slice_get (l ∷ rest) p ≡ Some k → AreLists full (file ++ line ∷ []) (lines.List name sort elements separator on unfinished ∷ all) (slice_set (l ∷ rest) p new)
    go zero later a =
        let same : l ≡ k = cc in
        let own : n ≡ name = sym named ∙ ap (λ (x : ListKind). x.name) (sym same) ∙ is.named in (
          new,
          rest,
          refl,
          hits name sort elements separator on unfinished (subst (IsList full file name sort elements separator on unfinished) same is),
          lists-same full file line all rest (but (Skips full line) n misses (kind_names all) (ap (is_among (kind_names all)) own ∙ parts.0)) more,
        )
    go (suc p) later a =
        let among : is_among (kind_names all) n ≡ true = ap (is_among (kind_names all)) (sym named) ∙ lists-among full file k all rest p more a in
        let other : n ≢ name = λ same. false≢true (sym parts.0 ∙ ap (is_among (kind_names all)) (sym same) ∙ among) in (
          l,
          slice_set rest p new,
          refl,
          list-same full file line name sort elements separator on unfinished l (misses name other) is,
          later p a,
        )
lists-put full file line n k new misses hits named (lines.Phylum name sort bracketed ∷ all) ls p once at h =
    lists-put full file line n k new misses hits named all ls p (or_parts (is_among (kind_names all) name) (has_twice (kind_names all)) once).1 at h
lists-put full file line n k new misses hits named (_ ∷ all) ls p once at h = lists-put full file line n k new misses hits named all ls p once at h

abbrev pub with_rows : ListKind → List Term → List Row → ListKind
with_rows k nils cells = record { name = k.name; sort = k.sort; element = k.element; separator = k.separator; lines = k.lines; unfinished = k.unfinished; nil_rows = nils; cell_rows = cells }

-- what an index gives
same-at : (ls : List ListKind) (p : ℕ) (own k : ListKind) → slice_get ls p ≡ Some k → own ≡ get_or ls p own → own ≡ k
same-at [] p own k at e = absurd (cc)
same-at (l ∷ ls) zero own k at e = let same : l ≡ k = cc in e ∙ same
same-at (l ∷ ls) (suc p) own k at e = same-at ls p own k at e

pub nil-fills : (def : Definition) (file : List Line) (ls : List ListKind) (p : ℕ) (own k : ListKind) (n : Name) (w : WrittenTerm) (t : Term) (rows : List Term) → slice_get ls p ≡ Some k → k.name ≡ n → own ≡ get_or ls p own
    → Lasts def (λ full. IsNil full own.sort.0 w t) → rows ≡ own.nil_rows ++ t ∷ [] → Fills def file (file ++ lines.Nil n w ∷ []) ls (slice_set ls p (with_rows own rows own.cell_rows))
nil-fills def file ls p own k n w t rows at named e is grown = λ all once full keeps h.
    let same : own ≡ k = same-at ls p own k at e in
    lists-put full file (lines.Nil n w) n own (with_rows own rows own.cell_rows) (λ m other sort elements. (inr (other, refl), refl))
    (λ name sort elements separator on unfinished l. record {
      named = l.named;
      of_sort = l.of_sort;
      of_elements = l.of_elements;
      same_separator = l.same_separator;
      same_lines = l.same_lines;
      same_end = l.same_end;
      nils = subst (AreNils full name own.sort.0 (file ++ lines.Nil n w ∷ [])) (sym grown)
          (nils-append full name own.sort.0 file (lines.Nil n w ∷ []) own.nil_rows (t ∷ []) l.nils (inl (sym named ∙ ap (λ (x : ListKind). x.name) (sym same) ∙ l.named, t, [], refl, is full keeps, refl)));
      element_sort = l.element_sort;
      elements_sort = l.elements_sort;
      cells = subst (AreCells full name own.sort.0 l.element_sort (file ++ lines.Nil n w ∷ [])) (append-nil own.cell_rows) (cells-append full name own.sort.0 l.element_sort file (lines.Nil n w ∷ []) own.cell_rows [] l.cells refl);
    })
    (ap (λ (x : ListKind). x.name) same ∙ named) all ls p once (at ∙ ap Some (sym same)) h

pub cell-fills : (def : Definition) (file : List Line) (ls : List ListKind) (p : ℕ) (own k : ListKind) (n : Name) (w first more : WrittenTerm) (elements : ℕ) (row : Row) (rows : List Row) → slice_get ls p ≡ Some k → k.name ≡ n → own ≡ get_or ls p own
    → Lasts def (λ full. HasKindSort full (kinds.Phylum own.element) elements) → Lasts def (λ full. IsRow full own.sort.0 (elements ∷ own.sort.0 ∷ []) w (first ∷ more ∷ []) row) → rows ≡ own.cell_rows ++ row ∷ []
    → Fills def file (file ++ lines.Cell n w first more ∷ []) ls (slice_set ls p (with_rows own own.nil_rows rows))
cell-fills def file ls p own k n w first more es row rows at named e of_elements is grown = λ all once full keeps h.
    let same : own ≡ k = same-at ls p own k at e in
    lists-put full file (lines.Cell n w first more) n own (with_rows own own.nil_rows rows) (λ m other sort elements. (refl, inr (other, refl)))
    (λ name sort elements separator on unfinished l. record {
      named = l.named;
      of_sort = l.of_sort;
      of_elements = l.of_elements;
      same_separator = l.same_separator;
      same_lines = l.same_lines;
      same_end = l.same_end;
      nils = subst (AreNils full name own.sort.0 (file ++ lines.Cell n w first more ∷ [])) (append-nil own.nil_rows) (nils-append full name own.sort.0 file (lines.Cell n w first more ∷ []) own.nil_rows [] l.nils refl);
      element_sort = es;
      elements_sort = of_elements full keeps;
      cells = subst (AreCells full name own.sort.0 es (file ++ lines.Cell n w first more ∷ [])) (sym grown)
          (cells-append full name own.sort.0 es file (lines.Cell n w first more ∷ []) own.cell_rows (row ∷ [])
          (subst (λ s. AreCells full name own.sort.0 s file own.cell_rows) (one_sort full own.element l.element_sort es l.elements_sort (of_elements full keeps)) l.cells)
          (inl (sym named ∙ ap (λ (x : ListKind). x.name) (sym same) ∙ l.named, row, [], refl, is full keeps, refl)));
    })
    (ap (λ (x : ListKind). x.name) same ∙ named) all ls p once (at ∙ ap Some (sym same)) h
  where
    one_sort : (full : Definition) (p a b : ℕ) → HasKindSort full (kinds.Phylum p) a → HasKindSort full (kinds.Phylum p) b → a ≡ b
    one_sort full p a b (x, at, e) (y, there, d) = let both : ◌≡◌ {A = Option Phylum} (Some x) (Some y) = sym at ∙ there in let same : x ≡ y = cc in sym e ∙ ap (λ (z : Phylum). z.sort.0) same ∙ d

other-skips : (full : Definition) (line : Line) → ((n : Name) (w : WrittenTerm) → line ≡ lines.Nil n w → ⊥) → ((n : Name) (w first more : WrittenTerm) → line ≡ lines.Cell n w first more → ⊥) → (m : Name) → Skips full line m
other-skips full (lines.Nil n w) p q m = absurd (p n w refl)
other-skips full (lines.Cell n w first more) p q m = absurd (q n w first more refl)
other-skips full _ p q m = λ sort elements. (refl, refl)

pub other-fills : (def : Definition) (entry : Entry) (line : Line) (ls : List ListKind) → entry ≡ Some line → ((n : Name) (w : WrittenTerm) → line ≡ lines.Nil n w → ⊥) → ((n : Name) (w first more : WrittenTerm) → line ≡ lines.Cell n w first more → ⊥)
    → (file : List Line) → Fills def file (file ++ written (entry ∷ [])) ls ls
other-fills def entry line ls e p q file = λ all once full keeps h.
    subst (λ x. AreLists full (file ++ written (x ∷ [])) all ls) (sym e) (lists-same full file line all ls (every (Skips full line) (other-skips full line p q) (kind_names all)) h)

pub fills-none : (def : Definition) (ls : List ListKind) → Fills def [] [] ls ls
fills-none def ls = λ all once full keeps h. h

pub fills-next : (def : Definition) (entries : List Entry) (i : ℕ) (entry : Entry) (old mid new : List ListKind) → i < length entries → entry ≡ get_or entries i entry → Fills def [] (written (take i entries)) old mid
    → Fills def (written (take i entries)) (written (take i entries) ++ written (entry ∷ [])) mid new → Fills def [] (written (take (i + 1) entries)) old new
fills-next def entries i entry old mid new lt at h k = λ all once full keeps l.
    subst (λ x. AreLists full x all new) (sym (ap written (take_item entries i entry lt at) ∙ written-append (take i entries) (entry ∷ []))) (k all once full keeps (h all once full keeps l))

pub fills-all : (def : Definition) (entries : List Entry) (i : ℕ) (old new : List ListKind) → length entries ≤ i → Fills def [] (written (take i entries)) old new → Fills def [] (written entries) old new
fills-all def entries i old new le h = subst (λ x. Fills def [] (written x) old new) (take_all i entries le) h
