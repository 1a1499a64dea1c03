-- Lines of terms from their parts.
use Rattle.std.proofs.Common.{◌≡◌, ℕ, ◌≤◌, List, [], ◌∷◌, ◌++◌, drop, length, length-append, append-nil, codes, inl, inr, refl, ap, sym, ◌∙◌, subst, arith}
use Rattle.std.specs.Prelude.{Option, Some, None, ◌⊎◌}
use Rattle.std.specs.List.{AllByRecursion}
use Rattle.psg_terms.specs.Names.{Name}
use Rattle.psg_grammar.specs.Sound.{IsKindName}
use Rattle.psg_deflines.specs.WrittenTerms.{WrittenTerm, term_parts, HasTermForm, IsShallowTerm}
use Rattle.psg_deflines.specs.WrittenTrees.{WrittenTree}
use Rattle.psg_deflines.specs.Forms.{terms_parts, columns_parts, by_parts, tag, IsSpaceName, HasForm, HasFormBehindBy}
use Rattle.psg_deflines.specs.TermWalks.{Parts, IsKept}
use Rattle.psg_deflines.specs.FormReads.{IsForm, HasNoForm}
use Rattle.psg_deflines.specs.TailReads.{AreKept, IsTail, IsTailFound, HasNoTail, IsNamedTail, HasNoNamedTail}
use Rattle.psg_deflines.specs.Only.{IsOnly}
use Rattle.psg_deflines.specs.declared.lines.Line.{Line}
use Rattle.psg_deflines.specs.declared.lines.Line.TheVariants as lines
use Rattle.psg_deflines.specs.declared.tails.Tail.{Tail}
use Rattle.psg_deflines.proofs.PartReads.{rest_of, first_of}
use Rattle.psg_deflines.proofs.TailLaws.{term-long}
use Rattle.psg_deflines.proofs.LineInverses.{Is_row, row_line, row-inverse, Is_nil, nil_line, nil-inverse, Is_cell, cell_line, cell-inverse, Is_hole, hole_line, hole-inverse, Is_case, case_line, case-inverse, Is_declare, declare_line, declare-inverse}

-- ---- what is kept

pub kept-none : (kept : Option WrittenTerm) (t : WrittenTerm) → kept ≡ None → IsKept kept t → IsShallowTerm t → ⊥
kept-none None t e h = h
kept-none (Some x) t e h = absurd (cc)

pub kept-some : (kept : Option WrittenTerm) (t x : WrittenTerm) → kept ≡ Some x → IsKept kept t → (x ≡ t) × IsShallowTerm t
kept-some None t x e h = absurd (cc)
kept-some (Some y) t x e h = let same : y ≡ x = cc in (sym same ∙ h.0, h.1)

pub all-none : (kept : Option (List WrittenTerm)) (ts : List WrittenTerm) → kept ≡ None → AreKept kept ts → AllByRecursion IsShallowTerm ts → ⊥
all-none None ts e h = h
all-none (Some x) ts e h = absurd (cc)

pub all-some : (kept : Option (List WrittenTerm)) (ts xs : List WrittenTerm) → kept ≡ Some xs → AreKept kept ts → (xs ≡ ts) × AllByRecursion IsShallowTerm ts
all-some None ts xs e h = absurd (cc)
all-some (Some y) ts xs e h = let same : y ≡ xs = cc in (sym same ∙ h.0, h.1)

no-columns : (ts : List WrittenTerm) → length ts ≤ 0 → ts ≡ []
no-columns [] h = refl
no-columns (t ∷ ts) h = absurd (omega arith)

-- a tail without columns, and one without a specimen
bare-tail : (t : WrittenTerm) (ts : List WrittenTerm) (w : Option WrittenTree) → ts ≡ [] → w ≡ None → term_parts t ++ (columns_parts ts ++ by_parts w) ≡ term_parts t
bare-tail t ts w e f = ap (λ x. term_parts t ++ (columns_parts x ++ by_parts w)) e ∙ ap (λ x. term_parts t ++ by_parts x) f ∙ append-nil (term_parts t)

terms-count : (ts : List WrittenTerm) → AllByRecursion HasTermForm ts → length ts ≤ length (terms_parts ts)
terms-count [] h = omega arith
terms-count (t ∷ ts) h = omega (arith, terms-count ts h.1, length-append (term_parts t) (terms_parts ts), term-long t h.0 [], ap length (append-nil (term_parts t)))

columns-count : (ts : List WrittenTerm) → AllByRecursion HasTermForm ts → length ts ≤ length (columns_parts ts)
columns-count [] h = omega arith
columns-count (t ∷ ts) h = omega (arith, terms-count (t ∷ ts) h)

-- ---- rows

module _ (most : ℕ) (ps : Parts) (few : length ps ≤ most) where
  row-tail : (line : Line) → IsForm (codes "row" ∷ ps) line → (t : WrittenTerm) × (ts : List WrittenTerm) × (line ≡ lines.Row t ts) × IsTail most ps t ts None
  row-tail line h = by_line line (row-inverse ps line h.written) h.form
    where
      by_line : (line : Line) → Is_row ps line → HasForm line → (t : WrittenTerm) × (ts : List WrittenTerm) × (line ≡ lines.Row t ts) × IsTail most ps t ts None
      by_line _ (row_line t ts e) form = (
        t,
        ts,
        refl,
        record {
          head = form.0;
          columns = form.1;
          specimen = tt;
          written = e ∙ ap (λ x. term_parts t ++ x) (sym (append-nil (columns_parts ts)));
          few = omega (arith, columns-count ts form.1, ap length e, length-append (term_parts t) (columns_parts ts));
          full = inr (inr refl);
        },
      )

  pub row-none : HasNoTail most ps → HasNoForm (codes "row" ∷ ps)
  row-none none line h = let r = row-tail line h in none r.0 r.1 None r.3

  pub row-ended : (tail : Tail) (h : IsTailFound most ps tail) → (h.specimen ≡ None → ⊥) → HasNoForm (codes "row" ∷ ps)
  row-ended tail h some line k = let r = row-tail line k in some (sym (h.only r.0 r.1 None r.3).2)

  pub row-only : (tail : Tail) (h : IsTailFound most ps tail) → h.specimen ≡ None → IsOnly (IsForm (codes "row" ∷ ps)) (lines.Row h.head h.columns)
  row-only tail h none = record {
    is = record {
      form = (h.is.head, h.is.columns);
      written = ap (λ x. codes "row" ∷ x) (ap (λ x. term_parts h.head ++ x) (sym (append-nil (columns_parts h.columns)) ∙ ap (λ x. columns_parts h.columns ++ by_parts x) (sym none)) ∙ sym h.is.written);
    };
    only = λ line k. (let r = row-tail line k in let same = h.only r.0 r.1 None r.3 in r.2 ∙ ap (λ x. lines.Row x r.1) same.0 ∙ ap (lines.Row h.head) same.1);
  }

-- ---- nil rows

module _ (n : Name) (ps : Parts) where
  nil-tail : (line : Line) → IsForm (codes "nil" ∷ n ∷ ps) line → (t : WrittenTerm) × (line ≡ lines.Nil n t) × IsTail 0 ps t [] None × IsKindName n
  nil-tail line h = by_line line (nil-inverse (n ∷ ps) line h.written) h.form
    where
      by_line : (line : Line) → Is_nil (n ∷ ps) line → HasForm line → (t : WrittenTerm) × (line ≡ lines.Nil n t) × IsTail 0 ps t [] None × IsKindName n
      by_line _ (nil_line m t e) form = (
        t,
        ap (λ x. lines.Nil x t) (sym (ap first_of e)),
        record { head = form.1; columns = tt; specimen = tt; written = ap rest_of e ∙ sym (append-nil (term_parts t)); few = omega arith; full = inl refl },
        subst IsKindName (sym (ap first_of e)) form.0,
      )

  pub nil-ended : (tail : Tail) (h : IsTailFound 0 ps tail) → (h.specimen ≡ None → ⊥) → HasNoForm (codes "nil" ∷ n ∷ ps)
  nil-ended tail h some line k = let r = nil-tail line k in some (sym (h.only r.0 [] None r.2).2)

  pub nil-only : IsKindName n → (tail : Tail) (h : IsTailFound 0 ps tail) → h.specimen ≡ None → IsOnly (IsForm (codes "nil" ∷ n ∷ ps)) (lines.Nil n h.head)
  nil-only kind tail h none = record {
    is = record { form = (kind, h.is.head); written = ap (λ x. codes "nil" ∷ n ∷ x) (sym (bare-tail h.head h.columns h.specimen (no-columns h.columns h.is.few) none) ∙ sym h.is.written) };
    only = λ line k. (let r = nil-tail line k in r.1 ∙ ap (lines.Nil n) (h.only r.0 [] None r.2).0);
  }

  -- ---- cell rows

  cell-tail : (line : Line) → IsForm (codes "cell" ∷ n ∷ ps) line → (t u v : WrittenTerm) × (line ≡ lines.Cell n t u v) × IsTail 2 ps t (u ∷ v ∷ []) None
  cell-tail line h = by_line line (cell-inverse (n ∷ ps) line h.written) h.form
    where
      by_line : (line : Line) → Is_cell (n ∷ ps) line → HasForm line → (t u v : WrittenTerm) × (line ≡ lines.Cell n t u v) × IsTail 2 ps t (u ∷ v ∷ []) None
      by_line _ (cell_line m t u v e) form = (
        t,
        u,
        v,
        ap (λ x. lines.Cell x t u v) (sym (ap first_of e)),
        record {
          head = form.1;
          columns = (form.2, (form.3, tt));
          specimen = tt;
          written = ap rest_of e ∙ ap (λ x. term_parts t ++ (codes ":" ∷ x)) (ap (λ x. term_parts u ++ x) (sym (append-nil (term_parts v))) ∙ sym (append-nil (term_parts u ++ (term_parts v ++ []))));
          few = omega arith;
          full = inr (inl refl);
        },
      )

  pub cell-short : (tail : Tail) (h : IsTailFound 2 ps tail) → (length h.columns ≡ 2 → ⊥) → HasNoForm (codes "cell" ∷ n ∷ ps)
  cell-short tail h other line k = let r = cell-tail line k in other (sym (ap length (h.only r.0 (r.1 ∷ r.2 ∷ []) None r.4).1))

  pub cell-ended : (tail : Tail) (h : IsTailFound 2 ps tail) → (h.specimen ≡ None → ⊥) → HasNoForm (codes "cell" ∷ n ∷ ps)
  cell-ended tail h some line k = let r = cell-tail line k in some (sym (h.only r.0 (r.1 ∷ r.2 ∷ []) None r.4).2)

  pub cell-only : IsKindName n → (tail : Tail) (h : IsTailFound 2 ps tail) → h.specimen ≡ None → (u v : WrittenTerm) → h.columns ≡ u ∷ v ∷ [] → IsOnly (IsForm (codes "cell" ∷ n ∷ ps)) (lines.Cell n h.head u v)
  cell-only kind tail h none u v two = record {
    is = record {
      form = (let forms = subst (AllByRecursion HasTermForm) two h.is.columns in (kind, h.is.head, forms.0, forms.1.0));
      written = ap (λ x. codes "cell" ∷ n ∷ x) (
          ap (λ x. term_parts h.head ++ (codes ":" ∷ x)) (ap (λ x. term_parts u ++ x) (sym (append-nil (term_parts v))) ∙ sym (append-nil (term_parts u ++ (term_parts v ++ []))))
          ∙ ap (λ x. term_parts h.head ++ (columns_parts x ++ [])) (sym two) ∙ ap (λ x. term_parts h.head ++ (columns_parts h.columns ++ by_parts x)) (sym none) ∙ sym h.is.written
          );
    };
    only = λ line k. (
        let r = cell-tail line k in
        let same = h.only r.0 (r.1 ∷ r.2 ∷ []) None r.4 in
        let both : r.1 ∷ r.2 ∷ [] ≡ u ∷ v ∷ [] = same.1 ∙ two in
        let head : r.0 ≡ h.head = same.0 in
        let e : lines.Cell n r.0 r.1 r.2 ≡ lines.Cell n h.head u v = cc in
        r.3 ∙ e
        );
  }

  -- ---- hole rows

  hole-tail : (line : Line) → IsForm (codes "hole" ∷ n ∷ ps) line → (t : WrittenTerm) × (w : Option WrittenTree) × (line ≡ lines.Hole n t w) × IsTail 0 ps t [] w
  hole-tail line h = by_line line (hole-inverse (n ∷ ps) line h.written) h.form
    where
      by_line : (line : Line) → Is_hole (n ∷ ps) line → HasForm line → (t : WrittenTerm) × (w : Option WrittenTree) × (line ≡ lines.Hole n t w) × IsTail 0 ps t [] w
      by_line _ (hole_line m t w e) form = (
        t,
        w,
        ap (λ x. lines.Hole x t w) (sym (ap first_of e)),
        record { head = form.1; columns = tt; specimen = form.2; written = ap rest_of e; few = omega arith; full = inl refl },
      )

  pub hole-only : IsKindName n → (tail : Tail) (h : IsTailFound 0 ps tail) → IsOnly (IsForm (codes "hole" ∷ n ∷ ps)) (lines.Hole n h.head h.specimen)
  hole-only kind tail h = record {
    is = record {
      form = (kind, h.is.head, h.is.specimen);
      written = ap (λ x. codes "hole" ∷ n ∷ x) (ap (λ x. term_parts h.head ++ (columns_parts x ++ by_parts h.specimen)) (sym (no-columns h.columns h.is.few)) ∙ sym h.is.written);
    };
    only = λ line k. (let r = hole-tail line k in let same = h.only r.0 [] r.1 r.3 in r.2 ∙ ap (λ x. lines.Hole n x r.1) same.0 ∙ ap (lines.Hole n h.head) same.2);
  }

  -- ---- declare rows

  declare-tail : (spot : Name) (line : Line) → IsForm ((codes "declare" ++ tag spot) ∷ n ∷ ps) line → (t u : WrittenTerm) × (w : WrittenTree) × (line ≡ lines.Declare spot n t u w) × IsTail 1 ps t (u ∷ []) (Some w)
  declare-tail spot line h = by_line line (declare-inverse spot (n ∷ ps) line h.written) h.form
    where
      by_line : (line : Line) → Is_declare spot (n ∷ ps) line → HasForm line → (t u : WrittenTerm) × (w : WrittenTree) × (line ≡ lines.Declare spot n t u w) × IsTail 1 ps t (u ∷ []) (Some w)
      by_line _ (declare_line m t u w e) form = (
        t,
        u,
        w,
        ap (λ x. lines.Declare spot x t u w) (sym (ap first_of e)),
        record {
          head = form.2;
          columns = (form.3, tt);
          specimen = form.4;
          written = ap rest_of e ∙ ap (λ x. term_parts t ++ (codes ":" ∷ (x ++ by_parts (Some w)))) (sym (append-nil (term_parts u)));
          few = omega arith;
          full = inr (inl refl);
        },
      )

  pub declare-short : (spot : Name) (tail : Tail) (h : IsTailFound 1 ps tail) → (length h.columns ≡ 1 → ⊥) → HasNoForm ((codes "declare" ++ tag spot) ∷ n ∷ ps)
  declare-short spot tail h other line k = let r = declare-tail spot line k in other (sym (ap length (h.only r.0 (r.1 ∷ []) (Some r.2) r.4).1))

  pub declare-ended : (spot : Name) (tail : Tail) (h : IsTailFound 1 ps tail) → h.specimen ≡ None → HasNoForm ((codes "declare" ++ tag spot) ∷ n ∷ ps)
  declare-ended spot tail h none line k = let r = declare-tail spot line k in let e : Some r.2 ≡ None = (h.only r.0 (r.1 ∷ []) (Some r.2) r.4).2 ∙ none in cc

  pub declare-only : (spot : Name) → IsSpaceName spot → IsKindName n → (tail : Tail) (h : IsTailFound 1 ps tail) (u : WrittenTerm) (w : WrittenTree) → h.columns ≡ u ∷ [] → h.specimen ≡ Some w → IsOnly (IsForm ((codes "declare" ++ tag spot) ∷ n ∷ ps)) (lines.Declare spot n h.head u w)
  declare-only spot named kind tail h u w one some = record {
    is = record {
      form = (named, kind, h.is.head, (subst (AllByRecursion HasTermForm) one h.is.columns).0, subst HasFormBehindBy some h.is.specimen);
      written = ap (λ x. (codes "declare" ++ tag spot) ∷ n ∷ x) (
          ap (λ x. term_parts h.head ++ (codes ":" ∷ (x ++ by_parts (Some w)))) (sym (append-nil (term_parts u)))
          ∙ ap (λ x. term_parts h.head ++ (columns_parts x ++ by_parts (Some w))) (sym one) ∙ ap (λ x. term_parts h.head ++ (columns_parts h.columns ++ by_parts x)) (sym some) ∙ sym h.is.written
          );
    };
    only = λ line k. (
        let r = declare-tail spot line k in
        let same = h.only r.0 (r.1 ∷ []) (Some r.2) r.4 in
        let columns : r.1 ∷ [] ≡ u ∷ [] = same.1 ∙ one in
        let tree : Some r.2 ≡ Some w = same.2 ∙ some in
        let head : r.0 ≡ h.head = same.0 in
        let e : lines.Declare spot n r.0 r.1 r.2 ≡ lines.Declare spot n h.head u w = cc in
        r.3 ∙ e
        );
  }

-- ---- cases

module _ (ps : Parts) where
  case-tail : (line : Line) → IsForm (codes "case" ∷ ps) line → (t : WrittenTerm) × (w : WrittenTree) × (line ≡ lines.Case t w) × IsTail 0 ps t [] (Some w)
  case-tail line h = by_line line (case-inverse ps line h.written) h.form
    where
      by_line : (line : Line) → Is_case ps line → HasForm line → (t : WrittenTerm) × (w : WrittenTree) × (line ≡ lines.Case t w) × IsTail 0 ps t [] (Some w)
      by_line _ (case_line t w e) form =
          (t, w, refl, record { head = form.0; columns = tt; specimen = form.1; written = e; few = omega arith; full = inl refl })

  pub case-none : HasNoTail 0 ps → HasNoForm (codes "case" ∷ ps)
  case-none none line h = let r = case-tail line h in none r.0 [] (Some r.1) r.3

  pub case-ended : (tail : Tail) (h : IsTailFound 0 ps tail) → h.specimen ≡ None → HasNoForm (codes "case" ∷ ps)
  case-ended tail h none line k = let r = case-tail line k in let e : Some r.1 ≡ None = (h.only r.0 [] (Some r.1) r.3).2 ∙ none in cc

  pub case-only : (tail : Tail) (h : IsTailFound 0 ps tail) (w : WrittenTree) → h.specimen ≡ Some w → IsOnly (IsForm (codes "case" ∷ ps)) (lines.Case h.head w)
  case-only tail h w some = record {
    is = record {
      form = (h.is.head, subst HasFormBehindBy some h.is.specimen);
      written = ap (λ x. codes "case" ∷ x) (ap (λ x. term_parts h.head ++ (columns_parts x ++ by_parts (Some w))) (sym (no-columns h.columns h.is.few)) ∙ ap (λ x. term_parts h.head ++ (columns_parts h.columns ++ by_parts x)) (sym some) ∙ sym h.is.written);
    };
    only = λ line k. (
        let r = case-tail line k in
        let same = h.only r.0 [] (Some r.1) r.3 in
        let tree : Some r.1 ≡ Some w = same.2 ∙ some in
        let head : r.0 ≡ h.head = same.0 in
        let e : lines.Case r.0 r.1 ≡ lines.Case h.head w = cc in
        r.2 ∙ e
        );
  }

-- ---- names in front

-- no name, or nothing that may stand behind it
module _ (ps : Parts) where
  split-of : (m : Name) (rest : Parts) → ps ≡ m ∷ rest → (ps ≡ m ∷ drop 1 ps) × (drop 1 ps ≡ rest)
  split-of m rest e = (e ∙ ap (λ x. m ∷ x) (sym (ap (drop 1) e)), ap (drop 1) e)

  tail-in : (most : ℕ) (m : Name) (rest : Parts) (t : WrittenTerm) (ts : List WrittenTerm) (w : Option WrittenTree) → ps ≡ m ∷ rest → IsKindName m → HasTermForm t → AllByRecursion HasTermForm ts → HasFormBehindBy w
      → rest ≡ term_parts t ++ (columns_parts ts ++ by_parts w) → length ts ≤ most → (ts ≡ []) ⊎ ((length ts ≡ most) ⊎ (w ≡ None)) → IsNamedTail most ps m t ts w
  tail-in most m rest t ts w e kind a b c written few full =
      let split = split-of m rest e in
      record { kind = kind; split = split.0; tail = record { head = a; columns = b; specimen = c; written = split.1 ∙ written; few = few; full = full } }

  pub nil-none : HasNoNamedTail 0 ps → HasNoForm (codes "nil" ∷ ps)
  nil-none none line h = by_line line (nil-inverse ps line h.written) h.form
    where
      by_line : (line : Line) → Is_nil ps line → HasForm line → ⊥
      by_line _ (nil_line m t e) form = none m t [] None (tail-in 0 m (term_parts t) t [] None e form.0 form.1 tt tt (sym (append-nil (term_parts t))) (omega arith) (inl refl))

  pub cell-none : HasNoNamedTail 2 ps → HasNoForm (codes "cell" ∷ ps)
  cell-none none line h = by_line line (cell-inverse ps line h.written) h.form
    where
      by_line : (line : Line) → Is_cell ps line → HasForm line → ⊥
      by_line _ (cell_line m t u v e) form =
          none m t (u ∷ v ∷ []) None (tail-in 2 m (term_parts t ++ (codes ":" ∷ (term_parts u ++ term_parts v))) t (u ∷ v ∷ []) None e form.0 form.1 (form.2, (form.3, tt)) tt
          (ap (λ x. term_parts t ++ (codes ":" ∷ x)) (ap (λ x. term_parts u ++ x) (sym (append-nil (term_parts v))) ∙ sym (append-nil (term_parts u ++ (term_parts v ++ []))))) (omega arith) (inr (inl refl)))

  pub hole-none : HasNoNamedTail 0 ps → HasNoForm (codes "hole" ∷ ps)
  hole-none none line h = by_line line (hole-inverse ps line h.written) h.form
    where
      by_line : (line : Line) → Is_hole ps line → HasForm line → ⊥
      by_line _ (hole_line m t w e) form = none m t [] w (tail-in 0 m (term_parts t ++ by_parts w) t [] w e form.0 form.1 tt form.2 refl (omega arith) (inl refl))

  pub declare-none : (spot : Name) → HasNoNamedTail 1 ps → HasNoForm ((codes "declare" ++ tag spot) ∷ ps)
  declare-none spot none line h = by_line line (declare-inverse spot ps line h.written) h.form
    where
      by_line : (line : Line) → Is_declare spot ps line → HasForm line → ⊥
      by_line _ (declare_line m t u w e) form =
          none m t (u ∷ []) (Some w) (tail-in 1 m (term_parts t ++ (codes ":" ∷ (term_parts u ++ by_parts (Some w)))) t (u ∷ []) (Some w) e form.1 form.2 (form.3, tt) form.4
          (ap (λ x. term_parts t ++ (codes ":" ∷ (x ++ by_parts (Some w)))) (sym (append-nil (term_parts u)))) (omega arith) (inr (inl refl)))
