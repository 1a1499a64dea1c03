-- What a form of a line of terms is read as.
use Rattle.std.proofs.Common.{◌≡◌, ℕ, ◌≤◌, ◌==◌, ◌&&◌, Bool, true, false, cond, List, [], ◌∷◌, ◌++◌, length, codes, inl, inr, refl, ap, sym, ◌∙◌, subst, arith}
use Rattle.std.specs.Prelude.{Option, Some, None, not, ◌⊎◌}
use Rattle.std.specs.List.{AllByRecursion}
use Rattle.std.proofs.lemmas.Bool.{and_cases, and_parts, eqb-true, false≢true, not-false, not-true}
use Rattle.std.proofs.lemmas.Bool.Decides.{eqb_tells}
use Rattle.psg_terms.specs.Names.{Name}
use Rattle.psg_grammar.specs.Sound.{IsKindName}
use Rattle.psg_deflines.specs.WrittenTerms.{WrittenTerm, IsShallowTerm}
use Rattle.psg_deflines.specs.WrittenTrees.{WrittenTree, IsShallowTree}
use Rattle.psg_deflines.specs.Forms.{IsShallowBehindBy, IsSpaceName, tag}
use Rattle.psg_deflines.specs.TermWalks.{Parts}
use Rattle.psg_deflines.specs.FormReads.{IsForm, HasNoForm}
use Rattle.psg_deflines.specs.TailReads.{IsBehind, IsTailFound, is_nothing, specimen_of, tree_behind}
use Rattle.psg_deflines.specs.LineReads.{IsFormRead}
use Rattle.psg_deflines.specs.Only.{IsOnly}
use Rattle.psg_deflines.specs.declared.lines.Line.TheVariants as lines
use Rattle.psg_deflines.specs.declared.tails.Tail.{Tail}
use Rattle.psg_deflines.specs.declared.tails.Behind.{Behind}
use Rattle.psg_deflines.specs.declared.tails.Behind.TheVariants as behinds
use Rattle.psg_deflines.specs.declared.term_forms.FormRead.{FormRead}
use Rattle.psg_deflines.specs.declared.term_forms.FormRead.TheVariants as reads
use Rattle.psg_deflines.proofs.TermFormLaws.{kept-none, kept-some, all-none, all-some, row-ended, row-only, nil-ended, nil-only, cell-short, cell-ended, cell-only, hole-only, declare-short, declare-ended, declare-only, case-ended, case-only}

pub only-if : (ps : Parts) (b : Bool) (read outcome : FormRead) → outcome ≡ cond b read reads.Nothing → (b ≡ true → IsFormRead ps read) → (b ≡ false → HasNoForm ps) → IsFormRead ps outcome
only-if ps true read outcome e holds fails = subst (IsFormRead ps) (sym e) (holds refl)
only-if ps false read outcome e holds fails = subst (IsFormRead ps) (sym e) (fails refl)

nothing-none : (b : Behind) (w : Option WrittenTree) → IsBehind b w → is_nothing b ≡ true → w ≡ None
nothing-none behinds.Nothing w h e = h
nothing-none behinds.TooDeep w h e = absurd (false≢true e)
nothing-none (behinds.Tree y) w h e = absurd (false≢true e)

something-some : (b : Behind) (w : Option WrittenTree) → IsBehind b w → is_nothing b ≡ false → w ≡ None → ⊥
something-some behinds.Nothing w h e f = false≢true (sym e)
something-some behinds.TooDeep w h e f = let k : Some h.0 ≡ None = sym h.1 ∙ f in cc
something-some (behinds.Tree y) w h e f = let k : Some y ≡ None = sym h.0 ∙ f in cc

tree-some : (b : Behind) (w : Option WrittenTree) (y : WrittenTree) → IsBehind b w → tree_behind b ≡ Some y → (w ≡ Some y) × IsShallowTree y
tree-some behinds.Nothing w y h e = absurd (cc)
tree-some behinds.TooDeep w y h e = absurd (cc)
tree-some (behinds.Tree z) w y h e = let same : z ≡ y = cc in (h.0 ∙ ap Some same, subst IsShallowTree same h.1)

tree-none : (b : Behind) (w : Option WrittenTree) → IsBehind b w → tree_behind b ≡ None → is_nothing b ≡ false → (x : WrittenTree) × (w ≡ Some x) × (IsShallowTree x → ⊥)
tree-none behinds.Nothing w h e f = absurd (false≢true (sym f))
tree-none behinds.TooDeep w h e f = h
tree-none (behinds.Tree z) w h e f = absurd (cc)

some-tree : (b : Behind) (w : Option WrittenTree) → IsBehind b w → is_nothing b ≡ false → (x : WrittenTree) × (w ≡ Some x)
some-tree behinds.Nothing w h f = absurd (false≢true (sym f))
some-tree behinds.TooDeep w h f = (h.0, h.1)
some-tree (behinds.Tree z) w h f = (z, h.0)

-- ---- rows

module _ (most : ℕ) (ps : Parts) (few : length ps ≤ most) (tail : Tail) (h : IsTailFound most ps tail) where
  pub row-kept : h.specimen ≡ None → (x : WrittenTerm) (xs : List WrittenTerm) → tail.head ≡ Some x → tail.columns ≡ Some xs → IsFormRead (codes "row" ∷ ps) (reads.Read (lines.Row x xs))
  row-kept none x xs e f =
      let a = kept-some tail.head h.head x e h.head_kept in
      let b = all-some tail.columns h.columns xs f h.columns_kept in
      let same : lines.Row h.head h.columns ≡ lines.Row x xs = ap (λ y. lines.Row y h.columns) (sym a.0) ∙ ap (lines.Row x) (sym b.0) in
      (subst (IsOnly (IsForm (codes "row" ∷ ps))) same (row-only most ps few tail h none), (subst IsShallowTerm (sym a.0) a.1, subst (AllByRecursion IsShallowTerm) (sym b.0) b.1))

  pub row-deep : h.specimen ≡ None → (tail.head ≡ None) ⊎ (tail.columns ≡ None) → IsFormRead (codes "row" ∷ ps) reads.TooDeep
  row-deep none lost = (lines.Row h.head h.columns, row-only most ps few tail h none, tt, λ s. elim lost [ inl e ↦ kept-none tail.head h.head e h.head_kept s.0 | inr e ↦ all-none tail.columns h.columns e h.columns_kept s.1 ])

  pub row-none_behind : is_nothing tail.behind ≡ true → h.specimen ≡ None
  row-none_behind e = nothing-none tail.behind h.specimen h.specimen_kept e

  pub row-other : is_nothing tail.behind ≡ false → HasNoForm (codes "row" ∷ ps)
  row-other e = row-ended most ps few tail h (something-some tail.behind h.specimen h.specimen_kept e)

-- ---- nil rows

module _ (n : Name) (ps : Parts) (kind : IsKindName n) (tail : Tail) where
  pub nil-kept : (h : IsTailFound 0 ps tail) → is_nothing tail.behind ≡ true → (x : WrittenTerm) → tail.head ≡ Some x → IsFormRead (codes "nil" ∷ n ∷ ps) (reads.Read (lines.Nil n x))
  nil-kept h none x e =
      let a = kept-some tail.head h.head x e h.head_kept in
      (subst (λ y. IsOnly (IsForm (codes "nil" ∷ n ∷ ps)) (lines.Nil n y)) (sym a.0) (nil-only n ps kind tail h (nothing-none tail.behind h.specimen h.specimen_kept none)), subst IsShallowTerm (sym a.0) a.1)

  pub nil-deep : (h : IsTailFound 0 ps tail) → is_nothing tail.behind ≡ true → tail.head ≡ None → IsFormRead (codes "nil" ∷ n ∷ ps) reads.TooDeep
  nil-deep h none e = (lines.Nil n h.head, nil-only n ps kind tail h (nothing-none tail.behind h.specimen h.specimen_kept none), tt, kept-none tail.head h.head e h.head_kept)

  pub nil-other : (h : IsTailFound 0 ps tail) → is_nothing tail.behind ≡ false → HasNoForm (codes "nil" ∷ n ∷ ps)
  nil-other h e = nil-ended n ps tail h (something-some tail.behind h.specimen h.specimen_kept e)

  -- ---- cell rows

  two-terms : (ts : List WrittenTerm) → length ts ≡ 2 → (u v : WrittenTerm) × (ts ≡ u ∷ v ∷ [])
  two-terms [] e = absurd (omega arith)
  two-terms (u ∷ []) e = absurd (omega arith)
  two-terms (u ∷ v ∷ []) e = (u, v, refl)
  two-terms (u ∷ v ∷ w ∷ ts) e = absurd (omega arith)

  -- the pair that is taken from the columns
  pub record IsPair (pair : Option (WrittenTerm × WrittenTerm)) : Type 0 where
    pub two : (t u : WrittenTerm) → tail.columns ≡ Some (t ∷ u ∷ []) → pair ≡ Some (t, u)
    pub none : tail.columns ≡ None → pair ≡ None

  cell-holds : (h : IsTailFound 2 ps tail) → ((tail.count == 2) && is_nothing tail.behind) ≡ true → (length h.columns ≡ 2) × (h.specimen ≡ None)
  cell-holds h e = let both = and_parts (tail.count == 2) (is_nothing tail.behind) e in (sym h.count ∙ eqb-true tail.count 2 both.0, nothing-none tail.behind h.specimen h.specimen_kept both.1)

  columns-case : (kept : Option (List WrittenTerm)) → (kept ≡ None) ⊎ ((xs : List WrittenTerm) × (kept ≡ Some xs))
  columns-case None = inl refl
  columns-case (Some xs) = inr (xs, refl)

  inside : (x y : WrittenTerm × WrittenTerm) → Some x ≡ Some y → x ≡ y
  inside x y e = cc

  pub cell-kept : (h : IsTailFound 2 ps tail) → ((tail.count == 2) && is_nothing tail.behind) ≡ true → (pair : Option (WrittenTerm × WrittenTerm)) → IsPair pair → (x u v : WrittenTerm) → tail.head ≡ Some x → pair ≡ Some (u, v)
      → IsFormRead (codes "cell" ∷ n ∷ ps) (reads.Read (lines.Cell n x u v))
  cell-kept h e pair p x u v f g = elim (columns-case tail.columns) [
    | inl none ↦ absurd (let k : Some (u, v) ≡ None = sym g ∙ p.none none in cc)
    | inr found ↦
        let holds = cell-holds h e in
        let a = kept-some tail.head h.head x f h.head_kept in
        let b = all-some tail.columns h.columns found.0 found.1 h.columns_kept in
        let two = two-terms h.columns holds.0 in
        let at : pair ≡ Some (two.0, two.1) = p.two two.0 two.1 (found.1 ∙ ap Some (b.0 ∙ two.2)) in
        let same : (u, v) ≡ (two.0, two.1) = inside (u, v) (two.0, two.1) (sym g ∙ at) in
        let first : two.0 ≡ u = sym (ap (λ (r : WrittenTerm × WrittenTerm). r.0) same) in
        let last : two.1 ≡ v = sym (ap (λ (r : WrittenTerm × WrittenTerm). r.1) same) in
        let shallow = subst (AllByRecursion IsShallowTerm) two.2 b.1 in
        let line : lines.Cell n h.head two.0 two.1 ≡ lines.Cell n x u v = ap (λ y. lines.Cell n y two.0 two.1) (sym a.0) ∙ ap (λ y. lines.Cell n x y two.1) first ∙ ap (lines.Cell n x u) last in
        (subst (IsOnly (IsForm (codes "cell" ∷ n ∷ ps))) line (cell-only n ps kind tail h holds.1 two.0 two.1 two.2), (subst IsShallowTerm (sym a.0) a.1, subst IsShallowTerm first shallow.0, subst IsShallowTerm last shallow.1.0))
  ]

  pub cell-deep : (h : IsTailFound 2 ps tail) → ((tail.count == 2) && is_nothing tail.behind) ≡ true → (pair : Option (WrittenTerm × WrittenTerm)) → IsPair pair → (tail.head ≡ None) ⊎ (pair ≡ None) → IsFormRead (codes "cell" ∷ n ∷ ps) reads.TooDeep
  cell-deep h e pair p lost =
      let holds = cell-holds h e in
      let two = two-terms h.columns holds.0 in (
        lines.Cell n h.head two.0 two.1,
        cell-only n ps kind tail h holds.1 two.0 two.1 two.2,
        tt,
        λ s. elim lost [
          | inl f ↦ kept-none tail.head h.head f h.head_kept s.0
          | inr f ↦ elim (columns-case tail.columns) [
            | inl none ↦ all-none tail.columns h.columns none h.columns_kept (subst (AllByRecursion IsShallowTerm) (sym two.2) (s.1, (s.2, tt)))
            | inr found ↦
                let b = all-some tail.columns h.columns found.0 found.1 h.columns_kept in
                let k : None ≡ Some (two.0, two.1) = sym f ∙ p.two two.0 two.1 (found.1 ∙ ap Some (b.0 ∙ two.2)) in
                cc
          ]
        ],
      )

  pub cell-other : (h : IsTailFound 2 ps tail) → ((tail.count == 2) && is_nothing tail.behind) ≡ false → HasNoForm (codes "cell" ∷ n ∷ ps)
  cell-other h e = elim (and_cases (tail.count == 2) (is_nothing tail.behind) e) [
    | inl f ↦ cell-short n ps tail h (λ k. not-two tail.count (h.count ∙ k) f)
    | inr f ↦ cell-ended n ps tail h (something-some tail.behind h.specimen h.specimen_kept f)
  ]
    where
      not-two : (m : ℕ) → m ≡ 2 → (m == 2) ≡ false → ⊥
      not-two m e f = elim (eqb_tells m 2) [ inl g ↦ false≢true (sym f ∙ g.0) | inr g ↦ g.1 e ]

  -- ---- hole rows

  pub hole-kept : (h : IsTailFound 0 ps tail) → (x : WrittenTerm) (w : Option WrittenTree) → tail.head ≡ Some x → specimen_of tail.behind ≡ Some w → IsFormRead (codes "hole" ∷ n ∷ ps) (reads.Read (lines.Hole n x w))
  hole-kept h x w e f =
      let a = kept-some tail.head h.head x e h.head_kept in
      let b = shown tail.behind h.specimen w h.specimen_kept f in
      let line : lines.Hole n h.head h.specimen ≡ lines.Hole n x w = ap (λ y. lines.Hole n y h.specimen) (sym a.0) ∙ ap (lines.Hole n x) b.0 in
      (subst (IsOnly (IsForm (codes "hole" ∷ n ∷ ps))) line (hole-only n ps kind tail h), (subst IsShallowTerm (sym a.0) a.1, b.1))
    where
      shown : (b : Behind) (v w : Option WrittenTree) → IsBehind b v → specimen_of b ≡ Some w → (v ≡ w) × IsShallowBehindBy w
      shown behinds.Nothing v w k e = let same : None ≡ w = cc in (k ∙ same, subst IsShallowBehindBy same tt)
      shown behinds.TooDeep v w k e = absurd (cc)
      shown (behinds.Tree y) v w k e = let same : Some y ≡ w = cc in (k.0 ∙ same, subst IsShallowBehindBy same k.1)

  pub hole-deep : (h : IsTailFound 0 ps tail) → (tail.head ≡ None) ⊎ (specimen_of tail.behind ≡ None) → IsFormRead (codes "hole" ∷ n ∷ ps) reads.TooDeep
  hole-deep h lost = (
    lines.Hole n h.head h.specimen,
    hole-only n ps kind tail h,
    tt,
    λ s. elim lost [ inl e ↦ kept-none tail.head h.head e h.head_kept s.0 | inr e ↦ hidden tail.behind h.specimen h.specimen_kept e s.1 ],
  )
    where
      hidden : (b : Behind) (w : Option WrittenTree) → IsBehind b w → specimen_of b ≡ None → IsShallowBehindBy w → ⊥
      hidden behinds.Nothing w k e s = cc
      hidden behinds.TooDeep w k e s = k.2 (subst IsShallowBehindBy k.1 s)
      hidden (behinds.Tree y) w k e s = cc

  -- ---- declare rows

  one-term : (ts : List WrittenTerm) → length ts ≡ 1 → (u : WrittenTerm) × (ts ≡ u ∷ [])
  one-term [] e = absurd (omega arith)
  one-term (u ∷ []) e = (u, refl)
  one-term (u ∷ v ∷ ts) e = absurd (omega arith)

  -- the term that is taken from the columns
  pub record IsSingle (single : Option WrittenTerm) : Type 0 where
    pub one : (t : WrittenTerm) → tail.columns ≡ Some (t ∷ []) → single ≡ Some t
    pub none : tail.columns ≡ None → single ≡ None

  declare-holds : (h : IsTailFound 1 ps tail) → ((tail.count == 1) && not (is_nothing tail.behind)) ≡ true → (length h.columns ≡ 1) × (is_nothing tail.behind ≡ false)
  declare-holds h e = let both = and_parts (tail.count == 1) (not (is_nothing tail.behind)) e in (sym h.count ∙ eqb-true tail.count 1 both.0, not-true (is_nothing tail.behind) both.1)

  pub declare-kept : (spot : Name) → IsSpaceName spot → (h : IsTailFound 1 ps tail) → ((tail.count == 1) && not (is_nothing tail.behind)) ≡ true → (single : Option WrittenTerm) → IsSingle single → (x u : WrittenTerm) (w : WrittenTree) → tail.head ≡ Some x → single ≡ Some u → tree_behind tail.behind ≡ Some w
      → IsFormRead ((codes "declare" ++ tag spot) ∷ n ∷ ps) (reads.Read (lines.Declare spot n x u w))
  declare-kept spot named h e single p x u w f g i = elim (columns-case tail.columns) [
    | inl none ↦ absurd (let k : Some u ≡ None = sym g ∙ p.none none in cc)
    | inr found ↦
        let holds = declare-holds h e in
        let a = kept-some tail.head h.head x f h.head_kept in
        let b = all-some tail.columns h.columns found.0 found.1 h.columns_kept in
        let t = tree-some tail.behind h.specimen w h.specimen_kept i in
        let one = one-term h.columns holds.0 in
        let at : single ≡ Some one.0 = p.one one.0 (found.1 ∙ ap Some (b.0 ∙ one.1)) in
        let same : Some u ≡ Some one.0 = sym g ∙ at in
        let first : one.0 ≡ u = cc in
        let line : lines.Declare spot n h.head one.0 w ≡ lines.Declare spot n x u w = ap (λ y. lines.Declare spot n y one.0 w) (sym a.0) ∙ ap (λ y. lines.Declare spot n x y w) first in
        (subst (IsOnly (IsForm ((codes "declare" ++ tag spot) ∷ n ∷ ps))) line (declare-only n ps spot named kind tail h one.0 w one.1 t.0), (subst IsShallowTerm (sym a.0) a.1, subst IsShallowTerm first (subst (AllByRecursion IsShallowTerm) one.1 b.1).0, t.1))
  ]

  pub declare-deep : (spot : Name) → IsSpaceName spot → (h : IsTailFound 1 ps tail) → ((tail.count == 1) && not (is_nothing tail.behind)) ≡ true → (single : Option WrittenTerm) → IsSingle single → ((tail.head ≡ None) ⊎ (single ≡ None)) ⊎ (tree_behind tail.behind ≡ None)
      → IsFormRead ((codes "declare" ++ tag spot) ∷ n ∷ ps) reads.TooDeep
  declare-deep spot named h e single p lost =
      let holds = declare-holds h e in
      let one = one-term h.columns holds.0 in
      let some = some-tree tail.behind h.specimen h.specimen_kept holds.1 in (
        lines.Declare spot n h.head one.0 some.0,
        declare-only n ps spot named kind tail h one.0 some.0 one.1 some.1,
        tt,
        λ s. elim lost [
          | inl (inl f) ↦ kept-none tail.head h.head f h.head_kept s.0
          | inl (inr f) ↦ elim (columns-case tail.columns) [
            | inl none ↦ all-none tail.columns h.columns none h.columns_kept (subst (AllByRecursion IsShallowTerm) (sym one.1) (s.1, tt))
            | inr found ↦
                let b = all-some tail.columns h.columns found.0 found.1 h.columns_kept in
                let k : None ≡ Some one.0 = sym f ∙ p.one one.0 (found.1 ∙ ap Some (b.0 ∙ one.1)) in
                cc
          ]
          | inr f ↦
              let deep = tree-none tail.behind h.specimen h.specimen_kept f holds.1 in
              let k : Some some.0 ≡ Some deep.0 = sym some.1 ∙ deep.1 in
              let same : some.0 ≡ deep.0 = cc in
              deep.2 (subst IsShallowTree same s.2)
        ],
      )

  pub declare-other : (spot : Name) → (h : IsTailFound 1 ps tail) → ((tail.count == 1) && not (is_nothing tail.behind)) ≡ false → HasNoForm ((codes "declare" ++ tag spot) ∷ n ∷ ps)
  declare-other spot h e = elim (and_cases (tail.count == 1) (not (is_nothing tail.behind)) e) [
    | inl f ↦ declare-short n ps spot tail h (λ k. not-one tail.count (h.count ∙ k) f)
    | inr f ↦ declare-ended n ps spot tail h (nothing-none tail.behind h.specimen h.specimen_kept (not-false (is_nothing tail.behind) f))
  ]
    where
      not-one : (m : ℕ) → m ≡ 1 → (m == 1) ≡ false → ⊥
      not-one m e f = elim (eqb_tells m 1) [ inl g ↦ false≢true (sym f ∙ g.0) | inr g ↦ g.1 e ]

-- ---- cases

module _ (ps : Parts) (tail : Tail) (h : IsTailFound 0 ps tail) where
  pub case-kept : (x : WrittenTerm) (w : WrittenTree) → tail.head ≡ Some x → tree_behind tail.behind ≡ Some w → IsFormRead (codes "case" ∷ ps) (reads.Read (lines.Case x w))
  case-kept x w e f =
      let a = kept-some tail.head h.head x e h.head_kept in
      let t = tree-some tail.behind h.specimen w h.specimen_kept f in
      (subst (λ y. IsOnly (IsForm (codes "case" ∷ ps)) (lines.Case y w)) (sym a.0) (case-only ps tail h w t.0), (subst IsShallowTerm (sym a.0) a.1, t.1))

  pub case-deep : not (is_nothing tail.behind) ≡ true → (tail.head ≡ None) ⊎ (tree_behind tail.behind ≡ None) → IsFormRead (codes "case" ∷ ps) reads.TooDeep
  case-deep e lost =
      let off = not-true (is_nothing tail.behind) e in
      let some = some-tree tail.behind h.specimen h.specimen_kept off in (
        lines.Case h.head some.0,
        case-only ps tail h some.0 some.1,
        tt,
        λ s. elim lost [
          | inl f ↦ kept-none tail.head h.head f h.head_kept s.0
          | inr f ↦
              let deep = tree-none tail.behind h.specimen h.specimen_kept f off in
              let k : Some some.0 ≡ Some deep.0 = sym some.1 ∙ deep.1 in
              let same : some.0 ≡ deep.0 = cc in
              deep.2 (subst IsShallowTree same s.1)
        ],
      )

  pub case-other : not (is_nothing tail.behind) ≡ false → HasNoForm (codes "case" ∷ ps)
  case-other e = case-ended ps tail h (nothing-none tail.behind h.specimen h.specimen_kept (not-false (is_nothing tail.behind) e))
