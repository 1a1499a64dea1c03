-- The first specimen with a flaw, site by site.
use Rattle.std.proofs.Common.{◌≡◌, ◌↔◌, ◌⊎◌, inl, inr, ℕ, ◌+◌, ◌<◌, ◌≤◌, ◌^◌, Bool, true, false, cond, List, [], length, get_or, Option, Some, None, slice_get, refl, sym, ap, ◌∙◌, subst, arith, true≢false}
use Rattle.std.specs.Prelude.{IsTrue, MatchOption, Err}
use Rattle.std.proofs.lemmas.Bool.{cases_lt}
use Rattle.std.proofs.lemmas.Option.{slice_get_within}
use Rattle.psg_terms.proofs.Lists.{each_at, slice_get_item, slice_get_once}
use Rattle.psg_grammar.specs.declared.types.Case.{Case}
use Rattle.psg_grammar.specs.declared.types.HoleRow.{HoleRow}
use Rattle.psg_grammar.specs.declared.types.DeclareRow.{DeclareRow}
use Rattle.psg_grammar.specs.declared.types.Specimen.{Specimen}
use Rattle.psg_grammar.specs.declared.types.Definition.{Definition}
use Rattle.psg_grammar.specs.Sound.{IsSound, IsHoleRow, IsCase}
use Rattle.psg_grammar.specs.Specimens.{tree_of}
use Rattle.psg_completions.specs.General.{IsGeneralCase, IsGeneralDeclare}
use Rattle.psg_eval.specs.declared.summary.SummaryParts.{SummaryParts}
use Rattle.psg_eval.specs.declared.summary.EvalFault.TheVariants as faults
use Rattle.psg_specimen.specs.Conditions.{IsNarrow}
use Rattle.psg_specimen.specs.Patterns.{IsPatternFor, IsPatternOf}
use Rattle.psg_specimen.specs.Refusal.{CaseAt, DeclareAt, IsFirstSite, IsGeneralAt, IsNarrowAt, IsSiteBefore}
use Rattle.psg_specimen.specs.Shown.{HasFlaw, IsGone, IsSomeCase, IsUpTo, noted}
use Rattle.psg_specimen.specs.declared.fault.Site.{Site}
use Rattle.psg_specimen.specs.declared.fault.Site.TheVariants as sites
use Rattle.psg_specimen.specs.declared.unshown.Flaw.{Flaw}
use Rattle.psg_specimen.specs.declared.unshown.Flaw.TheVariants as flaws

flaw_same : (N M G H : Type 0) → (N → M) → (M → N) → (G → H) → (H → G) → (flaw : Option Flaw) → HasFlaw N G flaw → HasFlaw M H flaw
flaw_same N M G H f g p q None h = (f h.0, p h.1)
flaw_same N M G H f g p q (Some flaws.Large) h = λ m. h (g m)
flaw_same N M G H f g p q (Some flaws.Weak) h = (f h.0, λ x. h.1 (q x))

-- where no step passes the limit, what the test says is the flaw
pub flaw_by : (N G : Type 0) (b : Bool) → N → IsTrue b ↔ G → HasFlaw N G (cond b None (Some flaws.Weak))
flaw_by N G true n h = (n, h.0 refl)
flaw_by N G false n h = (n, λ g. true≢false (sym (h.1 g)))

less_or_same : (m n : ℕ) → m < n + 1 → (m < n) ⊎ (m ≡ n)
less_or_same m n lt = elim (cases_lt m n) [ inl a ↦ inl a | inr b ↦ inr (omega (arith, lt, b)) ]

module _ (def : Definition) where
  pub narrow_of : (s : Specimen) (c : Option SummaryParts) → IsPatternOf def (tree_of s) c → IsNarrow def s
  narrow_of s c h w = h.light [] w.0 w.1 w.2

  pub wide_of : (s : Specimen) (step : ℕ) → IsPatternFor def (tree_of s) (Err (faults.Wide step)) → IsNarrow def s → ⊥
  wide_of s step h n = n (h [])

  -- ---- one site more

  narrow_at : (N G : Type 0) (flaw : Option Flaw) → HasFlaw N G flaw → (flaw ≡ Some flaws.Large → ⊥) → N
  narrow_at N G None h n = h.0
  narrow_at N G (Some flaws.Large) h n = absurd (n refl)
  narrow_at N G (Some flaws.Weak) h n = h.0

  -- the sites before the next one
  abbrev IsNext : Site → Option Site → Type 0
  IsNext s end = (t : Site) → IsGone end t → IsSiteBefore t s ⊎ (t ≡ s)

  all_next : (P : Site → Type 0) (s : Site) (end : Option Site) → IsNext s end → ((t : Site) → IsSiteBefore t s → P t) → P s → (t : Site) → IsGone end t → P t
  all_next P s end next h p t gone = elim (next t gone) [ inl b ↦ h t b | inr e ↦ subst P (sym e) p ]

  general_next : (s : Site) (end weak : Option Site) (flaw : Option Flaw) → IsNext s end → HasFlaw (IsNarrowAt def s) (IsGeneralAt def s) flaw → (flaw ≡ Some flaws.Large → ⊥) → IsUpTo def (Some s) weak
      → MatchOption (noted weak flaw s) ((t : Site) → IsGone end t → IsGeneralAt def t) (λ x. IsFirstSite (IsGeneralAt def) x)
  general_next s end (Some w) flaw next h n up = up.general
  general_next s end None None next h n up = all_next (IsGeneralAt def) s end next up.general h.1
  general_next s end None (Some flaws.Large) next h n up = absurd (n refl)
  general_next s end None (Some flaws.Weak) next h n up = (h.1, up.general)

  up_next : (s : Site) (end weak : Option Site) (flaw : Option Flaw) → IsNext s end → HasFlaw (IsNarrowAt def s) (IsGeneralAt def s) flaw → (flaw ≡ Some flaws.Large → ⊥) → IsUpTo def (Some s) weak → IsUpTo def end (noted weak flaw s)
  up_next s end weak flaw next h n up = record {
    narrow = all_next (IsNarrowAt def) s end next up.narrow (narrow_at (IsNarrowAt def s) (IsGeneralAt def s) flaw h n);
    general = general_next s end weak flaw next h n up;
  }

  first_large : (s : Site) (weak : Option Site) (flaw : Option Flaw) → HasFlaw (IsNarrowAt def s) (IsGeneralAt def s) flaw → flaw ≡ Some flaws.Large → IsUpTo def (Some s) weak → IsFirstSite (IsNarrowAt def) s
  first_large s weak flaw h e up = (subst (HasFlaw (IsNarrowAt def s) (IsGeneralAt def s)) e h, up.narrow)

  -- sites at which there is nothing
  up_skip : (s : Site) (end weak : Option Site) → ((t : Site) → IsGone end t → IsSiteBefore t s ⊎ (IsNarrowAt def t × IsGeneralAt def t)) → IsUpTo def (Some s) weak → IsUpTo def end weak
  up_skip s end None skip up = record {
    narrow = λ t gone. elim (skip t gone) [ inl b ↦ up.narrow t b | inr h ↦ h.0 ];
    general = λ t gone. elim (skip t gone) [ inl b ↦ up.general t b | inr h ↦ h.1 ];
  }
  up_skip s end (Some w) skip up = record {
    narrow = λ t gone. elim (skip t gone) [ inl b ↦ up.narrow t b | inr h ↦ h.0 ];
    general = up.general;
  }

  -- ---- cases

  hole_next : (r c : ℕ) → IsNext (sites.Hole r c) (Some (sites.Hole r (c + 1)))
  hole_next r c (sites.Hole s d) (inl lt) = inl (inl lt)
  hole_next r c (sites.Hole s d) (inr (e, lt)) = elim (less_or_same d c lt) [
    | inl a ↦ inl (inr (e, a))
    | inr b ↦ inr (ap (λ x. sites.Hole x d) e ∙ ap (sites.Hole r) b)
  ]
  hole_next r c (sites.Declare k) h = absurd h

  module _ (r : ℕ) (whole : HoleRow) (at : slice_get def.hole_rows r ≡ Some whole) where
    to_case : (P : Case → Type 0) (c : ℕ) (one : Case) → slice_get whole.cases c ≡ Some one → P one → CaseAt def r c P
    to_case P c one there p row at' other there' =
        let same : row ≡ whole = slice_get_once def.hole_rows r row whole at' at in
        let here : slice_get whole.cases c ≡ Some other = subst (λ (x : HoleRow). slice_get x.cases c ≡ Some other) same there' in
        subst P (slice_get_once whole.cases c one other there here) p

    flaw_at : (c : ℕ) (one : Case) (flaw : Option Flaw) → slice_get whole.cases c ≡ Some one → HasFlaw (IsNarrow def one.specimen) (IsGeneralCase def one) flaw → HasFlaw (IsNarrowAt def (sites.Hole r c)) (IsGeneralAt def (sites.Hole r c)) flaw
    flaw_at c one flaw there h =
        flaw_same (IsNarrow def one.specimen) (IsNarrowAt def (sites.Hole r c)) (IsGeneralCase def one) (IsGeneralAt def (sites.Hole r c))
        (to_case (λ (x : Case). IsNarrow def x.specimen) c one there) (λ m. m whole at one there) (to_case (λ (x : Case). IsGeneralCase def x) c one there) (λ m. m whole at one there) flaw h

    pub case_next : (cases : List Case) (i : ℕ) (one : Case) (site : Site) (weak : Option Site) (flaw : Option Flaw) → whole.cases ≡ cases → i < length cases → one ≡ get_or cases i one → site ≡ sites.Hole r i
        → HasFlaw (IsNarrow def one.specimen) (IsGeneralCase def one) flaw → (flaw ≡ Some flaws.Large → ⊥) → IsUpTo def (Some (sites.Hole r i)) weak → IsUpTo def (Some (sites.Hole r (i + 1))) (noted weak flaw site)
    case_next cases i one site weak flaw same lt e is h n up =
        let there : slice_get whole.cases i ≡ Some one = subst (λ xs. slice_get xs i ≡ Some one) (sym same) (slice_get_item cases i one lt e) in
        subst (λ s. IsUpTo def (Some (sites.Hole r (i + 1))) (noted weak flaw s)) (sym is)
        (up_next (sites.Hole r i) (Some (sites.Hole r (i + 1))) weak flaw (hole_next r i) (flaw_at i one flaw there h) n up)

    pub case_large : (cases : List Case) (i : ℕ) (one : Case) (site : Site) (weak : Option Site) (flaw : Option Flaw) → whole.cases ≡ cases → i < length cases → one ≡ get_or cases i one → site ≡ sites.Hole r i
        → HasFlaw (IsNarrow def one.specimen) (IsGeneralCase def one) flaw → flaw ≡ Some flaws.Large → IsUpTo def (Some (sites.Hole r i)) weak → IsFirstSite (IsNarrowAt def) site
    case_large cases i one site weak flaw same lt e is h large up =
        let there : slice_get whole.cases i ≡ Some one = subst (λ xs. slice_get xs i ≡ Some one) (sym same) (slice_get_item cases i one lt e) in
        subst (IsFirstSite (IsNarrowAt def)) (sym is) (first_large (sites.Hole r i) weak flaw (flaw_at i one flaw there h) large up)

    no_case : (P : Case → Type 0) (d : ℕ) → length whole.cases ≤ d → CaseAt def r d P
    no_case P d le row at' one there =
        let same : row ≡ whole = slice_get_once def.hole_rows r row whole at' at in
        let lt = slice_get_within whole.cases d one (subst (λ (x : HoleRow). slice_get x.cases d ≡ Some one) same there) in
        absurd (omega (arith, le, lt))

    pub cases_done : (cases : List Case) (n : ℕ) (weak : Option Site) → whole.cases ≡ cases → length cases ≤ n → IsUpTo def (Some (sites.Hole r n)) weak → IsUpTo def (Some (sites.Hole (r + 1) 0)) weak
    cases_done cases n weak same le up = up_skip (sites.Hole r n) (Some (sites.Hole (r + 1) 0)) weak skip up where
      many : length whole.cases ≤ n
      many = subst (λ (xs : List Case). length xs ≤ n) (sym same) le

      skip : (t : Site) → IsGone (Some (sites.Hole (r + 1) 0)) t → IsSiteBefore t (sites.Hole r n) ⊎ (IsNarrowAt def t × IsGeneralAt def t)
      skip (sites.Hole s d) (inl lt) = elim (less_or_same s r lt) [
        | inl a ↦ inl (inl a)
        | inr e ↦ elim (cases_lt d n) [
          | inl b ↦ inl (inr (e, b))
          | inr b ↦ inr (
            subst (λ x. IsNarrowAt def (sites.Hole x d)) (sym e) (no_case (λ (x : Case). IsNarrow def x.specimen) d (omega (arith, b, many))),
            subst (λ x. IsGeneralAt def (sites.Hole x d)) (sym e) (no_case (λ (x : Case). IsGeneralCase def x) d (omega (arith, b, many))),
          )
        ]
      ]
      skip (sites.Hole s d) (inr (e, lt)) = absurd (omega (arith, lt))
      skip (sites.Declare k) h = absurd h

  pub some_case : IsSound def → (r : ℕ) (whole : HoleRow) → slice_get def.hole_rows r ≡ Some whole → (cases : List Case) (i : ℕ) (one : Case) → whole.cases ≡ cases → i < length cases → one ≡ get_or cases i one → IsSomeCase def one
  some_case sound r whole at cases i one same lt e =
      let h = each_at (IsHoleRow def) def.hole_rows sound.hole_rows r whole at in
      let there : slice_get whole.cases i ≡ Some one = subst (λ xs. slice_get xs i ≡ Some one) (sym same) (slice_get_item cases i one lt e) in
      (whole.kind, h.sort, h.kind_sort, each_at (IsCase def whole.kind h.sort) whole.cases h.each_case i one there)

  pub few_cases : IsSound def → (r : ℕ) (whole : HoleRow) → slice_get def.hole_rows r ≡ Some whole → (cases : List Case) → whole.cases ≡ cases → length cases < 2 ^ 32
  few_cases sound r whole at cases same = subst (λ (xs : List Case). length xs < 2 ^ 32) same (each_at (IsHoleRow def) def.hole_rows sound.hole_rows r whole at).few_cases

  -- ---- hole rows

  pub rows_begin : IsUpTo def (Some (sites.Hole 0 0)) None
  rows_begin = record { narrow = λ t gone. absurd (none t gone); general = λ t gone. absurd (none t gone) } where
    none : (t : Site) → IsSiteBefore t (sites.Hole 0 0) → ⊥
    none (sites.Hole s d) (inl lt) = omega (arith, lt)
    none (sites.Hole s d) (inr (e, lt)) = omega (arith, lt)
    none (sites.Declare k) h = h

  no_row : (P : Case → Type 0) (s d : ℕ) → length def.hole_rows ≤ s → CaseAt def s d P
  no_row P s d le row at one there = let lt = slice_get_within def.hole_rows s row at in absurd (omega (arith, le, lt))

  pub rows_done : (n : ℕ) (weak : Option Site) → length def.hole_rows ≤ n → IsUpTo def (Some (sites.Hole n 0)) weak → IsUpTo def (Some (sites.Declare 0)) weak
  rows_done n weak le up = up_skip (sites.Hole n 0) (Some (sites.Declare 0)) weak skip up where
    skip : (t : Site) → IsGone (Some (sites.Declare 0)) t → IsSiteBefore t (sites.Hole n 0) ⊎ (IsNarrowAt def t × IsGeneralAt def t)
    skip (sites.Hole s d) h = elim (cases_lt s n) [
      | inl a ↦ inl (inl a)
      | inr b ↦ inr (no_row (λ (x : Case). IsNarrow def x.specimen) s d (omega (arith, b, le)), no_row (λ (x : Case). IsGeneralCase def x) s d (omega (arith, b, le)))
    ]
    skip (sites.Declare k) lt = absurd (omega (arith, lt))

  -- ---- declare rows

  declare_next : (k : ℕ) → IsNext (sites.Declare k) (Some (sites.Declare (k + 1)))
  declare_next k (sites.Hole s d) h = inl tt
  declare_next k (sites.Declare j) lt = elim (less_or_same j k lt) [ inl a ↦ inl a | inr e ↦ inr (ap sites.Declare e) ]

  to_declare : (P : DeclareRow → Type 0) (k : ℕ) (d : DeclareRow) → slice_get def.declare_rows k ≡ Some d → P d → DeclareAt def k P
  to_declare P k d at p other there = subst P (slice_get_once def.declare_rows k d other at there) p

  declare_flaw : (k : ℕ) (d : DeclareRow) (flaw : Option Flaw) → slice_get def.declare_rows k ≡ Some d → HasFlaw (IsNarrow def d.specimen) (IsGeneralDeclare def d) flaw → HasFlaw (IsNarrowAt def (sites.Declare k)) (IsGeneralAt def (sites.Declare k)) flaw
  declare_flaw k d flaw at h =
      flaw_same (IsNarrow def d.specimen) (IsNarrowAt def (sites.Declare k)) (IsGeneralDeclare def d) (IsGeneralAt def (sites.Declare k))
      (to_declare (λ (x : DeclareRow). IsNarrow def x.specimen) k d at) (λ m. m d at) (to_declare (λ (x : DeclareRow). IsGeneralDeclare def x) k d at) (λ m. m d at) flaw h

  pub next_declare : (rows : List DeclareRow) (k : ℕ) (d : DeclareRow) (site : Site) (weak : Option Site) (flaw : Option Flaw) → rows ≡ def.declare_rows → k < length rows → d ≡ get_or rows k d → site ≡ sites.Declare k
      → HasFlaw (IsNarrow def d.specimen) (IsGeneralDeclare def d) flaw → (flaw ≡ Some flaws.Large → ⊥) → IsUpTo def (Some (sites.Declare k)) weak → IsUpTo def (Some (sites.Declare (k + 1))) (noted weak flaw site)
  next_declare rows k d site weak flaw same lt e is h n up =
      let at : slice_get def.declare_rows k ≡ Some d = subst (λ xs. slice_get xs k ≡ Some d) same (slice_get_item rows k d lt e) in
      subst (λ s. IsUpTo def (Some (sites.Declare (k + 1))) (noted weak flaw s)) (sym is)
      (up_next (sites.Declare k) (Some (sites.Declare (k + 1))) weak flaw (declare_next k) (declare_flaw k d flaw at h) n up)

  pub large_declare : (rows : List DeclareRow) (k : ℕ) (d : DeclareRow) (site : Site) (weak : Option Site) (flaw : Option Flaw) → rows ≡ def.declare_rows → k < length rows → d ≡ get_or rows k d → site ≡ sites.Declare k
      → HasFlaw (IsNarrow def d.specimen) (IsGeneralDeclare def d) flaw → flaw ≡ Some flaws.Large → IsUpTo def (Some (sites.Declare k)) weak → IsFirstSite (IsNarrowAt def) site
  large_declare rows k d site weak flaw same lt e is h large up =
      let at : slice_get def.declare_rows k ≡ Some d = subst (λ xs. slice_get xs k ≡ Some d) same (slice_get_item rows k d lt e) in
      subst (IsFirstSite (IsNarrowAt def)) (sym is) (first_large (sites.Declare k) weak flaw (declare_flaw k d flaw at h) large up)

  pub all_done : (n : ℕ) (weak : Option Site) → length def.declare_rows ≤ n → IsUpTo def (Some (sites.Declare n)) weak → IsUpTo def None weak
  all_done n weak le up = up_skip (sites.Declare n) None weak skip up where
    none : (P : DeclareRow → Type 0) (j : ℕ) → length def.declare_rows ≤ j → DeclareAt def j P
    none P j m d at = let lt = slice_get_within def.declare_rows j d at in absurd (omega (arith, m, lt))

    skip : (t : Site) → Unit {0} → IsSiteBefore t (sites.Declare n) ⊎ (IsNarrowAt def t × IsGeneralAt def t)
    skip (sites.Hole s d) h = inl tt
    skip (sites.Declare j) h = elim (cases_lt j n) [
      | inl a ↦ inl a
      | inr b ↦ inr (none (λ (x : DeclareRow). IsNarrow def x.specimen) j (omega (arith, b, le)), none (λ (x : DeclareRow). IsGeneralDeclare def x) j (omega (arith, b, le)))
    ]
