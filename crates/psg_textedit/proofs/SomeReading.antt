-- That a change has no reading is refuted.
use Rattle.std.proofs.Common.{◌≡◌, ◌⊎◌, inl, inr, ℕ, zero, suc, ◌+◌, ◌<◌, ◌≤◌, List, [], ◌∷◌, ◌++◌, length, Option, Some, None, slice_get, refl, ap, sym, ◌∙◌, subst, arith}
use Rattle.std.specs.Prelude.{option_and_then}
use Rattle.std.specs.Str.{chars}
use Rattle.std.proofs.lemmas.Bool.{cases_lt}
use Rattle.std.proofs.lemmas.Option.{none-some, same_Some}
use Rattle.psg_terms.proofs.Lists.{slice_get-map_some}
use Rattle.psg_grammar.specs.declared.types.Definition.{Definition}
use Rattle.psg_grammar.specs.Fragments.{Fragment, children_of}
use Rattle.psg_grammar.specs.Paths.{Path, node_at}
use Rattle.psg_grammar.specs.WellFormed.{fixed_words}
use Rattle.psg_grammar.proofs.PathLaws.{step}
use Rattle.psg_unparse.specs.Layout.{text_of}
use Rattle.psg_unparse.specs.Spots.{Placed, placed_in, IsPlacedAt}
use Rattle.psg_unparse.specs.Listing.{IsListing}
use Rattle.psg_unparse.specs.Spans.{printed_of, span_of}
use Rattle.psg_unparse.proofs.Listed.{listing}
use Rattle.psg_unparse.specs.declared.spans.Span.{Span}
use Rattle.psg_textedit.specs.Regions.{Typing, Encloses, IsOutside, IsInnermost, IsClean, IsUnclean, CountsText, has_tokens, has_none, Widens, stops, gives_up, widens, has_no_place, reads, region_of}
use Rattle.psg_textedit.specs.Laws.{SomeReading}
use Rattle.psg_textedit.proofs.Lexed.{lexed}
use Rattle.psg_textedit.proofs.Roots.{got_mapped, top_of, top_placed, top_start}

-- that neither a fact nor its refutation holds is refuted
either : (P : Type 0) → ((P ⊎ (P → ⊥)) → ⊥) → ⊥
either P h = h (inr (λ p. h (inl p)))

-- ---- the innermost node

encloses_or : (e : Typing) (s : Span) → Encloses e s ⊎ (Encloses e s → ⊥)
encloses_or e s = elim (cases_lt e.start s.start) [
  | inl front ↦ inr (λ h. let a = h.0 in omega (arith, front, a))
  | inr low ↦ elim (cases_lt s.end e.end) [
    | inl back ↦ inr (λ h. let b = h.1 in omega (arith, back, b))
    | inr high ↦ inl (low, high)
  ]
]

module _ (e : Typing) where
  record Inner (spans : List Span) : Type 0 where
    path : Path
    is : IsInnermost spans e path

  abbrev HasNone : List Span → Type 0
  HasNone spans = (k : ℕ) (s : Span) → slice_get spans k ≡ Some s → Encloses e s → ⊥

  module _ (s : Span) (rest : List Span) where
    none_more : (Encloses e s → ⊥) → HasNone rest → HasNone (s ∷ rest)
    none_more out none zero other got around =
        out (subst (Encloses e) (sym (same_Some s other got)) around)
    none_more out none (suc k) other got around = none k other got around

    -- the first one is the innermost
    at_first : Encloses e s
        → ((k : ℕ) (other : Span) → slice_get rest k ≡ Some other → Encloses e other
        → length other.path ≤ length s.path) → Inner (s ∷ rest)
    at_first around low = record {
      path = s.path;
      is = record {
        number = 0;
        span = s;
        found = refl;
        path_is = refl;
        encloses = around;
        deepest = deep;
        first = λ k other less. absurd (omega (arith, less));
      };
    } where
      deep : (k : ℕ) (other : Span) → slice_get (s ∷ rest) k ≡ Some other → Encloses e other
          → length other.path ≤ length s.path
      deep zero other got inside =
          let same = ap (λ (x : Span). length x.path) (same_Some s other got) in omega (arith, same)
      deep (suc k) other got inside = low k other got inside

    -- one of the others is
    at_later : (b : Inner rest) → (Encloses e s → length s.path < length b.path) → Inner (s ∷ rest)
    at_later b low = record {
      path = b.path;
      is = record {
        number = suc b.is.number;
        span = b.is.span;
        found = b.is.found;
        path_is = b.is.path_is;
        encloses = b.is.encloses;
        deepest = deep;
        first = before;
      };
    } where
      deep : (k : ℕ) (other : Span) → slice_get (s ∷ rest) k ≡ Some other → Encloses e other
          → length other.path ≤ length b.path
      deep zero other got inside =
          let one = same_Some s other got in
          let same = ap (λ (x : Span). length x.path) one in
          let less = low (subst (Encloses e) (sym one) inside) in omega (arith, same, less)
      deep (suc k) other got inside = b.is.deepest k other got inside

      before : (k : ℕ) (other : Span) → k < suc b.is.number → slice_get (s ∷ rest) k ≡ Some other → Encloses e other
          → length other.path < length b.path
      before zero other less got inside =
          let one = same_Some s other got in
          let same = ap (λ (x : Span). length x.path) one in
          let lower = low (subst (Encloses e) (sym one) inside) in omega (arith, same, lower)
      before (suc k) other less got inside = b.is.first k other (omega (arith, less)) got inside

    inner_more : Inner rest ⊎ HasNone rest → Inner (s ∷ rest) ⊎ HasNone (s ∷ rest)
    inner_more (inr none) = elim (encloses_or e s) [
      | inl around ↦ inl (at_first around (λ k other got inside. absurd (none k other got inside)))
      | inr out ↦ inr (none_more out none)
    ]
    inner_more (inl b) = elim (cases_lt (length s.path) (length b.path)) [
      | inl lower ↦ inl (at_later b (λ around. lower))
      | inr deep ↦ elim (encloses_or e s) [
        | inl around ↦ inl (at_first around (λ k other got inside. let low = b.is.deepest k other got inside in omega (arith, low, deep)))
        | inr out ↦ inl (at_later b (λ around. absurd (out around)))
      ]
    ]

  inner_or : (spans : List Span) → Inner spans ⊎ HasNone spans
  inner_or [] = inr (λ k s got around. none-some s got)
  inner_or (s ∷ rest) = inner_more s rest (inner_or rest)

-- ---- widening

last_step : (path : Path) → (path ≡ []) ⊎ ((parent : Path) × (k : ℕ) × (path ≡ parent ++ k ∷ []))
last_step [] = inl refl
last_step (k ∷ path) = elim (last_step path) [
  | inl e ↦ inr ([], k, ap (λ p. k ∷ p) e)
  | inr (parent, j, e) ↦ inr (k ∷ parent, j, ap (λ p. k ∷ p) e)
]

-- where there is a node, there is one above it
above : (f : Fragment) (p q : Path) (x : Fragment) → node_at f (p ++ q) ≡ Some x → (t : Fragment) × (node_at f p ≡ Some t)
above f [] q x at = (f, refl)
above f (k ∷ p) q x at =
    let (c, got, below) = step (slice_get (children_of f) k) (p ++ q) x at in
    let (t, is) = above c p q x below in
    (t, ap (option_and_then (λ u. node_at u p)) got ∙ is)

length-snoc : (p : Path) (k : ℕ) → length (p ++ k ∷ []) ≡ suc (length p)
length-snoc [] k = refl
length-snoc (j ∷ p) k = ap suc (length-snoc p k)

counted : (def : Definition) (text : List ℕ) → (n : ℕ) × CountsText def text n
counted def text = elim (lexed (fixed_words def) (chars text)) [
  | inl (ts, are) ↦ (length ts, has_tokens ts are)
  | inr (fault, is) ↦ (0, has_none (fault, is))
]

module _ (def : Definition) (f : Fragment) (e : Typing) (listed : IsListing def f) where
  abbrev Stays : Path → Type 0
  Stays path = (found : Option Path) (n : ℕ) → Widens def f e path found n → ⊥

  -- the nodes above the path are refuted to stay
  abbrev Above : Path → Type 0
  Above path = (parent : Path) (k : ℕ) → path ≡ parent ++ k ∷ [] → (q : Placed) → IsPlacedAt def f parent q
      → Stays parent → ⊥

  module _ (path : Path) (p : Placed) (at : IsPlacedAt def f path p) (none : Stays path) (up : Above path) where
    outward : (m : ℕ) → CountsText def (region_of def f e p) m → IsUnclean def f e p
        → (path ≡ []) ⊎ ((parent : Path) × (k : ℕ) × (path ≡ parent ++ k ∷ [])) → ⊥
    outward m c unclean (inl top) =
        none None m
        (subst (λ q. Widens def f e q None m) (sym top)
        (gives_up p (subst (λ q. IsPlacedAt def f q p) top at) unclean c))
    outward m c unclean (inr (parent, k, is)) =
        let (t, there) = above f parent (k ∷ []) p.node (ap (node_at f) (sym is) ∙ listed.nodes path p at) in
        let (q, got) = listed.all parent t there in
        up parent k is q got (λ found n w. none found (m + n) (widens m n p parent k is at unclean c w))

    tried : ⊥
    tried =
        let (m, c) = counted def (region_of def f e p) in
        either ((tree : Fragment) × (nesting : ℕ) × IsClean def f e p tree nesting) (λ d. elim d [
          | inl (tree, nesting, clean) ↦ none (Some path) m (stops p tree nesting at clean c)
          | inr un ↦ outward m c (λ tree nesting clean. un (tree, nesting, clean)) (last_step path)
        ])

  widened : (limit : ℕ) (path : Path) (p : Placed) → length path ≤ limit → IsPlacedAt def f path p → Stays path → ⊥
  widened zero path p le at none =
      tried path p at none
      (λ parent k is q got stays. let size = ap length is ∙ length-snoc parent k in omega (arith, size, le))
  widened (suc limit) path p le at none =
      tried path p at none
      (λ parent k is q got stays.
      let size = ap length is ∙ length-snoc parent k in widened limit parent q (omega (arith, size, le)) got stays)

pub some_reading : (def : Definition) (f : Fragment) → SomeReading def f
some_reading def f kind formed e none = either (IsOutside e (text_of def f)) (λ d. elim d [
  | inl out ↦ none (record { found = None; read = 0; is = has_no_place out })
  | inr within ↦ inside within (inner_or e (printed_of def f).spans)
])
  where
    top : IsPlacedAt def f [] (top_of def f)
    top = top_placed def f kind formed

    around : (IsOutside e (text_of def f) → ⊥) → Encloses e (span_of def (top_of def f))
    around within = elim (cases_lt (length (text_of def f)) e.end) [
      | inl long ↦ absurd (within (inr (inl long)))
      | inr high ↦ (let start = top_start def f in omega (arith, start), high)
    ]

    inside : (IsOutside e (text_of def f) → ⊥) → Inner e (printed_of def f).spans ⊎ HasNone e (printed_of def f).spans → ⊥
    inside within (inr nothing) =
        nothing top.0 (span_of def (top_of def f))
        (slice_get-map_some (span_of def) (placed_in def f) top.0 (top_of def f) top.1) (around within)
    inside within (inl b) =
        let (p, got, same) = got_mapped (span_of def) (placed_in def f) b.is.number b.is.span b.is.found in
        let at : IsPlacedAt def f b.path p = (b.is.number, got, ap (λ (s : Span). s.path) same ∙ b.is.path_is) in
        widened def f e (listing def f kind formed) (length b.path) b.path p (omega arith) at
        (λ found n w. none (record { found = found; read = n; is = reads b.path within b.is w }))
