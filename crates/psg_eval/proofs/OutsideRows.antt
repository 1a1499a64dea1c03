-- The rows of a scope operator without the keys that end inside.
use Rattle.std.proofs.Common.{◌≡◌, ◌↔◌, ℕ, ◌+◌, ◌<◌, zero, suc, List, [], ◌∷◌, ◌++◌, All, map, length, take, drop, refl, ap, ap₂, sym, ◌∙◌, subst, Some, slice_get, option_map, length-append, append-nil, arith}
use Rattle.std.specs.Prelude.{slice_index_or}
use Rattle.std.proofs.lemmas.Option.{slice_get-map, slice_get_within}
use Rattle.std.proofs.lemmas.List.{length-map, take-append-drop, length-take-le}
use Rattle.psg_terms.specs.Terms.{Term}
use Rattle.psg_terms.specs.Relations.{IsRelation}
use Rattle.psg_grammar.specs.Keys.{Key}
use Rattle.psg_grammar.specs.declared.types.Definition.{Definition}
use Rattle.psg_grammar.specs.declared.types.Kind.{Kind}
use Rattle.psg_relation.specs.Choices.{AllHaveSorts, AllWithin, IsProjected, picked}
use Rattle.psg_scope.specs.declared.header.Header.{Header}
use Rattle.psg_scope.specs.Headers.{AreRising, ArePlaces, IsOrdered, PassesOutward, key_of, keys}
use Rattle.psg_eval.specs.Glues.{CloseGlue, IsCut}
use Rattle.psg_eval.specs.Partials.{IsPartial}
use Rattle.psg_eval.specs.Walks.{run}
use Rattle.psg_eval.specs.declared.partial.Partial.{Partial}
use Rattle.psg_eval.proofs.Gluing.{cut_same}
use Rattle.psg_eval.proofs.KeySorts.{key_sort, key_sorts_are, closed_key_sorts}
use Rattle.psg_terms.proofs.OneRelation.{sorts_length}
use Rattle.psg_eval.proofs.Walking.{Picks, picks_picked, picks_append, picks_within, picks_run, entities}

-- the places of keys in a list
places_below : (K : List Key) (kept : List ℕ) (L : List Key) → map (λ p. slice_get K p) kept ≡ map Some L → All (λ k. k < length K) kept
places_below K [] L e = λ k d l. absurd (omega arith)
places_below K (p ∷ kept) [] e = absurd (cc)
places_below K (p ∷ kept) (l ∷ L) e = by (let d : map (λ p. slice_get K p) kept ≡ map Some L = cc in places_below K kept L d) where
  by : All (λ k. k < length K) kept → (k : ℕ) (d : ℕ) → k < length (p ∷ kept) → slice_index_or (p ∷ kept) k d < length K
  by rest zero d h = let at : slice_get K p ≡ Some l = cc in slice_get_within K p l at
  by rest (suc k) d h = rest k d (omega arith)

get_behind : {X : Type 0} (front xs : List X) (p : ℕ) (x : X) → slice_get xs p ≡ Some x → (n : ℕ) → n ≡ length front + p → slice_get (front ++ xs) n ≡ Some x
get_behind [] xs p x at n e = let same : p ≡ n = omega arith in subst (λ k. slice_get xs k ≡ Some x) same at
get_behind (y ∷ front) xs p x at zero e = absurd (omega arith)
get_behind (y ∷ front) xs p x at (suc n) e = get_behind front xs p x at n (omega arith)

-- what stands beside the keys at these places
picks_places : {X : Type 0} (g : Key → X) (heads : List X) (front : ℕ) → front ≡ length heads → (K : List Key) (kept : List ℕ) (L : List Key) → map (λ p. slice_get K p) kept ≡ map Some L
    → Picks (heads ++ map g K) (map (λ k. front + k) kept) (map g L)
picks_places g heads front f K [] [] e = tt
picks_places g heads front f K [] (l ∷ L) e = absurd (cc)
picks_places g heads front f K (p ∷ kept) [] e = absurd (cc)
picks_places g heads front f K (p ∷ kept) (l ∷ L) e =
    let at : slice_get K p ≡ Some l = cc in
    let rest : map (λ p. slice_get K p) kept ≡ map Some L = cc in
    (get_behind heads (map g K) p (g l) (slice_get-map g K p ∙ ap (option_map g) at) (front + p) (ap (λ n. n + p) f), picks_places g heads front f K kept L rest)

-- the columns in front, and then those of the keys at these places
abbrev pub columns_at : ℕ → List ℕ → List ℕ
columns_at front kept = run 0 front ++ map (λ k. front + k) kept

cut_picks : {X : Type 0} (g : Key → X) (heads : List X) (front : ℕ) → front ≡ length heads → (K : List Key) (kept : List ℕ) (L : List Key) → map (λ p. slice_get K p) kept ≡ map Some L
    → (row : List X) → row ≡ heads ++ map g K → Picks row (columns_at front kept) (heads ++ map g L)
cut_picks g heads front f K kept L places row e =
    picks_append row (run 0 front) (map (λ k. front + k) kept) heads (map g L) (picks_run row [] heads (map g K) 0 front e refl f)
    (subst (λ r. Picks r (map (λ k. front + k) kept) (map g L)) (sym e) (picks_places g heads front f K kept L places))

first_of : {X : Type 0} (xs : List X) → 0 < length xs → (x : X) × (rest : List X) × (xs ≡ x ∷ rest)
first_of [] h = absurd (omega arith)
first_of (x ∷ rest) h = (x, rest, refl)

module _ (K L : List Key) (rising : AreRising K) (seen : ℕ) (kept : List ℕ) (places : map (λ p. slice_get K p) kept ≡ map Some L) where
  -- of rows of the right width, the columns are those that a whole node keeps
  close_same : (p x : List Term) → length p ≡ (1 + seen) + length K → (x ≡ picked p (columns_at (1 + seen) kept)) ↔ CloseGlue K L p x
  close_same p x width = (
    (λ e.
        let split : take (1 + seen) p ++ drop (1 + seen) p ≡ p = take-append-drop (1 + seen) p in
        let size : length (take (1 + seen) p) ≡ 1 + seen = length-take-le (1 + seen) p (omega arith) in
        let behind : length (drop (1 + seen) p) ≡ length K = omega (arith, ap length split, length-append (take (1 + seen) p) (drop (1 + seen) p)) in
        let (g, are) = entities K (drop (1 + seen) p) rising behind in
        let (v, vs, heads) = first_of (take (1 + seen) p) (omega arith) in
        let full : p ≡ (v ∷ vs) ++ map g K = sym split ∙ ap₂ (λ a b. a ++ b) heads are in
        let count : 1 + seen ≡ length (v ∷ vs) = sym size ∙ ap length heads in
        record {
          value = v;
          seen = vs;
          entity = g;
          full_is = full;
          cut_is = e ∙ picks_picked p (columns_at (1 + seen) kept) ((v ∷ vs) ++ map g L) (cut_picks g (v ∷ vs) (1 + seen) count K kept L places p full);
        }),
    (λ c.
        let size = length-map K c.entity in
        let count : 1 + seen ≡ length (c.value ∷ c.seen) = omega (arith, size, width, ap length c.full_is, length-append (c.value ∷ c.seen) (map c.entity K)) in
        c.cut_is ∙ sym (picks_picked p (columns_at (1 + seen) kept) ((c.value ∷ c.seen) ++ map c.entity L) (cut_picks c.entity (c.value ∷ c.seen) (1 + seen) count K kept L places p c.full_is))),
  )

module _ (def : Definition) (kind : Kind) (p : Partial) (part : IsPartial def kind [] p) (outside : Header) (kept : List ℕ) (places : ArePlaces p.header.names kept (keys outside.names)) where
  abbrev pub columns : List ℕ
  columns = columns_at (1 + p.seen) kept

  abbrev pub own_sorts : List ℕ
  own_sorts = (part.sort ∷ part.seen) ++ map (key_sort def) (keys p.header.names)

  pub own_sorted : AllHaveSorts def.signature p.rel own_sorts
  own_sorted =
      let none : ((part.sort ∷ part.seen) ++ part.wanted) ++ part.key_sorts ≡ own_sorts =
      ap₂ (λ a b. a ++ b) (ap (λ l. (part.sort ∷ part.seen) ++ l) part.wanted_sorts ∙ append-nil (part.sort ∷ part.seen)) (key_sorts_are def p.header.names part.key_sorts part.keys_sorted) in
      subst (AllHaveSorts def.signature p.rel) none part.sorted

  own_picks : Picks own_sorts columns ((part.sort ∷ part.seen) ++ map (key_sort def) (keys outside.names))
  own_picks = cut_picks (key_sort def) (part.sort ∷ part.seen) (1 + p.seen) (let e = part.reported in omega arith) (keys p.header.names) kept (keys outside.names) places own_sorts refl

  own_width : length own_sorts ≡ (1 + p.seen) + length (keys p.header.names)
  own_width = let e = part.reported in omega (arith, length-append (part.sort ∷ part.seen) (map (key_sort def) (keys p.header.names)), length-map (keys p.header.names) (key_sort def))

  pub kept_below : All (λ k. k < length p.header.names) kept
  kept_below = λ k d l. let h = places_below (keys p.header.names) kept (keys outside.names) places k d l in omega (arith, length-keys)
    where
      length-keys : length (keys p.header.names) ≡ length p.header.names
      length-keys = length-map p.header.names key_of

  pub columns_within : AllWithin p.rel columns
  columns_within = λ row i. subst (λ n. All (λ k. k < n) columns) (sym (sorts_length def.signature row own_sorts (own_sorted row i)))
      (picks_within own_sorts columns ((part.sort ∷ part.seen) ++ map (key_sort def) (keys outside.names)) own_picks)

  pub closed_rows : IsOrdered p.header → (ss : List ℕ) (made : List (List Term)) → IsRelation def.signature ss (IsProjected def.signature p.rel columns) made
      → IsRelation def.signature ss (IsCut def.signature (CloseGlue (keys p.header.names) (keys outside.names)) p.rel) made
  closed_rows region ss made rel =
      cut_same def.signature ss own_sorts columns (CloseGlue (keys p.header.names) (keys outside.names)) p.rel own_sorted
      (λ q x width. close_same (keys p.header.names) (keys outside.names) region.keys_rise p.seen kept places q x (width ∙ own_width)) made rel

  pub closed_partial : IsOrdered outside → PassesOutward p.header outside → (made : List (List Term)) → AllHaveSorts def.signature made (picked own_sorts columns)
      → IsPartial def kind [] (record { header = outside; seen = p.seen; wanted = 0; rel = made })
  closed_partial region close made sorted = record {
    header = region;
    sort = part.sort;
    kind_sort = part.kind_sort;
    seen = part.seen;
    reported = part.reported;
    wanted = [];
    wanted_sorts = refl;
    many = refl;
    few = omega arith;
    key_sorts = map (key_sort def) (keys outside.names);
    keys_sorted = closed_key_sorts def p.header outside part.key_sorts close part.keys_sorted;
    sorted = subst (AllHaveSorts def.signature made)
        (picks_picked own_sorts columns ((part.sort ∷ part.seen) ++ map (key_sort def) (keys outside.names)) own_picks ∙ ap (λ l. l ++ map (key_sort def) (keys outside.names)) (sym (append-nil (part.sort ∷ part.seen)))) sorted;
  }
