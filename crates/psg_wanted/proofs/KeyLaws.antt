-- The column of a key, and the entities of the key from the rows of a whole tree.
use Rattle.std.proofs.Common.{◌≡◌, inl, inr, ℕ, ◌+◌, ◌<◌, zero, suc, All, Bool, true, false, List, [], ◌∷◌, ◌++◌, map, take, get_or, length, Some, slice_get, refl, ap, ap₂, sym, ◌∙◌, subst, length-append, arith}
use Rattle.std.specs.Prelude.{slice_index_or, IfErr, Result, Err, bytes_eq, ◌||◌}
use Rattle.std.proofs.lemmas.List.{length-map, map-append, take_all}
use Rattle.std.proofs.lemmas.Option.{slice_get_within}
use Rattle.std.proofs.lemmas.Slice.Eq.{bytes_eq-Decides}
use Rattle.psg_terms.specs.Names.{is_among}
use Rattle.psg_terms.specs.Relations.{IsIn, IsRelation}
use Rattle.psg_terms.specs.Signature.{HaveSorts, Signature}
use Rattle.psg_terms.specs.Terms.{Term}
use Rattle.psg_terms.specs.Weight.{PassesLimit}
use Rattle.psg_terms.proofs.DeclareLaws.{is_among-append, is_among-at}
use Rattle.psg_terms.proofs.Lists.{slice_get-map_some, slice_get_item, slice_get_some, take_item}
use Rattle.psg_terms.proofs.OneRelation.{instance_sorts, sorts_length}
use Rattle.psg_grammar.specs.declared.types.Definition.{Definition}
use Rattle.psg_grammar.specs.Fragments.{Fragment}
use Rattle.psg_grammar.specs.Keys.{Key}
use Rattle.psg_grammar.specs.Legal.{Entities}
use Rattle.psg_grammar.specs.Open.{Choice, Judged}
use Rattle.psg_grammar.specs.Regions.{names_of}
use Rattle.psg_grammar.specs.Relations.{IsPossible}
use Rattle.psg_relation.specs.Choices.{AllHaveSorts, AllWithin, HasWide, IsProjected, MayBeWide, pick, picked}
use Rattle.psg_relation.specs.Fewer.{FewerColumns, KeptOnce}
use Rattle.psg_relation.specs.declared.relation.RelFault.{RelFault}
use Rattle.psg_relation.specs.declared.relation.RelFault.TheVariants.{Wide}
use Rattle.psg_relation.proofs.Relating.{carried}
use Rattle.psg_scope.specs.declared.header.Header.{Header}
use Rattle.psg_scope.specs.declared.header.NameCol.{NameCol}
use Rattle.psg_scope.specs.Headers.{key_of, keys}
use Rattle.psg_eval.specs.declared.summary.SummaryParts.{SummaryParts}
use Rattle.psg_eval.specs.Frames.{IsSilent}
use Rattle.psg_eval.specs.Summaries.{IsSummary, IsSummaryOf}
use Rattle.psg_eval.proofs.Gluing.{CutOf, cut_relation, cut_same}
use Rattle.psg_eval.proofs.PartialSorts.{key_sorts_many}
use Rattle.psg_focus.specs.Shown.{rows_of}
use Rattle.psg_cache.specs.Annotated.{Annotated, tree_in, whole_in}
use Rattle.psg_cache.specs.Notes.{IsNoteOf}
use Rattle.psg_cache.proofs.FrameParts.{quiet}
use Rattle.psg_cache.proofs.NoteLaws.{noted_known}
use Rattle.psg_cache.proofs.NoteParts.{noted_parts}
use Rattle.psg_cache.proofs.RealTrees.{real}
use Rattle.psg_wanted.specs.Fronts.{AreKeyValues, IsColumnOf, IsEntityOf, IsTooMuch, beyond, told, without_column}

-- ---- the place of a key

pub among_next : (cols : List NameCol) (i : ℕ) (c : NameCol) (key : Key) (b : Bool) → i < length cols → c ≡ get_or cols i c → b ≡ bytes_eq (key_of c) key → b ≡ false
    → is_among (keys (take i cols)) key ≡ false → is_among (keys (take (i + 1) cols)) key ≡ false
among_next cols i c key b lt at is not before =
    ap (λ (xs : List NameCol). is_among (keys xs) key) (take_item cols i c lt at)
    ∙ ap (λ xs. is_among xs key) (map-append key_of (take i cols) (c ∷ []))
    ∙ is_among-append (keys (take i cols)) (key_of c ∷ []) key
    ∙ ap₂ (λ x y. x || (y || false)) before (sym is ∙ not)

pub among_whole : (cols : List NameCol) (i : ℕ) (key : Key) → i ≡ length cols → is_among (keys (take i cols)) key ≡ false → is_among (keys cols) key ≡ false
among_whole cols i key e h = subst (λ (xs : List NameCol). is_among (keys xs) key ≡ false) (take_all i cols (omega (arith, e))) h

pub column_is : (cols : List NameCol) (i : ℕ) (c : NameCol) (key : Key) (b : Bool) → i < length cols → c ≡ get_or cols i c → b ≡ bytes_eq (key_of c) key → b ≡ true
    → IsColumnOf cols (i + 1) key
column_is cols i c key b lt at is yes_is =
    let same : key_of c ≡ key = (bytes_eq-Decides (key_of c) key).0 (sym is ∙ yes_is) in
    (i, omega arith, slice_get-map_some key_of cols i c (slice_get_item cols i c lt at) ∙ ap (λ k. Some k) same)

-- ---- one column

picked_one : {X : Type 0} (xs : List X) (k : ℕ) (x : X) → slice_get xs k ≡ Some x → picked xs (k ∷ []) ≡ x ∷ []
picked_one xs k x e = ap (λ o. pick o []) e

key_value : (g : Entities) (v : Term) (ks : List Key) (place : ℕ) (key : Key) → slice_get ks place ≡ Some key → picked (v ∷ map g ks) (suc place ∷ []) ≡ g key ∷ []
key_value g v ks place key e = picked_one (v ∷ map g ks) (suc place) (g key) (slice_get-map_some g ks place key e)

one_within : {X : Type 0} (row : List X) (column : ℕ) → column < length row → All (λ k. k < length row) (column ∷ [])
one_within row column lt = by where
  by : (k : ℕ) (d : ℕ) → k < 1 → slice_index_or (column ∷ []) k d < length row
  by zero d l = lt
  by (suc k) d l = absurd (omega (arith, l))

some_wide : {X : Type 0} (r : Result X RelFault) (P : Type 0) → IfErr r (MayBeWide P) → r ≡ Err Wide → P
some_wide r P h e = subst (λ z. IfErr z (MayBeWide P)) e h

one_kept : (column : ℕ) → KeptOnce (column ∷ [])
one_kept column zero zero k a b = refl
one_kept column zero (suc j) k a b = absurd (cc)
one_kept column (suc i) j k a b = absurd (cc)

nothing : {X : Type 0} (xs : List X) → length xs ≡ 0 → xs ≡ []
nothing [] e = refl
nothing (x ∷ xs) e = absurd (omega (arith, e))

module _ (def : Definition) (s : SummaryParts) (usual : IsSummary def s) (silent : IsSilent s) where
  abbrev pub whole_sorts : List ℕ
  whole_sorts = (usual.sort ∷ usual.seen) ++ usual.key_sorts

  none_seen : length usual.seen ≡ 0
  none_seen = usual.reported ∙ silent

  width : length whole_sorts ≡ 1 + length (keys s.header.names)
  width = omega (arith, none_seen, length-append usual.seen usual.key_sorts, key_sorts_many def s.header.names usual.key_sorts usual.keys_sorted)

  pub sorts_same : (rows : List (List Term)) → rows ≡ s.rel → AllHaveSorts def.signature rows whole_sorts
  sorts_same rows e = subst (λ (r : List (List Term)). AllHaveSorts def.signature r whole_sorts) (sym e) usual.sorted

  abbrev pub SomeWide : List (List Term) → List ℕ → Type 0
  SomeWide rows cols = (sorts : List ℕ) → AllHaveSorts def.signature rows sorts → HasWide def.signature (picked sorts cols) (IsProjected def.signature rows cols)

  abbrev pub IsKeyRel : List (List Term) → List ℕ → List (List Term) → Type 0
  IsKeyRel rows cols made = (sorts : List ℕ) → AllHaveSorts def.signature rows sorts → IsRelation def.signature (picked sorts cols) (IsProjected def.signature rows cols) made

  module _ (place : ℕ) (key : Key) (at : slice_get (keys s.header.names) place ≡ Some key) where
    inside : suc place < length whole_sorts
    inside = omega (arith, slice_get_within (keys s.header.names) place key at, width)

    key_within : AllWithin s.rel (suc place ∷ [])
    key_within = λ row i.
        let long = sorts_length def.signature row whole_sorts (usual.sorted row i) in
        one_within row (suc place) (omega (arith, long, inside))

    pub within_same : (rows : List (List Term)) (cols : List ℕ) → rows ≡ s.rel → cols ≡ suc place ∷ [] → AllWithin rows cols
    within_same rows cols e f = subst (λ (r : List (List Term)). AllWithin r cols) (sym e) (subst (AllWithin s.rel) (sym f) key_within)

    -- where the rows are within the limit, no relation of the column passes it
    pub key_light : {X : Type 0} (result : Result X RelFault) (rows : List (List Term)) (cols : List ℕ) → rows ≡ s.rel → cols ≡ suc place ∷ [] → FewerColumns def.signature → (PassesLimit rows → ⊥)
        → IfErr result (MayBeWide (SomeWide rows cols)) → result ≡ Err Wide → ⊥
    key_light result rows cols e f fewer light may is =
        let some = some_wide result (SomeWide rows cols) may is in
        let sorted = sorts_same rows e in
        let (made, rel, passes) = some whole_sorts sorted in
        fewer whole_sorts rows cols sorted (within_same rows cols e f) (subst KeptOnce (sym f) (one_kept (suc place))) light made rel passes

    -- by what the projection says of equal rows and columns
    pub key_rel : (rows : List (List Term)) (cols : List ℕ) (made : List (List Term)) → rows ≡ s.rel → cols ≡ suc place ∷ [] → IsKeyRel rows cols made
        → IsRelation def.signature (picked whole_sorts (suc place ∷ [])) (IsProjected def.signature s.rel (suc place ∷ [])) made
    key_rel rows cols made e f h = subst (λ r. IsKeyRel r (suc place ∷ []) made) e (subst (λ k. IsKeyRel rows k made) f h) whole_sorts usual.sorted

    pub key_sorts : (made : List (List Term)) → IsRelation def.signature (picked whole_sorts (suc place ∷ [])) (IsProjected def.signature s.rel (suc place ∷ [])) made
        → (sort : ℕ) × AllHaveSorts def.signature made (sort ∷ [])
    key_sorts made rel =
        let (sort, e) = slice_get_some whole_sorts (suc place) inside in
        (sort, λ row i. subst (HaveSorts def.signature row) (picked_one whole_sorts (suc place) sort e) (rel.shapes row i).sorted)

    module _ (f : Fragment) (is : IsSummaryOf def f s) where
      names_are : keys s.header.names ≡ names_of def f
      names_are = is.header.keys_are

      pub key_there : slice_get (names_of def f) place ≡ Some key
      key_there = ap (λ ks. slice_get ks place) (sym names_are) ∙ at

      -- no value is seen
      nothing_seen : (c : Choice f) (x : List Term) (it : IsPossible def f c x) → it.seen ≡ []
      nothing_seen c x it =
          let (row, i, all) = is.rows.1.covers c x it in
          let long : length x ≡ length whole_sorts = sorts_length def.signature x whole_sorts (instance_sorts def.signature row x whole_sorts (usual.sorted row i) (all x it)) in
          let parts : length x ≡ length ((it.value ∷ it.seen) ++ map it.outside (names_of def f)) = ap length it.columns_are in
          let many : length (keys s.header.names) ≡ length (names_of def f) = ap length names_are in
          nothing it.seen (omega (arith, long, width, parts, length-append (it.value ∷ it.seen) (map it.outside (names_of def f)), length-map (names_of def f) it.outside, many))

      abbrev Only : List Term → List Term → Type 0
      Only p x = x ≡ picked p (suc place ∷ [])

      entity_from : (c : Choice f) (x : List Term) → CutOf (IsPossible def f) Only c x → IsEntityOf def f key c x
      entity_from c x it =
          let p = it.full_is in
          let none = nothing_seen c it.full p in
          let whole : it.full ≡ p.value ∷ map p.outside (names_of def f) = p.columns_are ∙ ap (λ l. (p.value ∷ l) ++ map p.outside (names_of def f)) none in
          record {
            distinct = p.distinct;
            outside = p.outside;
            entities = p.entities;
            value = p.value;
            judged = subst (λ l. Judged def p.outside f c p.value l) none p.judged;
            columns_are = it.cut ∙ ap (λ q. picked q (suc place ∷ [])) whole ∙ key_value p.outside p.value (names_of def f) place key key_there;
          }

      entity_to : (c : Choice f) (x : List Term) → IsEntityOf def f key c x → CutOf (IsPossible def f) Only c x
      entity_to c x it =
          let full : List Term = it.value ∷ map it.outside (names_of def f) in
          let p : IsPossible def f c full =
          record { distinct = it.distinct; outside = it.outside; entities = it.entities; value = it.value; seen = []; judged = it.judged; columns_are = refl } in
          record {
            full = full;
            full_is = p;
            cut = it.columns_are ∙ sym (key_value it.outside it.value (names_of def f) place key key_there);
          }

      pub key_relation : (made : List (List Term)) → IsRelation def.signature (picked whole_sorts (suc place ∷ [])) (IsProjected def.signature s.rel (suc place ∷ [])) made
          → (ss : List ℕ) × IsRelation def.signature ss (IsEntityOf def f key) made
      key_relation made rel =
          let ss = picked whole_sorts (suc place ∷ []) in
          let cut = cut_same def.signature ss whole_sorts (suc place ∷ []) Only s.rel usual.sorted (λ p x w. (λ e. e, λ e. e)) made rel in (
            ss,
            carried def.signature ss (CutOf (IsPossible def f) Only) (IsEntityOf def f key)
                (λ c columns h. (c, λ x. (entity_from c x, entity_to c x)))
                (λ c columns h. (c, λ x. (entity_from c x, entity_to c x)))
                made (cut_relation (IsPossible def f) Only def.signature ss is.rows.0 s.rel made is.rows.1 cut),
          )

  -- the same for the column that is kept
  module _ (column : ℕ) (keep : List ℕ) (kept : keep ≡ column ∷ []) (rows : List (List Term)) (rows_are : rows ≡ s.rel) where
    pub column_within : (key : Key) → IsColumnOf s.header.names column key → AllWithin rows keep
    column_within key (place, e, at) = within_same place key at rows keep rows_are (kept ∙ ap (λ k. k ∷ []) e)

    pub column_light : {X : Type 0} (key : Key) → IsColumnOf s.header.names column key → (result : Result X RelFault) → FewerColumns def.signature → (PassesLimit rows → ⊥)
        → IfErr result (MayBeWide (SomeWide rows keep)) → result ≡ Err Wide → ⊥
    column_light key (place, e, at) result = key_light place key at result rows keep rows_are (kept ∙ ap (λ k. k ∷ []) e)

    pub column_sorts : (key : Key) → IsColumnOf s.header.names column key → (made : List (List Term)) → IsKeyRel rows keep made → (sort : ℕ) × AllHaveSorts def.signature made (sort ∷ [])
    column_sorts key (place, e, at) made h = key_sorts place key at made (key_rel place key at rows keep made rows_are (kept ∙ ap (λ k. k ∷ []) e) h)

    pub column_entities : (made : List (List Term)) → IsKeyRel rows keep made → (f : Fragment) (key : Key) → IsSummaryOf def f s → IsColumnOf s.header.names column key
        → (ss : List ℕ) × IsRelation def.signature ss (IsEntityOf def f key) made
    column_entities made h f key is (place, e, at) =
        key_relation place key at f is made (key_rel place key at rows keep made rows_are (kept ∙ ap (λ k. k ∷ []) e) h)

-- ---- the note of a tree

-- the names of a header, as the calls give them
pub own_column : (s : SummaryParts) (h : Header) (names : List NameCol) (column : ℕ) (key : Key) → h ≡ s.header → names ≡ h.names → IsColumnOf names column key → IsColumnOf s.header.names column key
own_column s h names column key e same at = subst (λ (cs : List NameCol). IsColumnOf cs column key) (same ∙ ap (λ (x : Header). x.names) e) at

pub own_names : (s : SummaryParts) (h : Header) (names : List NameCol) (key : Key) → h ≡ s.header → names ≡ h.names → is_among (keys names) key ≡ false → is_among (keys s.header.names) key ≡ false
own_names s h names key e same not = subst (λ (cs : List NameCol). is_among (keys cs) key ≡ false) (same ∙ ap (λ (x : Header). x.names) e) not

module _ (def : Definition) (n : Annotated) (is : IsNoteOf def (tree_in n) n) where
  root_is : IsSummaryOf def (tree_in n) (whole_in n)
  root_is = (noted_known def n is.noted is.formed).0

  within_limits : IsTooMuch def (tree_in n) → ⊥
  within_limits (inl deep) = is.within.shallow deep
  within_limits (inr (inl big)) = is.within.small big
  within_limits (inr (inr (inl wide))) = is.within.narrow wide
  within_limits (inr (inr (inr heavy))) = is.within.light heavy

  module _ (whole : SummaryParts) (e : whole ≡ whole_in n) where
    whole_is : IsSummaryOf def (tree_in n) whole
    whole_is = subst (λ (s : SummaryParts). IsSummaryOf def (tree_in n) s) (sym e) root_is

    pub root_is_usual : IsSummary def whole
    root_is_usual = subst (λ (s : SummaryParts). IsSummary def s) (sym e) (noted_parts def n is.noted).0.usual.0

    pub root_is_silent : IsSilent whole
    root_is_silent = whole_is.seen ∙ quiet (tree_in n) (real def (tree_in n) is.formed)

    pub entities_told : (key : Key) (column : ℕ) (terms : List Term) (rows rel : List (List Term)) → IsColumnOf whole.header.names column key
        → ((f : Fragment) (k : Key) → IsSummaryOf def f whole → IsColumnOf whole.header.names column k → (ss : List ℕ) × IsRelation def.signature ss (IsEntityOf def f k) rel)
        → rows ≡ rel → rows_of terms ≡ rows → AreKeyValues def (tree_in n) key terms
    entities_told key column terms rows rel own h same t =
        let (place, is_next, at) = own in
        let (ss, relation) = h (tree_in n) key whole_is own in
        let there : slice_get (names_of def (tree_in n)) place ≡ Some key = ap (λ ks. slice_get ks place) (sym whole_is.header.keys_are) ∙ at in
        told terms ss within_limits (is_among-at (names_of def (tree_in n)) place key there)
        (subst (IsRelation def.signature ss (IsEntityOf def (tree_in n) key)) (sym (t ∙ same)) relation)

    pub no_column : (key : Key) (terms : List Term) → is_among (keys whole.header.names) key ≡ false → terms ≡ [] → AreKeyValues def (tree_in n) key terms
    no_column key terms not none =
        let there : is_among (names_of def (tree_in n)) key ≡ false = subst (λ ks. is_among ks key ≡ false) whole_is.header.keys_are not in
        subst (AreKeyValues def (tree_in n) key) (sym none) (without_column there)

pub none_beyond : (def : Definition) (f : Fragment) (key : Key) (terms : List Term) → IsTooMuch def f → terms ≡ [] → AreKeyValues def f key terms
none_beyond def f key terms much none = subst (AreKeyValues def f key) (sym none) (beyond much)

-- rows of one term each
pub one_term : (sig : Signature) (rows rel : List (List Term)) → rows ≡ rel → ((sort : ℕ) × AllHaveSorts sig rel (sort ∷ []))
    → (row : List Term) → IsIn row rows → length row ≡ 1
one_term sig rows rel e (sort, all) row i =
    sorts_length sig row (sort ∷ []) (subst (λ (rs : List (List Term)). AllHaveSorts sig rs (sort ∷ [])) (sym e) all row i)

pub terms_sorted : (sig : Signature) (terms : List Term) (rows rel : List (List Term)) → rows_of terms ≡ rows → rows ≡ rel → ((sort : ℕ) × AllHaveSorts sig rel (sort ∷ []))
    → (sort : ℕ) × AllHaveSorts sig (rows_of terms) (sort ∷ [])
terms_sorted sig terms rows rel t e (sort, all) = (sort, subst (λ (rs : List (List Term)). AllHaveSorts sig rs (sort ∷ [])) (sym (t ∙ e)) all)
