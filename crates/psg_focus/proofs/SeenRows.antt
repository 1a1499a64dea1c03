-- The rows of the reported value alone, from those of the whole tree.
use Rattle.std.proofs.Common.{◌≡◌, ◌↔◌, ℕ, ◌+◌, ◌<◌, zero, suc, All, List, [], ◌∷◌, ◌++◌, map, take, get_or, length, refl, ap, sym, ◌∙◌, subst, length-append, arith}
use Rattle.std.specs.Prelude.{slice_index_or, IfErr, Result, Err}
use Rattle.std.proofs.lemmas.List.{length-map}
use Rattle.psg_terms.proofs.Lists.{take_item}
use Rattle.psg_terms.specs.Terms.{Term}
use Rattle.psg_terms.specs.Signature.{HaveSorts}
use Rattle.psg_terms.specs.Relations.{IsRelation}
use Rattle.psg_terms.specs.Weight.{PassesLimit}
use Rattle.psg_terms.proofs.OneRelation.{instance_sorts, sorts_length}
use Rattle.psg_grammar.specs.declared.types.Definition.{Definition}
use Rattle.psg_grammar.specs.Fragments.{Fragment}
use Rattle.psg_grammar.specs.Open.{Choice}
use Rattle.psg_grammar.specs.Regions.{names_of}
use Rattle.psg_grammar.specs.Relations.{IsPossible, IsSeen, IsSeenRelationOf}
use Rattle.psg_relation.specs.Fewer.{FewerColumns, KeptOnce}
use Rattle.psg_relation.specs.Choices.{AllHaveSorts, AllWithin, HasWide, IsProjected, MayBeWide, picked}
use Rattle.psg_relation.specs.declared.relation.RelFault.{RelFault}
use Rattle.psg_relation.specs.declared.relation.RelFault.TheVariants.{Wide}
use Rattle.psg_relation.proofs.Relating.{carried}
use Rattle.psg_scope.specs.Headers.{key_of}
use Rattle.psg_eval.specs.declared.summary.SummaryParts.{SummaryParts}
use Rattle.psg_eval.specs.Summaries.{IsSummary, IsSummaryOf}
use Rattle.psg_eval.proofs.Gluing.{CutOf, cut_relation, cut_same}
use Rattle.psg_eval.proofs.PartialSorts.{key_sorts_many}
use Rattle.psg_focus.specs.Shown.{rows_of, Second}

two_of : {X : Type 0} (xs : List X) (n : ℕ) → length xs ≡ 2 + n → (a b : X) × (rest : List X) × (xs ≡ a ∷ b ∷ rest)
two_of [] n h = absurd (omega (arith, h))
two_of (a ∷ []) n h = absurd (omega (arith, h))
two_of (a ∷ b ∷ rest) n h = (a, b, rest, refl)

one_of : {X : Type 0} (xs : List X) → length xs ≡ 1 → (a : X) × (xs ≡ a ∷ [])
one_of [] h = absurd (omega (arith, h))
one_of (a ∷ []) h = (a, refl)
one_of (a ∷ b ∷ rest) h = absurd (omega (arith, h))

picked_second : {X : Type 0} (p : List X) (a b : X) (rest : List X) → p ≡ a ∷ b ∷ rest → picked p (1 ∷ []) ≡ b ∷ []
picked_second p a b rest e = ap (λ q. picked q (1 ∷ [])) e

second_same : (n : ℕ) (p x : List Term) → length p ≡ 2 + n → (x ≡ picked p (1 ∷ [])) ↔ Second p x
second_same n p x w = (
  (λ e. let (a, b, rest, is) = two_of p n w in record { value = a; seen = b; others = rest; row_is = is; made_is = e ∙ picked_second p a b rest is }),
  (λ cut. cut.made_is ∙ sym (picked_second p cut.value cut.seen cut.others cut.row_is)),
)

one_within : {X : Type 0} (row : List X) (n : ℕ) → length row ≡ 2 + n → All (λ k. k < length row) (1 ∷ [])
one_within row n w = by where
  by : (k : ℕ) (d : ℕ) → k < 1 → slice_index_or (1 ∷ []) k d < length row
  by zero d l = omega (arith, w)
  by (suc k) d l = absurd (omega (arith, l))

some_wide : {X : Type 0} (r : Result X RelFault) (P : Type 0) → IfErr r (MayBeWide P) → r ≡ Err Wide → P
some_wide r P h e = subst (λ z. IfErr z (MayBeWide P)) e h

-- one column is kept once
second_once : KeptOnce (1 ∷ [])
second_once zero zero k a b = refl
second_once zero (suc j) k a b = absurd (cc)
second_once (suc i) j k a b = absurd (cc)

module _ (def : Definition) (s : SummaryParts) (usual : IsSummary def s) (reported : s.seen ≡ 1) where
  abbrev pub whole_sorts : List ℕ
  whole_sorts = (usual.sort ∷ usual.seen) ++ usual.key_sorts

  one_seen : length usual.seen ≡ 1
  one_seen = usual.reported ∙ reported

  width : length whole_sorts ≡ 2 + length s.header.names
  width = omega (arith, one_seen, length-append usual.seen usual.key_sorts, key_sorts_many def s.header.names usual.key_sorts usual.keys_sorted, length-map s.header.names key_of)

  pub second_within : AllWithin s.rel (1 ∷ [])
  second_within = λ row i. one_within row (length s.header.names) (sorts_length def.signature row whole_sorts (usual.sorted row i) ∙ width)

  pub within_same : (rows : List (List Term)) (cols : List ℕ) → rows ≡ s.rel → cols ≡ 1 ∷ [] → AllWithin rows cols
  within_same rows cols e f = subst (λ (r : List (List Term)). AllWithin r cols) (sym e) (subst (AllWithin s.rel) (sym f) second_within)

  pub sorts_same : (rows : List (List Term)) → rows ≡ s.rel → AllHaveSorts def.signature rows whole_sorts
  sorts_same rows e = subst (λ (r : List (List Term)). AllHaveSorts def.signature r whole_sorts) (sym e) usual.sorted

  abbrev pub SomeWide : List (List Term) → List ℕ → Type 0
  SomeWide rows cols = (sorts : List ℕ) → AllHaveSorts def.signature rows sorts → HasWide def.signature (picked sorts cols) (IsProjected def.signature rows cols)

  -- where the rows are within the limit, no relation of their second column passes it
  pub second_light : {X : Type 0} (result : Result X RelFault) (rows : List (List Term)) (cols : List ℕ) → rows ≡ s.rel → cols ≡ 1 ∷ [] → FewerColumns def.signature → (PassesLimit rows → ⊥)
      → IfErr result (MayBeWide (SomeWide rows cols)) → result ≡ Err Wide → ⊥
  second_light result rows cols e f fewer light may is =
      let some = some_wide result (SomeWide rows cols) may is in
      let sorted = sorts_same rows e in
      let (made, rel, passes) = some whole_sorts sorted in
      fewer whole_sorts rows cols sorted (within_same rows cols e f) (subst KeptOnce (sym f) second_once) light made rel passes

  module _ (f : Fragment) (is : IsSummaryOf def f s) where
    names_many : length (names_of def f) ≡ length s.header.names
    names_many = sym (sym (length-map s.header.names key_of) ∙ ap length is.header.keys_are)

    -- where the summary reports one value, each possible row has one
    seen_one : (c : Choice f) (x : List Term) (it : IsPossible def f c x) → length it.seen ≡ 1
    seen_one c x it =
        let (row, i, all) = is.rows.1.covers c x it in
        let long : length x ≡ length whole_sorts = sorts_length def.signature x whole_sorts (instance_sorts def.signature row x whole_sorts (usual.sorted row i) (all x it)) in
        let parts : length x ≡ length ((it.value ∷ it.seen) ++ map it.outside (names_of def f)) = ap length it.columns_are in
        omega (arith, long, width, parts, length-append (it.value ∷ it.seen) (map it.outside (names_of def f)), length-map (names_of def f) it.outside, names_many)

    seen_from : (c : Choice f) (x : List Term) → CutOf (IsPossible def f) Second c x → IsSeen def f c x
    seen_from c x it =
        let p = it.full_is in
        let cut = it.cut in
        let (w, one) = one_of p.seen (seen_one c it.full p) in
        let e : cut.value ∷ cut.seen ∷ cut.others ≡ p.value ∷ w ∷ map p.outside (names_of def f) =
        sym cut.row_is ∙ p.columns_are ∙ ap (λ l. (p.value ∷ l) ++ map p.outside (names_of def f)) one in
        let same : cut.seen ≡ w = cc in
        let x_is : p.seen ≡ x = one ∙ ap (λ t. t ∷ []) (sym same) ∙ sym cut.made_is in
        record {
          distinct = p.distinct;
          outside = p.outside;
          entities = p.entities;
          value = p.value;
          judged = subst (λ l. Rattle.psg_grammar.specs.Open.Judged def p.outside f c p.value l) x_is p.judged;
        }

    seen_to : (c : Choice f) (x : List Term) → IsSeen def f c x → CutOf (IsPossible def f) Second c x
    seen_to c x it =
        let full : List Term = (it.value ∷ x) ++ map it.outside (names_of def f) in
        let p : IsPossible def f c full =
        record { distinct = it.distinct; outside = it.outside; entities = it.entities; value = it.value; seen = x; judged = it.judged; columns_are = refl } in
        let (w, one) = one_of x (seen_one c full p) in
        record {
          full = full;
          full_is = p;
          cut = record { value = it.value; seen = w; others = map it.outside (names_of def f); row_is = ap (λ l. (it.value ∷ l) ++ map it.outside (names_of def f)) one; made_is = one };
        }

    pub seen_relation : (made : List (List Term)) → IsRelation def.signature (picked whole_sorts (1 ∷ [])) (IsProjected def.signature s.rel (1 ∷ [])) made → IsSeenRelationOf def f made
    seen_relation made rel =
        let ss = picked whole_sorts (1 ∷ []) in
        let cut = cut_same def.signature ss whole_sorts (1 ∷ []) Second s.rel usual.sorted (λ p x w. second_same (length s.header.names) p x (w ∙ width)) made rel in (
          ss,
          carried def.signature ss (CutOf (IsPossible def f) Second) (IsSeen def f)
              (λ c columns h. (c, λ x. (seen_from c x, seen_to c x)))
              (λ c columns h. (c, λ x. (seen_from c x, seen_to c x)))
              made (cut_relation (IsPossible def f) Second def.signature ss is.rows.0 s.rel made is.rows.1 cut),
        )

  abbrev pub IsSecondRel : List (List Term) → List ℕ → List (List Term) → Type 0
  IsSecondRel rows cols made = (sorts : List ℕ) → AllHaveSorts def.signature rows sorts → IsRelation def.signature (picked sorts cols) (IsProjected def.signature rows cols) made

  -- by what the projection says of equal rows and columns
  pub second_rel : (rows : List (List Term)) (cols : List ℕ) (made : List (List Term)) → rows ≡ s.rel → cols ≡ 1 ∷ [] → IsSecondRel rows cols made
      → IsRelation def.signature (picked whole_sorts (1 ∷ [])) (IsProjected def.signature s.rel (1 ∷ [])) made
  second_rel rows cols made e f h = subst (λ r. IsSecondRel r (1 ∷ []) made) e (subst (λ k. IsSecondRel rows k made) f h) whole_sorts usual.sorted

  pub second_sorts : (made : List (List Term)) → IsRelation def.signature (picked whole_sorts (1 ∷ [])) (IsProjected def.signature s.rel (1 ∷ [])) made
      → (sort : ℕ) × AllHaveSorts def.signature made (sort ∷ [])
  second_sorts made rel =
      let (a, b, rest, e) = two_of whole_sorts (length s.header.names) width in
      (b, λ row i. subst (HaveSorts def.signature row) (picked_second whole_sorts a b rest e) (rel.shapes row i).sorted)

-- ---- rows of one term

rows_push : (xs : List Term) (t : Term) → rows_of (xs ++ t ∷ []) ≡ rows_of xs ++ (t ∷ []) ∷ []
rows_push [] t = refl
rows_push (x ∷ xs) t = ap (λ l. (x ∷ []) ∷ l) (rows_push xs t)

pub terms_more : (found more : List Term) (rows : List (List Term)) (i : ℕ) (row terms : List Term) (read copy : Term) → i < length rows → row ≡ get_or rows i row → rows_of found ≡ take i rows
    → length row ≡ 1 → terms ≡ row → read ≡ get_or terms 0 read → copy ≡ read → more ≡ found ++ copy ∷ [] → rows_of more ≡ take (i + 1) rows
terms_more found more rows i row terms read copy l at before one same first_is copied grown =
    let (a, is) = one_of row one in
    let reads : read ≡ a = first_is ∙ ap (λ xs. get_or xs 0 read) (same ∙ is) in
    ap rows_of grown ∙ rows_push found copy ∙ ap (λ l. l ++ (copy ∷ []) ∷ []) before
    ∙ ap (λ x. take i rows ++ x ∷ []) (ap (λ t. t ∷ []) (copied ∙ reads) ∙ sym is) ∙ sym (take_item rows i row l at)
