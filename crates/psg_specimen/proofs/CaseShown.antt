-- What the test of a specimen tells, whatever its pattern.
use Rattle.std.proofs.Common.{◌≡◌, ◌↔◌, ℕ, ◌+◌, Bool, List, [], ◌∷◌, ◌++◌, map, length, take, get_or, Some, None, refl, ap, sym, ◌∙◌, subst, arith, ◌<◌}
use Rattle.std.specs.Prelude.{IsTrue}
use Rattle.std.proofs.lemmas.List.{length-map}
use Rattle.psg_terms.proofs.Lists.{take_item, in_at, slice_get_item}
use Rattle.psg_terms.specs.Terms.{Term}
use Rattle.psg_terms.specs.Instances.{IsInstance}
use Rattle.psg_terms.specs.Relations.{IsIn}
use Rattle.psg_grammar.specs.declared.types.Case.{Case}
use Rattle.psg_grammar.specs.declared.types.SpecimenHole.{SpecimenHole}
use Rattle.psg_grammar.specs.declared.types.DeclareRow.{DeclareRow}
use Rattle.psg_grammar.specs.declared.types.Definition.{Definition}
use Rattle.psg_grammar.specs.Sound.{IsSound, IsDeclareRow}
use Rattle.psg_grammar.specs.Specimens.{tree_of, holes_of}
use Rattle.psg_completions.specs.General.{it, IsGeneralCase, IsGeneralDeclare}
use Rattle.psg_eval.specs.declared.summary.SummaryParts.{SummaryParts}
use Rattle.psg_relation.specs.Choices.{picked}
use Rattle.psg_eval.specs.Walks.{run}
use Rattle.psg_eval.proofs.Usual.{place_of_member}
use Rattle.psg_covering.proofs.Firsts.{At}
use Rattle.psg_specimen.specs.Patterns.{IsPatternOf}
use Rattle.psg_specimen.specs.Shown.{FindsKey, IsFirstTerm, IsRowShown, IsSomeCase, value_terms}
use Rattle.psg_specimen.proofs.ShownLaws.{case_shown, place_shown}
use Rattle.psg_specimen.proofs.DeclareShown.{keyed_shown, place_declared, unkeyed_shown}

-- the columns and terms that are compared
pub columns_same : (rows : List (List Term)) (b : Bool) (keep keep' : List ℕ) (row row' : List Term) → keep ≡ keep' → row ≡ row' → IsTrue b ↔ IsRowShown rows keep row → IsTrue b ↔ IsRowShown rows keep' row'
columns_same rows b keep keep' row row' e d h = subst (λ k. IsTrue b ↔ IsRowShown rows k row') e (subst (λ r. IsTrue b ↔ IsRowShown rows keep r) d h)

pub terms_many : (value : Term) (places : List SpecimenHole) → length (value_terms value places) ≡ length places + 1
terms_many value places = let e = length-map places (λ (h : SpecimenHole). h.term) in omega (arith, e)

-- one term more
map_more : (xs : List SpecimenHole) (x : SpecimenHole) → map (λ (h : SpecimenHole). h.term) (xs ++ x ∷ []) ≡ map (λ (h : SpecimenHole). h.term) xs ++ x.term ∷ []
map_more [] x = refl
map_more (y ∷ xs) x = ap (λ l. y.term ∷ l) (map_more xs x)

pub terms_next : (value : Term) (places : List SpecimenHole) (i : ℕ) (place : SpecimenHole) (now more : List Term) → i < length places → place ≡ get_or places i place → more ≡ now ++ place.term ∷ [] → now ≡ value_terms value (take i places) → more ≡ value_terms value (take (i + 1) places)
terms_next value places i place now more lt e add h =
    add ∙ ap (λ l. l ++ place.term ∷ []) h ∙ ap (λ l. value ∷ l) (sym (map_more (take i places) place)) ∙ ap (value_terms value) (sym (take_item places i place lt e))

module _ (def : Definition) (sound : IsSound def) where
  pub case_tells : (one : Case) (b : Bool) (s : SummaryParts) → IsSomeCase def one → IsPatternOf def (tree_of one.specimen) (Some s)
      → IsTrue b ↔ IsRowShown s.rel (run 0 (length (holes_of one.specimen) + 1)) (value_terms one.term (holes_of one.specimen)) → IsTrue b ↔ IsGeneralCase def one
  case_tells one b s (kind, sort, has, whole) p h =
      let both = case_shown def sound kind one.specimen s (record { whole = whole.specimen; of = p.child; usual = p.usual }) one refl sort has whole.term in
      (λ x. both.0 (h.0 x), λ g. h.1 (both.1 g))

  pub place_tells : (one : Case) (b : Bool) → IsSomeCase def one → IsPatternOf def (tree_of one.specimen) None → IsTrue b ↔ IsFirstTerm one.term (holes_of one.specimen) → IsTrue b ↔ IsGeneralCase def one
  place_tells one b (kind, sort, has, whole) p h =
      let both = place_shown def sound kind one.specimen one.term sort whole.specimen whole.term p.child in
      (λ x. both.0 (h.0 x), λ g. h.1 (both.1 g))

  pub keyed_tells : (d : DeclareRow) (b : Bool) (s : SummaryParts) (row : IsDeclareRow def d) → IsPatternOf def (tree_of d.specimen) (Some s) → (k : ℕ) → FindsKey (it d.space) s.header.names (Some k)
      → IsTrue b ↔ IsRowShown s.rel (run 0 (length (holes_of d.specimen) + 1) ++ (length (holes_of d.specimen) + 1 + k) ∷ []) (value_terms d.value (holes_of d.specimen) ++ d.term ∷ []) → IsTrue b ↔ IsGeneralDeclare def d
  keyed_tells d b s row p k found h =
      let both = keyed_shown def sound d row s (record { whole = row.specimen; of = p.child; usual = p.usual }) k found in
      (λ x. both.0 (h.0 x), λ g. h.1 (both.1 g))

  pub unkeyed_tells : (d : DeclareRow) (b : Bool) (s : SummaryParts) (row : IsDeclareRow def d) → IsPatternOf def (tree_of d.specimen) (Some s) → FindsKey (it d.space) s.header.names None
      → IsTrue b ↔ IsRowShown s.rel (run 0 (length (holes_of d.specimen) + 1)) (value_terms d.value (holes_of d.specimen)) → IsTrue b ↔ IsGeneralDeclare def d
  unkeyed_tells d b s row p none h =
      let both = unkeyed_shown def sound d row s (record { whole = row.specimen; of = p.child; usual = p.usual }) none in
      (λ x. both.0 (h.0 x), λ g. h.1 (both.1 g))

  pub alone_tells : (d : DeclareRow) (b : Bool) (row : IsDeclareRow def d) → IsPatternOf def (tree_of d.specimen) None → IsTrue b ↔ IsFirstTerm d.value (holes_of d.specimen) → IsTrue b ↔ IsGeneralDeclare def d
  alone_tells d b row p h =
      let both = place_declared def sound d row p.child in
      (λ x. both.0 (h.0 x), λ g. h.1 (both.1 g))

-- ---- one row of a relation after the other

pub row_shown : (rows kept : List (List Term)) (keep : List ℕ) (terms : List Term) (i : ℕ) (row : List Term) → rows ≡ kept → i < length rows → row ≡ get_or rows i row → IsInstance terms (picked row keep) → IsRowShown kept keep terms
row_shown rows kept keep terms i row same lt e h = (row, subst (IsIn row) same (in_at rows i row (slice_get_item rows i row lt e)), h)

pub no_row_shown : (rows kept : List (List Term)) (keep : List ℕ) (terms : List Term) → rows ≡ kept → ((m : ℕ) → At rows (λ (row : List Term). IsInstance terms (picked row keep) → ⊥) m) → IsRowShown kept keep terms → ⊥
no_row_shown rows kept keep terms same none (row, among, h) =
    let (m, at) = place_of_member rows row (subst (IsIn row) (sym same) among) in
    none m row at h
