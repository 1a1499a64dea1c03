-- A specimen shows the values of its declare row, with the entity of `$it` where the specimen has this key.
use Rattle.std.proofs.Common.{◌≡◌, ◌↔◌, inl, inr, ℕ, zero, suc, ◌+◌, true, false, cond, List, [], ◌∷◌, ◌++◌, map, Some, None, slice_get, refl, ap, ap₂, sym, ◌∙◌, subst, true≢false, bytes_eq}
use Rattle.std.specs.Option.{option_map}
use Rattle.std.proofs.lemmas.Option.{none-some, slice_get-map}
use Rattle.std.proofs.lemmas.Bool.{cases_Bool, or_cases}
use Rattle.std.proofs.lemmas.List.{same_from_push}
use Rattle.psg_terms.proofs.SortTests.{have-push}
use Rattle.psg_terms.specs.Names.{is_among}
use Rattle.psg_terms.specs.Terms.{Term}
use Rattle.psg_terms.specs.Signature.{HasSort, HaveSorts}
use Rattle.psg_terms.specs.Instances.{Substitution, substitute, IsGround, IsGrounding}
use Rattle.psg_terms.specs.Relations.{IsIn}
use Rattle.psg_terms.proofs.InstanceLaws.{Takes-substitute, ground-substitute}
use Rattle.psg_terms.proofs.Separate.{grounding}
use Rattle.psg_terms.proofs.SoundChoices.{choices}
use Rattle.psg_grammar.specs.declared.types.Kind.{Kind}
use Rattle.psg_grammar.specs.declared.types.Kind.TheVariants as kinds
use Rattle.psg_grammar.specs.declared.types.Case.{Case}
use Rattle.psg_grammar.specs.declared.types.Space.{Space}
use Rattle.psg_grammar.specs.declared.types.DeclareRow.{DeclareRow}
use Rattle.psg_grammar.specs.declared.types.Definition.{Definition}
use Rattle.psg_grammar.specs.Fragments.{Fragment, anything}
use Rattle.psg_grammar.specs.Keys.{Key, space_of}
use Rattle.psg_grammar.specs.Legal.{Entities, AreEntities}
use Rattle.psg_grammar.specs.Lookups.{is_scope}
use Rattle.psg_grammar.specs.Open.{Choice, Judged}
use Rattle.psg_grammar.specs.Regions.{declared_inside, unfinished_inside, names_inside, names_of, passing}
use Rattle.psg_grammar.specs.Sound.{IsSound, IsDeclareRow, HasSpaceSort}
use Rattle.psg_grammar.specs.Specimens.{tree_of, holes_of}
use Rattle.psg_grammar.proofs.MixedEntities.{SameOn}
use Rattle.psg_completions.specs.General.{it, terms_at, Shows, IsGeneralCase, IsGeneralDeclare}
use Rattle.psg_relation.specs.Choices.{picked}
use Rattle.psg_scope.specs.declared.header.NameCol.{NameCol}
use Rattle.psg_scope.specs.Headers.{key_of, keys}
use Rattle.psg_scope.proofs.KeyLists.{key_is, key_refl, in_order-among}
use Rattle.psg_eval.specs.declared.summary.SummaryParts.{SummaryParts}
use Rattle.psg_eval.specs.Summaries.{AreKeySorts}
use Rattle.psg_eval.specs.Walks.{run}
use Rattle.psg_eval.proofs.Frames.{moved, holds_frame}
use Rattle.psg_specimen.specs.Shown.{FindsKey, IsFirstTerm, IsRowShown, value_terms}
use Rattle.psg_specimen.proofs.ColumnLaws.{behind_picked, map_snoc, written_snoc}
use Rattle.psg_specimen.proofs.GeneralRows.{general_by_columns, IsPicked, usual_terms}
use Rattle.psg_specimen.proofs.ShownLaws.{all_sorts, case_shown, front_many, front_sorts, HasPattern, many, place_shown, Possible, possible_shown, relation, seen_many, shown_possible, some_row, value_are, value_sorted, written}

-- the key gets this entity
abbrev with_key : Key → Term → Entities → Entities
with_key k e g n = cond (bytes_eq k n) e (g n)

with_same : (k : Key) (e : Term) (g : Entities) → with_key k e g k ≡ e
with_same k e g = ap (λ b. cond b e (g k)) (key_refl k)

with_other : (k : Key) (e : Term) (g : Entities) (n : Key) → bytes_eq k n ≡ false → with_key k e g n ≡ g n
with_other k e g n d = ap (λ b. cond b e (g n)) d

-- a key among those of a header has a column
among_place : (cols : List NameCol) (k : Key) → is_among (keys cols) k ≡ true → (m : ℕ) × (c : NameCol) × (slice_get cols m ≡ Some c) × (key_of c ≡ k)
among_place [] k e = absurd (true≢false (sym e))
among_place (c ∷ cols) k e = elim (or_cases (bytes_eq (key_of c) k) (is_among (keys cols) k) e) [
  | inl same ↦ (0, c, refl, key_is (key_of c) k same)
  | inr later ↦ let (m, d, at, is) = among_place cols k later in (suc m, d, at, is)
]

module _ (def : Definition) where
  -- the keys that pass outward, not in order
  abbrev outer : Fragment → List Key
  outer f = passing (is_scope def f) (λ s. unfinished_inside def s f) (declared_inside def f) (names_inside def f)

  key_sort_at : (cols : List NameCol) (ss : List ℕ) → AreKeySorts def cols ss → (k : ℕ) (c : NameCol) → slice_get cols k ≡ Some c → (s : ℕ) × (slice_get ss k ≡ Some s) × HasSpaceSort def c.space s
  key_sort_at [] ss h k c e = absurd (none-some c e)
  key_sort_at (d ∷ cols) ss (s, rest, is, has, more) zero c e =
      let same : d ≡ c = let q : Some d ≡ Some c = e in cc in
      (s, ap (λ l. slice_get l 0) is, subst (λ (x : NameCol). HasSpaceSort def x.space s) same has)
  key_sort_at (d ∷ cols) ss (s, rest, is, has, more) (suc k) c e =
      let (r, at, sort) = key_sort_at cols rest more k c e in
      (r, ap (λ l. slice_get l (suc k)) is ∙ at, sort)

  space_sort_once : (n r s : ℕ) → HasSpaceSort def n r → HasSpaceSort def n s → r ≡ s
  space_sort_once n r s (a, e, d) (b, f, g) = let q : Some a ≡ Some b = sym e ∙ f in let c : a ≡ b = cc in sym d ∙ ap (λ (z : Space). z.sort.0) c ∙ g

  with_entities : (space : ℕ) (e : Term) (g : Entities) (sort : ℕ) → HasSpaceSort def space sort → IsGround e → HasSort def.signature e sort → AreEntities def g → AreEntities def (with_key (it space) e g)
  with_entities space e g sort has ground sorted eg = record {
    ground = λ n. elim (cases_Bool (bytes_eq (it space) n)) [
      | inl d ↦ subst (λ b. IsGround (cond b e (g n))) (sym d) ground
      | inr d ↦ subst (λ b. IsGround (cond b e (g n))) (sym d) (eg.ground n)
    ];
    sorted = λ n s at. elim (cases_Bool (bytes_eq (it space) n)) [
      | inl d ↦
          let same : it space ≡ n = key_is (it space) n d in
          let there : slice_get def.spaces space ≡ Some s = subst (λ k. slice_get def.spaces (space_of k) ≡ Some s) (sym same) at in
          subst (λ b. HasSort def.signature (cond b e (g n)) s.sort.0) (sym d)
          (subst (HasSort def.signature e) (space_sort_once space sort s.sort.0 has (s, there, refl)) sorted)
      | inr d ↦ subst (λ b. HasSort def.signature (cond b e (g n)) s.sort.0) (sym d) (eg.sorted n s at)
    ];
  }

  with_same_on : (f : Fragment) (k : Key) (e : Term) (g : Entities) → (is_among (outer f) k ≡ true → ⊥) → SameOn (outer f) g (with_key k e g)
  with_same_on f k e g absent n among = elim (cases_Bool (bytes_eq k n)) [
    | inl d ↦ absurd (absent (subst (λ m. is_among (outer f) m ≡ true) (sym (key_is k n d)) among))
    | inr d ↦ sym (with_other k e g n d)
  ]

  judged_frame : (f : Fragment) (c : Choice f) (g h : Entities) (v : Term) (seen : List Term) → AreEntities def h → SameOn (outer f) g h → Judged def g f c v seen → Judged def h f c v seen
  judged_frame f c g h v seen eh same j =
      let m = moved def f g h j.inner eh j.entities j.agree same in
      record { inner = m.inside; entities = m.entities; agree = m.agrees; holds = holds_frame def f c j.inner m.inside [] v seen [] m.entities m.same j.holds }

  abbrev pub as_case : DeclareRow → Case
  as_case d = record { term = d.value; specimen = d.specimen }

  -- where `$it` is no key of the specimen, its entity may be any
  pub any_entity : (sound : IsSound def) (d : DeclareRow) → IsDeclareRow def d → (is_among (outer (tree_of d.specimen)) (it d.space) ≡ true → ⊥) → IsGeneralCase def (as_case d) ↔ IsGeneralDeclare def d
  any_entity sound d row absent = (
    (λ g. record {
      distinct = g.distinct;
      choice = g.choice;
      general = λ f ground.
          let j = g.general f ground in
          let e = substitute f d.term in
          let h = with_key (it d.space) e j.outside in
          let eh = with_entities d.space e j.outside row.entity row.space_sort (ground-substitute def.signature f ground d.term [] row.entity row.term.0) (Takes-substitute def.signature f ground.sorted d.term [] row.entity row.term.0) j.entities in (
            record {
              outside = h;
              entities = eh;
              judged = judged_frame (tree_of d.specimen) g.choice j.outside h (substitute f d.value) (terms_at f d.specimen) eh (with_same_on (tree_of d.specimen) (it d.space) e j.outside absent) j.judged;
            },
            with_same (it d.space) e j.outside,
          );
    }),
    (λ g. record { distinct = g.distinct; choice = g.choice; general = λ f ground. (g.general f ground).0 }),
  )

  no_key_alone : (t : Fragment) → t ≡ anything → (k : Key) → is_among (outer t) k ≡ true → ⊥
  no_key_alone t e k h = true≢false (sym (subst (λ x. is_among (outer x) k ≡ true) e h))

module _ (def : Definition) (sound : IsSound def) (d : DeclareRow) (row : IsDeclareRow def d) where
  abbrev kind : Kind
  kind = kinds.Phylum row.list.element

  pub place_declared : tree_of d.specimen ≡ anything → IsFirstTerm d.value (holes_of d.specimen) ↔ IsGeneralDeclare def d
  place_declared alone =
      let one = place_shown def sound kind d.specimen d.value row.element row.specimen row.value alone in
      let two = any_entity def sound d row (no_key_alone def (tree_of d.specimen) alone (it d.space)) in
      (λ h. two.0 (one.0 h), λ g. one.1 (two.1 g))

  module _ (s : SummaryParts) (h : HasPattern def sound kind d.specimen s) where
    abbrev n : ℕ
    n = many def sound kind d.specimen s h

    abbrev terms : List Term
    terms = value_terms d.value (holes_of d.specimen)

    keys_are : keys s.header.names ≡ names_of def (tree_of d.specimen)
    keys_are = h.of.header.keys_are

    absent_by : ((m : ℕ) (c : NameCol) → slice_get s.header.names m ≡ Some c → key_of c ≡ it d.space → ⊥) → is_among (outer def (tree_of d.specimen)) (it d.space) ≡ true → ⊥
    absent_by none among =
        let inside : is_among (keys s.header.names) (it d.space) ≡ true = ap (λ ks. is_among ks (it d.space)) keys_are ∙ in_order-among (outer def (tree_of d.specimen)) (it d.space) h.of.header.whole ∙ among in
        let (m, c, at, is) = among_place s.header.names (it d.space) inside in
        none m c at is

    -- the entity is no column
    pub unkeyed_shown : FindsKey (it d.space) s.header.names None → IsRowShown s.rel (run 0 n) terms ↔ IsGeneralDeclare def d
    unkeyed_shown none =
        let one = case_shown def sound kind d.specimen s h (as_case def d) refl row.element row.element_sort row.value in
        let two = any_entity def sound d row (absent_by none) in
        (λ x. two.0 (one.0 x), λ g. one.1 (two.1 g))

    module _ (k : ℕ) (found : FindsKey (it d.space) s.header.names (Some k)) where
      abbrev column : NameCol
      column = found.0

      abbrev keep : List ℕ
      keep = run 0 n ++ (n + k) ∷ []

      abbrev with_term : List Term
      with_term = terms ++ d.term ∷ []

      abbrev P : Choice (tree_of d.specimen) → List Term → Type 0
      P = Possible def sound kind d.specimen s h

      entity_at : (g : Entities) → slice_get (map g (names_of def (tree_of d.specimen))) k ≡ Some (g (it d.space))
      entity_at g =
          let place : slice_get (keys s.header.names) k ≡ Some (it d.space) = slice_get-map key_of s.header.names k ∙ ap (option_map key_of) found.1 ∙ ap Some found.2 in
          slice_get-map g (names_of def (tree_of d.specimen)) k ∙ ap (option_map g) (subst (λ ks. slice_get ks k ≡ Some (it d.space)) keys_are place)

      possible_all : (c : Choice (tree_of d.specimen)) (full : List Term) (p : P c full) → picked full keep ≡ (p.value ∷ p.seen) ++ p.outside (it d.space) ∷ []
      possible_all c full p =
          behind_picked full (p.value ∷ p.seen) (map p.outside (names_of def (tree_of d.specimen))) n k (p.outside (it d.space)) p.columns_are (seen_many def sound kind d.specimen s h c full p) (entity_at p.outside)

      sort_at : (r : ℕ) × (slice_get h.usual.key_sorts k ≡ Some r) × HasSpaceSort def column.space r
      sort_at = key_sort_at def s.header.names h.usual.key_sorts h.usual.keys_sorted k column found.1

      entity_sorted : HasSort def.signature d.term sort_at.0
      entity_sorted =
          let same : column.space ≡ d.space = ap space_of found.2 in
          let one : row.entity ≡ sort_at.0 = space_sort_once def d.space row.entity sort_at.0 row.space_sort (subst (λ m. HasSpaceSort def m sort_at.0) same sort_at.2) in
          subst (HasSort def.signature d.term) one row.term.0

      sorts_all : picked (all_sorts def sound kind d.specimen s h) keep ≡ front_sorts def sound kind d.specimen s h ++ sort_at.0 ∷ []
      sorts_all = behind_picked (all_sorts def sound kind d.specimen s h) (front_sorts def sound kind d.specimen s h) h.usual.key_sorts n k sort_at.0 refl (front_many def sound kind d.specimen s h) sort_at.1

      sorts_are : (general : List Term) → IsIn general s.rel → HaveSorts def.signature with_term (picked (all_sorts def sound kind d.specimen s h) keep)
      sorts_are general among =
          subst (HaveSorts def.signature with_term) (sym sorts_all)
          (have-push def.signature terms (front_sorts def sound kind d.specimen s h) d.term sort_at.0 (value_sorted def sound kind d.specimen s h d.value row.element row.element_sort row.value.0 general among) entity_sorted)

      by_columns : (general : List Term) → IsIn general s.rel → IsRowShown s.rel keep with_term
          ↔ ((c : Choice (tree_of d.specimen)) × ((f : Substitution) → IsGrounding def.signature f → IsPicked def.signature sound.signature (all_sorts def sound kind d.specimen s h) P keep c (map (substitute f) with_term)))
      by_columns general among =
          general_by_columns def.signature sound.signature (all_sorts def sound kind d.specimen s h) P s.rel (relation def sound kind d.specimen s h) keep with_term (sorts_are general among)
          (written_snoc def.signature terms d.term (written def sound kind d.specimen s h d.value row.element row.value) row.term.1)

      abbrev usual_sub : Substitution
      usual_sub = usual_terms def.signature sound.signature

      usual_ground : IsGrounding def.signature usual_sub
      usual_ground = grounding def.signature (choices def.signature sound.signature)

      -- the entity is the column of the key
      pub keyed_shown : IsRowShown s.rel keep with_term ↔ IsGeneralDeclare def d
      keyed_shown = (forth, back) where
        shown : (c : Choice (tree_of d.specimen)) (f : Substitution) (full : List Term) (p : P c full) → map (substitute f) with_term ≡ picked full keep
            → (j : Shows def d.specimen c (substitute f d.value) (terms_at f d.specimen)) × (j.outside (it d.space) ≡ substitute f d.term)
        shown c f full p e =
            let both = same_from_push (map (substitute f) terms) (p.value ∷ p.seen) (substitute f d.term) (p.outside (it d.space)) (sym (map_snoc f terms d.term) ∙ e ∙ possible_all c full p) in
            let (j, is) = possible_shown def sound kind d.specimen s h c f d.value full p both.0 in
            (j, ap (λ (g : Entities). g (it d.space)) is ∙ sym both.1)

        forth : IsRowShown s.rel keep with_term → IsGeneralDeclare def d
        forth (general, among, instance) =
            let (c, all) = (by_columns general among).0 (general, among, instance) in
            record {
              distinct = (all usual_sub usual_ground).1.distinct;
              choice = c;
              general = λ f ground. let (full, p, e) = all f ground in shown c f full p e;
            }

        back : IsGeneralDeclare def d → IsRowShown s.rel keep with_term
        back g =
            let (general, among) = some_row def sound kind d.specimen s h g.choice _ (shown_possible def sound kind d.specimen s h g.choice usual_sub d.value g.distinct (g.general usual_sub usual_ground).0) in
            (by_columns general among).1 (
              g.choice,
              λ f ground.
                  let (j, e) = g.general f ground in
                  let p = shown_possible def sound kind d.specimen s h g.choice f d.value g.distinct j in (
                    _,
                    p,
                    map_snoc f terms d.term ∙ ap₂ (λ xs x. xs ++ x ∷ []) (value_are f d.value (holes_of d.specimen)) (sym e) ∙ sym (possible_all g.choice _ p),
                  ),
            )
