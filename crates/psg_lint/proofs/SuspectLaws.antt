-- Declarations that explain all that is wrong: the walks over answers and places.
use Rattle.std.proofs.Common.{◌≡◌, ◌⊎◌, ◌↔◌, inl, inr, ℕ, zero, suc, ◌+◌, ◌<◌, ◌≤◌, ◌==◌, not, Bool, true, false, cond, List, [], ◌∷◌, ◌++◌, length, drop, Option, Some, None, slice_get, refl, ap, ap₂, sym, ◌∙◌, subst, arith, true≢false, append_assoc, append-nil, length-append}
use Rattle.std.specs.Prelude.{codes}
use Rattle.std.proofs.lemmas.Bool.{cases_eq}
use Rattle.std.proofs.lemmas.List.{drop_all}
use Rattle.std.proofs.lemmas.Option.{none-some, same_Some, slice_get_within}
use Rattle.psg_terms.specs.Names.{Name as Word}
use Rattle.psg_terms.proofs.Lists.{slice_get-end, slice_get-front, slice_get-not_end}
use Rattle.psg_grammar.specs.declared.types.Definition.{Definition}
use Rattle.psg_grammar.specs.Fragments.{Fragment, hole, ending, cell, operator, with_child, with_name, with_number}
use Rattle.psg_grammar.specs.Fragments.{with_text, anything, observed}
use Rattle.psg_grammar.specs.Lookups.{next_item}
use Rattle.psg_grammar.specs.Paths.{Path, node_at}
use Rattle.psg_places.specs.declared.place.Place.{Place}
use Rattle.psg_places.specs.declared.place.Place.TheVariants.{Node, Element, End, Name as NameOf}
use Rattle.psg_places.specs.Blame.{blamed_in}
use Rattle.psg_places.specs.Places.{names_before, place_count, places_of}
use Rattle.psg_places.specs.Ways.{goes_through}
use Rattle.psg_places.proofs.CountLaws.{counted}
use Rattle.psg_recover.specs.declared.finding.Finding.{Finding}
use Rattle.psg_recover.specs.Findings.{note_at}
use Rattle.psg_recover.specs.TextPlaces.{Read, name_byte}
use Rattle.psg_uses.specs.declared.names.Written.{Written}
use Rattle.psg_uses.specs.declared.names.NameItem.{NameItem}
use Rattle.psg_uses.specs.declared.names.Named.{Named}
use Rattle.psg_uses.specs.Naming.{name_in, name_item, nth_name, own_name, path_of_place}
use Rattle.psg_lint.specs.Hints.{IsGoodWith}
use Rattle.psg_lint.specs.Suspects.{AreOutside, AreSuspected, IsContent, IsDeclaration, IsExplaining, IsSuspect, IsSuspected}
use Rattle.psg_lint.specs.Suspects.{none_left, suspected, unsuspected, one_suspect, no_suspect}

pub same_at : {X : Type 0} (xs : List X) (i : ℕ) (a b : X) → slice_get xs i ≡ Some a → slice_get xs i ≡ Some b → a ≡ b
same_at xs i a b e f = same_Some a b (sym e ∙ f)

pub not_both : (b : Bool) → b ≡ true → b ≡ false → ⊥
not_both b t f = true≢false (sym t ∙ f)

pub bool_cases : (b : Bool) → (b ≡ true) ⊎ (b ≡ false)
bool_cases true = inl refl
bool_cases false = inr refl

-- ---- places outside of a path

-- a blamed place of the number is at the path or below it
abbrev pub IsBlamedInside : List Bool → List Place → Path → ℕ → Type 0
IsBlamedInside kept places path n = (p : Place) × (slice_get kept n ≡ Some false) × (slice_get places n ≡ Some p)
    × (goes_through path (path_of_place p) ≡ true)

-- of those before the number none is
abbrev pub AreOutsideTo : List Bool → List Place → Path → ℕ → Type 0
AreOutsideTo kept places path count = (n : ℕ) → n < count → IsBlamedInside kept places path n → ⊥

pub outside_none : (kept : List Bool) (places : List Place) (path : Path) → AreOutsideTo kept places path 0
outside_none kept places path n lt h = absurd (omega (arith, lt))

pub outside_more : (kept : List Bool) (places : List Place) (path : Path) (count : ℕ) (b : Bool)
    → (b ≡ true) ↔ IsBlamedInside kept places path count → b ≡ false → AreOutsideTo kept places path count
    → AreOutsideTo kept places path (count + 1)
outside_more kept places path count b test bad h n lt is = elim (cases_eq n count) [
  | inl e ↦ not_both b (test.1 (subst (IsBlamedInside kept places path) e is)) bad
  | inr other ↦ h n (omega (arith, lt, other)) is
]

module _ (def : Definition) (f : Fragment) where
  pub outside_all : (kept : List Bool) (places : List Place) (path : Path) (count : ℕ) → places ≡ places_of def f
      → length kept ≤ count → AreOutsideTo kept places path count → AreOutside def f kept path
  outside_all kept places path count e le h n p lost at through =
      h n (let lt = slice_get_within kept n false lost in omega (arith, lt, le))
      (p, lost, ap (λ ps. slice_get ps n) e ∙ at, through)

  pub not_outside : (kept : List Bool) (places : List Place) (path : Path) (n : ℕ) → places ≡ places_of def f
      → IsBlamedInside kept places path n → AreOutside def f kept path → ⊥
  not_outside kept places path n e is h = h n is.0 is.1 (ap (λ ps. slice_get ps n) (sym e) ∙ is.2) is.3

  -- ---- the answers but the contents

  abbrev pub OpensTo : Path → ℕ → List Bool → ℕ → Type 0
  OpensTo path number answers count = (length answers ≡ count)
      × ((n : ℕ) → n < count → (slice_get answers n ≡ Some false) ↔ IsContent def f path number n)

  pub opens_none : (path : Path) (number : ℕ) (answers : List Bool) → answers ≡ [] → OpensTo path number answers 0
  opens_none path number answers e = (ap length e, λ n lt. absurd (omega (arith, lt)))

  pub opens_more : (path : Path) (number count : ℕ) (answers next : List Bool) (b : Bool)
      → (b ≡ true) ↔ IsContent def f path number count → next ≡ answers ++ not b ∷ [] → OpensTo path number answers count
      → OpensTo path number next (count + 1)
  opens_more path number count answers next b test e h =
      let long : length next ≡ count + 1 =
      ap length e ∙ length-append answers (not b ∷ []) ∙ ap (λ n. n + 1) h.0 in
      (long, one)
    where
      at_end : slice_get next count ≡ Some (not b)
      at_end = ap (λ xs. slice_get xs count) e ∙ ap (slice_get (answers ++ not b ∷ [])) (sym h.0) ∙ slice_get-end answers (not b)

      turned : (c : Bool) → Some (not c) ≡ Some false → c ≡ true
      turned true q = refl
      turned false q = absurd (true≢false (same_Some true false q))

      forth : (n : ℕ) → n < count + 1 → slice_get next n ≡ Some false → IsContent def f path number n
      forth n lt at = elim (cases_eq n count) [
        | inl same ↦
            let here : Some (not b) ≡ Some false = sym at_end ∙ subst (λ m. slice_get next m ≡ Some false) same at in
            subst (IsContent def f path number) (sym same) (test.0 (turned b here))
        | inr other ↦
            let apart : length answers ≡ n → ⊥ = λ q. other (sym q ∙ h.0) in
            (h.1 n (omega (arith, lt, other))).0
            (slice_get-not_end answers (not b) false n apart (ap (λ xs. slice_get xs n) (sym e) ∙ at))
      ]

      back : (n : ℕ) → n < count + 1 → IsContent def f path number n → slice_get next n ≡ Some false
      back n lt is = elim (cases_eq n count) [
        | inl same ↦
            subst (λ m. slice_get next m ≡ Some false) (sym same)
            (at_end ∙ ap (λ c. Some (not c)) (test.1 (subst (IsContent def f path number) same is)))
        | inr other ↦
            ap (λ xs. slice_get xs n) e
            ∙ slice_get-front answers (not b ∷ []) n false ((h.1 n (omega (arith, lt, other))).1 is)
      ]

      one : (n : ℕ) → n < count + 1 → (slice_get next n ≡ Some false) ↔ IsContent def f path number n
      one n lt = (forth n lt, back n lt)

  pub opens_all : (path : Path) (number count : ℕ) (answers : List Bool) (places : List Place) → places ≡ places_of def f
      → length places ≤ count → OpensTo path number answers count
      → (n : ℕ) → (slice_get answers n ≡ Some false) ↔ IsContent def f path number n
  opens_all path number count answers places e le h n = (forth, back) where
    forth : slice_get answers n ≡ Some false → IsContent def f path number n
    forth at = (h.1 n (let lt = slice_get_within answers n false at in let l = h.0 in omega (arith, lt, l))).0 at

    back : IsContent def f path number n → slice_get answers n ≡ Some false
    back is =
        let lt = slice_get_within places n is.place (ap (λ ps. slice_get ps n) e ∙ is.there) in
        (h.1 n (omega (arith, lt, le))).1 is

  pub each_place : (answers : List Bool) (places : List Place) → places ≡ places_of def f → length answers ≡ length places
      → length answers ≡ place_count def f
  each_place answers places e l = l ∙ ap length e ∙ counted def f

  -- ---- explanations

  same_answers : (xs ys : List Bool) → length xs ≡ length ys
      → ((n : ℕ) → (slice_get xs n ≡ Some false) ↔ (slice_get ys n ≡ Some false)) → xs ≡ ys
  same_answers [] [] l h = refl
  same_answers [] (y ∷ ys) l h = absurd (omega (arith, l))
  same_answers (x ∷ xs) [] l h = absurd (omega (arith, l))
  same_answers (x ∷ xs) (y ∷ ys) l h =
      ap₂ (λ b bs. b ∷ bs) (same_bit x y (h 0)) (same_answers xs ys (omega (arith, l)) (λ n. h (suc n)))
    where
      same_bit : (a b : Bool) → (Some a ≡ Some false) ↔ (Some b ≡ Some false) → a ≡ b
      same_bit true true q = refl
      same_bit false false q = refl
      same_bit true false q = same_Some true false (q.1 refl)
      same_bit false true q = sym (same_Some true false (q.0 refl))

  module _ (fresh : ℕ → Word) (kept : List Bool) (path : Path) (number : ℕ) where
    pub not_explaining : (AreOutside def f kept path → ⊥) → IsExplaining def f fresh kept path number → ⊥
    not_explaining never h = never h.outside

    pub no_contents : (answers : List Bool) → ((n : ℕ) → (slice_get answers n ≡ Some false) ↔ IsContent def f path number n)
        → ((n : ℕ) → slice_get answers n ≡ Some false → ⊥) → IsExplaining def f fresh kept path number → ⊥
    no_contents answers opens none h = let (n, is) = h.but_contents.some in none n ((opens n).1 is)

    pub explaining : (answers : List Bool) (good : Bool) → AreOutside def f kept path → length answers ≡ place_count def f
        → ((n : ℕ) → (slice_get answers n ≡ Some false) ↔ IsContent def f path number n)
        → ((n : ℕ) × (slice_get answers n ≡ Some false)) → (good ≡ true) ↔ IsGoodWith def fresh f answers
        → (good ≡ true) ↔ IsExplaining def f fresh kept path number
    explaining answers good outside each opens some test = (forth, back) where
      forth : good ≡ true → IsExplaining def f fresh kept path number
      forth t = record {
        outside = outside;
        answers = answers;
        but_contents = record { each = each; opens = opens; some = (some.0, (opens some.0).0 some.1) };
        good = test.0 t;
      }

      back : IsExplaining def f fresh kept path number → good ≡ true
      back h =
          let same : h.answers ≡ answers =
          same_answers h.answers answers (h.but_contents.each ∙ sym each)
          (λ n. ((λ e. (opens n).1 ((h.but_contents.opens n).0 e)), (λ e. (h.but_contents.opens n).1 ((opens n).0 e)))) in
          test.1 (subst (IsGoodWith def fresh f) same h.good)

  -- ---- one place after the other

  module _ (r : Read) (fresh : ℕ → Word) (kept : List Bool) where
    -- these are told of the places before the number, whatever is told of the rest
    abbrev pub SuspectedTo : List Place → ℕ → List Finding → Type 0
    SuspectedTo places number told = (rest : List Finding) → AreSuspected def f r fresh kept number (drop number places) rest
        → AreSuspected def f r fresh kept 0 places (told ++ rest)

    pub suspected_none : (places : List Place) → SuspectedTo places 0 []
    suspected_none places rest h = h

    one_more : (number : ℕ) (place : Place) (places : List Place) (own rest : List Finding)
        → IsSuspected def f r fresh kept number own → AreSuspected def f r fresh kept (number + 1) places rest
        → AreSuspected def f r fresh kept number (place ∷ places) (own ++ rest)
    one_more number place places own rest (one_suspect w is) h = suspected place w is h
    one_more number place places own rest (no_suspect never) h = unsuspected place never h

    pub suspected_more : (places : List Place) (number : ℕ) (told own : List Finding) → number < length places
        → IsSuspected def f r fresh kept number own → SuspectedTo places number told
        → SuspectedTo places (number + 1) (told ++ own)
    suspected_more places number told own lt is h rest more =
        let (place, there) = here places number lt in
        let one : number + 1 ≡ suc number = omega arith in
        let at = there ∙ ap (λ n. place ∷ drop n places) (sym one) in
        subst (AreSuspected def f r fresh kept 0 places) (sym (append_assoc told own rest))
        (h (own ++ rest) (subst (λ ps. AreSuspected def f r fresh kept number ps (own ++ rest)) (sym at)
        (one_more number place (drop (number + 1) places) own rest is more)))
      where
        here : (xs : List Place) (i : ℕ) → i < length xs → (x : Place) × (drop i xs ≡ x ∷ drop (suc i) xs)
        here [] i lt = absurd (omega (arith, lt))
        here (x ∷ xs) zero lt = (x, refl)
        here (x ∷ xs) (suc i) lt = here xs i (omega (arith, lt))

    pub suspected_all : (places : List Place) (number : ℕ) (told : List Finding) → length places ≤ number
        → SuspectedTo places number told → AreSuspected def f r fresh kept 0 places told
    suspected_all places number told le h =
        subst (AreSuspected def f r fresh kept 0 places) (append-nil told)
        (h [] (subst (λ ps. AreSuspected def f r fresh kept number ps []) (sym (drop_all number places le)) (none_left number)))

    few_left : (number : ℕ) (places : List Place) → blamed_in kept < 2 → AreSuspected def f r fresh kept number places []
    few_left number [] lt = none_left number
    few_left number (p ∷ ps) lt =
        unsuspected p (λ w is. let two = is.several in absurd (omega (arith, two, lt))) (few_left (number + 1) ps lt)

    pub few_blamed : (places : List Place) → blamed_in kept < 2 → AreSuspected def f r fresh kept 0 places []
    few_blamed places lt = few_left 0 places lt

-- ---- a name that is declared

abbrev named : Written → Bool → Named
named w b = record { name = w; declares = b }

abbrev number_of : Place → ℕ
number_of (Node p) = 0
number_of (Element p) = 0
number_of (End p) = 0
number_of (NameOf p k) = k

abbrev pub is_name : Place → Bool
is_name (Node p) = false
is_name (Element p) = false
is_name (End p) = false
is_name (NameOf p k) = true

module _ (def : Definition) (f : Fragment) where
  declared_name : (path : Path) (k : ℕ) (w : Written) → IsDeclaration def f (NameOf path k) w
      → nth_name def path k (node_at f path) ≡ Some (record { name = w; declares = true })
  declared_name path k w d =
      let p : path ≡ d.path = ap path_of_place d.place_is in
      let n : k ≡ d.k = ap number_of d.place_is in
      ap₂ (λ q i. nth_name def q i (node_at f q)) p n ∙ d.is

  pub no_declaration : (place : Place) → is_name place ≡ false
      → (false ≡ true) ↔ ((w : Written) × IsDeclaration def f place w)
  no_declaration place e =
      ((λ t. absurd (true≢false (sym t))), (λ (w, d). absurd (true≢false (sym (ap is_name d.place_is) ∙ e))))

  pub none_named : (place : Place) (path : Path) (k : ℕ) (found : Option Named) → place ≡ NameOf path k
      → found ≡ nth_name def path k (node_at f path) → found ≡ None
      → (false ≡ true) ↔ ((w : Written) × IsDeclaration def f place w)
  none_named place path k found at h e = (
    (λ t. absurd (true≢false (sym t))),
    (λ (w, d). absurd (none-some (record { name = w; declares = true })
        (sym e ∙ h ∙ declared_name path k w (subst (λ p. IsDeclaration def f p w) at d)))),
  )

  pub named_so : (place : Place) (path : Path) (k : ℕ) (found : Option Named) (own : Named) → place ≡ NameOf path k
      → found ≡ nth_name def path k (node_at f path) → found ≡ Some own
      → (own.declares ≡ true) ↔ ((w : Written) × IsDeclaration def f place w)
  named_so place path k found own at h e = (
    (λ t. (
      own.name,
      record {
        path = path;
        k = k;
        place_is = at;
        is = sym h ∙ e ∙ ap (λ b. Some (named own.name b)) t;
      },
    )),
    (λ (w, d).
        let same : own ≡ named w true = same_Some own (named w true) (sym e ∙ h ∙ declared_name path k w (subst (λ p. IsDeclaration def f p w) at d)) in
        ap (λ (n : Named). n.declares) same),
  )

  -- ---- one content

  pub too_early : (path : Path) (number later : ℕ) → later ≤ number → (false ≡ true) ↔ IsContent def f path number later
  too_early path number later le =
      ((λ t. absurd (true≢false (sym t))), (λ h. let after = h.after in absurd (omega (arith, le, after))))

  pub not_inside : (path : Path) (number later : ℕ) (places : List Place) (place : Place) (b : Bool) → places ≡ places_of def f
      → slice_get places later ≡ Some place → b ≡ goes_through path (path_of_place place) → b ≡ false
      → (false ≡ true) ↔ IsContent def f path number later
  not_inside path number later places place b e at g none = (
    (λ t. absurd (true≢false (sym t))),
    (λ h.
        let same : h.place ≡ place = same_Some h.place place (sym h.there ∙ ap (λ ps. slice_get ps later) (sym e) ∙ at) in
        absurd (true≢false (sym (ap (λ p. goes_through path (path_of_place p)) (sym same) ∙ h.inside) ∙ sym g ∙ none))),
  )

  pub content_is : (path : Path) (number later : ℕ) (places : List Place) (place : Place) (b declared : Bool) → places ≡ places_of def f
      → slice_get places later ≡ Some place → (later ≤ number → ⊥) → b ≡ goes_through path (path_of_place place) → b ≡ true
      → (declared ≡ true) ↔ ((w : Written) × IsDeclaration def f place w)
      → (not declared ≡ true) ↔ IsContent def f path number later
  content_is path number later places place b declared e at after g so test = (
    (λ t. record {
      place = place;
      there = ap (λ ps. slice_get ps later) (sym e) ∙ at;
      inside = sym g ∙ so;
      after = omega (arith, after);
      quiet = λ w d. true≢false (sym (test.1 (w, d)) ∙ turned declared t);
    }),
    (λ h.
        let same : h.place ≡ place = same_Some h.place place (sym h.there ∙ ap (λ ps. slice_get ps later) (sym e) ∙ at) in
        undeclared declared (λ t. let (w, d) = test.0 t in h.quiet w (subst (λ p. IsDeclaration def f p w) (sym same) d))),
  )
    where
      turned : (c : Bool) → not c ≡ true → c ≡ false
      turned true q = absurd (true≢false (sym q))
      turned false q = refl

      undeclared : (c : Bool) → (c ≡ true → ⊥) → not c ≡ true
      undeclared true q = absurd (q refl)
      undeclared false q = refl

  -- the path of a name is that of its node
  item_path : (path : Path) (k : ℕ) (item : Option NameItem) (x : Word) (n : Named) → own_name item path k x ≡ Some n → n.name.path ≡ path
  item_path path k None x n h = absurd (none-some n h)
  item_path path k (Some i) x n h = sym (ap (λ (m : Named). m.name.path) (same_Some _ n h))

  test_path : (path : Path) (k : ℕ) (b : Bool) (own rest : Option Named) (n : Named) → (own ≡ Some n → n.name.path ≡ path)
      → (rest ≡ Some n → n.name.path ≡ path) → cond b own rest ≡ Some n → n.name.path ≡ path
  test_path path k true own rest n p q h = p h
  test_path path k false own rest n p q h = q h

  front_path : (path : Path) (k : ℕ) (g : Fragment) (n : Named) → name_in def path k g ≡ Some n → n.name.path ≡ path
  front_path path k (with_child g t) n h = front_path path k g n h
  front_path path k (with_name g x) n h =
      test_path path k (names_before g == k) (own_name (name_item (next_item def g)) path k x) (name_in def path k g) n
      (item_path path k (name_item (next_item def g)) x n) (λ e. front_path path k g n e) h
  front_path path k (with_number g x) n h = front_path path k g n h
  front_path path k (with_text g x) n h = front_path path k g n h
  front_path path k (hole p) n h = absurd (none-some n h)
  front_path path k (ending l u) n h = absurd (none-some n h)
  front_path path k (cell l a g) n h = absurd (none-some n h)
  front_path path k (operator o) n h = absurd (none-some n h)
  front_path path k anything n h = absurd (none-some n h)
  front_path path k (observed g) n h = absurd (none-some n h)

  node_path : (path : Path) (k : ℕ) (o : Option Fragment) (n : Named) → nth_name def path k o ≡ Some n → n.name.path ≡ path
  node_path path k None n h = absurd (none-some n h)
  node_path path k (Some g) n h = front_path path k g n h

  name_path : (path : Path) (k : ℕ) (w : Written) → nth_name def path k (node_at f path) ≡ Some (named w true) → w.path ≡ path
  name_path path k w e = node_path path k (node_at f path) (named w true) e

  -- ---- one place of a suspect

  module _ (r : Read) (fresh : ℕ → Word) (kept : List Bool) (number : ℕ) where
    pub no_name_suspect : (places : List Place) (place : Place) → places ≡ places_of def f → slice_get places number ≡ Some place
        → is_name place ≡ false → IsSuspected def f r fresh kept number []
    no_name_suspect places place e at none =
        no_suspect (λ w h.
        let same : h.place ≡ place = same_Some h.place place (sym h.there ∙ ap (λ ps. slice_get ps number) (sym e) ∙ at) in
        true≢false (sym (ap is_name (sym same ∙ h.declared.place_is)) ∙ none))

    suspect_name : (places : List Place) (path : Path) (k : ℕ) → places ≡ places_of def f → slice_get places number ≡ Some (NameOf path k)
        → (w : Written) → IsSuspect def f fresh kept number w
        → nth_name def path k (node_at f path) ≡ Some (named w true)
    suspect_name places path k e at w h =
        let same : h.place ≡ NameOf path k = same_Some h.place (NameOf path k) (sym h.there ∙ ap (λ ps. slice_get ps number) (sym e) ∙ at) in
        declared_name path k w (subst (λ p. IsDeclaration def f p w) same h.declared)

    pub none_suspect : (places : List Place) (path : Path) (k : ℕ) (found : Option Named) → places ≡ places_of def f
        → slice_get places number ≡ Some (NameOf path k) → found ≡ nth_name def path k (node_at f path) → found ≡ None
        → IsSuspected def f r fresh kept number []
    none_suspect places path k found e at n o =
        no_suspect (λ w h. none-some (named w true) (sym o ∙ n ∙ suspect_name places path k e at w h))

    pub used_suspect : (places : List Place) (path : Path) (k : ℕ) (found : Option Named) (own : Named) → places ≡ places_of def f
        → slice_get places number ≡ Some (NameOf path k) → found ≡ nth_name def path k (node_at f path) → found ≡ Some own
        → own.declares ≡ false → IsSuspected def f r fresh kept number []
    used_suspect places path k found own e at n o d =
        no_suspect (λ w h.
        let same : own ≡ named w true = same_Some own (named w true) (sym o ∙ n ∙ suspect_name places path k e at w h) in
        true≢false (sym (ap (λ (x : Named). x.declares) same) ∙ d))

    pub bad_suspect : (places : List Place) (path : Path) (k : ℕ) (found : Option Named) (own : Named) (good : Bool) → places ≡ places_of def f
        → slice_get places number ≡ Some (NameOf path k) → found ≡ nth_name def path k (node_at f path) → found ≡ Some own
        → (good ≡ true) ↔ IsExplaining def f fresh kept path number → good ≡ false → IsSuspected def f r fresh kept number []
    bad_suspect places path k found own good e at n o test bad =
        no_suspect (λ w h.
        let same : own ≡ named w true = same_Some own (named w true) (sym o ∙ n ∙ suspect_name places path k e at w h) in
        let there : w.path ≡ path = name_path path k w (suspect_name places path k e at w h) in
        true≢false (sym (test.1 (subst (λ p. IsExplaining def f fresh kept p number) there h.explains)) ∙ bad))

    pub good_suspect : (places : List Place) (path : Path) (k : ℕ) (found : Option Named) (own : Named) (good : Bool) (told : Finding)
        → places ≡ places_of def f → slice_get places number ≡ Some (NameOf path k) → found ≡ nth_name def path k (node_at f path)
        → found ≡ Some own → own.declares ≡ true → 2 ≤ blamed_in kept → (good ≡ true) ↔ IsExplaining def f fresh kept path number
        → good ≡ true
        → told ≡ note_at (name_byte def r own.name.path own.name.number) (codes "with another declaration of " ++ (own.name.name ++ codes " all the rest would fit"))
        → IsSuspected def f r fresh kept number (told ∷ [])
    good_suspect places path k found own good told e at n o d several test so t =
        let is : nth_name def path k (node_at f path) ≡ Some (named own.name true) = sym n ∙ o ∙ ap (λ b. Some (named own.name b)) d in
        let there : own.name.path ≡ path = name_path path k own.name is in
        subst (λ (x : Finding). IsSuspected def f r fresh kept number (x ∷ [])) (sym t)
        (one_suspect own.name (record {
          place = NameOf path k;
          there = ap (λ ps. slice_get ps number) (sym e) ∙ at;
          declared = record { path = path; k = k; place_is = refl; is = is };
          several = several;
          explains = subst (λ p. IsExplaining def f fresh kept p number) (sym there) (test.0 so);
        }))
