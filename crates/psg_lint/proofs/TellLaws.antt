-- What is told of blamed places, one after the other.
use Rattle.std.proofs.Common.{◌≡◌, ◌⊎◌, ◌↔◌, inl, inr, ℕ, zero, suc, ◌+◌, ◌<◌, ◌≤◌, not, Bool, true, false, List, [], ◌∷◌, ◌++◌, length, take, drop, Option, Some, None, slice_get, refl, ap, ap₂, sym, ◌∙◌, subst, arith, true≢false, append_assoc, append-nil, ◌||◌}
use Rattle.std.specs.Prelude.{MatchOption}
use Rattle.std.proofs.lemmas.Bool.{cases_eq}
use Rattle.std.proofs.lemmas.List.{drop_all}
use Rattle.std.proofs.lemmas.Option.{none-some, same_Some}
use Rattle.psg_terms.specs.Names.{Name as Word}
use Rattle.psg_grammar.specs.declared.types.Definition.{Definition}
use Rattle.psg_grammar.specs.Fragments.{Fragment, hole, ending, cell, operator, with_child, with_name, with_number}
use Rattle.psg_grammar.specs.Fragments.{with_text, anything, observed}
use Rattle.psg_grammar.specs.Open.{IsOpen}
use Rattle.psg_grammar.specs.Paths.{IsList, Path, node_at}
use Rattle.psg_cache.specs.Notes.{IsFormed}
use Rattle.psg_cache.specs.declared.note.NoteFault.{NoteFault}
use Rattle.psg_cache.specs.declared.note.NoteFault.TheVariants as faults
use Rattle.psg_places.specs.declared.place.Place.{Place}
use Rattle.psg_places.specs.declared.place.Place.TheVariants.{Node, Element, End, Name}
use Rattle.psg_places.specs.Blame.{AreAllAnswers, blamed_in, most_blamed}
use Rattle.psg_places.specs.NewNames.{AreNew}
use Rattle.psg_places.specs.Places.{declares, places_of}
use Rattle.psg_places.specs.Ways.{IsBack, goes_into, is_left_out, takes_along}
use Rattle.psg_recover.specs.declared.finding.Finding.{Finding}
use Rattle.psg_recover.specs.Findings.{error_at}
use Rattle.psg_recover.specs.TextPlaces.{Read, first_byte, name_byte, node_byte, place_byte}
use Rattle.psg_uses.specs.declared.elements.Member.{Member}
use Rattle.psg_uses.specs.declared.names.Written.{Written}
use Rattle.psg_uses.specs.Members.{member_path}
use Rattle.psg_uses.specs.Naming.{path_of_place}
use Rattle.psg_lint.specs.Blamed.{IsMessage, IsUseMessage, element_phylum}
use Rattle.psg_lint.specs.Hints.{HasNoOtherName, HasNoWithout, IsOtherName, IsWithout, but_for}
use Rattle.psg_lint.specs.Suspects.{AreSuspected}
use Rattle.psg_lint.specs.Wrongs.{AreSuspects, AreTold, AreWrong, IsNumberTold, IsTold, IsToldBefore, list_path, member_message, trial_told, wide_message, wide_path}
use Rattle.psg_lint.specs.Wrongs.{all_told, blamed, blamed_told, by_itself, few, kept_told, one_blamed, one_kept, other_name, told_before}
use Rattle.psg_lint.specs.Wrongs.{too_many, without_member}
use Rattle.psg_lint.proofs.PlaceLaws.{IsElementAt, IsEndAt, IsFree, placed}

-- ---- kinds of places

abbrev is_node : Place → Bool
is_node (Node p) = true
is_node (Element p) = false
is_node (End p) = false
is_node (Name p k) = false

abbrev pub is_element : Place → Bool
is_element (Node p) = false
is_element (Element p) = true
is_element (End p) = false
is_element (Name p k) = false

abbrev is_end : Place → Bool
is_end (Node p) = false
is_end (Element p) = false
is_end (End p) = true
is_end (Name p k) = false

pub node_element : (x : Place) (p q : Path) → x ≡ Node p → x ≡ Element q → ⊥
node_element x p q a b = true≢false (sym (ap is_node a) ∙ ap is_node b)

pub node_end : (x : Place) (p q : Path) → x ≡ Node p → x ≡ End q → ⊥
node_end x p q a b = true≢false (sym (ap is_node a) ∙ ap is_node b)

pub element_end : (x : Place) (p q : Path) → x ≡ Element p → x ≡ End q → ⊥
element_end x p q a b = true≢false (sym (ap is_element a) ∙ ap is_element b)

pub same_path : (x : Place) (a b : Path) → path_of_place x ≡ a → path_of_place x ≡ b → a ≡ b
same_path x a b e f = sym e ∙ f

-- ---- the list of an element

pub list_of_last : (xs : Path) (x : ℕ) → list_path (xs ++ x ∷ []) ≡ xs
list_of_last [] x = refl
list_of_last (y ∷ []) x = refl
list_of_last (y ∷ (z ∷ zs)) x = ap (λ p. y ∷ p) (list_of_last (z ∷ zs) x)

pub list_of_none : (xs : Path) → length xs ≡ 0 → list_path xs ≡ []
list_of_none [] e = refl
list_of_none (x ∷ xs) e = absurd (omega (arith, e))

-- ---- an earlier element of the list

abbrev pub IsBlamedElement : List Bool → List Place → Path → ℕ → Type 0
IsBlamedElement kept places list n = (other : Path) × (slice_get kept n ≡ Some false)
    × (slice_get places n ≡ Some (Element other)) × (list_path other ≡ list)

abbrev pub AreNoneBefore : List Bool → List Place → Path → ℕ → Type 0
AreNoneBefore kept places list count = (n : ℕ) → n < count → IsBlamedElement kept places list n → ⊥

pub none_before : (kept : List Bool) (places : List Place) (list : Path) → AreNoneBefore kept places list 0
none_before kept places list n lt h = absurd (omega (arith, lt))

pub none_more : (kept : List Bool) (places : List Place) (list : Path) (count : ℕ) (b : Bool)
    → (b ≡ true) ↔ IsBlamedElement kept places list count → b ≡ false → AreNoneBefore kept places list count
    → AreNoneBefore kept places list (count + 1)
none_more kept places list count b test bad h n lt is = elim (cases_eq n count) [
  | inl e ↦ true≢false (sym (test.1 (subst (IsBlamedElement kept places list) e is)) ∙ bad)
  | inr other ↦ h n (omega (arith, lt, other)) is
]

-- ---- how many are blamed

one_fewer : (xs : List Bool) (n : ℕ) → length xs ≤ n + 1 → blamed_in xs ≤ blamed_in (take n xs) + 1
one_fewer [] zero le = omega arith
one_fewer [] (suc n) le = omega arith
one_fewer (true ∷ []) zero le = omega arith
one_fewer (false ∷ []) zero le = omega arith
one_fewer (x ∷ (y ∷ xs)) zero le = absurd (omega (arith, le))
one_fewer (true ∷ xs) (suc n) le = let h = one_fewer xs n (omega (arith, le)) in omega (arith, h)
one_fewer (false ∷ xs) (suc n) le = let h = one_fewer xs n (omega (arith, le)) in omega (arith, h)

pub most_is : (kept : List Bool) → ((n : ℕ) → n < length kept → blamed_in (take n kept) < most_blamed) → blamed_in kept ≤ most_blamed
most_is [] h = omega arith
most_is (x ∷ xs) h =
    let n = length xs in
    let front : blamed_in (take n (x ∷ xs)) < most_blamed = h n (omega arith) in
    let more = one_fewer (x ∷ xs) n (omega arith) in
    omega (arith, front, more)

module _ (def : Definition) (text : List ℕ) (f : Fragment) (r : Read) (fresh : ℕ → Word) (kept : List Bool) where
  abbrev Tells : ℕ → Place → List Finding → Type 0
  Tells n place own = IsTold def text f r fresh kept n place own

  -- ---- one place

  pub tells_member : (n : ℕ) (place : Place) (path own : Path) (told : Finding) → (place ≡ Node path) ⊎ (place ≡ Element path)
      → (place ≡ Element path → IsToldBefore def f kept n path → ⊥)
      → ((less : Member) × IsWithout def fresh f (take n kept) path less × (own ≡ member_path less))
      → told ≡ error_at (node_byte def r own) member_message → Tells n place (told ∷ [])
  tells_member n place path own told at never (less, is, e) t =
      let same : error_at (node_byte def r (member_path less)) member_message ≡ told =
      sym (t ∙ ap (λ p. error_at (node_byte def r p) member_message) e) in
      subst (λ x. Tells n place (x ∷ [])) same (without_member place path less at never is)

  pub tells_itself : (n : ℕ) (place : Place) (path : Path) (told : Finding) (message : List ℕ)
      → (place ≡ Node path) ⊎ (place ≡ Element path) → (place ≡ Element path → IsToldBefore def f kept n path → ⊥)
      → HasNoWithout def fresh f (take n kept) path → IsMessage def text f r fresh (take n kept) n place message
      → told ≡ error_at (place_byte def r place) message → Tells n place (told ∷ [])
  tells_itself n place path told message at never none is t =
      subst (λ x. Tells n place (x ∷ [])) (sym t)
      (by_itself place message
      (λ q e. subst (HasNoWithout def fresh f (take n kept)) (same_at at e) none)
      (λ q e before.
      let same : path ≡ q = same_path place path q (path_is at) (ap path_of_place e) in
      never (subst (λ p. place ≡ Element p) (sym same) e) (subst (IsToldBefore def f kept n) (sym same) before))
      (λ q e. absurd (no_end at q e)) is)
    where
      path_is : (place ≡ Node path) ⊎ (place ≡ Element path) → path_of_place place ≡ path
      path_is (inl e) = ap path_of_place e
      path_is (inr e) = ap path_of_place e

      same_at : {q : Path} → (place ≡ Node path) ⊎ (place ≡ Element path) → (place ≡ Node q) ⊎ (place ≡ Element q) → path ≡ q
      same_at {q} a (inl e) = same_path place path q (path_is a) (ap path_of_place e)
      same_at {q} a (inr e) = same_path place path q (path_is a) (ap path_of_place e)

      no_end : (place ≡ Node path) ⊎ (place ≡ Element path) → (q : Path) → place ≡ End q → ⊥
      no_end (inl a) q e = node_end place path q a e
      no_end (inr a) q e = element_end place path q a e

  pub tells_other : (n number : ℕ) (place : Place) (path : Path) (w : Written) (answers : List Bool) (told : Finding)
      (message : List ℕ) → place ≡ End path → IsOtherName def fresh f (take n kept) path number w
      → answers ≡ but_for (take n kept) number ++ true ∷ [] → IsUseMessage def text f r fresh answers number w message
      → told ≡ error_at (name_byte def r w.path w.number) message → Tells n place (told ∷ [])
  tells_other n number place path w answers told message at is e taken t =
      subst (λ x. Tells n x (told ∷ [])) (sym at)
      (subst (λ x. Tells n (End path) (x ∷ [])) (sym t)
      (other_name path number w message is (subst (λ ks. IsUseMessage def text f r fresh ks number w message) e taken)))

  pub tells_end : (n : ℕ) (place : Place) (path : Path) (told : Finding) (message : List ℕ) → place ≡ End path
      → HasNoOtherName def fresh f (take n kept) path → IsMessage def text f r fresh (take n kept) n place message
      → told ≡ error_at (place_byte def r place) message → Tells n place (told ∷ [])
  tells_end n place path told message at none is t =
      subst (λ x. Tells n place (x ∷ [])) (sym t)
      (by_itself place message
      (λ q e. absurd (elim e [ inl a ↦ node_end place q path a at | inr a ↦ element_end place q path a at ]))
      (λ q e before. element_end place q path e at)
      (λ q e. subst (HasNoOtherName def fresh f (take n kept)) (same_path place path q (ap path_of_place at) (ap path_of_place e)) none)
      is)

  pub tells_name : (n k : ℕ) (place : Place) (path : Path) (told : Finding) (message : List ℕ) → place ≡ Name path k
      → IsMessage def text f r fresh (take n kept) n place message
      → told ≡ error_at (place_byte def r place) message → Tells n place (told ∷ [])
  tells_name n k place path told message at is t =
      subst (λ x. Tells n place (x ∷ [])) (sym t)
      (by_itself place message
      (λ q e. absurd (elim e [
        | inl a ↦ true≢false (sym (ap is_node a) ∙ ap is_node at)
        | inr a ↦ true≢false (sym (ap is_element a) ∙ ap is_element at)
      ]))
      (λ q e before. true≢false (sym (ap is_element e) ∙ ap is_element at))
      (λ q e. absurd (true≢false (sym (ap is_end e) ∙ ap is_end at)))
      is)

  pub tells_nothing : (n : ℕ) (place : Place) (path : Path) → place ≡ Element path → IsToldBefore def f kept n path
      → Tells n place []
  tells_nothing n place path at before = subst (λ x. Tells n x []) (sym at) (told_before path before)

  -- ---- all places

  abbrev AreTells : ℕ → List Bool → List Place → List Finding → Type 0
  AreTells n answers places own = AreTold def text f r fresh kept n answers places own

  -- these are told of the places before the number, whatever is told of the rest
  abbrev pub ToldTo : List Place → ℕ → List Finding → Type 0
  ToldTo places number told = (rest : List Finding) → AreTells number (drop number kept) (drop number places) rest
      → AreTells 0 kept places (told ++ rest)

  pub told_none : (places : List Place) → ToldTo places 0 []
  told_none places rest h = h

  drop_at : {X : Type 0} (xs : List X) (i : ℕ) (x : X) → slice_get xs i ≡ Some x → drop i xs ≡ x ∷ drop (suc i) xs
  drop_at [] i x e = absurd (none-some x e)
  drop_at (y ∷ xs) zero x e = ap (λ z. z ∷ xs) (same_Some y x e)
  drop_at (y ∷ xs) (suc i) x e = drop_at xs i x e

  some_at : {X : Type 0} (xs : List X) (i : ℕ) → i < length xs → (x : X) × (slice_get xs i ≡ Some x)
  some_at [] i lt = absurd (omega (arith, lt))
  some_at (x ∷ xs) zero lt = (x, refl)
  some_at (x ∷ xs) (suc i) lt = some_at xs i (omega (arith, lt))

  one_told : (places : List Place) (number : ℕ) (own rest : List Finding) → number < length places
      → IsNumberTold def text f r fresh kept places number own
      → AreTells (suc number) (drop (suc number) kept) (drop (suc number) places) rest
      → AreTells number (drop number kept) (drop number places) (own ++ rest)
  one_told places number own rest lt (kept_told e) h =
      let (place, at) = some_at places number lt in
      subst (λ ps. AreTells number (drop number kept) ps rest) (sym (drop_at places number place at))
      (subst (λ ks. AreTells number ks (place ∷ drop (suc number) places) rest) (sym (drop_at kept number true e)) (one_kept place h))
  one_told places number own rest lt (blamed_told place _ e at is) h =
      subst (λ ps. AreTells number (drop number kept) ps (own ++ rest)) (sym (drop_at places number place at))
      (subst (λ ks. AreTells number ks (place ∷ drop (suc number) places) (own ++ rest)) (sym (drop_at kept number false e))
      (one_blamed place is h))

  pub told_more : (places : List Place) (number : ℕ) (told own : List Finding) → number < length places
      → IsNumberTold def text f r fresh kept places number own → ToldTo places number told
      → ToldTo places (number + 1) (told ++ own)
  told_more places number told own lt is h rest more =
      let z : number + 1 ≡ suc number = omega arith in
      let next = subst (λ n. AreTells n (drop n kept) (drop n places) rest) z more in
      subst (AreTells 0 kept places) (sym (append_assoc told own rest)) (h (own ++ rest) (one_told places number own rest lt is next))

  pub told_all : (places : List Place) (number : ℕ) (told : List Finding) → length kept ≤ number → ToldTo places number told
      → AreTells 0 kept places told
  told_all places number told le h =
      subst (AreTells 0 kept places) (append-nil told)
      (h [] (subst (λ ks. AreTells number ks (drop number places) []) (sym (drop_all number kept le)) (all_told number (drop number places))))

  -- ---- suspects

  pub suspects_many : blamed_in kept ≤ most_blamed → most_blamed ≤ blamed_in kept → AreSuspects def text f r fresh kept [] true
  suspects_many le ge = too_many (omega (arith, le, ge))

  pub suspects_few : (found : List Finding) (places : List Place) → places ≡ places_of def f → blamed_in kept < most_blamed
      → AreSuspected def f r fresh kept 0 places found → AreSuspects def text f r fresh kept found false
  suspects_few found places e lt h =
      few found (λ same. omega (arith, same, lt)) (subst (λ ps. AreSuspected def f r fresh kept 0 ps found) e h)

  -- ---- all that is wrong

  pub all_wrong : (places : List Place) (found suspects : List Finding) (more : Bool) → places ≡ places_of def f
      → (IsOpen def f → ⊥) → AreNew def f fresh → AreAllAnswers (IsOpen def) def fresh f kept
      → AreTells 0 kept places found → AreSuspects def text f r fresh kept suspects more
      → AreWrong def text f r false (found ++ suspects) more
  all_wrong places found suspects more e never new answers told rest =
      blamed kept fresh found suspects more never new answers (subst (λ ps. AreTells 0 kept ps found) e told) rest

-- ---- limits

into_top : (at : Path) → goes_into at [] ≡ false
into_top [] = refl
into_top (k ∷ at) = refl

not_there : (x : Place) → takes_along [] x ≡ false
not_there (Node at) = refl
not_there (Element at) = into_top at
not_there (End at) = refl
not_there (Name at n) = refl

top_there : (opened : List Place) → is_left_out opened [] ≡ false
top_there [] = refl
top_there (x ∷ xs) = ap₂ (λ a b. a || b) (not_there x) (top_there xs)

pub back_at_top : (opened : List Place) → IsBack opened [] []
back_at_top opened = record { there = top_there opened; moves = refl }

-- ---- what there is, or nothing

pub option_some : {X : Type 0} (N : Type 0) (P : X → Type 0) (o : Option X) (x : X) → o ≡ Some x → MatchOption o N P → P x
option_some N P o x e h = subst (λ w. MatchOption w N P) e h

pub option_none : {X : Type 0} (N : Type 0) (P : X → Type 0) (o : Option X) → o ≡ None → MatchOption o N P → N
option_none N P o e h = subst (λ w. MatchOption w N P) e h

-- ---- limits of trials

module _ (def : Definition) (r : Read) (opened : List Place) (fault : NoteFault) where
  pub limit_wide : (path : Path) (step : ℕ) (byte : ℕ) (back : Path) → fault ≡ faults.Wide path step → IsBack opened path back
      → byte ≡ node_byte def r back
      → (q : Path) × IsBack opened (wide_path fault) q × (error_at byte wide_message ≡ trial_told def r fault q)
  limit_wide path step byte back e h b = (
    back,
    subst (λ p. IsBack opened p back) (sym (ap wide_path e)) h,
    ap (λ n. error_at n wide_message) b ∙ ap (λ x. trial_told def r x back) (sym e),
  )

  pub limit_top : (byte : ℕ) → wide_path fault ≡ [] → ((q : Path) → trial_told def r fault q ≡ error_at (first_byte def r) wide_message)
      → byte ≡ first_byte def r → (q : Path) × IsBack opened (wide_path fault) q × (error_at byte wide_message ≡ trial_told def r fault q)
  limit_top byte none told b = (
    [],
    subst (λ p. IsBack opened p []) (sym none) (back_at_top opened),
    ap (λ n. error_at n wide_message) b ∙ sym (told []),
  )

-- ---- the list of an element

free_list : (def : Definition) (g : Fragment) → IsFree def g → IsList g
free_list def (ending l u) h = tt
free_list def (cell l e r) h = tt
free_list def (hole p) h = absurd h
free_list def (operator o) h = absurd h
free_list def (with_child g t) h = absurd h
free_list def (with_name g x) h = absurd h
free_list def (with_number g x) h = absurd h
free_list def (with_text g x) h = absurd h
free_list def anything h = absurd h
free_list def (observed g) h = absurd h

pub element_list : (def : Definition) (f : Fragment) → IsFormed def f → (n : ℕ) (e : Path)
    → slice_get (places_of def f) n ≡ Some (Element e) → (list : Fragment) × (node_at f (list_path e) ≡ Some list) × IsList list
element_list def f formed n e at =
    let own : IsElementAt def f e = placed def f formed n (Element e) at in
    let same : list_path e ≡ own.list = ap list_path own.path_is ∙ list_of_last own.list own.number in
    (own.node, ap (node_at f) same ∙ own.there, free_list def own.node own.free)

pub end_list : (def : Definition) (f : Fragment) → IsFormed def f → (n : ℕ) (e : Path) → slice_get (places_of def f) n ≡ Some (End e)
    → (list : Fragment) × (node_at f e ≡ Some list) × IsList list
end_list def f formed n e at =
    let own : IsEndAt def f e = placed def f formed n (End e) at in (own.list, own.there, own.is_list)

module _ (def : Definition) (f : Fragment) (kept : List Bool) (places : List Place) (same_places : places ≡ places_of def f) (number : ℕ) (element : Path) where
  abbrev Before : Path → Type 0
  Before list = (before : ℕ) × (other : Path) × (before < number) × (slice_get kept before ≡ Some false)
      × (slice_get places before ≡ Some (Element other)) × (list_path other ≡ list)

  pub before_of : (list : Path) → list ≡ list_path element → IsToldBefore def f kept number element → Before list
  before_of list e h =
      (h.before, h.other, h.earlier, h.blamed, ap (λ ps. slice_get ps h.before) same_places ∙ h.there, h.same ∙ sym e)

  pub none_told : (list : Path) (b : Bool) → list ≡ list_path element → (b ≡ true) ↔ Before list → b ≡ false
      → (false ≡ true) ↔ IsToldBefore def f kept number element
  none_told list b e test none =
      ((λ t. absurd (true≢false (sym t))), (λ h. absurd (true≢false (sym (test.1 (before_of list e h)) ∙ none))))

  pub told_if : (list path : Path) (b declaring : Bool) → list ≡ list_path element → path ≡ list → (b ≡ true) ↔ Before list
      → b ≡ true → declaring ≡ declares def (element_phylum def (node_at f path))
      → (not declaring ≡ true) ↔ IsToldBefore def f kept number element
  told_if list path b declaring e p test so d =
      let (before, other, earlier, lost, there, same) = test.0 so in
      let at : declaring ≡ declares def (element_phylum def (node_at f (list_path element))) =
      d ∙ ap (λ q. declares def (element_phylum def (node_at f q))) (p ∙ e) in (
        (λ t. record {
          before = before;
          earlier = earlier;
          other = other;
          there = ap (λ ps. slice_get ps before) (sym same_places) ∙ there;
          blamed = lost;
          same = same ∙ e;
          quiet = sym at ∙ turned declaring t;
        }),
        (λ h. ap not (at ∙ h.quiet)),
      )
    where
      turned : (c : Bool) → not c ≡ true → c ≡ false
      turned true q = absurd (true≢false (sym q))
      turned false q = refl
