-- The elements that may be left out are there, and the last of them that helps; the last use with another name.
use Rattle.std.proofs.Common.{◌≡◌, ◌↔◌, Bor, inl, inr, ℕ, zero, suc, ◌+◌, ◌-◌, ◌<◌, ◌≤◌, Bool, true, false, cond, List, [], ◌∷◌, ◌++◌, length, take, drop, get_or, Option, Some, None, slice_get, refl, ap, ap₂, sym, ◌∙◌, subst, arith, true≢false, append_assoc}
use Rattle.std.specs.List.{AllByRecursion}
use Rattle.std.specs.Option.{option_copied}
use Rattle.std.specs.Prelude.{MatchOption}
use Rattle.std.proofs.lemmas.Bool.{cases_eq}
use Rattle.std.proofs.lemmas.List.{drop_all, take_rest}
use Rattle.std.proofs.lemmas.Option.{none-some, same_Some, slice_get_within}
use Rattle.psg_terms.specs.Names.{Name as Word}
use Rattle.psg_terms.specs.Relations.{IsIn, first, later}
use Rattle.psg_terms.proofs.Lists.{drop_item, each_append}
use Rattle.psg_grammar.specs.declared.types.Definition.{Definition}
use Rattle.psg_grammar.specs.declared.types.Item.{Item}
use Rattle.psg_grammar.specs.declared.types.Item.TheVariants as items
use Rattle.psg_grammar.specs.declared.types.Kind.{Kind}
use Rattle.psg_grammar.specs.declared.types.Kind.TheVariants as kinds
use Rattle.psg_grammar.specs.Fragments.{Fragment, hole, ending, cell, operator, with_child, with_name, with_number}
use Rattle.psg_grammar.specs.Fragments.{with_text, anything, observed, children_of}
use Rattle.psg_grammar.specs.Open.{IsOpen}
use Rattle.psg_grammar.specs.Paths.{IsList, Path, change_at, node_at, removed}
use Rattle.psg_grammar.specs.WellFormed.{Fits, IsPlain}
use Rattle.psg_cache.specs.Notes.{IsFormed}
use Rattle.psg_tree.specs.Edits.{IsInsertFault, IsRemoveFault, IsRemoved}
use Rattle.psg_tree.specs.declared.places.TreeFault.{TreeFault}
use Rattle.psg_tree.specs.declared.places.TreeFault.TheVariants as faults
use Rattle.psg_places.specs.declared.place.Place.{Place}
use Rattle.psg_places.specs.declared.place.Place.TheVariants.{Node, Element, End, Name as NameOf}
use Rattle.psg_places.specs.Places.{below, declares, may_go_on, places_of}
use Rattle.psg_places.specs.Ways.{goes_through}
use Rattle.psg_places.proofs.InsideLaws.{IsChain}
use Rattle.psg_places.proofs.WalkLaws.{IsShaped, shaped}
use Rattle.psg_uses.specs.declared.elements.Member.{Member}
use Rattle.psg_uses.specs.declared.names.Named.{Named}
use Rattle.psg_uses.specs.declared.names.Written.{Written}
use Rattle.psg_uses.specs.Naming.{nth_name, path_of_place}
use Rattle.psg_uses.specs.Regions.{declaration_of, region_of}
use Rattle.psg_uses.specs.Members.{fixed_members, is_declaring, list_members, member_path, members_at}
use Rattle.psg_wanted.specs.Fronts.{IsGoodTree, IsTooMuch}
use Rattle.psg_lint.specs.Blamed.{element_phylum}
use Rattle.psg_lint.specs.Hints.{HasMember, HasNoOtherName, HasNoWithout, IsGoodWith, IsOtherName, IsLast, IsLoose, IsLastOther, IsLooseUse}
use Rattle.psg_lint.specs.Hints.{IsOther, IsUndeclared, IsWithout, but_for}
use Rattle.psg_lint.specs.declared.hints.OtherName.{OtherName}
use Rattle.psg_lint.proofs.OptionLaws.{option_none, option_some}
use Rattle.psg_lint.proofs.PlaceLaws.{IsPartOf, child_part, head_below, last_below, name_part, rest_part, same_part, whole_part}

pub good_turned : (def : Definition) (a b : Fragment) (good : Bool) → a ≡ b → (good ≡ true) ↔ ((IsTooMuch def a → ⊥) × IsOpen def a)
    → (good ≡ true) ↔ IsGoodTree def b
good_turned def a b good e h =
    let same : (good ≡ true) ↔ IsGoodTree def a =
    ((λ t. let own = h.0 t in (own.1, own.0)), (λ g. h.1 (g.1, g.0))) in
    subst (λ x. (good ≡ true) ↔ IsGoodTree def x) e same

-- ---- the elements of fixed lists

each_cond : (P : Member → Type 0) (b : Bool) (xs ys : List Member) → AllByRecursion P xs → AllByRecursion P ys
    → AllByRecursion P (cond b xs ys)
each_cond P true xs ys h k = h
each_cond P false xs ys h k = k

module _ (def : Definition) (F : Fragment) where
  abbrev AreThere : List Member → Type 0
  AreThere ms = AllByRecursion (HasMember F) ms

  member_here : (p : Path) (k l : ℕ) (g e r : Fragment) → IsChain r → IsPartOf def F p k g (cell l e r)
      → HasMember F (record { list = p; number = k })
  member_here p k l g e r c h =
      let z : k + 0 ≡ k = omega arith in
      record {
        list = g;
        there = h.node;
        is_list = h.list c;
        inside = slice_get_within (children_of g) k e (subst (λ n. slice_get (children_of g) n ≡ Some e) z (h.child 0 e refl));
      }

  mutual
    fixed_there : (p : Path) (g f : Fragment) (more : List Item) (kind : Kind) → Fits def f more kind → IsPlain f → IsShaped f
        → IsPartOf def F p 0 g f → AreThere (fixed_members def p f)
    fixed_there p g (hole q) more kind fits plain s h = tt
    fixed_there p g (ending l u) more kind fits plain s h = tt
    fixed_there p g (cell l e r) more kind fits plain s h = tt
    fixed_there p g (operator o) more kind fits plain s h = tt
    fixed_there p g (with_child f t) more kind fits plain s h =
        let q = below p (length (children_of f)) in
        let at = last_below def F p g f t h in
        each_append (HasMember F) (fixed_members def p f) (list_members def q 0 t)
        (fixed_there p g f (items.Slot fits.0 ∷ more) kind fits.1 plain.0 s.0.0 (child_part def F p 0 g f t s.0.1 h))
        (lists_there q 0 t t [] fits.0 fits.2 plain.1 s.1 (whole_part def F q t fits.0 at fits.2 s.1))
    fixed_there p g (with_name f x) more kind (inl (i, own), v) plain s h =
        fixed_there p g f (items.Refers i ∷ more) kind own plain s.0 (name_part def F p 0 g f x s.1 h)
    fixed_there p g (with_name f x) more kind (inr (i, own), v) plain s h =
        fixed_there p g f (items.Declares i ∷ more) kind own plain s.0 (name_part def F p 0 g f x s.1 h)
    fixed_there p g (with_number f x) more kind fits plain s h =
        fixed_there p g f (items.Number ∷ more) kind fits.0 plain s.0
        (same_part def F p 0 g f (with_number f x) s.1 refl refl (λ j. refl) (λ c. c) h)
    fixed_there p g (with_text f x) more kind fits plain s h =
        fixed_there p g f (items.Text ∷ more) kind fits.0 plain s.0
        (same_part def F p 0 g f (with_text f x) s.1 refl refl (λ j. refl) (λ c. c) h)
    fixed_there p g anything more kind fits plain s h = tt
    fixed_there p g (observed f) more kind fits plain s h = tt

    lists_there : (p : Path) (k : ℕ) (g f : Fragment) (more : List Item) (kind : Kind) → Fits def f more kind → IsPlain f
        → IsShaped f → IsPartOf def F p k g f → AreThere (list_members def p k f)
    lists_there p k g (cell l e r) more kind fits plain s h =
        let q = below p k in
        let at = head_below def F p k l g e r h in
        let own = kinds.Phylum fits.2.element in
        each_cond (HasMember F) (may_go_on def l) [] _ tt (
          member_here p k l g e r s.1.1 h,
          each_append (HasMember F) (cond (is_declaring def e) (fixed_members def q e) []) (list_members def p (suc k) r)
              (each_cond (HasMember F) (is_declaring def e) (fixed_members def q e) []
              (fixed_there q e e [] own fits.4 plain.0 s.0 (whole_part def F q e own at fits.4 s.0)) tt)
              (lists_there p (suc k) g r [] (kinds.List l) fits.5 plain.1 s.1.0 (rest_part def F p k l g e r h fits.5 s.1.1)),
        )
    lists_there p k g (hole q) more kind fits plain s h = tt
    lists_there p k g (ending l u) more kind fits plain s h = tt
    lists_there p k g (operator o) more kind fits plain s h = tt
    lists_there p k g (with_child f t) more kind fits plain s h = tt
    lists_there p k g (with_name f x) more kind fits plain s h = tt
    lists_there p k g (with_number f x) more kind fits plain s h = tt
    lists_there p k g (with_text f x) more kind fits plain s h = tt
    lists_there p k g anything more kind fits plain s h = tt
    lists_there p k g (observed f) more kind fits plain s h = tt

pub members_there : (def : Definition) (F : Fragment) → IsFormed def F → (path : Path)
    → ((g : Fragment) → node_at F path ≡ Some g → IsFormed def g)
    → AllByRecursion (HasMember F) (members_at def path (node_at F path))
members_there def F formed path below_is = by_node (node_at F path) refl where
  by_node : (o : Option Fragment) → node_at F path ≡ o → AllByRecursion (HasMember F) (members_at def path o)
  by_node None e = tt
  by_node (Some g) e =
      let (kind, (fits, plain)) = below_is g e in
      let s = (shaped def g [] kind fits plain).0 in
      fixed_there def F path g g [] kind fits plain s (whole_part def F path g kind e fits s)

-- ---- the last with the property

module _ {X : Type 0} (P : X → Type 0) (xs : List X) where
  -- none of the last so many has it
  abbrev pub HasNoneAfter : ℕ → Type 0
  HasNoneAfter less = (x : X) → IsIn x (drop (length xs - less) xs) → P x → ⊥

  pub none_first : HasNoneAfter 0
  none_first x h p =
      let z : length xs - 0 ≡ length xs = omega arith in
      none (subst (λ (ys : List X). IsIn x ys) (ap (λ n. drop n xs) z ∙ drop_all (length xs) xs (omega arith)) h) where
        none : IsIn x [] → ⊥
        none k = elim k [ ]

  pub next_rest : (less place : ℕ) (x : X) → less < length xs → place ≡ length xs - 1 - less → x ≡ get_or xs place x
      → drop (length xs - (less + 1)) xs ≡ x ∷ drop (length xs - less) xs
  next_rest less place x lt e at =
      let same : length xs - (less + 1) ≡ place = omega (arith, lt, e) in
      let next : place + 1 ≡ length xs - less = omega (arith, lt, e) in
      let inside : place < length xs = omega (arith, lt, e) in
      ap (λ n. drop n xs) same ∙ drop_item xs place x inside at ∙ ap (λ n. x ∷ drop n xs) next

  pub none_more : (less place : ℕ) (x : X) (b : Bool) → less < length xs → place ≡ length xs - 1 - less → x ≡ get_or xs place x
      → (b ≡ true) ↔ P x → b ≡ false → HasNoneAfter less → HasNoneAfter (less + 1)
  none_more less place x b lt e at test bad h y k p =
      by_place y (subst (λ (ys : List X). IsIn y ys) (next_rest less place x lt e at) k) p
    where
      by_place : (y : X) → IsIn y (x ∷ drop (length xs - less) xs) → P y → ⊥
      by_place _ first p = true≢false (sym (test.1 p) ∙ bad)
      by_place y (later k) p = h y k p

  pub none_at_all : (less : ℕ) → length xs ≤ less → HasNoneAfter less → (x : X) → IsIn x xs → P x → ⊥
  none_at_all less le h x k p =
      let z : length xs - less ≡ 0 = omega (arith, le) in
      h x (subst (λ n. IsIn x (drop n xs)) (sym z) k) p

  pub last_is : (less place : ℕ) (x : X) (b : Bool) → less < length xs → place ≡ length xs - 1 - less → x ≡ get_or xs place x
      → (b ≡ true) ↔ P x → b ≡ true → HasNoneAfter less → IsLast P xs x
  last_is less place x b lt e at test so h =
      let same : length xs - (less + 1) ≡ place = omega (arith, lt, e) in
      record {
        front = take place xs;
        rest = drop (length xs - less) xs;
        split = both place xs ∙ ap (λ ys. take place xs ++ ys) (ap (λ n. drop n xs) (sym same) ∙ next_rest less place x lt e at);
        holds = test.0 so;
        last = λ y k p. h y k p;
      }
    where
      both : (n : ℕ) (ys : List X) → ys ≡ take n ys ++ drop n ys
      both zero ys = refl
      both (suc n) [] = refl
      both (suc n) (y ∷ ys) = ap (λ zs. y ∷ zs) (both n ys)

-- ---- what is found at a path

pub node_found : (f : Fragment) (path : Path) (o : Option (Bor Fragment)) (x : Bor Fragment) → option_copied o ≡ node_at f path
    → o ≡ Some x → node_at f path ≡ Some x.now
node_found f path o x h e = sym h ∙ ap option_copied e

pub none_found : (f : Fragment) (path : Path) (o : Option (Bor Fragment)) → option_copied o ≡ node_at f path → o ≡ None
    → node_at f path ≡ None
none_found f path o h e = sym h ∙ ap option_copied e

pub members_found : (known def : Definition) (f : Fragment) (path steps : Path) (o : Option (Bor Fragment)) (x : Bor Fragment)
    (old new : List Member) → known ≡ def → option_copied o ≡ node_at f path → o ≡ Some x → steps ≡ path → old ≡ []
    → new ≡ old ++ fixed_members known steps x.now → new ≡ members_at def path (node_at f path)
members_found known def f path steps o x old new k h e s n m =
    m ∙ ap₂ (λ ms d. ms ++ fixed_members d steps x.now) n k ∙ ap (λ p. fixed_members def p x.now) s
    ∙ ap (members_at def path) (sym (node_found f path o x h e))

pub no_members : (def : Definition) (f : Fragment) (path : Path) (o : Option (Bor Fragment)) (new : List Member)
    → option_copied o ≡ node_at f path → o ≡ None → new ≡ [] → new ≡ members_at def path (node_at f path)
no_members def f path o new h e n = n ∙ ap (members_at def path) (sym (none_found f path o h e))

-- ---- the only fault

pub remove_fault : (f : Fragment) (m : Member) (fault : TreeFault) → HasMember f m → IsRemoveFault f m.list m.number fault
    → fault ≡ faults.Memory
remove_fault f m faults.NoNode has h = absurd (none-some has.list (sym h ∙ has.there))
remove_fault f m faults.NotList has (node, at, never) =
    absurd (never (subst IsList (same_Some has.list node (sym has.there ∙ at)) has.is_list))
remove_fault f m faults.NoPlace has (list, at, is_list, le) =
    let lt = subst (λ (g : Fragment). m.number < length (children_of g)) (same_Some has.list list (sym has.there ∙ at)) has.inside in
    absurd (omega (arith, lt, le))
remove_fault f m faults.Memory has h = refl

pub removed_is : (f : Fragment) (m : Member) (less : Fragment) → IsRemoved f m.list m.number less
    → less ≡ change_at (removed m.number) m.list f
removed_is f m less h = h.made_is

pub insert_fault : (f : Fragment) (path : Path) (place : ℕ) (fault : TreeFault) (list : Fragment) → node_at f path ≡ Some list
    → IsList list → place ≡ length (children_of list) → IsInsertFault f path place fault → fault ≡ faults.Memory
insert_fault f path place faults.NoNode list at is e h = absurd (none-some list (sym h ∙ at))
insert_fault f path place faults.NotList list at is e (node, there, never) =
    absurd (never (subst IsList (same_Some list node (sym at ∙ there)) is))
insert_fault f path place faults.NoPlace list at is e (node, there, is_list, lt) =
    let same : length (children_of list) ≡ length (children_of node) = ap (λ g. length (children_of g)) (same_Some list node (sym at ∙ there)) in
    absurd (omega (arith, same, e, lt))
insert_fault f path place faults.Memory list at is e h = refl

-- ---- a use that nothing declares

abbrev named : Written → Bool → Named
named w b = record { name = w; declares = b }

abbrev number_of_place : Place → ℕ
number_of_place (Node p) = 0
number_of_place (Element p) = 0
number_of_place (End p) = 0
number_of_place (NameOf p k) = k

module _ (def : Definition) (f : Fragment) (region : Path) where
  pub not_used : (own : Named) → own.declares ≡ true → IsUndeclared def f region own → ⊥
  not_used own e h = true≢false (sym e ∙ h.is_used)

  pub declared_there : (own : Named) (b : Bool)
      → (b ≡ true) ↔ ((d : Written) × (declaration_of def f own.name ≡ Some d) × (goes_through region d.path ≡ true))
      → b ≡ true → IsUndeclared def f region own → ⊥
  declared_there own b test e h = let (d, is, through) = test.0 e in h.loose d is through

  pub undeclared : (own : Named) (b : Bool)
      → (b ≡ true) ↔ ((d : Written) × (declaration_of def f own.name ≡ Some d) × (goes_through region d.path ≡ true))
      → own.declares ≡ false → b ≡ false → IsUndeclared def f region own
  undeclared own b test used bad = record {
    is_used = used;
    loose = λ d is through. true≢false (sym (test.1 (d, is, through)) ∙ bad);
  }

  pub other_found : (name d : Written) (found : Option Written) (inside : Bool) → found ≡ declaration_of def f name
      → found ≡ Some d → inside ≡ goes_through region d.path
      → (inside ≡ true) ↔ ((e : Written) × (declaration_of def f name ≡ Some e) × (goes_through region e.path ≡ true))
  other_found name d found inside h e t = (
    (λ yes. (d, sym h ∙ e, sym t ∙ yes)),
    (λ (o, is, through). t ∙ ap (λ w. goes_through region w.path) (same_Some d o (sym e ∙ h ∙ is)) ∙ through),
  )

  pub none_other : (name : Written) (found : Option Written) → found ≡ declaration_of def f name → found ≡ None
      → (false ≡ true) ↔ ((e : Written) × (declaration_of def f name ≡ Some e) × (goes_through region e.path ≡ true))
  none_other name found h e =
      ((λ yes. absurd (true≢false (sym yes))), (λ (o, is, through). absurd (none-some o (sym e ∙ h ∙ is))))

  -- the name of the number of the node at the path
  module _ (path : Path) (k : ℕ) where
    pub outside_use : (b : Bool) → b ≡ goes_through region path → b ≡ false → (w : Written)
        → IsLooseUse def f region (NameOf path k) w → ⊥
    outside_use b h e w taken =
        let same : path ≡ taken.path = ap path_of_place taken.place_is in
        true≢false (sym taken.inside ∙ ap (goes_through region) (sym same) ∙ sym h ∙ e)

    name_of_use : (w : Written) → IsLooseUse def f region (NameOf path k) w
        → nth_name def path k (node_at f path) ≡ Some (record { name = w; declares = false })
    name_of_use w taken =
        let p : path ≡ taken.path = ap path_of_place taken.place_is in
        let n : k ≡ taken.k = ap number_of_place taken.place_is in
        ap₂ (λ q i. nth_name def q i (node_at f q)) p n ∙ taken.is

    pub no_name : (found : Option Named) → found ≡ nth_name def path k (node_at f path) → found ≡ None → (w : Written)
        → IsLooseUse def f region (NameOf path k) w → ⊥
    no_name found h e w taken = none-some (record { name = w; declares = false }) (sym e ∙ h ∙ name_of_use w taken)

    pub not_loose : (found : Option Named) (own : Named) → found ≡ nth_name def path k (node_at f path) → found ≡ Some own
        → (IsUndeclared def f region own → ⊥) → (w : Written) → IsLooseUse def f region (NameOf path k) w → ⊥
    not_loose found own h e never w taken =
        let same : record { name = w; declares = false } ≡ own =
        same_Some (record { name = w; declares = false }) own (sym (name_of_use w taken) ∙ sym h ∙ e) in
        never (subst (IsUndeclared def f region) same (record { is_used = refl; loose = taken.loose }))

    pub loose_is : (found : Option Named) (own : Named) (w : Written) → found ≡ nth_name def path k (node_at f path)
        → found ≡ Some own → goes_through region path ≡ true → (w ≡ own.name) × IsUndeclared def f region own
        → IsLooseUse def f region (NameOf path k) w
    loose_is found own w h e inside (same, is) = record {
      path = path;
      k = k;
      place_is = refl;
      is = sym h ∙ e ∙ ap Some (own_is own.name own.declares is.is_used ∙ ap (λ x. named x false) (sym same));
      inside = inside;
      loose = λ d at. is.loose d (ap (declaration_of def f) (sym same) ∙ at);
    }
      where
        own_is : (x : Written) (b : Bool) → b ≡ false → named x b ≡ named x false
        own_is x b q = ap (named x) q

-- ---- one place of a use

pub not_kept : (def : Definition) (f : Fragment) (kept : List Bool) (region : Path) (number : ℕ) (w : Written)
    → slice_get kept number ≡ Some false → IsLoose def f kept region number w → ⊥
not_kept def f kept region number w lost h = true≢false (same_Some true false (sym h.is_kept ∙ lost))

pub no_use : (def : Definition) (f : Fragment) (kept : List Bool) (region : Path) (number : ℕ) (places : List Place) (place : Place)
    → places ≡ places_of def f → slice_get places number ≡ Some place
    → ((w : Written) → IsLooseUse def f region place w → ⊥) → (w : Written) → IsLoose def f kept region number w → ⊥
no_use def f kept region number places place e at never w h =
    never w (subst (λ (p : Place). IsLooseUse def f region p w)
    (same_Some h.place place (sym h.there ∙ ap (λ ps. slice_get ps number) (sym e) ∙ at)) h.is_use)

pub one_use : (def : Definition) (f : Fragment) (kept : List Bool) (region : Path) (number : ℕ) (places : List Place) (place : Place)
    (w : Written) → places ≡ places_of def f → slice_get places number ≡ Some place → slice_get kept number ≡ Some true
    → IsLooseUse def f region place w → IsLoose def f kept region number w
one_use def f kept region number places place w e at kept_is taken = record {
  place = place;
  there = ap (λ ps. slice_get ps number) (sym e) ∙ at;
  is_kept = kept_is;
  is_use = taken;
}

-- the answers of the first places
take_at : (xs : List Bool) (n i : ℕ) → i < n → slice_get (take n xs) i ≡ slice_get xs i
take_at [] zero i lt = absurd (omega (arith, lt))
take_at [] (suc n) i lt = refl
take_at (x ∷ xs) zero i lt = absurd (omega (arith, lt))
take_at (x ∷ xs) (suc n) zero lt = refl
take_at (x ∷ xs) (suc n) (suc i) lt = take_at xs n i (omega (arith, lt))

pub loose_before : (def : Definition) (f : Fragment) (kept : List Bool) (region : Path) (number n : ℕ) (w : Written) → number < n
    → IsLoose def f (take n kept) region number w ↔ IsLoose def f kept region number w
loose_before def f kept region number n w lt = (
  λ h. record { place = h.place; there = h.there; is_kept = sym (take_at kept n number lt) ∙ h.is_kept; is_use = h.is_use },
  λ h. record { place = h.place; there = h.there; is_kept = take_at kept n number lt ∙ h.is_kept; is_use = h.is_use },
)

-- ---- a name, and a place, by what was found

pub loose_found : (def : Definition) (f : Fragment) (region path : Path) (k : ℕ) (found : Option Named) (own : Named)
    (loose : Option Written) (b : Bool) → found ≡ nth_name def path k (node_at f path) → found ≡ Some own
    → b ≡ goes_through region path → b ≡ true
    → MatchOption loose (IsUndeclared def f region own → ⊥) (λ w. (w ≡ own.name) × IsUndeclared def f region own)
    → MatchOption loose ((w : Written) → IsLooseUse def f region (NameOf path k) w → ⊥) (IsLooseUse def f region (NameOf path k))
loose_found def f region path k found own None b h e g t m = not_loose def f region path k found own h e m
loose_found def f region path k found own (Some w) b h e g t m =
    loose_is def f region path k found own w h e (sym g ∙ t) m

pub loose_place : (def : Definition) (f : Fragment) (kept : List Bool) (region : Path) (number : ℕ) (places : List Place) (place : Place)
    (found : Option Written) → places ≡ places_of def f → slice_get places number ≡ Some place → slice_get kept number ≡ Some true
    → MatchOption found ((w : Written) → IsLooseUse def f region place w → ⊥) (IsLooseUse def f region place)
    → MatchOption found ((w : Written) → IsLoose def f kept region number w → ⊥) (IsLoose def f kept region number)
loose_place def f kept region number places place None e at is m = no_use def f kept region number places place e at m
loose_place def f kept region number places place (Some w) e at is m = one_use def f kept region number places place w e at is m

-- the answers but for one, as they are pushed
pub but_pushed : (kept a b c d : List Bool) (number : ℕ) → a ≡ take number kept → b ≡ a ++ false ∷ [] → c ≡ b ++ take (length kept - (number + 1)) (drop (number + 1) kept)
    → d ≡ c ++ true ∷ [] → d ≡ but_for kept number ++ true ∷ []
but_pushed kept a b c d number p q r s =
    let one : number + 1 ≡ suc number = omega arith in
    s ∙ ap (λ (l : List Bool). l ++ true ∷ []) (r ∙ ap (λ (l : List Bool). b ++ l) (take_rest kept (number + 1)) ∙ ap (λ (l : List Bool). l ++ drop (number + 1) kept) (q ∙ ap (λ (l : List Bool). l ++ false ∷ []) p)
    ∙ append_assoc (take number kept) (false ∷ []) (drop (number + 1) kept)
    ∙ ap (λ (n : ℕ). take number kept ++ false ∷ (drop n kept)) one)

abbrev pub is_name_place : Place → Bool
is_name_place (NameOf p k) = true
is_name_place _ = false

pub no_use_here : (def : Definition) (f : Fragment) (region : Path) (place : Place) → is_name_place place ≡ false
    → (w : Written) → IsLooseUse def f region place w → ⊥
no_use_here def f region place e w h = true≢false (sym (ap is_name_place h.place_is) ∙ e)

-- the place that was looked at
pub use_here : (def : Definition) (f : Fragment) (region : Path) (place same : Place) (found : Option Written) → place ≡ same
    → MatchOption found ((w : Written) → IsLooseUse def f region same w → ⊥) (IsLooseUse def f region same)
    → MatchOption found ((w : Written) → IsLooseUse def f region place w → ⊥) (IsLooseUse def f region place)
use_here def f region place same found e h =
    subst (λ (p : Place). MatchOption found ((w : Written) → IsLooseUse def f region p w → ⊥) (IsLooseUse def f region p)) (sym e) h

-- ---- the last use

module _ (def : Definition) (fresh : ℕ → Word) (f : Fragment) (kept : List Bool) (region : Path) (end : ℕ) where
  -- none of the last so many places is one
  abbrev pub AreNoOthers : ℕ → Type 0
  AreNoOthers less = (number : ℕ) (w : Written) → end - less ≤ number → number < end → IsOther def fresh f kept region number w → ⊥

  pub no_others_first : AreNoOthers 0
  no_others_first number w le lt h = absurd (omega (arith, le, lt))

  pub no_others_more : (less number : ℕ) (found : Option OtherName) → less < end → number ≡ end - 1 - less
      → MatchOption found ((w : Written) → IsOther def fresh f kept region number w → ⊥)
      (λ other. (other.number ≡ number) × IsOther def fresh f kept region number other.name
      × (other.answers.items ≡ but_for kept number ++ true ∷ []))
      → found ≡ None → AreNoOthers less → AreNoOthers (less + 1)
  no_others_more less number found lt at m none h n w le inside is = elim (cases_eq n number) [
    | inl e ↦ (option_none _ _ found none m) w (subst (λ i. IsOther def fresh f kept region i w) e is)
    | inr other ↦ h n w (omega (arith, le, inside, at, lt, other)) inside is
  ]

  pub last_other : (less : ℕ) (other : OtherName) (found : Option OtherName) (number : ℕ) → less < end → number ≡ end - 1 - less
      → MatchOption found ((w : Written) → IsOther def fresh f kept region number w → ⊥)
      (λ other. (other.number ≡ number) × IsOther def fresh f kept region number other.name
      × (other.answers.items ≡ but_for kept number ++ true ∷ []))
      → found ≡ Some other → ((n : ℕ) (w : Written) → IsOther def fresh f kept region n w → n < end) → AreNoOthers less
      → IsLastOther def fresh f kept region other.number other.name × (other.answers.items ≡ but_for kept other.number ++ true ∷ [])
  last_other less other found number lt at m some below_end h =
      let (same, is, answers) = option_some _ _ found other some m in (
        record {
          is = subst (λ i. IsOther def fresh f kept region i other.name) (sym same) is;
          last = λ n v after o.
              let inside = below_end n v o in
              h n v (let s : other.number ≡ number = same in omega (arith, at, lt, after, s)) inside o;
        },
        answers ∙ ap (λ i. but_for kept i ++ true ∷ []) (sym same),
      )

  pub no_others_all : (less : ℕ) → end ≤ less → ((n : ℕ) (w : Written) → IsOther def fresh f kept region n w → n < end)
      → AreNoOthers less → (number : ℕ) (w : Written) → IsOther def fresh f kept region number w → ⊥
  no_others_all less le below_end h number w is =
      let lt = below_end number w is in h number w (omega (arith, le)) lt is

-- a kept place is one of those that have answers
pub other_inside : (def : Definition) (fresh : ℕ → Word) (f : Fragment) (answers : List Bool) (region : Path) (end : ℕ)
    → (n : ℕ) (w : Written) → IsOther def fresh f (take end answers) region n w → n < end
other_inside def fresh f answers region end n w is =
    let lt = slice_get_within (take end answers) n true is.is_loose.is_kept in
    let le = short end answers in omega (arith, lt, le)
  where
    short : (n : ℕ) (xs : List Bool) → length (take n xs) ≤ n
    short zero xs = omega arith
    short (suc n) [] = omega arith
    short (suc n) (x ∷ xs) = let h = short n xs in omega (arith, h)

-- ---- one use that is tried

module _ (def : Definition) (fresh : ℕ → Word) (f : Fragment) (kept : List Bool) (region : Path) (end number : ℕ) (lt : number < end) where
  pub no_loose : ((w : Written) → IsLoose def f kept region number w → ⊥) → (w : Written)
      → IsOther def fresh f (take end kept) region number w → ⊥
  no_loose none w h = none w ((loose_before def f kept region number end w lt).0 h.is_loose)

  pub not_good : (answers : List Bool) (good : Bool) → answers ≡ but_for (take end kept) number ++ true ∷ []
      → (good ≡ true) ↔ IsGoodWith def fresh f answers → good ≡ false → (w : Written)
      → IsOther def fresh f (take end kept) region number w → ⊥
  not_good answers good e test bad w h =
      true≢false (sym (test.1 (subst (IsGoodWith def fresh f) (sym e) h.good)) ∙ bad)

  pub other_is : (name : Written) (answers : List Bool) (good : Bool) → IsLoose def f kept region number name
      → answers ≡ but_for (take end kept) number ++ true ∷ [] → (good ≡ true) ↔ IsGoodWith def fresh f answers → good ≡ true
      → IsOther def fresh f (take end kept) region number name
  other_is name answers good loose e test so = record {
    is_loose = (loose_before def f kept region number end name lt).1 loose;
    good = subst (IsGoodWith def fresh f) e (test.0 so);
  }

-- ---- the answer

pub other_name_is : (def : Definition) (fresh : ℕ → Word) (f : Fragment) (kept : List Bool) (path region : Path) (number : ℕ) (w : Written)
    → declares def (element_phylum def (node_at f path)) ≡ true → region ≡ region_of def f path
    → IsLastOther def fresh f kept region number w → IsOtherName def fresh f kept path number w
other_name_is def fresh f kept path region number w d e h = record {
  declaring = d;
  is_loose = subst (λ q. IsLoose def f kept q number w) e h.is.is_loose;
  good = h.is.good;
  last = λ n v after loose good. h.last n v after
      (record { is_loose = subst (λ q. IsLoose def f kept q n v) (sym e) loose; good = good });
}

pub none_other_name : (def : Definition) (fresh : ℕ → Word) (f : Fragment) (kept : List Bool) (path region : Path)
    → region ≡ region_of def f path → ((number : ℕ) (w : Written) → IsOther def fresh f kept region number w → ⊥)
    → HasNoOtherName def fresh f kept path
none_other_name def fresh f kept path region e none number w h =
    none number w (record { is_loose = subst (λ q. IsLoose def f kept q number w) (sym e) h.is_loose; good = h.good })

pub not_declaring : (def : Definition) (fresh : ℕ → Word) (f : Fragment) (kept : List Bool) (path : Path) (b : Bool)
    → b ≡ declares def (element_phylum def (node_at f path)) → b ≡ false → HasNoOtherName def fresh f kept path
not_declaring def fresh f kept path b e none number w h = true≢false (sym h.declaring ∙ sym e ∙ none)

pub other_told : (def : Definition) (fresh : ℕ → Word) (f : Fragment) (kept : List Bool) (path region : Path) (b : Bool) (found : Option OtherName)
    → b ≡ declares def (element_phylum def (node_at f path)) → b ≡ true → region ≡ region_of def f path
    → MatchOption found ((number : ℕ) (w : Written) → IsOther def fresh f kept region number w → ⊥)
    (λ other. IsLastOther def fresh f kept region other.number other.name × (other.answers.items ≡ but_for kept other.number ++ true ∷ []))
    → MatchOption found (HasNoOtherName def fresh f kept path)
    (λ other. IsOtherName def fresh f kept path other.number other.name × (other.answers.items ≡ but_for kept other.number ++ true ∷ []))
other_told def fresh f kept path region b None d so e h = none_other_name def fresh f kept path region e h
other_told def fresh f kept path region b (Some other) d so e h =
    (other_name_is def fresh f kept path region other.number other.name (sym d ∙ so) e h.0, h.1)

-- the last element less, by the elements and the answers that were looked at
pub without_told : (def : Definition) (fresh : ℕ → Word) (f : Fragment) (kept : List Bool) (path : Path) (members : List Member)
    (answers : List Bool) (found : Option Path) → members ≡ members_at def path (node_at f path) → answers ≡ kept ++ true ∷ []
    → MatchOption found ((m : Member) → IsIn m members → IsGoodWith def fresh (change_at (removed m.number) m.list f) answers → ⊥)
    (λ own. (m : Member) × IsLast (λ (o : Member). IsGoodWith def fresh (change_at (removed o.number) o.list f) answers) members m
    × (own ≡ member_path m))
    → MatchOption found (HasNoWithout def fresh f kept path)
    (λ own. (less : Member) × IsWithout def fresh f kept path less × (own ≡ member_path less))
without_told def fresh f kept path members answers found e a h =
    subst (λ (ks : List Bool). MatchOption found
    ((m : Member) → IsIn m (members_at def path (node_at f path)) → IsGoodWith def fresh (change_at (removed m.number) m.list f) ks → ⊥)
    (λ own. (m : Member) × IsLast (λ (o : Member). IsGoodWith def fresh (change_at (removed o.number) o.list f) ks)
    (members_at def path (node_at f path)) m × (own ≡ member_path m))) a
    (subst (λ (ms : List Member). MatchOption found
    ((m : Member) → IsIn m ms → IsGoodWith def fresh (change_at (removed m.number) m.list f) answers → ⊥)
    (λ own. (m : Member) × IsLast (λ (o : Member). IsGoodWith def fresh (change_at (removed o.number) o.list f) answers) ms m
    × (own ≡ member_path m))) e h)
