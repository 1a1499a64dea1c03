-- The constructors for which lists have declare rows, in order.
use Rattle.std.proofs.Common.{◌≡◌, ◌≢◌, ◌⊎◌, inl, inr, ℕ, zero, suc, ◌+◌, ◌<◌, ◌≤◌, ◌==◌, ◌&&◌, Bool, true, false, cond, List, [], ◌∷◌, length, take, get_or, Option, Some, None, Contains, slice_get, refl, sym, ap, ap₂, ◌∙◌, subst, arith, eqb-true, eq-eqb, true≢false}
use Rattle.std.specs.Prelude.{◌↔◌, IfSome, Vec}
use Rattle.std.specs.List.{AllByRecursion}
use Rattle.std.proofs.lemmas.Bool.{cases_Bool, cases_lt, and_parts}
use Rattle.std.proofs.lemmas.Option.{slice_get_within, slice_get-get_or}
use Rattle.psg_terms.proofs.Lists.{slice_get_some, slice_get_item, slice_get_once, each_in}
use Rattle.psg_terms.specs.Terms.{Term, symbol, applied}
use Rattle.psg_terms.specs.Marks.{con_numbers}
use Rattle.psg_terms.specs.Relations.{IsIn, first, later}
use Rattle.psg_terms.specs.Signature.{Signature, Symbol, constructors_from, constructors_of}
use Rattle.psg_terms.specs.declared.sorts.ConId.{ConId}
use Rattle.psg_terms.proofs.Nodes.{same_constructor}
use Rattle.psg_grammar.proofs.Increasing.{rising}
use Rattle.std.specs.declared.alloc.Global.{Global}
use Rattle.psg_grammar.specs.declared.types.Kind.{Kind}
use Rattle.psg_grammar.specs.declared.types.Kind.TheVariants as kinds
use Rattle.psg_grammar.specs.declared.types.Space.{Space}
use Rattle.psg_grammar.specs.declared.types.ListKind.{ListKind}
use Rattle.psg_grammar.specs.declared.types.DeclareRow.{DeclareRow}
use Rattle.psg_grammar.specs.declared.types.Definition.{Definition}
use Rattle.psg_grammar.specs.Declaring.{Declares, by_list, is_declaring}
use Rattle.psg_grammar.specs.DeclaringTables.{AreSpacesOf}
use Rattle.psg_completions.specs.Cases.{IsOver}
use Rattle.psg_completions.specs.Elements.{HasDeclareRow, IsDeclarable}
use Rattle.psg_specimen.specs.Given.{AreGiven, FindsCon, given_by, HasCon, same_given, IsDeclarableIn, IsDeclarableOf, IsGiven, IsGivenBy}
use Rattle.psg_specimen.specs.Refusal.{IsFirst, IsFirstOfThree, IsFirstOfTwo}
use Rattle.psg_specimen.specs.Tables.{AreSpaces}
use Rattle.psg_specimen.specs.Walks.{Finds}
use Rattle.psg_specimen.specs.declared.declarable.Given.{Given}
use Rattle.psg_covering.proofs.Firsts.{At}
use Rattle.psg_specimen.proofs.MarkLaws.{take_get, get_take}
use Rattle.psg_specimen.proofs.OverLaws.{constructors_there}

-- ---- what declare rows give

pub givens_same : (a b : Given) → same_given a b ≡ true → a ≡ b
givens_same a b e =
    let both = and_parts ((a.place.list == b.place.list) && (a.place.space == b.place.space)) (a.con == b.con) e in
    let places = and_parts (a.place.list == b.place.list) (a.place.space == b.place.space) both.0 in
    ap₂ (λ p c. record { place = p; con = c }) (ap₂ (λ l s. record { list = l; space = s }) (eqb-true a.place.list b.place.list places.0) (eqb-true a.place.space b.place.space places.1)) (eqb-true a.con b.con both.1)

pub given_itself : (a b : Given) → a ≡ b → same_given a b ≡ true
given_itself a b e =
    ap₂ (λ x y. x && y) (ap₂ (λ x y. x && y) (eq-eqb a.place.list b.place.list (ap (λ (g : Given). g.place.list) e)) (eq-eqb a.place.space b.place.space (ap (λ (g : Given). g.place.space) e)))
    (eq-eqb a.con b.con (ap (λ (g : Given). g.con) e))

-- one more row
pub given_next : (sig : Signature) (old new : Given → Bool) (rows : List DeclareRow) (i : ℕ) (row : DeclareRow) → i < length rows → row ≡ get_or rows i row
    → ((k : Given) → (new k ≡ true) ↔ ((old k ≡ true) ⊎ IsGivenBy sig row k)) → ((k : Given) → (old k ≡ true) ↔ IsGiven sig (take i rows) k) → (k : Given) → (new k ≡ true) ↔ IsGiven sig (take (i + 1) rows) k
given_next sig old new rows i row lt is step h k = (there, back) where
  at : slice_get rows i ≡ Some row
  at = slice_get_item rows i row lt is

  there : new k ≡ true → IsGiven sig (take (i + 1) rows) k
  there e = elim ((step k).0 e) [
    | inl t ↦ (let (r, x, found, of) = (h k).0 t in
        let (less, own) = get_take rows i r x found in (r, x, take_get rows (i + 1) r x (omega (arith, less)) own, of))
    | inr of ↦ (i, row, take_get rows (i + 1) i row (omega arith) at, of)
  ]

  back : IsGiven sig (take (i + 1) rows) k → new k ≡ true
  back (r, x, found, of) =
      let (less, own) = get_take rows (i + 1) r x found in
      (step k).1 (elim (cases_lt r i) [
        | inl below ↦ inl ((h k).1 (r, x, take_get rows i r x below own, of))
        | inr above ↦ (let same : r ≡ i = omega (arith, above, less) in
            inr (subst (λ (d : DeclareRow). IsGivenBy sig d k) (slice_get_once rows i x row (ap (slice_get rows) (sym same) ∙ own) at) of))
      ])

pub given_none : (sig : Signature) (k : Given) → (false ≡ true) ↔ IsGiven sig [] k
given_none sig k = (λ e. absurd (true≢false (sym e)), λ h. absurd (let (r, row, at, of) = h in let f : ◌≡◌ {A = Option DeclareRow} None (Some row) = at in cc))

module _ (sig : Signature) (row : DeclareRow) where
  -- the row gives its own constructor alone
  pub adds_own : (old new : Given → Bool) (c : ℕ) (args : List Term) (g : Given) → row.term ≡ applied (symbol c) args → IsOver sig c row.term
      → ((d made : ℕ) → made ≢ d → row.term ≡ applied (symbol made) args → IsOver sig d row.term → ⊥)
      → g ≡ given_by row.list row.space c → ((j : Given) → new j ≡ cond (same_given g j) true (old j)) → (k : Given) → (new k ≡ true) ↔ ((old k ≡ true) ⊎ IsGivenBy sig row k)
  adds_own old new c args g e over other g_is step k = (
    λ t. elim (cases_Bool (same_given g k)) [
      | inl s ↦ inr (let same : given_by row.list row.space c ≡ k = sym g_is ∙ givens_same g k s in record {
        of_list = ap (λ (x : Given). x.place.list) same;
        of_space = ap (λ (x : Given). x.place.space) same;
        over = subst (λ d. IsOver sig d row.term) (ap (λ (x : Given). x.con) same) over;
      })
      | inr f ↦ inl (sym (step k ∙ ap (λ b. cond b true (old k)) f) ∙ t)
    ],
    λ h. elim h [
      | inl t ↦ step k ∙ ap (λ b. cond (same_given g k) true b) t ∙ always (same_given g k)
      | inr of ↦ step k ∙ ap (λ b. cond b true (old k)) (given_itself g k (g_is ∙ own of))
    ],
  ) where
    always : (b : Bool) → cond b true true ≡ true
    always true = refl
    always false = refl

    one_con : (of : IsGivenBy sig row k) → c ≡ k.con
    one_con of = elim (cases_Bool (c == k.con)) [
      | inl t ↦ eqb-true c k.con t
      | inr f ↦ absurd (other k.con c (λ x. true≢false (sym (eq-eqb c k.con x) ∙ f)) e of.over)
    ]

    own : (of : IsGivenBy sig row k) → given_by row.list row.space c ≡ k
    own of = ap₂ (λ p d. record { place = p; con = d }) (ap₂ (λ l s. record { list = l; space = s }) of.of_list of.of_space) (one_con of)

  -- a row that gives nothing
  pub adds_none : (old : Given → Bool) → ((d : ℕ) → IsOver sig d row.term → ⊥) → (k : Given) → (old k ≡ true) ↔ ((old k ≡ true) ⊎ IsGivenBy sig row k)
  adds_none old none k = (λ t. inl t, λ h. elim h [ inl t ↦ t | inr of ↦ absurd (none k.con of.over) ])

  pub none_other : (made : ℕ) (args : List Term) → row.term ≡ applied (symbol made) args → (IsOver sig made row.term → ⊥) → (d : ℕ) → IsOver sig d row.term → ⊥
  none_other made args e refuted d o = refuted (subst (λ k. IsOver sig k row.term) (sym (same_constructor made d args o.arguments (sym e ∙ o.term_is))) o)

  pub none_large : (made : ℕ) (args : List Term) → row.term ≡ applied (symbol made) args → length sig.symbols ≤ made → (d : ℕ) → IsOver sig d row.term → ⊥
  none_large made args e le d o = absurd (
      let same = same_constructor made d args o.arguments (sym e ∙ o.term_is) in
      let lt = slice_get_within sig.symbols d o.made o.found in
      omega (arith, same, lt, le))

-- ---- the constructors of a sort rise

abbrev pub Rising : List ℕ → Type 0
Rising [] = Unit {0}
Rising (x ∷ xs) = AllByRecursion (λ y. x < y) xs × Rising xs

weaken : (n : ℕ) (xs : List ℕ) → AllByRecursion (λ c. n + 1 ≤ c) xs → AllByRecursion (λ c. n ≤ c) xs
weaken n [] h = tt
weaken n (x ∷ xs) h = (let k = h.0 in omega (arith, k), weaken n xs h.1)

above : (n : ℕ) (xs : List ℕ) → AllByRecursion (λ c. n + 1 ≤ c) xs → AllByRecursion (λ c. n < c) xs
above n [] h = tt
above n (x ∷ xs) h = (let k = h.0 in omega (arith, k), above n xs h.1)

rising_step : (b : Bool) (n : ℕ) (xs : List ℕ) → AllByRecursion (λ c. n + 1 ≤ c) xs → Rising xs → AllByRecursion (λ c. n ≤ c) (cond b (n ∷ xs) xs) × Rising (cond b (n ∷ xs) xs)
rising_step true n xs h r = ((omega arith, weaken n xs h), (above n xs h, r))
rising_step false n xs h r = (weaken n xs h, r)

rising_from : (n s : ℕ) (symbols : List Symbol) → AllByRecursion (λ c. n ≤ c) (constructors_from n s symbols) × Rising (constructors_from n s symbols)
rising_from n s [] = (tt, tt)
rising_from n s (x ∷ symbols) = let rest = rising_from (n + 1) s symbols in rising_step (x.sort == s) n (constructors_from (n + 1) s symbols) rest.0 rest.1

pub constructors_rise : (sig : Signature) (s : ℕ) → Rising (constructors_of sig s)
constructors_rise sig s = (rising_from 0 s sig.symbols).1

-- a number of the list is at a place, before the place of a greater one
pub con_place : (cs : List ConId) (d : ℕ) → IsIn d (con_numbers cs) → (j : ℕ) × (k : ConId) × (slice_get cs j ≡ Some k) × (k.0 ≡ d)
con_place [] d p = elim p [ ]
con_place (x ∷ cs) d first = (0, x, refl, refl)
con_place (x ∷ cs) d (later p) = let (j, k, at, is) = con_place cs d p in (suc j, k, at, is)

pub con_before : (cs : List ConId) (i : ℕ) (c : ConId) (d : ℕ) → Rising (con_numbers cs) → slice_get cs i ≡ Some c → d < c.0 → IsIn d (con_numbers cs) → (j : ℕ) × (k : ConId) × (j < i) × (slice_get cs j ≡ Some k) × (k.0 ≡ d)
con_before [] i c d r at lt p = absurd (let f : ◌≡◌ {A = Option ConId} None (Some c) = at in cc)
con_before (x ∷ cs) zero c d r at lt first = absurd (
    let same : x ≡ c = (let f : ◌≡◌ {A = Option ConId} (Some x) (Some c) = at in cc) in
    let e : x.0 ≡ c.0 = ap (λ (k : ConId). k.0) same in omega (arith, lt, e))
con_before (x ∷ cs) zero c d r at lt (later p) = absurd (
    let same : x ≡ c = (let f : ◌≡◌ {A = Option ConId} (Some x) (Some c) = at in cc) in
    let e : x.0 ≡ c.0 = ap (λ (k : ConId). k.0) same in
    let more : x.0 < d = each_in (λ y. x.0 < y) d (con_numbers cs) r.0 p in omega (arith, lt, e, more))
con_before (x ∷ cs) (suc i) c d r at lt first = (0, x, omega arith, refl, refl)
con_before (x ∷ cs) (suc i) c d r at lt (later p) = let (j, k, less, there, is) = con_before cs i c d r.1 at lt p in (suc j, k, omega (arith, less), there, is)

-- ---- a space

module _ (def : Definition) (has : Given → Bool) (given : AreGiven def has) (l s : ℕ) where
  row_of : (c : ℕ) (g : Given) → g ≡ given_by l s c → has g ≡ true → HasDeclareRow def l s c
  row_of c g e t = let (r, row, at, of) = (given g).0 t in record {
    number = r;
    row = row;
    chosen = at;
    of_list = of.of_list ∙ ap (λ (x : Given). x.place.list) e;
    of_space = of.of_space ∙ ap (λ (x : Given). x.place.space) e;
    over = subst (λ d. IsOver def.signature d row.term) (ap (λ (x : Given). x.con) e) of.over;
  }

  of_row : (c : ℕ) (g : Given) → g ≡ given_by l s c → HasDeclareRow def l s c → has g ≡ true
  of_row c g e row = (given g).1 (
    row.number,
    row.row,
    row.chosen,
    record {
      of_list = row.of_list ∙ sym (ap (λ (x : Given). x.place.list) e);
      of_space = row.of_space ∙ sym (ap (λ (x : Given). x.place.space) e);
      over = subst (λ d. IsOver def.signature d row.row.term) (sym (ap (λ (x : Given). x.con) e)) row.over;
    },
  )

  module _ (space : Space) (at : slice_get def.spaces s ≡ Some space) (cs : List ConId) (all : con_numbers cs ≡ constructors_of def.signature space.sort.0) where
    own_space : (other : Space) → slice_get def.spaces s ≡ Some other → other ≡ space
    own_space other there = slice_get_once def.spaces s other space there at

    member : (c : ℕ) (other : Space) → slice_get def.spaces s ≡ Some other → IsIn c (constructors_of def.signature other.sort.0) → IsIn c (con_numbers cs)
    member c other there p = subst (IsIn c) (sym all) (subst (λ (x : Space). IsIn c (constructors_of def.signature x.sort.0)) (own_space other there) p)

    con_in : (ds : List ConId) (i : ℕ) (c : ConId) → slice_get ds i ≡ Some c → IsIn c.0 (con_numbers ds)
    con_in [] i c e = absurd (let f : ◌≡◌ {A = Option ConId} None (Some c) = e in cc)
    con_in (x ∷ ds) zero c e = let same : x ≡ c = (let f : ◌≡◌ {A = Option ConId} (Some x) (Some c) = e in cc) in subst (λ (k : ConId). IsIn k.0 (x.0 ∷ con_numbers ds)) same first
    con_in (x ∷ ds) (suc i) c e = later (con_in ds i c e)

    pub space_first : (d : ℕ) → FindsCon has l s cs (Some d) → IsFirst (IsDeclarableIn def l s) d
    space_first d (i, c, there, is, missing, before) = subst (IsFirst (IsDeclarableIn def l s)) is (
      λ h. missing (of_row c.0 (given_by l s c.0) refl (h space at (subst (IsIn c.0) all (con_in cs i c there)))),
      λ e less other found p.
          let (j, k, below, own, same) = con_before cs i c e (subst Rising (sym all) (constructors_rise def.signature space.sort.0)) there less (member e other found p) in
          subst (HasDeclareRow def l s) same (row_of k.0 (given_by l s k.0) refl (before j below k own)),
    )

    pub space_none : FindsCon has l s cs None → (c : ℕ) → IsDeclarableIn def l s c
    space_none held c other there p =
        let (j, k, found, same) = con_place cs c (member c other there p) in
        subst (HasDeclareRow def l s) same (row_of k.0 (given_by l s k.0) refl (held j k found))

    pub space_found : (o : Option ℕ) → FindsCon has l s cs o → Finds (IsDeclarableIn def l s) o
    space_found None f = space_none f
    space_found (Some d) f = space_first d f

  pub no_space : slice_get def.spaces s ≡ None → (c : ℕ) → IsDeclarableIn def l s c
  no_space none c space at p = absurd (let f : ◌≡◌ {A = Option Space} None (Some space) = sym none ∙ at in cc)

-- ---- the spaces of a list

module _ (def : Definition) (l : ℕ) (list : ListKind) (spaces : List ℕ) (own : AreSpaces def l spaces) where
  space_place : (s : ℕ) → Contains spaces s → (j : ℕ) × (slice_get spaces j ≡ Some s)
  space_place s (k, lt, e) = (k, slice_get-get_or spaces k s lt ∙ ap Some e)

  value : (i x : ℕ) → slice_get spaces i ≡ Some x → x ≡ get_or spaces i 0
  value i x at = slice_get_once spaces i x (get_or spaces i 0) at (slice_get-get_or spaces i 0 (slice_get_within spaces i x at))

  earlier : (i x j y : ℕ) → slice_get spaces i ≡ Some x → slice_get spaces j ≡ Some y → y < x → j < i
  earlier i x j y at there lt = elim (cases_lt j i) [
    | inl less ↦ less
    | inr le ↦ absurd (
        let up = rising spaces own.increasing i j (omega (arith, le)) (slice_get_within spaces j y there) in
        let e = value i x at in
        let f = value j y there in omega (arith, up, e, f, lt))
  ]

  abbrev pub AllIn : ℕ → Type 0
  AllIn s = (c : ℕ) → IsDeclarableIn def l s c

  pub list_first : (i s c : ℕ) → list.unfinished ≡ true → i < length spaces → s ≡ get_or spaces i s → IsFirst (IsDeclarableIn def l s) c → ((m : ℕ) → m < i → At spaces AllIn m) → IsFirstOfTwo (IsDeclarableOf def l list) s c
  list_first i s c unfinished lt is found before =
      let at = slice_get_item spaces i s lt is in (
        λ h. found.0 (h unfinished ((own.exact s).0 (i, lt, sym is))),
        λ t d b. elim b [
          | inl less ↦ (λ u declares. let (j, there) = space_place t ((own.exact t).1 declares) in before j (earlier i s j t at there less) t there d)
          | inr eq ↦ (λ u declares. subst (λ k. IsDeclarableIn def l k d) (sym eq.0) (found.1 d eq.1))
        ],
      )

  pub list_none : ((m : ℕ) → m < length spaces → At spaces AllIn m) → (s c : ℕ) → IsDeclarableOf def l list s c
  list_none before s c u declares = let (j, there) = space_place s ((own.exact s).1 declares) in before j (slice_get_within spaces j s there) s there c

pub finished : (def : Definition) (l : ℕ) (list : ListKind) → list.unfinished ≡ false → (s c : ℕ) → IsDeclarableOf def l list s c
finished def l list f s c u = absurd (true≢false (sym u ∙ f))

-- ---- the lists

of_element : (def : Definition) (l s : ℕ) (list : ListKind) → slice_get def.lists l ≡ Some list → Declares def s (kinds.List l) → Declares def s (kinds.Phylum list.element)
of_element def l s list at (by_list kind found d) = subst (λ (k : ListKind). Declares def s (kinds.Phylum k.element)) (slice_get_once def.lists l kind list found at) d

pub list_spaces : (def : Definition) (l : ℕ) (list : ListKind) (spaces : List ℕ) → slice_get def.lists l ≡ Some list → AreSpacesOf def list.element spaces
    → ((space : ℕ) (kind : Kind) → (is_declaring def space kind ≡ true) ↔ Declares def space kind) → AreSpaces def l spaces
list_spaces def l list spaces at own search = record {
  increasing = own.increasing;
  exact = λ s. (
    λ c. (search s (kinds.List l)).1 (by_list list at ((own.exact s).0 c)),
    λ d. (own.exact s).1 (of_element def l s list at ((search s (kinds.List l)).0 d)),
  );
}

-- each space and constructor of the list at a place
abbrev pub AllOf : Definition → List ListKind → ℕ → Type 0
AllOf def lists l = (list : ListKind) → slice_get lists l ≡ Some list → (s c : ℕ) → IsDeclarableOf def l list s c

-- the spaces that the table has for the list's elements
pub table_spaces : (def : Definition) (l : ℕ) (list : ListKind) (table : List (Vec ℕ Global)) (spaces : List ℕ) → slice_get def.lists l ≡ Some list → list.element < length table
    → ((p : ℕ) → IfSome (slice_get table p) (λ v. AreSpacesOf def p v.items)) → ((v : Vec ℕ Global) → slice_get table list.element ≡ Some v → spaces ≡ v.items)
    → ((space : ℕ) (kind : Kind) → (is_declaring def space kind ≡ true) ↔ Declares def space kind) → AreSpaces def l spaces
table_spaces def l list table spaces at lt exact is search =
    let (v, there) = slice_get_some table list.element lt in
    list_spaces def l list spaces at (subst (AreSpacesOf def list.element) (sym (is v there)) (subst (λ o. IfSome o (λ x. AreSpacesOf def list.element x.items)) there (exact list.element))) search

module _ (def : Definition) (lists : List ListKind) (own : lists ≡ def.lists) where
  to_declarable : (l s c : ℕ) → AllOf def lists l → IsDeclarable def l s c
  to_declarable l s c h list at u d space there p = h list (ap (λ x. slice_get x l) own ∙ at) s c u d space there p

  pub lists_next : (i : ℕ) (list : ListKind) → i < length lists → list ≡ get_or lists i list → ((s c : ℕ) → IsDeclarableOf def i list s c) → AllOf def lists i
  lists_next i list lt is h other at = subst (λ (k : ListKind). (s c : ℕ) → IsDeclarableOf def i k s c) (slice_get_once lists i list other (slice_get_item lists i list lt is) at) h

  pub lists_first : (i s c : ℕ) (list : ListKind) → i < length lists → list ≡ get_or lists i list → IsFirstOfTwo (IsDeclarableOf def i list) s c → ((m : ℕ) → m < i → AllOf def lists m) → IsFirstOfThree (IsDeclarable def) i s c
  lists_first i s c list lt is found before = (
    λ h. found.0 (λ u d space there p. h list (ap (λ x. slice_get x i) (sym own) ∙ slice_get_item lists i list lt is) u d space there p),
    λ m t d b. elim b [
      | inl less ↦ to_declarable m t d (before m less)
      | inr eq ↦ (λ other at u declares space there p.
          let same = slice_get_once lists i list other (slice_get_item lists i list lt is) (ap (slice_get lists) (sym eq.0) ∙ ap (λ x. slice_get x m) own ∙ at) in
          subst (λ k. HasDeclareRow def k t d) (sym eq.0)
          (found.1 t d eq.1 (ap (λ (k : ListKind). k.unfinished) same ∙ u) (subst (λ k. is_declaring def t (kinds.List k) ≡ true) eq.0 declares) space there p))
    ],
  )

  pub lists_none : ((m : ℕ) → m < length lists → AllOf def lists m) → (l s c : ℕ) → IsDeclarable def l s c
  lists_none before l s c list at = to_declarable l s c (before l (slice_get_within lists l list (ap (λ x. slice_get x l) own ∙ at))) list at

-- ---- what is missing is there

module _ (def : Definition) (l s c : ℕ) (fails : IsDeclarable def l s c → ⊥) where
  pub list_in : l < length def.lists
  list_in = elim (cases_lt l (length def.lists)) [
    | inl lt ↦ lt
    | inr le ↦ absurd (fails (λ list at. absurd (let lt = slice_get_within def.lists l list at in omega (arith, le, lt))))
  ]

  pub space_in : s < length def.spaces
  space_in = elim (cases_lt s (length def.spaces)) [
    | inl lt ↦ lt
    | inr le ↦ absurd (fails (λ list at u d space there. absurd (let lt = slice_get_within def.spaces s space there in omega (arith, le, lt))))
  ]

  pub con_in_range : c < length def.signature.symbols
  con_in_range = elim (cases_lt c (length def.signature.symbols)) [
    | inl lt ↦ lt
    | inr le ↦ absurd (fails (λ list at u d space there p. absurd (
        let lt : c < length def.signature.symbols = each_in (λ k. k < length def.signature.symbols) c (constructors_of def.signature space.sort.0) (constructors_there def.signature space.sort.0) p in omega (arith, le, lt))))
  ]

-- the first constructor that is missing
pub missing_at : (has : Given → Bool) (l s : ℕ) (cs : List ConId) (i : ℕ) (c : ConId) → i < length cs → c ≡ get_or cs i c → (HasCon has l s c → ⊥)
    → ((m : ℕ) → m < i → At cs (HasCon has l s) m) → FindsCon has l s cs (Some c.0)
missing_at has l s cs i c lt is missing before = (i, c, slice_get_item cs i c lt is, refl, missing, before)
