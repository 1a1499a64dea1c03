-- Terms at places of their own sorts, while the variables of their line are met.
use Rattle.std.proofs.Common.{◌≡◌, ℕ, ◌<◌, zero, suc, false, IsTrue, is_some, List, [], ◌∷◌, map, length, get_or, slice_get, refl, ap, sym, ◌∙◌, subst, inl, inr, Option, Some, None, arith}
use Rattle.std.specs.List.{AllByRecursion}
use Rattle.std.specs.Option.{option_and_then}
use Rattle.std.proofs.lemmas.Bool.{false≢true}
use Rattle.std.proofs.lemmas.Option.{same_Some}
use Rattle.psg_terms.specs.Names.{Name, has_twice}
use Rattle.psg_terms.specs.Signature.{Signature, Symbol}
use Rattle.psg_terms.specs.Kept.{numbers_of}
use Rattle.psg_terms.specs.declared.sorts.SortId.{SortId}
use Rattle.psg_terms.proofs.Spelled.{one_place}
use Rattle.psg_grammar.specs.declared.types.Kind.{Kind}
use Rattle.psg_grammar.specs.declared.types.Kind.TheVariants as kinds
use Rattle.psg_grammar.specs.declared.types.Item.{Item}
use Rattle.psg_grammar.specs.declared.types.Space.{Space}
use Rattle.psg_grammar.specs.declared.types.Phylum.{Phylum}
use Rattle.psg_grammar.specs.declared.types.ListKind.{ListKind}
use Rattle.psg_grammar.specs.declared.types.Definition.{Definition}
use Rattle.psg_grammar.specs.Sound.{HasKindSort, HasSpaceSort, AreColumns}
use Rattle.psg_terms.proofs.Lists.{each_append, each_at, slice_get-map_some}
use Rattle.psg_deflines.specs.WrittenTerms.{WrittenTerm, variable, named, applied}
use Rattle.psg_deflines.specs.declared.lines.LineItem.{LineItem}
use Rattle.psg_deflines.specs.declared.lines.LineItem.TheVariants as items
use Rattle.psg_deflines.specs.declared.lines.Line.{Line}
use Rattle.psg_defcheck.specs.Scopes.{Place, Constructor, constructor_declared, sort_names, sort_place, phylum_names, list_names, value_place, element_place, entity_place}
use Rattle.psg_defcheck.specs.Meanings.{MayStand, SortsTerm, SortAll, column_places}
use Rattle.psg_defcheck.specs.Checks.{IsKindAt}
use Rattle.psg_defcheck.proofs.SortLaws.{named-sorts}
use Rattle.psg_defnumber.specs.Declaring.{HasConstructors, HasPhyla, HasPhylumSort, HasListSort, HasElementPlace, HasKinds, IsSpaceAt}
use Rattle.psg_defnumber.specs.Naming.{LineVariable}
use Rattle.psg_defnumber.specs.Numbers.{IsItem, AreItems, IsSpaceNamed}
use Rattle.psg_defnumber.specs.Placing.{IsPlaceOf}
use Rattle.psg_defnumber.specs.Sorts.{IsSortOf, AreSortsOf, Agree, ForSomeSorts, StaysSorted, TermStands, TermsStand, HasOneSort, MeetsOne}
use Rattle.psg_defnumber.proofs.PlacingLaws.{kind-at}

-- ---- constructors

-- two sorts of one place are one
one-sort : (file : List Line) → has_twice (sort_names file) ≡ false → (spot : Place) (n : Name) (s sort : ℕ) → IsSortOf file (Some n) s → IsSortOf file spot sort → MayStand spot n → s ≡ sort
one-sort file once None n s sort own place may = absurd place
one-sort file once (Some m) n s sort own place may = one_place (sort_names file) s sort m once (own ∙ ap Some may) place

-- a term at the place of a sort is of this sort, and its arguments are at places of theirs
pub constructor-stands : (file : List Line) (sig : Signature) → HasConstructors file sig → (sorts : Name → Name) (sort : ℕ) (w : WrittenTerm) (n : Name) (args : List WrittenTerm) → applied (named n) args ≡ w
    → IsTrue (is_some (constructor_declared file n)) → (p : ℕ) (s : Symbol) → slice_get sig.symbols p ≡ Some s → s.name ≡ n → TermStands file sorts sort w → (s.sort ≡ sort) × TermsStand file sorts s.arguments args
constructor-stands file sig has sorts sort w n args e known p s at same h = go (constructor_declared file n) refl
  where
    go : (o : Option Constructor) → constructor_declared file n ≡ o → (s.sort ≡ sort) × TermsStand file sorts s.arguments args
    go (Some c) says =
        let both = (named-sorts file sorts h.spot n args c says).1 (subst (SortsTerm file sorts [] h.spot) (sym e) h.sorted) in
        let own = has.sorts n c says p s at same in (
          one-sort file has.once h.spot c.0 s.sort sort own.sort h.place both.0,
          record { spots = map (sort_place file) c.1.args; place = own.arguments; sorted = both.1 },
        )
    go None says = absurd (false≢true (ap is_some (sym says) ∙ known))

-- ---- variables

-- a variable at the place of a sort has this sort where it is known
pub variable-one : (file : List Line) → has_twice (sort_names file) ≡ false → (known : List LineVariable) (sort : ℕ) (w : WrittenTerm) (n : Name) → variable n ≡ w → ForSomeSorts file known (λ sorts. TermStands file sorts sort w)
    → AllByRecursion (HasOneSort n sort) known
variable-one file once known sort w n e (sorts, agree, h) = go known agree
  where
    may : MayStand h.spot (sorts n)
    may = subst (SortsTerm file sorts [] h.spot) (sym e) h.sorted

    go : (known : List LineVariable) → Agree file sorts known → AllByRecursion (HasOneSort n sort) known
    go [] agree = tt
    go (k ∷ known) agree = (λ same. one-sort file once h.spot (sorts n) k.1.0 sort (agree.0 ∙ ap Some (ap sorts same)) h.place may, go known agree.1)

-- and it is known with this sort afterwards
placed : (file : List Line) (spot : Place) (n : Name) (sort : ℕ) → IsSortOf file spot sort → MayStand spot n → IsSortOf file (Some n) sort
placed file None n sort place may = absurd place
placed file (Some m) n sort place may = place ∙ ap Some (sym may)

pub variable-agrees : (file : List Line) (old new : List LineVariable) (sort : ℕ) (w : WrittenTerm) (n : Name) → variable n ≡ w → MeetsOne old new n sort → StaysSorted file old new (λ sorts. TermStands file sorts sort w)
variable-agrees file old new sort w n e (inl same) = λ sorts agree h. subst (Agree file sorts) (sym same) agree
variable-agrees file old new sort w n e (inr (k, is, grown)) = λ sorts agree h.
    let here = placed file h.spot (sorts n) sort h.place (subst (SortsTerm file sorts [] h.spot) (sym e) h.sorted) in
    let own : IsSortOf file (Some (sorts k.0.now)) k.1.0 = ap (slice_get (sort_names file)) is.sorted ∙ here ∙ ap Some (ap sorts (sym is.named)) in
    subst (Agree file sorts) (sym grown) (each_append (λ (x : LineVariable). IsSortOf file (Some (sorts x.0.now)) x.1.0) old (k ∷ []) agree (own, tt))

-- ---- terms one by one

pub terms-count : (file : List Line) (sorts : Name → Name) (all : List SortId) (ws : List WrittenTerm) → TermsStand file sorts (numbers_of all) ws → length all ≡ length ws
terms-count file sorts all ws h = go h.spots all ws h.place h.sorted
  where
    go : (spots : List Place) (all : List SortId) (ws : List WrittenTerm) → AreSortsOf file spots (numbers_of all) → SortAll file sorts spots ws → length all ≡ length ws
    go [] [] [] p q = refl
    go [] [] (w ∷ ws) p q = absurd q
    go [] (s ∷ all) ws p q = absurd p
    go (x ∷ spots) [] ws p q = absurd p
    go (x ∷ spots) (s ∷ all) [] p q = absurd q
    go (x ∷ spots) (s ∷ all) (w ∷ ws) p q = omega (arith, go spots all ws p.1 q.1)

pub term-at : (file : List Line) (sorts : Name → Name) (all : List SortId) (ws : List WrittenTerm) (i : ℕ) (d : SortId) (w : WrittenTerm) → i < length ws → w ≡ get_or ws i w → TermsStand file sorts (numbers_of all) ws
    → TermStands file sorts (get_or all i d).0 w
term-at file sorts all ws i d w lt at h = go h.spots all ws i h.place h.sorted lt at
  where
    go : (spots : List Place) (all : List SortId) (ws : List WrittenTerm) (i : ℕ) → AreSortsOf file spots (numbers_of all) → SortAll file sorts spots ws → i < length ws → w ≡ get_or ws i w → TermStands file sorts (get_or all i d).0 w
    go spots all [] i p q lt at = absurd (omega arith)
    go [] [] (u ∷ ws) i p q lt at = absurd q
    go [] (s ∷ all) (u ∷ ws) i p q lt at = absurd p
    go (x ∷ spots) [] (u ∷ ws) i p q lt at = absurd p
    go (x ∷ spots) (s ∷ all) (u ∷ ws) zero p q lt at = record { spot = x; place = p.0; sorted = subst (SortsTerm file sorts [] x) (sym at) q.0 }
    go (x ∷ spots) (s ∷ all) (u ∷ ws) (suc i) p q lt at = go spots all ws i p.1 q.1 (omega arith) at

-- ---- the sorts of kinds and spaces

pub phylum-value : (file : List Line) (def : Definition) → HasPhyla file def → AllByRecursion (HasPhylumSort file) def.phyla → (n : Name) (p s : ℕ) → slice_get (phylum_names file) p ≡ Some n → HasKindSort def (kinds.Phylum p) s
    → IsSortOf file (value_place file n) s
phylum-value file def phyla sorted n p s at (x, there, e) =
    let named = same_Some x.name n (sym (slice_get-map_some (λ (q : Phylum). q.name) def.phyla p x there) ∙ ap (λ l. slice_get l p) phyla ∙ at) in
    subst (IsSortOf file (value_place file n)) e (subst (λ m. IsSortOf file (value_place file m) x.sort.0) named (each_at (HasPhylumSort file) def.phyla sorted p x there))

pub list-value : (file : List Line) (lists : List ListKind) → map (λ (l : ListKind). l.name) lists ≡ list_names file → AllByRecursion (HasListSort file) lists → (n : Name) (l : ℕ) (x : ListKind) → slice_get (list_names file) l ≡ Some n
    → slice_get lists l ≡ Some x → IsSortOf file (value_place file n) x.sort.0
list-value file lists names sorted n l x at there =
    let named = same_Some x.name n (sym (slice_get-map_some (λ (q : ListKind). q.name) lists l x there) ∙ ap (λ ns. slice_get ns l) names ∙ at) in
    subst (λ m. IsSortOf file (value_place file m) x.sort.0) named (each_at (HasListSort file) lists sorted l x there)

pub element-of : (file : List Line) (lists : List ListKind) → map (λ (l : ListKind). l.name) lists ≡ list_names file → AllByRecursion (HasElementPlace file) lists → (n : Name) (l : ℕ) (x : ListKind) → slice_get (list_names file) l ≡ Some n
    → slice_get lists l ≡ Some x → IsPlaceOf file (element_place file n) (kinds.Phylum x.element)
element-of file lists names places n l x at there =
    let named = same_Some x.name n (sym (slice_get-map_some (λ (q : ListKind). q.name) lists l x there) ∙ ap (λ ns. slice_get ns l) names ∙ at) in
    subst (λ m. IsPlaceOf file (element_place file m) (kinds.Phylum x.element)) named (each_at (HasElementPlace file) lists places l x there)

pub value-at : (file : List Line) (def : Definition) → HasKinds file def → (n : Name) (k : Kind) (s : ℕ) → IsKindAt file n k → HasKindSort def k s → IsSortOf file (value_place file n) s
value-at file def has n (kinds.Phylum p) s at h = phylum-value file def has.phyla has.phylum_sorts n p s at h
value-at file def has n (kinds.List l) s at (x, there, e) = subst (IsSortOf file (value_place file n)) e (list-value file def.lists has.lists has.list_sorts n l x at there)

pub entity-at : (file : List Line) (def : Definition) → HasKinds file def → (n : Name) (p s : ℕ) → IsSpaceAt file n p → HasSpaceSort def p s → IsSortOf file (entity_place file n) s
entity-at file def has n p s at (x, there, e) = subst (IsSortOf file (entity_place file n)) e (has.space_sorts n p x at there)

-- the values of the elements of a list
pub element-value : (file : List Line) (def : Definition) → HasPhyla file def → AllByRecursion (HasPhylumSort file) def.phyla → (spot : Place) (p s : ℕ) → IsPlaceOf file spot (kinds.Phylum p) → HasKindSort def (kinds.Phylum p) s
    → IsSortOf file (option_and_then (value_place file) spot) s
element-value file def phyla sorted None p s at h = absurd at
element-value file def phyla sorted (Some m) p s at h = phylum-value file def phyla sorted m p s at h

-- so terms of a line are at places of these sorts
pub entity-stands : (file : List Line) (def : Definition) → HasKinds file def → (sorts : Name → Name) (n : Name) (p s : ℕ) (w : WrittenTerm) → IsSpaceAt file n p → HasSpaceSort def p s → SortsTerm file sorts [] (entity_place file n) w
    → TermStands file sorts s w
entity-stands file def has sorts n p s w at of_sort h = record { spot = entity_place file n; place = entity-at file def has n p s at of_sort; sorted = h }

pub element-stands : (file : List Line) (def : Definition) → HasKinds file def → (sorts : Name → Name) (spot : Place) (p s : ℕ) (w : WrittenTerm) → IsPlaceOf file spot (kinds.Phylum p) → HasKindSort def (kinds.Phylum p) s
    → SortsTerm file sorts [] (option_and_then (value_place file) spot) w → TermStands file sorts s w
element-stands file def has sorts spot p s w at of_sort h =
    record { spot = option_and_then (value_place file) spot; place = element-value file def has.phyla has.phylum_sorts spot p s at of_sort; sorted = h }

-- ---- the columns of an operator's rows

space-at : (file : List Line) (def : Definition) → HasKinds file def → (n : Name) (p : ℕ) → IsSpaceNamed def n p → IsSpaceAt file n p
space-at file def has [] p h = h
space-at file def has (c ∷ cs) p (x, at, same) = ap (λ l. slice_get l p) (sym has.spaces) ∙ slice_get-map_some (λ (s : Space). s.name) def.spaces p x at ∙ ap Some same

pub columns-placed : (file : List Line) (def : Definition) → HasKinds file def → (shape : List LineItem) (xs : List Item) (columns : List ℕ) → AreItems def shape xs → AreColumns def xs columns → AreSortsOf file (column_places file shape) columns
columns-placed file def has [] xs columns h k = let none = subst (λ l. AreColumns def l columns) h k in subst (AreSortsOf file []) (sym none) tt
columns-placed file def has (w ∷ ws) xs columns (i, rest, e, is, more) k = one w i columns (λ columns k. columns-placed file def has ws rest columns more k) is (subst (λ l. AreColumns def l columns) e k)
  where
    Later : Type 0
    Later = (columns : List ℕ) → AreColumns def rest columns → AreSortsOf file (column_places file ws) columns

    space : (n : Name) (p : ℕ) (columns : List ℕ) → Later → IsSpaceNamed def n p → ((s : ℕ) × (more : List ℕ) × (columns ≡ s ∷ more) × HasSpaceSort def p s × AreColumns def rest more)
        → AreSortsOf file (entity_place file n ∷ column_places file ws) columns
    space n p columns later is (s, more, e, of_sort, k) = subst (AreSortsOf file (entity_place file n ∷ column_places file ws)) (sym e) (entity-at file def has n p s (space-at file def has n p is) of_sort, later more k)

    one : (w : LineItem) (i : Item) (columns : List ℕ) → Later → IsItem def w i → AreColumns def (i ∷ rest) columns → AreSortsOf file (column_places file (w ∷ ws)) columns
    one (items.Slot n) i columns later (kind, is, d) k =
        let (s, more, e, of_sort, k) = subst (λ x. AreColumns def (x ∷ rest) columns) d k in
        subst (AreSortsOf file (value_place file n ∷ column_places file ws)) (sym e) (value-at file def has n kind s (kind-at file def has.phyla has.lists n kind is) of_sort, later more k)
    one (items.Refers n) i columns later (p, is, d) k = space n p columns later is (subst (λ x. AreColumns def (x ∷ rest) columns) d k)
    one (items.Declares n) i columns later (p, is, d) k = space n p columns later is (subst (λ x. AreColumns def (x ∷ rest) columns) d k)
    one (items.Word v) i columns later d k = later columns (subst (λ x. AreColumns def (x ∷ rest) columns) d k)
    one items.Number i columns later d k = later columns (subst (λ x. AreColumns def (x ∷ rest) columns) d k)
    one items.Text i columns later d k = later columns (subst (λ x. AreColumns def (x ∷ rest) columns) d k)
    one items.Space i columns later d k = later columns (subst (λ x. AreColumns def (x ∷ rest) columns) d k)
    one items.Tight i columns later d k = later columns (subst (λ x. AreColumns def (x ∷ rest) columns) d k)
    one items.Line i columns later d k = later columns (subst (λ x. AreColumns def (x ∷ rest) columns) d k)
    one items.In i columns later d k = later columns (subst (λ x. AreColumns def (x ∷ rest) columns) d k)
    one items.Out i columns later d k = later columns (subst (λ x. AreColumns def (x ∷ rest) columns) d k)
