-- A written specimen is of one form, whatever list of names numbers the variables of its hole places.
use Rattle.std.proofs.Common.{◌≡◌, ℕ, List, [], ◌∷◌, ◌++◌, map, refl, ap, sym, ◌∙◌, subst, Option, Some, None, slice_get}
use mathlib.Core.Former.{Count, one_more, none_left, arity, list as several, this}
use Rattle.psg_terms.specs.Names.{Name}
use Rattle.psg_terms.specs.Terms.{Term}
use Rattle.psg_terms.specs.Canonical.{Variable, variables, variables_of}
use Rattle.psg_terms.proofs.Unique.{Each, each-front}
use Rattle.psg_terms.proofs.RenamingLaws.{IsAmong}
use Rattle.psg_grammar.specs.declared.types.Kind.{Kind}
use Rattle.psg_grammar.specs.declared.types.Kind.TheVariants as kinds
use Rattle.psg_grammar.specs.declared.types.Item.{Item}
use Rattle.psg_grammar.specs.declared.types.Item.TheVariants as made
use Rattle.psg_grammar.specs.declared.types.ListKind.{ListKind}
use Rattle.psg_grammar.specs.declared.types.Operator.{Operator}
use Rattle.psg_grammar.specs.declared.types.SpecimenHole.{SpecimenHole}
use Rattle.psg_grammar.specs.declared.types.SpecimenPart.{SpecimenPart, Sub, Name as NamePart, Number, Text}
use Rattle.psg_grammar.specs.declared.types.Specimen.{Specimen, Op', List', Hole, Row_of-Specimen, end_of-Specimen, more_of-Specimen, Row_of-SpecimenPart, end_of-SpecimenPart, more_of-SpecimenPart}
use Rattle.psg_grammar.specs.declared.types.Definition.{Definition}
use Rattle.psg_grammar.specs.Lookups.{part_items}
use Rattle.psg_grammar.specs.Sound.{HasKindSort}
use Rattle.psg_grammar.specs.Specimens.{holes_of, holes_of_part, holes_of_row, holes_of_list}
use Rattle.psg_lexis.specs.Tokens.{value_of}
use Rattle.psg_deflines.specs.WrittenTerms.{WrittenTerm}
use Rattle.psg_deflines.specs.WrittenTrees.{WrittenTree, operator, with_tree, with_name, with_number, with_text, list_end, list_rest, element, place}
use Rattle.psg_defnumber.specs.Numbers.{IsTerm, AreTerms, IsKind, IsSpaceNamed, IsOperatorNamed, IsPlace, IsTree, IsPart, AreParts, IsListFrom}
use Rattle.psg_defnumber.proofs.OnceTerms.{AreAlike, RowsAlike}

-- what two definitions of one file have in common before their rows are known
pub record Agree (x y : Definition) : Type 0 where
  pub kind : (n : Name) (k l : Kind) → IsKind x n k → IsKind y n l → k ≡ l
  pub space : (n : Name) (p q : ℕ) → IsSpaceNamed x n p → IsSpaceNamed y n q → p ≡ q
  pub sort : (k : Kind) (s r : ℕ) → HasKindSort x k s → HasKindSort y k r → s ≡ r
  pub operator : (n : Name) (o p : ℕ) (f g : Operator) → IsOperatorNamed x n o f → IsOperatorNamed y n p g
      → (o ≡ p) × (f.items ≡ g.items)
  pub element : (l : ℕ) (f g : ListKind) → slice_get x.lists l ≡ Some f → slice_get y.lists l ≡ Some g
      → f.element ≡ g.element
  pub columns : (a b : List Name) (sorts : List ℕ) (ws : List WrittenTerm) (ts us : List Term)
      → AreTerms x.signature a sorts ws ts → AreTerms y.signature b sorts ws us → RowsAlike a b ts us
  pub term : (a b : List Name) (w : WrittenTerm) (s : ℕ) (t u : Term) → IsTerm x.signature a [] s w t
      → IsTerm y.signature b [] s w u → AreAlike a b t u

abbrev term_of : SpecimenHole → Term
term_of h = h.term

abbrev HolesAlike : List Name → List Name → List SpecimenHole → List SpecimenHole → Type 0
HolesAlike a b xs ys = RowsAlike a b (map term_of xs) (map term_of ys)

holes-append : (a b : List Name) (xs ys more rest : List SpecimenHole) → HolesAlike a b xs ys
    → HolesAlike a b more rest → HolesAlike a b (xs ++ more) (ys ++ rest)
holes-append a b [] [] more rest h k = k
holes-append a b [] (y ∷ ys) more rest h k = absurd h
holes-append a b (x ∷ xs) [] more rest h k = absurd h
holes-append a b (x ∷ xs) (y ∷ ys) more rest (p, h) k = (p, holes-append a b xs ys more rest h k)

-- the variables of the hole places are known ones
abbrev pub AreKnown : List Variable → List SpecimenHole → Type 0
AreKnown known [] = Unit {0}
AreKnown known (h ∷ hs) = Each (IsAmong known) (variables h.term) × AreKnown known hs

known-front : (known : List Variable) (xs ys : List SpecimenHole) → AreKnown known (xs ++ ys)
    → AreKnown known xs × AreKnown known ys
known-front known [] ys h = (tt, h)
known-front known (x ∷ xs) ys (p, h) = let both = known-front known xs ys h in ((p, both.0), both.1)

pub known-holes : (known : List Variable) (hs : List SpecimenHole) → Each (IsAmong known) (variables_of (map (λ
    (h : SpecimenHole). h.term) hs)) → AreKnown known hs
known-holes known [] e = tt
known-holes known (h ∷ hs) e =
    let both = each-front (IsAmong known) (variables h.term) (variables_of (map term_of hs)) e in
    (both.0, known-holes known hs both.1)

-- terms of known variables that differ in their numbers alone are the same
abbrev pub Fixes : List Name → List Name → List Variable → Type 0
Fixes a b known = (t u : Term) → AreAlike a b t u → Each (IsAmong known) (variables t) → t ≡ u

-- the operator at the top
abbrev root : WrittenTree → List ℕ
root (operator n) = n
root (with_tree f t) = root f
root (with_name f n) = root f
root (with_number f d) = root f
root (with_text f t) = root f
root _ = []

-- whether an operator, a list or a hole place is at the top
abbrev class : WrittenTree → ℕ
class (operator n) = 0
class (with_tree f t) = 0
class (with_name f n) = 0
class (with_number f d) = 0
class (with_text f t) = 0
class list_end = 1
class (list_rest l t) = 1
class (element e r) = 1
class (place k t) = 2

abbrev Continues : WrittenTree → WrittenTree → Type 0
Continues front w = (root w ≡ root front) × (class w ≡ 0)

pub hole-equal : (h k : SpecimenHole) → h.kind ≡ k.kind → h.term ≡ k.term → h ≡ k
hole-equal h k e f = λ i. record { kind = e i; term = f i }

part-root : (d : Definition) (c : List Name) (i : Item) (p : SpecimenPart) (front w : WrittenTree)
    → IsPart d c i p front w → Continues front w
part-root d c (made.Slot k) (Sub s) front w (t, h, e) = subst (Continues front) (sym e) (refl, refl)
part-root d c (made.Refers n) (NamePart v) front w e = subst (Continues front) (sym e) (refl, refl)
part-root d c (made.Declares n) (NamePart v) front w e = subst (Continues front) (sym e) (refl, refl)
part-root d c made.Number (Number v) front w (t, h, e) = subst (Continues front) (sym e) (refl, refl)
part-root d c made.Text (Text t) front w e = subst (Continues front) (sym e) (refl, refl)
part-root d c i p front w h = absurd h

parts-root : (d : Definition) (c : List Name) {m : _} (is : List Item) (ps : Row_of-SpecimenPart m)
    (front w : WrittenTree) → class front ≡ 0 → AreParts d c is ps front w → Continues front w
parts-root d c [] end_of-SpecimenPart front w f e = subst (Continues front) (sym e) (refl, f)
parts-root d c [] (more_of-SpecimenPart p ps) front w f h = absurd h
parts-root d c (i ∷ is) end_of-SpecimenPart front w f h = absurd h
parts-root d c (i ∷ is) (more_of-SpecimenPart p ps) front w f (next, hp, hr) =
    let here = part-root d c i p front next hp in
    let rest = parts-root d c is ps next w here.1 hr in
    (rest.0 ∙ here.0, rest.1)

list-class : (d : Definition) (c : List Name) (l : ℕ) {m : _} (ps : Row_of-Specimen m)
    (end : Option SpecimenHole) (w : WrittenTree) → IsListFrom d c l ps end w → class w ≡ 1
list-class d c l end_of-Specimen None w e = ap class e
list-class d c l end_of-Specimen (Some h) w (n, t, k, p, e) = ap class e
list-class d c l (more_of-Specimen s ps) end w (list, e, r, at, hs, hr, f) = ap class f

-- a row with its shape, which the row alone determines
abbrev Shape : Type 0
Shape = List (Unit {0})

abbrev count : Shape → Count
count m = arity (several this) m

abbrev parts-shaped : {k : Count} → Row_of-SpecimenPart k → (m : Shape) × Row_of-SpecimenPart (count m)
parts-shaped end_of-SpecimenPart = ([], end_of-SpecimenPart)
parts-shaped (more_of-SpecimenPart p ps) = let r = parts-shaped ps in (tt ∷ r.0, more_of-SpecimenPart p r.1)

parts-shape : (m : Shape) (ps : Row_of-SpecimenPart (count m)) → parts-shaped ps ≡ (m, ps)
parts-shape [] end_of-SpecimenPart = refl
parts-shape (t ∷ m) (more_of-SpecimenPart p ps) = ap (λ (r : (m : Shape) × Row_of-SpecimenPart (count m)).
    (tt ∷ r.0, more_of-SpecimenPart p r.1)) (parts-shape m ps)

abbrev elements-shaped : {k : Count} → Row_of-Specimen k → (m : Shape) × Row_of-Specimen (count m)
elements-shaped end_of-Specimen = ([], end_of-Specimen)
elements-shaped (more_of-Specimen p ps) = let r = elements-shaped ps in (tt ∷ r.0, more_of-Specimen p r.1)

elements-shape : (m : Shape) (ps : Row_of-Specimen (count m)) → elements-shaped ps ≡ (m, ps)
elements-shape [] end_of-Specimen = refl
elements-shape (t ∷ m) (more_of-Specimen p ps) = ap (λ (r : (m : Shape) × Row_of-Specimen (count m)).
    (tt ∷ r.0, more_of-Specimen p r.1)) (elements-shape m ps)

abbrev operator_of : ℕ → (m : Shape) × Row_of-SpecimenPart (count m) → Specimen
operator_of o r = Op' o r.0 r.1

abbrev list_of : ℕ → Option SpecimenHole → (m : Shape) × Row_of-Specimen (count m) → Specimen
list_of l e r = List' l r.0 r.1 e

module _ (x y : Definition) (agree : Agree x y) (a b : List Name) where
  pub record Same (s r : Specimen) : Type 0 where
    pub alike : HolesAlike a b (holes_of s) (holes_of r)
    pub same : (known : List Variable) → Fixes a b known → AreKnown known (holes_of s) → s ≡ r

  record SamePart (p q : SpecimenPart) : Type 0 where
    alike : HolesAlike a b (holes_of_part p) (holes_of_part q)
    same : (known : List Variable) → Fixes a b known → AreKnown known (holes_of_part p) → p ≡ q

  record SameRow {m n : _} (p : Row_of-SpecimenPart m) (q : Row_of-SpecimenPart n) : Type 0 where
    alike : HolesAlike a b (holes_of_row p) (holes_of_row q)
    same : (known : List Variable) → Fixes a b known → AreKnown known (holes_of_row p) → (F : (k : _)
        → Row_of-SpecimenPart k → Specimen) → F m p ≡ F n q

  record SameList {m n : _} (p : Row_of-Specimen m) (e : Option SpecimenHole) (q : Row_of-Specimen n)
      (f : Option SpecimenHole) : Type 0 where
    alike : HolesAlike a b (holes_of_list p e) (holes_of_list q f)
    same : (known : List Variable) → Fixes a b known → AreKnown known (holes_of_list p e) → (F : (k : _)
        → Row_of-Specimen k → Option SpecimenHole → Specimen) → F m p e ≡ F n q f

  place-same : (n : Name) (t : WrittenTerm) (h g : SpecimenHole) → IsPlace x a n t h → IsPlace y b n t g
      → (h.kind ≡ g.kind) × AreAlike a b h.term g.term
  place-same n t h g p q =
      let kind = agree.kind n h.kind g.kind p.of_kind q.of_kind in
      let sort = agree.sort g.kind p.sort q.sort (subst (λ k. HasKindSort x k p.sort) kind p.kind_sort) q.kind_sort in (
        kind,
        agree.term a b t q.sort h.term g.term (subst
            (λ s. IsTerm x.signature a [] s t h.term) sort p.of_term) q.of_term,
      )

  mutual
    pub tree-same : (k : Kind) (s r : Specimen) (w : WrittenTree) → IsTree x a k s w → IsTree y b k r w → Same s r
    tree-same k (Op' o m ps) (Op' p n qs) w (c, f, at, kind, hp) (d, g, at', kind', hq) =
        let names : c ≡ d = sym (parts-root x a (part_items f.items) ps (operator c) w refl hp).0
        ∙ (parts-root y b (part_items g.items) qs (operator d) w refl hq).0 in
        let ops = agree.operator d o p f g (at.0, at.1 ∙ names) at' in
        let row = row-same (part_items g.items) ps qs (operator c) (operator d) w (subst (λ is. AreParts x a
        (part_items is) ps (operator c) w) ops.1 hp) hq in
        record {
          alike = row.1.alike;
          same = λ known fix h. ap (λ z. Op' z m ps) ops.0 ∙ ap (operator_of p) (sym (parts-shape m ps))
              ∙ row.1.same known fix h (λ z rs. operator_of p (parts-shaped rs)) ∙ ap (operator_of p)
              (parts-shape n qs);
        }
    tree-same k (Op' o m ps) (List' l n qs end) w (c, f, at, kind, hp) (kind', hq) =
        let one = (parts-root x a (part_items f.items) ps (operator c) w refl hp).1 in
        let other = list-class y b l qs end w hq in
        absurd (cc)
    tree-same k (Op' o m ps) (Hole g) w (c, f, at, kind, hp) (n, t, kind', hq, e) =
        let one = (parts-root x a (part_items f.items) ps (operator c) w refl hp).1 in
        let other : class w ≡ 2 = ap class e in
        absurd (cc)
    tree-same k (List' l m ps end) (Op' p n qs) w (kind, hp) (d, g, at', kind', hq) =
        let one = (parts-root y b (part_items g.items) qs (operator d) w refl hq).1 in
        let other = list-class x a l ps end w hp in
        absurd (cc)
    tree-same k (List' l m ps end) (List' r n qs other) w (kind, hp) (kind', hq) =
        let same : l ≡ r = cc in
        let list = list-same r ps end qs other w (subst (λ z. IsListFrom x a z ps end w) same hp) hq in
        record {
          alike = list.alike;
          same = λ known fix h. ap (λ z. List' z m ps end) same ∙ ap (list_of r end) (sym (elements-shape m ps))
              ∙ list.same known fix h (λ z rs e. list_of r e (elements-shaped rs)) ∙ ap (list_of r other)
              (elements-shape n qs);
        }
    tree-same k (List' l m ps end) (Hole g) w (kind, hp) (n, t, kind', hq, e) =
        let one = list-class x a l ps end w hp in
        let other : class w ≡ 2 = ap class e in
        absurd (cc)
    tree-same k (Hole h) (Op' p n qs) w (c, t, kind, hp, e) (d, g, at', kind', hq) =
        let one = (parts-root y b (part_items g.items) qs (operator d) w refl hq).1 in
        let other : class w ≡ 2 = ap class e in
        absurd (cc)
    tree-same k (Hole h) (List' l m ps end) w (c, t, kind, hp, e) (kind', hq) =
        let one = list-class y b l ps end w hq in
        let other : class w ≡ 2 = ap class e in
        absurd (cc)
    tree-same k (Hole h) (Hole g) w (c, t, kind, hp, e) (d, u, kind', hq, f) =
        let both : place c t ≡ place d u = sym e ∙ f in
        let names : c ≡ d = cc in
        let terms : t ≡ u = cc in
        let p = place-same d u h g (subst (λ z. IsPlace x a d z h) terms (subst
        (λ z. IsPlace x a z t h) names hp)) hq in
        record { alike = (p.1, tt); same = λ known fix q. ap Hole (hole-equal h g p.0 (fix h.term g.term p.1 q.0)) }

    part-same : (i : Item) (p q : SpecimenPart) (front other w : WrittenTree) → IsPart x a i p front w
        → IsPart y b i q other w → (front ≡ other) × SamePart p q
    part-same (made.Slot k) (Sub s) (Sub r) front other w (t, h, e) (u, g, f) =
        let both : with_tree front t ≡ with_tree other u = sym e ∙ f in
        let trees : t ≡ u = cc in
        let sub = tree-same k s r u (subst (IsTree x a k s) trees h) g in
        (cc, record { alike = sub.alike; same = λ known fix q. ap Sub (sub.same known fix q) })
    part-same (made.Slot k) (Sub s) q front other w h g = absurd g
    part-same (made.Refers n) (NamePart v) (NamePart z) front other w e f =
        let both : with_name front v ≡ with_name other z = sym e ∙ f in
        let names : v ≡ z = cc in
        (cc, record { alike = tt; same = λ known fix q. ap NamePart names })
    part-same (made.Refers n) (NamePart v) q front other w h g = absurd g
    part-same (made.Declares n) (NamePart v) (NamePart z) front other w e f =
        let both : with_name front v ≡ with_name other z = sym e ∙ f in
        let names : v ≡ z = cc in
        (cc, record { alike = tt; same = λ known fix q. ap NamePart names })
    part-same (made.Declares n) (NamePart v) q front other w h g = absurd g
    part-same made.Number (Number v) (Number z) front other w (c, h, e) (d, g, f) =
        let both : with_number front c ≡ with_number other d = sym e ∙ f in
        let digits : c ≡ d = cc in
        (cc, record { alike = tt; same = λ known fix q. ap Number (sym h ∙ ap value_of digits ∙ g) })
    part-same made.Number (Number v) q front other w h g = absurd g
    part-same made.Text (Text v) (Text z) front other w e f =
        let both : with_text front v ≡ with_text other z = sym e ∙ f in
        let texts : v ≡ z = cc in
        (cc, record { alike = tt; same = λ known fix q. ap Text texts })
    part-same made.Text (Text v) q front other w h g = absurd g
    part-same i p q front other w h g = absurd h

    row-same : {m n : _} (is : List Item) (ps : Row_of-SpecimenPart m) (qs : Row_of-SpecimenPart n)
        (front other w : WrittenTree) → AreParts x a is ps front w → AreParts y b is qs other w
        → (front ≡ other) × SameRow ps qs
    row-same [] end_of-SpecimenPart end_of-SpecimenPart front other w e f = (
      sym e
          ∙ f,
      record { alike = tt; same = λ known fix h F. refl },
    )
    row-same [] end_of-SpecimenPart (more_of-SpecimenPart q qs) front other w e f = absurd f
    row-same [] (more_of-SpecimenPart p ps) qs front other w e f = absurd e
    row-same (i ∷ is) end_of-SpecimenPart qs front other w e f = absurd e
    row-same (i ∷ is) (more_of-SpecimenPart p ps) end_of-SpecimenPart front other w e f = absurd f
    row-same (i ∷ is) (more_of-SpecimenPart p ps) (more_of-SpecimenPart q qs) front other w (next, hp, hr)
        (then, hq, hs) =
        let rest = row-same is ps qs next then w hr hs in
        let part = part-same i p q front other then (subst (IsPart x a i p front) rest.0 hp) hq in (
          part.0,
          record {
            alike = holes-append a b (holes_of_part p) (holes_of_part q) (holes_of_row ps)
                (holes_of_row qs) part.1.alike rest.1.alike;
            same = λ known fix h F.
                (let both = known-front known (holes_of_part p) (holes_of_row ps) h in
                ap (λ z. F _ (more_of-SpecimenPart z ps)) (part.1.same known fix both.0)
                ∙ rest.1.same known fix both.1 (λ z rs. F (one_more z) (more_of-SpecimenPart q rs)));
          },
        )

    list-same : (l : ℕ) {m n : _} (ps : Row_of-Specimen m) (end : Option SpecimenHole) (qs : Row_of-Specimen n)
        (other : Option SpecimenHole) (w : WrittenTree) → IsListFrom x a l ps end w
        → IsListFrom y b l qs other w → SameList ps end qs other
    list-same l end_of-Specimen None end_of-Specimen None w e f = record { alike = tt; same = λ known fix h F. refl }
    list-same l end_of-Specimen None end_of-Specimen (Some g) w e (
      d,
      u,
      k,
      q,
      f,
    ) = let both : list_end ≡ list_rest d u = sym e ∙ f in absurd (cc)
    list-same l end_of-Specimen None (more_of-Specimen r qs) other w e (
      list,
      s,
      t,
      at,
      hs,
      hr,
      f,
    ) = let both : list_end ≡ element s t = sym e ∙ f in absurd (cc)
    list-same l end_of-Specimen (Some h) end_of-Specimen None w (
      c,
      t,
      k,
      p,
      e,
    ) f = let both : list_end ≡ list_rest c t = sym f ∙ e in absurd (cc)
    list-same l end_of-Specimen (Some h) end_of-Specimen (Some g) w (c, t, k, hp, e) (d, u, k', hq, f) =
        let both : list_rest c t ≡ list_rest d u = sym e ∙ f in
        let names : c ≡ d = cc in
        let terms : t ≡ u = cc in
        let p = place-same d u h g (subst (λ z. IsPlace x a d z h) terms (subst
        (λ z. IsPlace x a z t h) names hp)) hq in
        record {
          alike = (p.1, tt);
          same = λ known fix q F. ap (λ z. F none_left end_of-Specimen (Some z))
              (hole-equal h g p.0 (fix h.term g.term p.1 q.0));
        }
    list-same l end_of-Specimen (Some h) (more_of-Specimen r qs) other w (c, t, k, p, e) (
      list,
      s,
      v,
      at,
      hs,
      hr,
      f,
    ) = let both : list_rest c t ≡ element s v = sym e ∙ f in absurd (cc)
    list-same l (more_of-Specimen p ps) end end_of-Specimen None w (
      list,
      s,
      v,
      at,
      hs,
      hr,
      e,
    ) f = let both : list_end ≡ element s v = sym f ∙ e in absurd (cc)
    list-same l (more_of-Specimen p ps) end end_of-Specimen (Some g) w (list, s, v, at, hs, hr, e) (
      d,
      u,
      k,
      q,
      f,
    ) = let both : list_rest d u ≡ element s v = sym f ∙ e in absurd (cc)
    list-same l (more_of-Specimen p ps) end (more_of-Specimen q qs) other w (list, s, v, at, hs, hr, e)
        (list', s', v', at', hs', hr', f) =
        let both : element s v ≡ element s' v' = sym e ∙ f in
        let heads : s ≡ s' = cc in
        let tails : v ≡ v' = cc in
        let same = agree.element l list list' at at' in
        let first = tree-same (kinds.Phylum list'.element) p q s' (subst (IsTree x a
        (kinds.Phylum list'.element) p) heads (subst (λ z. IsTree x a (kinds.Phylum z) p s) same hs)) hs' in
        let rest = list-same l ps end qs other v' (subst (IsListFrom x a l ps end) tails hr) hr' in
        record {
          alike = holes-append a b (holes_of p) (holes_of q) (holes_of_list ps end)
              (holes_of_list qs other) first.alike rest.alike;
          same = λ known fix h F.
              (let both = known-front known (holes_of p) (holes_of_list ps end) h in
              ap (λ z. F _ (more_of-Specimen z ps) end) (first.same known fix both.0)
              ∙ rest.same known fix both.1 (λ z rs t. F (one_more z) (more_of-Specimen q rs) t));
        }
