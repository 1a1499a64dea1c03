-- Two definitions of one file have their phyla, the heads of their lists and the heads of their operators in common.
use Rattle.std.proofs.Common.{◌≡◌, ℕ, true, List, [], ◌∷◌, ap, ap₂, sym, ◌∙◌, subst, Some, slice_get}
use Rattle.psg_terms.proofs.Lists.{slice_get-map_some, slice_get_once}
use Rattle.psg_terms.specs.Names.{Name, is_among}
use Rattle.psg_terms.specs.declared.sorts.SortId.{SortId}
use Rattle.psg_terms.proofs.DeclareLaws.{is_among-at}
use Rattle.psg_grammar.specs.declared.types.Kind.{Kind}
use Rattle.psg_grammar.specs.declared.types.Kind.TheVariants as kinds
use Rattle.psg_grammar.specs.declared.types.Item.{Item}
use Rattle.psg_grammar.specs.declared.types.Item.TheVariants as made
use Rattle.psg_grammar.specs.declared.types.Phylum.{Phylum}
use Rattle.psg_grammar.specs.declared.types.ListKind.{ListKind}
use Rattle.psg_grammar.specs.declared.types.Operator.{Operator}
use Rattle.psg_grammar.specs.declared.types.Space.{Space}
use Rattle.psg_grammar.specs.declared.types.Definition.{Definition}
use Rattle.psg_grammar.specs.Sound.{HasKindSort}
use Rattle.psg_deflines.specs.declared.lines.LineItem.{LineItem}
use Rattle.psg_deflines.specs.declared.lines.LineItem.TheVariants as items
use Rattle.psg_deflines.specs.declared.lines.Line.{Line}
use Rattle.psg_deflines.specs.declared.lines.Line.TheVariants as lines
use Rattle.psg_defcheck.specs.Scopes.{phylum_names, list_names, operator_names, space_names}
use Rattle.psg_defnumber.specs.Numbers.{IsTerm, AreTerms, IsSort, IsKind, IsItem, AreItems, IsSpaceNamed, IsOperatorNamed, ArePhyla, AreLists, AreOperators, AreSpaces, IsNumbered}
use Rattle.psg_defnumber.proofs.OnceNames.{named_place, Together, together-at}
use Rattle.psg_defnumber.proofs.NameLaws.{phyla-once, lists-once, apart}
use Rattle.psg_defnumber.proofs.NamedLaws.{phyla-names, spaces-names, lists-names, operators-names}
use Rattle.psg_terms.proofs.Spelled.{one_place}
use Rattle.psg_defnumber.proofs.OnceTerms.{terms-alike, rows-alike}
use Rattle.psg_defnumber.proofs.OnceTrees.{Agree}
use Rattle.psg_defnumber.proofs.OnceSignature.{sorts-once, symbols-once, signature-same}

abbrev phylum_name : Phylum → Name
phylum_name p = p.name

abbrev list_name : ListKind → Name
list_name l = l.name

abbrev operator_name : Operator → Name
operator_name o = o.name

pub record SameHead (f g : ListKind) : Type 0 where
  pub sort : f.sort ≡ g.sort
  pub element : f.element ≡ g.element

pub record SameForm (f g : Operator) : Type 0 where
  pub phylum : f.phylum ≡ g.phylum
  pub items : f.items ≡ g.items

-- ---- spaces by their names

abbrev space_name : Space → Name
space_name s = s.name

module _ {version : ℕ} (file : List Line) (x y : Definition) (hx : IsNumbered version file x) (hy : IsNumbered version file y) where
  signatures : x.signature ≡ y.signature
  signatures = signature-same file x hx y hy

  pub sort-same : (n : Name) (s r : SortId) → IsSort x n s → IsSort y n r → s ≡ r
  sort-same n s r h k =
      let e = one_place y.signature.sorts s.0 r.0 n (sorts-once file y hy) (subst
      (λ g. slice_get g.sorts s.0 ≡ Some n) signatures h) k in
      λ i. record { 0 = e i }

  phyla-from : (behind : List Line) (ps qs : List Phylum) → ArePhyla x behind ps → ArePhyla y behind qs → ps ≡ qs
  phyla-from [] ps qs h k = h ∙ sym k
  phyla-from (lines.Phylum name sort bracketed ∷ behind) ps qs (p, rest, e, hp, hr) (q, more, f, hq, hs) =
      let names = hp.named ∙ sym hq.named in
      let sorts = sort-same sort p.sort q.sort hp.of_sort hq.of_sort in
      let brackets = hp.same_brackets ∙ sym hq.same_brackets in
      let same : p ≡ q = (λ i. record { name = names i; sort = sorts i; bracketed = brackets i }) in
      e ∙ ap₂ (λ z zs. z ∷ zs) same (phyla-from behind rest more hr hs) ∙ sym f
  phyla-from (_ ∷ behind) ps qs h k = phyla-from behind ps qs h k

  pub phyla-same : x.phyla ≡ y.phyla
  phyla-same = phyla-from file x.phyla y.phyla hx.phyla hy.phyla

  spaces-from : (ds : List (Name × Name)) (ss rs : List Space) → AreSpaces x ds ss → AreSpaces y ds rs → ss ≡ rs
  spaces-from [] ss rs h k = h ∙ sym k
  spaces-from (d ∷ ds) ss rs (s, rest, e, name, hs, hr) (r, more, f, name', hs', hr') =
      let names = name ∙ sym name' in
      let sorts = sort-same d.1 s.sort r.sort hs hs' in
      let same : s ≡ r = (λ i. record { name = names i; sort = sorts i }) in
      e ∙ ap₂ (λ z zs. z ∷ zs) same (spaces-from ds rest more hr hr') ∙ sym f

  pub spaces-same : x.spaces ≡ y.spaces
  spaces-same = spaces-from _ x.spaces y.spaces hx.spaces hy.spaces

  space-place : (n : Name) (p q : ℕ) → IsSpaceNamed x n p → IsSpaceNamed y n q → p ≡ q
  space-place [] p q h k = h ∙ sym k
  space-place (c ∷ cs) p q (s, at, e) (r, at', f) =
      named_place space_name (space_names file) hx.spaces_once x.spaces y.spaces
      (spaces-names x file x.spaces hx.spaces) (spaces-names y file y.spaces hy.spaces) (c ∷ cs) p q s r at e at' f

  pub phylum-place : (n : Name) (p q : ℕ) → IsKind x n (kinds.Phylum p) → IsKind y n (kinds.Phylum q) → p ≡ q
  phylum-place n p q (k, at, e) (l, at', f) =
      named_place phylum_name (phylum_names file) (phyla-once file hx.kinds_once) x.phyla y.phyla
      (phyla-names x file x.phyla hx.phyla) (phyla-names y file y.phyla hy.phyla) n p q k l at e at' f

  list-place : (n : Name) (p q : ℕ) → IsKind x n (kinds.List p) → IsKind y n (kinds.List q) → p ≡ q
  list-place n p q (k, at, e) (l, at', f) =
      named_place list_name (list_names file) (lists-once file hx.kinds_once) x.lists y.lists
      (lists-names x file file x.lists hx.lists) (lists-names y file file y.lists hy.lists) n p q k l at e at' f

  phylum-among : (d : Definition) (n : Name) (p : ℕ) → IsNumbered version file d → IsKind d n (kinds.Phylum p)
      → is_among (phylum_names file) n ≡ true
  phylum-among d n p h (k, at, e) =
      is_among-at (phylum_names file) p n (ap (λ l. slice_get l p) (sym (phyla-names d file d.phyla h.phyla))
      ∙ slice_get-map_some phylum_name d.phyla p k at ∙ ap Some e)

  list-among : (d : Definition) (n : Name) (p : ℕ) → IsNumbered version file d → IsKind d n (kinds.List p)
      → is_among (list_names file) n ≡ true
  list-among d n p h (k, at, e) =
      is_among-at (list_names file) p n (ap (λ l. slice_get l p) (sym
      (lists-names d file file d.lists h.lists)) ∙ slice_get-map_some list_name d.lists p k at ∙ ap Some e)

  pub kind-same : (n : Name) (k l : Kind) → IsKind x n k → IsKind y n l → k ≡ l
  kind-same n (kinds.Phylum p) (kinds.Phylum q) h k = ap kinds.Phylum (phylum-place n p q h k)
  kind-same n (kinds.Phylum p) (kinds.List q) h k = absurd (apart file hx.kinds_once n (phylum-among x n p hx h)
      (list-among y n q hy k))
  kind-same n (kinds.List p) (kinds.Phylum q) h k = absurd (apart file hx.kinds_once n (phylum-among y n q hy k)
      (list-among x n p hx h))
  kind-same n (kinds.List p) (kinds.List q) h k = ap kinds.List (list-place n p q h k)

  heads-from : (behind : List Line) (fs gs : List ListKind) → AreLists x file behind fs
      → AreLists y file behind gs → Together SameHead fs gs
  heads-from [] fs gs h k = subst (λ z. Together SameHead z gs) (sym h) (subst (Together SameHead []) (sym k) tt)
  heads-from (lines.List name sort elements separator on_lines unfinished ∷ behind) fs gs (f, rest, e, hf, hr)
      (g, more, e', hg, hs) =
      let here : SameHead f g = record {
        sort = sort-same sort f.sort g.sort hf.of_sort hg.of_sort;
        element = phylum-place elements f.element g.element hf.of_elements hg.of_elements;
      } in
      subst (λ z. Together SameHead z gs) (sym e) (subst (Together SameHead (f ∷ rest)) (sym e')
      (here, heads-from behind rest more hr hs))
  heads-from (_ ∷ behind) fs gs h k = heads-from behind fs gs h k

  head-at : (l : ℕ) (f g : ListKind) → slice_get x.lists l ≡ Some f → slice_get y.lists l ≡ Some g → SameHead f g
  head-at l f g a b = together-at SameHead x.lists y.lists l f g
      (heads-from file x.lists y.lists hx.lists hy.lists) a b

  kind_sort-same : (k : Kind) (s r : ℕ) → HasKindSort x k s → HasKindSort y k r → s ≡ r
  kind_sort-same (kinds.Phylum p) s r (f, at, e) (g, at', e') =
      let same = slice_get_once y.phyla p f g (ap (λ z. slice_get z p) (sym phyla-same) ∙ at) at' in
      sym e ∙ ap (λ (z : Phylum). z.sort.0) same ∙ e'
  kind_sort-same (kinds.List l) s r (f, at, e) (g, at', e') = sym e ∙ ap (λ (z : SortId). z.0)
      (head-at l f g at at').sort ∙ e'

  item-same : (w : LineItem) (i j : Item) → IsItem x w i → IsItem y w j → i ≡ j
  item-same (items.Slot n) i j (k, h, e) (l, g, f) = e ∙ ap made.Slot (kind-same n k l h g) ∙ sym f
  item-same (items.Word w) i j h k = h ∙ sym k
  item-same (items.Refers n) i j (p, h, e) (q, k, f) = e ∙ ap made.Refers (space-place n p q h k) ∙ sym f
  item-same (items.Declares n) i j (p, h, e) (q, k, f) = e ∙ ap made.Declares (space-place n p q h k) ∙ sym f
  item-same items.Number i j h k = h ∙ sym k
  item-same items.Text i j h k = h ∙ sym k
  item-same items.Space i j h k = h ∙ sym k
  item-same items.Tight i j h k = h ∙ sym k
  item-same items.Line i j h k = h ∙ sym k
  item-same items.In i j h k = h ∙ sym k
  item-same items.Out i j h k = h ∙ sym k

  pub items-same : (ws : List LineItem) (is js : List Item) → AreItems x ws is → AreItems y ws js → is ≡ js
  items-same [] is js h k = h ∙ sym k
  items-same (w ∷ ws) is js (i, rest, e, h, hr) (j, more, f, k, hs) = e ∙ ap₂ (λ z zs. z ∷ zs)
      (item-same w i j h k) (items-same ws rest more hr hs) ∙ sym f

  forms-from : (behind : List Line) (fs gs : List Operator) → AreOperators x behind fs
      → AreOperators y behind gs → Together SameForm fs gs
  forms-from [] fs gs h k = subst (λ z. Together SameForm z gs) (sym h) (subst (Together SameForm []) (sym k) tt)
  forms-from (lines.Operator name phylum scope level parts ∷ behind) fs gs (f, rest, e, hf, hr) (g, more, e', hg, hs) =
      let here : SameForm f g = record { phylum = phylum-place phylum f.phylum g.phylum hf.of_phylum hg.of_phylum; items = items-same parts f.items g.items hf.each_item hg.each_item } in
      subst (λ z. Together SameForm z gs) (sym e) (subst (Together SameForm (f ∷ rest)) (sym e')
      (here, forms-from behind rest more hr hs))
  forms-from (_ ∷ behind) fs gs h k = forms-from behind fs gs h k

  operator-same : (n : Name) (o p : ℕ) (f g : Operator) → IsOperatorNamed x n o f → IsOperatorNamed y n p g
      → (o ≡ p) × (f.items ≡ g.items)
  operator-same n o p f g h k =
      let place = named_place operator_name (operator_names file) hx.operators_once x.operators y.operators
      (operators-names x file x.operators hx.operators)
      (operators-names y file y.operators hy.operators) n o p f g h.0 h.1 k.0 k.1 in
      let form = together-at SameForm x.operators y.operators p f g
      (forms-from file x.operators y.operators hx.operators hy.operators) (subst
      (λ z. slice_get x.operators z ≡ Some f) place h.0) k.0 in
      (place, form.items)

  pub agree : Agree x y
  agree = record {
    kind = kind-same;
    space = space-place;
    sort = kind_sort-same;
    operator = operator-same;
    element = λ l f g a b. (head-at l f g a b).element;
    columns = λ a b sorts ws ts us h k. rows-alike y.signature (symbols-once file y hy) a b sorts ws ts us
        (subst (λ g. AreTerms g a sorts ws ts) signatures h) k;
    term = λ a b w s t u h k. terms-alike y.signature (symbols-once file y hy) a b w [] s t u (subst
        (λ g. IsTerm g a [] s w t) signatures h) k;
  }
