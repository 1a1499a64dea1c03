-- What the nodes of a well formed tree of the language are made of.
use Rattle.std.proofs.Common.{◌≡◌, ◌<◌, ◌^◌, ℕ, zero, suc, inl, inr, Option, Some, List, [], ◌∷◌, ◌++◌, slice_get, refl, ap, sym, ◌∙◌, subst, append_assoc}
use Rattle.std.specs.Prelude.{IsUtf8, option_map, option_and_then}
use Rattle.std.specs.List.{AllByRecursion}
use Rattle.std.proofs.lemmas.Option.{slice_get-map}
use Rattle.psg_terms.specs.Names.{Name}
use Rattle.psg_grammar.specs.declared.types.Kind.{Kind}
use Rattle.psg_grammar.specs.declared.types.Kind.TheVariants as kinds
use Rattle.psg_grammar.specs.declared.types.Item.{Item}
use Rattle.psg_grammar.specs.declared.types.Item.TheVariants as items
use Rattle.psg_grammar.specs.declared.types.Operator.{Operator}
use Rattle.psg_grammar.specs.declared.types.ListKind.{ListKind}
use Rattle.psg_grammar.specs.declared.types.Definition.{Definition}
use Rattle.psg_grammar.specs.Fragments.{Fragment, hole, ending, cell, operator, with_child, with_name, with_number, with_text, anything, observed, top_operator}
use Rattle.psg_grammar.specs.Lookups.{part_items}
use Rattle.psg_grammar.specs.WellFormed.{Fits, IsPlain, IsComplete, IsName}
use Rattle.psg_tree.specs.declared.tree.Part.{Part}
use Rattle.psg_tree.specs.declared.tree.Part.TheVariants as parts
use Rattle.psg_self.specs.declared.form.Form.{Form}
use Rattle.psg_self.specs.declared.form.Form.TheVariants as forms
use Rattle.psg_self.specs.SelfLanguage.{all_forms, form_at, self_operators, IsSelf}
use Rattle.psg_self.specs.NodeParts.{form_of, node_parts, name_in, tree_in, elements_of}

module _ (def : Definition) where
  -- a whole tree of the kind
  pub record IsWhole (t : Fragment) (kind : Kind) : Type 0 where
    pub fits : Fits def t [] kind
    pub plain : IsPlain t
    pub complete : IsComplete t

  abbrev pub IsPartOf : Item → Part → Type 0
  IsPartOf (items.Slot k) (parts.Sub t) = IsWhole t k
  IsPartOf (items.Refers s) (parts.Name n) = IsName def n
  IsPartOf (items.Declares s) (parts.Name n) = IsName def n
  IsPartOf items.Number (parts.Number v) = v < 2 ^ 128
  IsPartOf items.Text (parts.Text t) = IsUtf8 t
  IsPartOf _ _ = ⊥

  abbrev pub AreParts : List Item → List Part → Type 0
  AreParts [] [] = Unit {0}
  AreParts [] (p ∷ ps) = ⊥
  AreParts (i ∷ is) [] = ⊥
  AreParts (i ∷ is) (p ∷ ps) = IsPartOf i p × AreParts is ps

  parts-snoc : (is : List Item) (ps : List Part) (i : Item) (p : Part) → AreParts is ps → IsPartOf i p
      → AreParts (is ++ i ∷ []) (ps ++ p ∷ [])
  parts-snoc [] [] i p h k = (k, tt)
  parts-snoc [] (q ∷ ps) i p h k = absurd h
  parts-snoc (j ∷ is) [] i p h k = absurd h
  parts-snoc (j ∷ is) (q ∷ ps) i p h k = (h.0, parts-snoc is ps i p h.1 k)

  -- an operator's node, where parts of these items still follow
  pub record IsNode (f : Fragment) (more : List Item) (kind : Kind) : Type 0 where
    pub number : ℕ
    pub op : Operator
    pub top : top_operator f ≡ Some number
    pub at : slice_get def.operators number ≡ Some op
    pub of : kind ≡ kinds.Phylum op.phylum
    pub front : List Item
    pub split : part_items op.items ≡ front ++ more
    pub each : AreParts front (node_parts f)

  next-part : (f : Fragment) (more : List Item) (kind : Kind) (i : Item) (p : Part) (g : Fragment) → IsNode f (i ∷ more) kind
      → top_operator g ≡ top_operator f → node_parts g ≡ node_parts f ++ p ∷ [] → IsPartOf i p → IsNode g more kind
  next-part f more kind i p g n t e is = record {
    number = n.number;
    op = n.op;
    top = t ∙ n.top;
    at = n.at;
    of = n.of;
    front = n.front ++ i ∷ [];
    split = n.split ∙ sym (append_assoc n.front (i ∷ []) more);
    each = subst (AreParts (n.front ++ i ∷ [])) (sym e) (parts-snoc n.front (node_parts f) i p n.each is);
  }

  -- the kind is no list's
  abbrev IsPhylum : Kind → Type 0
  IsPhylum (kinds.Phylum p) = Unit {0}
  IsPhylum (kinds.List l) = ⊥

  pub node-of : (f : Fragment) (more : List Item) (kind : Kind) → IsPhylum kind → Fits def f more kind → IsPlain f → IsComplete f
      → IsNode f more kind
  node-of (hole p) more kind q h a c = absurd c
  node-of (ending l u) more kind q h a c = absurd (subst IsPhylum h.1 q)
  node-of (cell l e r) more kind q h a c = absurd (subst IsPhylum h.1 q)
  node-of (operator o) more kind q (op, at, e, k) a c = record {
    number = o;
    op = op;
    top = refl;
    at = at;
    of = k;
    front = [];
    split = sym e;
    each = tt;
  }
  node-of (with_child f t) more kind q (k, h, b) a c =
      next-part f more kind (items.Slot k) (parts.Sub t) (with_child f t) (node-of f (items.Slot k ∷ more) kind q h a.0 c.0) refl refl
      (record { fits = b; plain = a.1; complete = c.1 })
  node-of (with_name f n) more kind q (inl (s, h), b) a c =
      next-part f more kind (items.Refers s) (parts.Name n) (with_name f n) (node-of f (items.Refers s ∷ more) kind q h a c) refl refl b
  node-of (with_name f n) more kind q (inr (s, h), b) a c =
      next-part f more kind (items.Declares s) (parts.Name n) (with_name f n) (node-of f (items.Declares s ∷ more) kind q h a c) refl refl b
  node-of (with_number f n) more kind q (h, b) a c =
      next-part f more kind items.Number (parts.Number n) (with_number f n) (node-of f (items.Number ∷ more) kind q h a c) refl refl b
  node-of (with_text f t) more kind q (h, b) a c =
      next-part f more kind items.Text (parts.Text t) (with_text f t) (node-of f (items.Text ∷ more) kind q h a c) refl refl b
  node-of anything more kind q h a c = absurd c
  node-of (observed f) more kind q h a c = absurd a

-- ---- the operators by their forms

abbrev pub phylum_of : Form → ℕ
phylum_of forms.SortLine = 0
phylum_of forms.PhylumLine = 0
phylum_of forms.BracketedLine = 0
phylum_of forms.OperatorLine = 0
phylum_of forms.HoleLine = 0
phylum_of forms.Constructor = 1
phylum_of forms.Argument = 2
phylum_of forms.Plain = 3
phylum_of forms.Prefix = 3
phylum_of forms.Postfix = 3
phylum_of forms.InfixLeft = 3
phylum_of forms.InfixRight = 3
phylum_of forms.InfixNone = 3
phylum_of forms.Row = 5
phylum_of forms.Applied = 6
phylum_of forms.Variable = 6
phylum_of forms.Specimen = 7
phylum_of _ = 4

abbrev pub items_of : Form → List Item
items_of forms.SortLine = items.Declares 0 ∷ items.Slot (kinds.List 1) ∷ []
items_of forms.PhylumLine = items.Declares 2 ∷ items.Refers 0 ∷ []
items_of forms.BracketedLine = items.Declares 2 ∷ items.Refers 0 ∷ []
items_of forms.OperatorLine = items.Declares 3 ∷ items.Refers 2 ∷ items.Slot (kinds.Phylum 3) ∷ items.Slot (kinds.List 3)
    ∷ items.Slot (kinds.List 4) ∷ []
items_of forms.HoleLine = items.Refers 2 ∷ items.Slot (kinds.Phylum 6) ∷ items.Slot (kinds.Phylum 7) ∷ []
items_of forms.Constructor = items.Declares 1 ∷ items.Slot (kinds.List 2) ∷ []
items_of forms.Argument = items.Refers 0 ∷ []
items_of forms.Prefix = items.Number ∷ []
items_of forms.Postfix = items.Number ∷ []
items_of forms.InfixLeft = items.Number ∷ []
items_of forms.InfixRight = items.Number ∷ []
items_of forms.InfixNone = items.Number ∷ []
items_of forms.Word = items.Text ∷ []
items_of forms.Slot = items.Refers 2 ∷ []
items_of forms.Row = items.Slot (kinds.Phylum 6) ∷ items.Slot (kinds.List 5) ∷ []
items_of forms.Applied = items.Refers 1 ∷ items.Slot (kinds.List 5) ∷ []
items_of forms.Variable = items.Refers 4 ∷ []
items_of forms.Specimen = items.Refers 3 ∷ items.Slot (kinds.List 6) ∷ []
items_of _ = []

abbrev Key : Type 0
Key = Name × (ℕ × List Item)

abbrev IsKeyOf : Form → Key → Type 0
IsKeyOf form key = (key.1.0 ≡ phylum_of form) × (part_items key.1.1 ≡ items_of form)

abbrev AreKeysOf : List Form → List Key → Type 0
AreKeysOf [] [] = Unit {0}
AreKeysOf [] (k ∷ ks) = ⊥
AreKeysOf (f ∷ fs) [] = ⊥
AreKeysOf (f ∷ fs) (k ∷ ks) = IsKeyOf f k × AreKeysOf fs ks

keys-are : AreKeysOf all_forms self_operators
keys-are = (
  (refl, refl),
  (
    (refl, refl),
    (
      (refl, refl),
      (
        (refl, refl),
        (
          (refl, refl),
          (
            (refl, refl),
            (
              (refl, refl),
              (
                (refl, refl),
                (
                  (refl, refl),
                  (
                    (refl, refl),
                    (
                      (refl, refl),
                      (
                        (refl, refl),
                        (
                          (refl, refl),
                          (
                            (refl, refl),
                            (
                              (refl, refl),
                              (
                                (refl, refl),
                                (
                                  (refl, refl),
                                  (
                                    (refl, refl),
                                    (
                                      (refl, refl),
                                      (
                                        (refl, refl),
                                        (
                                          (refl, refl),
                                          (
                                            (refl, refl),
                                            (
                                              (refl, refl),
                                              (
                                                (refl, refl),
                                                tt,
                                              ),
                                            ),
                                          ),
                                        ),
                                      ),
                                    ),
                                  ),
                                ),
                              ),
                            ),
                          ),
                        ),
                      ),
                    ),
                  ),
                ),
              ),
            ),
          ),
        ),
      ),
    ),
  ),
)

record HasForm (o : ℕ) (key : Key) (fs : List Form) : Type 0 where
  form : Form
  at : slice_get fs o ≡ Some form
  is : IsKeyOf form key

form-at : (fs : List Form) (ks : List Key) (o : ℕ) (key : Key) → AreKeysOf fs ks → slice_get ks o ≡ Some key → HasForm o key fs
form-at [] [] o key h e = absurd (no-key o key e)
  where
    no-key : (n : ℕ) (k : Key) → ◌≡◌ {A = Option Key} (slice_get [] n) (Some k) → ⊥
    no-key zero k f = cc
    no-key (suc n) k f = cc
form-at [] (k ∷ ks) o key h e = absurd h
form-at (f ∷ fs) [] o key h e = absurd h
form-at (f ∷ fs) (k ∷ ks) zero key h e = record { form = f; at = refl; is = subst (IsKeyOf f) (key-is k key e) h.0 }
  where
    key-is : (a b : Key) → Some a ≡ Some b → a ≡ b
    key-is a b g = cc
form-at (f ∷ fs) (k ∷ ks) (suc o) key h e =
    let r = form-at fs ks o key h.1 e in record { form = r.form; at = r.at; is = r.is }

-- a node of the language: its form, and its parts by the items of that
module _ (def : Definition) (self : IsSelf def) where
  pub record IsFormed (f : Fragment) (p : ℕ) : Type 0 where
    pub form : Form
    pub form_is : form_of f ≡ Some form
    pub of : phylum_of form ≡ p
    pub each : AreParts def (items_of form) (node_parts f)

  pub record IsFormedFront (f : Fragment) (more : List Item) (p : ℕ) : Type 0 where
    pub form : Form
    pub form_is : form_of f ≡ Some form
    pub of : phylum_of form ≡ p
    pub front : List Item
    pub split : items_of form ≡ front ++ more
    pub each : AreParts def front (node_parts f)

  abbrev key_of : Operator → Key
  key_of o = (o.name, (o.phylum, o.items))

  phylum-is : (p q : ℕ) → kinds.Phylum p ≡ kinds.Phylum q → p ≡ q
  phylum-is p q e = cc

  pub formed-front : (f : Fragment) (more : List Item) (p : ℕ) → Fits def f more (kinds.Phylum p) → IsPlain f → IsComplete f
      → IsFormedFront f more p
  formed-front f more p h a c =
      let n = node-of def f more (kinds.Phylum p) tt h a c in
      let key : slice_get self_operators n.number ≡ Some (key_of n.op) =
      ap (λ ks. slice_get ks n.number) (sym self.operators) ∙ slice_get-map key_of def.operators n.number ∙ ap (option_map key_of) n.at in
      let r = form-at all_forms self_operators n.number (key_of n.op) keys-are key in
      record {
        form = r.form;
        form_is = ap (option_and_then form_at) n.top ∙ r.at;
        of = sym r.is.0 ∙ sym (phylum-is p n.op.phylum n.of);
        front = n.front;
        split = sym r.is.1 ∙ n.split;
        each = n.each;
      }

  no-more : (is front : List Item) → is ≡ front ++ [] → front ≡ is
  no-more is front e = sym (append-nil front) ∙ sym e
    where
      append-nil : (xs : List Item) → xs ++ [] ≡ xs
      append-nil [] = refl
      append-nil (x ∷ xs) = ap (λ l. x ∷ l) (append-nil xs)

  pub formed : (f : Fragment) (p : ℕ) → IsWhole def f (kinds.Phylum p) → IsFormed f p
  formed f p w =
      let r = formed-front f [] p w.fits w.plain w.complete in
      record {
        form = r.form;
        form_is = r.form_is;
        of = r.of;
        each = subst (λ is. AreParts def is (node_parts f)) (sym (sym (no-more (items_of r.form) r.front r.split))) r.each;
      }

-- ---- parts by their numbers

module _ (def : Definition) where
  abbrev IsNameItem : Item → Type 0
  IsNameItem (items.Refers s) = Unit {0}
  IsNameItem (items.Declares s) = Unit {0}
  IsNameItem _ = ⊥

  name-of : (i : Item) (p : Part) → IsNameItem i → IsPartOf def i p → IsName def (name_in (Some p))
  name-of (items.Refers s) (parts.Name n) h k = k
  name-of (items.Declares s) (parts.Name n) h k = k
  name-of (items.Refers s) (parts.Sub t) h k = absurd k
  name-of (items.Refers s) (parts.Number v) h k = absurd k
  name-of (items.Refers s) (parts.Text t) h k = absurd k
  name-of (items.Declares s) (parts.Sub t) h k = absurd k
  name-of (items.Declares s) (parts.Number v) h k = absurd k
  name-of (items.Declares s) (parts.Text t) h k = absurd k
  name-of _ p h k = absurd h

  pub name-part : (is : List Item) (ps : List Part) (k : ℕ) (i : Item) → AreParts def is ps → slice_get is k ≡ Some i → IsNameItem i
      → IsName def (name_in (slice_get ps k))
  name-part [] ps k i h e n = absurd (no-item k i e)
    where
      no-item : (m : ℕ) (j : Item) → ◌≡◌ {A = Option Item} (slice_get [] m) (Some j) → ⊥
      no-item zero j f = cc
      no-item (suc m) j f = cc
  name-part (j ∷ is) [] k i h e n = absurd h
  name-part (j ∷ is) (p ∷ ps) zero i h e n = name-of j p (subst IsNameItem (item-is i j (sym e)) n) h.0
    where
      item-is : (a b : Item) → Some a ≡ Some b → a ≡ b
      item-is a b f = cc
  name-part (j ∷ is) (p ∷ ps) (suc k) i h e n = name-part is ps k i h.1 e n

  pub record HasTree (o : Option Part) (kind : Kind) : Type 0 where
    pub tree : Fragment
    pub is : tree_in o ≡ Some tree
    pub whole : IsWhole def tree kind

  tree-of : (p : Part) (kind : Kind) → IsPartOf def (items.Slot kind) p → HasTree (Some p) kind
  tree-of (parts.Sub t) kind h = record { tree = t; is = refl; whole = h }
  tree-of (parts.Name n) kind h = absurd h
  tree-of (parts.Number v) kind h = absurd h
  tree-of (parts.Text t) kind h = absurd h

  pub tree-part : (is : List Item) (ps : List Part) (k : ℕ) (kind : Kind) → AreParts def is ps → slice_get is k ≡ Some (items.Slot kind)
      → HasTree (slice_get ps k) kind
  tree-part [] ps k kind h e = absurd (no-item k (items.Slot kind) e)
    where
      no-item : (m : ℕ) (j : Item) → ◌≡◌ {A = Option Item} (slice_get [] m) (Some j) → ⊥
      no-item zero j f = cc
      no-item (suc m) j f = cc
  tree-part (j ∷ is) [] k kind h e = absurd h
  tree-part (j ∷ is) (p ∷ ps) zero kind h e = tree-of p kind (subst (λ i. IsPartOf def i p) (item-is j (items.Slot kind) e) h.0)
    where
      item-is : (a b : Item) → Some a ≡ Some b → a ≡ b
      item-is a b f = cc
  tree-part (j ∷ is) (p ∷ ps) (suc k) kind h e = tree-part is ps k kind h.1 e

  -- the elements of a list whose elements are of the phylum
  pub elements-whole : (l p : ℕ) → ((k : ListKind) → slice_get def.lists l ≡ Some k → k.element ≡ p) → (f : Fragment)
      → Fits def f [] (kinds.List l) → IsPlain f → IsComplete f → AllByRecursion (λ e. IsWhole def e (kinds.Phylum p)) (elements_of f)
  elements-whole l p at (cell m e r) (a, b, k, c, d, g, i) q w =
      let same : l ≡ m = list-is l m b in
      let element = at k (subst (λ n. slice_get def.lists n ≡ Some k) (sym same) c) in (
        record { fits = subst (λ n. Fits def e [] (kinds.Phylum n)) element d; plain = q.0; complete = w.0 },
        elements-whole l p at r (subst (λ n. Fits def r [] (kinds.List n)) (sym same) g) q.1 w.1,
      )
    where
      list-is : (a b : ℕ) → kinds.List a ≡ kinds.List b → a ≡ b
      list-is a b f = cc
  elements-whole l p at (hole o) h q w = tt
  elements-whole l p at (ending m u) h q w = tt
  elements-whole l p at (operator o) h q w = tt
  elements-whole l p at (with_child f t) h q w = tt
  elements-whole l p at (with_name f n) h q w = tt
  elements-whole l p at (with_number f n) h q w = tt
  elements-whole l p at (with_text f t) h q w = tt
  elements-whole l p at anything h q w = tt
  elements-whole l p at (observed f) h q w = tt
