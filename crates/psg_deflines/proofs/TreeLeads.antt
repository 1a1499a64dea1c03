-- The parts of a specimen lead a walk over them to it.
use Rattle.std.proofs.Common.{◌≡◌, ℕ, true, false, List, [], ◌∷◌, ◌++◌, append_assoc, codes, inl, inr, refl, ap, sym, ◌∙◌, subst, arith}
use Rattle.std.specs.Prelude.{Some, ◌⊎◌}
use Rattle.std.proofs.lemmas.Bool.{false≢true}
use Rattle.psg_grammar.specs.Sound.{is_upper, is_name_from, IsOwnName}
use Rattle.psg_deflines.specs.WrittenTrees.{WrittenTree, operator, with_tree, with_name, with_number, with_text, list_end, list_rest, element, place, tree_parts, opened, follow, place_parts, is_front, is_list, HasTreeForm, quoted_part}
use Rattle.psg_deflines.specs.TreeShapes.{with_part, list_of}
use Rattle.psg_deflines.specs.TermWalks.{Parts, IsNotOpened}
use Rattle.psg_deflines.specs.TreeWalks.{TreeFrame, in_operator, in_list, expects, after, placed, literal_part, IsLiteral, a_part, a_tree, a_frame, first_of, GoesOn, Begins, a_place, an_empty, a_rest, a_list, an_operator, a_leaf, a_literal, a_comma, a_close, an_end, Finishes, comma, close, bracket, bar, begun}
use Rattle.psg_deflines.specs.declared.trees.LinePart.{LinePart}
use Rattle.psg_deflines.specs.declared.trees.LinePart.TheVariants as parts
use Rattle.psg_deflines.proofs.PartReads.{byte_of}
use Rattle.psg_deflines.proofs.TreeWalkLaws.{literal-no_kind, own-no_kind}
use Rattle.psg_deflines.proofs.TreeOverLaws.{Leads, goes}

-- ---- how a specimen begins

abbrev IsStart : List ℕ → Type 0
IsStart p = IsOwnName p ⊎ (p ≡ codes "[")

regroup : (a b c d : Parts) → ((a ++ b) ++ c) ++ d ≡ a ++ (b ++ (c ++ d))
regroup a b c d = append_assoc (a ++ b) c d ∙ append_assoc a b (c ++ d)

front-start : (t : WrittenTree) (ps : Parts) → is_front t ≡ true → HasTreeForm t → IsOwnName (first_of (opened t ++ ps))
front-start (operator o) ps f h = h
front-start (with_tree g t) ps f h = subst (λ x. IsOwnName (first_of x)) (sym (regroup (opened g) (tree_parts t) (codes "," ∷ []) ps)) (front-start g (tree_parts t ++ (codes "," ∷ ps)) h.0 h.1)
front-start (with_name g n) ps f h = subst (λ x. IsOwnName (first_of x)) (sym (append_assoc (opened g) ((36 ∷ n) ∷ codes "," ∷ []) ps)) (front-start g ((36 ∷ n) ∷ codes "," ∷ ps) h.0 h.1)
front-start (with_number g d) ps f h = subst (λ x. IsOwnName (first_of x)) (sym (append_assoc (opened g) (d ∷ codes "," ∷ []) ps)) (front-start g (d ∷ codes "," ∷ ps) h.0 h.1)
front-start (with_text g w) ps f h = subst (λ x. IsOwnName (first_of x)) (sym (append_assoc (opened g) (quoted_part w ∷ codes "," ∷ []) ps)) (front-start g (quoted_part w ∷ codes "," ∷ ps) h.0 h.1)
front-start list_end ps f h = absurd (false≢true f)
front-start (list_rest l t) ps f h = absurd (false≢true f)
front-start (element e r) ps f h = absurd (false≢true f)
front-start (place k t) ps f h = absurd (false≢true f)

tree-start : (t : WrittenTree) (ps : Parts) → HasTreeForm t → IsStart (first_of (tree_parts t ++ ps))
tree-start (operator o) ps h = inl h
tree-start (with_tree g t) ps h = inl (subst (λ x. IsOwnName (first_of x)) (sym (regroup (opened g) (tree_parts t) (codes ")" ∷ []) ps)) (front-start g (tree_parts t ++ (codes ")" ∷ ps)) h.0 h.1))
tree-start (with_name g n) ps h = inl (subst (λ x. IsOwnName (first_of x)) (sym (append_assoc (opened g) ((36 ∷ n) ∷ codes ")" ∷ []) ps)) (front-start g ((36 ∷ n) ∷ codes ")" ∷ ps) h.0 h.1))
tree-start (with_number g d) ps h = inl (subst (λ x. IsOwnName (first_of x)) (sym (append_assoc (opened g) (d ∷ codes ")" ∷ []) ps)) (front-start g (d ∷ codes ")" ∷ ps) h.0 h.1))
tree-start (with_text g w) ps h = inl (subst (λ x. IsOwnName (first_of x)) (sym (append_assoc (opened g) (quoted_part w ∷ codes ")" ∷ []) ps)) (front-start g (quoted_part w ∷ codes ")" ∷ ps) h.0 h.1))
tree-start list_end ps h = inr refl
tree-start (list_rest l t) ps h = inr refl
tree-start (element e r) ps h = inr refl
tree-start (place k t) ps h = inl refl

start-no_kind : (p : List ℕ) → IsStart p → is_name_from is_upper p ≡ false
start-no_kind p (inl h) = own-no_kind p h
start-no_kind p (inr e) = ap (is_name_from is_upper) e

start-not : (p q : List ℕ) → IsStart p → (IsOwnName q → ⊥) → (q ≡ codes "[" → ⊥) → p ≡ q → ⊥
start-not p q (inl h) k m e = k (subst IsOwnName e h)
start-not p q (inr h) k m e = m (sym e ∙ h)

tree-goes_on : (t : WrittenTree) (ps : Parts) → HasTreeForm t → GoesOn (tree_parts t ++ ps)
tree-goes_on t ps h = record {
  close = start-not _ (codes "]") (tree-start t ps h) (λ k. false≢true k) (λ e. omega (arith, ap byte_of e));
  bar = start-not _ (codes "|") (tree-start t ps h) (λ k. false≢true k) (λ e. omega (arith, ap byte_of e));
}

-- no bracket is opened by these
not-opened-by : (p : List ℕ) (ps : Parts) → (byte_of p ≡ 40 → ⊥) → IsNotOpened (p ∷ ps)
not-opened-by p ps h rest e = h (ap (λ x. byte_of (first_of x)) e)

follow-not_opened : (r : WrittenTree) (ps : Parts) → is_list r ≡ true → IsNotOpened (follow r ++ ps)
follow-not_opened list_end ps h = not-opened-by (codes "]") ps (λ e. omega (arith, e))
follow-not_opened (list_rest l t) ps h = not-opened-by (codes "|") ((place_parts l t ++ codes "]" ∷ []) ++ ps) (λ e. omega (arith, e))
follow-not_opened (element e r) ps h = not-opened-by (codes ",") ((tree_parts e ++ follow r) ++ ps) (λ e. omega (arith, e))
follow-not_opened (operator o) ps h = absurd (false≢true h)
follow-not_opened (with_tree f t) ps h = absurd (false≢true h)
follow-not_opened (with_name f n) ps h = absurd (false≢true h)
follow-not_opened (with_number f d) ps h = absurd (false≢true h)
follow-not_opened (with_text f w) ps h = absurd (false≢true h)
follow-not_opened (place k t) ps h = absurd (false≢true h)

list-snoc : (end : WrittenTree) (es : List WrittenTree) (e : WrittenTree) → list_of end (es ++ e ∷ []) ≡ list_of (element e end) es
list-snoc end [] e = refl
list-snoc end (x ∷ xs) e = ap (element x) (list-snoc end xs e)

-- ---- a walk over a specimen

begun-tree : (fs : List TreeFrame) (t : WrittenTree) → begun fs (a_tree t) ≡ Some (placed fs t)
begun-tree [] t = refl
begun-tree (f ∷ fs) t = refl

begun-frame : (fs : List TreeFrame) (f : TreeFrame) → begun fs (a_frame f) ≡ Some (expects (f ∷ fs))
begun-frame [] f = refl
begun-frame (g ∷ fs) f = refl

module _ (u : WrittenTree) (rest : Parts) where
  -- a whole specimen begins and ends
  by-tree : (fs : List TreeFrame) (t : WrittenTree) (ps behind : Parts) → Begins ps (a_tree t) behind → Leads u rest (placed fs t) behind → Leads u rest (expects fs) ps
  by-tree fs t ps behind x l = goes (expects fs) (placed fs t) ps behind (a_tree t, x, begun-tree fs t) l

  by-frame : (fs : List TreeFrame) (f : TreeFrame) (ps behind : Parts) → Begins ps (a_frame f) behind → Leads u rest (expects (f ∷ fs)) behind → Leads u rest (expects fs) ps
  by-frame fs f ps behind x l = goes (expects fs) (expects (f ∷ fs)) ps behind (a_frame f, x, begun-frame fs f) l

  by-part : (fs : List TreeFrame) (f : WrittenTree) (p : LinePart) (behind : Parts) → IsLiteral p → Leads u rest (after (in_operator (with_part f p) ∷ fs)) behind → Leads u rest (expects (in_operator f ∷ fs)) (literal_part p ∷ behind)
  by-part fs f p behind h l = goes (expects (in_operator f ∷ fs)) (after (in_operator (with_part f p) ∷ fs)) (literal_part p ∷ behind) behind (a_part p, a_literal p refl h refl, refl) l

  by-close : (fs : List TreeFrame) (f : WrittenTree) (ps : Parts) → Leads u rest (placed fs f) ps → Leads u rest (after (in_operator f ∷ fs)) (codes ")" ∷ ps)
  by-close fs f ps l = goes (after (in_operator f ∷ fs)) (placed fs f) (codes ")" ∷ ps) ps (a_close, close refl refl, refl) l

  by-comma : (fs : List TreeFrame) (f : TreeFrame) (ps : Parts) → Leads u rest (expects (f ∷ fs)) ps → Leads u rest (after (f ∷ fs)) (codes "," ∷ ps)
  by-comma fs f ps l = goes (after (f ∷ fs)) (expects (f ∷ fs)) (codes "," ∷ ps) ps (a_comma, comma refl refl, refl) l

  by-end : (fs : List TreeFrame) (es : List WrittenTree) (end : WrittenTree) (ps behind : Parts) → Finishes ps (an_end end) behind → Leads u rest (placed fs (list_of end es)) behind → Leads u rest (after (in_list es ∷ fs)) ps
  by-end fs es end ps behind x l = goes (after (in_list es ∷ fs)) (placed fs (list_of end es)) ps behind (an_end end, x, refl) l

-- What the parts of a specimen, those before its next part, and those behind an element before it lead to.
pub record IsTreeOver (t : WrittenTree) : Type 0 where
  pub whole : (fs : List TreeFrame) (ps : Parts) (u : WrittenTree) (rest : Parts) → IsNotOpened ps → Leads u rest (placed fs t) ps → Leads u rest (expects fs) (tree_parts t ++ ps)
  pub before : is_front t ≡ true → (fs : List TreeFrame) (ps : Parts) (u : WrittenTree) (rest : Parts) → is_name_from is_upper (first_of ps) ≡ false → Leads u rest (expects (in_operator t ∷ fs)) ps → Leads u rest (expects fs) (opened t ++ ps)
  pub behind : is_list t ≡ true → (fs : List TreeFrame) (es : List WrittenTree) (ps : Parts) (u : WrittenTree) (rest : Parts) → Leads u rest (placed fs (list_of t es)) ps → Leads u rest (after (in_list es ∷ fs)) (follow t ++ ps)

-- an operator with one more literal part
literal-over : (f : WrittenTree) (p : LinePart) → IsTreeOver f → is_front f ≡ true → IsLiteral p → (tail : List ℕ) (fs : List TreeFrame) (ps : Parts) (u : WrittenTree) (rest : Parts)
    → Leads u rest (after (in_operator (with_part f p) ∷ fs)) (tail ∷ ps) → Leads u rest (expects fs) ((opened f ++ literal_part p ∷ tail ∷ []) ++ ps)
literal-over f p over front h tail fs ps u rest l =
    subst (Leads u rest (expects fs)) (sym (append_assoc (opened f) (literal_part p ∷ tail ∷ []) ps))
    (over.before front fs (literal_part p ∷ tail ∷ ps) u rest (literal-no_kind p h) (by-part u rest fs f p (tail ∷ ps) h l))

pub tree-over : (t : WrittenTree) → HasTreeForm t → IsTreeOver t
tree-over (operator o) h = record {
  whole = λ fs ps u rest apart l. by-tree u rest fs (operator o) (o ∷ ps) ps (a_leaf o refl h apart refl) l;
  before = λ k fs ps u rest lower l. by-frame u rest fs (in_operator (operator o)) (o ∷ codes "(" ∷ ps) ps (an_operator o refl h lower refl) l;
  behind = λ k. absurd (false≢true k);
}
tree-over (with_tree f t) h =
    let front = tree-over f h.1 in
    let inner = tree-over t h.2 in
    record {
      whole = λ fs ps u rest apart l.
          subst (Leads u rest (expects fs)) (sym (regroup (opened f) (tree_parts t) (codes ")" ∷ []) ps))
          (front.before h.0 fs (tree_parts t ++ (codes ")" ∷ ps)) u rest (start-no_kind _ (tree-start t (codes ")" ∷ ps) h.2))
          (inner.whole (in_operator f ∷ fs) (codes ")" ∷ ps) u rest (not-opened-by (codes ")") ps (λ e. omega (arith, e))) (by-close u rest fs (with_tree f t) ps l)));
      before = λ k fs ps u rest lower l.
          subst (Leads u rest (expects fs)) (sym (regroup (opened f) (tree_parts t) (codes "," ∷ []) ps))
          (front.before h.0 fs (tree_parts t ++ (codes "," ∷ ps)) u rest (start-no_kind _ (tree-start t (codes "," ∷ ps) h.2))
          (inner.whole (in_operator f ∷ fs) (codes "," ∷ ps) u rest (not-opened-by (codes ",") ps (λ e. omega (arith, e))) (by-comma u rest fs (in_operator (with_tree f t)) ps l)));
      behind = λ k. absurd (false≢true k);
    }
tree-over (with_name f n) h =
    let front = tree-over f h.1 in
    record {
      whole = λ fs ps u rest apart l. literal-over f (parts.Name n) front h.0 h.2 (codes ")") fs ps u rest (by-close u rest fs (with_name f n) ps l);
      before = λ k fs ps u rest lower l. literal-over f (parts.Name n) front h.0 h.2 (codes ",") fs ps u rest (by-comma u rest fs (in_operator (with_name f n)) ps l);
      behind = λ k. absurd (false≢true k);
    }
tree-over (with_number f d) h =
    let front = tree-over f h.1 in
    record {
      whole = λ fs ps u rest apart l. literal-over f (parts.Number d) front h.0 (h.2, h.3) (codes ")") fs ps u rest (by-close u rest fs (with_number f d) ps l);
      before = λ k fs ps u rest lower l. literal-over f (parts.Number d) front h.0 (h.2, h.3) (codes ",") fs ps u rest (by-comma u rest fs (in_operator (with_number f d)) ps l);
      behind = λ k. absurd (false≢true k);
    }
tree-over (with_text f w) h =
    let front = tree-over f h.1 in
    record {
      whole = λ fs ps u rest apart l. literal-over f (parts.Text w) front h.0 h.2 (codes ")") fs ps u rest (by-close u rest fs (with_text f w) ps l);
      before = λ k fs ps u rest lower l. literal-over f (parts.Text w) front h.0 h.2 (codes ",") fs ps u rest (by-comma u rest fs (in_operator (with_text f w)) ps l);
      behind = λ k. absurd (false≢true k);
    }
tree-over list_end h = record {
  whole = λ fs ps u rest apart l. by-tree u rest fs list_end (codes "[" ∷ codes "]" ∷ ps) ps (an_empty refl refl) l;
  before = λ k. absurd (false≢true k);
  behind = λ k fs es ps u rest l. by-end u rest fs es list_end (codes "]" ∷ ps) ps (bracket refl refl) l;
}
tree-over (list_rest k t) h = record {
  whole = λ fs ps u rest apart l.
      by-tree u rest fs (list_rest k t) (codes "[" ∷ codes "|" ∷ ((place_parts k t ++ codes "]" ∷ []) ++ ps)) ps
      (a_rest k t (ap (λ x. codes "[" ∷ codes "|" ∷ x) (append_assoc (place_parts k t) (codes "]" ∷ []) ps)) h.0 h.1 refl) l;
  before = λ f. absurd (false≢true f);
  behind = λ f fs es ps u rest l.
      by-end u rest fs es (list_rest k t) (codes "|" ∷ ((place_parts k t ++ codes "]" ∷ []) ++ ps)) ps
      (bar k t (ap (λ x. codes "|" ∷ x) (append_assoc (place_parts k t) (codes "]" ∷ []) ps)) h.0 h.1 refl) l;
}
tree-over (element e r) h =
    let first = tree-over e h.1 in
    let others = tree-over r h.2 in
    record {
      whole = λ fs ps u rest apart l.
          subst (λ x. Leads u rest (expects fs) (codes "[" ∷ x)) (sym (append_assoc (tree_parts e) (follow r) ps))
          (by-frame u rest fs (in_list []) (codes "[" ∷ (tree_parts e ++ (follow r ++ ps))) (tree_parts e ++ (follow r ++ ps)) (a_list refl (tree-goes_on e (follow r ++ ps) h.1) refl)
          (first.whole (in_list [] ∷ fs) (follow r ++ ps) u rest (follow-not_opened r ps h.0) (others.behind h.0 fs (e ∷ []) ps u rest l)));
      before = λ f. absurd (false≢true f);
      behind = λ f fs es ps u rest l.
          subst (λ x. Leads u rest (after (in_list es ∷ fs)) (codes "," ∷ x)) (sym (append_assoc (tree_parts e) (follow r) ps))
          (by-comma u rest fs (in_list es) (tree_parts e ++ (follow r ++ ps))
          (first.whole (in_list es ∷ fs) (follow r ++ ps) u rest (follow-not_opened r ps h.0)
          (others.behind h.0 fs (es ++ e ∷ []) ps u rest (subst (λ x. Leads u rest (placed fs x) ps) (sym (list-snoc r es e)) l))));
    }
tree-over (place k t) h = record {
  whole = λ fs ps u rest apart l. by-tree u rest fs (place k t) (place_parts k t ++ ps) ps (a_place k t refl h.0 h.1 refl) l;
  before = λ f. absurd (false≢true f);
  behind = λ f. absurd (false≢true f);
}
