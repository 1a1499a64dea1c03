-- Lines without terms from their parts.
use Rattle.std.proofs.Common.{◌≡◌, ℕ, ◌-◌, ◌<◌, ◌≤◌, Bool, true, false, cond, List, [], ◌∷◌, ◌++◌, take, drop, get_or, length, append_assoc, map, codes, refl, ap, sym, ◌∙◌, subst, arith}
use Rattle.std.specs.List.{AllByRecursion}
use Rattle.std.proofs.lemmas.Bool.{false≢true}
use Rattle.std.proofs.lemmas.List.{take_rest}
use Rattle.psg_terms.specs.Names.{Name}
use Rattle.psg_terms.specs.declared.declare.ConDecl.{ConDecl}
use Rattle.psg_grammar.specs.Sound.{IsKindName, IsOwnName, IsLevel}
use Rattle.psg_grammar.specs.declared.types.Level.{Level}
use Rattle.psg_deflines.specs.Parts.{texts}
use Rattle.psg_deflines.specs.WrittenTrees.{quoted_part, IsQuotable}
use Rattle.psg_deflines.specs.Quotes.{IsQuoteOf}
use Rattle.psg_deflines.specs.Forms.{constructor_parts, word_if, level_parts, item_part, HasForm, HasItemForm}
use Rattle.psg_deflines.specs.TermWalks.{Parts}
use Rattle.psg_deflines.specs.FormReads.{AreItemParts, HasNoItems, header_parts, IsHeaderRead, HasNoHeader, IsForm, HasNoForm, IsNeither}
use Rattle.psg_deflines.specs.Only.{IsOnly}
use Rattle.psg_deflines.specs.declared.lines.LineItem.{LineItem}
use Rattle.psg_deflines.specs.declared.lines.Line.{Line}
use Rattle.psg_deflines.specs.declared.lines.Line.TheVariants as lines
use Rattle.psg_deflines.proofs.TermFound.{texts-length}
use Rattle.psg_deflines.proofs.PartReads.{Slices, no-slice, rest_of, first_of, byte_of}
use Rattle.psg_deflines.proofs.LineInverses.{Is_sort, sort_line, sort-inverse, Is_entity, entity_line, entity-inverse, Is_space, space_line, space-inverse, Is_phylum, phylum_line, phylum-inverse, Is_list, list_line, list-inverse, Is_op, op_line, op-inverse}

abbrev at : Slices → ℕ → List ℕ
at ts n = (get_or ts n no-slice).now

-- more than one part
pub neither : (ts : Slices) (word : List ℕ) → 2 ≤ length ts → IsNeither (texts ts) word
neither ts word long true e = omega (arith, ap length e, texts-length ts)
neither ts word long false e = omega (arith, ap length e, texts-length ts)

pub neither-one : (ts : Slices) (word : List ℕ) → length ts ≡ 1 → (at ts 0 ≡ word → ⊥) → IsNeither (texts ts) word
neither-one [] word long other b e = omega arith
neither-one (t ∷ ts) word long other true e = other (ap first_of e)
neither-one (t ∷ ts) word long other false e = omega (arith, ap length e)

-- ---- sorts and entities

cons-long : (cs : List ConDecl) → 0 < length cs → 1 ≤ length (constructor_parts cs)
cons-long [] h = absurd (omega arith)
cons-long (c ∷ cs) h = omega arith

pub sort-long : (ts : Slices) (line : Line) → IsForm (codes "sort" ∷ texts ts) line → 3 ≤ length ts
sort-long ts line h = long line (sort-inverse (texts ts) line h.written) h.form
  where
    long : (line : Line) → Is_sort (texts ts) line → HasForm line → 3 ≤ length ts
    long _ (sort_line d e) form = omega (arith, ap length e, texts-length ts, cons-long d.constructors form.1)

second : (ts : Slices) → 2 ≤ length ts → first_of (rest_of (texts ts)) ≡ at ts 1
second [] h = absurd (omega arith)
second (t ∷ []) h = absurd (omega arith)
second (t ∷ u ∷ ts) h = refl

pub sort-equals : (ts : Slices) (line : Line) → 2 ≤ length ts → IsForm (codes "sort" ∷ texts ts) line → at ts 1 ≡ codes "="
sort-equals ts line h k = by_line line (sort-inverse (texts ts) line k.written)
  where
    by_line : (line : Line) → Is_sort (texts ts) line → at ts 1 ≡ codes "="
    by_line _ (sort_line d e) = sym (second ts h) ∙ ap (λ xs. first_of (rest_of xs)) e

pub entity-long : (ts : Slices) (line : Line) → IsForm (codes "entity" ∷ texts ts) line → length ts ≡ 1
entity-long ts line h = long line (entity-inverse (texts ts) line h.written)
  where
    long : (line : Line) → Is_entity (texts ts) line → length ts ≡ 1
    long _ (entity_line s e) = omega (arith, ap length e, texts-length ts)

one : (ts : Slices) → length ts ≡ 1 → texts ts ≡ at ts 0 ∷ []
one [] h = absurd (omega arith)
one (t ∷ []) h = refl
one (t ∷ u ∷ ts) h = absurd (omega arith)

pub entity-only : (ts : Slices) (n s : Name) → length ts ≡ 1 → n ≡ [] → (s ≡ at ts 0) × IsKindName (at ts 0) → IsOnly (IsForm (codes "entity" ∷ texts ts)) (lines.Space n s)
entity-only ts n s long none p = subst (λ m. IsOnly (IsForm (codes "entity" ∷ texts ts)) (lines.Space m s)) (sym none) (record {
  is = record { form = (tt, subst IsKindName (sym p.0) p.1); written = ap (λ x. codes "entity" ∷ x ∷ []) p.0 ∙ ap (λ ps. codes "entity" ∷ ps) (sym (one ts long)) };
  only = λ line h. by_line line (entity-inverse (texts ts) line h.written);
})
  where
    by_line : (line : Line) → Is_entity (texts ts) line → line ≡ lines.Space [] s
    by_line _ (entity_line m e) = ap (lines.Space []) (sym (ap first_of e) ∙ ap first_of (one ts long) ∙ sym p.0)

pub space-long : (ts : Slices) (line : Line) → IsForm (codes "space" ∷ texts ts) line → length ts ≡ 3
space-long ts line h = long line (space-inverse (texts ts) line h.written)
  where
    long : (line : Line) → Is_space (texts ts) line → length ts ≡ 3
    long _ (space_line c cs s e) = omega (arith, ap length e, texts-length ts)

three-all : (ts : Slices) → length ts ≡ 3 → texts ts ≡ at ts 0 ∷ at ts 1 ∷ at ts 2 ∷ []
three-all [] h = absurd (omega arith)
three-all (a ∷ []) h = absurd (omega arith)
three-all (a ∷ b ∷ []) h = absurd (omega arith)
three-all (a ∷ b ∷ c ∷ []) h = refl
three-all (a ∷ b ∷ c ∷ d ∷ ts) h = absurd (omega arith)

-- what a space's line says of the parts
pub record IsSpaceOf (ts : Slices) (line : Line) : Type 0 where
  pub name : Name
  pub sort : Name
  pub is : line ≡ lines.Space name sort
  pub forms : IsOwnName name × IsKindName sort
  pub p0 : at ts 0 ≡ name
  pub p1 : at ts 1 ≡ codes ":"
  pub p2 : at ts 2 ≡ sort

pub space-parts : (ts : Slices) (line : Line) → length ts ≡ 3 → IsForm (codes "space" ∷ texts ts) line → IsSpaceOf ts line
space-parts ts line long h = by_line line (space-inverse (texts ts) line h.written) h.form
  where
    by_line : (line : Line) → Is_space (texts ts) line → HasForm line → IsSpaceOf ts line
    by_line _ (space_line c cs s e) form =
        let g = sym (three-all ts long) ∙ e in
        record { name = c ∷ cs; sort = s; is = refl; forms = form; p0 = ap first_of g; p1 = ap (λ xs. first_of (rest_of xs)) g; p2 = ap (λ xs. first_of (rest_of (rest_of xs))) g }

pub space-only : (ts : Slices) (n s : Name) → length ts ≡ 3 → (n ≡ at ts 0) × IsOwnName (at ts 0) → at ts 1 ≡ codes ":" → (s ≡ at ts 2) × IsKindName (at ts 2) → IsOnly (IsForm (codes "space" ∷ texts ts)) (lines.Space n s)
space-only ts n s long p0 p1 p2 = record {
  is = is n (subst IsOwnName (sym p0.0) p0.1) p0.0;
  only = λ line h. (
      let o = space-parts ts line long h in
      let a : o.name ≡ n = sym o.p0 ∙ sym p0.0 in
      let b : o.sort ≡ s = sym o.p2 ∙ sym p2.0 in
      o.is ∙ ap (λ x. lines.Space x o.sort) a ∙ ap (lines.Space n) b
      );
}
  where
    is : (m : Name) → IsOwnName m → m ≡ at ts 0 → IsForm (codes "space" ∷ texts ts) (lines.Space m s)
    is [] own e = absurd (false≢true own)
    is (c ∷ cs) own e = record {
      form = (own, subst IsKindName (sym p2.0) p2.1);
      written = ap (λ x. codes "space" ∷ x) (ap (λ x. x ∷ codes ":" ∷ s ∷ []) e ∙ ap (λ x. at ts 0 ∷ x ∷ s ∷ []) (sym p1) ∙ ap (λ x. at ts 0 ∷ at ts 1 ∷ x ∷ []) p2.0 ∙ sym (three-all ts long));
    }

pub phylum-long : (ts : Slices) (line : Line) → IsForm (codes "phylum" ∷ texts ts) line → 3 ≤ length ts
phylum-long ts line h = long line (phylum-inverse (texts ts) line h.written)
  where
    long : (line : Line) → Is_phylum (texts ts) line → 3 ≤ length ts
    long _ (phylum_line n s b e) = omega (arith, ap length e, texts-length ts)

-- ---- lists

pub list-long : (ts : Slices) (line : Line) → IsForm (codes "list" ∷ texts ts) line → length ts ≡ 8
list-long ts line h = long line (list-inverse (texts ts) line h.written)
  where
    long : (line : Line) → Is_list (texts ts) line → length ts ≡ 8
    long _ (list_line n s e w l u f) = omega (arith, ap length f, texts-length ts)

pub eight : (ts : Slices) → length ts ≡ 8 → texts ts ≡ at ts 0 ∷ at ts 1 ∷ at ts 2 ∷ at ts 3 ∷ at ts 4 ∷ at ts 5 ∷ at ts 6 ∷ at ts 7 ∷ []
eight (a ∷ b ∷ c ∷ d ∷ e ∷ f ∷ g ∷ h ∷ []) k = refl
eight [] k = absurd (omega arith)
eight (a ∷ []) k = absurd (omega arith)
eight (a ∷ b ∷ []) k = absurd (omega arith)
eight (a ∷ b ∷ c ∷ []) k = absurd (omega arith)
eight (a ∷ b ∷ c ∷ d ∷ []) k = absurd (omega arith)
eight (a ∷ b ∷ c ∷ d ∷ e ∷ []) k = absurd (omega arith)
eight (a ∷ b ∷ c ∷ d ∷ e ∷ f ∷ []) k = absurd (omega arith)
eight (a ∷ b ∷ c ∷ d ∷ e ∷ f ∷ g ∷ []) k = absurd (omega arith)
eight (a ∷ b ∷ c ∷ d ∷ e ∷ f ∷ g ∷ h ∷ i ∷ ts) k = absurd (omega arith)

abbrev layout : Bool → List ℕ
layout b = cond b (codes "lines") (codes "inline")

abbrev close : Bool → List ℕ
close b = cond b (codes "unfinished") (codes "fixed")

layout-same : (a b : Bool) → layout a ≡ layout b → a ≡ b
layout-same true true e = refl
layout-same true false e = absurd (omega (arith, ap byte_of e))
layout-same false true e = absurd (omega (arith, ap byte_of e))
layout-same false false e = refl

close-same : (a b : Bool) → close a ≡ close b → a ≡ b
close-same true true e = refl
close-same true false e = absurd (omega (arith, ap byte_of e))
close-same false true e = absurd (omega (arith, ap byte_of e))
close-same false false e = refl

-- what a list's line says of the parts
pub record IsListOf (ts : Slices) (line : Line) : Type 0 where
  pub name : Name
  pub sort : Name
  pub elem : Name
  pub word : Name
  pub on_lines : Bool
  pub unfinished : Bool
  pub is : line ≡ lines.List name sort elem word on_lines unfinished
  pub forms : IsKindName name × IsKindName sort × IsKindName elem × IsQuotable word
  pub p0 : at ts 0 ≡ name
  pub p1 : at ts 1 ≡ codes ":"
  pub p2 : at ts 2 ≡ sort
  pub p3 : at ts 3 ≡ codes "of"
  pub p4 : at ts 4 ≡ elem
  pub p5 : at ts 5 ≡ quoted_part word
  pub p6 : at ts 6 ≡ layout on_lines
  pub p7 : at ts 7 ≡ close unfinished

pub list-parts : (ts : Slices) (line : Line) → IsForm (codes "list" ∷ texts ts) line → IsListOf ts line
list-parts ts line h = by_line line (list-inverse (texts ts) line h.written) h.form
  where
    by_line : (line : Line) → Is_list (texts ts) line → HasForm line → IsListOf ts line
    by_line _ (list_line n s e w l u f) form =
        let g = sym (eight ts (list-long ts line h)) ∙ f in
        record {
          name = n;
          sort = s;
          elem = e;
          word = w;
          on_lines = l;
          unfinished = u;
          is = refl;
          forms = form;
          p0 = ap first_of g;
          p1 = ap (λ xs. first_of (rest_of xs)) g;
          p2 = ap (λ xs. first_of (rest_of (rest_of xs))) g;
          p3 = ap (λ xs. first_of (rest_of (rest_of (rest_of xs)))) g;
          p4 = ap (λ xs. first_of (rest_of (rest_of (rest_of (rest_of xs))))) g;
          p5 = ap (λ xs. first_of (rest_of (rest_of (rest_of (rest_of (rest_of xs)))))) g;
          p6 = ap (λ xs. first_of (rest_of (rest_of (rest_of (rest_of (rest_of (rest_of xs))))))) g;
          p7 = ap (λ xs. first_of (rest_of (rest_of (rest_of (rest_of (rest_of (rest_of (rest_of xs)))))))) g;
        }

pub list-only : (ts : Slices) (n s e w : Name) (l u : Bool) → length ts ≡ 8 → (n ≡ at ts 0) × IsKindName (at ts 0) → at ts 1 ≡ codes ":" → (s ≡ at ts 2) × IsKindName (at ts 2) → at ts 3 ≡ codes "of"
    → (e ≡ at ts 4) × IsKindName (at ts 4) → IsOnly (IsQuoteOf (at ts 5)) w → at ts 6 ≡ layout l → at ts 7 ≡ close u → IsOnly (IsForm (codes "list" ∷ texts ts)) (lines.List n s e w l u)
list-only ts n s e w l u long p0 p1 p2 p3 p4 p5 p6 p7 = record {
  is = record {
    form = (subst IsKindName (sym p0.0) p0.1, subst IsKindName (sym p2.0) p2.1, subst IsKindName (sym p4.0) p4.1, p5.is.quotable);
    written = ap (λ x. codes "list" ∷ x) (
        ap (λ x. x ∷ codes ":" ∷ s ∷ codes "of" ∷ e ∷ quoted_part w ∷ layout l ∷ close u ∷ []) p0.0
        ∙ ap (λ x. at ts 0 ∷ x ∷ s ∷ codes "of" ∷ e ∷ quoted_part w ∷ layout l ∷ close u ∷ []) (sym p1)
        ∙ ap (λ x. at ts 0 ∷ at ts 1 ∷ x ∷ codes "of" ∷ e ∷ quoted_part w ∷ layout l ∷ close u ∷ []) p2.0
        ∙ ap (λ x. at ts 0 ∷ at ts 1 ∷ at ts 2 ∷ x ∷ e ∷ quoted_part w ∷ layout l ∷ close u ∷ []) (sym p3)
        ∙ ap (λ x. at ts 0 ∷ at ts 1 ∷ at ts 2 ∷ at ts 3 ∷ x ∷ quoted_part w ∷ layout l ∷ close u ∷ []) p4.0
        ∙ ap (λ x. at ts 0 ∷ at ts 1 ∷ at ts 2 ∷ at ts 3 ∷ at ts 4 ∷ x ∷ layout l ∷ close u ∷ []) p5.is.written
        ∙ ap (λ x. at ts 0 ∷ at ts 1 ∷ at ts 2 ∷ at ts 3 ∷ at ts 4 ∷ at ts 5 ∷ x ∷ close u ∷ []) (sym p6)
        ∙ ap (λ x. at ts 0 ∷ at ts 1 ∷ at ts 2 ∷ at ts 3 ∷ at ts 4 ∷ at ts 5 ∷ at ts 6 ∷ x ∷ []) (sym p7)
        ∙ sym (eight ts long)
        );
  };
  only = λ line h. (
      let o = list-parts ts line h in
      let a : o.name ≡ n = sym o.p0 ∙ sym p0.0 in
      let b : o.sort ≡ s = sym o.p2 ∙ sym p2.0 in
      let c : o.elem ≡ e = sym o.p4 ∙ sym p4.0 in
      let d : o.word ≡ w = p5.only o.word (record { quotable = o.forms.3; written = sym o.p5 }) in
      let f : o.on_lines ≡ l = layout-same o.on_lines l (sym o.p6 ∙ p6) in
      let g : o.unfinished ≡ u = close-same o.unfinished u (sym o.p7 ∙ p7) in
      let k : lines.List o.name o.sort o.elem o.word o.on_lines o.unfinished ≡ lines.List n s e w l u = cc in
      o.is ∙ k
      );
}

-- ---- operators

pub three : (ts : Slices) → 3 ≤ length ts → texts ts ≡ at ts 0 ∷ at ts 1 ∷ at ts 2 ∷ texts (take (length ts - 3) (drop 3 ts))
three [] h = absurd (omega arith)
three (a ∷ []) h = absurd (omega arith)
three (a ∷ b ∷ []) h = absurd (omega arith)
three (a ∷ b ∷ c ∷ ts) h = ap (λ xs. a.now ∷ b.now ∷ c.now ∷ texts xs) (sym (take_rest (a ∷ b ∷ c ∷ ts) 3))

pub op-long : (ts : Slices) (line : Line) → IsForm (codes "op" ∷ texts ts) line → 3 ≤ length ts
op-long ts line h = long line (op-inverse (texts ts) line h.written)
  where
    long : (line : Line) → Is_op (texts ts) line → 3 ≤ length ts
    long _ (op_line n k s l ms e) = omega (arith, ap length e, texts-length ts)

-- what an operator's line says of the parts
pub record IsOperatorOf (ts : Slices) (line : Line) : Type 0 where
  pub name : Name
  pub kind : Name
  pub scope : Bool
  pub level : Level
  pub made : List LineItem
  pub is : line ≡ lines.Operator name kind scope level made
  pub forms : IsOwnName name × IsKindName kind × IsLevel level × (0 < length made) × AllByRecursion HasItemForm made
  pub p0 : at ts 0 ≡ name
  pub p1 : at ts 1 ≡ codes ":"
  pub p2 : at ts 2 ≡ kind
  pub behind : texts (take (length ts - 3) (drop 3 ts)) ≡ header_parts scope level ++ map item_part made

pub op-parts : (ts : Slices) (line : Line) → 3 ≤ length ts → IsForm (codes "op" ∷ texts ts) line → IsOperatorOf ts line
op-parts ts line long h = by_line line (op-inverse (texts ts) line h.written) h.form
  where
    group : (a b c : Parts) → a ++ (b ++ (codes "=" ∷ c)) ≡ (a ++ (b ++ codes "=" ∷ [])) ++ c
    group a b c = ap (λ x. a ++ x) (sym (append_assoc b (codes "=" ∷ []) c)) ∙ sym (append_assoc a (b ++ codes "=" ∷ []) c)

    by_line : (line : Line) → Is_op (texts ts) line → HasForm line → IsOperatorOf ts line
    by_line _ (op_line n k s l ms e) form =
        let g = sym (three ts long) ∙ e in
        record {
          name = n;
          kind = k;
          scope = s;
          level = l;
          made = ms;
          is = refl;
          forms = form;
          p0 = ap first_of g;
          p1 = ap (λ xs. first_of (rest_of xs)) g;
          p2 = ap (λ xs. first_of (rest_of (rest_of xs))) g;
          behind = ap (λ xs. rest_of (rest_of (rest_of xs))) g ∙ group (word_if s (codes "scope")) (level_parts l) (map item_part ms);
        }

map-length : (ms : List LineItem) → length (map item_part ms) ≡ length ms
map-length [] = refl
map-length (m ∷ ms) = omega (arith, map-length ms)

module _ (ts : Slices) (long : 3 ≤ length ts) where
  behind : Parts
  behind = texts (take (length ts - 3) (drop 3 ts))

  pub op-no_header : HasNoHeader (texts (take (length ts - 3) (drop 3 ts))) → HasNoForm (codes "op" ∷ texts ts)
  op-no_header none line h = let o = op-parts ts line long h in none o.scope o.level (map item_part o.made) o.forms.2 o.behind

  pub op-no_items : (s : Bool) (l : Level) (taken : ℕ) → IsHeaderRead (texts (take (length ts - 3) (drop 3 ts))) s l taken → HasNoItems (drop taken (texts (take (length ts - 3) (drop 3 ts)))) → HasNoForm (codes "op" ∷ texts ts)
  op-no_items s l taken header none line h =
      let o = op-parts ts line long h in
      let same = header.only o.scope o.level (map item_part o.made) o.forms.2 o.behind in
      none o.made (record { each = o.forms.4; written = same.2 })

  pub op-empty : (s : Bool) (l : Level) (taken : ℕ) → IsHeaderRead (texts (take (length ts - 3) (drop 3 ts))) s l taken → length (drop taken (texts (take (length ts - 3) (drop 3 ts)))) ≡ 0 → HasNoForm (codes "op" ∷ texts ts)
  op-empty s l taken header none line h =
      let o = op-parts ts line long h in
      let same = header.only o.scope o.level (map item_part o.made) o.forms.2 o.behind in
      omega (arith, ap length same.2, map-length o.made, o.forms.3)

  pub op-only : (n k : Name) (s : Bool) (l : Level) (taken : ℕ) (ms : List LineItem) → (n ≡ at ts 0) × IsOwnName (at ts 0) → at ts 1 ≡ codes ":" → (k ≡ at ts 2) × IsKindName (at ts 2)
      → IsHeaderRead (texts (take (length ts - 3) (drop 3 ts))) s l taken → 0 < length (drop taken (texts (take (length ts - 3) (drop 3 ts)))) → IsOnly (AreItemParts (drop taken (texts (take (length ts - 3) (drop 3 ts))))) ms
      → IsOnly (IsForm (codes "op" ∷ texts ts)) (lines.Operator n k s l ms)
  op-only n k s l taken ms p0 p1 p2 header more items = record {
    is = record {
      form = (subst IsOwnName (sym p0.0) p0.1, subst IsKindName (sym p2.0) p2.1, header.form, omega (arith, ap length items.is.written, map-length ms), items.is.each);
      written = ap (λ x. codes "op" ∷ x) (
          ap (λ x. x ∷ codes ":" ∷ k ∷ word_if s (codes "scope") ++ (level_parts l ++ (codes "=" ∷ map item_part ms))) p0.0
          ∙ ap (λ x. at ts 0 ∷ x ∷ k ∷ word_if s (codes "scope") ++ (level_parts l ++ (codes "=" ∷ map item_part ms))) (sym p1)
          ∙ ap (λ x. at ts 0 ∷ at ts 1 ∷ x ∷ word_if s (codes "scope") ++ (level_parts l ++ (codes "=" ∷ map item_part ms))) p2.0
          ∙ ap (λ x. at ts 0 ∷ at ts 1 ∷ at ts 2 ∷ x) (group (word_if s (codes "scope")) (level_parts l) (map item_part ms) ∙ ap (λ x. header_parts s l ++ x) items.is.written ∙ sym header.written)
          ∙ sym (three ts long)
          );
    };
    only = λ line h. (
        let o = op-parts ts line long h in
        let same = header.only o.scope o.level (map item_part o.made) o.forms.2 o.behind in
        let a : o.name ≡ n = sym o.p0 ∙ sym p0.0 in
        let b : o.kind ≡ k = sym o.p2 ∙ sym p2.0 in
        let c : o.scope ≡ s = same.0 in
        let d : o.level ≡ l = same.1 in
        let e : o.made ≡ ms = items.only o.made (record { each = o.forms.4; written = same.2 }) in
        let f : lines.Operator o.name o.kind o.scope o.level o.made ≡ lines.Operator n k s l ms = cc in
        o.is ∙ f
        );
  }
    where
      group : (a b c : Parts) → a ++ (b ++ (codes "=" ∷ c)) ≡ (a ++ (b ++ codes "=" ∷ [])) ++ c
      group a b c = ap (λ x. a ++ x) (sym (append_assoc b (codes "=" ∷ []) c)) ∙ sym (append_assoc a (b ++ codes "=" ∷ []) c)
