-- Lists that are made item by item, and terms and specimens from their parts.
use Rattle.std.proofs.Common.{◌≡◌, List, [], ◌++◌, append_assoc, ap, sym, ◌∙◌, ℕ, ◌+◌, ◌<◌, ◌≤◌, ◌∷◌, map, take, length, get_or, Option, refl}
use Rattle.std.proofs.lemmas.List.{take_all}
use Rattle.psg_terms.proofs.Lists.{take_item}
use mathlib.Core.Former.{Count}
use Rattle.psg_terms.specs.Names.{Name}
use Rattle.psg_terms.specs.Terms.{Term}
use Rattle.psg_terms.specs.Terms as terms
use Rattle.psg_grammar.specs.declared.types.SpecimenHole.{SpecimenHole}
use Rattle.psg_grammar.specs.declared.types.SpecimenPart.{SpecimenPart}
use Rattle.psg_grammar.specs.declared.types.Specimen.{Specimen, Op, Op', List as ListOf, List', Row_of-Specimen, end_of-Specimen, more_of-Specimen, Row_of-SpecimenPart, end_of-SpecimenPart, more_of-SpecimenPart, items-the_row-SpecimenPart, items_hidden-the_row-SpecimenPart-0, items-the_row-Specimen, items_hidden-the_row-Specimen-1}
use Rattle.psg_grammar.specs.declared.types.Definition.{Definition}
use Rattle.psg_deflines.specs.WrittenTerms.{WrittenTerm, named, applied}
use Rattle.psg_deflines.specs.WrittenTrees.{WrittenTree, operator, element}
use Rattle.psg_deflines.specs.TreeShapes.{with_part, with_parts, list_of}
use Rattle.psg_deflines.specs.declared.trees.LinePart.{LinePart}
use Rattle.psg_defread.specs.WrittenLines.{term_written, constructor_name, operator_name, part_written, parts_written, elements_written, end_written, tree_written}

-- what stands behind a list stands behind its parts
behind : {X : Type 0} (before after here rest : List X) → after ≡ before ++ here
    → before ++ (here ++ rest) ≡ after ++ rest
behind before after here rest e = sym (ap (λ l. l ++ rest) e ∙ append_assoc before here rest)

pub nine : {X : Type 0} (s0 s1 s2 s3 s4 s5 s6 s7 s8 s9 a b c d e f g h i : List X) → s0 ≡ [] → s1 ≡ s0 ++ a
    → s2 ≡ s1 ++ b
    → s3 ≡ s2 ++ c → s4 ≡ s3 ++ d → s5 ≡ s4 ++ e → s6 ≡ s5 ++ f → s7 ≡ s6 ++ g → s8 ≡ s7 ++ h → s9 ≡ s8 ++ i
    → s9 ≡ a ++ (b ++ (c ++ (d ++ (e ++ (f ++ (g ++ (h ++ i)))))))
nine s0 s1 s2 s3 s4 s5 s6 s7 s8 s9 a b c d e f g h i p0 p1 p2 p3 p4 p5 p6 p7 p8 p9 =
    p9 ∙ sym (
    ap (λ l. l ++ (a ++ (b ++ (c ++ (d ++ (e ++ (f ++ (g ++ (h ++ i))))))))) (sym p0)
    ∙ behind s0 s1 a (b ++ (c ++ (d ++ (e ++ (f ++ (g ++ (h ++ i))))))) p1
    ∙ behind s1 s2 b (c ++ (d ++ (e ++ (f ++ (g ++ (h ++ i)))))) p2
    ∙ behind s2 s3 c (d ++ (e ++ (f ++ (g ++ (h ++ i))))) p3
    ∙ behind s3 s4 d (e ++ (f ++ (g ++ (h ++ i)))) p4 ∙ behind s4 s5 e (f ++ (g ++ (h ++ i))) p5
    ∙ behind s5 s6 f (g ++ (h ++ i)) p6 ∙ behind s6 s7 g (h ++ i) p7 ∙ behind s7 s8 h i p8
    )

-- a list of what is made of each
pub mapped-all : {X Y : Type 0} (f : X → Y) (xs : List X) (i : ℕ) (now : List Y) → length xs ≤ i → now ≡ map f (take i xs)
    → now ≡ map f xs
mapped-all f xs i now l b = b ∙ ap (map f) (take_all i xs l)

-- one, and then several
pub one-and-more : {Y : Type 0} (y z : Y) (more start between after : List Y) → between ≡ start ++ y ∷ []
    → after ≡ between ++ more → y ≡ z → after ≡ start ++ (z ∷ more)
one-and-more y z more start between after b a e =
    a ∙ ap (λ l. l ++ more) (b ∙ ap (λ x. start ++ x ∷ []) e) ∙ append_assoc start (z ∷ []) more

module _ (def : Definition) where
  applied-written : (t : Term) (args : List Term)
      → term_written def (terms.applied t args) ≡ applied (term_written def t) (map (term_written def) args)
  applied-written t [] = refl
  applied-written t (a ∷ rest) = applied-written (terms.apply t a) rest

  pub con-written : (t : Term) (c : ℕ) (kept args : List Term) (ws : List WrittenTerm) (w : WrittenTerm)
      → t ≡ terms.applied (terms.symbol c) kept → args ≡ kept → ws ≡ map (term_written def) args
      → w ≡ applied (named (constructor_name def c)) ws → w ≡ term_written def t
  con-written t c kept args ws w e k s a =
      a ∙ ap (applied (named (constructor_name def c))) (s ∙ ap (map (term_written def)) k)
      ∙ sym (ap (term_written def) e ∙ applied-written (terms.symbol c) kept)

  -- ---- operators

  abbrev listed : WrittenTree → List SpecimenPart → WrittenTree
  listed front [] = front
  listed front (p ∷ rest) = listed (part_written def front p) rest

  row-listed : (front : WrittenTree) (n : Count) (row : Row_of-SpecimenPart n)
      → parts_written def front row ≡ listed front (items-the_row-SpecimenPart n row)
  row-listed front n end_of-SpecimenPart = refl
  row-listed front n (more_of-SpecimenPart p rest) = row-listed (part_written def front p) _ rest

  listed-snoc : (front : WrittenTree) (ps : List SpecimenPart) (p : SpecimenPart)
      → listed front (ps ++ p ∷ []) ≡ part_written def (listed front ps) p
  listed-snoc front [] p = refl
  listed-snoc front (q ∷ ps) p = listed-snoc (part_written def front q) ps p

  with_parts-snoc : (front : WrittenTree) (ws : List LinePart) (w : LinePart)
      → with_parts front (ws ++ w ∷ []) ≡ with_part (with_parts front ws) w
  with_parts-snoc front [] w = refl
  with_parts-snoc front (v ∷ ws) w = with_parts-snoc (with_part front v) ws w

  -- parts as they are written, behind whatever stands in front of them
  abbrev pub AreWritten : List LinePart → List SpecimenPart → Type 0
  AreWritten ws ps = (front : WrittenTree) → with_parts front ws ≡ listed front ps

  pub parts-next : (ps : List SpecimenPart) (i : ℕ) (p : SpecimenPart) (w : LinePart) (before after : List LinePart)
      → i < length ps → p ≡ get_or ps i p → ((front : WrittenTree) → with_part front w ≡ part_written def front p)
      → after ≡ before ++ w ∷ [] → AreWritten before (take i ps) → AreWritten after (take (i + 1) ps)
  parts-next ps i p w before after h e one a b front =
      ap (with_parts front) a ∙ with_parts-snoc front before w ∙ one (with_parts front before)
      ∙ ap (λ f. part_written def f p) (b front)
      ∙ sym (ap (listed front) (take_item ps i p h e) ∙ listed-snoc front (take i ps) p)

  abbrev parts_row : Specimen → (n : Count) × Row_of-SpecimenPart n
  parts_row (Op' o shape row) = (_, row)
  parts_row _ = (_, end_of-SpecimenPart)

  op-listed : (o : ℕ) (ps : List SpecimenPart)
      → tree_written def (Op o ps) ≡ listed (operator (operator_name def o)) ps
  op-listed o ps =
      let row = parts_row (Op o ps) in
      let front = operator (operator_name def o) in
      row-listed front row.0 row.1 ∙ ap (listed front) (items_hidden-the_row-SpecimenPart-0 ps)

  pub operator-written : (o : ℕ) (n : Name) (kept ps : List SpecimenPart) (ws : List LinePart) (i : ℕ) (s : Specimen)
      (w : WrittenTree) → s ≡ Op o kept → ps ≡ kept → n ≡ operator_name def o → length ps ≤ i
      → AreWritten ws (take i ps) → w ≡ with_parts (operator n) ws → w ≡ tree_written def s
  operator-written o n kept ps ws i s w e k name l h a =
      let front = operator (operator_name def o) in
      a ∙ ap (λ m. with_parts (operator m) ws) name ∙ h front ∙ ap (listed front) (take_all i ps l ∙ k)
      ∙ sym (ap (tree_written def) e ∙ op-listed o kept)

  -- ---- lists

  row-elements : (n : Count) (row : Row_of-Specimen n) (end : WrittenTree)
      → elements_written def row end ≡ list_of end (map (tree_written def) (items-the_row-Specimen n row))
  row-elements n end_of-Specimen end = refl
  row-elements n (more_of-Specimen s rest) end = ap (element (tree_written def s)) (row-elements _ rest end)

  abbrev elements_row : Specimen → (n : Count) × Row_of-Specimen n
  elements_row (List' l shape row end) = (_, row)
  elements_row _ = (_, end_of-Specimen)

  list-listed : (l : ℕ) (es : List Specimen) (rest : Option SpecimenHole)
      → tree_written def (ListOf l es rest) ≡ list_of (end_written def rest) (map (tree_written def) es)
  list-listed l es rest =
      let row = elements_row (ListOf l es rest) in
      row-elements row.0 row.1 (end_written def rest)
      ∙ ap (λ xs. list_of (end_written def rest) (map (tree_written def) xs)) (items_hidden-the_row-Specimen-1 es)

  pub list-written : (l : ℕ) (kept es : List Specimen) (rest : Option SpecimenHole) (end : WrittenTree)
      (ws : List WrittenTree) (s : Specimen) (w : WrittenTree) → s ≡ ListOf l kept rest → es ≡ kept
      → end ≡ end_written def rest → ws ≡ map (tree_written def) es → w ≡ list_of end ws → w ≡ tree_written def s
  list-written l kept es rest end ws s w e k stop h a =
      a ∙ ap (λ x. list_of x ws) stop ∙ ap (list_of (end_written def rest)) (h ∙ ap (map (tree_written def)) k)
      ∙ sym (ap (tree_written def) e ∙ list-listed l kept rest)
