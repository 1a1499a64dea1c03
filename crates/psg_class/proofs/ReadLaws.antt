-- What is known of the shapes of a definition that has been read.
use Rattle.std.proofs.Common.{◌≡◌, inl, inr, ℕ, zero, suc, ◌+◌, ◌<◌, Bool, true, false, cond, List, [], ◌∷◌, ◌++◌, length, map, Option, Some, None, slice_get, ap, sym, ◌∙◌, subst, arith, true≢false}
use Rattle.std.proofs.lemmas.Bool.{or_cases, or_left, or_right}
use Rattle.std.proofs.lemmas.Option.{slice_get_within}
use Rattle.psg_terms.proofs.Lists.{each_at}
use Rattle.std.specs.List.{AllByRecursion}
use Rattle.std.specs.Prelude.{bytes_eq}
use Rattle.psg_terms.specs.Names.{Name, is_among, has_twice}
use Rattle.psg_terms.proofs.DeclareLaws.{bytes_eq-refl, has_twice-front}
use Rattle.psg_grammar.specs.declared.types.Kind.{Kind}
use Rattle.psg_grammar.specs.declared.types.Kind.TheVariants as kinds
use Rattle.psg_grammar.specs.declared.types.Item.{Item}
use Rattle.psg_grammar.specs.declared.types.Item.TheVariants as items
use Rattle.psg_grammar.specs.declared.types.Operator.{Operator}
use Rattle.psg_grammar.specs.declared.types.Phylum.{Phylum}
use Rattle.psg_grammar.specs.declared.types.ListKind.{ListKind}
use Rattle.psg_grammar.specs.declared.types.Definition.{Definition}
use Rattle.psg_grammar.specs.Levels.{is_mark}
use Rattle.psg_grammar.specs.Sound.{IsSound, IsLevel, IsItem, IsOperator, HasKindSort}
use Rattle.psg_grammar.specs.WellFormed.{words_in, operator_words, separators}
use Rattle.psg_class.specs.Places.{solid}
use Rattle.psg_class.specs.Class.{NoFirst, BadForm, NoBracket, MixedLevel}
use Rattle.psg_class.specs.Numbers.{phylum_names}
use Rattle.psg_class.specs.Shapes.{parts_of, shape_of}
use Rattle.psg_class.specs.Forms.{starts, fits, asks, bound_cell, asked_cell, form_cell, cells_by, AreInPhyla, HaveLevels, FailsTest, IsFirstIf, IsFirstPair, LacksBracket, Mixes}
use Rattle.psg_class.specs.Sources.{AreRows, IsKind, IsPartOf, IsShapeOf}
use Rattle.psg_class.specs.Checks.{IsRead}
use Rattle.psg_class.specs.declared.shape.Part.{Part}
use Rattle.psg_class.specs.declared.shape.Part.TheVariants as parts
use Rattle.psg_class.specs.declared.shape.Shape.{Shape}
use Rattle.psg_class.specs.declared.sources.Rows.{Rows}
use Rattle.psg_class.proofs.PartLaws.{Known, match_of, slot_of}
use Rattle.psg_class.proofs.FormLaws.{map_get, no_first_there, no_first_back, bad_form_there, bad_form_back, lacks_there, lacks_back, mixes_there, mixes_back}
use Rattle.psg_class.proofs.FormCells.{if_same, pair_of, asks_small}
use Rattle.psg_class.proofs.LeadLaws.{at_part, part_token}
use Rattle.psg_class.proofs.NumberLaws.{number_small}

among_left : (xs ys : List Name) (w : Name) → is_among xs w ≡ true → is_among (xs ++ ys) w ≡ true
among_left [] ys w h = absurd (true≢false (sym h))
among_left (x ∷ xs) ys w h = elim (or_cases (bytes_eq x w) (is_among xs w) h) [
  | inl a ↦ or_left (bytes_eq x w) (is_among (xs ++ ys) w) a
  | inr b ↦ or_right (bytes_eq x w) (is_among (xs ++ ys) w) (among_left xs ys w b)
]

pub among_right : (xs ys : List Name) (w : Name) → is_among ys w ≡ true → is_among (xs ++ ys) w ≡ true
among_right [] ys w h = h
among_right (x ∷ xs) ys w h = or_right (bytes_eq x w) (is_among (xs ++ ys) w) (among_right xs ys w h)

among_operator : (os : List Operator) (n : ℕ) (o : Operator) → slice_get os n ≡ Some o → (w : Name) → is_among (words_in o.items) w ≡ true → is_among (operator_words os) w ≡ true
among_operator [] n o e w h = absurd (let x : ◌≡◌ {A = Option Operator} None (Some o) = e in cc)
among_operator (p ∷ os) zero o e w h =
    let x : ◌≡◌ {A = Option Operator} (Some p) (Some o) = e in
    let same : p ≡ o = cc in
    among_left (words_in p.items) (operator_words os) w (ap (λ (z : Operator). is_among (words_in z.items) w) same ∙ h)
among_operator (p ∷ os) (suc n) o e w h = among_right (words_in p.items) (operator_words os) w (among_operator os n o e w h)

pub among_separator : (ls : List ListKind) (n : ℕ) (l : ListKind) → slice_get ls n ≡ Some l → is_among (separators ls) l.separator ≡ true
among_separator [] n l e = absurd (let x : ◌≡◌ {A = Option ListKind} None (Some l) = e in cc)
among_separator (k ∷ ls) zero l e =
    let x : ◌≡◌ {A = Option ListKind} (Some k) (Some l) = e in
    let same : k ≡ l = cc in
    or_left (bytes_eq k.separator l.separator) (is_among (separators ls) l.separator) (ap (λ (z : ListKind). bytes_eq z.separator l.separator) same ∙ bytes_eq-refl l.separator)
among_separator (k ∷ ls) (suc n) l e = or_right (bytes_eq k.separator l.separator) (is_among (separators ls) l.separator) (among_separator ls n l e)

solid_all : (P : Item → Type 0) (xs : List Item) → AllByRecursion P xs → AllByRecursion P (solid xs)
solid_all P [] h = tt
solid_all P (i ∷ rest) (h, hs) = by (is_mark i) (solid_all P rest hs) where
  by : (b : Bool) → AllByRecursion P (solid rest) → AllByRecursion P (cond b (solid rest) (i ∷ solid rest))
  by true k = k
  by false k = (h, k)

middle : (P : Item → Type 0) (front : List Item) (i : Item) (behind : List Item) → AllByRecursion P (front ++ i ∷ behind) → P i
middle P [] i behind h = h.0
middle P (j ∷ front) i behind h = middle P front i behind h.1

-- no name of a phylum stands twice
pub distinct : (def : Definition) → IsSound def → has_twice (phylum_names def) ≡ false
distinct def sound = has_twice-front (phylum_names def) (map (λ (l : ListKind). l.name) def.lists) sound.kind_names

module _ (def : Definition) (words : List Name) (shapes : List Shape) (read : IsRead def words shapes) where
  abbrev pub all_shapes : List Shape
  all_shapes = map (shape_of (length def.phyla + 4) words) def.operators

  operator_at : (n : ℕ) (o : Operator) → slice_get def.operators n ≡ Some o → IsOperator def o
  operator_at n o e = each_at (IsOperator def) def.operators read.sound.operators n o e

  pub known : (n : ℕ) (o : Operator) → slice_get def.operators n ≡ Some o → Known (length def.phyla + 4) words o.items
  known n o e = λ w h. read.among w (among_left (operator_words def.operators) (separators def.lists) w (among_operator def.operators n o e w h))

  pub level_at : (n : ℕ) (o : Operator) → slice_get def.operators n ≡ Some o → IsLevel o.level
  level_at n o e = (operator_at n o e).level

  phylum_small : (o : Operator) → IsOperator def o → o.phylum < length def.phyla
  phylum_small o h = let (k, e, s) = h.phylum_sort in slice_get_within def.phyla o.phylum k e

  pub phylum_at : (n : ℕ) (o : Operator) → slice_get def.operators n ≡ Some o → o.phylum < length def.phyla
  phylum_at n o e = phylum_small o (operator_at n o e)

  small : (o : Operator) → IsLevel o.level → asks (shape_of (length def.phyla + 4) words o) < 11
  small o h = asks_small (shape_of (length def.phyla + 4) words o) h

  all_phyla : (os : List Operator) → AllByRecursion (IsOperator def) os → AreInPhyla (length def.phyla) (map (shape_of (length def.phyla + 4) words) os)
  all_phyla [] h = tt
  all_phyla (o ∷ os) (h, hs) = (phylum_small o h, all_phyla os hs)

  all_levels : (os : List Operator) → AllByRecursion (IsOperator def) os → HaveLevels (map (shape_of (length def.phyla + 4) words) os)
  all_levels [] h = tt
  all_levels (o ∷ os) (h, hs) = (h.level, all_levels os hs)

  pub in_phyla : AreInPhyla (length def.phyla) shapes
  in_phyla = subst (AreInPhyla (length def.phyla)) (sym read.shapes_are) (all_phyla def.operators read.sound.operators)

  pub have_levels : HaveLevels shapes
  have_levels = subst HaveLevels (sym read.shapes_are) (all_levels def.operators read.sound.operators)

  -- ---- the conditions on operators

  pub first_no_first : (o : Option ℕ) → IsFirstIf (FailsTest starts shapes) o → IsFirstIf (NoFirst def) o
  first_no_first o h = if_same (FailsTest starts all_shapes) (NoFirst def) (no_first_there def (length def.phyla + 4) words known) (no_first_back def (length def.phyla + 4) words known) o
      (subst (λ s. IsFirstIf (FailsTest starts s) o) read.shapes_are h)

  pub first_bad_form : (o : Option ℕ) → IsFirstIf (FailsTest fits shapes) o → IsFirstIf (BadForm def) o
  first_bad_form o h = if_same (FailsTest fits all_shapes) (BadForm def) (bad_form_there def (length def.phyla + 4) words known) (bad_form_back def (length def.phyla + 4) words known) o
      (subst (λ s. IsFirstIf (FailsTest fits s) o) read.shapes_are h)

  pub first_bare : (o : Option ℕ) → IsFirstIf (LacksBracket def.phyla (cells_by bound_cell shapes) (cells_by asked_cell shapes)) o → IsFirstIf (NoBracket def) o
  first_bare o h = if_same (LacksBracket def.phyla (cells_by bound_cell all_shapes) (cells_by asked_cell all_shapes)) (NoBracket def)
      (lacks_back def (length def.phyla + 4) words known level_at small) (lacks_there def (length def.phyla + 4) words known level_at small) o
      (subst (λ s. IsFirstIf (LacksBracket def.phyla (cells_by bound_cell s) (cells_by asked_cell s)) o) read.shapes_are h)

  -- the same where the phyla are those of the definition
  pub bare_of : (phyla : List Phylum) → phyla ≡ def.phyla → (o : Option ℕ) → IsFirstIf (LacksBracket phyla (cells_by bound_cell shapes) (cells_by asked_cell shapes)) o → (r : Option ℕ) → o ≡ r → IsFirstIf (NoBracket def) r
  bare_of phyla e o h r f = subst (IsFirstIf (NoBracket def)) f (first_bare o (subst (λ p. IsFirstIf (LacksBracket p (cells_by bound_cell shapes) (cells_by asked_cell shapes)) o) e h))

  pub first_mixed : (o : Option (ℕ × ℕ)) → IsFirstPair (Mixes (cells_by form_cell shapes)) o → IsFirstPair (MixedLevel def) o
  first_mixed o h = of o (subst (λ s. IsFirstPair (Mixes (cells_by form_cell s)) o) read.shapes_are h) where
    of : (o : Option (ℕ × ℕ)) → IsFirstPair (Mixes (cells_by form_cell all_shapes)) o → IsFirstPair (MixedLevel def) o
    of None g = λ p n m. g p n (mixes_there def (length def.phyla + 4) words level_at p n m)
    of (Some (p, n)) g = pair_of (Mixes (cells_by form_cell all_shapes)) (MixedLevel def) (mixes_back def (length def.phyla + 4) words level_at) (mixes_there def (length def.phyla + 4) words level_at) (Some (p, n)) g

  pub mixed_of : (o : Option (ℕ × ℕ)) → IsFirstPair (Mixes (cells_by form_cell shapes)) o → (r : Option (ℕ × ℕ)) → o ≡ r → IsFirstPair (MixedLevel def) r
  mixed_of o h r f = subst (IsFirstPair (MixedLevel def)) f (first_mixed o h)

  -- ---- parts

  kind_there : (rows : Rows) → AreRows (length def.phyla) (length def.lists) rows → (k : Kind) (s : ℕ) → HasKindSort def k s → IsKind rows k
  kind_there rows are (kinds.Phylum p) s (k, e, x) = subst (λ z. p < z) (sym are.phyla_are) (slice_get_within def.phyla p k e)
  kind_there rows are (kinds.List l) s (k, e, x) = let h = slice_get_within def.lists l k e in let a = are.phyla_are in let b = are.kinds_are in omega (arith, h, a, b)

  part_at : (rows : Rows) → AreRows (length def.phyla) (length def.lists) rows → (o : Operator) → IsOperator def o → Known (length def.phyla + 4) words o.items → (j : ℕ) (p : Part) → slice_get (parts_of (length def.phyla + 4) words o.items) j ≡ Some p → IsPartOf rows (length def.phyla + 4 + length words) p
  part_at rows are o is own j (parts.Token n) e =
      let a = at_part (length def.phyla + 4) words (solid o.items) (parts_of (length def.phyla + 4) words o.items) j (parts.Token n) (match_of (length def.phyla + 4) words o own) e in
      let (t, f, num) = part_token def words a.item n a.part in
      number_small def words t n num
  part_at rows are o is own j (parts.Slot k) e =
      let a = at_part (length def.phyla + 4) words (solid o.items) (parts_of (length def.phyla + 4) words o.items) j (parts.Slot k) (match_of (length def.phyla + 4) words o own) e in
      let item : a.item ≡ items.Slot k = slot_of (length def.phyla + 4) words a.item k a.part in
      let there : IsItem def (items.Slot k) = subst (IsItem def) item (middle (IsItem def) a.front a.item a.behind (subst (AllByRecursion (IsItem def)) a.items (solid_all (IsItem def) o.items is.each_item))) in
      let (s, h) = there in
      kind_there rows are k s h

  pub shape_at : (rows : Rows) → AreRows (length def.phyla) (length def.lists) rows → (width : ℕ) → width ≡ length def.phyla + 4 + length words → (n : ℕ) (s : Shape) → slice_get shapes n ≡ Some s → IsShapeOf rows width s
  shape_at rows are width wide n s e =
      let (o, found, same) = map_get (shape_of (length def.phyla + 4) words) def.operators n s (subst (λ z. slice_get z n ≡ Some s) read.shapes_are e) in
      subst (λ w. IsShapeOf rows w s) (sym wide) (subst (IsShapeOf rows (length def.phyla + 4 + length words)) (sym same) (record {
        phylum = subst (λ z. o.phylum < z) (sym are.phyla_are) (phylum_at n o found);
        each = part_at rows are o (operator_at n o found) (known n o found);
      }))
