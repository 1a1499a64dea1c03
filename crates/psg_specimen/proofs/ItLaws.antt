-- The names `it` of a specimen by its parts and elements.
use mathlib.Core.Former.{Count}
use Rattle.std.proofs.Common.{◌≡◌, ℕ, zero, suc, ◌+◌, ◌<◌, ◌≤◌, ◌&&◌, not, Bool, true, false, List, [], ◌∷◌, ◌++◌, length, take, get_or, Option, Some, None, slice_get, refl, sym, ap, ap₂, ◌∙◌, arith, append-nil, append_assoc}
use Rattle.std.specs.Prelude.{option_and_then}
use Rattle.std.proofs.lemmas.List.{take_all}
use Rattle.psg_terms.proofs.Lists.{take_item}
use Rattle.psg_grammar.specs.declared.types.Item.{Item}
use Rattle.psg_grammar.specs.declared.types.Item.TheVariants as items
use Rattle.psg_grammar.specs.declared.types.SpecimenHole.{SpecimenHole}
use Rattle.psg_grammar.specs.declared.types.Specimen.{Specimen, Op, Op', List as ListOf, List', Row_of-Specimen, end_of-Specimen, more_of-Specimen, Row_of-SpecimenPart, end_of-SpecimenPart, more_of-SpecimenPart, items-the_row-SpecimenPart, items_hidden-the_row-SpecimenPart-0, items-the_row-Specimen, items_hidden-the_row-Specimen-1}
use Rattle.psg_grammar.specs.declared.types.SpecimenPart.{SpecimenPart, Sub, Name, Number, Text}
use Rattle.psg_grammar.specs.declared.types.Definition.{Definition}
use Rattle.psg_grammar.specs.Fragments.{Fragment, operator, with_child, with_name, with_number, with_text, top_operator, parts_count}
use Rattle.psg_grammar.specs.Lookups.{is_scope, items_of, operator_at, part_items, scopes}
use Rattle.psg_grammar.specs.Specimens.{tree_of, with_row, list_of, end_tree}
use Rattle.psg_specimen.specs.declared.its.Spot.{Spot}
use Rattle.psg_specimen.specs.Its.{item_spot, its_in, its_inside, its_of_elements, its_of_part, its_of_parts, one_it, part_spots, spot_by, spot_in, spot_or, spots_of, there_or}

-- ---- the spots of items

pub spot_there : (xs : List Item) (k : ℕ) → there_or (slice_get (spots_of xs) k) ≡ spot_or (slice_get xs k)
spot_there [] k = refl
spot_there (x ∷ xs) zero = refl
spot_there (x ∷ xs) (suc k) = spot_there xs k

pub spots_of_parts : (xs : List Item) → part_spots xs ≡ spots_of (part_items xs)
spots_of_parts [] = refl
spots_of_parts (items.Slot k ∷ xs) = ap (λ l. spot_by 0 false ∷ l) (spots_of_parts xs)
spots_of_parts (items.Word w ∷ xs) = spots_of_parts xs
spots_of_parts (items.Refers s ∷ xs) = ap (λ l. spot_by s false ∷ l) (spots_of_parts xs)
spots_of_parts (items.Declares s ∷ xs) = ap (λ l. spot_by s true ∷ l) (spots_of_parts xs)
spots_of_parts (items.Number ∷ xs) = ap (λ l. spot_by 0 false ∷ l) (spots_of_parts xs)
spots_of_parts (items.Text ∷ xs) = ap (λ l. spot_by 0 false ∷ l) (spots_of_parts xs)
spots_of_parts (items.Space ∷ xs) = spots_of_parts xs
spots_of_parts (items.Tight ∷ xs) = spots_of_parts xs
spots_of_parts (items.Line ∷ xs) = spots_of_parts xs
spots_of_parts (items.In ∷ xs) = spots_of_parts xs
spots_of_parts (items.Out ∷ xs) = spots_of_parts xs

spots_snoc : (xs : List Item) (x : Item) → part_spots (xs ++ x ∷ []) ≡ part_spots xs ++ item_spot x
spots_snoc [] x = append-nil (item_spot x)
spots_snoc (y ∷ xs) x = ap (λ l. item_spot y ++ l) (spots_snoc xs x) ∙ sym (append_assoc (item_spot y) (part_spots xs) (item_spot x))

pub spots_more : (xs : List Item) (i : ℕ) (x : Item) → i < length xs → x ≡ get_or xs i x → part_spots (take i xs) ++ item_spot x ≡ part_spots (take (i + 1) xs)
spots_more xs i x lt e = sym (ap part_spots (take_item xs i x lt e) ∙ spots_snoc (take i xs) x)

module _ (def : Definition) where
  -- ---- the tree of an operator's parts

  top_row : (n : Count) (row : Row_of-SpecimenPart n) (f : Fragment) → top_operator (with_row f row) ≡ top_operator f
  top_row n end_of-SpecimenPart f = refl
  top_row n (more_of-SpecimenPart (Sub s) rest) f = top_row _ rest (with_child f (tree_of s))
  top_row n (more_of-SpecimenPart (Name m) rest) f = top_row _ rest (with_name f m)
  top_row n (more_of-SpecimenPart (Number m) rest) f = top_row _ rest (with_number f m)
  top_row n (more_of-SpecimenPart (Text t) rest) f = top_row _ rest (with_text f t)

  -- the spots of the operator at the top
  abbrev tops : Fragment → List Spot
  tops f = spots_of (items_of (option_and_then (operator_at def) (top_operator f)))

  joined : (b : Bool) (now : List Spot) (x : Spot) (p : SpecimenPart) (rest : List Spot) (whole : List Spot) → whole ≡ (now ++ its_of_part def b x p) ++ rest → whole ≡ now ++ (its_of_part def b x p ++ rest)
  joined b now x p rest whole e = e ∙ append_assoc now (its_of_part def b x p) rest

  row_its : (n : Count) (row : Row_of-SpecimenPart n) (b : Bool) (f : Fragment)
      → its_inside def b (with_row f row) ≡ its_inside def b f ++ its_of_parts def b (tops f) (parts_count f) (items-the_row-SpecimenPart n row)
  row_its n end_of-SpecimenPart b f = sym (append-nil (its_inside def b f))
  row_its n (more_of-SpecimenPart (Sub s) rest) b f =
      joined b (its_inside def b f) (spot_in (tops f) (parts_count f)) (Sub s) (its_of_parts def b (tops f) (parts_count f + 1) (items-the_row-SpecimenPart _ rest)) _ (row_its _ rest b (with_child f (tree_of s)))
  row_its n (more_of-SpecimenPart (Name m) rest) b f =
      joined b (its_inside def b f) (spot_in (tops f) (parts_count f)) (Name m) (its_of_parts def b (tops f) (parts_count f + 1) (items-the_row-SpecimenPart _ rest)) _
      (row_its _ rest b (with_name f m) ∙ ap (λ x. (its_inside def b f ++ one_it b x m) ++ its_of_parts def b (tops f) (parts_count f + 1) (items-the_row-SpecimenPart _ rest))
      (sym (spot_there (items_of (option_and_then (operator_at def) (top_operator f))) (parts_count f))))
  row_its n (more_of-SpecimenPart (Number m) rest) b f =
      joined b (its_inside def b f) (spot_in (tops f) (parts_count f)) (Number m) (its_of_parts def b (tops f) (parts_count f + 1) (items-the_row-SpecimenPart _ rest)) _
      (row_its _ rest b (with_number f m) ∙ ap (λ l. l ++ its_of_parts def b (tops f) (parts_count f + 1) (items-the_row-SpecimenPart _ rest)) (sym (append-nil (its_inside def b f))))
  row_its n (more_of-SpecimenPart (Text t) rest) b f =
      joined b (its_inside def b f) (spot_in (tops f) (parts_count f)) (Text t) (its_of_parts def b (tops f) (parts_count f + 1) (items-the_row-SpecimenPart _ rest)) _
      (row_its _ rest b (with_text f t) ∙ ap (λ l. l ++ its_of_parts def b (tops f) (parts_count f + 1) (items-the_row-SpecimenPart _ rest)) (sym (append-nil (its_inside def b f))))

  abbrev parts_row : Specimen → (n : Count) × Row_of-SpecimenPart n
  parts_row (Op' o shape row) = (_, row)
  parts_row _ = (_, end_of-SpecimenPart)

  -- what is inside of an operator is in the region, and that is asked
  abbrev pub region : Bool → ℕ → Bool
  region inside o = inside && not (scopes (operator_at def o))

  op_scope : (n : Count) (row : Row_of-SpecimenPart n) (o : ℕ) → is_scope def (with_row (operator o) row) ≡ scopes (operator_at def o)
  op_scope n row o = ap (λ t. scopes (option_and_then (operator_at def) t)) (top_row n row (operator o))

  op_its : (inside : Bool) (o : ℕ) (ps : List SpecimenPart) → its_in def inside (tree_of (Op o ps)) ≡ its_of_parts def (region inside o) (spots_of (items_of (operator_at def o))) 0 ps
  op_its inside o ps =
      let row = parts_row (Op o ps) in
      ap (λ s. its_inside def (inside && not s) (with_row (operator o) row.1)) (op_scope row.0 row.1 o)
      ∙ row_its row.0 row.1 (region inside o) (operator o)
      ∙ ap (its_of_parts def (region inside o) (spots_of (items_of (operator_at def o))) 0) (items_hidden-the_row-SpecimenPart-0 ps)

  -- ---- the tree of a list's elements

  abbrev elements_row : Specimen → (n : Count) × Row_of-Specimen n
  elements_row (List' l shape row end) = (_, row)
  elements_row _ = (_, end_of-Specimen)

  end_its : (b : Bool) (l : ℕ) (rest : Option SpecimenHole) → its_inside def b (end_tree l rest) ≡ []
  end_its b l None = refl
  end_its b l (Some h) = refl

  end_scope : (l : ℕ) (rest : Option SpecimenHole) → is_scope def (end_tree l rest) ≡ false
  end_scope l None = refl
  end_scope l (Some h) = refl

  list_scope : (n : Count) (row : Row_of-Specimen n) (l : ℕ) (rest : Option SpecimenHole) → is_scope def (list_of l (end_tree l rest) row) ≡ false
  list_scope n end_of-Specimen l rest = end_scope l rest
  list_scope n (more_of-Specimen s more) l rest = refl

  list_row : (n : Count) (row : Row_of-Specimen n) (b : Bool) (l : ℕ) (rest : Option SpecimenHole) → its_inside def b (list_of l (end_tree l rest) row) ≡ its_of_elements def b (items-the_row-Specimen n row)
  list_row n end_of-Specimen b l rest = end_its b l rest
  list_row n (more_of-Specimen s more) b l rest = ap (λ x. its_in def b (tree_of s) ++ x) (list_row _ more b l rest)

  always : (b : Bool) → (b && not false) ≡ b
  always true = refl
  always false = refl

  list_its : (inside : Bool) (l : ℕ) (es : List Specimen) (rest : Option SpecimenHole) → its_in def inside (tree_of (ListOf l es rest)) ≡ its_of_elements def inside es
  list_its inside l es rest =
      let row = elements_row (ListOf l es rest) in
      ap (λ s. its_inside def (inside && not s) (list_of l (end_tree l rest) row.1)) (list_scope row.0 row.1 l rest)
      ∙ ap (λ b. its_inside def b (list_of l (end_tree l rest) row.1)) (always inside)
      ∙ list_row row.0 row.1 inside l rest ∙ ap (its_of_elements def inside) (items_hidden-the_row-Specimen-1 es)

  -- ---- steps of the walk

  parts_snoc : (b : Bool) (spots : List Spot) (k : ℕ) (ps : List SpecimenPart) (p : SpecimenPart) → its_of_parts def b spots k (ps ++ p ∷ []) ≡ its_of_parts def b spots k ps ++ its_of_part def b (spot_in spots (k + length ps)) p
  parts_snoc b spots k [] p = append-nil (its_of_part def b (spot_in spots k) p) ∙ ap (λ n. its_of_part def b (spot_in spots n) p) (let e : k ≡ k + 0 = omega arith in e)
  parts_snoc b spots k (q ∷ ps) p =
      ap (λ l. its_of_part def b (spot_in spots k) q ++ l) (parts_snoc b spots (k + 1) ps p ∙ ap (λ n. its_of_parts def b spots (k + 1) ps ++ its_of_part def b (spot_in spots n) p) (let e : k + 1 + length ps ≡ k + suc (length ps) = omega arith in e))
      ∙ sym (append_assoc (its_of_part def b (spot_in spots k) q) (its_of_parts def b spots (k + 1) ps) (its_of_part def b (spot_in spots (k + suc (length ps))) p))

  long : {X : Type 0} (xs : List X) (i : ℕ) → i < length xs → length (take i xs) ≡ i
  long [] i lt = absurd (omega (arith, lt))
  long (x ∷ xs) zero lt = refl
  long (x ∷ xs) (suc i) lt = ap suc (long xs i (omega (arith, lt)))

  pub part_next : (b : Bool) (spots : List Spot) (before now after : List Spot) (ps : List SpecimenPart) (i : ℕ) (x : Spot) (p : SpecimenPart) → i < length ps → p ≡ get_or ps i p
      → x ≡ spot_in spots i → after ≡ now ++ its_of_part def b x p → now ≡ before ++ its_of_parts def b spots 0 (take i ps) → after ≡ before ++ its_of_parts def b spots 0 (take (i + 1) ps)
  part_next b spots before now after ps i x p lt e xe a h =
      a ∙ ap (λ l. l ++ its_of_part def b x p) h ∙ append_assoc before (its_of_parts def b spots 0 (take i ps)) (its_of_part def b x p)
      ∙ ap (λ l. before ++ l) (ap (λ z. its_of_parts def b spots 0 (take i ps) ++ its_of_part def b z p) (xe ∙ ap (spot_in spots) (let k = long ps i lt in let n : i ≡ 0 + length (take i ps) = omega (arith, k) in n))
      ∙ sym (ap (its_of_parts def b spots 0) (take_item ps i p lt e) ∙ parts_snoc b spots 0 (take i ps) p))

  elements_snoc : (b : Bool) (ss : List Specimen) (s : Specimen) → its_of_elements def b (ss ++ s ∷ []) ≡ its_of_elements def b ss ++ its_in def b (tree_of s)
  elements_snoc b [] s = append-nil (its_in def b (tree_of s))
  elements_snoc b (q ∷ ss) s = ap (λ l. its_in def b (tree_of q) ++ l) (elements_snoc b ss s) ∙ sym (append_assoc (its_in def b (tree_of q)) (its_of_elements def b ss) (its_in def b (tree_of s)))

  pub element_next : (b : Bool) (before now after : List Spot) (ss : List Specimen) (i : ℕ) (s : Specimen) → i < length ss → s ≡ get_or ss i s
      → after ≡ now ++ its_in def b (tree_of s) → now ≡ before ++ its_of_elements def b (take i ss) → after ≡ before ++ its_of_elements def b (take (i + 1) ss)
  element_next b before now after ss i s lt e a h =
      a ∙ ap (λ l. l ++ its_in def b (tree_of s)) h ∙ append_assoc before (its_of_elements def b (take i ss)) (its_in def b (tree_of s))
      ∙ ap (λ l. before ++ l) (sym (ap (its_of_elements def b) (take_item ss i s lt e) ∙ elements_snoc b (take i ss) s))

  pub op_end : (inside r : Bool) (spots before now : List Spot) (o : ℕ) (kept ps : List SpecimenPart) (i : ℕ) (s : Specimen) → s ≡ Op o kept → ps ≡ kept → length ps ≤ i
      → r ≡ region inside o → spots ≡ spots_of (items_of (operator_at def o)) → now ≡ before ++ its_of_parts def r spots 0 (take i ps) → now ≡ before ++ its_in def inside (tree_of s)
  op_end inside r spots before now o kept ps i s e k l re se h =
      h ∙ ap (λ x. before ++ x) (ap (its_of_parts def r spots 0) (take_all i ps l ∙ k) ∙ ap₂ (λ b z. its_of_parts def b z 0 kept) re se
      ∙ sym (ap (λ z. its_in def inside (tree_of z)) e ∙ op_its inside o kept))

  pub list_end : (inside : Bool) (before now : List Spot) (l : ℕ) (kept es : List Specimen) (rest : Option SpecimenHole) (i : ℕ) (s : Specimen) → s ≡ ListOf l kept rest → es ≡ kept → length es ≤ i
      → now ≡ before ++ its_of_elements def inside (take i es) → now ≡ before ++ its_in def inside (tree_of s)
  list_end inside before now l kept es rest i s e k stop h =
      h ∙ ap (λ x. before ++ x) (ap (its_of_elements def inside) (take_all i es stop ∙ k) ∙ sym (ap (λ z. its_in def inside (tree_of z)) e ∙ list_its inside l kept rest))
