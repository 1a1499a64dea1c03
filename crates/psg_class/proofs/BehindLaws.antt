-- Led operators and lists, by the sets of what can stand behind them.
use Rattle.std.proofs.Common.{◌≡◌, inl, inr, ℕ, ◌+◌, ◌<◌, ◌||◌, ◌&&◌, ◌==◌, Bool, true, false, List, [], ◌∷◌, length, map, Option, Some, None, slice_get, is_some, refl, ap, ap₂, sym, ◌∙◌, subst, arith, true≢false, eqb-true, eq-eqb}
use Rattle.std.proofs.lemmas.Bool.{and_from, and_parts, cases_Bool, or_cases, or_left, or_right}
use Rattle.std.proofs.lemmas.Option.{slice_get_within, same_Some}
use Rattle.std.proofs.lemmas.List.{length-map}
use Rattle.psg_terms.proofs.Lists.{each_at, slice_get-map_some}
use Rattle.std.specs.Prelude.{◌↔◌, IfSome, Vec, Contains}
use Rattle.std.specs.declared.alloc.Global.{Global}
use Rattle.psg_terms.specs.Names.{Name, is_among}
use Rattle.psg_grammar.specs.declared.types.Kind.{Kind}
use Rattle.psg_grammar.specs.declared.types.Kind.TheVariants as kinds
use Rattle.psg_grammar.specs.declared.types.Phylum.{Phylum}
use Rattle.psg_grammar.specs.declared.types.ListKind.{ListKind}
use Rattle.psg_grammar.specs.declared.types.Definition.{Definition}
use Rattle.psg_grammar.specs.Declaring.{Declares, is_declaring, HasHoles}
use Rattle.psg_grammar.specs.DeclaringTables.{AreSpacesOf}
use Rattle.psg_grammar.specs.Sound.{IsListKind}
use Rattle.psg_grammar.specs.WellFormed.{fixed_words, operator_words, separators}
use Rattle.psg_class.specs.Terminals.{Terminal, fixed, open_bracket, close_bracket}
use Rattle.psg_class.specs.Follow.{FirstOfList, first_element, first_more, Follow}
use Rattle.psg_class.specs.Class.{LedFollows, led_behind, ListEnd, separator_behind, first_behind}
use Rattle.psg_class.specs.Numbers.{number_of, is_number_before, word_number}
use Rattle.psg_class.specs.Shapes.{shape_of}
use Rattle.psg_class.specs.Forms.{cell_of}
use Rattle.psg_class.specs.Grids.{is_set, IsTable}
use Rattle.psg_class.specs.Sources.{IsRows, AreRows, IsKind, follow_row, kind_index, Parts, AreParts, Grown, parts_with}
use Rattle.psg_class.specs.Failing.{led_cell, LedClash, IsFirstLed, ends, is_number}
use Rattle.psg_class.specs.Checks.{IsRead, IsFirstOf, IsSetOf, AreSets, AreHoles, has_none, separator_number, number_or}
use Rattle.psg_class.specs.declared.grid.Grid.{Grid}
use Rattle.psg_class.specs.declared.shape.Part.{Part}
use Rattle.psg_class.specs.declared.shape.Part.TheVariants as parts
use Rattle.psg_class.specs.declared.shape.Shape.{Shape}
use Rattle.psg_class.specs.declared.sources.Rows.{Rows}
use Rattle.psg_class.specs.declared.behind.Sets.{Sets}
use Rattle.psg_class.proofs.WordLaws.{number_found}
use Rattle.psg_class.proofs.FormLaws.{map_get}
use Rattle.psg_class.proofs.BeginLaws.{kind_small}
use Rattle.psg_class.proofs.TwiceLaws.{Gives}
use Rattle.psg_class.proofs.LeadLaws.{led_there, led_back, led_cell_is}
use Rattle.psg_class.proofs.NumberLaws.{same_terminal, number_small, same_order, same_text}
use Rattle.psg_class.proofs.TokenLaws.{IsTableOf}
use Rattle.psg_class.proofs.FailingLaws.{number_self}
use Rattle.psg_class.proofs.SetLaws.{Describes, means, has_list, has_follow}
use Rattle.psg_class.proofs.ReadLaws.{known, shape_at, among_separator, among_right, distinct}

token_same : (p : Option Part) (n m : ℕ) → p ≡ Some (parts.Token n) → p ≡ Some (parts.Token m) → n ≡ m
token_same p n m e f = let x : Some (parts.Token n) ≡ Some (parts.Token m) = sym e ∙ f in cc

-- ---- placeholders

pub holes_are : (def : Definition) (found : List (Vec ℕ Global)) (flags : List Bool) → length found ≡ length def.phyla → ((p : ℕ) → IfSome (slice_get found p) (λ spaces. AreSpacesOf def p spaces.items))
    → ((space : ℕ) (kind : Kind) → (is_declaring def space kind ≡ true) ↔ Declares def space kind) → flags ≡ map has_none found → AreHoles def flags
holes_are def found flags one exact search e = record {
  one_each = ap length e ∙ length-map found has_none ∙ one;
  exact = λ p b at. (let (v, there, same) = map_get has_none found p b (subst (λ z. slice_get z p ≡ Some b) e at) in both p b v (spaces p v there) same);
} where
  spaces : (p : ℕ) (v : Vec ℕ Global) → slice_get found p ≡ Some v → AreSpacesOf def p v.items
  spaces p v there = subst (λ o. IfSome o (λ (s : Vec ℕ Global). AreSpacesOf def p s.items)) there (exact p)

  empty : (xs : List ℕ) → length xs == 0 ≡ true → (s : ℕ) → Contains xs s → ⊥
  empty [] h s (i, lt, x) = omega (arith, lt)
  empty (x ∷ xs) h s k = let z = eqb-true (length (x ∷ xs)) 0 h in omega (arith, z)

  some : (xs : List ℕ) → ((s : ℕ) → Contains xs s → ⊥) → length xs == 0 ≡ true
  some [] h = refl
  some (x ∷ xs) h = absurd (h x (0, omega arith, refl))

  both : (p : ℕ) (b : Bool) (v : Vec ℕ Global) → AreSpacesOf def p v.items → b ≡ has_none v → ((b ≡ true) → HasHoles def (kinds.Phylum p)) × (HasHoles def (kinds.Phylum p) → b ≡ true)
  both p b v are same = (
    (λ t s. elim (cases_Bool (is_declaring def s (kinds.Phylum p))) [
      | inl y ↦ absurd (empty v.items (sym same ∙ t) s ((are.exact s).1 ((search s (kinds.Phylum p)).0 y)))
      | inr n ↦ n
    ]),
    (λ h. same ∙ some v.items (λ s k. true≢false (sym ((search s (kinds.Phylum p)).1 ((are.exact s).0 k)) ∙ h s))),
  )

-- ---- separators

module _ (def : Definition) (words : List Name) (among : (w : Name) → is_among (fixed_words def) w ≡ true → is_among words w ≡ true) where
  pub separator_known : (l : ℕ) (k : ListKind) → slice_get def.lists l ≡ Some k → word_number (length def.phyla + 4) words k.separator ≡ Some (separator_number (length def.phyla + 4) words k)
  separator_known l k e = of (word_number (length def.phyla + 4) words k.separator)
      (number_found (length def.phyla + 4) words k.separator ∙ among k.separator (among_right (operator_words def.operators) (separators def.lists) k.separator (among_separator def.lists l k e))) where
        of : (o : Option ℕ) → is_some o ≡ true → o ≡ Some (number_or o)
        of None h = absurd (true≢false (sym h))
        of (Some n) h = refl

  -- ---- ends of lists

  module _ (width : ℕ) (s : Sets) (sets : AreSets def words width s) where
    list_kind : (l : ℕ) → l < length def.lists → s.rows.phyla + l < s.rows.kinds
    list_kind l h = let a = sets.sizes.phyla_are in let b = sets.sizes.kinds_are in omega (arith, h, a, b)

    end_there : (l c : ℕ) → l < length def.lists → c < width → ends s.rows s.grid s.separators.items l c ≡ true → (t : Terminal) × (number_of def words t ≡ Some c) × ListEnd def l t
    end_there l c h lt e =
        let (t, num, f) = (sets.follows (kinds.List l) (list_kind l h)).sound c lt (and_parts _ _ e).0 in
        elim (or_cases (is_set s.grid (s.rows.phyla + l) c) (is_number (slice_get s.separators.items l) c) (and_parts (is_set s.grid (s.rows.kinds + (s.rows.phyla + l)) c) _ e).1) [
          | inl a ↦ (let (u, num', g) = (sets.lists l h).sound c lt a in (t, num, first_behind (subst (FirstOfList def l) (same_terminal def words u t c num' num) g) f))
          | inr b ↦ separates (slice_get s.separators.items l) refl b t num f
        ] where
          separates : (o : Option ℕ) → slice_get s.separators.items l ≡ o → is_number o c ≡ true → (t : Terminal) → number_of def words t ≡ Some c → Follow def (kinds.List l) t → (t : Terminal) × (number_of def words t ≡ Some c) × ListEnd def l t
          separates None at b t num f = absurd (true≢false (sym b))
          separates (Some n) at b t num f =
              let (k, found, same) = map_get (separator_number (length def.phyla + 4) words) def.lists l n (subst (λ z. slice_get z l ≡ Some n) sets.separators at) in
              let is : number_of def words (fixed k.separator) ≡ Some c = separator_known l k found ∙ ap Some (sym same ∙ sym (eqb-true c n b)) in
              (fixed k.separator, is, separator_behind k found (subst (Follow def (kinds.List l)) (same_terminal def words t (fixed k.separator) c num is) f))

    list_there : (l : ℕ) (t : Terminal) → FirstOfList def l t → l < length def.lists
    list_there l t (first_element k found f) = slice_get_within def.lists l k found
    list_there l t (first_more k found u) = slice_get_within def.lists l k found

    end_back : (l : ℕ) (t : Terminal) → ListEnd def l t → (l < length def.lists) × ((c : ℕ) × (number_of def words t ≡ Some c) × (c < width) × (ends s.rows s.grid s.separators.items l c ≡ true))
    end_back l t (separator_behind k found f) =
        let h = slice_get_within def.lists l k found in
        let (c, num, lt, e) = (sets.follows (kinds.List l) (list_kind l h)).complete (fixed k.separator) f in
        let at : slice_get s.separators.items l ≡ Some (separator_number (length def.phyla + 4) words k) = ap (λ z. slice_get z l) sets.separators ∙ slice_get-map_some (separator_number (length def.phyla + 4) words) def.lists l k found in
        let same : c ≡ separator_number (length def.phyla + 4) words k = same_Some c (separator_number (length def.phyla + 4) words k) (sym num ∙ separator_known l k found) in (
          h,
          (
            c,
            num,
            lt,
            and_from (is_set s.grid (s.rows.kinds + (s.rows.phyla + l)) c) (is_set s.grid (s.rows.phyla + l) c || is_number (slice_get s.separators.items l) c) e
                (or_right (is_set s.grid (s.rows.phyla + l) c) (is_number (slice_get s.separators.items l) c) (ap (λ o. is_number o c) at ∙ eq-eqb c (separator_number (length def.phyla + 4) words k) same)),
          ),
        )
    end_back l t (first_behind g f) =
        let h = list_there l t g in
        let (c, num, lt, e) = (sets.lists l h).complete t g in
        let (d, num', lt', e') = (sets.follows (kinds.List l) (list_kind l h)).complete t f in
        let same : d ≡ c = same_Some d c (sym num' ∙ num) in (
          h,
          (
            c,
            num,
            lt,
            and_from (is_set s.grid (s.rows.kinds + (s.rows.phyla + l)) c) (is_set s.grid (s.rows.phyla + l) c || is_number (slice_get s.separators.items l) c) (subst (λ z. is_set s.grid (s.rows.kinds + (s.rows.phyla + l)) z ≡ true) same e')
                (or_left (is_set s.grid (s.rows.phyla + l) c) (is_number (slice_get s.separators.items l) c) e),
          ),
        )

    pub list_end_table : IsTableOf def words (ListEnd def) (length def.lists) width (ends s.rows s.grid s.separators.items)
    list_end_table = record { sound = λ l c h lt e. end_there l c h lt e; complete = end_back }

    pub separators_length : length s.separators.items ≡ length def.lists
    separators_length = ap length sets.separators ∙ length-map def.lists (separator_number (length def.phyla + 4) words)

    pub kinds_length : s.rows.kinds ≡ s.rows.phyla + length s.separators.items
    kinds_length = let a = sets.sizes.phyla_are in let b = sets.sizes.kinds_are in let c = separators_length in omega (arith, a, b, c)

-- ---- led operators

module _ (def : Definition) (words : List Name) (shapes : List Shape) (read : IsRead def words shapes) (width : ℕ) (wide : width ≡ length def.phyla + 4 + length words) where
  small : (t : Terminal) (c : ℕ) → number_of def words t ≡ Some c → c < width
  small t c e = subst (λ w. c < w) (sym wide) (number_small def words t c e)

  there : (n : ℕ) (s : Shape) → slice_get shapes n ≡ Some s → slice_get (map (shape_of (length def.phyla + 4) words) def.operators) n ≡ Some s
  there n s e = subst (λ z. slice_get z n ≡ Some s) read.shapes_are e

  module _ (s : Sets) (sets : AreSets def words width s) where
    clash_there : (n c : ℕ) → LedClash s.rows s.grid shapes n c → (t : Terminal) × (number_of def words t ≡ Some c) × LedFollows def n t
    clash_there n c x =
        let (t, num, l) = led_there def words (known def words shapes read) x.shape.phylum c n (record { shape = x.shape; at = there n x.shape x.at; gives = x.behind.0 }) in
        let (u, num', f) = (sets.follows (kinds.Phylum x.shape.phylum) (shape_at def words shapes read s.rows sets.sizes width wide n x.shape x.at).phylum).sound c (small t c num) x.behind.1 in
        (t, num, led_behind x.shape.phylum l (subst (Follow def (kinds.Phylum x.shape.phylum)) (same_terminal def words u t c num' num) f))

    clash_back : (n : ℕ) (t : Terminal) → LedFollows def n t → (c : ℕ) × (number_of def words t ≡ Some c) × LedClash s.rows s.grid shapes n c
    clash_back n t (led_behind p l f) =
        let (c, num, made) = led_back def words (known def words shapes read) p n t l in
        let g : Gives led_cell shapes p c n = subst (λ z. Gives led_cell z p c n) (sym read.shapes_are) made in
        let (x, y) = led_cell_is g.shape p c g.gives in
        let h : p < s.rows.phyla = subst (λ z. z < s.rows.phyla) x (shape_at def words shapes read s.rows sets.sizes width wide n g.shape g.at).phylum in
        let (d, num', lt, e) = (sets.follows (kinds.Phylum p) h).complete t f in (
          c,
          num,
          record {
            shape = g.shape;
            at = g.at;
            behind = (g.gives ∙ ap (λ q. Some (cell_of q c)) (sym x), ap₂ (λ q k. is_set s.grid (s.rows.kinds + q) k) x (same_Some c d (sym num ∙ num')) ∙ e);
          },
        )

    clash_same : (n c d : ℕ) → LedClash s.rows s.grid shapes n c → LedClash s.rows s.grid shapes n d → d ≡ c
    clash_same n c d x y =
        let same : y.shape ≡ x.shape = (let e : Some y.shape ≡ Some x.shape = sym y.at ∙ x.at in cc) in
        let (a, p) = led_cell_is x.shape x.shape.phylum c x.behind.0 in
        let (b, q) = led_cell_is y.shape y.shape.phylum d y.behind.0 in
        token_same (slice_get x.shape.parts 1) d c (subst (λ (z : Shape). slice_get z.parts 1 ≡ Some (parts.Token d)) same q) p

    pub led_first : (o : Option (ℕ × ℕ)) → IsFirstLed s.rows s.grid shapes o → IsFirstOf def words (LedFollows def) (length def.operators) o
    led_first None h = λ n t f. (let (c, num, x) = clash_back n t f in h n (c, x))
    led_first (Some (n, c)) ((some, before), x) =
        let (t, num, f) = clash_there n c x in
        let (o, found, e) = map_get (shape_of (length def.phyla + 4) words) def.operators n x.shape (there n x.shape x.at) in (
          slice_get_within def.operators n o found,
          (
            ((t, f), λ m lt g. (let (d, num', y) = clash_back m g.0 g.1 in before m lt (d, y))),
            (
              t,
              (f, λ u g. (let (d, num', y) = clash_back n u g in same_order def words u t d c num' num ∙ ap (λ z. is_number_before (length def.phyla + 4) words z c) (clash_same n c d x y) ∙ number_self (length def.phyla + 4) words c)),
              same_text def words t c num,
            ),
          ),
        )

  -- ---- the sets

  module _ (rows : Rows) (sizes : AreRows (length def.phyla) (length def.lists) rows) (is : IsRows rows) (holes : List Bool) (hs : AreHoles def holes) (seps : List ℕ) (es : seps ≡ map (separator_number (length def.phyla + 4) words) def.lists)
      (opening closing : ℕ) (op : number_of def words open_bracket ≡ Some opening) (cl : number_of def words close_bracket ≡ Some closing) where
    abbrev pub whole : Parts
    whole = parts_with rows shapes def.phyla def.lists holes seps opening closing

    separator_at : (l n : ℕ) (k : ListKind) → slice_get seps l ≡ Some n → slice_get def.lists l ≡ Some k → number_of def words (fixed k.separator) ≡ Some n
    separator_at l n k at found = separator_known def words read.among l k found ∙ sym (slice_get-map_some (separator_number (length def.phyla + 4) words) def.lists l k found) ∙ ap (λ z. slice_get z l) (sym es) ∙ at

    element_at : (l : ℕ) (k : ListKind) → slice_get def.lists l ≡ Some k → k.element < rows.phyla
    element_at l k found = let (p, e, x) = (each_at (IsListKind def) def.lists read.sound.lists l k found).element_sort in subst (λ z. k.element < z) (sym sizes.phyla_are) (slice_get_within def.phyla k.element p e)

    pub are_parts : AreParts width (parts_with rows shapes def.phyla def.lists holes seps opening closing)
    are_parts = record {
      rows = is;
      sizes = sizes;
      shapes = shape_at def words shapes read rows sizes width wide;
      elements = element_at;
      holes = hs.one_each;
      separators = ap length es ∙ length-map def.lists (separator_number (length def.phyla + 4) words);
      each = λ l n at. (let (k, found, same) = map_get (separator_number (length def.phyla + 4) words) def.lists l n (subst (λ z. slice_get z l ≡ Some n) es at) in small (fixed k.separator) n (separator_at l n k at found));
      opening = small open_bracket opening op;
      closing = small close_bracket closing cl;
      terminals = (let a = sizes.phyla_are in omega (arith, a, wide));
    }

    describes : Describes def words (parts_with rows shapes def.phyla def.lists holes seps opening closing)
    describes = record {
      sizes = sizes;
      shapes = read.shapes_are;
      phyla = refl;
      lists = refl;
      holes = hs.exact;
      separators = separator_at;
      opening = op;
      closing = cl;
      known = known def words shapes read;
      distinct = distinct def read.sound;
    }

    module _ (g : Grid) (exact : (r c : ℕ) → r < rows.height → c < width → (is_set g r c ≡ true) ↔ Grown (parts_with rows shapes def.phyla def.lists holes seps opening closing) r c) where
      first_high : (k : Kind) → IsKind rows k → kind_index rows.phyla k < rows.height
      first_high k h = let a = kind_small rows k is h in let b = is.height_is in omega (arith, a, b)

      follow_high : (k : Kind) → IsKind rows k → rows.kinds + kind_index rows.phyla k < rows.height
      follow_high k h = let a = kind_small rows k is h in let b = is.height_is in omega (arith, a, b)

      list_in : (l : ℕ) → l < length def.lists → rows.phyla + l < rows.kinds
      list_in l h = let a = sizes.phyla_are in let b = sizes.kinds_are in omega (arith, h, a, b)

      pub lists_are : (l : ℕ) → l < length def.lists → IsSetOf def words width (is_set g (rows.phyla + l)) (FirstOfList def l)
      lists_are l h = record {
        sound = λ c lt e. (means def words whole width describes are_parts ((exact (rows.phyla + l) c (first_high (kinds.List l) (list_in l h)) lt).0 e)).firsts (kinds.List l) (list_in l h) refl;
        complete = λ t f. (let (c, num, x) = has_list def words whole width describes are_parts l t f in
            (c, num, small t c num, (exact (rows.phyla + l) c (first_high (kinds.List l) (list_in l h)) (small t c num)).1 x));
      }

      pub follows_are : (k : Kind) → IsKind rows k → IsSetOf def words width (is_set g (follow_row rows k)) (Follow def k)
      follows_are k h = record {
        sound = λ c lt e. (means def words whole width describes are_parts ((exact (follow_row rows k) c (follow_high k h) lt).0 e)).follows k h refl;
        complete = λ t f. (let (c, num, x) = has_follow def words whole width describes are_parts f in
            (c, num, small t c num, (exact (follow_row rows k) c (follow_high k h) (small t c num)).1 x));
      }

  -- the same where the phyla and lists are those of the definition
  module _ (rows : Rows) (phyla : List Phylum) (lists : List ListKind) (pe : phyla ≡ def.phyla) (le : lists ≡ def.lists) (many : AreRows (length phyla) (length lists) rows) (is : IsRows rows) (holes : List Bool) (hs : AreHoles def holes)
      (seps : List ℕ) (es : seps ≡ map (separator_number (length def.phyla + 4) words) def.lists) (opening closing : ℕ) (op : number_of def words open_bracket ≡ Some opening) (cl : number_of def words close_bracket ≡ Some closing) where
    sizes_of : AreRows (length def.phyla) (length def.lists) rows
    sizes_of = subst (λ p. AreRows (length p) (length def.lists) rows) pe (subst (λ l. AreRows (length phyla) (length l) rows) le many)

    pub parts_given : AreParts width (parts_with rows shapes phyla lists holes seps opening closing)
    parts_given = subst (λ l. AreParts width (parts_with rows shapes phyla l holes seps opening closing)) (sym le)
        (subst (λ p. AreParts width (parts_with rows shapes p def.lists holes seps opening closing)) (sym pe) (are_parts rows sizes_of is holes hs seps es opening closing op cl))

    pub sets_given : (v : Vec ℕ Global) → v.items ≡ map (separator_number (length def.phyla + 4) words) def.lists → (g : Grid) → IsTable rows.height width g
        → ((r c : ℕ) → r < rows.height → c < width → (is_set g r c ≡ true) ↔ Grown (parts_with rows shapes phyla lists holes seps opening closing) r c) → AreSets def words width (record { rows = rows; separators = v; grid = g })
    sets_given v f g table exact = record {
      rows = is;
      sizes = sizes_of;
      table = table;
      separators = f;
      lists = lists_are rows sizes_of is holes hs seps es opening closing op cl g same;
      follows = follows_are rows sizes_of is holes hs seps es opening closing op cl g same;
    } where
      same : (r c : ℕ) → r < rows.height → c < width → (is_set g r c ≡ true) ↔ Grown (parts_with rows shapes def.phyla def.lists holes seps opening closing) r c
      same = subst (λ l. (r c : ℕ) → r < rows.height → c < width → (is_set g r c ≡ true) ↔ Grown (parts_with rows shapes def.phyla l holes seps opening closing) r c) le
          (subst (λ p. (r c : ℕ) → r < rows.height → c < width → (is_set g r c ≡ true) ↔ Grown (parts_with rows shapes p lists holes seps opening closing) r c) pe exact)
