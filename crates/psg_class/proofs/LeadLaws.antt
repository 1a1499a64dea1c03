-- First and second tokens of operators, by their shapes.
use Rattle.std.proofs.Common.{◌≡◌, ℕ, zero, suc, ◌+◌, List, [], ◌∷◌, ◌++◌, length, map, drop, Option, Some, None, slice_get, refl, ap, ap₂, sym, ◌∙◌, subst, arith}
use Rattle.psg_terms.proofs.Lists.{slice_get-map_some}
use Rattle.psg_terms.specs.Names.{Name}
use Rattle.psg_grammar.specs.declared.types.Kind.{Kind}
use Rattle.psg_grammar.specs.declared.types.Item.{Item}
use Rattle.psg_grammar.specs.declared.types.Item.TheVariants as items
use Rattle.psg_grammar.specs.declared.types.Operator.{Operator}
use Rattle.psg_grammar.specs.declared.types.Definition.{Definition}
use Rattle.psg_class.specs.Terminals.{Terminal, fixed, a_name, a_number, a_text, item_terminal}
use Rattle.psg_class.specs.Places.{solid}
use Rattle.psg_class.specs.Follow.{Leads, Led}
use Rattle.psg_class.specs.Numbers.{number_of}
use Rattle.psg_class.specs.Shapes.{item_number, part_of, parts_of, shape_of}
use Rattle.psg_class.specs.Forms.{cell_of, first_part}
use Rattle.psg_class.specs.Failing.{token_cell, lead_cell, behind_slot, led_cell}
use Rattle.psg_class.specs.declared.grid.Cell.{Cell}
use Rattle.psg_class.specs.declared.shape.Part.{Part}
use Rattle.psg_class.specs.declared.shape.Part.TheVariants as parts
use Rattle.psg_class.specs.declared.shape.Shape.{Shape}
use Rattle.psg_class.proofs.PartLaws.{Match, Known, match_of, token_of, slot_of}
use Rattle.psg_class.proofs.FormLaws.{map_get}
use Rattle.psg_class.proofs.TwiceLaws.{Gives}

part_same : {p q : Part} → Some p ≡ Some q → p ≡ q
part_same e = cc

-- ---- items beside parts, at a place

module _ (base : ℕ) (words : List Name) where
  pub record AtPart (is : List Item) (ps : List Part) (n : ℕ) (p : Part) : Type 0 where
    pub front : List Item
    pub item : Item
    pub behind : List Item
    pub items : is ≡ front ++ item ∷ behind
    pub place : length front ≡ n
    pub part : part_of base words item ≡ Some p
    pub rest : Match base words behind (drop (suc n) ps)

  pub at_part : (is : List Item) (ps : List Part) (n : ℕ) (p : Part) → Match base words is ps → slice_get ps n ≡ Some p → AtPart is ps n p
  at_part [] [] n p m e = absurd (let x : ◌≡◌ {A = Option Part} None (Some p) = e in cc)
  at_part [] (q ∷ ps) n p m e = absurd m
  at_part (i ∷ is) [] n p m e = absurd m
  at_part (i ∷ is) (q ∷ ps) zero p (k, m) e = record { front = []; item = i; behind = is; items = refl; place = refl; part = k ∙ e; rest = m }
  at_part (i ∷ is) (q ∷ ps) (suc n) p (k, m) e =
      let a = at_part is ps n p m e in
      record { front = i ∷ a.front; item = a.item; behind = a.behind; items = ap (λ l. i ∷ l) a.items; place = ap (λ x. suc x) a.place; part = a.part; rest = a.rest }

  pub record AtItem (i : Item) (behind : List Item) (ps : List Part) (n : ℕ) : Type 0 where
    pub part : Part
    pub found : slice_get ps n ≡ Some part
    pub is_part : part_of base words i ≡ Some part
    pub rest : Match base words behind (drop (suc n) ps)

  pub at_item : (front : List Item) (i : Item) (behind : List Item) (ps : List Part) → Match base words (front ++ i ∷ behind) ps → AtItem i behind ps (length front)
  at_item [] i behind [] m = absurd m
  at_item [] i behind (p ∷ ps) (e, m) = record { part = p; found = refl; is_part = e; rest = m }
  at_item (j ∷ front) i behind [] m = absurd m
  at_item (j ∷ front) i behind (p ∷ ps) (e, m) = let a = at_item front i behind ps m in record { part = a.part; found = a.found; is_part = a.is_part; rest = a.rest }

module _ (def : Definition) (words : List Name) where
  abbrev pub base_of : ℕ
  base_of = length def.phyla + 4

  pub terminal_number : (i : Item) (n : ℕ) → item_number (length def.phyla + 4) words i ≡ Some n → (t : Terminal) × (item_terminal i ≡ Some t) × (number_of def words t ≡ Some n)
  terminal_number (items.Word w) n e = (fixed w, refl, e)
  terminal_number (items.Refers s) n e = (a_name, refl, e)
  terminal_number (items.Declares s) n e = (a_name, refl, e)
  terminal_number items.Number n e = (a_number, refl, e)
  terminal_number items.Text n e = (a_text, refl, e)
  terminal_number (items.Slot k) n e = absurd (let x : None ≡ Some n = e in cc)
  terminal_number items.Space n e = absurd (let x : None ≡ Some n = e in cc)
  terminal_number items.Tight n e = absurd (let x : None ≡ Some n = e in cc)
  terminal_number items.Line n e = absurd (let x : None ≡ Some n = e in cc)
  terminal_number items.In n e = absurd (let x : None ≡ Some n = e in cc)
  terminal_number items.Out n e = absurd (let x : None ≡ Some n = e in cc)

  number_terminal : (i : Item) (t : Terminal) → item_terminal i ≡ Some t → number_of def words t ≡ item_number (length def.phyla + 4) words i
  number_terminal (items.Word w) t e = let x : fixed w ≡ t = cc in ap (number_of def words) (sym x)
  number_terminal (items.Refers s) t e = let x : a_name ≡ t = cc in ap (number_of def words) (sym x)
  number_terminal (items.Declares s) t e = let x : a_name ≡ t = cc in ap (number_of def words) (sym x)
  number_terminal items.Number t e = let x : a_number ≡ t = cc in ap (number_of def words) (sym x)
  number_terminal items.Text t e = let x : a_text ≡ t = cc in ap (number_of def words) (sym x)
  number_terminal (items.Slot k) t e = absurd (let x : None ≡ Some t = e in cc)
  number_terminal items.Space t e = absurd (let x : None ≡ Some t = e in cc)
  number_terminal items.Tight t e = absurd (let x : None ≡ Some t = e in cc)
  number_terminal items.Line t e = absurd (let x : None ≡ Some t = e in cc)
  number_terminal items.In t e = absurd (let x : None ≡ Some t = e in cc)
  number_terminal items.Out t e = absurd (let x : None ≡ Some t = e in cc)

  -- the part of a token item is a token, with the terminal's number
  pub token_part : (i : Item) (t : Terminal) (p : Part) → item_terminal i ≡ Some t → part_of (length def.phyla + 4) words i ≡ Some p → (n : ℕ) × (p ≡ parts.Token n) × (number_of def words t ≡ Some n)
  token_part i t (parts.Token n) e f = (n, refl, number_terminal i t e ∙ token_of (length def.phyla + 4) words i n f)
  token_part i t (parts.Slot k) e f = absurd (let x : None ≡ Some t = sym (ap item_terminal (slot_of (length def.phyla + 4) words i k f)) ∙ e in cc)

  pub part_token : (i : Item) (n : ℕ) → part_of (length def.phyla + 4) words i ≡ Some (parts.Token n) → (t : Terminal) × (item_terminal i ≡ Some t) × (number_of def words t ≡ Some n)
  part_token i n e = terminal_number i n (token_of (length def.phyla + 4) words i n e)

  pub slot_part : (k : Kind) (p : Part) → part_of (length def.phyla + 4) words (items.Slot k) ≡ Some p → p ≡ parts.Slot k
  slot_part k p e = let x : Some (parts.Slot k) ≡ Some p = e in cc

  -- ---- cells of first and second tokens

  cell_same : (r c : ℕ) (x : Cell) → Some x ≡ Some (cell_of r c) → (x.row ≡ r) × (x.column ≡ c)
  cell_same r c x e = let f : x ≡ cell_of r c = cc in (ap (λ (y : Cell). y.row) f, ap (λ (y : Cell). y.column) f)

  no_cell : {A : Type 0} (r c : ℕ) → ◌≡◌ {A = Option Cell} None (Some (cell_of r c)) → A
  no_cell r c e = cc

  pub token_cell_is : (row r c : ℕ) (p : Option Part) → token_cell row p ≡ Some (cell_of r c) → (row ≡ r) × (p ≡ Some (parts.Token c))
  token_cell_is row r c (Some (parts.Token n)) e = let (x, y) = cell_same r c (cell_of row n) e in (x, ap (λ m. Some (parts.Token m)) y)
  token_cell_is row r c (Some (parts.Slot k)) e = no_cell r c e
  token_cell_is row r c None e = no_cell r c e

  pub behind_slot_is : (row r c : ℕ) (p q : Option Part) → behind_slot row p q ≡ Some (cell_of r c) → (row ≡ r) × ((k : Kind) × (p ≡ Some (parts.Slot k))) × (q ≡ Some (parts.Token c))
  behind_slot_is row r c (Some (parts.Slot k)) q e = let (x, y) = token_cell_is row r c q e in (x, (k, refl), y)
  behind_slot_is row r c (Some (parts.Token n)) q e = no_cell r c e
  behind_slot_is row r c None q e = no_cell r c e

  module _ (known : (n : ℕ) (o : Operator) → slice_get def.operators n ≡ Some o → Known (length def.phyla + 4) words o.items) where
    -- an operator whose first part is a token
    pub leads_of : (n : ℕ) (o : Operator) → slice_get def.operators n ≡ Some o → (c : ℕ) → slice_get (parts_of (length def.phyla + 4) words o.items) 0 ≡ Some (parts.Token c) → (t : Terminal) × (number_of def words t ≡ Some c) × Leads def o.phylum n t
    leads_of n o found c e =
        let a = at_part (length def.phyla + 4) words (solid o.items) (parts_of (length def.phyla + 4) words o.items) 0 (parts.Token c) (match_of (length def.phyla + 4) words o (known n o found)) e in
        let (t, f, g) = part_token a.item c a.part in
        (t, g, record { o = o; found = found; phylum = refl; item = a.item; more = a.behind; items = a.items ∙ none_front a.front a.place (a.item ∷ a.behind); begins = f }) where
          none_front : (front : List Item) → length front ≡ 0 → (l : List Item) → front ++ l ≡ l
          none_front [] h l = refl
          none_front (i ∷ front) h l = absurd (omega (arith, h))

    pub of_leads : (p n : ℕ) (t : Terminal) (l : Leads def p n t) → (c : ℕ) × (number_of def words t ≡ Some c) × (slice_get (parts_of (length def.phyla + 4) words l.o.items) 0 ≡ Some (parts.Token c))
    of_leads p n t l =
        let m = match_of (length def.phyla + 4) words l.o (known n l.o l.found) in
        let a = at_item (length def.phyla + 4) words [] l.item l.more (parts_of (length def.phyla + 4) words l.o.items) (subst (λ x. Match (length def.phyla + 4) words x (parts_of (length def.phyla + 4) words l.o.items)) l.items m) in
        let (c, e, f) = token_part l.item t a.part l.begins a.is_part in
        (c, f, a.found ∙ ap Some e)

    pub led_of : (n : ℕ) (o : Operator) → slice_get def.operators n ≡ Some o → (k : Kind) (c : ℕ) → slice_get (parts_of (length def.phyla + 4) words o.items) 0 ≡ Some (parts.Slot k) → slice_get (parts_of (length def.phyla + 4) words o.items) 1 ≡ Some (parts.Token c)
        → (t : Terminal) × (number_of def words t ≡ Some c) × Led def o.phylum n t
    led_of n o found k c e f =
        let m = match_of (length def.phyla + 4) words o (known n o found) in
        of (solid o.items) (parts_of (length def.phyla + 4) words o.items) refl m e f where
          of : (is : List Item) (ps : List Part) → solid o.items ≡ is → Match (length def.phyla + 4) words is ps → slice_get ps 0 ≡ Some (parts.Slot k) → slice_get ps 1 ≡ Some (parts.Token c) → (t : Terminal) × (number_of def words t ≡ Some c) × Led def o.phylum n t
          of [] [] h m e f = absurd (let x : ◌≡◌ {A = Option Part} None (Some (parts.Slot k)) = e in cc)
          of [] (p ∷ ps) h m e f = absurd m
          of (i ∷ is) [] h m e f = absurd m
          of (i ∷ []) (p ∷ []) h m e f = absurd (let x : ◌≡◌ {A = Option Part} None (Some (parts.Token c)) = f in cc)
          of (i ∷ []) (p ∷ q ∷ ps) h (x, m) e f = absurd m
          of (i ∷ j ∷ is) (p ∷ []) h (x, m) e f = absurd m
          of (i ∷ j ∷ is) (p ∷ q ∷ ps) h (x, (y, m)) e f =
              let (t, g, z) = part_token j c (y ∙ f) in
              (t, z, record { o = o; found = found; phylum = refl; slot = k; item = j; more = is; items = h ∙ ap (λ a. a ∷ j ∷ is) (slot_of (length def.phyla + 4) words i k (x ∙ e)); begins = g })

    pub of_led : (p n : ℕ) (t : Terminal) (l : Led def p n t) → (c : ℕ) × (number_of def words t ≡ Some c) × (slice_get (parts_of (length def.phyla + 4) words l.o.items) 0 ≡ Some (parts.Slot l.slot)) × (slice_get (parts_of (length def.phyla + 4) words l.o.items) 1 ≡ Some (parts.Token c))
    of_led p n t l =
        let m = subst (λ x. Match (length def.phyla + 4) words x (parts_of (length def.phyla + 4) words l.o.items)) l.items (match_of (length def.phyla + 4) words l.o (known n l.o l.found)) in
        let a = at_item (length def.phyla + 4) words [] (items.Slot l.slot) (l.item ∷ l.more) (parts_of (length def.phyla + 4) words l.o.items) m in
        let b = at_item (length def.phyla + 4) words (items.Slot l.slot ∷ []) l.item l.more (parts_of (length def.phyla + 4) words l.o.items) m in
        let (c, e, f) = token_part l.item t b.part l.begins b.is_part in
        (c, f, a.found ∙ ap Some (slot_part l.slot a.part a.is_part), b.found ∙ ap Some e)

    -- the same, for the cells
    pub leads_there : (r c n : ℕ) → Gives lead_cell (map (shape_of (length def.phyla + 4) words) def.operators) r c n → (t : Terminal) × (number_of def words t ≡ Some c) × Leads def r n t
    leads_there r c n g =
        let (o, found, e) = map_get (shape_of (length def.phyla + 4) words) def.operators n g.shape g.at in
        let (x, y) = token_cell_is o.phylum r c (slice_get (parts_of (length def.phyla + 4) words o.items) 0) (ap lead_cell (sym e) ∙ g.gives) in
        let (t, h, l) = leads_of n o found c y in
        (t, h, subst (λ p. Leads def p n t) x l)

    pub leads_back : (r n : ℕ) (t : Terminal) → Leads def r n t → (c : ℕ) × (number_of def words t ≡ Some c) × Gives lead_cell (map (shape_of (length def.phyla + 4) words) def.operators) r c n
    leads_back r n t l =
        let (c, h, e) = of_leads r n t l in
        (c, h, record { shape = shape_of (length def.phyla + 4) words l.o; at = slice_get-map_some (shape_of (length def.phyla + 4) words) def.operators n l.o l.found; gives = ap (token_cell l.o.phylum) e ∙ ap (λ p. Some (cell_of p c)) l.phylum })

    pub led_there : (r c n : ℕ) → Gives led_cell (map (shape_of (length def.phyla + 4) words) def.operators) r c n → (t : Terminal) × (number_of def words t ≡ Some c) × Led def r n t
    led_there r c n g =
        let (o, found, e) = map_get (shape_of (length def.phyla + 4) words) def.operators n g.shape g.at in
        let (x, (k, y), z) = behind_slot_is o.phylum r c (slice_get (parts_of (length def.phyla + 4) words o.items) 0) (slice_get (parts_of (length def.phyla + 4) words o.items) 1) (ap led_cell (sym e) ∙ g.gives) in
        let (t, h, l) = led_of n o found k c y z in
        (t, h, subst (λ p. Led def p n t) x l)

    pub led_back : (r n : ℕ) (t : Terminal) → Led def r n t → (c : ℕ) × (number_of def words t ≡ Some c) × Gives led_cell (map (shape_of (length def.phyla + 4) words) def.operators) r c n
    led_back r n t l =
        let (c, h, e, f) = of_led r n t l in (
          c,
          h,
          record {
            shape = shape_of (length def.phyla + 4) words l.o;
            at = slice_get-map_some (shape_of (length def.phyla + 4) words) def.operators n l.o l.found;
            gives = ap₂ (behind_slot l.o.phylum) e f ∙ ap (λ p. Some (cell_of p c)) l.phylum;
          },
        )

-- the row and the second part of a shape with a cell
pub led_cell_is : (s : Shape) (r c : ℕ) → led_cell s ≡ Some (cell_of r c) → (s.phylum ≡ r) × (slice_get s.parts 1 ≡ Some (parts.Token c))
led_cell_is s r c e = let (x, y, z) = of (first_part s) (slice_get s.parts 1) e in (x, z) where
  token : (p : Option Part) → token_cell s.phylum p ≡ Some (cell_of r c) → (s.phylum ≡ r) × (p ≡ Some (parts.Token c))
  token (Some (parts.Token n)) f = let h : cell_of s.phylum n ≡ cell_of r c = cc in (ap (λ (x : Cell). x.row) h, ap (λ (x : Cell). Some (parts.Token x.column)) h)
  token (Some (parts.Slot k)) f = absurd (let h : None ≡ Some (cell_of r c) = f in cc)
  token None f = absurd (let h : None ≡ Some (cell_of r c) = f in cc)

  of : (p q : Option Part) → behind_slot s.phylum p q ≡ Some (cell_of r c) → (s.phylum ≡ r) × Unit {0} × (q ≡ Some (parts.Token c))
  of (Some (parts.Slot k)) q f = let (x, y) = token q f in (x, tt, y)
  of (Some (parts.Token n)) q f = absurd (let h : None ≡ Some (cell_of r c) = f in cc)
  of None q f = absurd (let h : None ≡ Some (cell_of r c) = f in cc)
