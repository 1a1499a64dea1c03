-- What orders make of the terminal, step by step.
use Rattle.std.proofs.Common.{◌≡◌, ℕ, ◌+◌, ◌%◌, ◌<◌, ◌≤◌, Bool, true, false, List, [], ◌∷◌, ◌++◌, map, length, drop, refl, sym, ap, ◌∙◌, arith, inl, inr, subst, Option, Some, None}
use Rattle.std.specs.Prelude.{slice_get, not, ◌||◌, ◌==◌, nat_lt, if◌then◌else◌}
use Rattle.std.proofs.Math.Nat.{mod-add-mod, mod_self}
use Rattle.std.proofs.Math.Seq.{drop-append-add}
use Rattle.std.proofs.lemmas.Bool.{cases_lt, lt-ltb, le-ltb, true≢false, eqb-true}
use Rattle.std.proofs.lemmas.List.{map-append, length-map, take_at}
use Rattle.psg_canvas.specs.Cells.{Slot, columns_of, is_cell, width_of_text}
use Rattle.psg_canvas.specs.declared.style.Style.{Style}
use Rattle.psg_canvas.specs.Terminal.{Order, Move, Erase, Restyle, Put, Enter, Leave, ShowCursor, HideCursor, Terminal, unknown, size_of, is_inside, torn, written, goes_past, place_after, put_by, obeyed, screen_after}
use Rattle.psg_canvas.specs.Drawing.{Erases, is_at, moves, KnowsPlace, KnowsStyle, Restyles, place_past, Puts}
use Rattle.psg_canvas.specs.Walking.{IsKnown, AreCalm}
use Rattle.psg_canvas.proofs.LeftLaws.{IsTail, cut_tail, tail_outside}

pub screen_append : (t : Terminal) (xs ys : List Order) → screen_after t (xs ++ ys) ≡ screen_after (screen_after t xs) ys
screen_append t [] ys = refl
screen_append t (x ∷ xs) ys = screen_append (obeyed t x) xs ys

-- ---- what an erasing order is among others

pub erases_none : (xs ys : List Order) → (Erases xs → ⊥) → (Erases ys → ⊥) → Erases (xs ++ ys) → ⊥
erases_none [] ys no_x no_y e = no_y e
erases_none (Erase ∷ xs) ys no_x no_y e = no_x tt
erases_none (Move n ∷ xs) ys no_x no_y e = erases_none xs ys no_x no_y e
erases_none (Restyle s ∷ xs) ys no_x no_y e = erases_none xs ys no_x no_y e
erases_none (Put s ∷ xs) ys no_x no_y e = erases_none xs ys no_x no_y e
erases_none (Enter ∷ xs) ys no_x no_y e = erases_none xs ys no_x no_y e
erases_none (Leave ∷ xs) ys no_x no_y e = erases_none xs ys no_x no_y e
erases_none (ShowCursor ∷ xs) ys no_x no_y e = erases_none xs ys no_x no_y e
erases_none (HideCursor ∷ xs) ys no_x no_y e = erases_none xs ys no_x no_y e

pub moves_keep : (at : Option ℕ) (place : ℕ) → Erases (moves at place) → ⊥
moves_keep at place = by_test (is_at place at)
  where
    by_test : (b : Bool) → Erases (if b then [] else Move place ∷ []) → ⊥
    by_test true e = e
    by_test false e = e

pub styles_keep : (old : Option Style) (style : Style) (orders : List Order) → Restyles old style orders → Erases orders → ⊥
styles_keep old style [] r e = e
styles_keep old style (order ∷ orders) r e =
    let P : Order → Type 0 = λ o. Erases (o ∷ orders) in
    let Q : List Order → Type 0 = λ os. Erases os in
    subst Q r.1 (subst P r.0 e)

pub puts_keep : (at : Option ℕ) (style : Option Style) (place : ℕ) (cell : Slot) (orders : List Order) → Puts at style place cell orders
    → Erases orders → ⊥
puts_keep at style place cell orders puts e =
    erases_none (moves at place ++ puts.styles) (Put cell.text ∷ [])
    (erases_none (moves at place) puts.styles (moves_keep at place) (styles_keep style cell.style puts.styles puts.styled))
    (λ h. h)
    (subst Erases puts.whole e)

-- ---- what leaves the first screen as it is

pub calm_append : (xs ys : List Order) → AreCalm xs → AreCalm ys → AreCalm (xs ++ ys)
calm_append xs ys calm_x calm_y t =
    ap (λ now. now.main) (screen_append t xs ys) ∙ calm_y (screen_after t xs) ∙ calm_x t

pub calm_moves : (at : Option ℕ) (place : ℕ) → AreCalm (moves at place)
calm_moves at place = by_test (is_at place at)
  where
    by_test : (b : Bool) → AreCalm (if b then [] else Move place ∷ [])
    by_test true t = refl
    by_test false t = refl

pub calm_styles : (old : Option Style) (style : Style) (orders : List Order) → Restyles old style orders → AreCalm orders
calm_styles old style [] r t = refl
calm_styles old style (order ∷ orders) r t =
    ap (λ o. (screen_after (obeyed t o) orders).main) r.0 ∙ ap (λ os. (screen_after (obeyed t (Restyle style)) os).main) r.1

calm_put : (text : List ℕ) → AreCalm (Put text ∷ [])
calm_put text t = by_place t.at t.style
  where
    by_test : (b : Bool) (first second : Terminal) → first.main ≡ t.main → second.main ≡ t.main
        → (if b then first else second).main ≡ t.main
    by_test true first second e f = e
    by_test false first second e f = f

    by_place : (at : Option ℕ) (style : Option Style) → (put_by t text at style).main ≡ t.main
    by_place None style = refl
    by_place (Some place) None = refl
    by_place (Some place) (Some style) = by_test (goes_past t place text) _ _ refl refl

pub calm_puts : (at : Option ℕ) (style : Option Style) (place : ℕ) (cell : Slot) (orders : List Order) → Puts at style place cell orders
    → AreCalm orders
calm_puts at style place cell orders puts =
    subst AreCalm (sym puts.whole)
    (calm_append (moves at place ++ puts.styles) (Put cell.text ∷ [])
    (calm_append (moves at place) puts.styles (calm_moves at place) (calm_styles style cell.style puts.styles puts.styled))
    (calm_put cell.text))

-- ---- the steps of a pen

pub moved : (at : Option ℕ) (place : ℕ) (t : Terminal) → KnowsPlace at t → place < size_of t
    → screen_after t (moves at place) ≡ record t { at = Some place }
moved None place t known within =
    ap (λ b. let next : Terminal = record t { at = if b then Some place else None } in next) (lt-ltb place (size_of t) within)
moved (Some p) place t known within = by_test (p == place) refl
  where
    by_test : (b : Bool) → (p == place) ≡ b → screen_after t (if b then [] else Move place ∷ []) ≡ record t { at = Some place }
    by_test true same =
        let here : t.at ≡ Some place = known ∙ ap Some (eqb-true p place same) in
        ap (λ a. let next : Terminal = record t { at = a } in next) here
    by_test false other =
        ap (λ b. let next : Terminal = record t { at = if b then Some place else None } in next) (lt-ltb place (size_of t) within)

pub restyled : (old : Option Style) (style : Style) (orders : List Order) (t : Terminal) → Restyles old style orders → KnowsStyle old t
    → screen_after t orders ≡ record t { style = Some style }
restyled None style [] t r known = absurd (no_style style r)
  where
    no_style : (s : Style) → None ≡ Some s → ⊥
    no_style s e = grind arith
restyled (Some s) style [] t r known =
    ap (λ a. let next : Terminal = record t { style = a } in next) (known ∙ r)
restyled old style (order ∷ orders) t r known =
    ap (λ o. screen_after (obeyed t o) orders) r.0
    ∙ ap (λ os. let next : Terminal = record t { style = Some style } in screen_after next os) r.1

not_past : (a b c : Bool) → a ≡ true → b ≡ false → c ≡ false → (not a || b || c) ≡ false
not_past a b c ea eb ec = ap (λ x. not x || b || c) ea ∙ ap (λ x. x || c) eb ∙ ec

-- a cell that is written at its place, in its style
put_cell : (t : Terminal) (place : ℕ) (cell : Slot) → goes_past t place cell.text ≡ false
    → let here : Terminal = record t { at = Some place; style = Some cell.style } in
    let next : Terminal = record t {
      at = place_after t place cell.text;
      style = Some cell.style;
      shown = written place cell t.shown;
    } in
    obeyed here (Put cell.text) ≡ next
put_cell t place cell inside =
    let past : Terminal = record t { at = None; style = Some cell.style; shown = unknown t } in
    let next : Terminal = record t {
      at = place_after t place cell.text;
      style = Some cell.style;
      shown = written place cell t.shown;
    } in
    ap (λ b. if b then past else next) inside

pub put_at : (at : Option ℕ) (style : Option Style) (place : ℕ) (cell : Slot) (orders : List Order) (t : Terminal)
    → Puts at style place cell orders → IsKnown at style t → place < size_of t → goes_past t place cell.text ≡ false
    → let next : Terminal = record t {
      at = place_after t place cell.text;
      style = Some cell.style;
      shown = written place cell t.shown;
    } in
    screen_after t orders ≡ next
put_at at style place cell orders t puts known within inside =
    let there : Terminal = record t { at = Some place } in
    let here : Terminal = record t { at = Some place; style = Some cell.style } in
    let styled : screen_after there puts.styles ≡ here = restyled style cell.style puts.styles there puts.styled (knows style t known.look) in
    ap (screen_after t) puts.whole
    ∙ screen_append t (moves at place ++ puts.styles) (Put cell.text ∷ [])
    ∙ ap (λ now. screen_after now (Put cell.text ∷ []))
    (screen_append t (moves at place) puts.styles
    ∙ ap (λ now. screen_after now puts.styles) (moved at place t known.place within)
    ∙ styled)
    ∙ put_cell t place cell inside
  where
    knows : (style : Option Style) (t : Terminal) → KnowsStyle style t → let there : Terminal = record t { at = Some place } in KnowsStyle style there
    knows None t k = tt
    knows (Some s) t k = k

-- ---- a cell over what is left

slice_get_at : {A : Type 0} (xs ys : List A) → slice_get (xs ++ ys) (length xs) ≡ slice_get ys 0
slice_get_at [] ys = refl
slice_get_at (x ∷ xs) ys = slice_get_at xs ys

-- the terminal shows the new columns so far, and what is left of the old ones
pub record IsOn (t now : Terminal) (done older : List Slot) : Type 0 where
  pub rows : now.rows ≡ t.rows
  pub cols : now.cols ≡ t.cols
  pub tail : List (Option Slot)
  pub shown : now.shown ≡ map Some done ++ tail
  pub left : IsTail older tail

knows_past : (b : Bool) (place : ℕ) (t : Terminal) → (b ≡ false → t.at ≡ Some place) → KnowsPlace (if b then None else Some place) t
knows_past true place t h = tt
knows_past false place t h = h refl

row_ends : (cols place width : ℕ) → place % cols + width ≤ cols → cols ≤ place % cols + width → ((place + width) % cols == 0) ≡ true
row_ends cols place width low high =
    let same : place % cols + width ≡ cols = omega (arith, low, high) in
    let none : (place + width) % cols ≡ 0 = sym (mod-add-mod place cols width) ∙ ap (λ n. n % cols) same ∙ mod_self cols in
    ap (λ n. n == 0) none

-- the pen knows the place after the cell
pub known_after : (cols place : ℕ) (cell : Slot) (t : Terminal) → t.cols ≡ cols → place % cols + width_of_text cell.text ≤ cols
    → let next : Terminal = record t {
      at = place_after t place cell.text;
      style = Some cell.style;
      shown = written place cell t.shown;
    } in
    IsKnown (place_past cols place cell.text) (Some cell.style) next
known_after cols place cell t same fits = record { place = knows_past _ (place + w) next at_place; look = refl }
  where
    w : ℕ
    w = width_of_text cell.text

    next : Terminal
    next = record t { at = place_after t place cell.text; style = Some cell.style; shown = written place cell t.shown }

    at_place : ((place + w) % cols == 0) ≡ false → place_after t place cell.text ≡ Some (place + w)
    at_place other =
        elim (cases_lt (place % cols + w) cols) [
          | inl below ↦
              ap (λ n. if nat_lt (place % n + w) n then Some (place + w) else None) same
              ∙ ap (λ b. if b then Some (place + w) else None) (lt-ltb (place % cols + w) cols below)
          | inr past ↦ absurd (true≢false (sym (row_ends cols place w fits past) ∙ other))
        ]

pub put_on : (t now : Terminal) (done older : List Slot) (at : Option ℕ) (style : Option Style) (cols place : ℕ) (cell : Slot)
    (orders : List Order) → IsOn t now done older → IsKnown at style now → now.cols ≡ cols → length done ≡ place → place < size_of now
    → 0 < length older → is_cell cell.text ≡ true → place % cols + width_of_text cell.text ≤ cols → Puts at style place cell orders
    → IsOn t (screen_after now orders) (done ++ columns_of cell) (drop (width_of_text cell.text) older)
    × IsKnown (place_past cols place cell.text) (Some cell.style) (screen_after now orders)
put_on t now done older at style cols place cell orders on known same count within some cells fits puts =
    let P : Terminal → Type 0 = λ last. IsOn t last (done ++ columns_of cell) (drop w older)
    × IsKnown (place_past cols place cell.text) (Some cell.style) last in
    let next : Terminal = record now {
      at = place_after now place cell.text;
      style = Some cell.style;
      shown = written place cell now.shown;
    } in
    let is : screen_after now orders ≡ next = put_at at style place cell orders now puts known within inside in
    subst P (sym is) (
      record {
        rows = on.rows;
        cols = on.cols;
        tail = torn (drop w on.tail);
        shown = shown;
        left = cut_tail w older on.tail on.left;
      },
      known_after cols place cell now same fits,
    )
  where
    w : ℕ
    w = width_of_text cell.text

    long : length (map Some done) ≡ place
    long = length-map done Some ∙ count

    inside : goes_past now place cell.text ≡ false
    inside =
        not_past (is_cell cell.text) (nat_lt now.cols (place % now.cols + w)) (is_inside (slice_get now.shown place)) cells
        (ap (λ n. nat_lt n (place % n + w)) same ∙ le-ltb cols (place % cols + w) fits)
        (ap (λ s. is_inside (slice_get s place)) on.shown
        ∙ ap (λ n. is_inside (slice_get (map Some done ++ on.tail) n)) (sym long)
        ∙ ap is_inside (slice_get_at (map Some done) on.tail)
        ∙ tail_outside older on.tail on.left some)

    shown : written place cell now.shown ≡ map Some (done ++ columns_of cell) ++ torn (drop w on.tail)
    shown =
        ap (written place cell) on.shown
        ∙ ap (λ s. s ++ map Some (columns_of cell) ++ torn (drop (place + w) (map Some done ++ on.tail))) (take_at (map Some done) on.tail place long)
        ∙ ap (λ n. map Some done ++ map Some (columns_of cell) ++ torn (drop (n + w) (map Some done ++ on.tail))) (sym long)
        ∙ ap (λ s. map Some done ++ map Some (columns_of cell) ++ torn s) (drop-append-add (map Some done) on.tail w)
        ∙ ap (λ s. s ++ torn (drop w on.tail)) (sym (map-append Some done (columns_of cell)))
