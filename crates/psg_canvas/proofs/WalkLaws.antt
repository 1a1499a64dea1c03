-- The walk over the cells of a new picture.
use Rattle.std.proofs.Common.{◌≡◌, ℕ, zero, suc, ◌+◌, ◌-◌, ◌*◌, ◌%◌, ◌<◌, ◌≤◌, Bool, true, false, List, [], ◌∷◌, ◌++◌, map, length, drop, replicate, refl, sym, ap, ◌∙◌, arith, subst, append_assoc, append-nil, Option, Some, None}
use Rattle.std.specs.Prelude.{slice_get, IfSome}
use Rattle.std.proofs.Math.Nat.{mod-add-mod, zero-mod, mul-zero}
use Rattle.std.proofs.lemmas.Grind.{flat_map-append}
use Rattle.std.proofs.lemmas.List.{map-append, length-append, length-drop, length-replicate, drop-drop, nil_from_length}
use Rattle.std.proofs.lemmas.Option.{none-some, same_Some}
use Rattle.psg_canvas.specs.Cells.{Slot, Picture, IsPicture, AreCells, AreRows, blank, plain, columns, columns_of, is_cell, width_of_text}
use Rattle.psg_canvas.specs.declared.style.Style.{Style}
use Rattle.psg_canvas.specs.Terminal.{Order, Erase, ShowCursor, Terminal, size_of, screen_after}
use Rattle.psg_canvas.specs.Orders.{bytes_of, bytes_of_all}
use Rattle.psg_canvas.specs.Drawing.{Draws, IsKept, IsOfSize, MayShow, Shows, ShowsCursor, Erases, Puts, Restyles, moves, place_past, cursor_orders, KnowsPlace, KnowsStyle}
use Rattle.psg_canvas.specs.Walking.{IsKnown, AreCalm, AwaitsPicture, HasColumns, ShowsOld, ShowsNew, Turns}
use Rattle.psg_canvas.proofs.LeftLaws.{AreStarts, IsTail, Skips, skip_tail, tail_end}
use Rattle.psg_canvas.proofs.RowLaws.{cell_starts, has_width, cell_long, starts_of, columns_spaces}
use Rattle.psg_canvas.proofs.TerminalLaws.{IsOn, calm_append, calm_moves, calm_styles, calm_puts, put_on, moved, moves_keep, puts_keep, erases_none, restyled, screen_append}

pub bytes_append : (cols : ℕ) (xs ys : List Order) → bytes_of_all cols (xs ++ ys) ≡ bytes_of_all cols xs ++ bytes_of_all cols ys
bytes_append cols xs ys = flat_map-append (bytes_of cols) xs ys

pub spelled_more : (cols : ℕ) (first text last : List ℕ) (xs ys : List Order) → text ≡ first ++ bytes_of_all cols xs
    → last ≡ text ++ bytes_of_all cols ys → last ≡ first ++ bytes_of_all cols (xs ++ ys)
spelled_more cols first text last xs ys e f =
    f ∙ ap (λ t. t ++ bytes_of_all cols ys) e ∙ append_assoc first (bytes_of_all cols xs) (bytes_of_all cols ys)
    ∙ ap (λ t. first ++ t) (sym (bytes_append cols xs ys))

slice_get_drop : {A : Type 0} (n : ℕ) (xs : List A) → slice_get (drop n xs) 0 ≡ slice_get xs n
slice_get_drop zero [] = refl
slice_get_drop zero (x ∷ xs) = refl
slice_get_drop (suc n) [] = refl
slice_get_drop (suc n) (x ∷ xs) = slice_get_drop n xs

slice_get_seam : {A : Type 0} (xs ys : List A) → slice_get (xs ++ ys) (length xs) ≡ slice_get ys 0
slice_get_seam [] ys = refl
slice_get_seam (x ∷ xs) ys = slice_get_seam xs ys

-- the walk up to a place: the cells so far are drawn, and the rest of the old columns is as it was but for torn cells
pub record IsWalk (cols : ℕ) (old new : List Slot) (first_at : Option ℕ) (first_style : Option Style) (first : List ℕ) (place : ℕ)
    (at : Option ℕ) (style : Option Style) (text : List ℕ) : Type 0 where
  pub done : List Slot
  pub cells : List Slot
  pub made : new ≡ done ++ columns cells
  pub count : length done ≡ place
  pub fit : AreCells cols (place % cols) cells
  pub orders : List Order
  pub spelled : text ≡ first ++ bytes_of_all cols orders
  pub calm : AreCalm orders
  pub kept : Erases orders → ⊥
  pub turned : (t : Terminal) → ShowsOld cols old first_at first_style t
      → IsOn t (screen_after t orders) done (drop place old) × IsKnown at style (screen_after t orders)

-- old columns, of which it is enough that they are cells
pub record AreOld (old : List Slot) : Type 0 where
  pub cells : List Slot
  pub made : old ≡ columns cells
  pub starts : AreStarts cells

pub old_rows : (cols : ℕ) (old : List Slot) → AreRows cols old → AreOld old
old_rows cols old rows = record { cells = rows.cells; made = rows.made; starts = starts_of cols 0 rows.cells rows.fit }

pub old_blanks : (n : ℕ) → AreOld (replicate n blank)
old_blanks n = record { cells = replicate n blank; made = sym (columns_spaces n plain); starts = begin n }
  where
    begin : (n : ℕ) → AreStarts (replicate n blank)
    begin zero = tt
    begin (suc n) = (refl, begin n)

pub walk_start : (cols : ℕ) (old new : List Slot) (at : Option ℕ) (style : Option Style) (text : List ℕ) → AreOld old → AreRows cols new
    → IsWalk cols old new at style text 0 at style text
walk_start cols old new at style text olds rows = record {
  done = [];
  cells = rows.cells;
  made = rows.made;
  count = refl;
  fit = subst (λ n. AreCells cols n rows.cells) (sym (zero-mod cols)) rows.fit;
  orders = [];
  spelled = sym (append-nil text);
  calm = λ t. refl;
  kept = λ h. h;
  turned = λ t shows. (
    record {
      rows = refl;
      cols = refl;
      tail = map Some old;
      shown = shows.shown;
      left = record { lost = 0; cells = olds.cells; seen = ap (map Some) olds.made; were = olds.made; starts = olds.starts };
    },
    shows.known,
  );
}

pub blank_at : (n i : ℕ) → i < n → slice_get (replicate n blank) i ≡ Some blank
blank_at zero i below = absurd (omega (arith, below))
blank_at (suc n) zero below = refl
blank_at (suc n) (suc i) below = blank_at n i (omega (arith, below))

-- the next cell of the walk
pub record IsAt (cols place : ℕ) (done cells : List Slot) (cell : Slot) (width : ℕ) : Type 0 where
  pub after : List Slot
  pub is : cells ≡ cell ∷ after
  pub whole : is_cell cell.text ≡ true
  pub room : place % cols + width_of_text cell.text ≤ cols
  pub wide : width ≡ width_of_text cell.text
  pub fit : AreCells cols ((place + width) % cols) after

module _ (cols : ℕ) (old new : List Slot) (first_at : Option ℕ) (first_style : Option Style) (first : List ℕ) (place : ℕ) (at : Option ℕ) (style : Option Style) (text : List ℕ) (walk : IsWalk cols old new first_at first_style first place at style text) (cell : Slot) (width : ℕ) (below : place < length new) (read : slice_get new place ≡ Some cell) (wide : width ≡ width_of_text cell.text) (same : length old ≡ length new) where
  first_cell : slice_get (columns walk.cells) 0 ≡ Some cell
  first_cell =
      sym (slice_get_seam walk.done (columns walk.cells))
      ∙ ap (λ n. slice_get (walk.done ++ columns walk.cells) n) walk.count
      ∙ ap (λ xs. slice_get xs place) (sym walk.made) ∙ read

  here : IsAt cols place walk.done walk.cells cell width
  here = from walk.cells walk.fit first_cell
    where
      from : (cells : List Slot) → AreCells cols (place % cols) cells → slice_get (columns cells) 0 ≡ Some cell
          → IsAt cols place walk.done cells cell width
      from [] fit h = absurd (none-some cell h)
      from (one ∷ after) fit h =
          let e : one ≡ cell = same_Some one cell h in
          let turn : (place % cols + width_of_text one.text) % cols ≡ (place + width) % cols =
          mod-add-mod place cols (width_of_text one.text)
          ∙ ap (λ n. (place + n) % cols) (ap (λ s. width_of_text s.text) e ∙ sym wide) in
          record {
            after = after;
            is = ap (λ s. s ∷ after) e;
            whole = subst (λ s. is_cell s.text ≡ true) e fit.0;
            room = subst (λ s. place % cols + width_of_text s.text ≤ cols) e fit.1;
            wide = wide;
            fit = subst (λ n. AreCells cols n after) turn fit.2;
          }

  long : length (columns_of cell) ≡ width
  long = cell_long cell here.whole ∙ sym wide

  pub width_above : 0 < width
  width_above = let h : 0 < width_of_text cell.text = has_width cell.text here.whole in omega (arith, h, wide)

  made_next : new ≡ (walk.done ++ columns_of cell) ++ columns here.after
  made_next =
      walk.made ∙ ap (λ cs. walk.done ++ columns cs) here.is ∙ sym (append_assoc walk.done (columns_of cell) (columns here.after))

  count_next : length (walk.done ++ columns_of cell) ≡ place + width
  count_next =
      let both : length (walk.done ++ columns_of cell) ≡ length walk.done + length (columns_of cell) = length-append walk.done (columns_of cell) in
      omega (arith, both, walk.count, long)

  pub width_within : place + width ≤ length new
  width_within =
      let e : length new ≡ length (walk.done ++ columns_of cell) + length (columns here.after) =
      ap length made_next ∙ length-append (walk.done ++ columns_of cell) (columns here.after) in
      omega (arith, e, count_next)

  pub cols_above : 0 < cols
  cols_above =
      let h : 0 < width_of_text cell.text = has_width cell.text here.whole in
      omega (arith, h, here.room)

  old_left : 0 < length (drop place old)
  old_left = let e : length (drop place old) ≡ length old - place = length-drop place old in omega (arith, e, below, same)

  pub walk_skip : slice_get old place ≡ Some cell
      → IsWalk cols old new first_at first_style first (place + width) at style text
  walk_skip shown_already = record {
    done = walk.done ++ columns_of cell;
    cells = here.after;
    made = made_next;
    count = count_next;
    fit = here.fit;
    orders = walk.orders;
    spelled = walk.spelled;
    calm = walk.calm;
    kept = walk.kept;
    turned = turned;
  }
    where
      turned : (t : Terminal) → ShowsOld cols old first_at first_style t
          → IsOn t (screen_after t walk.orders) (walk.done ++ columns_of cell) (drop (place + width) old)
          × IsKnown at style (screen_after t walk.orders)
      turned t shows =
          let before : IsOn t (screen_after t walk.orders) walk.done (drop place old) × IsKnown at style (screen_after t walk.orders) =
          walk.turned t shows in
          let on : IsOn t (screen_after t walk.orders) walk.done (drop place old) = before.0 in
          let skips : Skips (drop place old) on.tail cell width =
          skip_tail (drop place old) on.tail cell width wide width_above (cell_starts cell here.whole)
          (slice_get_drop place old ∙ shown_already) on.left in (
            record {
              rows = on.rows;
              cols = on.cols;
              tail = skips.rest_shown;
              shown = on.shown ∙ ap (λ s. map Some walk.done ++ s) skips.seen
                  ∙ sym (append_assoc (map Some walk.done) (map Some (columns_of cell)) skips.rest_shown)
                  ∙ ap (λ s. s ++ skips.rest_shown) (sym (map-append Some walk.done (columns_of cell)));
              left = subst (λ o. IsTail o skips.rest_shown) (drop-drop width place old) skips.left;
            },
            before.1,
          )

  pub walk_put : (last : List ℕ) (puts : List Order) → Puts at style place cell puts → last ≡ text ++ bytes_of_all cols puts
      → IsWalk cols old new first_at first_style first (place + width) (place_past cols place cell.text) (Some cell.style) last
  walk_put last puts put spelled = record {
    done = walk.done ++ columns_of cell;
    cells = here.after;
    made = made_next;
    count = count_next;
    fit = here.fit;
    orders = walk.orders ++ puts;
    spelled = spelled_more cols first text last walk.orders puts walk.spelled spelled;
    calm = calm_append walk.orders puts walk.calm (calm_puts at style place cell puts put);
    kept = erases_none walk.orders puts walk.kept (puts_keep at style place cell puts put);
    turned = turned;
  }
    where
      turned : (t : Terminal) → ShowsOld cols old first_at first_style t
          → IsOn t (screen_after t (walk.orders ++ puts)) (walk.done ++ columns_of cell) (drop (place + width) old)
          × IsKnown (place_past cols place cell.text) (Some cell.style) (screen_after t (walk.orders ++ puts))
      turned t shows =
          let now : Terminal = screen_after t walk.orders in
          let before : IsOn t now walk.done (drop place old) × IsKnown at style now = walk.turned t shows in
          let on : IsOn t now walk.done (drop place old) = before.0 in
          let wide_now : now.cols ≡ cols = on.cols ∙ shows.size.wide in
          let size : size_of now ≡ length old = ap (λ r. r * now.cols) on.rows ∙ ap (λ c. t.rows * c) on.cols ∙ shows.size.whole in
          let within : place < size_of now = omega (arith, size, same, below) in
          let P : Terminal → List Slot → Type 0 = λ last older. IsOn t last (walk.done ++ columns_of cell) older
          × IsKnown (place_past cols place cell.text) (Some cell.style) last in
          let step : P (screen_after now puts) (drop (width_of_text cell.text) (drop place old)) =
          put_on t now walk.done (drop place old) at style cols place cell puts on before.1 wide_now walk.count within old_left here.whole
          here.room put in
          let older : drop (width_of_text cell.text) (drop place old) ≡ drop (place + width) old =
          ap (λ n. drop n (drop place old)) (sym wide) ∙ drop-drop width place old in
          subst (λ o. P (screen_after t (walk.orders ++ puts)) o) older
          (subst (λ s. P s (drop (width_of_text cell.text) (drop place old))) (sym (screen_append t walk.orders puts)) step)

pub walk_end : (cols : ℕ) (old new : List Slot) (first_at : Option ℕ) (first_style : Option Style) (first : List ℕ) (place : ℕ)
    (at : Option ℕ) (style : Option Style) (text : List ℕ) → IsWalk cols old new first_at first_style first place at style text
    → length new ≤ place → length old ≡ length new
    → Turns (Unit {0}) (ShowsOld cols old first_at first_style) cols new first text at style
walk_end cols old new first_at first_style first place at style text walk past same = record {
  orders = walk.orders;
  spelled = walk.spelled;
  calm = walk.calm;
  kept = λ _ e. walk.kept e;
  turned = turned;
}
  where
    all : new ≡ walk.done
    all =
        let both : length new ≡ length walk.done + length (columns walk.cells) =
        ap length walk.made ∙ length-append walk.done (columns walk.cells) in
        let none : columns walk.cells ≡ [] = nil_from_length (columns walk.cells) (omega (arith, both, walk.count, past)) in
        walk.made ∙ ap (λ xs. walk.done ++ xs) none ∙ append-nil walk.done

    turned : (t : Terminal) → ShowsOld cols old first_at first_style t → ShowsNew t (screen_after t walk.orders) new at style
    turned t shows =
        let both : IsOn t (screen_after t walk.orders) walk.done (drop place old) × IsKnown at style (screen_after t walk.orders) =
        walk.turned t shows in
        let on : IsOn t (screen_after t walk.orders) walk.done (drop place old) = both.0 in
        let none : length (drop place old) ≡ 0 =
        (let e : length (drop place old) ≡ length old - place = length-drop place old in omega (arith, e, past, same)) in
        record {
          rows = on.rows;
          cols = on.cols;
          shown = on.shown ∙ ap (λ s. map Some walk.done ++ s) (tail_end on.tail (drop place old) none on.left)
              ∙ append-nil (map Some walk.done) ∙ ap (map Some) (sym all);
          known = both.1;
        }

-- ---- the step of the code: the cell is written where it isn't shown already

pub walk_step : (cols : ℕ) (old new : List Slot) (first_at : Option ℕ) (first_style : Option Style) (first : List ℕ) (place : ℕ)
    (at : Option ℕ) (style : Option Style) (text : List ℕ) (walk : IsWalk cols old new first_at first_style first place at style text)
    (cell : Slot) (width : ℕ) (below : place < length new) (read : slice_get new place ≡ Some cell) (wide : width ≡ width_of_text cell.text)
    (same : length old ≡ length new) (held : ℕ) (held_is : held ≡ cols) (known : Bool) (last : List ℕ) (last_at : Option ℕ) (last_style : Option Style)
    → (known ≡ true → slice_get old place ≡ Some cell)
    → (known ≡ true → (last ≡ text) × (last_at ≡ at) × (last_style ≡ style))
    → (known ≡ false → (puts : List Order) × Puts at style place cell puts × (last ≡ text ++ bytes_of_all held puts))
    → (known ≡ false → last_at ≡ place_past held place cell.text)
    → (known ≡ false → last_style ≡ Some cell.style)
    → IsWalk cols old new first_at first_style first (place + width) last_at last_style last
walk_step cols old new first_at first_style first place at style text walk cell width below read wide same held held_is true last last_at last_style shown kept put put_at put_style =
    let k : (last ≡ text) × (last_at ≡ at) × (last_style ≡ style) = kept refl in
    let P : Option ℕ → Option Style → List ℕ → Type 0 = λ a s l. IsWalk cols old new first_at first_style first (place + width) a s l in
    subst (λ a. P a last_style last) (sym k.1) (subst (λ s. P at s last) (sym k.2) (subst (λ l. P at style l) (sym k.0)
    (walk_skip cols old new first_at first_style first place at style text walk cell width below read wide same (shown refl))))
walk_step cols old new first_at first_style first place at style text walk cell width below read wide same held held_is false last last_at last_style shown kept put put_at put_style =
    let p : (puts : List Order) × Puts at style place cell puts × (last ≡ text ++ bytes_of_all held puts) = put refl in
    let at_is : last_at ≡ place_past cols place cell.text = put_at refl ∙ ap (λ n. place_past n place cell.text) held_is in
    let text_is : last ≡ text ++ bytes_of_all cols p.0 = p.2 ∙ ap (λ n. text ++ bytes_of_all n p.0) held_is in
    let P : Option ℕ → Option Style → Type 0 = λ a s. IsWalk cols old new first_at first_style first (place + width) a s last in
    subst (λ a. P a last_style) (sym at_is) (subst (λ s. P (place_past cols place cell.text) s) (sym (put_style refl))
    (walk_put cols old new first_at first_style first place at style text walk cell width below read wide same last p.0 p.1 text_is))

-- ---- where the screen is erased first

map_replicate : {A B : Type 0} (f : A → B) (n : ℕ) (x : A) → map f (replicate n x) ≡ replicate n (f x)
map_replicate f zero x = refl
map_replicate f (suc n) x = ap (λ r. f x ∷ r) (map_replicate f n x)

pub erased_turns : (cols : ℕ) (new : List Slot) (styles : List Order) (first text last : List ℕ) (at : Option ℕ) (style : Option Style)
    (last_at : Option ℕ) (last_style : Option Style)
    → Restyles None plain styles → text ≡ first ++ bytes_of_all cols (styles ++ Erase ∷ []) → at ≡ None → style ≡ Some plain
    → Turns (Unit {0}) (ShowsOld cols (replicate (length new) blank) at style) cols new text last last_at last_style
    → Turns ⊥ (HasColumns cols (length new)) cols new first last last_at last_style
erased_turns cols new styles first text last at style last_at last_style restyles spelled no_place plain_style turns = record {
  orders = (styles ++ Erase ∷ []) ++ turns.orders;
  spelled = spelled_more cols first text last (styles ++ Erase ∷ []) turns.orders spelled turns.spelled;
  calm = calm_append (styles ++ Erase ∷ []) turns.orders
      (calm_append styles (Erase ∷ []) (calm_styles None plain styles restyles) (λ t. refl)) turns.calm;
  kept = λ never _. never;
  turned = turned;
}
  where
    turned : (t : Terminal) → HasColumns cols (length new) t
        → ShowsNew t (screen_after t ((styles ++ Erase ∷ []) ++ turns.orders)) new last_at last_style
    turned t has =
        let styled : Terminal = record t { style = Some plain } in
        let empty : Terminal = record t { style = Some plain; shown = replicate (size_of t) (Some blank) } in
        let is : screen_after t (styles ++ Erase ∷ []) ≡ empty =
        screen_append t styles (Erase ∷ []) ∙ ap (λ now. screen_after now (Erase ∷ [])) (restyled None plain styles t restyles tt) in
        let whole : screen_after t ((styles ++ Erase ∷ []) ++ turns.orders) ≡ screen_after empty turns.orders =
        screen_append t (styles ++ Erase ∷ []) turns.orders ∙ ap (λ now. screen_after now turns.orders) is in
        let long : length (replicate (length new) blank) ≡ length new = length-replicate (length new) blank in
        let shows : ShowsOld cols (replicate (length new) blank) at style empty = record {
          size = record { wide = has.wide; whole = has.whole ∙ sym long };
          shown = ap (λ n. replicate n (Some blank)) has.whole ∙ sym (map_replicate Some (length new) blank);
          known = record {
            place = subst (λ a. KnowsPlace a empty) (sym no_place) tt;
            look = subst (λ s. KnowsStyle s empty) (sym plain_style) refl;
          };
        } in
        let done : ShowsNew empty (screen_after empty turns.orders) new last_at last_style = turns.turned empty shows in
        subst (λ now. ShowsNew t now new last_at last_style) (sym whole) (record {
          rows = done.rows;
          cols = done.cols;
          shown = done.shown;
          known = done.known;
        })

-- ---- two pictures

pub same_turns : (old new : Picture) (text last : List ℕ) (at : Option ℕ) (style : Option Style) (held : ℕ) (first_at : Option ℕ)
    (first_style : Option Style) → held ≡ new.cols → first_at ≡ None → first_style ≡ None
    → old.rows ≡ new.rows → old.cols ≡ new.cols → IsPicture old
    → Turns (Unit {0}) (ShowsOld held old.slots first_at first_style) held new.slots text last at style
    → Turns (IsKept (Some old) new) (AwaitsPicture (Some old) new) new.cols new.slots text last at style
same_turns old new text last at style held first_at first_style held_is no_place no_style rows cols whole turns = record {
  orders = turns.orders;
  spelled = turns.spelled ∙ ap (λ n. text ++ bytes_of_all n turns.orders) held_is;
  calm = turns.calm;
  kept = λ _ e. turns.kept tt e;
  turned = λ t awaits. turns.turned t (record {
    size = record {
      wide = awaits.size.cols ∙ sym held_is;
      whole = ap (λ r. r * t.cols) awaits.size.rows ∙ ap (λ c. new.rows * c) awaits.size.cols ∙ ap (λ r. r * new.cols) (sym rows)
          ∙ ap (λ c. old.rows * c) (sym cols) ∙ sym whole.size;
    };
    shown = awaits.may (record { rows = awaits.size.rows ∙ sym rows; cols = awaits.size.cols ∙ sym cols });
    known = record {
      place = subst (λ a. KnowsPlace a t) (sym no_place) tt;
      look = subst (λ s. KnowsStyle s t) (sym no_style) tt;
    };
  });
}

-- where nothing is known of the screen
pub anew_turns : (old : Option Picture) (new : Picture) (text last : List ℕ) (at : Option ℕ) (style : Option Style) (held : ℕ)
    → held ≡ new.cols → IsPicture new → (IsKept old new → ⊥)
    → Turns ⊥ (HasColumns held (length new.slots)) held new.slots text last at style
    → Turns (IsKept old new) (AwaitsPicture old new) new.cols new.slots text last at style
anew_turns old new text last at style held held_is whole other turns = record {
  orders = turns.orders;
  spelled = turns.spelled ∙ ap (λ n. text ++ bytes_of_all n turns.orders) held_is;
  calm = turns.calm;
  kept = λ k _. other k;
  turned = λ t awaits. turns.turned t (record {
    wide = awaits.size.cols ∙ sym held_is;
    whole = ap (λ r. r * t.cols) awaits.size.rows ∙ ap (λ c. new.rows * c) awaits.size.cols ∙ sym whole.size;
  });
}

-- ---- the cursor

cursor_shows : (cursor at : Option ℕ) (style : Option Style) (t : Terminal) → IsKnown at style t
    → IfSome cursor (λ place. place < size_of t) → ShowsCursor cursor (screen_after t (cursor_orders at cursor))
    × ((screen_after t (cursor_orders at cursor)).shown ≡ t.shown) × ((screen_after t (cursor_orders at cursor)).rows ≡ t.rows)
    × ((screen_after t (cursor_orders at cursor)).cols ≡ t.cols)
cursor_shows None at style t known within = (refl, refl, refl, refl)
cursor_shows (Some place) at style t known within =
    let last : Terminal = record t { at = Some place; cursor = true } in
    let is : screen_after t (moves at place ++ ShowCursor ∷ []) ≡ last =
    screen_append t (moves at place) (ShowCursor ∷ []) ∙ ap (λ now. screen_after now (ShowCursor ∷ [])) (moved at place t known.place within) in
    ((ap (λ n. n.cursor) is, ap (λ n. n.at) is), ap (λ n. n.shown) is, ap (λ n. n.rows) is, ap (λ n. n.cols) is)

cursor_keeps : (cursor at : Option ℕ) → Erases (cursor_orders at cursor) → ⊥
cursor_keeps None at e = e
cursor_keeps (Some place) at e = erases_none (moves at place) (ShowCursor ∷ []) (moves_keep at place) (λ h. h) e

cursor_calm : (cursor at : Option ℕ) → AreCalm (cursor_orders at cursor)
cursor_calm None at t = refl
cursor_calm (Some place) at t = calm_append (moves at place) (ShowCursor ∷ []) (calm_moves at place) (λ now. refl) t

pub draws : (old : Option Picture) (new : Picture) (text last : List ℕ) (at : Option ℕ) (style : Option Style) (held : ℕ)
    → IsPicture new → held ≡ new.cols
    → Turns (IsKept old new) (AwaitsPicture old new) new.cols new.slots [] text at style
    → last ≡ text ++ bytes_of_all held (cursor_orders at new.cursor) → Draws old new last
draws old new text last at style held whole held_is turns spelled = record {
  orders = turns.orders ++ cursor_orders at new.cursor;
  spelled = spelled_more new.cols [] text last turns.orders (cursor_orders at new.cursor) turns.spelled
      (spelled ∙ ap (λ n. text ++ bytes_of_all n (cursor_orders at new.cursor)) held_is);
  drawn = drawn;
  main = calm_append turns.orders (cursor_orders at new.cursor) turns.calm (cursor_calm new.cursor at);
  kept = λ k. erases_none turns.orders (cursor_orders at new.cursor) (turns.kept k) (cursor_keeps new.cursor at);
}
  where
    drawn : (t : Terminal) → IsOfSize new t → MayShow old t
        → Shows new (screen_after t (turns.orders ++ cursor_orders at new.cursor))
    drawn t size may =
        let now : Terminal = screen_after t turns.orders in
        let shows : ShowsNew t now new.slots at style = turns.turned t (record { size = size; may = may }) in
        let rows : now.rows ≡ new.rows = shows.rows ∙ size.rows in
        let cols : now.cols ≡ new.cols = shows.cols ∙ size.cols in
        let count : new.rows * new.cols ≡ size_of now = ap (λ r. r * new.cols) (sym rows) ∙ ap (λ c. now.rows * c) (sym cols) in
        let within : IfSome new.cursor (λ place. place < size_of now) =
        subst (λ n. IfSome new.cursor (λ place. place < n)) count whole.within in
        let end = cursor_shows new.cursor at style now shows.known within in
        subst (Shows new) (sym (screen_append t turns.orders (cursor_orders at new.cursor))) (record {
          size = record { rows = end.2 ∙ rows; cols = end.3 ∙ cols };
          columns = end.1 ∙ shows.shown;
          cursor = end.0;
        })

-- ---- the same with what calls return

pub same_rows : (cols held : ℕ) (slots seen : List Slot) → held ≡ cols → seen ≡ slots → AreRows cols slots → AreRows held seen
same_rows cols held slots seen e f rows = record {
  cells = rows.cells;
  made = f ∙ rows.made;
  fit = subst (λ n. AreCells n 0 rows.cells) (sym e) rows.fit;
}

pub same_size : (old new : Picture) → IsPicture old → IsPicture new → old.rows ≡ new.rows → old.cols ≡ new.cols
    → length old.slots ≡ length new.slots
same_size old new one other rows cols =
    one.size ∙ ap (λ r. r * old.cols) rows ∙ ap (λ c. new.rows * c) cols ∙ sym other.size

pub filled_same : (cols held : ℕ) (slots seen : List Slot) (text last : List ℕ) (at : Option ℕ) (style : Option Style) (last_at : Option ℕ)
    (last_style : Option Style) → held ≡ cols → seen ≡ slots
    → Turns (Unit {0}) (ShowsOld held (replicate (length seen) blank) at style) held seen text last last_at last_style
    → Turns (Unit {0}) (ShowsOld cols (replicate (length slots) blank) at style) cols slots text last last_at last_style
filled_same cols held slots seen text last at style last_at last_style e f turns =
    subst (λ n. Turns (Unit {0}) (ShowsOld n (replicate (length slots) blank) at style) n slots text last last_at last_style) e
    (subst (λ s. Turns (Unit {0}) (ShowsOld held (replicate (length s) blank) at style) held s text last last_at last_style) f turns)

pub changed_same : (held : ℕ) (old new old_seen new_seen : List Slot) (text last : List ℕ) (at : Option ℕ) (style : Option Style)
    (last_at : Option ℕ) (last_style : Option Style) → old_seen ≡ old → new_seen ≡ new
    → Turns (Unit {0}) (ShowsOld held old_seen at style) held new_seen text last last_at last_style
    → Turns (Unit {0}) (ShowsOld held old at style) held new text last last_at last_style
changed_same held old new old_seen new_seen text last at style last_at last_style e f turns =
    subst (λ s. Turns (Unit {0}) (ShowsOld held s at style) held new text last last_at last_style) e
    (subst (λ s. Turns (Unit {0}) (ShowsOld held old_seen at style) held s text last last_at last_style) f turns)

pub cols_some : (p : Picture) (place : ℕ) → IsPicture p → p.cursor ≡ Some place → 0 < p.cols
cols_some p place whole is = by_cols p.cols refl
  where
    below : place < p.rows * p.cols
    below = subst (λ c. IfSome c (λ place. place < p.rows * p.cols)) is whole.within

    by_cols : (n : ℕ) → p.cols ≡ n → 0 < p.cols
    by_cols zero e =
        let none : p.rows * p.cols ≡ 0 = ap (λ c. p.rows * c) e ∙ mul-zero p.rows in absurd (omega (arith, below, none))
    by_cols (suc n) e = omega (arith, e)
