-- The beginnings of the lines of a text.
use Rattle.std.proofs.Common.{◌≡◌, ◌≢◌, ℕ, ◌+◌, ◌-◌, ◌<◌, ◌≤◌, List, [], ◌∷◌, ◌++◌, length, take, get_or, refl, inl, inr, sym, ap, subst, ◌∙◌, arith, length-append}
use Rattle.std.specs.Prelude.{◌==◌}
use Rattle.std.specs.Str.{IsUtf8, IsCharBoundary}
use Rattle.std.proofs.lemmas.Bool.{cases_lt}
use Rattle.std.proofs.lemmas.Bool.Decides.{eqb_tells}
use Rattle.std.proofs.lemmas.List.{get_or_append_left, get_or_past, get_or_push}
use Rattle.std.proofs.lemmas.Str.{IsCharBoundary-start, IsCharBoundary-after_ascii, IsCharBoundary-end}
use Rattle.psg_documents.specs.declared.encoding.Encoding.{Encoding}
use Rattle.psg_documents.specs.Positions.{AreStarts, IsByteOf, IsLastStop, IsLineStart, IsPosition, IsPositionOf, IsStop, feeds, units}
use Rattle.psg_documents.proofs.CountLaws.{feeds_all, feeds_next, feeds_same, feeds_up, feeds_whole, first_is_zero, start_past}
use Rattle.psg_documents.proofs.FindLaws.{IsFeed, IsReached, found_at_end, found_in_line}

-- the beginnings of the lines that begin up to a place
pub record AreStartsTo (text starts : List ℕ) (place : ℕ) : Type 0 where
  pub within : place ≤ length text
  pub count : length starts ≡ feeds (take place text) + 1
  pub begins : (k : ℕ) → k < length starts → IsLineStart text (get_or starts k 0)
  pub lines : (k : ℕ) → k < length starts → feeds (take (get_or starts k 0) text) ≡ k

first_starts : (text : List ℕ) → AreStartsTo text (0 ∷ []) 0
first_starts text = record {
  within = omega arith;
  count = refl;
  begins = λ k lt.
      let none : 0 ≡ k = omega (arith, lt) in
      let P : ℕ → Type 0 = λ j. IsLineStart text (get_or (0 ∷ []) j 0) in
      subst P none (omega arith, λ h. absurd (omega (arith, h)));
  lines = λ k lt.
      let none : 0 ≡ k = omega (arith, lt) in
      let P : ℕ → Type 0 = λ j. feeds (take (get_or (0 ∷ []) j 0) text) ≡ j in
      subst P none refl;
}

pub starts_begin : (text starts : List ℕ) → starts ≡ 0 ∷ [] → AreStartsTo text starts 0
starts_begin text starts is = let P : List ℕ → Type 0 = λ xs. AreStartsTo text xs 0 in subst P (sym is) (first_starts text)

after_feed : (text starts : List ℕ) (place : ℕ) → AreStartsTo text starts place → place < length text → get_or text place 0 ≡ 10
    → AreStartsTo text (starts ++ (place + 1) ∷ []) (place + 1)
after_feed text starts place are inside is =
    let more : feeds (take (place + 1) text) ≡ feeds (take place text) + 1 = feeds_next text place inside is in
    let count : length starts ≡ feeds (take place text) + 1 = are.count in
    let long : length (starts ++ (place + 1) ∷ []) ≡ length starts + 1 = length-append starts ((place + 1) ∷ []) in
    let here : get_or (starts ++ (place + 1) ∷ []) (length starts) 0 ≡ place + 1 = get_or_push starts (place + 1) 0 (length starts) refl in
    let back : place ≡ place + 1 - 1 = omega arith in
    let ends : get_or text (place + 1 - 1) 0 ≡ 10 = ap (λ p. get_or text p 0) (sym back) ∙ is in
    let begins : IsLineStart text (place + 1) = (omega (arith, inside), λ h. ends) in
    let line : feeds (take (place + 1) text) ≡ length starts = more ∙ sym count in
    record {
      within = omega (arith, inside);
      count = omega (arith, more, count, long);
      begins = λ k lt.
          elim (cases_lt k (length starts)) [
            | inl low ↦
                let P : ℕ → Type 0 = λ s. IsLineStart text s in
                subst P (sym (get_or_append_left starts ((place + 1) ∷ []) 0 k low)) (are.begins k low)
            | inr high ↦
                let last : length starts ≡ k = omega (arith, high, lt, long) in
                let P : ℕ → Type 0 = λ s. IsLineStart text s in
                let Q : ℕ → Type 0 = λ j. IsLineStart text (get_or (starts ++ (place + 1) ∷ []) j 0) in
                subst Q last (subst P (sym here) begins)
          ];
      lines = λ k lt.
          elim (cases_lt k (length starts)) [
            | inl low ↦ ap (λ s. feeds (take s text)) (get_or_append_left starts ((place + 1) ∷ []) 0 k low) ∙ are.lines k low
            | inr high ↦
                let last : length starts ≡ k = omega (arith, high, lt, long) in
                let Q : ℕ → Type 0 = λ j. feeds (take (get_or (starts ++ (place + 1) ∷ []) j 0) text) ≡ j in
                subst Q last (ap (λ s. feeds (take s text)) here ∙ line)
          ];
    }

after_other : (text starts : List ℕ) (place : ℕ) → AreStartsTo text starts place → place < length text
    → feeds (take (place + 1) text) ≡ feeds (take place text) → AreStartsTo text starts (place + 1)
after_other text starts place are inside same = record {
  within = omega (arith, inside);
  count = are.count ∙ ap (λ n. n + 1) (sym same);
  begins = are.begins;
  lines = are.lines;
}

pub starts_next : (text starts : List ℕ) (place : ℕ) → AreStartsTo text starts place → place < length text
    → (byte : ℕ) → byte ≡ get_or text place 0 → (new : List ℕ) → (byte ≢ 10 → new ≡ starts)
    → (next : ℕ) → next ≡ place + 1 → (byte ≡ 10 → new ≡ starts ++ next ∷ []) → AreStartsTo text new (place + 1)
starts_next text starts place are inside byte read new other next step feed =
    let P : List ℕ → Type 0 = λ xs. AreStartsTo text xs (place + 1) in
    elim (eqb_tells byte 10) [
      | inl e ↦
          subst P (sym (feed e.1 ∙ ap (λ n. starts ++ n ∷ []) step)) (after_feed text starts place are inside (sym read ∙ e.1))
      | inr e ↦
          let same = feeds_same text place inside (ap (λ b. b == 10) (sym read) ∙ e.0) in
          subst P (sym (other e.1)) (after_other text starts place are inside same)
    ]

pub starts_end : (text starts : List ℕ) (place : ℕ) → AreStartsTo text starts place → length text ≤ place → AreStarts text starts
starts_end text starts place are past =
    let within : place ≤ length text = are.within in
    let whole : place ≡ length text = omega (arith, within, past) in
    record {
      count = are.count ∙ ap (λ p. feeds (take p text) + 1) whole ∙ ap (λ n. n + 1) (feeds_whole text);
      begins = are.begins;
      lines = are.lines;
    }

pub some_start : (text starts : List ℕ) → AreStarts text starts → 0 < length starts
some_start text starts are = let count : length starts ≡ feeds text + 1 = are.count in omega (arith, count)

pub zero_start : (text starts : List ℕ) → AreStarts text starts → get_or starts 0 0 ≡ 0
zero_start text starts are =
    let some : 0 < length starts = some_start text starts are in
    first_is_zero text (get_or starts 0 0) (are.begins 0 some) (are.lines 0 some)

feed_at_end : (text starts : List ℕ) (line feed : ℕ) → AreStarts text starts → line < length starts
    → line + 1 ≡ length starts → (line + 1 ≡ length starts → feed ≡ length text)
    → IsFeed text (get_or starts line 0) line feed
feed_at_end text starts line feed are inside is_last last =
    let whole : feed ≡ length text = last is_last in
    let begins : get_or starts line 0 ≤ length text = (are.begins line inside).0 in
    let count : length starts ≡ feeds text + 1 = are.count in
    let all : feeds (take feed text) ≡ feeds text = ap (λ p. feeds (take p text)) whole ∙ feeds_whole text in
    record {
      within = omega (arith, whole, begins);
      inside = omega (arith, whole);
      is_feed = λ lt. absurd (omega (arith, whole, lt));
      lines = omega (arith, all, count, is_last);
      past = λ lt. absurd (omega (arith, whole, lt));
    }

feed_between : (text starts : List ℕ) (line feed : ℕ) → AreStarts text starts → line < length starts
    → line + 1 < length starts → feed + 1 ≡ get_or starts (line + 1) 0 → IsFeed text (get_or starts line 0) line feed
feed_between text starts line feed are inside lt next =
    let P : ℕ → Type 0 = λ s. IsLineStart text s in
    let begins : IsLineStart text (feed + 1) = subst P (sym next) (are.begins (line + 1) lt) in
    let within : feed + 1 ≤ length text = begins.0 in
    let back : feed + 1 - 1 ≡ feed = omega arith in
    let is : get_or text feed 0 ≡ 10 = ap (λ p. get_or text p 0) (sym back) ∙ begins.1 (omega arith) in
    let next_line : feeds (take (feed + 1) text) ≡ line + 1 = ap (λ s. feeds (take s text)) next ∙ are.lines (line + 1) lt in
    let step : feeds (take (feed + 1) text) ≡ feeds (take feed text) + 1 = feeds_next text feed (omega (arith, within)) is in
    let at_line : feeds (take (get_or starts line 0) text) ≡ line = are.lines line inside in
    record {
      within = elim (cases_lt feed (get_or starts line 0)) [
        | inl before ↦ absurd
            (let up : feeds (take (feed + 1) text) ≤ feeds (take (get_or starts line 0) text) =
            feeds_up text (feed + 1) (get_or starts line 0) (omega (arith, before)) in omega (arith, up, next_line, at_line))
        | inr ge ↦ ge
      ];
      inside = omega (arith, within);
      is_feed = λ h. is;
      lines = omega (arith, step, next_line);
      past = λ h. next_line;
    }

pub feed_is : (text starts : List ℕ) (line feed : ℕ) → AreStarts text starts → line < length starts
    → (line + 1 ≡ length starts → feed ≡ length text) → (line + 1 < length starts → feed + 1 ≡ get_or starts (line + 1) 0)
    → IsFeed text (get_or starts line 0) line feed
feed_is text starts line feed are inside last next =
    elim (cases_lt (line + 1) (length starts)) [
      | inl lt ↦ feed_between text starts line feed are inside lt (next lt)
      | inr ge ↦ feed_at_end text starts line feed are inside (omega (arith, ge, inside)) last
    ]

pub stop_of_start : (text : List ℕ) (s : ℕ) → IsUtf8 text → IsLineStart text s → IsStop text s
stop_of_start text s utf8 begins = record {
  begins = elim (cases_lt 0 s) [
    | inl some ↦
        let is : get_or text (s - 1) 0 ≡ 10 = begins.1 some in
        let within : s ≤ length text = begins.0 in
        let inside : s - 1 < length text = omega (arith, some, within) in
        let low : get_or text (s - 1) 0 < 128 = omega (arith, is) in
        let back : s - 1 + 1 ≡ s = omega (arith, some) in
        let P : ℕ → Type 0 = λ i. IsCharBoundary text i in
        subst P back (IsCharBoundary-after_ascii text (s - 1) utf8 inside low)
    | inr none ↦
        let zero_is : 0 ≡ s = omega (arith, none) in
        let P : ℕ → Type 0 = λ i. IsCharBoundary text i in
        subst P zero_is (IsCharBoundary-start text utf8)
  ];
  whole = λ some is return.
      let feed : get_or text (s - 1) 0 ≡ 10 = begins.1 some in
      let two : 10 ≡ 13 = sym feed ∙ return in
      absurd (omega (arith, two));
}

pub end_is_stop : (text : List ℕ) → IsStop text (length text)
end_is_stop text = record {
  begins = IsCharBoundary-end text;
  whole = λ some is.
      let past : get_or text (length text) 0 ≡ 0 = get_or_past text (length text) 0 (omega arith) in
      let two : 0 ≡ 10 = sym past ∙ is in
      absurd (omega (arith, two));
}

pub position_is : (e : Encoding) (text starts : List ℕ) (place line column : ℕ) → AreStarts text starts → place ≤ length text
    → line < length starts → get_or starts line 0 ≤ place → (line + 1 < length starts → place < get_or starts (line + 1) 0)
    → units e (take (get_or starts line 0) text) + column ≡ units e (take place text) → IsPosition e text place line column
position_is e text starts place line column are within inside from to columns =
    let at_line : feeds (take (get_or starts line 0) text) ≡ line = are.lines line inside in
    let low : feeds (take (get_or starts line 0) text) ≤ feeds (take place text) = feeds_up text (get_or starts line 0) place from in
    let high : feeds (take place text) ≤ line =
    elim (cases_lt (line + 1) (length starts)) [
      | inl lt ↦
          let next : feeds (take (get_or starts (line + 1) 0) text) ≡ line + 1 = are.lines (line + 1) lt in
          let past = start_past text place (get_or starts (line + 1) 0) (are.begins (line + 1) lt) (to lt) in
          omega (arith, next, past)
      | inr ge ↦
          let all : feeds (take place text) ≤ feeds text = feeds_all text place in
          let count : length starts ≡ feeds text + 1 = are.count in
          omega (arith, all, count, ge)
    ] in
    record {
      lines = omega (arith, at_line, low, high);
      start = get_or starts line 0;
      begins = are.begins line inside;
      same = at_line;
      before = from;
      columns = columns;
    }

pub end_found : (e : Encoding) (text starts : List ℕ) (line column : ℕ) → AreStarts text starts → length starts ≤ line
    → IsByteOf e text line column (length text)
end_found e text starts line column are past =
    let count : length starts ≡ feeds text + 1 = are.count in
    let inside : feeds text < length starts = omega (arith, count) in
    found_at_end e text (get_or starts (feeds text) 0) line column (are.begins (feeds text) inside) (end_is_stop text)
    (are.lines (feeds text) inside) (feeds_whole text) (omega (arith, count, past))

-- ---- the two calls, of which the text is seen as bytes

pub on_bytes : (text bytes starts : List ℕ) → bytes ≡ text → AreStarts text starts → AreStarts bytes starts
on_bytes text bytes starts same are = let P : List ℕ → Type 0 = λ t. AreStarts t starts in subst P (sym same) are

pub past_end_is : (e : Encoding) (text bytes starts : List ℕ) (line column : ℕ) → bytes ≡ text → AreStarts text starts
    → length starts ≤ line → IsByteOf e text line column (length bytes)
past_end_is e text bytes starts line column same are past =
    let P : ℕ → Type 0 = λ n. IsByteOf e text line column n in
    subst P (ap length (sym same)) (end_found e text starts line column are past)

pub byte_at_is : (e : Encoding) (text bytes starts : List ℕ) (line column feed end most byte : ℕ) → bytes ≡ text → IsUtf8 bytes
    → AreStarts text starts → line < length starts → (line + 1 ≡ length starts → feed ≡ length bytes)
    → (line + 1 < length starts → feed + 1 ≡ get_or starts (line + 1) 0) → end ≤ feed
    → ((other : ℕ) → IsStop bytes other → other ≤ feed → get_or starts line 0 ≤ other → other ≤ end)
    → IsReached e bytes (get_or starts line 0) end column most → IsLastStop bytes most byte → IsByteOf e text line column byte
byte_at_is e text bytes starts line column feed end most byte same utf8 are inside last next shorter ends reached stops =
    let here : AreStarts bytes starts = on_bytes text bytes starts same are in
    let begins : IsLineStart bytes (get_or starts line 0) = here.begins line inside in
    let P : List ℕ → Type 0 = λ t. IsByteOf e t line column byte in
    subst P same
    (found_in_line e bytes (get_or starts line 0) line feed end column most byte begins
    (stop_of_start bytes (get_or starts line 0) utf8 begins) (here.lines line inside)
    (feed_is bytes starts line feed here inside last next) shorter ends reached stops)

pub position_at_is : (e : Encoding) (text bytes starts : List ℕ) (byte place line column : ℕ) → bytes ≡ text
    → AreStarts text starts → IsLastStop bytes byte place → line < length starts → get_or starts line 0 ≤ place
    → (line + 1 < length starts → place < get_or starts (line + 1) 0)
    → units e (take (get_or starts line 0) bytes) + column ≡ units e (take place bytes) → IsPositionOf e text byte line column
position_at_is e text bytes starts byte place line column same are stops inside from to columns =
    let here : AreStarts bytes starts = on_bytes text bytes starts same are in
    let P : List ℕ → Type 0 = λ t. IsPositionOf e t byte line column in
    subst P same
    (record {
      place = place;
      is_last = stops;
      is_at = position_is e bytes starts place line column here stops.stop.begins.0 inside from to columns;
    })
