-- What is written on a sheet.
use Rattle.std.proofs.Common.{◌≡◌, ℕ, zero, suc, ◌+◌, ◌-◌, Bool, true, false, cond, List, [], ◌∷◌, ◌++◌, length, map, replicate, Option, Some, None, refl, sym, ap, ap₂, subst, ◌∙◌, append-nil, append_assoc, length-append, string_bytes, arith}
use Rattle.std.specs.Prelude.{slice_get}
use Rattle.std.specs.Str.{chars, IsAscii, IsUtf8}
use Rattle.std.proofs.lemmas.Str.{IsUtf8-from_ascii}
use Rattle.std.proofs.lemmas.Str.Ascii.{IsAscii-nil, IsAscii-cons}
use Rattle.std.specs.Option.{option_or}
use Rattle.std.proofs.lemmas.List.{length-replicate, replicate-append-replicate}
use Rattle.psg_grammar.specs.declared.types.Item.{Item}
use Rattle.psg_unparse.specs.Rows.{Piece, token, mark}
use Rattle.psg_unparse.specs.Layout.{gap, last_in}
use Rattle.psg_unparse.specs.Spaced.{Put, text_in}
use Rattle.psg_layout.specs.declared.gap.Gap.{Gap}
use Rattle.psg_layout.specs.declared.marks.Marks.{Marks}
use Rattle.psg_layout.specs.declared.sheet.Begin.{Begin}
use Rattle.psg_layout.specs.declared.sheet.Extent.{Extent}
use Rattle.psg_layout.specs.declared.sheet.Own.{Own}
use Rattle.psg_layout.specs.declared.sheet.Sheet.{Sheet}
use Rattle.psg_layout.specs.Laws.{own_text}
use Rattle.psg_layout.specs.Pages.{chars_in, columns, gap_by, gap_on, has_feed, with_token}
use Rattle.psg_layout.specs.Sheets.{gap_bytes, gap_of, IsEnd, PutsChars, IsMarked, PutsPiece, marks_of, Ink, begin_at, ink_token, ink_mark, ink_ask, begun, extents, moved, AreUtf8, IsInk, Inks, Copy, after_gap, own_chars, ink_copy, IsOwn}
use Rattle.psg_layout.proofs.PlainLaws.{text-append}

-- ---- gaps

pub one_more : (old mid new : List ℕ) (n : ℕ) → mid ≡ old ++ replicate n 32 → new ≡ mid ++ 32 ∷ [] → new ≡ old ++ replicate (n + 1) 32
one_more old mid new n e f =
    f ∙ ap (λ x. x ++ 32 ∷ []) e ∙ append_assoc old (replicate n 32) (32 ∷ [])
    ∙ ap (λ x. old ++ x) (replicate-append-replicate n 1 32)

pub gap_beside : (g : Gap) (old new : List ℕ) → g.feed ≡ false → new ≡ old ++ replicate g.spaces 32 → new ≡ old ++ gap_bytes g
gap_beside g old new e f = f ∙ ap (λ b. old ++ cond b (10 ∷ replicate g.spaces 32) (replicate g.spaces 32)) (sym e)

pub gap_below : (g : Gap) (old mid new : List ℕ) → g.feed ≡ true → mid ≡ old ++ 10 ∷ [] → new ≡ mid ++ replicate g.spaces 32 → new ≡ old ++ gap_bytes g
gap_below g old mid new e f h =
    h ∙ ap (λ x. x ++ replicate g.spaces 32) f ∙ append_assoc old (10 ∷ []) (replicate g.spaces 32)
    ∙ ap (λ b. old ++ cond b (10 ∷ replicate g.spaces 32) (replicate g.spaces 32)) (sym e)

spaces_of : (n : ℕ) → gap_of (replicate n 32) ≡ record { feed = false; spaces = n }
spaces_of zero = refl
spaces_of (suc n) = ap (λ k. record { feed = false; spaces = suc k }) (length-replicate n 32)

of_bytes : (feed : Bool) (n : ℕ) → gap_of (cond feed (10 ∷ replicate n 32) (replicate n 32)) ≡ record { feed = feed; spaces = n }
of_bytes true n = ap (λ k. record { feed = true; spaces = k }) (length-replicate n 32)
of_bytes false n = spaces_of n

pub gap_of-bytes : (g : Gap) → gap_of (gap_bytes g) ≡ g
gap_of-bytes g = of_bytes g.feed g.spaces

pub chars-append : (ps qs : List Put) → chars_in (ps ++ qs) ≡ chars_in ps ++ chars_in qs
chars-append [] qs = refl
chars-append (p ∷ ps) qs =
    ap (λ z. p.gap ++ (chars p.text ++ z)) (chars-append ps qs)
    ∙ ap (λ z. p.gap ++ z) (sym (append_assoc (chars p.text) (chars_in ps) (chars_in qs)))
    ∙ sym (append_assoc p.gap (chars p.text ++ chars_in ps) (chars_in qs))

-- what stands in front of a token that breaks or not
pub gap_broken : (last : Option ℕ) (broken : Option ℕ) (c n : ℕ) (plain : List ℕ) → last ≡ Some c → broken ≡ Some n
    → gap_bytes (record { feed = true; spaces = n }) ≡ gap_by last broken plain
gap_broken last broken c n plain e f = sym (ap₂ (λ l b. gap_by l b plain) e f)

pub gap_plain : (last : Option ℕ) (broken : Option ℕ) (c : ℕ) (plain : List ℕ) → last ≡ Some c → broken ≡ None → plain ≡ gap_by last broken plain
gap_plain last broken c plain e f = sym (ap₂ (λ l b. gap_by l b plain) e f)

pub gap_first : (last : Option ℕ) (broken : Option ℕ) (plain : List ℕ) → last ≡ None → gap_bytes (record { feed = false; spaces = 0 }) ≡ gap_by last broken plain
gap_first last broken plain e = sym (ap (λ l. gap_by l broken plain) e)

-- ---- marks, breaks

pub mark_inked : (i : Item) (old : Sheet) (marks : Marks) → PutsPiece (mark i) old.marks marks → Inks (λ k. ink_mark k i) old (record old { marks = marks })
mark_inked i old marks m k h =
    record { bytes = h.bytes; tokens = h.tokens; valid = h.valid; line = h.line; marks = m k.page.before h.marks; broken = h.broken; first = h.first }

pub ask_inked : (mode : Option ℕ) (old : Sheet) (broken : Option ℕ) → broken ≡ option_or mode old.broken → Inks (ink_ask mode) old (record old { broken = broken })
ask_inked mode old broken e k h =
    record { bytes = h.bytes; tokens = h.tokens; valid = h.valid; line = h.line; marks = h.marks; broken = e ∙ ap (option_or mode) h.broken; first = h.first }

-- the marks are known by the row
abbrev marks_by : Option ℕ → ℕ → Bool → Bool → Bool → Marks
marks_by last levels line tight space = record { last = last; levels = levels; line = line; tight = tight; space = space }

pub marks_are : (m : Marks) (r : List Piece) → IsMarked m r → m ≡ marks_of r
marks_are m r h =
    ap₂ (λ a b. marks_by a b m.line m.tight m.space) h.last h.levels
    ∙ ap₂ (λ a b. marks_by (marks_of r).last (marks_of r).levels a b m.space) h.line h.tight
    ∙ ap (λ a. marks_by (marks_of r).last (marks_of r).levels (marks_of r).line (marks_of r).tight a) h.space

pub marked_of : (m : Marks) (r : List Piece) → m ≡ marks_of r → IsMarked m r
marked_of m r e = subst (λ z. IsMarked z r) (sym e) (record { last = refl; levels = refl; line = refl; tight = refl; space = refl })

-- ---- the bytes of tokens

abbrev extent : ℕ → ℕ → Extent
extent b e = record { begin = b; end = e }

pub extents-append : (n : ℕ) (ps qs : List Put) → extents n (ps ++ qs) ≡ extents n ps ++ extents (n + length (text_in ps)) qs
extents-append n [] qs = let e : n ≡ n + 0 = omega arith in ap (λ k. extents k qs) e
extents-append n (p ∷ ps) qs =
    let a = length-append p.gap (p.text ++ text_in ps) in
    let b = length-append p.text (text_in ps) in
    let e : n + length p.gap + length p.text + length (text_in ps) ≡ n + length (text_in (p ∷ ps)) = omega (arith, a, b) in
    ap (λ z. extent (n + length p.gap) (n + length p.gap + length p.text) ∷ z)
    (extents-append (n + length p.gap + length p.text) ps qs
    ∙ ap (λ k. extents (n + length p.gap + length p.text) ps ++ extents k qs) e)

pub count_extents : (n : ℕ) (ps : List Put) → length (extents n ps) ≡ length ps
count_extents n [] = refl
count_extents n (p ∷ ps) = let h = count_extents (n + length p.gap + length p.text) ps in omega (arith, h)

-- tokens that begin so far after the one byte begin so far after the other one
moved_from : (from to k : ℕ) (ps : List Put) → map (moved from to) (extents (from + k) ps) ≡ extents (to + k) ps
moved_from from to k [] = refl
moved_from from to k (p ∷ ps) =
    let a : from + k + length p.gap - from + to ≡ to + k + length p.gap = omega arith in
    let b : from + k + length p.gap + length p.text - from + to ≡ to + k + length p.gap + length p.text = omega arith in
    let c : from + k + length p.gap + length p.text ≡ from + (k + length p.gap + length p.text) = omega arith in
    let d : to + (k + length p.gap + length p.text) ≡ to + k + length p.gap + length p.text = omega arith in
    ap₂ (λ x y. extent x y ∷ map (moved from to) (extents (from + k + length p.gap + length p.text) ps)) a b
    ∙ ap (λ z. extent (to + k + length p.gap) (to + k + length p.gap + length p.text) ∷ z)
    (ap (λ z. map (moved from to) (extents z ps)) c ∙ moved_from from to (k + length p.gap + length p.text) ps ∙ ap (λ z. extents z ps) d)

moved_own : (from to n : ℕ) (g : List ℕ) (ps : List Put) → to ≡ n + length g → map (moved from to) (extents from (after_gap [] ps)) ≡ extents n (after_gap g ps)
moved_own from to n g [] e = refl
moved_own from to n g (p ∷ ps) e =
    let a : from + 0 - from + to ≡ n + length g = omega (arith, e) in
    let b : from + 0 + length p.text - from + to ≡ n + length g + length p.text = omega (arith, e) in
    let c : from + 0 + length p.text ≡ from + length p.text = omega arith in
    let d : to + length p.text ≡ n + length g + length p.text = omega (arith, e) in
    ap₂ (λ x y. extent x y ∷ map (moved from to) (extents (from + 0 + length p.text) ps)) a b
    ∙ ap (λ z. extent (n + length g) (n + length g + length p.text) ∷ z)
    (ap (λ z. map (moved from to) (extents z ps)) c ∙ moved_from from to (length p.text) ps ∙ ap (λ z. extents z ps) d)

-- ---- texts of tokens

ascii_spaces : (n : ℕ) → IsAscii (replicate n 32)
ascii_spaces zero = IsAscii-nil
ascii_spaces (suc n) = IsAscii-cons 32 (replicate n 32) (omega arith) (ascii_spaces n)

utf8_choice : (b : Bool) (x y : List ℕ) → IsAscii x → IsAscii y → IsUtf8 (cond b x y)
utf8_choice true x y a b = IsUtf8-from_ascii x a
utf8_choice false x y a b = IsUtf8-from_ascii y b

utf8_gap : (g : Gap) → IsUtf8 (gap_bytes g)
utf8_gap g = utf8_choice g.feed (10 ∷ replicate g.spaces 32) (replicate g.spaces 32) (IsAscii-cons 10 (replicate g.spaces 32) (omega arith) (ascii_spaces g.spaces)) (ascii_spaces g.spaces)

pub utf8-append : (ps qs : List Put) → AreUtf8 ps → AreUtf8 qs → AreUtf8 (ps ++ qs)
utf8-append [] qs a b = b
utf8-append (p ∷ ps) qs a b = (a.0, utf8-append ps qs a.1 b)

utf8_after : (g : List ℕ) (ps : List Put) → IsUtf8 g → AreUtf8 ps → AreUtf8 (after_gap g ps)
utf8_after g [] u a = tt
utf8_after g (p ∷ ps) u a = ((u, a.0.1), a.1)

text_after : (g : List ℕ) (ps : List Put) (h : ℕ) (r : List ℕ) → own_chars ps ≡ h ∷ r → text_in (after_gap g ps) ≡ g ++ own_text ps
text_after g [] h r e = absurd (let f : [] ≡ h ∷ r = e in cc)
text_after g (p ∷ ps) h r e = refl

chars_after : (g : List ℕ) (ps : List Put) (h : ℕ) (r : List ℕ) → own_chars ps ≡ h ∷ r → chars_in (after_gap g ps) ≡ g ++ own_chars ps
chars_after g [] h r e = absurd (let f : [] ≡ h ∷ r = e in cc)
chars_after g (p ∷ ps) h r e = refl

-- ---- tokens

module _ (t : List ℕ) (old gapped open_ new : Sheet) (g : Gap) where
  -- what is known of the steps that write a token
  pub record IsTokenWritten : Type 0 where
    pub gap_is : (row : List Piece) → IsMarked old.marks row → gap_bytes g ≡ gap_by old.marks.last old.broken (gap row t)
    pub gapped_bytes : string_bytes gapped.out ≡ string_bytes old.out ++ gap_bytes g
    pub gapped_line : PutsChars (gap_bytes g) old.line gapped.line
    pub gapped_kept : gapped ≡ record old { out = gapped.out; line = gapped.line }
    pub begun_is : open_ ≡ begun g (slice_get (chars t) 0) gapped
    pub bytes : string_bytes new.out ≡ string_bytes open_.out ++ t
    pub tokens : new.tokens.items ≡ open_.tokens.items ++ extent (length (string_bytes open_.out)) (length (string_bytes new.out)) ∷ []
    pub valid : IsUtf8 t
    pub line : PutsChars (chars t) open_.line new.line
    pub marks : PutsPiece (token t) open_.marks new.marks
    pub broken : new.broken ≡ None
    pub first : new.first ≡ open_.first

  module _ (w : IsTokenWritten) (k : Ink) (h : IsInk old k) where
    own : gap_bytes g ≡ gap_on k.page t
    own = w.gap_is k.page.before h.marks ∙ ap₂ (λ l b. gap_by l b (gap k.page.before t)) h.marks.last h.broken

    -- the text with the gap
    with_gap : string_bytes gapped.out ≡ text_in k.page.puts ++ gap_on k.page t
    with_gap = w.gapped_bytes ∙ ap₂ (λ x y. x ++ y) h.bytes own

    end_gapped : IsEnd gapped.line (chars_in k.page.puts ++ gap_on k.page t)
    end_gapped = subst (λ x. IsEnd gapped.line (chars_in k.page.puts ++ x)) own (w.gapped_line (chars_in k.page.puts) h.line)

    open_line : open_.line ≡ gapped.line
    open_line = ap (λ (s : Sheet). s.line) w.begun_is

    open_out : string_bytes open_.out ≡ text_in k.page.puts ++ gap_on k.page t
    open_out = ap (λ (s : Sheet). string_bytes s.out) w.begun_is ∙ with_gap

    open_marks : open_.marks ≡ old.marks
    open_marks = ap (λ (s : Sheet). s.marks) w.begun_is ∙ ap (λ (s : Sheet). s.marks) w.gapped_kept

    open_tokens : open_.tokens.items ≡ extents 0 k.page.puts
    open_tokens = ap (λ (s : Sheet). s.tokens.items) w.begun_is ∙ ap (λ (s : Sheet). s.tokens.items) w.gapped_kept ∙ h.tokens

    text_is : text_in (with_token k.page t).puts ≡ (text_in k.page.puts ++ gap_on k.page t) ++ t
    text_is =
        text-append k.page.puts (record { gap = gap_on k.page t; text = t } ∷ [])
        ∙ ap (λ x. text_in k.page.puts ++ (gap_on k.page t ++ x)) (append-nil t)
        ∙ sym (append_assoc (text_in k.page.puts) (gap_on k.page t) t)

    new_out : string_bytes new.out ≡ (text_in k.page.puts ++ gap_on k.page t) ++ t
    new_out = w.bytes ∙ ap (λ x. x ++ t) open_out

    chars_is : (chars_in k.page.puts ++ gap_on k.page t) ++ chars t ≡ chars_in (with_token k.page t).puts
    chars_is =
        append_assoc (chars_in k.page.puts) (gap_on k.page t) (chars t)
        ∙ ap (λ x. chars_in k.page.puts ++ (gap_on k.page t ++ x)) (sym (append-nil (chars t)))
        ∙ sym (chars-append k.page.puts (record { gap = gap_on k.page t; text = t } ∷ []))

    first_is : gapped.first ≡ k.first
    first_is = ap (λ (s : Sheet). s.first) w.gapped_kept ∙ h.first

    same_begin : {b b' : ℕ} {x x' : Gap} {f f' : ℕ} {c c' : ℕ} (d : Option ℕ) → b ≡ b' → x ≡ x' → f ≡ f' → c ≡ c'
        → ◌≡◌ {A = Begin} (record { byte = b; gap = x; feeds = f; columns = c; head = d }) (record { byte = b'; gap = x'; feeds = f'; columns = c'; head = d })
    same_begin d p q r s = cc

    begin_is : ◌≡◌ {A = Begin} (record { byte = length (string_bytes gapped.out); gap = g; feeds = gapped.line.feeds; columns = gapped.line.columns; head = slice_get (chars t) 0 }) (begin_at k.page.puts (gap_on k.page t) t)
    begin_is = same_begin (slice_get (chars t) 0) (ap length with_gap) (sym (gap_of-bytes g) ∙ ap gap_of own) end_gapped.feeds end_gapped.columns

    tokens_are : new.tokens.items ≡ extents 0 (with_token k.page t).puts
    tokens_are =
        let a = ap length open_out in
        let b = ap length new_out in
        let x = length-append (text_in k.page.puts) (gap_on k.page t) in
        let y = length-append (text_in k.page.puts ++ gap_on k.page t) t in
        let m : length (string_bytes open_.out) ≡ 0 + length (text_in k.page.puts) + length (gap_on k.page t) = omega (arith, a, x) in
        let n : length (string_bytes new.out) ≡ 0 + length (text_in k.page.puts) + length (gap_on k.page t) + length t = omega (arith, b, x, y) in
        w.tokens ∙ ap (λ z. z ++ extent (length (string_bytes open_.out)) (length (string_bytes new.out)) ∷ []) open_tokens
        ∙ ap₂ (λ p q. extents 0 k.page.puts ++ extent p q ∷ []) m n
        ∙ sym (extents-append 0 k.page.puts (record { gap = gap_on k.page t; text = t } ∷ []))

    pub token_inked : IsInk new (ink_token k t)
    token_inked = record {
      bytes = new_out ∙ sym text_is;
      tokens = tokens_are;
      valid = utf8-append k.page.puts (record { gap = gap_on k.page t; text = t } ∷ []) h.valid ((subst IsUtf8 own (utf8_gap g), w.valid), tt);
      line = subst (IsEnd new.line) chars_is (w.line (chars_in k.page.puts ++ gap_on k.page t) (subst (λ l. IsEnd l (chars_in k.page.puts ++ gap_on k.page t)) (sym open_line) end_gapped));
      marks = w.marks k.page.before (subst (λ m. IsMarked m k.page.before) (sym open_marks) h.marks);
      broken = w.broken;
      first = w.first ∙ ap (λ (s : Sheet). s.first) w.begun_is ∙ ap₂ (λ f b. option_or f (Some b)) first_is begin_is;
    }

-- ---- nodes that are copied

module _ (own : Own) (old gapped listed new : Sheet) (g : Gap) where
  -- what is known of the steps that copy a node
  pub record IsNodeCopied : Type 0 where
    pub gap_is : gap_bytes g ≡ gap_by old.marks.last old.broken (gap_bytes own.lead)
    pub gapped_bytes : string_bytes gapped.out ≡ string_bytes old.out ++ gap_bytes g
    pub gapped_line : PutsChars (gap_bytes g) old.line gapped.line
    pub gapped_kept : gapped ≡ record old { out = gapped.out; line = gapped.line }
    pub listed_tokens : listed.tokens.items ≡ gapped.tokens.items ++ map (moved own.start (length (string_bytes gapped.out))) own.tokens.now
    pub listed_kept : listed ≡ record gapped { tokens = listed.tokens }
    pub bytes : string_bytes new.out ≡ string_bytes listed.out ++ own.text.now
    pub tokens : new.tokens.items ≡ listed.tokens.items
    pub line : (c : ℕ) (cs : List ℕ) → has_feed (c ∷ cs) ≡ false → (c ≡ 32 → ⊥) → columns (c ∷ cs) ≡ own.width → PutsChars (c ∷ cs) listed.line new.line
    pub marks : new.marks ≡ own.after
    pub broken : new.broken ≡ None
    pub first : new.first ≡ listed.first

  module _ (w : IsNodeCopied) (c : Copy) (o : IsOwn own c) (k : Ink) (h : IsInk old k) where
    abbrev gap_here : List ℕ
    gap_here = gap_by (last_in None k.page.before) k.page.broken (gap_bytes own.lead)

    abbrev added : List Put
    added = after_gap gap_here c.puts

    here : gap_bytes g ≡ gap_here
    here = w.gap_is ∙ ap₂ (λ l b. gap_by l b (gap_bytes own.lead)) h.marks.last h.broken

    gapped_out : string_bytes gapped.out ≡ text_in k.page.puts ++ gap_here
    gapped_out = w.gapped_bytes ∙ ap₂ (λ x y. x ++ y) h.bytes here

    gapped_end : IsEnd gapped.line (chars_in k.page.puts ++ gap_here)
    gapped_end = subst (λ x. IsEnd gapped.line (chars_in k.page.puts ++ x)) here (w.gapped_line (chars_in k.page.puts) h.line)

    out_is : string_bytes new.out ≡ text_in (k.page.puts ++ added)
    out_is =
        w.bytes ∙ ap₂ (λ x y. x ++ y) (ap (λ (s : Sheet). string_bytes s.out) w.listed_kept ∙ gapped_out) o.text
        ∙ append_assoc (text_in k.page.puts) gap_here (own_text c.puts)
        ∙ ap (λ z. text_in k.page.puts ++ z) (sym (text_after gap_here c.puts o.head o.rest o.chars_are))
        ∙ sym (text-append k.page.puts added)

    tokens_here : new.tokens.items ≡ extents 0 (k.page.puts ++ added)
    tokens_here =
        let a = ap length gapped_out in
        let b = length-append (text_in k.page.puts) gap_here in
        let to : length (string_bytes gapped.out) ≡ 0 + length (text_in k.page.puts) + length gap_here = omega (arith, a, b) in
        w.tokens ∙ w.listed_tokens
        ∙ ap₂ (λ x y. x ++ map (moved own.start (length (string_bytes gapped.out))) y) (ap (λ (s : Sheet). s.tokens.items) w.gapped_kept ∙ h.tokens) o.tokens
        ∙ ap (λ z. extents 0 k.page.puts ++ z) (moved_own own.start (length (string_bytes gapped.out)) (0 + length (text_in k.page.puts)) gap_here c.puts to)
        ∙ sym (extents-append 0 k.page.puts added)

    line_is : IsEnd new.line (chars_in (k.page.puts ++ added))
    line_is =
        let own_line : PutsChars (o.head ∷ o.rest) listed.line new.line =
        w.line o.head o.rest (ap has_feed (sym o.chars_are) ∙ o.feeds) o.mark (ap columns (sym o.chars_are) ∙ o.columns) in
        let from : IsEnd listed.line (chars_in k.page.puts ++ gap_here) =
        subst (λ l. IsEnd l (chars_in k.page.puts ++ gap_here)) (sym (ap (λ (s : Sheet). s.line) w.listed_kept)) gapped_end in
        subst (IsEnd new.line)
        (append_assoc (chars_in k.page.puts) gap_here (o.head ∷ o.rest)
        ∙ ap (λ z. chars_in k.page.puts ++ (gap_here ++ z)) (sym o.chars_are)
        ∙ ap (λ z. chars_in k.page.puts ++ z) (sym (chars_after gap_here c.puts o.head o.rest o.chars_are))
        ∙ sym (chars-append k.page.puts added))
        (own_line (chars_in k.page.puts ++ gap_here) from)

    pub copy_inked : IsInk new (ink_copy (gap_bytes own.lead) c k)
    copy_inked = record {
      bytes = out_is;
      tokens = tokens_here;
      valid = utf8-append k.page.puts added h.valid (utf8_after gap_here c.puts (subst IsUtf8 here (utf8_gap g)) o.valid);
      line = line_is;
      marks = marked_of new.marks c.after (w.marks ∙ o.after);
      broken = w.broken;
      first = w.first ∙ ap (λ (s : Sheet). s.first) w.listed_kept ∙ ap (λ (s : Sheet). s.first) w.gapped_kept ∙ h.first;
    }
