-- What the program keeps of what it writes: a gap by its form, the end of a text by numbers, the marks after a row, and
-- a sheet, which is a page with the place of a first token. For each: what it represents, and what its steps do.
use Rattle.std.specs.Prelude.{ℕ, ◌≡◌, ◌+◌, ◌-◌, ◌*◌, ◌==◌, ◌&&◌, not, true, false, cond, List, [], ◌∷◌, ◌++◌, length}
use Rattle.std.specs.Prelude.{replicate, count_by, slice_get, Option, Some, None, string_bytes, chars, IsUtf8}
use Rattle.std.specs.List.{AllByRecursion, list_any}
use Rattle.std.specs.Option.{option_or}
use Rattle.psg_grammar.specs.declared.types.Item.{Item}
use Rattle.psg_unparse.specs.Rows.{Piece, token, mark}
use Rattle.psg_unparse.specs.Layout.{is_line, is_tight, is_space, last_in, marks_behind, open_behind}
use Rattle.psg_unparse.specs.Spaced.{Put, text_in}
use Rattle.psg_unparse.specs.Writing.{glues_with}
use Rattle.psg_layout.specs.declared.gap.Gap.{Gap}
use Rattle.psg_layout.specs.declared.line_end.LineEnd.{LineEnd}
use Rattle.psg_layout.specs.declared.marks.Marks.{Marks}
use Rattle.psg_layout.specs.declared.sheet.Begin.{Begin}
use Rattle.psg_layout.specs.declared.sheet.Extent.{Extent}
use Rattle.psg_layout.specs.declared.sheet.Own.{Own}
use Rattle.psg_layout.specs.declared.sheet.Stop.{Stop}
use Rattle.psg_layout.specs.declared.sheet.Sheet.{Sheet}
use Rattle.psg_layout.specs.Laws.{own_text}
use Rattle.psg_layout.specs.Pages.{chars_in, columns, gap_by, gap_on, has_feed, last_line, spaces_before, Page}
use Rattle.psg_layout.specs.Pages.{new_page, with_break, with_mark, with_token}

-- ---- gaps and ends

-- the bytes of a gap
abbrev pub gap_bytes : Gap → List ℕ
gap_bytes g = cond g.feed (10 ∷ replicate g.spaces 32) (replicate g.spaces 32)

-- the gap of these bytes, which are spaces after a line feed or not
abbrev pub gap_of : List ℕ → Gap
gap_of [] = record { feed = false; spaces = 0 }
gap_of (c ∷ cs) =
    cond {A = Gap} (c == 10) (record { feed = true; spaces = length cs })
    (record { feed = false; spaces = length (c ∷ cs) })

-- how many line feeds there are
abbrev pub feeds_in : List ℕ → ℕ
feeds_in cs = count_by (λ c. c == 10) cs

-- The end of the text of these characters. Where the last line begins with that many spaces and goes on, it has that
-- many in front whatever is put after it.
pub record IsEnd (end : LineEnd) (cs : List ℕ) : Type 0 where
  pub feeds : end.feeds ≡ feeds_in cs
  pub columns : end.columns ≡ columns (last_line cs)
  pub blank : end.front ≡ None → last_line cs ≡ replicate end.columns 32
  pub known : (n : ℕ) → end.front ≡ Some n → (more : List ℕ) → spaces_before (last_line cs ++ more) ≡ n

-- these characters are put after whatever text
abbrev pub PutsChars : List ℕ → LineEnd → LineEnd → Type 0
PutsChars more old new = (cs : List ℕ) → IsEnd old cs → IsEnd new (cs ++ more)

-- ---- marks

abbrev pub marks_of : List Piece → Marks
marks_of row = record {
  last = last_in None row;
  levels = open_behind 0 row;
  line = list_any is_line (marks_behind [] row);
  tight = list_any is_tight (marks_behind [] row);
  space = list_any is_space (marks_behind [] row);
}

-- what is so at the end of the row
pub record IsMarked (m : Marks) (row : List Piece) : Type 0 where
  pub last : m.last ≡ last_in None row
  pub levels : m.levels ≡ open_behind 0 row
  pub line : m.line ≡ list_any is_line (marks_behind [] row)
  pub tight : m.tight ≡ list_any is_tight (marks_behind [] row)
  pub space : m.space ≡ list_any is_space (marks_behind [] row)

-- the gap between a token that ends with the character and one that begins with the other one
abbrev pub gap_after_char : Marks → ℕ → Option ℕ → List ℕ
gap_after_char m c begins =
    cond m.line (10 ∷ replicate (2 * m.levels) 32)
    (cond (m.tight && not m.space) (cond (glues_with c begins) (32 ∷ []) []) (32 ∷ []))

-- the piece is put after whatever row
abbrev pub PutsPiece : Piece → Marks → Marks → Type 0
PutsPiece p old new = (row : List Piece) → IsMarked old row → IsMarked new (row ++ p ∷ [])

-- ---- sheets

-- A page, and where the first token begins that was written since this was forgotten.
pub record Ink : Type 0 where
  pub page : Page
  pub first : Option Begin

abbrev pub new_ink : Ink
new_ink = record { page = new_page; first = None }

-- where a token of this text begins after these tokens and this gap
abbrev pub begin_at : List Put → List ℕ → List ℕ → Begin
begin_at puts gap t = record {
  byte = length (text_in puts ++ gap);
  gap = gap_of gap;
  feeds = feeds_in (chars_in puts ++ gap);
  columns = columns (last_line (chars_in puts ++ gap));
  head = slice_get (chars t) 0;
}

abbrev pub ink_token : Ink → List ℕ → Ink
ink_token k t = record {
  page = with_token k.page t;
  first = option_or k.first (Some (begin_at k.page.puts (gap_on k.page t) t));
}

abbrev pub ink_mark : Ink → Item → Ink
ink_mark k i = record { page = with_mark k.page i; first = k.first }

abbrev pub ink_row : Ink → List Piece → Ink
ink_row k [] = k
ink_row k (token t ∷ rest) = ink_row (ink_token k t) rest
ink_row k (mark i ∷ rest) = ink_row (ink_mark k i) rest

-- a break is asked for, where the mode has one
abbrev pub ink_ask : Option ℕ → Ink → Ink
ink_ask mode k = record { page = with_break k.page (option_or mode k.page.broken); first = k.first }

-- the first token, if none is known, begins where the text ends, after this gap
abbrev pub begun : Gap → Option ℕ → Sheet → Sheet
begun gap head s = record s {
  first = option_or s.first
      (Some
      (record {
        byte = length (string_bytes s.out);
        gap = gap;
        feeds = s.line.feeds;
        columns = s.line.columns;
        head = head;
      }));
}

-- the bytes of tokens of which the first one has its gap at the byte
abbrev pub extents : ℕ → List Put → List Extent
extents n [] = []
extents n (p ∷ ps) =
    record { begin = n + length p.gap; end = n + length p.gap + length p.text }
    ∷ extents (n + length p.gap + length p.text) ps

-- a token that is moved as from the one byte to the other one
abbrev pub moved : ℕ → ℕ → Extent → Extent
moved from to e = record { begin = e.begin - from + to; end = e.end - from + to }

-- the end of what is written is there
pub record IsStop (s : Stop) (p : Page) : Type 0 where
  pub bytes : s.bytes ≡ length (text_in p.puts)
  pub tokens : s.tokens ≡ length p.puts
  pub line : IsEnd s.line (chars_in p.puts)
  pub marks : s.marks ≡ marks_of p.before

-- the gaps and the tokens are UTF-8
abbrev pub AreUtf8 : List Put → Type 0
AreUtf8 puts = AllByRecursion (λ (p : Put). IsUtf8 p.gap × IsUtf8 p.text) puts

-- this is written on the sheet
pub record IsInk (s : Sheet) (k : Ink) : Type 0 where
  pub bytes : string_bytes s.out ≡ text_in k.page.puts
  pub tokens : s.tokens.items ≡ extents 0 k.page.puts
  pub valid : AreUtf8 k.page.puts
  pub line : IsEnd s.line (chars_in k.page.puts)
  pub marks : IsMarked s.marks k.page.before
  pub broken : s.broken ≡ k.page.broken
  pub first : s.first ≡ k.first

-- the sheet is changed as what is written on it
abbrev pub Inks : (Ink → Ink) → Sheet → Sheet → Type 0
Inks change old new = (k : Ink) → IsInk old k → IsInk new (change k)

-- ---- nodes that are copied

-- A node as it is written in the plain text: its tokens, the row up to its end, and how many nodes there are in it.
pub record Copy : Type 0 where
  pub puts : List Put
  pub after : List Piece
  pub count : ℕ

-- the tokens, of which the first one has the gap
abbrev pub after_gap : List ℕ → List Put → List Put
after_gap gap [] = []
after_gap gap (p ∷ ps) = record { gap = gap; text = p.text } ∷ ps

-- the characters of tokens without the gap in front of the first of them
abbrev pub own_chars : List Put → List ℕ
own_chars [] = []
own_chars (p ∷ ps) = chars p.text ++ chars_in ps

-- the node is written in one line, where its first token has the gap in the plain text; a break is used up by it
abbrev pub with_copy : List ℕ → Copy → Page → Page
with_copy lead c p = record {
  before = c.after;
  puts = p.puts ++ after_gap (gap_by (last_in None p.before) p.broken lead) c.puts;
  broken = None;
}

abbrev pub ink_copy : List ℕ → Copy → Ink → Ink
ink_copy lead c k = record { page = with_copy lead c k.page; first = k.first }

-- These are the tokens of the node. They have no line feed, and they begin with a character other than the space.
pub record IsOwn (own : Own) (c : Copy) : Type 0 where
  pub text : own.text.now ≡ own_text c.puts
  pub tokens : own.tokens.now ≡ extents own.start (after_gap [] c.puts)
  pub feeds : has_feed (own_chars c.puts) ≡ false
  pub columns : columns (own_chars c.puts) ≡ own.width
  pub head : ℕ
  pub rest : List ℕ
  pub chars_are : own_chars c.puts ≡ head ∷ rest
  pub mark : head ≡ 32 → ⊥
  pub after : own.after ≡ marks_of c.after
  pub count : own.count ≡ c.count
  pub valid : AreUtf8 c.puts
