-- A place is found by its position.
use Rattle.std.proofs.Common.{◌≡◌, ℕ, ◌+◌, ◌-◌, ◌<◌, ◌≤◌, List, length, take, get_or, inl, inr, sym, ap, subst, ◌∙◌, arith}
use Rattle.std.proofs.lemmas.Bool.{cases_lt}
use Rattle.psg_documents.specs.declared.encoding.Encoding.{Encoding}
use Rattle.psg_documents.specs.Positions.{IsByteOf, IsLastStop, IsLineStart, IsPosition, IsPositionOf, IsStop, IsUpTo, feeds, units}
use Rattle.psg_documents.proofs.CountLaws.{feeds_up, start_once, units_past_stop, units_up}

-- ---- one position for a place

pub line_once : (e : Encoding) (text : List ℕ) (byte l c m d : ℕ) → IsPosition e text byte l c → IsPosition e text byte m d → l ≡ m
line_once e text byte l c m d one two = sym one.lines ∙ two.lines

pub column_once : (e : Encoding) (text : List ℕ) (byte l c m d : ℕ) → IsPosition e text byte l c → IsPosition e text byte m d → c ≡ d
column_once e text byte l c m d one two =
    let same : one.start ≡ two.start =
    start_once text one.start two.start one.begins two.begins (one.same ∙ sym one.lines ∙ two.lines ∙ sym two.same) in
    let counts : units e (take one.start text) ≡ units e (take two.start text) = ap (λ s. units e (take s text)) same in
    let h : units e (take one.start text) + c ≡ units e (take byte text) = one.columns in
    let k : units e (take two.start text) + d ≡ units e (take byte text) = two.columns in
    omega (arith, counts, h, k)

-- ---- a place is the byte of its position

later : (e : Encoding) (text : List ℕ) (byte l c found m d : ℕ) → IsStop text byte → IsStop text found → IsPosition e text byte l c
    → IsPosition e text found m d → IsUpTo m d l c → byte < found → ⊥
later e text byte l c found m d stop stop_2 one two up lt =
    let within : found ≤ length text = stop_2.begins.0 in
    let more : feeds (take byte text) ≤ feeds (take found text) = feeds_up text byte found (omega (arith, lt)) in
    let h : feeds (take byte text) ≡ l = one.lines in
    let k : feeds (take found text) ≡ m = two.lines in
    let le : m ≤ l = up.0 in
    let ge : l ≤ m = omega (arith, more, h, k) in
    let line : l ≡ m = omega (arith, le, ge) in
    let column : d ≤ c = up.1 ge in
    let same : one.start ≡ two.start = start_once text one.start two.start one.begins two.begins (one.same ∙ line ∙ sym two.same) in
    let counts : units e (take one.start text) ≡ units e (take two.start text) = ap (λ s. units e (take s text)) same in
    let past : units e (take byte text) < units e (take found text) = units_past_stop e text byte found stop lt within in
    let p : units e (take one.start text) + c ≡ units e (take byte text) = one.columns in
    let q : units e (take two.start text) + d ≡ units e (take found text) = two.columns in
    omega (arith, column, counts, past, p, q)

up_to_same : (l c : ℕ) → IsUpTo l c l c
up_to_same l c = (omega arith, λ h. omega arith)

up_to_up : (l c m d n f : ℕ) → IsUpTo l c m d → IsUpTo m d n f → IsUpTo l c n f
up_to_up l c m d n f one two =
    let a : l ≤ m = one.0 in
    let b : m ≤ n = two.0 in (
      omega (arith, a, b),
      λ h.
          let k : c ≤ d = one.1 (omega (arith, b, h)) in
          let t : d ≤ f = two.1 (omega (arith, a, h)) in
          omega (arith, k, t),
    )

pub byte_is : (e : Encoding) (text : List ℕ) (byte l c found : ℕ) → IsStop text byte → IsPosition e text byte l c
    → IsByteOf e text l c found → found ≡ byte
byte_is e text byte l c found stop one by =
    let le : byte ≤ found = by.last byte l c stop one (up_to_same l c) in
    elim (cases_lt byte found) [
      | inl lt ↦ absurd (later e text byte l c found by.found_line by.found_column stop by.stop one by.found by.up_to lt)
      | inr ge ↦ omega (arith, le, ge)
    ]

-- ---- what the two calls answer takes each other back

last_is : (text : List ℕ) (byte place : ℕ) → IsStop text byte → IsLastStop text byte place → place ≡ byte
last_is text byte place stop last =
    let up : place ≤ byte = last.up_to in
    let low : byte ≤ place = last.last byte stop (omega arith) in
    omega (arith, up, low)

pub byte_back : (e : Encoding) (text : List ℕ) (byte l c found : ℕ) → IsStop text byte → IsPositionOf e text byte l c
    → IsByteOf e text l c found → found ≡ byte
byte_back e text byte l c found stop answered by =
    let P : ℕ → Type 0 = λ b. IsPosition e text b l c in
    byte_is e text byte l c found stop (subst P (last_is text byte answered.place stop answered.is_last) answered.is_at) by

pub position_back : (e : Encoding) (text : List ℕ) (byte l c found m d : ℕ) → IsStop text byte → IsPosition e text byte l c
    → IsByteOf e text l c found → IsPositionOf e text found m d → (m ≡ l) × (d ≡ c)
position_back e text byte l c found m d stop one by answered =
    let P : ℕ → Type 0 = λ b. IsPosition e text b m d in
    let place : answered.place ≡ byte =
    last_is text found answered.place by.stop answered.is_last ∙ byte_is e text byte l c found stop one by in
    let two : IsPosition e text byte m d = subst P place answered.is_at in
    (line_once e text byte m d l c two one, column_once e text byte m d l c two one)

pub bytes_in_order : (e : Encoding) (text : List ℕ) (l c byte m d other : ℕ) → IsUpTo l c m d → IsByteOf e text l c byte
    → IsByteOf e text m d other → byte ≤ other
bytes_in_order e text l c byte m d other up one two =
    two.last byte one.found_line one.found_column one.stop one.found (up_to_up one.found_line one.found_column l c m d one.up_to up)

-- ---- what is found

-- the line has its line feed there, or the text ends there
pub record IsFeed (text : List ℕ) (start line feed : ℕ) : Type 0 where
  pub within : start ≤ feed
  pub inside : feed ≤ length text
  pub is_feed : feed < length text → get_or text feed 0 ≡ 10
  pub lines : feeds (take feed text) ≡ line
  pub past : feed < length text → feeds (take (feed + 1) text) ≡ line + 1

before_feed : (text : List ℕ) (start line feed other : ℕ) → IsFeed text start line feed → other ≤ length text
    → feeds (take other text) ≡ line → other ≤ feed
before_feed text start line feed other is within lines =
    elim (cases_lt feed other) [
      | inl lt ↦ absurd
          (let past = is.past (omega (arith, lt, within)) in
          let up = feeds_up text (feed + 1) other (omega (arith, lt)) in omega (arith, past, up, lines))
      | inr ge ↦ ge
    ]

-- what a search within a line came to
pub record IsReached (e : Encoding) (text : List ℕ) (start end column most : ℕ) : Type 0 where
  pub from : start ≤ most
  pub to : most ≤ end
  pub few : units e (take most text) ≤ units e (take start text) + column
  pub next : most < end → units e (take start text) + column < units e (take (most + 1) text)

in_line : (text : List ℕ) (start feed line place : ℕ) → feeds (take start text) ≡ line → feeds (take feed text) ≡ line → start ≤ place → place ≤ feed
    → feeds (take place text) ≡ line
in_line text start feed line place h k low high =
    let a = feeds_up text start place low in let b = feeds_up text place feed high in omega (arith, h, k, a, b)

not_past : (e : Encoding) (text : List ℕ) (start line feed end column most : ℕ) → IsLineStart text start
    → feeds (take start text) ≡ line → IsFeed text start line feed → end ≤ feed
    → ((other : ℕ) → IsStop text other → other ≤ feed → start ≤ other → other ≤ end)
    → IsReached e text start end column most
    → (other m d : ℕ) → IsStop text other → IsPosition e text other m d → IsUpTo m d line column → most < other → ⊥
not_past e text start line feed end column most begins at_line is shorter ends reached other m d stop one up lt =
    let within : other ≤ length text = stop.begins.0 in
    let low : start ≤ most = reached.from in
    let high : most ≤ end = reached.to in
    let here : feeds (take most text) ≡ line =
    in_line text start feed line most at_line is.lines low (omega (arith, high, shorter)) in
    let more : feeds (take most text) ≤ feeds (take other text) = feeds_up text most other (omega (arith, lt)) in
    let there : feeds (take other text) ≡ m = one.lines in
    let le : m ≤ line = up.0 in
    let ge : line ≤ m = omega (arith, here, more, there) in
    let line_is : m ≡ line = omega (arith, le, ge) in
    let few : d ≤ column = up.1 ge in
    let same : one.start ≡ start = start_once text one.start start one.begins begins (one.same ∙ line_is ∙ sym at_line) in
    let counts : units e (take one.start text) ≡ units e (take start text) = ap (λ s. units e (take s text)) same in
    let p : units e (take one.start text) + d ≡ units e (take other text) = one.columns in
    let in_feed : other ≤ feed = before_feed text start line feed other is within (there ∙ line_is) in
    let in_end : other ≤ end = ends other stop in_feed (omega (arith, low, lt)) in
    let next : units e (take start text) + column < units e (take (most + 1) text) = reached.next (omega (arith, in_end, lt)) in
    let past : units e (take (most + 1) text) ≤ units e (take other text) = units_up e text (most + 1) other (omega (arith, lt)) in
    omega (arith, few, counts, p, next, past)

pub found_in_line : (e : Encoding) (text : List ℕ) (start line feed end column most byte : ℕ) → IsLineStart text start
    → IsStop text start → feeds (take start text) ≡ line → IsFeed text start line feed → end ≤ feed
    → ((other : ℕ) → IsStop text other → other ≤ feed → start ≤ other → other ≤ end)
    → IsReached e text start end column most → IsLastStop text most byte → IsByteOf e text line column byte
found_in_line e text start line feed end column most byte begins stop at_line is shorter ends reached last =
    let low : start ≤ byte = last.last start stop reached.from in
    let high : byte ≤ most = last.up_to in
    let to : most ≤ end = reached.to in
    let lower : units e (take start text) ≤ units e (take byte text) = units_up e text start byte low in
    let upper : units e (take byte text) ≤ units e (take most text) = units_up e text byte most high in
    let few : units e (take most text) ≤ units e (take start text) + column = reached.few in
    record {
      stop = last.stop;
      found_line = line;
      found_column = units e (take byte text) - units e (take start text);
      found = record {
        lines = in_line text start feed line byte at_line is.lines low (omega (arith, high, to, shorter));
        start = start;
        begins = begins;
        same = at_line;
        before = low;
        columns = omega (arith, lower);
      };
      up_to = (omega arith, λ h. omega (arith, lower, upper, few));
      last = λ other m d stop_2 one up.
          elim (cases_lt most other) [
            | inl lt ↦ absurd (not_past e text start line feed end column most begins at_line is shorter ends reached other m d stop_2 one up lt)
            | inr ge ↦ last.last other stop_2 ge
          ];
    }

pub found_at_end : (e : Encoding) (text : List ℕ) (start line column : ℕ) → IsLineStart text start → IsStop text (length text)
    → feeds (take start text) ≡ feeds text → feeds (take (length text) text) ≡ feeds text → feeds text < line
    → IsByteOf e text line column (length text)
found_at_end e text start line column begins stop at_line whole past =
    let low : start ≤ length text = begins.0 in
    let lower : units e (take start text) ≤ units e (take (length text) text) = units_up e text start (length text) low in
    record {
      stop = stop;
      found_line = feeds text;
      found_column = units e (take (length text) text) - units e (take start text);
      found = record {
        lines = whole;
        start = start;
        begins = begins;
        same = at_line;
        before = low;
        columns = omega (arith, lower);
      };
      up_to = (omega (arith, past), λ h. absurd (omega (arith, past, h)));
      last = λ other m d stop_2 one up. stop_2.begins.0;
    }
