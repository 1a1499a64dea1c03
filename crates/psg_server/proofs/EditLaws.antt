-- The lines that two texts have in common at their beginning and at their end, and the edit of what is between.
use Rattle.std.proofs.Common.{◌≡◌, ◌<◌, ◌≤◌, ◌↔◌, ◌+◌, ◌-◌, ◌==◌, ℕ, suc, Bool, true, false, cond, ◌⊎◌, List, [], ◌∷◌, ◌++◌, length, take, drop, get_or, Some, refl, inl, inr, sym, ◌∙◌, ap, ap₂, subst, arith}
use Rattle.std.specs.List.{slice_get}
use Rattle.std.specs.Prelude.{slice_index}
use Rattle.std.specs.Str.{IsUtf8}
use Rattle.std.proofs.Math.Seq.{drop-cons, take-suc}
use Rattle.std.proofs.lemmas.Bool.{cases_lt, false≢true}
use Rattle.std.proofs.lemmas.Bool.Decides.{eqb_tells}
use Rattle.std.proofs.lemmas.List.{drop-drop, drop_all, get_or-drop, get_or-take, length-drop, take-append-drop, take-take}
use Rattle.std.proofs.lemmas.Option.{slice_get-get_or, slice_get_within, unwrap_or-slice_get}
use Rattle.std.proofs.lemmas.Str.{IsUtf8-between}
use Rattle.std.specs.Option.{unwrap_or}
use Rattle.serde_json.specs.Data.{Data, array, item, no_items, null}
use Rattle.psg_comments.specs.declared.finding.Comment.{Comment}
use Rattle.psg_grammar.specs.declared.types.Kind.{Kind}
use Rattle.psg_grammar.specs.Fragments.{Fragment}
use Rattle.psg_program.specs.declared.fault.ProgramFault.{ProgramFault}
use Rattle.psg_program.specs.declared.fault.ProgramFault.TheVariants.{Syntax}
use Rattle.psg_program.specs.declared.fault.SyntaxError.{SyntaxError}
use Rattle.psg_program.specs.Programs.{IsProgram, IsProgramFault}
use Rattle.psg_documents.specs.declared.encoding.Encoding.{Encoding}
use Rattle.psg_documents.specs.Positions.{IsLineStart, IsStop}
use Rattle.psg_documents.proofs.StartLaws.{end_is_stop, stop_of_start}
use Rattle.psg_server.specs.declared.judging.Defined.{Defined}
use Rattle.psg_server.specs.Edits.{HaveTail, IsEdit, IsFormatting, IsFront, IsTail, IsWanted, as_it_is, edit_data, no_program, one_edit}
use Rattle.psg_server.specs.Ranges.{IsRange}

-- ---- the lines that two texts have at their beginning

-- Up to the place the texts are the same, and the last line of what is before it begins at the start.
pub record IsSame (text wanted : List ℕ) (start place : ℕ) : Type 0 where
  pub in_text : place ≤ length text
  pub in_wanted : place ≤ length wanted
  pub same : take place text ≡ take place wanted
  pub up_to : start ≤ place
  pub begins : 0 < start → slice_index text (start - 1) ≡ 10
  pub begins_wanted : 0 < start → slice_index wanted (start - 1) ≡ 10
  pub last : (other : ℕ) → other ≤ place → IsLineStart text other → other ≤ start

pub same_start : (text wanted : List ℕ) → IsSame text wanted 0 0
same_start text wanted = record {
  in_text = omega arith;
  in_wanted = omega arith;
  same = refl;
  up_to = omega arith;
  begins = λ some. absurd (omega (arith, some));
  begins_wanted = λ some. absurd (omega (arith, some));
  last = λ other le start. le;
}

read_at : (xs : List ℕ) (i b : ℕ) → slice_get xs i ≡ Some b → get_or xs i 0 ≡ b
read_at xs i b e = sym (unwrap_or-slice_get xs i 0) ∙ ap (λ o. unwrap_or o 0) e

one_more : (xs : List ℕ) (i b : ℕ) → slice_get xs i ≡ Some b → take (i + 1) xs ≡ take i xs ++ b ∷ []
one_more xs i b e =
    let next : suc i ≡ i + 1 = omega arith in
    subst (λ n. take n xs ≡ take i xs ++ b ∷ []) next
    (take-suc xs i 0 (slice_get_within xs i b e) ∙ ap (λ c. take i xs ++ c ∷ []) (read_at xs i b e))

begins_after : (xs : List ℕ) (start i b : ℕ) → slice_get xs i ≡ Some b → (0 < start → slice_index xs (start - 1) ≡ 10)
    → 0 < cond (b == 10) (i + 1) start → slice_index xs (cond (b == 10) (i + 1) start - 1) ≡ 10
begins_after xs start i b e so = by (b == 10) (eqb_tells b 10) where
  by : (t : Bool) → ((t ≡ true) × (b ≡ 10)) ⊎ ((t ≡ false) × (b ≡ 10 → ⊥)) → 0 < cond t (i + 1) start
      → slice_index xs (cond t (i + 1) start - 1) ≡ 10
  by true (inl yes') some =
      let back : i ≡ i + 1 - 1 = omega arith in
      subst (λ n. get_or xs n 0 ≡ 10) back (read_at xs i b e ∙ yes'.1)
  by true (inr no') some = absurd cc
  by false (inl yes') some = absurd cc
  by false (inr no') some = so some

start_up_to : (b start i : ℕ) → start ≤ i → cond (b == 10) (i + 1) start ≤ i + 1
start_up_to b start i le = by (b == 10) where
  by : (t : Bool) → cond t (i + 1) start ≤ i + 1
  by true = omega arith
  by false = omega (arith, le)

last_after : (xs : List ℕ) (start i b : ℕ) → slice_get xs i ≡ Some b → start ≤ i
    → ((other : ℕ) → other ≤ i → IsLineStart xs other → other ≤ start)
    → (other : ℕ) → other ≤ i + 1 → IsLineStart xs other → other ≤ cond (b == 10) (i + 1) start
last_after xs start i b e le so other up begins = by (b == 10) (eqb_tells b 10) where
  by : (t : Bool) → ((t ≡ true) × (b ≡ 10)) ⊎ ((t ≡ false) × (b ≡ 10 → ⊥)) → other ≤ cond t (i + 1) start
  by true yes' = up
  by false (inl yes') = absurd cc
  by false (inr no') = elim (cases_lt i other) [
    | inl past ↦
        let some : 0 < other = omega (arith, past) in
        let back : other - 1 ≡ i = omega (arith, past, up) in
        absurd (no'.1 (sym (read_at xs i b e) ∙ subst (λ n. get_or xs n 0 ≡ 10) back (begins.1 some)))
    | inr up' ↦ so other up' begins
  ]

pub same_step : (text wanted : List ℕ) (start place b : ℕ) → slice_get text place ≡ Some b
    → slice_get wanted place ≡ Some b → IsSame text wanted start place
    → IsSame text wanted (cond (b == 10) (place + 1) start) (place + 1)
same_step text wanted start place b e w so = record {
  in_text = (let lt = slice_get_within text place b e in omega (arith, lt));
  in_wanted = (let lt = slice_get_within wanted place b w in omega (arith, lt));
  same = one_more text place b e ∙ ap (λ xs. xs ++ b ∷ []) so.same ∙ sym (one_more wanted place b w);
  up_to = start_up_to b start place so.up_to;
  begins = begins_after text start place b e so.begins;
  begins_wanted = begins_after wanted start place b w so.begins_wanted;
  last = last_after text start place b e so.up_to so.last;
}

-- at a place before one up to which both texts are the same both have one byte
byte_before : (text wanted : List ℕ) (place other : ℕ) → place < other → other ≤ length text → other ≤ length wanted
    → take other text ≡ take other wanted → get_or wanted place 0 ≡ get_or text place 0
byte_before text wanted place other lt t w same =
    sym (get_or-take other wanted place 0 lt) ∙ ap (λ xs. get_or xs place 0) (sym same) ∙ get_or-take other text place 0 lt

-- where the next byte is none that both have, all lines that are the same at the beginning are known
pub front_is : (text wanted : List ℕ) (start place : ℕ) → IsSame text wanted start place
    → ((b : ℕ) → slice_get text place ≡ Some b → slice_get wanted place ≡ Some b → ⊥) → IsFront text wanted start
front_is text wanted start place so differ = record {
  have = record {
    start = (omega (arith, so.up_to, so.in_text), so.begins);
    start_wanted = (omega (arith, so.up_to, so.in_wanted), so.begins_wanted);
    same =
        sym (take-take start place text so.up_to) ∙ ap (take start) so.same ∙ take-take start place wanted so.up_to;
  };
  longest = λ other front. elim (cases_lt place other) [
    | inl past ↦
        let t : other ≤ length text = front.start.0 in
        let w : other ≤ length wanted = front.start_wanted.0 in
        let in_text : place < length text = omega (arith, past, t) in
        let in_wanted : place < length wanted = omega (arith, past, w) in
        absurd (differ (get_or text place 0) (slice_get-get_or text place 0 in_text)
        (slice_get-get_or wanted place 0 in_wanted
        ∙ ap (λ (b : ℕ). Some b) (byte_before text wanted place other past t w front.same)))
    | inr up ↦ so.last other up front.start
  ];
}

-- ---- the lines that two texts have at their end

abbrev pub Alike : List ℕ → List ℕ → ℕ → ℕ → Type 0
Alike text wanted from size = (from + size < length text) × ((from + size < length wanted)
    × (slice_index text (length text - size - 1) ≡ slice_index wanted (length wanted - size - 1)))

abbrev pub Begin : List ℕ → List ℕ → ℕ → Type 0
Begin text wanted size = IsLineStart text (length text - size) × IsLineStart wanted (length wanted - size)

-- The last bytes, so many, are the same, and of these so many as the tail has are all whole lines.
pub record IsBack (text wanted : List ℕ) (from size tail : ℕ) : Type 0 where
  pub in_text : from + size ≤ length text
  pub in_wanted : from + size ≤ length wanted
  pub same : drop (length text - size) text ≡ drop (length wanted - size) wanted
  pub up_to : tail ≤ size
  pub begins : 0 < tail → Begin text wanted tail
  pub last : (other : ℕ) → other ≤ size → 0 < other → Begin text wanted other → other ≤ tail

pub back_start : (text wanted : List ℕ) (from : ℕ) → from ≤ length text → from ≤ length wanted → IsBack text wanted from 0 0
back_start text wanted from t w = record {
  in_text = omega (arith, t);
  in_wanted = omega (arith, w);
  same = drop_all (length text - 0) text (omega arith) ∙ sym (drop_all (length wanted - 0) wanted (omega arith));
  up_to = omega arith;
  begins = λ some. absurd (omega (arith, some));
  last = λ other le some begin. le;
}

-- the last bytes, one more
one_longer : (xs : List ℕ) (size : ℕ) → size < length xs
    → drop (length xs - (size + 1)) xs ≡ get_or xs (length xs - size - 1) 0 ∷ drop (length xs - size) xs
one_longer xs size lt =
    let at : length xs - (size + 1) ≡ length xs - size - 1 = omega arith in
    let next : suc (length xs - size - 1) ≡ length xs - size = omega (arith, lt) in
    let inside : length xs - size - 1 < length xs = omega (arith, lt) in
    ap (λ n. drop n xs) at ∙ drop-cons xs (length xs - size - 1) 0 inside
    ∙ ap (λ n. get_or xs (length xs - size - 1) 0 ∷ drop n xs) next

pub back_step : (text wanted : List ℕ) (from size tail new : ℕ) (b : Bool) → Alike text wanted from size
    → ((b ≡ true) ↔ Begin text wanted (size + 1)) → new ≡ cond b (size + 1) tail → IsBack text wanted from size tail
    → IsBack text wanted from (size + 1) new
back_step text wanted from size tail new b alike lines e so =
    subst (λ n. IsBack text wanted from (size + 1) n) (sym e) (record {
      in_text = (let lt = alike.0 in omega (arith, lt));
      in_wanted = (let lt = alike.1.0 in omega (arith, lt));
      same =
          one_longer text size (let lt = alike.0 in omega (arith, lt))
          ∙ ap₂ (λ (x : ℕ) (xs : List ℕ). x ∷ xs) alike.1.1 so.same
          ∙ sym (one_longer wanted size (let lt = alike.1.0 in omega (arith, lt)));
      up_to = up b;
      begins = begin b refl;
      last = last b refl;
    }) where
      up : (t : Bool) → cond t (size + 1) tail ≤ size + 1
      up true = omega arith
      up false = (let le = so.up_to in omega (arith, le))

      begin : (t : Bool) → b ≡ t → 0 < cond t (size + 1) tail → Begin text wanted (cond t (size + 1) tail)
      begin true is some = lines.0 is
      begin false is some = so.begins some

      last : (t : Bool) → b ≡ t → (other : ℕ) → other ≤ size + 1 → 0 < other → Begin text wanted other
          → other ≤ cond t (size + 1) tail
      last true is other le some there = le
      last false is other le some there = elim (cases_lt size other) [
        | inl past ↦
            let whole : other ≡ size + 1 = omega (arith, past, le) in
            absurd (false≢true (sym is ∙ lines.1 (subst (λ n. Begin text wanted n) whole there)))
        | inr le' ↦ so.last other le' some there
      ]

-- fewer of the last bytes are the same too
fewer : (text wanted : List ℕ) (size tail : ℕ) → tail ≤ size → size ≤ length text → size ≤ length wanted
    → drop (length text - size) text ≡ drop (length wanted - size) wanted
    → drop (length text - tail) text ≡ drop (length wanted - tail) wanted
fewer text wanted size tail le t w same = less text t ∙ ap (λ xs. drop (size - tail) xs) same ∙ sym (less wanted w) where
  less : (xs : List ℕ) → size ≤ length xs → drop (length xs - tail) xs ≡ drop (size - tail) (drop (length xs - size) xs)
  less xs in' =
      let at : length xs - tail ≡ length xs - size + (size - tail) = omega (arith, le, in') in
      ap (λ n. drop n xs) at ∙ sym (drop-drop (size - tail) (length xs - size) xs)

-- behind two places both texts have the same bytes
byte_behind : (text wanted : List ℕ) (other stop k i j : ℕ) → other + k ≡ i → stop + k ≡ j
    → drop other text ≡ drop stop wanted → slice_index text i ≡ slice_index wanted j
byte_behind text wanted other stop k i j at at_wanted same =
    ap (λ n. get_or text n 0) (sym at) ∙ sym (get_or-drop other text k 0) ∙ ap (λ xs. get_or xs k 0) same
    ∙ get_or-drop stop wanted k 0 ∙ ap (λ n. get_or wanted n 0) at_wanted

-- where more of the last bytes are the same the next one is
alike_before : (text wanted : List ℕ) (from size other stop : ℕ) → from ≤ other → from ≤ stop → other ≤ length text
    → stop ≤ length wanted → length text - other ≡ length wanted - stop → size < length text - other
    → drop other text ≡ drop stop wanted → Alike text wanted from size
alike_before text wanted from size other stop f g t w long past same = (
  omega (arith, f, t, past),
  (
    omega (arith, g, w, long, past),
    byte_behind text wanted other stop (length text - other - size - 1) (length text - size - 1) (length wanted - size - 1)
        (omega (arith, past, t)) (omega (arith, past, long, w)) same,
  ),
)

longest_back : (text wanted : List ℕ) (from size tail other stop : ℕ) → IsBack text wanted from size tail
    → (Alike text wanted from size → ⊥) → from ≤ other → from ≤ stop → HaveTail text wanted other stop
    → length text - tail ≤ other
longest_back text wanted from size tail other stop so differ f g have =
    let t : other ≤ length text = have.within in
    let w : stop ≤ length wanted = have.within_wanted in
    let long : length text - other ≡ length wanted - stop =
    sym (length-drop other text) ∙ ap (λ (xs : List ℕ). length xs) have.same ∙ length-drop stop wanted in
    elim (cases_lt size (length text - other)) [
      | inl past ↦ absurd (differ (alike_before text wanted from size other stop f g t w long past have.same))
      | inr up ↦ elim (cases_lt other (length text)) [
        | inl some ↦
            let some_wanted : stop < length wanted = omega (arith, some, long, w) in
            let at : other ≡ length text - (length text - other) = omega (arith, t) in
            let at_wanted : stop ≡ length wanted - (length text - other) = omega (arith, long, w) in
            let there : Begin text wanted (length text - other) = (
              subst (λ n. IsLineStart text n) at (have.start some),
              subst (λ n. IsLineStart wanted n) at_wanted (have.start_wanted some_wanted),
            ) in
            let le : length text - other ≤ tail = so.last (length text - other) up (omega (arith, some)) there in
            omega (arith, le, t)
        | inr none ↦ omega (arith, none)
      ]
    ]

pub tail_is : (text wanted : List ℕ) (from size tail : ℕ) → IsBack text wanted from size tail
    → (Alike text wanted from size → ⊥) → IsTail text wanted from (length text - tail) (length wanted - tail)
tail_is text wanted from size tail so differ = record {
  before = omega (arith, so.up_to, so.in_text);
  before_wanted = omega (arith, so.up_to, so.in_wanted);
  have = record {
    within = omega arith;
    within_wanted = omega arith;
    start = λ lt. (so.begins (omega (arith, lt))).0;
    start_wanted = λ lt. (so.begins (omega (arith, lt))).1;
    same = fewer text wanted size tail so.up_to (omega (arith, so.in_text)) (omega (arith, so.in_wanted)) so.same;
  };
  longest = λ other stop f g have. longest_back text wanted from size tail other stop so differ f g have;
}

-- ---- the edit

-- a place from which on whole lines are the same is one where a person may be
tail_stop : (text : List ℕ) (to : ℕ) → IsUtf8 text → to ≤ length text → (to < length text → IsLineStart text to)
    → IsStop text to
tail_stop text to utf8 within begins = elim (cases_lt to (length text)) [
  | inl lt ↦ stop_of_start text to utf8 (begins lt)
  | inr ge ↦
      let whole : length text ≡ to = omega (arith, ge, within) in
      subst (λ n. IsStop text n) whole (end_is_stop text)
]

-- what is between two such places of the wanted text is a text
pub between_is_text : (text wanted : List ℕ) (from to until : ℕ) → IsUtf8 wanted → IsFront text wanted from
    → IsTail text wanted from to until → IsUtf8 (take (until - from) (drop from wanted))
between_is_text text wanted from to until utf8 front tail =
    IsUtf8-between wanted from until utf8 tail.before_wanted (stop_of_start wanted from utf8 front.have.start_wanted).begins
    (tail_stop wanted until utf8 tail.have.within_wanted tail.have.start_wanted).begins

-- a text is what is before a place, what is between it and another one, and what is after that one
three_parts : (xs : List ℕ) (from to : ℕ) → from ≤ to
    → take from xs ++ (take (to - from) (drop from xs) ++ drop to xs) ≡ xs
three_parts xs from to le =
    let at : from + (to - from) ≡ to = omega (arith, le) in
    ap (λ ys. take from xs ++ (take (to - from) (drop from xs) ++ ys))
    (sym (drop-drop (to - from) from xs ∙ ap (λ n. drop n xs) at))
    ∙ ap (λ ys. take from xs ++ ys) (take-append-drop (to - from) (drop from xs))
    ∙ take-append-drop from xs

pub edit_is : (encoding : Encoding) (text wanted new : List ℕ) (from to until : ℕ) (range d : Data) → IsUtf8 text
    → IsFront text wanted from → IsTail text wanted from to until → new ≡ take (until - from) (drop from wanted)
    → IsRange encoding text from to range → d ≡ edit_data range new → IsEdit encoding text wanted d
edit_is encoding text wanted new from to until range d utf8 front tail is ranged e = record {
  from = from;
  to = to;
  until = until;
  front = front;
  tail = tail;
  begins = stop_of_start text from utf8 front.have.start;
  ends = tail_stop text to utf8 tail.have.within tail.have.start;
  new = new;
  gives =
      ap₂ (λ (xs ys : List ℕ). xs ++ (new ++ ys)) front.have.same tail.have.same
      ∙ ap (λ (ys : List ℕ). take from wanted ++ (ys ++ drop until wanted)) is
      ∙ three_parts wanted from until tail.before_wanted;
  range = range;
  is_range = ranged;
  is = e;
}

-- as the program has it, with the bytes of the texts
pub edit_as : (encoding : Encoding) (text bytes wanted ws new : List ℕ) (from to until : ℕ) (range d : Data) → bytes ≡ text
    → ws ≡ wanted → IsUtf8 bytes → IsFront bytes ws from → IsTail bytes ws from to until
    → new ≡ take (until - from) (drop from ws) → IsRange encoding text from to range → d ≡ edit_data range new
    → IsEdit encoding text wanted d
edit_as encoding text bytes wanted ws new from to until range d b w utf8 front tail is ranged e =
    edit_is encoding text wanted new from to until range d
    (subst (λ (xs : List ℕ). IsUtf8 xs) b utf8)
    (subst (λ (xs : List ℕ). IsFront xs wanted from) b (subst (λ (ys : List ℕ). IsFront bytes ys from) w front))
    (subst (λ (xs : List ℕ). IsTail xs wanted from to until) b
    (subst (λ (ys : List ℕ). IsTail bytes ys from to until) w tail))
    (is ∙ ap (λ (ys : List ℕ). take (until - from) (drop from ys)) w)
    ranged
    e

-- ---- what formatting answers

module _ (def : Defined) (kind : Kind) (encoding : Encoding) (text : List ℕ) (comments : List Comment)
    (judged : List ℕ) where
  pub as_is : (own : List ℕ) (f : Fragment) (v : Data)
      → IsWanted def.language def.comment text comments judged f own → text ≡ own → v ≡ array no_items
      → IsProgram def.language kind judged f → IsFormatting def kind encoding text comments judged v
  as_is own f v wanted same e program =
      subst (λ (d : Data). IsFormatting def kind encoding text comments judged d) (sym e)
      (as_it_is f program
      (subst (λ (w : List ℕ). IsWanted def.language def.comment text comments judged f w) (sym same) wanted))

  pub one_is : (own : List ℕ) (f : Fragment) (d v : Data)
      → IsWanted def.language def.comment text comments judged f own → (text ≡ own → ⊥) → IsEdit encoding text own d
      → v ≡ array (item d no_items) → IsProgram def.language kind judged f
      → IsFormatting def kind encoding text comments judged v
  one_is own f d v wanted other edit e program =
      subst (λ (x : Data). IsFormatting def kind encoding text comments judged x) (sym e)
      (one_edit f own d program wanted other edit)

  pub none_is : (fault : ProgramFault) (e : SyntaxError) (v : Data) → fault ≡ Syntax e → v ≡ null
      → IsProgramFault def.language kind judged fault → IsFormatting def kind encoding text comments judged v
  none_is fault e v is none faulty =
      subst (λ (d : Data). IsFormatting def kind encoding text comments judged d) (sym none)
      (no_program _ _ _ (subst (λ (x : ProgramFault). IsProgramFault def.language kind judged x) is faulty))

  pub wanted_as : (own text_own : List ℕ) (f : Fragment) → text_own ≡ own
      → IsWanted def.language def.comment text comments judged f own
      → IsWanted def.language def.comment text comments judged f text_own
  wanted_as own text_own f e so =
      subst (λ (w : List ℕ). IsWanted def.language def.comment text comments judged f w) (sym e) so
