-- What each step of the writer adds to the row that is written.
use Rattle.std.proofs.Common.{◌≡◌, inl, inr, ℕ, ◌+◌, ◌-◌, ◌*◌, Bool, true, false, cond, ◌||◌, ◌&&◌, not, List, [], ◌∷◌, ◌++◌, length, replicate, Option, Some, None, slice_get, refl, ap, ap₂, sym, subst, ◌∙◌, append_assoc, append-nil, string_bytes, length-append, arith, IsTrue, ◌↔◌}
use Rattle.std.proofs.lemmas.Bool.{or_cases}
use Rattle.std.proofs.lemmas.List.{replicate-append-replicate}
use Rattle.psg_terms.specs.Words.{goes_on_word}
use Rattle.psg_lexis.specs.Classes.{is_symbol, Glue}
use Rattle.std.specs.Str.{chars}
use Rattle.std.specs.List.{list_any}
use Rattle.std.specs.Option.{option_or}
use Rattle.std.proofs.lemmas.List.Folds.{list_any-append}
use Rattle.std.proofs.Math.Bool.{and_assoc, and-true, and-false, or-false, or-true}
use Rattle.std.specs.Cmp.{both_ways, first_so, second_so}
use Rattle.psg_grammar.specs.declared.types.Item.{Item}
use Rattle.psg_grammar.specs.declared.types.Item.TheVariants as items
use Rattle.psg_unparse.specs.declared.layout.Writer.{Writer}
use Rattle.psg_unparse.specs.Rows.{Piece, token, mark}
use Rattle.psg_unparse.specs.Layout.{is_line, is_tight, is_space, glues, glues_first, last_char, last_in, marks_behind, open_behind, gap_after, gap, laid}
use Rattle.psg_unparse.specs.Plain.{has_token, keeps_plain, plain_in, head_in}
use Rattle.psg_unparse.specs.Writing.{head_with, IsWritten, first_in, Adds, glues_with, gap_behind, gap_in, IsBegun, ended_by}
use Rattle.psg_unparse.proofs.Rows.{laid-append, last_in-append}

-- ---- rows

pub marks_behind-append : (ms : List Item) (a b : List Piece) → marks_behind ms (a ++ b) ≡ marks_behind (marks_behind ms a) b
marks_behind-append ms [] b = refl
marks_behind-append ms (token t ∷ a) b = marks_behind-append [] a b
marks_behind-append ms (mark i ∷ a) b = marks_behind-append (ms ++ i ∷ []) a b

pub open_behind-append : (n : ℕ) (a b : List Piece) → open_behind n (a ++ b) ≡ open_behind (open_behind n a) b
open_behind-append n [] b = refl
open_behind-append n (token t ∷ a) b = open_behind-append n a b
open_behind-append n (mark items.In ∷ a) b = open_behind-append (n + 1) a b
open_behind-append n (mark items.Out ∷ a) b = open_behind-append (n - 1) a b
open_behind-append n (mark (items.Word w) ∷ a) b = open_behind-append n a b
open_behind-append n (mark (items.Slot k) ∷ a) b = open_behind-append n a b
open_behind-append n (mark (items.Refers s) ∷ a) b = open_behind-append n a b
open_behind-append n (mark (items.Declares s) ∷ a) b = open_behind-append n a b
open_behind-append n (mark items.Number ∷ a) b = open_behind-append n a b
open_behind-append n (mark items.Text ∷ a) b = open_behind-append n a b
open_behind-append n (mark items.Space ∷ a) b = open_behind-append n a b
open_behind-append n (mark items.Tight ∷ a) b = open_behind-append n a b
open_behind-append n (mark items.Line ∷ a) b = open_behind-append n a b

pub option_or-none : (o : Option ℕ) → option_or o None ≡ o
option_or-none None = refl
option_or-none (Some n) = refl

pub option_or-assoc : (a b c : Option ℕ) → option_or (option_or a b) c ≡ option_or a (option_or b c)
option_or-assoc None b c = refl
option_or-assoc (Some n) b c = refl

pub first_in-append : (before a b : List Piece) → first_in before (a ++ b) ≡ option_or (first_in before a) (first_in (before ++ a) b)
first_in-append before [] b = ap (λ x. first_in x b) (sym (append-nil before))
first_in-append before (token t ∷ a) b = refl
first_in-append before (mark i ∷ a) b =
    first_in-append (before ++ mark i ∷ []) a b
    ∙ ap (λ x. option_or (first_in (before ++ mark i ∷ []) a) (first_in x b)) (append_assoc before (mark i ∷ []) a)

-- ---- plain rows, and what they begin with

pub plain_in-append : (c : Option ℕ) (a b : List Piece) → plain_in c (a ++ b) ≡ (plain_in c a && plain_in (last_in c a) b)
plain_in-append c [] b = refl
plain_in-append c (token t ∷ a) b = plain_in-append (Some (last_char 0 (chars t))) a b
plain_in-append c (mark i ∷ a) b =
    ap (λ x. keeps_plain c i && x) (plain_in-append c a b) ∙ sym (and_assoc (keeps_plain c i) (plain_in c a) (plain_in (last_in c a) b))

pub head_in-mark : (a : List Piece) (i : Item) → head_in (a ++ mark i ∷ []) ≡ head_in a
head_in-mark [] i = refl
head_in-mark (token t ∷ a) i = refl
head_in-mark (mark j ∷ a) i = head_in-mark a i

head_known : (c : ℕ) (a : List Piece) (begins head : Option ℕ) → head_with (last_in (Some c) a) begins head ≡ head
head_known c [] begins head = refl
head_known c (token t ∷ a) begins head = head_known (last_char 0 (chars t)) a begins head
head_known c (mark i ∷ a) begins head = head_known c a begins head

pub head_in-token : (a : List Piece) (t : List ℕ) → head_in (a ++ token t ∷ []) ≡ head_with (last_in None a) (slice_get (chars t) 0) (head_in a)
head_in-token [] t = refl
head_in-token (token s ∷ a) t = sym (head_known (last_char 0 (chars s)) a (slice_get (chars t) 0) (slice_get (chars s) 0))
head_in-token (mark i ∷ a) t = head_in-token a t

-- a mark adds no byte
laid-mark : (before : List Piece) (i : Item) → laid [] (before ++ mark i ∷ []) ≡ laid [] before
laid-mark before i = laid-append [] before (mark i ∷ []) ∙ append-nil (laid [] before)

-- ---- steps

pub adds-nothing : (w : Writer) → Adds [] w w
adds-nothing w = record {
  written = λ before h. subst (IsWritten w) (sym (append-nil before)) h;
  first = λ before h. sym (option_or-none w.first);
}

pub adds-then : {p q : List Piece} {a b c : Writer} → Adds p a b → Adds q b c → Adds (p ++ q) a c
adds-then {p} {q} {a} {b} {c} f g = record {
  written = λ before h. subst (IsWritten c) (append_assoc before p q) (g.written (before ++ p) (f.written before h));
  first = λ before h.
      g.first (before ++ p) (f.written before h)
      ∙ ap (λ x. option_or x (first_in (before ++ p) q)) (f.first before h)
      ∙ option_or-assoc a.first (first_in before p) (first_in (before ++ p) q)
      ∙ ap (option_or a.first) (sym (first_in-append before p q));
}

pub adds-mark : (i : Item) (old new : Writer) → string_bytes new.out ≡ string_bytes old.out → new.last ≡ old.last
    → new.levels ≡ open_behind old.levels (mark i ∷ []) → new.line ≡ (old.line || is_line i) → new.tight ≡ (old.tight || is_tight i)
    → new.space ≡ (old.space || is_space i) → new.first ≡ old.first → new.plain ≡ (old.plain && keeps_plain old.last i) → new.head ≡ old.head
    → Adds (mark i ∷ []) old new
adds-mark i old new bytes last levels line tight space first plain head = record {
  written = λ before h. record {
    bytes = bytes ∙ h.bytes ∙ sym (laid-mark before i);
    last = last ∙ h.last ∙ sym (last_in-append None before (mark i ∷ []));
    levels = levels ∙ ap (λ n. open_behind n (mark i ∷ [])) h.levels ∙ sym (open_behind-append 0 before (mark i ∷ []));
    line = line ∙ marked is_line before h.line;
    tight = tight ∙ marked is_tight before h.tight;
    space = space ∙ marked is_space before h.space;
    plain =
        plain ∙ ap₂ (λ x y. x && keeps_plain y i) h.plain h.last
        ∙ ap (λ x. plain_in None before && x) (sym (and-true (keeps_plain (last_in None before) i)))
        ∙ sym (plain_in-append None before (mark i ∷ []));
    head = head ∙ h.head ∙ sym (head_in-mark before i);
  };
  first = λ before h. first ∙ sym (option_or-none old.first);
} where
  marked : {b : Bool} (test : Item → Bool) (before : List Piece) → b ≡ list_any test (marks_behind [] before)
      → (b || test i) ≡ list_any test (marks_behind [] (before ++ mark i ∷ []))
  marked {b} test before h =
      ap (λ x. x || test i) h
      ∙ ap (λ x. list_any test (marks_behind [] before) || x) (sym (or-false (test i)))
      ∙ sym (list_any-append test (marks_behind [] before) (i ∷ []))
      ∙ ap (list_any test) (sym (marks_behind-append [] before (mark i ∷ [])))

unread : (i : Item) (w : Writer) → open_behind w.levels (mark i ∷ []) ≡ w.levels → is_line i ≡ false → is_tight i ≡ false → is_space i ≡ false → keeps_plain w.last i ≡ true → Adds (mark i ∷ []) w w
unread i w levels line tight space plain =
    adds-mark i w w refl refl (sym levels) (sym (or-false w.line) ∙ ap (λ b. w.line || b) (sym line)) (sym (or-false w.tight) ∙ ap (λ b. w.tight || b) (sym tight))
    (sym (or-false w.space) ∙ ap (λ b. w.space || b) (sym space)) refl (sym (and-true w.plain) ∙ ap (λ b. w.plain && b) (sym plain)) refl

pub adds-tight : (w : Writer) (p : Bool) → p ≡ (w.plain && has_token w.last) → Adds (mark items.Tight ∷ []) w (record w { tight = true; plain = p })
adds-tight w p e = adds-mark items.Tight w (record w { tight = true; plain = p }) refl refl refl (sym (or-false w.line)) (sym (or-true w.tight)) (sym (or-false w.space)) refl e refl

pub adds-space : (w : Writer) (p : Bool) → p ≡ (w.plain && has_token w.last) → Adds (mark items.Space ∷ []) w (record w { space = true; plain = p })
adds-space w p e = adds-mark items.Space w (record w { space = true; plain = p }) refl refl refl (sym (or-false w.line)) (sym (or-false w.tight)) (sym (or-true w.space)) refl e refl

pub adds-line : (w : Writer) → Adds (mark items.Line ∷ []) w (record w { line = true; plain = false })
adds-line w = adds-mark items.Line w (record w { line = true; plain = false }) refl refl refl (sym (or-true w.line)) (sym (or-false w.tight)) (sym (or-false w.space)) refl (sym (and-false w.plain)) refl

pub adds-in : (w : Writer) (n : ℕ) → n ≡ w.levels + 1 → Adds (mark items.In ∷ []) w (record w { levels = n; plain = false })
adds-in w n e = adds-mark items.In w (record w { levels = n; plain = false }) refl refl e (sym (or-false w.line)) (sym (or-false w.tight)) (sym (or-false w.space)) refl (sym (and-false w.plain)) refl

pub adds-out : (w : Writer) (n : ℕ) → n ≡ w.levels - 1 → Adds (mark items.Out ∷ []) w (record w { levels = n; plain = false })
adds-out w n e = adds-mark items.Out w (record w { levels = n; plain = false }) refl refl e (sym (or-false w.line)) (sym (or-false w.tight)) (sym (or-false w.space)) refl (sym (and-false w.plain)) refl

pub glues_with-first : (c : ℕ) (cs : List ℕ) → glues_with c (slice_get cs 0) ≡ glues_first c cs
glues_with-first c [] = refl
glues_with-first c (d ∷ cs) = refl

alike : (line tight space : Bool) (levels : ℕ) (glued : Bool) {line' tight' space' : Bool} {levels' : ℕ} {glued' : Bool}
    → line ≡ line' → tight ≡ tight' → space ≡ space' → levels ≡ levels' → glued ≡ glued'
    → cond {A = List ℕ} line (10 ∷ replicate (2 * levels) 32) (cond {A = List ℕ} (tight && not space) (cond {A = List ℕ} glued (32 ∷ []) []) (32 ∷ []))
    ≡ cond {A = List ℕ} line' (10 ∷ replicate (2 * levels') 32) (cond {A = List ℕ} (tight' && not space') (cond {A = List ℕ} glued' (32 ∷ []) []) (32 ∷ []))
alike line tight space levels glued e f g h k = cc

-- the gap that the writer puts is the one of the row
gap_written : (w : Writer) (before : List Piece) (cs : List ℕ) (l : Option ℕ) → IsWritten w before → gap_in w l (slice_get cs 0) ≡ gap_after l before cs
gap_written w before cs None h = refl
gap_written w before cs (Some c) h = alike w.line w.tight w.space w.levels (glues_with c (slice_get cs 0)) h.line h.tight h.space h.levels (glues_with-first c cs)

pub adds-token : (t : List ℕ) (begins : Option ℕ) (old mid new : Writer) → IsBegun begins old mid → begins ≡ slice_get (chars t) 0
    → string_bytes new.out ≡ string_bytes mid.out ++ t → new.last ≡ Some (last_char 0 (chars t)) → new.levels ≡ mid.levels
    → new.line ≡ false → new.tight ≡ false → new.space ≡ false → new.first ≡ mid.first → new.plain ≡ mid.plain → new.head ≡ mid.head
    → Adds (token t ∷ []) old new
adds-token t begins old mid new begun begin bytes last levels line tight space first plain head = record {
  written = λ before h. record {
    bytes =
        bytes ∙ ap (λ x. x ++ t) (front before h) ∙ append_assoc (laid [] before) (gap before t) t
        ∙ ap (λ x. laid [] before ++ (gap before t ++ x)) (sym (append-nil t)) ∙ sym (laid-append [] before (token t ∷ []));
    last = last ∙ sym (last_in-append None before (token t ∷ []));
    levels = levels ∙ begun.levels ∙ h.levels ∙ sym (open_behind-append 0 before (token t ∷ []));
    line = line ∙ ap (list_any is_line) (sym (marks_behind-append [] before (token t ∷ [])));
    tight = tight ∙ ap (list_any is_tight) (sym (marks_behind-append [] before (token t ∷ [])));
    space = space ∙ ap (list_any is_space) (sym (marks_behind-append [] before (token t ∷ [])));
    plain = plain ∙ begun.plain ∙ h.plain ∙ sym (and-true (plain_in None before)) ∙ sym (plain_in-append None before (token t ∷ []));
    head =
        head ∙ begun.head ∙ ap₂ (λ l x. head_with l begins x) h.last h.head
        ∙ ap (λ b. head_with (last_in None before) b (head_in before)) begin ∙ sym (head_in-token before t);
  };
  first = λ before h.
      first ∙ begun.first ∙ ap (λ n. option_or old.first (Some n)) (ap length (front before h) ∙ length-append (laid [] before) (gap before t));
} where
  front : (before : List Piece) → IsWritten old before → string_bytes mid.out ≡ laid [] before ++ gap before t
  front before h =
      begun.bytes ∙ ap₂ (λ x y. x ++ y) h.bytes
      (ap₂ (λ l b. gap_in old l b) h.last begin ∙ gap_written old before (chars t) (last_in None before) h)

-- the token's bytes are written, and it is ended by its last character
pub token_put : (t : List ℕ) (begins : Option ℕ) (last : ℕ) (old mid pushed new : Writer) → IsBegun begins old mid → begins ≡ slice_get (chars t) 0
    → string_bytes pushed.out ≡ string_bytes mid.out ++ t → pushed.levels ≡ mid.levels → pushed.first ≡ mid.first → pushed.plain ≡ mid.plain → pushed.head ≡ mid.head
    → last ≡ last_char 0 (chars t) → new ≡ ended_by last pushed → Adds (token t ∷ []) old new
token_put t begins last old mid pushed new begun begin bytes levels first plain head l e =
    adds-token t begins old mid new begun begin (ap (λ (x : Writer). string_bytes x.out) e ∙ bytes) (ap (λ (x : Writer). x.last) e ∙ ap Some l)
    (ap (λ (x : Writer). x.levels) e ∙ levels) (ap (λ (x : Writer). x.line) e) (ap (λ (x : Writer). x.tight) e) (ap (λ (x : Writer). x.space) e)
    (ap (λ (x : Writer). x.first) e ∙ first) (ap (λ (x : Writer). x.plain) e ∙ plain) (ap (λ (x : Writer). x.head) e ∙ head)

-- what stands between two tokens
pub gap-line : (w : Writer) (c : ℕ) (begins : Option ℕ) → w.line ≡ true → gap_behind w c begins ≡ 10 ∷ replicate (2 * w.levels) 32
gap-line w c begins h =
    ap (λ b. cond {A = List ℕ} b (10 ∷ replicate (2 * w.levels) 32) (cond {A = List ℕ} (w.tight && not w.space) (cond {A = List ℕ} (glues_with c begins) (32 ∷ []) []) (32 ∷ []))) h

gap-level : (w : Writer) (c : ℕ) (begins : Option ℕ) → w.line ≡ false
    → gap_behind w c begins ≡ cond {A = List ℕ} (w.tight && not w.space) (cond {A = List ℕ} (glues_with c begins) (32 ∷ []) []) (32 ∷ [])
gap-level w c begins h =
    ap (λ b. cond {A = List ℕ} b (10 ∷ replicate (2 * w.levels) 32) (cond {A = List ℕ} (w.tight && not w.space) (cond {A = List ℕ} (glues_with c begins) (32 ∷ []) []) (32 ∷ []))) h

spaced : (kept glued : Bool) → cond {A = List ℕ} kept (cond {A = List ℕ} glued (32 ∷ []) []) (32 ∷ []) ≡ cond {A = List ℕ} (cond {A = Bool} kept glued true) (32 ∷ []) []
spaced true glued = refl
spaced false glued = refl

pub gap-space : (w : Writer) (c : ℕ) (begins : Option ℕ) → w.line ≡ false → cond {A = Bool} (w.tight && not w.space) (glues_with c begins) true ≡ true → gap_behind w c begins ≡ 32 ∷ []
gap-space w c begins h s =
    gap-level w c begins h ∙ spaced (w.tight && not w.space) (glues_with c begins) ∙ ap (λ b. cond {A = List ℕ} b (32 ∷ []) []) s

pub gap-none : (w : Writer) (c : ℕ) (begins : Option ℕ) → w.line ≡ false → cond {A = Bool} (w.tight && not w.space) (glues_with c begins) true ≡ false → gap_behind w c begins ≡ []
gap-none w c begins h s =
    gap-level w c begins h ∙ spaced (w.tight && not w.space) (glues_with c begins) ∙ ap (λ b. cond {A = List ℕ} b (32 ∷ []) []) s

-- an item that is no mark changes nothing, and is a mark nobody reads
pub adds-other : (i : Item) (w : Writer) → (i ≡ items.Tight → ⊥) → (i ≡ items.Space → ⊥) → (i ≡ items.Line → ⊥) → (i ≡ items.In → ⊥) → (i ≡ items.Out → ⊥)
    → Adds (mark i ∷ []) w w
adds-other items.Tight w a b c d e = absurd (a refl)
adds-other items.Space w a b c d e = absurd (b refl)
adds-other items.Line w a b c d e = absurd (c refl)
adds-other items.In w a b c d e = absurd (d refl)
adds-other items.Out w a b c d e = absurd (e refl)
adds-other (items.Word x) w a b c d e = unread (items.Word x) w refl refl refl refl refl
adds-other (items.Slot k) w a b c d e = unread (items.Slot k) w refl refl refl refl refl
adds-other (items.Refers s) w a b c d e = unread (items.Refers s) w refl refl refl refl refl
adds-other (items.Declares s) w a b c d e = unread (items.Declares s) w refl refl refl refl refl
adds-other items.Number w a b c d e = unread items.Number w refl refl refl refl refl
adds-other items.Text w a b c d e = unread items.Text w refl refl refl refl refl

-- ---- characters that run together

pub glues_tells : (r : Bool) (a b : ℕ) → (IsTrue r ↔ Glue a b) → r ≡ glues a b
glues_tells r a b h = both_ways r (glues a b) (λ e. there (h.0 e)) (λ e. h.1 (back e)) where
  there : Glue a b → glues a b ≡ true
  there (inl (p, q)) = ap₂ (λ x y. (x && y) || (is_symbol a && is_symbol b)) p q
  there (inr (p, q)) = ap₂ (λ x y. (goes_on_word a && goes_on_word b) || (x && y)) p q ∙ sym (sym (or-true (goes_on_word a && goes_on_word b)))

  back : glues a b ≡ true → Glue a b
  back e = elim (or_cases (goes_on_word a && goes_on_word b) (is_symbol a && is_symbol b) e) [
    | inl f ↦ inl (first_so (goes_on_word a) (goes_on_word b) f, second_so (goes_on_word a) (goes_on_word b) f)
    | inr f ↦ inr (first_so (is_symbol a) (is_symbol b) f, second_so (is_symbol a) (is_symbol b) f)
  ]

-- ---- indentation

-- one more level
pub indent_more : (start before after : List ℕ) (n : ℕ) → before ≡ start ++ replicate (2 * n) 32 → after ≡ before ++ 32 ∷ 32 ∷ [] → after ≡ start ++ replicate (2 * (n + 1)) 32
indent_more start before after n b a =
    a ∙ ap (λ x. x ++ 32 ∷ 32 ∷ []) b ∙ append_assoc start (replicate (2 * n) 32) (32 ∷ 32 ∷ [])
    ∙ ap (λ x. start ++ x) (replicate-append-replicate (2 * n) 2 32 ∙ ap (λ k. replicate k 32) (let e : 2 * n + 2 ≡ 2 * (n + 1) = omega arith in e))
