-- Marks and tokens that are put at the end of a row, and the gap after it.
use Rattle.std.proofs.Common.{◌≡◌, ℕ, ◌+◌, ◌*◌, ◌||◌, ◌&&◌, not, Bool, true, false, cond, List, [], ◌∷◌, replicate, Option, Some, None, slice_get, refl, sym, ap, ◌∙◌, arith}
use Rattle.std.specs.Str.{chars}
use Rattle.std.proofs.Math.Bool.{or-false, or-true}
use Rattle.psg_grammar.specs.declared.types.Item.{Item}
use Rattle.psg_grammar.specs.declared.types.Item.TheVariants as items
use Rattle.psg_unparse.specs.Rows.{Piece, token, mark}
use Rattle.psg_unparse.specs.Layout.{is_line, is_tight, is_space, gap, last_in, last_char, open_behind}
use Rattle.psg_unparse.specs.Writing.{glues_with}
use Rattle.psg_unparse.proofs.States.{State, state_of, runs, lead_is, gap_from}
use Rattle.psg_unparse.proofs.Adding.{glues_with-first}
use Rattle.psg_layout.specs.declared.marks.Marks.{Marks}
use Rattle.psg_layout.specs.Sheets.{gap_after_char, gap_bytes, IsMarked, PutsPiece}

pub token_put : (old new : Marks) (t : List ℕ) → new.last ≡ Some (last_char 0 (chars t)) → new.levels ≡ old.levels → new.line ≡ false → new.tight ≡ false
    → new.space ≡ false → PutsPiece (token t) old new
token_put old new t last levels line tight space row h =
    let e = runs row (token t ∷ []) in
    record {
      last = last ∙ sym (ap (λ (s : State). s.last) e);
      levels = levels ∙ h.levels ∙ sym (ap (λ (s : State). s.levels) e);
      line = line ∙ sym (ap (λ (s : State). s.line) e);
      tight = tight ∙ sym (ap (λ (s : State). s.tight) e);
      space = space ∙ sym (ap (λ (s : State). s.space) e);
    }

pub mark_put : (old new : Marks) (i : Item) → new.last ≡ old.last → new.levels ≡ open_behind old.levels (mark i ∷ []) → new.line ≡ (old.line || is_line i)
    → new.tight ≡ (old.tight || is_tight i) → new.space ≡ (old.space || is_space i) → PutsPiece (mark i) old new
mark_put old new i last levels line tight space row h =
    let e = runs row (mark i ∷ []) in
    record {
      last = last ∙ h.last ∙ sym (ap (λ (s : State). s.last) e);
      levels = levels ∙ ap (λ n. open_behind n (mark i ∷ [])) h.levels ∙ sym (ap (λ (s : State). s.levels) e);
      line = line ∙ ap (λ b. b || is_line i) h.line ∙ sym (ap (λ (s : State). s.line) e);
      tight = tight ∙ ap (λ b. b || is_tight i) h.tight ∙ sym (ap (λ (s : State). s.tight) e);
      space = space ∙ ap (λ b. b || is_space i) h.space ∙ sym (ap (λ (s : State). s.space) e);
    }

pub tight_put : (m : Marks) → PutsPiece (mark items.Tight) m (record m { tight = true })
tight_put m = mark_put m (record m { tight = true }) items.Tight refl refl (sym (or-false m.line)) (sym (or-true m.tight)) (sym (or-false m.space))

pub space_put : (m : Marks) → PutsPiece (mark items.Space) m (record m { space = true })
space_put m = mark_put m (record m { space = true }) items.Space refl refl (sym (or-false m.line)) (sym (or-false m.tight)) (sym (or-true m.space))

pub line_put : (m : Marks) → PutsPiece (mark items.Line) m (record m { line = true })
line_put m = mark_put m (record m { line = true }) items.Line refl refl (sym (or-true m.line)) (sym (or-false m.tight)) (sym (or-false m.space))

pub in_put : (m : Marks) (n : ℕ) → n ≡ m.levels + 1 → PutsPiece (mark items.In) m (record m { levels = n })
in_put m n e = mark_put m (record m { levels = n }) items.In refl e (sym (or-false m.line)) (sym (or-false m.tight)) (sym (or-false m.space))

pub out_put : (m : Marks) (n : ℕ) → n ≡ open_behind m.levels (mark items.Out ∷ []) → PutsPiece (mark items.Out) m (record m { levels = n })
out_put m n e = mark_put m (record m { levels = n }) items.Out refl e (sym (or-false m.line)) (sym (or-false m.tight)) (sym (or-false m.space))

unread : (m : Marks) (i : Item) → open_behind m.levels (mark i ∷ []) ≡ m.levels → is_line i ≡ false → is_tight i ≡ false → is_space i ≡ false → PutsPiece (mark i) m m
unread m i levels line tight space =
    mark_put m m i refl (sym levels) (sym (or-false m.line) ∙ ap (λ b. m.line || b) (sym line)) (sym (or-false m.tight) ∙ ap (λ b. m.tight || b) (sym tight))
    (sym (or-false m.space) ∙ ap (λ b. m.space || b) (sym space))

-- any other item
pub other_put : (i : Item) (m : Marks) → (i ≡ items.Tight → ⊥) → (i ≡ items.Space → ⊥) → (i ≡ items.Line → ⊥) → (i ≡ items.In → ⊥) → (i ≡ items.Out → ⊥) → PutsPiece (mark i) m m
other_put (items.Word w) m a b c d e = unread m (items.Word w) refl refl refl refl
other_put (items.Slot k) m a b c d e = unread m (items.Slot k) refl refl refl refl
other_put (items.Refers s) m a b c d e = unread m (items.Refers s) refl refl refl refl
other_put (items.Declares s) m a b c d e = unread m (items.Declares s) refl refl refl refl
other_put items.Number m a b c d e = unread m items.Number refl refl refl refl
other_put items.Text m a b c d e = unread m items.Text refl refl refl refl
other_put items.Tight m a b c d e = absurd (a refl)
other_put items.Space m a b c d e = absurd (b refl)
other_put items.Line m a b c d e = absurd (c refl)
other_put items.In m a b c d e = absurd (d refl)
other_put items.Out m a b c d e = absurd (e refl)

-- ---- gaps

alike : (line tight space : Bool) (levels : ℕ) (glued : Bool) {line' tight' space' : Bool} {levels' : ℕ} {glued' : Bool}
    → line ≡ line' → tight ≡ tight' → space ≡ space' → levels ≡ levels' → glued ≡ glued'
    → cond {A = List ℕ} line (10 ∷ replicate (2 * levels) 32) (cond {A = List ℕ} (tight && not space) (cond {A = List ℕ} glued (32 ∷ []) []) (32 ∷ []))
    ≡ cond {A = List ℕ} line' (10 ∷ replicate (2 * levels') 32) (cond {A = List ℕ} (tight' && not space') (cond {A = List ℕ} glued' (32 ∷ []) []) (32 ∷ []))
alike line tight space levels glued e f g h k = cc

gap_is : (row : List Piece) (t : List ℕ) (last : Option ℕ) → last_in None row ≡ last → gap row t ≡ gap_from (state_of row) last (chars t)
gap_is row t last e = lead_is row (token t ∷ []) ∙ ap (λ l. gap_from (state_of row) l (chars t)) e

pub gap_none : (m : Marks) (row : List Piece) (t : List ℕ) → m.last ≡ None → IsMarked m row → gap_bytes (record { feed = false; spaces = 0 }) ≡ gap row t
gap_none m row t e h = sym (gap_is row t None (sym h.last ∙ e))

pub gap_some : (m : Marks) (row : List Piece) (t : List ℕ) (c : ℕ) (begins : Option ℕ) → m.last ≡ Some c → IsMarked m row → begins ≡ slice_get (chars t) 0
    → gap_after_char m c begins ≡ gap row t
gap_some m row t c begins e h b =
    alike m.line m.tight m.space m.levels (glues_with c begins) h.line h.tight h.space h.levels (ap (glues_with c) b ∙ glues_with-first c (chars t))
    ∙ sym (gap_is row t (Some c) (sym h.last ∙ e))

pub gap_line : (m : Marks) (c n : ℕ) (begins : Option ℕ) → m.line ≡ true → n ≡ m.levels + m.levels → gap_bytes (record { feed = true; spaces = n }) ≡ gap_after_char m c begins
gap_line m c n begins e s =
    let two : n ≡ 2 * m.levels = omega (arith, s) in
    ap (λ k. 10 ∷ replicate k 32) two
    ∙ sym (ap (λ b. cond {A = List ℕ} b (10 ∷ replicate (2 * m.levels) 32) (cond {A = List ℕ} (m.tight && not m.space) (cond {A = List ℕ} (glues_with c begins) (32 ∷ []) []) (32 ∷ []))) e)

-- on one line there is a space or none
spaced : (tight glued : Bool) → cond {A = List ℕ} (cond {A = Bool} tight glued true) (32 ∷ []) [] ≡ cond {A = List ℕ} tight (cond {A = List ℕ} glued (32 ∷ []) []) (32 ∷ [])
spaced true glued = refl
spaced false glued = refl

pub gap_one_line : (m : Marks) (c : ℕ) (begins : Option ℕ) (needs : Bool) → m.line ≡ false → needs ≡ cond (m.tight && not m.space) (glues_with c begins) true
    → cond {A = List ℕ} needs (32 ∷ []) [] ≡ gap_after_char m c begins
gap_one_line m c begins needs e n =
    ap (λ b. cond {A = List ℕ} b (32 ∷ []) []) n ∙ spaced (m.tight && not m.space) (glues_with c begins)
    ∙ sym (ap (λ b. cond {A = List ℕ} b (10 ∷ replicate (2 * m.levels) 32) (cond {A = List ℕ} (m.tight && not m.space) (cond {A = List ℕ} (glues_with c begins) (32 ∷ []) []) (32 ∷ []))) e)

pub gap_space : (m : Marks) (c : ℕ) (begins : Option ℕ) (needs : Bool) → needs ≡ true → m.line ≡ false → needs ≡ cond (m.tight && not m.space) (glues_with c begins) true
    → gap_bytes (record { feed = false; spaces = 1 }) ≡ gap_after_char m c begins
gap_space m c begins needs t e n = ap (λ b. cond {A = List ℕ} b (32 ∷ []) []) (sym t) ∙ gap_one_line m c begins needs e n

pub gap_nothing : (m : Marks) (c : ℕ) (begins : Option ℕ) (needs : Bool) → needs ≡ false → m.line ≡ false → needs ≡ cond (m.tight && not m.space) (glues_with c begins) true
    → gap_bytes (record { feed = false; spaces = 0 }) ≡ gap_after_char m c begins
gap_nothing m c begins needs t e n = ap (λ b. cond {A = List ℕ} b (32 ∷ []) []) (sym t) ∙ gap_one_line m c begins needs e n
