-- Characters with their styles, and the walk of a window over a line of them.
use Rattle.std.proofs.Common.{◌≡◌, ℕ, suc, ◌+◌, ◌-◌, ◌^◌, ◌≤◌, min, Bool, List, [], ◌∷◌, ◌++◌, length, refl, sym, ap, ◌∙◌, arith, append_assoc, append-nil, replicate}
use Rattle.std.proofs.lemmas.List.{replicate_more}
use Rattle.std.proofs.lemmas.List.Sums.{sum_by-append, sum_by-cons}
use Rattle.psg_canvas.specs.declared.style.Style.{Style}
use Rattle.psg_screen.specs.declared.View.{View}
use Rattle.psg_screen.specs.Window.{width_of, column_after, is_written, ends_written, shown_for}
use Rattle.psg_screen.proofs.WindowLaws.{is_written-capped, shown_for-capped}
use Rattle.psg_picture.specs.declared.row.Styled.{Styled}
use Rattle.psg_picture.specs.Rows.{column_within, in_style, shown, styled}

-- ---- one style

pub in_style-append : (style : Style) (xs ys : List ℕ) → in_style style (xs ++ ys) ≡ in_style style xs ++ in_style style ys
in_style-append style [] ys = refl
in_style-append style (x ∷ xs) ys = ap (λ r. styled x style ∷ r) (in_style-append style xs ys)

pub push-step : (start before after : List Styled) (style : Style) (cs : List ℕ) (c : ℕ)
    → before ≡ start ++ in_style style cs → after ≡ before ++ styled c style ∷ []
    → after ≡ start ++ in_style style (cs ++ c ∷ [])
push-step start before after style cs c held pushed =
    pushed ∙ ap (λ r. r ++ styled c style ∷ []) held
    ∙ append_assoc start (in_style style cs) (styled c style ∷ [])
    ∙ ap (λ r. start ++ r) (sym (in_style-append style cs (c ∷ [])))

pub same-step : (start before after : List Styled) (style : Style) (n c : ℕ)
    → before ≡ start ++ in_style style (replicate n c) → after ≡ before ++ styled c style ∷ []
    → after ≡ start ++ in_style style (replicate (n + 1) c)
same-step start before after style n c held pushed =
    push-step start before after style (replicate n c) c held pushed
    ∙ ap (λ cs. start ++ in_style style cs) (replicate_more n c)

-- the next character of a row that is pushed from left to right
pub chars-step : (before after whole : List Styled) (style : Style) (c : ℕ) (cs : List ℕ)
    → before ++ in_style style (c ∷ cs) ≡ whole → after ≡ before ++ styled c style ∷ [] → after ++ in_style style cs ≡ whole
chars-step before after whole style c cs held pushed =
    ap (λ r. r ++ in_style style cs) pushed ∙ append_assoc before (styled c style ∷ []) (in_style style cs) ∙ held

-- ---- the walk of a window over a line

-- the characters of a line behind others, the nearest first
abbrev pub behind : List Styled → List ℕ → List ℕ
behind [] before = before
behind (c ∷ line) before = behind line (c.c ∷ before)

pub behind-push : (line : List Styled) (before : List ℕ) (c : Styled) → behind (line ++ c ∷ []) before ≡ c.c ∷ behind line before
behind-push [] before c = refl
behind-push (x ∷ line) before c = behind-push line (x.c ∷ before) c

pub shown-push : (view : View) (before : List ℕ) (line : List Styled) (c : Styled)
    → shown view before (line ++ c ∷ [])
    ≡ shown view before line
    ++ in_style c.style (shown_for view (column_after (behind line before)) c.c (ends_written view (behind line before)))
shown-push view before [] c =
    append-nil (in_style c.style (shown_for view (column_after before) c.c (ends_written view before)))
shown-push view before (x ∷ line) c =
    ap (λ r. in_style x.style (shown_for view (column_after before) x.c (ends_written view before)) ++ r) (shown-push view (x.c ∷ before) line c)
    ∙ sym (append_assoc (in_style x.style (shown_for view (column_after before) x.c (ends_written view before))) (shown view (x.c ∷ before) line)
    (in_style c.style (shown_for view (column_after (behind line (x.c ∷ before))) c.c (ends_written view (behind line (x.c ∷ before))))))

-- what the walk over a line has behind these characters of it
pub record IsWalked (view : View) (line row : List Styled) (column : ℕ) (written : Bool) : Type 0 where
  pub text : row ≡ shown view [] line
  pub start : column ≡ min (column_after (behind line [])) (view.left + view.cols)
  pub last : written ≡ ends_written view (behind line [])

pub IsWalked-step : (view : View) (line row : List Styled) (column : ℕ) (written : Bool) (c : Styled)
    → IsWalked view line row column written
    → (more : List Styled) (next : ℕ) (now : Bool)
    → more ≡ row ++ in_style c.style (shown_for view column c.c written)
    → next ≡ min (column + width_of c.c) (view.left + view.cols)
    → now ≡ is_written view column (width_of c.c) written
    → IsWalked view (line ++ c ∷ []) more next now
IsWalked-step view line row column written c walked more next now text start last =
    let before : List ℕ = behind line [] in
    let capped : ℕ = min (column_after before) (view.left + view.cols) in
    let same_text : shown_for view column c.c written ≡ shown_for view (column_after before) c.c (ends_written view before) =
    ap (λ n. shown_for view n c.c written) walked.start ∙ ap (λ b. shown_for view capped c.c b) walked.last
    ∙ shown_for-capped view (column_after before) c.c (ends_written view before) in
    let same_last : is_written view column (width_of c.c) written ≡ is_written view (column_after before) (width_of c.c) (ends_written view before) =
    ap (λ n. is_written view n (width_of c.c) written) walked.start ∙ ap (λ b. is_written view capped (width_of c.c) b) walked.last
    ∙ is_written-capped view (column_after before) (width_of c.c) (ends_written view before) in
    let pushed : behind (line ++ c ∷ []) [] ≡ c.c ∷ before = behind-push line [] c in
    let column_now : column_after (behind (line ++ c ∷ []) []) ≡ width_of c.c + column_after before =
    ap column_after pushed ∙ sum_by-cons width_of c.c before in
    record {
      text =
          text ∙ ap (λ r. r ++ in_style c.style (shown_for view column c.c written)) walked.text
          ∙ ap (λ cs. shown view [] line ++ in_style c.style cs) same_text ∙ sym (shown-push view [] line c);
      start = rw column_now (omega (arith, walked.start, start));
      last = last ∙ same_last ∙ sym (ap (ends_written view) pushed);
    }

-- ---- columns

pub within-next : (column next : ℕ) (c : ℕ) (cs whole : List ℕ) → next ≡ min (column + width_of c) (2 ^ 32 - 1)
    → min (column + column_after (c ∷ cs)) (2 ^ 32 - 1) ≡ column_within whole
    → min (next + column_after cs) (2 ^ 32 - 1) ≡ column_within whole
within-next column next c cs whole now held =
    let e : column_after (c ∷ cs) ≡ width_of c + column_after cs = sum_by-cons width_of c cs in omega (arith, e, now, held)

pub within-end : (column : ℕ) (cs whole : List ℕ) → length cs ≡ 0 → column ≤ 2 ^ 32 - 1
    → min (column + column_after cs) (2 ^ 32 - 1) ≡ column_within whole → column ≡ column_within whole
within-end column [] whole none low held = let z : column_after [] ≡ 0 = refl in omega (arith, z, low, held)
within-end column (c ∷ cs) whole none low held = absurd (let f : suc (length cs) ≡ 0 = none in omega (arith, f))

pub within-push : (column next : ℕ) (c : ℕ) (cs : List ℕ) → column ≡ column_within cs → next ≡ min (column + width_of c) (2 ^ 32 - 1)
    → next ≡ column_within (cs ++ c ∷ [])
within-push column next c cs held now =
    let e : column_after (cs ++ c ∷ []) ≡ column_after cs + column_after (c ∷ []) = sum_by-append width_of cs (c ∷ []) in
    let f : column_after (c ∷ []) ≡ width_of c + column_after [] = sum_by-cons width_of c [] in
    let z : column_after [] ≡ 0 = refl in
    omega (arith, e, f, z, held, now)
