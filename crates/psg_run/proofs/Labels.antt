-- Lines that are written with a label before each.
use Rattle.std.proofs.Common.{◌≡◌, ℕ, ◌+◌, List, [], ◌∷◌, ◌++◌, take, drop, Some, None, refl, sym, ◌∙◌, ap}
use Rattle.std.proofs.Common.{append_assoc, append-nil}
use Rattle.std.specs.List.{position}
use Rattle.psg_session.specs.Printing.{lines_in}
use Rattle.psg_session.specs.Replies.{feed, feed_all}
use Rattle.psg_run.specs.Scripts.{is_feed}
use Rattle.psg_run.specs.Windowed.{labelled}
use Rattle.psg_run.proofs.Feeds.{cut_none, cut_some}

-- the label, the line and a line feed were written
pub pushed_line : (text label line : List ℕ)
    → ((text ++ label) ++ line) ++ 10 ∷ [] ≡ text ++ labelled label (line ∷ [])
pushed_line text label line =
    ap (λ x. x ++ 10 ∷ []) (append_assoc text label line) ∙ append_assoc text (label ++ line) (10 ∷ [])
    ∙ ap (λ x. text ++ x) (sym (append-nil (feed (label ++ line))))

-- the label and a text of one line were written
pub pushed_one : (text label one line : List ℕ) → one ≡ feed_all (line ∷ [])
    → (text ++ label) ++ one ≡ text ++ labelled label (line ∷ [])
pushed_one text label one line is =
    ap (λ x. (text ++ label) ++ x) (is ∙ append-nil (feed line)) ∙ sym (append_assoc (text ++ label) line (10 ∷ []))
    ∙ pushed_line text label line

two_lists : (label : List ℕ) (xs ys : List (List ℕ))
    → labelled label (xs ++ ys) ≡ labelled label xs ++ labelled label ys
two_lists label [] ys = refl
two_lists label (x ∷ xs) ys =
    ap (λ t. feed (label ++ x) ++ t) (two_lists label xs ys)
    ∙ sym (append_assoc (feed (label ++ x)) (labelled label xs) (labelled label ys))

-- lines were written, and then others
pub next_pushed : (label text mid new : List ℕ) (xs ys : List (List ℕ)) → mid ≡ text ++ labelled label xs
    → new ≡ mid ++ labelled label ys → new ≡ text ++ labelled label (xs ++ ys)
next_pushed label text mid new xs ys first later =
    later ∙ ap (λ t. t ++ labelled label ys) first
    ∙ append_assoc text (labelled label xs) (labelled label ys)
    ∙ ap (λ t. text ++ t) (sym (two_lists label xs ys))

-- one of the lines was written
pub line_pushed : (label text new line : List ℕ) (rest : List (List ℕ)) (whole : List ℕ)
    → new ≡ text ++ labelled label (line ∷ []) → text ++ labelled label (line ∷ rest) ≡ whole
    → new ++ labelled label rest ≡ whole
line_pushed label text new line rest whole pushed all =
    ap (λ t. t ++ labelled label rest) pushed
    ∙ append_assoc text (labelled label (line ∷ [])) (labelled label rest)
    ∙ ap (λ t. text ++ t) (sym (two_lists label (line ∷ []) rest)) ∙ all

-- the first line of the rest was written
pub first_pushed : (label text new rest : List ℕ) (n : ℕ) (whole : List ℕ) → position is_feed rest ≡ Some n
    → new ≡ text ++ labelled label (take n rest ∷ []) → text ++ labelled label (lines_in rest) ≡ whole
    → new ++ labelled label (lines_in (drop (n + 1) rest)) ≡ whole
first_pushed label text new rest n whole at pushed all =
    line_pushed label text new (take n rest) (lines_in (drop (n + 1) rest)) whole pushed
    (ap (λ ls. text ++ labelled label ls) (sym (cut_some rest n at)) ∙ all)

-- the last line of the rest was written
pub last_pushed : (label text new rest whole : List ℕ) → position is_feed rest ≡ None
    → new ≡ text ++ labelled label (rest ∷ []) → text ++ labelled label (lines_in rest) ≡ whole → new ≡ whole
last_pushed label text new rest whole none pushed all =
    pushed ∙ ap (λ ls. text ++ labelled label ls) (sym (cut_none rest none)) ∙ all
