-- The bytes that a pen puts at the end of its text.
use Rattle.std.proofs.Common.{◌≡◌, ℕ, List, [], ◌∷◌, ◌++◌, sym, ap, ◌∙◌, append_assoc, append-nil, Option}
use Rattle.std.specs.Prelude.{encode_utf8_all}
use Rattle.psg_canvas.specs.Cells.{Slot}
use Rattle.psg_canvas.specs.declared.style.Style.{Style}
use Rattle.psg_canvas.specs.Terminal.{Order, Erase, Restyle, Put}
use Rattle.psg_canvas.specs.Orders.{bytes_of_all, style_code}
use Rattle.psg_canvas.specs.Drawing.{moves}
use Rattle.psg_canvas.proofs.WalkLaws.{spelled_more}

pub restyle_bytes : (cols : ℕ) (style : Style) (old one two three : List ℕ) → one ≡ old ++ 27 ∷ 91 ∷ 48 ∷ [] → two ≡ one ++ style_code style
    → three ≡ two ++ 109 ∷ [] → three ≡ old ++ bytes_of_all cols (Restyle style ∷ [])
restyle_bytes cols style old one two three e f g =
    let head : List ℕ = 27 ∷ 91 ∷ 48 ∷ [] in
    let tail : List ℕ = 109 ∷ [] in
    g ∙ ap (λ s. s ++ tail) (f ∙ ap (λ s. s ++ style_code style) e) ∙ append_assoc (old ++ head) (style_code style) tail
    ∙ append_assoc old head (style_code style ++ tail) ∙ ap (λ s. old ++ s) (sym (append-nil (head ++ (style_code style ++ tail))))

pub put_bytes : (cols first_cols place : ℕ) (at : Option ℕ) (cell : Slot) (styles : List Order) (old one two three : List ℕ)
    → first_cols ≡ cols → one ≡ old ++ bytes_of_all cols (moves at place) → two ≡ one ++ bytes_of_all first_cols styles
    → three ≡ two ++ encode_utf8_all cell.text
    → three ≡ old ++ bytes_of_all cols (moves at place ++ styles ++ Put cell.text ∷ [])
put_bytes cols first_cols place at cell styles old one two three same e f g =
    let both : two ≡ old ++ bytes_of_all cols (moves at place ++ styles) =
    spelled_more cols old one two (moves at place) styles e (f ∙ ap (λ n. one ++ bytes_of_all n styles) same) in
    spelled_more cols old two three (moves at place ++ styles) (Put cell.text ∷ []) both
    (g ∙ ap (λ s. two ++ s) (sym (append-nil (encode_utf8_all cell.text))))

pub erase_bytes : (cols : ℕ) (styles : List Order) (old one two : List ℕ) → one ≡ old ++ bytes_of_all cols styles
    → two ≡ one ++ 27 ∷ 91 ∷ 50 ∷ 74 ∷ [] → two ≡ old ++ bytes_of_all cols (styles ++ Erase ∷ [])
erase_bytes cols styles old one two e f = spelled_more cols old one two styles (Erase ∷ []) e f
