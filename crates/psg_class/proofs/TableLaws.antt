-- The tables of the check say of which terminals a condition fails.
use Rattle.std.proofs.Common.{◌≡◌, inl, inr, ℕ, suc, ◌+◌, ◌<◌, ◌≤◌, Bool, true, false, List, [], ◌∷◌, ◌++◌, length, map, Option, Some, None, slice_get, refl, ap, sym, ◌∙◌, subst, arith}
use Rattle.std.proofs.lemmas.Option.{slice_get_within, same_Some}
use Rattle.std.specs.Prelude.{codes}
use Rattle.psg_terms.specs.Names.{Name}
use Rattle.psg_grammar.specs.declared.types.Phylum.{Phylum}
use Rattle.psg_grammar.specs.declared.types.Definition.{Definition}
use Rattle.psg_class.specs.Terminals.{Terminal, open_bracket, close_bracket}
use Rattle.psg_class.specs.Follow.{Leads, Led}
use Rattle.psg_class.specs.Class.{SameFirst, two_operators, with_bracket, SameLed, two_led}
use Rattle.psg_class.specs.Numbers.{number_of, word_number}
use Rattle.psg_class.specs.Shapes.{shape_of, listed}
use Rattle.psg_class.specs.Grids.{once, twice, AreInside}
use Rattle.psg_class.specs.Failing.{lead_cell, led_cell, cells_from, bracket_cell, bracket_cells, IsFirstFailing}
use Rattle.psg_class.specs.Checks.{IsRead, IsFirstOf}
use Rattle.psg_class.specs.declared.grid.Cell.{Cell}
use Rattle.psg_class.specs.declared.shape.Shape.{Shape}
use Rattle.psg_class.proofs.TwiceLaws.{Gives, once_there, once_back, twice_there, twice_back, twice_append, twice_left, twice_each, opens_there, opens_back, opens_never_twice}
use Rattle.psg_class.proofs.LeadLaws.{leads_there, leads_back, led_there, led_back}
use Rattle.psg_class.proofs.NumberLaws.{same_terminal, number_small}
use Rattle.psg_class.proofs.TokenLaws.{IsTableOf, never, first_token, first_inside}
use Rattle.psg_class.proofs.ReadLaws.{known, phylum_at}

from_zero : (r p : ℕ) → r ≡ 0 + p → r ≡ p
from_zero r p e = omega (arith, e)

zero_more : (r : ℕ) → 0 + r ≡ r
zero_more r = omega arith

-- an answer for a table is one for the condition
pub table_first : (def : Definition) (words : List Name) (Fails : ℕ → Terminal → Type 0) (height width : ℕ) (set : ℕ → ℕ → Bool) → IsTableOf def words Fails height width set
    → (b h w : ℕ) → b ≡ length def.phyla + 4 → h ≡ height → w ≡ width → (o : Option (ℕ × ℕ)) → IsFirstFailing b words h w set o → IsFirstOf def words Fails height o
table_first def words Fails height width set table b h w e f g o first =
    of o (subst (λ z. IsFirstFailing (length def.phyla + 4) words height z set o) g (subst (λ z. IsFirstFailing (length def.phyla + 4) words z w set o) f (subst (λ z. IsFirstFailing z words h w set o) e first))) where
      of : (o : Option (ℕ × ℕ)) → IsFirstFailing (length def.phyla + 4) words height width set o → IsFirstOf def words Fails height o
      of None x = never def words Fails height width set table x
      of (Some (r, c)) x = (first_inside def words Fails height width set table r c x, first_token def words Fails height width set table r c x)

pub wide_of : (b m n w : ℕ) → b ≡ m → w ≡ b + n → w ≡ m + n
wide_of b m n w e f = f ∙ ap (λ z. z + n) e

-- the number of the bracket that opens
pub bracket_number : (def : Definition) (words : List Name) (b n : ℕ) → b ≡ length def.phyla + 4 → Some n ≡ word_number b words (codes "(") → number_of def words open_bracket ≡ Some n
bracket_number def words b n e f = ap (λ z. word_number z words (codes "(")) (sym e) ∙ sym f

pub closing_number : (def : Definition) (words : List Name) (b n : ℕ) → b ≡ length def.phyla + 4 → Some n ≡ word_number b words (codes ")") → number_of def words close_bracket ≡ Some n
closing_number def words b n e f = ap (λ z. word_number z words (codes ")")) (sym e) ∙ sym f

-- ---- cells in range

inside_both : (h w : ℕ) (xs ys : List Cell) → AreInside h w xs → AreInside h w ys → AreInside h w (xs ++ ys)
inside_both h w [] ys x y = y
inside_both h w (z ∷ xs) ys (a, x) y = (a, inside_both h w xs ys x y)

inside_listed : (h w : ℕ) (o : Option Cell) → ((x : Cell) → o ≡ Some x → (x.row < h) × (x.column < w)) → AreInside h w (listed o)
inside_listed h w None f = tt
inside_listed h w (Some x) f = (f x refl, tt)

inside_from : (h w : ℕ) (f : Shape → Option Cell) (shapes : List Shape) → ((n : ℕ) (s : Shape) → slice_get shapes n ≡ Some s → (x : Cell) → f s ≡ Some x → (x.row < h) × (x.column < w)) → AreInside h w (cells_from f shapes)
inside_from h w f [] k = tt
inside_from h w f (s ∷ rest) k = inside_both h w (listed (f s)) (cells_from f rest) (inside_listed h w (f s) (k 0 s refl)) (inside_from h w f rest (λ n t e. k (suc n) t e))

inside_brackets : (h w opening p : ℕ) (phyla : List Phylum) → opening < w → p + length phyla ≤ h → AreInside h w (bracket_cells opening p phyla)
inside_brackets h w opening p [] lt le = tt
inside_brackets h w opening p (k ∷ rest) lt le = inside_both h w (listed (bracket_cell p opening k.bracketed)) (bracket_cells opening (p + 1) rest) (one k.bracketed) (inside_brackets h w opening (p + 1) rest lt (omega (arith, le))) where
  one : (b : Bool) → AreInside h w (listed (bracket_cell p opening b))
  one true = ((omega (arith, le), lt), tt)
  one false = tt

module _ (def : Definition) (words : List Name) (shapes : List Shape) (read : IsRead def words shapes) (width : ℕ) (wide : width ≡ length def.phyla + 4 + length words) where
  small : (t : Terminal) (c : ℕ) → number_of def words t ≡ Some c → c < width
  small t c e = subst (λ w. c < w) (sym wide) (number_small def words t c e)

  abbrev made : List Shape
  made = map (shape_of (length def.phyla + 4) words) def.operators

  there : (n : ℕ) (s : Shape) → slice_get shapes n ≡ Some s → slice_get made n ≡ Some s
  there n s e = subst (λ z. slice_get z n ≡ Some s) read.shapes_are e

  gives_in : (f : Shape → Option Cell) (r c n : ℕ) → Gives f shapes r c n → Gives f made r c n
  gives_in f r c n g = subst (λ z. Gives f z r c n) read.shapes_are g

  gives_out : (f : Shape → Option Cell) (r c n : ℕ) → Gives f made r c n → Gives f shapes r c n
  gives_out f r c n g = subst (λ z. Gives f z r c n) (sym read.shapes_are) g

  lead_inside : (n : ℕ) (s : Shape) → slice_get shapes n ≡ Some s → (x : Cell) → lead_cell s ≡ Some x → (x.row < length def.phyla) × (x.column < width)
  lead_inside n s e x f =
      let (t, num, l) = leads_there def words (known def words shapes read) x.row x.column n (record { shape = s; at = there n s e; gives = f }) in
      (subst (λ p. p < length def.phyla) l.phylum (phylum_at def words shapes read n l.o l.found), small t x.column num)

  led_inside : (n : ℕ) (s : Shape) → slice_get shapes n ≡ Some s → (x : Cell) → led_cell s ≡ Some x → (x.row < length def.phyla) × (x.column < width)
  led_inside n s e x f =
      let (t, num, l) = led_there def words (known def words shapes read) x.row x.column n (record { shape = s; at = there n s e; gives = f }) in
      (subst (λ p. p < length def.phyla) l.phylum (phylum_at def words shapes read n l.o l.found), small t x.column num)

  inside_leads : (opening : ℕ) → number_of def words open_bracket ≡ Some opening → AreInside (length def.phyla) width (cells_from lead_cell shapes ++ bracket_cells opening 0 def.phyla)
  inside_leads opening num = inside_both (length def.phyla) width (cells_from lead_cell shapes) (bracket_cells opening 0 def.phyla) (inside_from (length def.phyla) width lead_cell shapes lead_inside)
      (inside_brackets (length def.phyla) width opening 0 def.phyla (small open_bracket opening num) (omega arith))

  pub inside_leds : AreInside (length def.phyla) width (cells_from led_cell shapes)
  inside_leds = inside_from (length def.phyla) width led_cell shapes led_inside

  pub leads_inside : (opening : ℕ) → number_of def words open_bracket ≡ Some opening → (phyla : List Phylum) → phyla ≡ def.phyla → (cells : List Cell) → cells ≡ cells_from lead_cell shapes ++ bracket_cells opening 0 phyla → AreInside (length phyla) width cells
  leads_inside opening num phyla e cells f = subst (λ p. AreInside (length p) width cells) (sym e)
      (subst (AreInside (length def.phyla) width) (sym (f ∙ ap (λ p. cells_from lead_cell shapes ++ bracket_cells opening 0 p) e)) (inside_leads opening num))

  -- ---- the same first token

  leads_of : (r c n : ℕ) → Gives lead_cell shapes r c n → (t : Terminal) × (number_of def words t ≡ Some c) × Leads def r n t
  leads_of r c n g = leads_there def words (known def words shapes read) r c n (gives_in lead_cell r c n g)

  of_leads : (r n : ℕ) (t : Terminal) → Leads def r n t → (c : ℕ) × (number_of def words t ≡ Some c) × Gives lead_cell shapes r c n
  of_leads r n t l = let (c, num, g) = leads_back def words (known def words shapes read) r n t l in (c, num, gives_out lead_cell r c n g)

  same_first_there : (opening : ℕ) → number_of def words open_bracket ≡ Some opening → (r c : ℕ) → twice r c (cells_from lead_cell shapes ++ bracket_cells opening 0 def.phyla) ≡ true → (t : Terminal) × (number_of def words t ≡ Some c) × SameFirst def r t
  same_first_there opening op r c e = elim (twice_append r c (cells_from lead_cell shapes) (bracket_cells opening 0 def.phyla) e) [
    | inl x ↦ (
        let (n, m, d, g, h) = twice_there lead_cell r c shapes x in
        let (t, num, l) = leads_of r c n g in
        let (u, num', l') = leads_of r c m h in
        (t, num, two_operators n m d l (subst (Leads def r m) (same_terminal def words u t c num' num) l')))
    | inr y ↦ (elim y [
      | inl (x, z) ↦ (
          let (n, g) = once_there lead_cell r c shapes x in
          let (t, num, l) = leads_of r c n g in
          let o = opens_there opening 0 def.phyla r c z in
          let at : slice_get def.phyla r ≡ Some o.phylum = ap (slice_get def.phyla) (from_zero r o.place o.row) ∙ o.at in
          let is : t ≡ open_bracket = same_terminal def words t open_bracket c num (op ∙ ap Some (sym o.column)) in
          (open_bracket, op ∙ ap Some (sym o.column), with_bracket o.phylum at o.bracketed n (subst (Leads def r n) is l)))
      | inr z ↦ absurd (opens_never_twice opening 0 def.phyla r c z)
    ])
  ]

  same_first_back : (opening : ℕ) → number_of def words open_bracket ≡ Some opening → (r : ℕ) (t : Terminal) → SameFirst def r t → (r < length def.phyla) × ((c : ℕ) × (number_of def words t ≡ Some c) × (c < width) × (twice r c (cells_from lead_cell shapes ++ bracket_cells opening 0 def.phyla) ≡ true))
  same_first_back opening op r t (two_operators n m d l k) =
      let (c, num, g) = of_leads r n t l in
      let (c', num', h) = of_leads r m t k in
      let same : c' ≡ c = same_Some c' c (sym num' ∙ num) in (
        subst (λ p. p < length def.phyla) l.phylum (phylum_at def words shapes read n l.o l.found),
        (c, num, small t c num, twice_left r c (cells_from lead_cell shapes) (bracket_cells opening 0 def.phyla) (twice_back lead_cell r c shapes n m d g (subst (λ z. Gives lead_cell shapes r z m) same h))),
      )
  same_first_back opening op r t (with_bracket phylum at b n l) =
      let (c, num, g) = of_leads r n open_bracket l in
      let same : c ≡ opening = same_Some c opening (sym num ∙ op) in (
        slice_get_within def.phyla r phylum at,
        (
          c,
          num,
          small open_bracket c num,
          twice_each r c (cells_from lead_cell shapes) (bracket_cells opening 0 def.phyla) (once_back lead_cell r c shapes n g)
              (subst (λ z. once r z (bracket_cells opening 0 def.phyla) ≡ true) (sym same) (subst (λ z. once z opening (bracket_cells opening 0 def.phyla) ≡ true) (zero_more r) (opens_back opening 0 def.phyla r phylum at b))),
        ),
      )

  pub same_first_table : (opening : ℕ) → number_of def words open_bracket ≡ Some opening → (set : ℕ → ℕ → Bool) → ((r c : ℕ) → c < width → set r c ≡ twice r c (cells_from lead_cell shapes ++ bracket_cells opening 0 def.phyla)) → IsTableOf def words (SameFirst def) (length def.phyla) width set
  same_first_table opening op set exact = record {
    sound = λ r c h lt e. same_first_there opening op r c (sym (exact r c lt) ∙ e);
    complete = λ r t f. let (h, (c, num, lt, e)) = same_first_back opening op r t f in (h, (c, num, lt, exact r c lt ∙ e));
  }

  -- ---- the same second token of led operators

  led_of : (r c n : ℕ) → Gives led_cell shapes r c n → (t : Terminal) × (number_of def words t ≡ Some c) × Led def r n t
  led_of r c n g = led_there def words (known def words shapes read) r c n (gives_in led_cell r c n g)

  of_led : (r n : ℕ) (t : Terminal) → Led def r n t → (c : ℕ) × (number_of def words t ≡ Some c) × Gives led_cell shapes r c n
  of_led r n t l = let (c, num, g) = led_back def words (known def words shapes read) r n t l in (c, num, gives_out led_cell r c n g)

  same_led_there : (r c : ℕ) → twice r c (cells_from led_cell shapes) ≡ true → (t : Terminal) × (number_of def words t ≡ Some c) × SameLed def r t
  same_led_there r c x =
      let (n, m, d, g, h) = twice_there led_cell r c shapes x in
      let (t, num, l) = led_of r c n g in
      let (u, num', l') = led_of r c m h in
      (t, num, two_led n m d l (subst (Led def r m) (same_terminal def words u t c num' num) l'))

  same_led_back : (r : ℕ) (t : Terminal) → SameLed def r t → (r < length def.phyla) × ((c : ℕ) × (number_of def words t ≡ Some c) × (c < width) × (twice r c (cells_from led_cell shapes) ≡ true))
  same_led_back r t (two_led n m d l k) =
      let (c, num, g) = of_led r n t l in
      let (c', num', h) = of_led r m t k in
      let same : c' ≡ c = same_Some c' c (sym num' ∙ num) in (
        subst (λ p. p < length def.phyla) l.phylum (phylum_at def words shapes read n l.o l.found),
        (c, num, small t c num, twice_back led_cell r c shapes n m d g (subst (λ z. Gives led_cell shapes r z m) same h)),
      )

  pub same_led_table : (set : ℕ → ℕ → Bool) → ((r c : ℕ) → c < width → set r c ≡ twice r c (cells_from led_cell shapes)) → IsTableOf def words (SameLed def) (length def.phyla) width set
  same_led_table set exact = record {
    sound = λ r c h lt e. same_led_there r c (sym (exact r c lt) ∙ e);
    complete = λ r t f. let (h, (c, num, lt, e)) = same_led_back r t f in (h, (c, num, lt, exact r c lt ∙ e));
  }
