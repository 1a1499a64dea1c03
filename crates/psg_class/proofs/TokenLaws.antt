-- The first thing that fails and its first token, from a table of numbers.
use Rattle.std.proofs.Common.{◌≡◌, ℕ, ◌+◌, ◌<◌, Bool, true, false, List, length, Some, None, ◌∙◌}
use Rattle.psg_terms.specs.Names.{Name}
use Rattle.psg_grammar.specs.declared.types.Definition.{Definition}
use Rattle.psg_class.specs.Terminals.{Terminal}
use Rattle.psg_class.specs.Class.{NeverAny}
use Rattle.psg_class.specs.Refusal.{IsFirstToken, FailsSome, is_before}
use Rattle.psg_class.specs.Numbers.{number_of, number_text}
use Rattle.psg_class.specs.Failing.{HasSome, IsFirstFailing}
use Rattle.psg_class.proofs.NumberLaws.{same_order, same_text}

-- the table says of which terminals it holds
pub record IsTableOf (def : Definition) (words : List Name) (Fails : ℕ → Terminal → Type 0) (height width : ℕ) (set : ℕ → ℕ → Bool) : Type 0 where
  pub sound : (r c : ℕ) → r < height → c < width → set r c ≡ true → (t : Terminal) × (number_of def words t ≡ Some c) × Fails r t
  pub complete : (r : ℕ) (t : Terminal) → Fails r t → (r < height) × ((c : ℕ) × (number_of def words t ≡ Some c) × (c < width) × (set r c ≡ true))

module _ (def : Definition) (words : List Name) (Fails : ℕ → Terminal → Type 0) (height width : ℕ) (set : ℕ → ℕ → Bool) (table : IsTableOf def words Fails height width set) where
  there : (r : ℕ) → r < height → HasSome set width r → FailsSome Fails r
  there r h (c, lt, e) = let (t, n, f) = table.sound r c h lt e in (t, f)

  back : (r : ℕ) → FailsSome Fails r → (r < height) × HasSome set width r
  back r (t, f) = let (h, (c, n, lt, e)) = table.complete r t f in (h, (c, lt, e))

  pub never : IsFirstFailing (length def.phyla + 4) words height width set None → NeverAny Fails
  never none r t f = let (h, some) = back r (t, f) in none r h some

  pub first_token : (r c : ℕ) → IsFirstFailing (length def.phyla + 4) words height width set (Some (r, c)) → IsFirstToken def Fails r (number_text (length def.phyla + 4) words def.phyla c)
  first_token r c (h, (some, before), (lt, e, least)) =
      let (t, n, f) = table.sound r c h lt e in (
        (there r h some, λ m lt' x. before m lt' (back m x).1),
        (t, (f, λ u x. smaller t n u x), same_text def words t c n),
      ) where
        smaller : (t : Terminal) → number_of def words t ≡ Some c → (u : Terminal) → Fails r u → is_before def u t ≡ false
        smaller t n u x = let (h', (m, k, lt', e')) = table.complete r u x in same_order def words u t m c k n ∙ least m lt' e'

  pub first_inside : (r c : ℕ) → IsFirstFailing (length def.phyla + 4) words height width set (Some (r, c)) → r < height
  first_inside r c (h, x, y) = h
