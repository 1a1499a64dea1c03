-- The lines of a text, read byte by byte, and the lines of an input in memory.
use Rattle.std.proofs.Common.{◌≡◌, ℕ, ◌==◌, ◌+◌, ◌<◌, ◌≤◌, zero, suc, min, false, cond, List, [], ◌∷◌, ◌++◌, length, take, Option, Some, None, Vec, refl, sym, ◌∙◌, ap, subst, arith}
use Rattle.std.specs.Io.KnownBytes.{Consumes}
use Rattle.std.specs.declared.alloc.Global.{Global}
use Rattle.std.proofs.lemmas.List.{take_all, length-take}
use Rattle.psg_world.specs.Files.{front_of}
use Rattle.psg_world.specs.Inputs.{GivesByte, GivesNext, lines_of, told_lines, under}

-- the bytes in front of the first line
abbrev pub under_all : List ℕ → List (List ℕ) → List (List ℕ)
under_all [] lines = lines
under_all (b ∷ bs) lines = under b (under_all bs lines)

-- the front of a line was read: the bytes `done`, which have no line feed
abbrev pub LineSoFar : ℕ → Option (List ℕ) → Option (List ℕ) → List ℕ → Type 0
LineSoFar limit None now line = Unit {0}
LineSoFar limit (Some all) None line = ⊥
LineSoFar limit (Some all) (Some rest) line =
    (done : List ℕ) × (lines_of all ≡ under_all done (lines_of rest)) × (line ≡ front_of limit done)

take_none : (n : ℕ) → take {A = ℕ} n [] ≡ []
take_none zero = refl
take_none (suc n) = refl

pub begun : (limit : ℕ) (known : Option (List ℕ)) → LineSoFar limit known known []
begun limit None = tt
begun limit (Some all) = ([], refl, sym (take_none (limit + 1)))

under_more : (done : List ℕ) (b : ℕ) (lines : List (List ℕ)) → under_all (done ++ b ∷ []) lines ≡ under_all done (under b lines)
under_more [] b lines = refl
under_more (d ∷ done) b lines = ap (under d) (under_more done b lines)

under_line : (done : List ℕ) (lines : List (List ℕ)) → under_all done ([] ∷ lines) ≡ done ∷ lines
under_line [] lines = refl
under_line (d ∷ done) lines = ap (under d) (under_line done lines)

under_end : (d : ℕ) (done : List ℕ) → under_all (d ∷ done) [] ≡ (d ∷ done) ∷ []
under_end d [] = refl
under_end d (e ∷ done) = ap (under d) (under_end e done)

-- a line of which nothing is kept has nothing
no_front : (limit : ℕ) (d : ℕ) (done : List ℕ) → front_of limit (d ∷ done) ≡ [] → ⊥
no_front limit d done e =
    let one : limit + 1 ≡ suc limit = omega arith in
    let none : take (suc limit) (d ∷ done) ≡ [] = subst (λ n. take n (d ∷ done) ≡ []) one e in
    cc

-- at the end of the bytes
pub at_end : (limit : ℕ) (known before now : Option (List ℕ)) (line : List ℕ) → LineSoFar limit known before line
    → GivesByte before now None → line ≡ [] → GivesNext limit (told_lines known) (told_lines now) None
at_end limit None before now line so gives none = tt
at_end limit (Some all) None now line so gives none = absurd so
at_end limit (Some all) (Some rest) None line so gives none = absurd gives.0
at_end limit (Some all) (Some rest) (Some left) line (done, is, kept) (read, end) none = by done is (sym kept ∙ none) where
  by : (done : List ℕ) → lines_of all ≡ under_all done (lines_of rest) → front_of limit done ≡ [] → GivesNext limit (Some (lines_of all)) (Some (lines_of left)) None
  by [] is empty =
      let nothing : lines_of all ≡ [] = is ∙ ap lines_of (read ∙ end) in
      subst (λ l. GivesNext limit (Some l) (Some (lines_of left)) None) (sym nothing) (ap (λ l. Some (lines_of l)) end)
  by (d ∷ ds) is empty = absurd (no_front limit d ds empty)

pub ended : (limit : ℕ) (known before now : Option (List ℕ)) (line : Vec ℕ Global) → LineSoFar limit known before line.items
    → GivesByte before now None → (line.items ≡ [] → ⊥) → GivesNext limit (told_lines known) (told_lines now) (Some line)
ended limit None before now line so gives some = tt
ended limit (Some all) None now line so gives some = absurd so
ended limit (Some all) (Some rest) None line so gives some = absurd gives.0
ended limit (Some all) (Some rest) (Some left) line (done, is, kept) (read, end) some = by done is kept where
  by : (done : List ℕ) → lines_of all ≡ under_all done (lines_of rest) → line.items ≡ front_of limit done → GivesNext limit (Some (lines_of all)) (Some (lines_of left)) (Some line)
  by [] is kept' = absurd (some (kept' ∙ take_none (limit + 1)))
  by (d ∷ ds) is kept' =
      let one : lines_of all ≡ (d ∷ ds) ∷ [] = is ∙ ap (λ l. under_all (d ∷ ds) (lines_of l)) (read ∙ end) ∙ under_end d ds in
      subst (λ l. GivesNext limit (Some l) (Some (lines_of left)) (Some line)) (sym one) (kept', ap (λ l. Some (lines_of l)) end)

-- at a line feed
pub at_feed : (limit : ℕ) (known before now : Option (List ℕ)) (line : Vec ℕ Global) (byte : ℕ) → LineSoFar limit known before line.items
    → Consumes before now (byte ∷ []) → byte ≡ 10 → GivesNext limit (told_lines known) (told_lines now) (Some line)
at_feed limit None before now line byte so read feed = tt
at_feed limit (Some all) None now line byte so read feed = absurd so
at_feed limit (Some all) (Some rest) None line byte so read feed = absurd read
at_feed limit (Some all) (Some rest) (Some left) line byte (done, is, kept) read feed =
    let bytes : rest ≡ 10 ∷ left = read ∙ ap (λ b. b ∷ left) feed in
    let after : lines_of rest ≡ [] ∷ lines_of left = ap lines_of bytes in
    let one : lines_of all ≡ done ∷ lines_of left = is ∙ ap (under_all done) after ∙ under_line done (lines_of left) in
    subst (λ l. GivesNext limit (Some l) (Some (lines_of left)) (Some line)) (sym one) (kept, refl)

take_more : (n : ℕ) (done : List ℕ) (b : ℕ) → length done < n → take n (done ++ b ∷ []) ≡ take n done ++ b ∷ []
take_more zero done b less = absurd (omega (arith, less))
take_more (suc n) [] b less = ap (λ l. b ∷ l) (take_none n)
take_more (suc n) (d ∷ done) b less = ap (λ l. d ∷ l) (take_more n done b (omega (arith, less)))

take_full : (n : ℕ) (done : List ℕ) (b : ℕ) → n ≤ length done → take n (done ++ b ∷ []) ≡ take n done
take_full zero done b more = refl
take_full (suc n) [] b more = absurd (omega (arith, more))
take_full (suc n) (d ∷ done) b more = ap (λ l. d ∷ l) (take_full n done b (omega (arith, more)))

byte_under : (b : ℕ) (left : List ℕ) → (b == 10) ≡ false → lines_of (b ∷ left) ≡ under b (lines_of left)
byte_under b left other = ap (λ t. cond t ([] ∷ lines_of left) (under b (lines_of left))) other

-- one more byte, which is kept
pub one_byte : (limit : ℕ) (known before now : Option (List ℕ)) (line : List ℕ) (b : ℕ) → LineSoFar limit known before line
    → Consumes before now (b ∷ []) → (b == 10) ≡ false → length line ≤ limit → LineSoFar limit known now (line ++ b ∷ [])
one_byte limit None before now line b so read other less = tt
one_byte limit (Some all) None now line b so read other less = absurd so
one_byte limit (Some all) (Some rest) None line b so read other less = absurd read
one_byte limit (Some all) (Some rest) (Some left) line b (done, is, kept) read other less =
    let size : length (take (limit + 1) done) ≡ min (limit + 1) (length done) = length-take (limit + 1) done in
    let short : length done ≤ limit = (let same : length line ≡ length (take (limit + 1) done) = ap (λ (l : List ℕ). length l) kept in omega (arith, same, size, less)) in (
      done ++ b ∷ [],
      is ∙ ap (λ l. under_all done (lines_of l)) read ∙ ap (under_all done) (byte_under b left other) ∙ sym (under_more done b (lines_of left)),
      ap (λ l. l ++ b ∷ []) kept ∙ sym (take_more (limit + 1) done b (omega (arith, short))),
    )

-- one more byte of a line that is too long
pub dropped_byte : (limit : ℕ) (known before now : Option (List ℕ)) (line : List ℕ) (b : ℕ) → LineSoFar limit known before line
    → Consumes before now (b ∷ []) → (b == 10) ≡ false → limit < length line → LineSoFar limit known now line
dropped_byte limit None before now line b so read other more = tt
dropped_byte limit (Some all) None now line b so read other more = absurd so
dropped_byte limit (Some all) (Some rest) None line b so read other more = absurd read
dropped_byte limit (Some all) (Some rest) (Some left) line b (done, is, kept) read other more =
    let size : length (take (limit + 1) done) ≡ min (limit + 1) (length done) = length-take (limit + 1) done in
    let long : limit < length done = (let same : length line ≡ length (take (limit + 1) done) = ap (λ (l : List ℕ). length l) kept in omega (arith, same, size, more)) in (
      done ++ b ∷ [],
      is ∙ ap (λ l. under_all done (lines_of l)) read ∙ ap (under_all done) (byte_under b left other) ∙ sym (under_more done b (lines_of left)),
      kept ∙ sym (take_full (limit + 1) done b (omega (arith, long))),
    )

-- one more byte, where the line with it is another name
pub kept_byte : (limit : ℕ) (known before now : Option (List ℕ)) (line line' : List ℕ) (b : ℕ) → LineSoFar limit known before line
    → GivesByte before now (Some b) → (b == 10) ≡ false → length line ≤ limit → line' ≡ line ++ b ∷ [] → LineSoFar limit known now line'
kept_byte limit known before now line line' b so read other less is =
    subst (LineSoFar limit known now) (sym is) (one_byte limit known before now line b so read other less)
