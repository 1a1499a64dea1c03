-- A line has one command at most, and the text that is typed with it is UTF-8.
use Rattle.std.proofs.Common.{◌≡◌, inl, inr, ℕ, zero, suc, ◌+◌, ◌<◌, List, [], ◌∷◌, ◌++◌, length, get_or, drop, Some}
use Rattle.std.proofs.Common.{IsUtf8, refl, sym, ◌∙◌, ap, subst, append_assoc, arith}
use Rattle.std.specs.List.{AllByRecursion}
use Rattle.std.specs.Prelude.{codes, decimal}
use Rattle.std.proofs.lemmas.Bool.{cases_eq}
use Rattle.std.proofs.lemmas.Str.{IsCharBoundary-after_ascii, IsUtf8-drop, IsUtf8-nil}
use Rattle.psg_script.specs.declared.command.Command.{Command}
use Rattle.psg_script.specs.declared.command.Command.TheVariants.{Over, Range}
use Rattle.psg_script.specs.Forms.{Follow, place_text, spaces, Text, IsInWord, Spells}
use Rattle.psg_script.specs.Keywords.{keyword_of}
use Rattle.psg_script.specs.Words.{IsBehind}
use Rattle.psg_script.proofs.SameLemmas.{form_from_line, form_at, same_form}
use Rattle.psg_session.specs.Formed.{HasText}

-- ---- the command

-- the bytes before the first space, and what is after them
abbrev Parted : Text → Type 0
Parted line = (word : Text) × (after : Text) × (line ≡ word ++ after) × AllByRecursion IsInWord word × IsBehind after

parted : (line : Text) → Parted line
parted [] = ([], [], refl, tt, tt)
parted (b ∷ bs) = elim (cases_eq b 32) as (λ _. Parted (b ∷ bs)) [
  | inl space ↦ ([], b ∷ bs, refl, tt, space)
  | inr other ↦
      let (word, after, is, in_word, is_after) = parted bs in
      (b ∷ word, after, ap (λ t. b ∷ t) is, (other, in_word), is_after)
]

-- two commands that a line spells are equal
pub spelled_once : (line : Text) (c d : Command) → Spells line c → Spells line d → c ≡ d
spelled_once line c d spells other =
    let (word, after, is, in_word, is_after) = parted line in
    let (keyword, form) = form_from_line line word after is in_word is_after c spells in
    same_form (keyword_of c) c d after form (form_at line word after (keyword_of c) is in_word is_after keyword d other)

-- ---- its text

at_seam : (w : Text) (b : ℕ) (x : Text) → get_or (w ++ b ∷ x) (length w) 0 ≡ b
at_seam [] b x = refl
at_seam (c ∷ w) b x = at_seam w b x

past_seam : (w : Text) (b : ℕ) (x : Text) → drop (suc (length w)) (w ++ b ∷ x) ≡ x
past_seam [] b x = refl
past_seam (c ∷ w) b x = past_seam w b x

seam_within : (w : Text) (b : ℕ) (x : Text) → length w < length (w ++ b ∷ x)
seam_within [] b x = omega arith
seam_within (c ∷ w) b x = omega (arith, seam_within w b x)

after_space : (line w text : Text) → IsUtf8 line → line ≡ w ++ 32 ∷ text → IsUtf8 text
after_space line w text utf8 e =
    let is : get_or line (length w) 0 ≡ 32 = ap (λ (l : Text). get_or l (length w) 0) e ∙ at_seam w 32 text in
    let within : length w < length line = subst (λ (l : Text). length w < length l) (sym e) (seam_within w 32 text) in
    let cut = IsUtf8-drop line (length w + 1) utf8
    (IsCharBoundary-after_ascii line (length w) utf8 within (omega (arith, is))) in
    let next : length w + 1 ≡ suc (length w) = omega arith in
    let rest : drop (length w + 1) line ≡ text =
    ap (λ n. drop n line) next ∙ ap (drop (suc (length w))) e ∙ past_seam w 32 text in
    subst IsUtf8 rest cut

space_last : (n : ℕ) (text : Text) → spaces (suc n) ++ text ≡ spaces n ++ 32 ∷ text
space_last zero text = refl
space_last (suc n) text = ap (λ (xs : Text). 32 ∷ xs) (space_last n text)

tail_utf8 : (ws : List Text) (text line front after : Text) → IsUtf8 line → line ≡ front ++ after
    → Follow ws (Some text) after → IsUtf8 text
tail_utf8 [] text line front after utf8 e (zero, is, empty) = subst IsUtf8 (sym (empty refl)) IsUtf8-nil
tail_utf8 [] text line front after utf8 e (suc n, is, empty) =
    after_space line (front ++ spaces n) text utf8
    (e ∙ ap (λ (xs : Text). front ++ xs) (is ∙ space_last n text) ∙ sym (append_assoc front (spaces n) (32 ∷ text)))
tail_utf8 (w ∷ ws) text line front after utf8 e (n, more, is, follow) =
    tail_utf8 ws text line (front ++ (spaces (suc n) ++ w)) more utf8
    (e ∙ ap (λ (xs : Text). front ++ xs) (is ∙ sym (append_assoc (spaces (suc n)) w more))
    ∙ sym (append_assoc front (spaces (suc n) ++ w) more)) follow

-- the text of a command that a line spells is UTF-8
pub has_text : (command : Command) (line : Text) → Spells line command → HasText command
has_text (Over place text) line spells =
    let (after, e, follow) = spells.written in
    tail_utf8 (place_text place ∷ []) text line (codes "over") after spells.utf8 e follow
has_text (Range start end text) line spells =
    let (after, e, follow) = spells.written in
    tail_utf8 (decimal start ∷ decimal end ∷ []) text line (codes "range") after spells.utf8 e follow
has_text _ line spells = tt
