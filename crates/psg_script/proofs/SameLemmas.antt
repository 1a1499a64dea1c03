-- A line spells at most one command.
use Rattle.std.proofs.Common.{◌≡◌, ℕ, ◌<◌, ◌^◌, Bool, true, cond, not, List, [], ◌∷◌, ◌++◌, Option, Some, None, length, refl, sym, ap, subst, ◌∙◌, arith}
use Rattle.std.proofs.lemmas.Bool.{true≢false, and_parts}
use Rattle.std.specs.Prelude.{◌&&◌, ◌==◌, codes}
use Rattle.std.specs.List.{AllByRecursion}
use Rattle.std.specs.Str.{bytes_eq, IsUtf8}
use Rattle.psg_script.specs.Forms.{Text, IsInWord, IsNumberIfAny, number_words, tail_of, Follow, IsLineOf, Spells}
use Rattle.psg_script.specs.Keywords.{keyword_of, keyword_text, fields_of}
use Rattle.psg_script.specs.Productions.{IsForm}
use Rattle.psg_script.specs.Words.{IsBehind}
use Rattle.psg_script.specs.declared.command.Command.{Command}
use Rattle.psg_script.specs.declared.command.Command.TheVariants as commands
use Rattle.psg_script.specs.declared.keyword.Keyword.{Keyword}
use Rattle.psg_script.specs.declared.keyword.Keyword.TheVariants as keywords
use Rattle.psg_script.proofs.FormLemmas.{closed_form, open_form, closed_same, open_same, word}
use Rattle.psg_script.proofs.NumberLemmas.{same_decimal}
use Rattle.psg_script.proofs.PartLemmas as parts
use Rattle.psg_script.proofs.PartLemmas.{words_are}
use Rattle.psg_script.proofs.StepLemmas.{same_place}
use Rattle.psg_script.proofs.WordLemmas.{words_apart, behind_follow}

-- Keywords are words, and told apart.

abbrev has_no_space : Text → Bool
has_no_space [] = true
has_no_space (b ∷ bs) = not (b == 32) && has_no_space bs

not_space : (b : ℕ) → not (b == 32) ≡ true → IsInWord b
not_space b h e =
    let p : not (32 == 32) ≡ true = subst (λ x. not (x == 32) ≡ true) e h in
    true≢false (sym p)

in_word_from_test : (w : Text) → has_no_space w ≡ true → AllByRecursion IsInWord w
in_word_from_test [] h = tt
in_word_from_test (b ∷ bs) h =
    let both = and_parts (not (b == 32)) (has_no_space bs) h in
    (not_space b both.0, in_word_from_test bs both.1)

keyword_in_word : (k : Keyword) → AllByRecursion IsInWord (keyword_text k)
keyword_in_word k = in_word_from_test (keyword_text k) (tested k) where
  tested : (j : Keyword) → has_no_space (keyword_text j) ≡ true
  tested keywords.New = refl
  tested keywords.Goto = refl
  tested keywords.Refine = refl
  tested keywords.Insert = refl
  tested keywords.Cut = refl
  tested keywords.Remove = refl
  tested keywords.Close = refl
  tested keywords.Reopen = refl
  tested keywords.Over = refl
  tested keywords.Range = refl
  tested keywords.Show = refl
  tested keywords.Screen = refl
  tested keywords.Relation = refl
  tested keywords.Own = refl
  tested keywords.Menu = refl
  tested keywords.Names = refl
  tested keywords.Free = refl
  tested keywords.Undo = refl
  tested keywords.Redo = refl
  tested keywords.Save = refl
  tested keywords.Paste = refl
  tested keywords.Keep = refl
  tested keywords.Fetch = refl

-- the keyword of a text, if it is one
abbrev keyword_from : Text → Keyword
keyword_from w =
    cond (bytes_eq w (codes "new")) keywords.New (
    cond (bytes_eq w (codes "goto")) keywords.Goto (
    cond (bytes_eq w (codes "refine")) keywords.Refine (
    cond (bytes_eq w (codes "insert")) keywords.Insert (
    cond (bytes_eq w (codes "cut")) keywords.Cut (
    cond (bytes_eq w (codes "remove")) keywords.Remove (
    cond (bytes_eq w (codes "close")) keywords.Close (
    cond (bytes_eq w (codes "reopen")) keywords.Reopen (
    cond (bytes_eq w (codes "over")) keywords.Over (
    cond (bytes_eq w (codes "range")) keywords.Range (
    cond (bytes_eq w (codes "show")) keywords.Show (
    cond (bytes_eq w (codes "screen")) keywords.Screen (
    cond (bytes_eq w (codes "relation")) keywords.Relation (
    cond (bytes_eq w (codes "own")) keywords.Own (
    cond (bytes_eq w (codes "menu")) keywords.Menu (
    cond (bytes_eq w (codes "names")) keywords.Names (
    cond (bytes_eq w (codes "free")) keywords.Free (
    cond (bytes_eq w (codes "undo")) keywords.Undo (
    cond (bytes_eq w (codes "redo")) keywords.Redo (
    cond (bytes_eq w (codes "save")) keywords.Save (
    cond (bytes_eq w (codes "paste")) keywords.Paste (
    cond (bytes_eq w (codes "keep")) keywords.Keep (
    keywords.Fetch))))))))))))))))))))))

keyword_back : (k : Keyword) → keyword_from (keyword_text k) ≡ k
keyword_back keywords.New = refl
keyword_back keywords.Goto = refl
keyword_back keywords.Refine = refl
keyword_back keywords.Insert = refl
keyword_back keywords.Cut = refl
keyword_back keywords.Remove = refl
keyword_back keywords.Close = refl
keyword_back keywords.Reopen = refl
keyword_back keywords.Over = refl
keyword_back keywords.Range = refl
keyword_back keywords.Show = refl
keyword_back keywords.Screen = refl
keyword_back keywords.Relation = refl
keyword_back keywords.Own = refl
keyword_back keywords.Menu = refl
keyword_back keywords.Names = refl
keyword_back keywords.Free = refl
keyword_back keywords.Undo = refl
keyword_back keywords.Redo = refl
keyword_back keywords.Save = refl
keyword_back keywords.Paste = refl
keyword_back keywords.Keep = refl
keyword_back keywords.Fetch = refl

keywords_apart : (k j : Keyword) → keyword_text k ≡ keyword_text j → k ≡ j
keywords_apart k j e = sym (keyword_back k) ∙ (ap keyword_from e ∙ keyword_back j)

-- A line and its first word.

-- what a line that begins with this word spells is what stands behind the word
pub form_from_line : (line w behind : Text) → line ≡ w ++ behind → AllByRecursion IsInWord w → IsBehind behind → (c : Command) → Spells line c → (w ≡ keyword_text (keyword_of c)) × IsForm (keyword_of c) c behind
form_from_line line w behind e hw hb c s =
    let written = subst (λ ws. IsLineOf ws (tail_of c) line) (words_are c) s.written in
    let apart = words_apart w (keyword_text (keyword_of c)) behind written.0 hw (keyword_in_word (keyword_of c)) hb (behind_follow (fields_of c) (tail_of c) written.0 written.2) (sym e ∙ written.1) in
    (apart.0, record { formed = s.formed; keyword = refl; written = subst (λ t. Follow (fields_of c) (tail_of c) t) (sym apart.1) written.2 })

pub line_from_form : (line w behind : Text) (k : Keyword) (c : Command) → IsUtf8 line → line ≡ w ++ behind → w ≡ keyword_text k → IsForm k c behind → Spells line c
line_from_form line w behind k c u e is f =
    let begin : line ≡ keyword_text (keyword_of c) ++ behind = e ∙ ap (λ t. t ++ behind) (is ∙ ap keyword_text (sym f.keyword)) in
    record {
      utf8 = u;
      formed = f.formed;
      written = subst (λ ws. IsLineOf ws (tail_of c) line) (sym (words_are c)) (behind, begin, f.written);
    }

pub form_at : (line w behind : Text) (k : Keyword) → line ≡ w ++ behind → AllByRecursion IsInWord w → IsBehind behind → w ≡ keyword_text k → (c : Command) → Spells line c → IsForm k c behind
form_at line w behind k e hw hb is c s =
    let found = form_from_line line w behind e hw hb c s in
    let same : keyword_of c ≡ k = keywords_apart (keyword_of c) k (sym found.0 ∙ is) in
    subst (λ j. IsForm j c behind) same found.1

-- One command for each form.

closed : (k : Keyword) (c d : Command) (behind : Text) → IsForm k c behind → IsForm k d behind → tail_of c ≡ None → tail_of d ≡ None → fields_of c ≡ fields_of d
closed k c d behind f g e h = closed_same (fields_of c) (fields_of d) behind (closed_form k c behind f e) (closed_form k d behind g h)

same_number_words : (i j : Option ℕ) → IsNumberIfAny i → IsNumberIfAny j → number_words i ≡ number_words j → i ≡ j
same_number_words None None f g e = refl
same_number_words None (Some n) f g e = let p : ◌≡◌ {A = ℕ} 0 1 = ap length e in absurd (let q : ⊥ = omega arith in q)
same_number_words (Some m) None f g e = let p : ◌≡◌ {A = ℕ} 1 0 = ap length e in absurd (let q : ⊥ = omega arith in q)
same_number_words (Some m) (Some n) f g e = ap Some (same_decimal m n f g (ap (λ l. word l 0) e))

-- the same with a name behind the number
same_named : (i j : Option ℕ) (n m : Text) → IsNumberIfAny i → IsNumberIfAny j → number_words i ++ (n ∷ []) ≡ number_words j ++ (m ∷ []) → (i ≡ j) × (n ≡ m)
same_named None None n m f g e = (refl, ap (λ l. word l 0) e)
same_named None (Some b) n m f g e = let p : ◌≡◌ {A = ℕ} 1 2 = ap length e in absurd (let q : ⊥ = omega arith in q)
same_named (Some a) None n m f g e = let p : ◌≡◌ {A = ℕ} 2 1 = ap length e in absurd (let q : ⊥ = omega arith in q)
same_named (Some a) (Some b) n m f g e = (ap Some (same_decimal a b f g (ap (λ l. word l 0) e)), ap (λ l. word l 1) e)

abbrev behind_one : List Text → List Text
behind_one [] = []
behind_one (w ∷ ws) = ws

pub same_form : (k : Keyword) (c d : Command) (behind : Text) → IsForm k c behind → IsForm k d behind → c ≡ d
same_form keywords.New c d behind h g =
    let (phylum, e, f) = parts.parts_new c behind h in
    let (phylum', e', f') = parts.parts_new d behind g in
    let s = closed keywords.New (commands.New phylum) (commands.New phylum') behind f f' refl refl in
    let phylum_is : phylum ≡ phylum' = ap (λ l. word l 0) s in
    e ∙ (ap (λ x. commands.New x) phylum_is ∙ sym e')
same_form keywords.Goto c d behind h g =
    let (place, e, f) = parts.parts_goto c behind h in
    let (place', e', f') = parts.parts_goto d behind g in
    let s = closed keywords.Goto (commands.Goto place) (commands.Goto place') behind f f' refl refl in
    let place_is : place ≡ place' = same_place place place' f.formed f'.formed (ap (λ l. word l 0) s) in
    e ∙ (ap (λ x. commands.Goto x) place_is ∙ sym e')
same_form keywords.Refine c d behind h g =
    let (place, op, args, e, f) = parts.parts_refine c behind h in
    let (place', op', args', e', f') = parts.parts_refine d behind g in
    let s = open_same (fields_of (commands.Refine place op args)) (fields_of (commands.Refine place' op' args')) args args' behind refl (open_form keywords.Refine (commands.Refine place op args) args behind f f.formed.2 refl) (open_form keywords.Refine (commands.Refine place' op' args') args' behind f' f'.formed.2 refl) in
    let place_is : place ≡ place' = same_place place place' f.formed.0 f'.formed.0 (ap (λ l. word l 0) s.0) in
    let op_is : op ≡ op' = ap (λ l. word l 1) s.0 in
    let args_is : args ≡ args' = s.1 in
    e ∙ (ap (λ x. commands.Refine x op args) place_is ∙ (ap (λ x. commands.Refine place' x args) op_is ∙ (ap (λ x. commands.Refine place' op' x) args_is ∙ sym e')))
same_form keywords.Insert c d behind h g =
    let (place, k, op, args, e, f) = parts.parts_insert c behind h in
    let (place', k', op', args', e', f') = parts.parts_insert d behind g in
    let s = open_same (fields_of (commands.Insert place k op args)) (fields_of (commands.Insert place' k' op' args')) args args' behind refl (open_form keywords.Insert (commands.Insert place k op args) args behind f f.formed.3 refl) (open_form keywords.Insert (commands.Insert place' k' op' args') args' behind f' f'.formed.3 refl) in
    let place_is : place ≡ place' = same_place place place' f.formed.0 f'.formed.0 (ap (λ l. word l 0) s.0) in
    let k_is : k ≡ k' = same_decimal k k' f.formed.1 f'.formed.1 (ap (λ l. word l 1) s.0) in
    let op_is : op ≡ op' = ap (λ l. word l 2) s.0 in
    let args_is : args ≡ args' = s.1 in
    e ∙ (ap (λ x. commands.Insert x k op args) place_is ∙ (ap (λ x. commands.Insert place' x op args) k_is ∙ (ap (λ x. commands.Insert place' k' x args) op_is ∙ (ap (λ x. commands.Insert place' k' op' x) args_is ∙ sym e'))))
same_form keywords.Cut c d behind h g =
    let (place, e, f) = parts.parts_cut c behind h in
    let (place', e', f') = parts.parts_cut d behind g in
    let s = closed keywords.Cut (commands.Cut place) (commands.Cut place') behind f f' refl refl in
    let place_is : place ≡ place' = same_place place place' f.formed f'.formed (ap (λ l. word l 0) s) in
    e ∙ (ap (λ x. commands.Cut x) place_is ∙ sym e')
same_form keywords.Remove c d behind h g =
    let (place, k, e, f) = parts.parts_remove c behind h in
    let (place', k', e', f') = parts.parts_remove d behind g in
    let s = closed keywords.Remove (commands.Remove place k) (commands.Remove place' k') behind f f' refl refl in
    let place_is : place ≡ place' = same_place place place' f.formed.0 f'.formed.0 (ap (λ l. word l 0) s) in
    let k_is : k ≡ k' = same_decimal k k' f.formed.1 f'.formed.1 (ap (λ l. word l 1) s) in
    e ∙ (ap (λ x. commands.Remove x k) place_is ∙ (ap (λ x. commands.Remove place' x) k_is ∙ sym e'))
same_form keywords.Close c d behind h g =
    let (place, e, f) = parts.parts_close c behind h in
    let (place', e', f') = parts.parts_close d behind g in
    let s = closed keywords.Close (commands.Close place) (commands.Close place') behind f f' refl refl in
    let place_is : place ≡ place' = same_place place place' f.formed f'.formed (ap (λ l. word l 0) s) in
    e ∙ (ap (λ x. commands.Close x) place_is ∙ sym e')
same_form keywords.Reopen c d behind h g =
    let (place, e, f) = parts.parts_reopen c behind h in
    let (place', e', f') = parts.parts_reopen d behind g in
    let s = closed keywords.Reopen (commands.Reopen place) (commands.Reopen place') behind f f' refl refl in
    let place_is : place ≡ place' = same_place place place' f.formed f'.formed (ap (λ l. word l 0) s) in
    e ∙ (ap (λ x. commands.Reopen x) place_is ∙ sym e')
same_form keywords.Over c d behind h g =
    let (place, text, e, f) = parts.parts_over c behind h in
    let (place', text', e', f') = parts.parts_over d behind g in
    let s = open_same (fields_of (commands.Over place text)) (fields_of (commands.Over place' text')) text text' behind refl (open_form keywords.Over (commands.Over place text) text behind f f.formed.1 refl) (open_form keywords.Over (commands.Over place' text') text' behind f' f'.formed.1 refl) in
    let place_is : place ≡ place' = same_place place place' f.formed.0 f'.formed.0 (ap (λ l. word l 0) s.0) in
    let text_is : text ≡ text' = s.1 in
    e ∙ (ap (λ x. commands.Over x text) place_is ∙ (ap (λ x. commands.Over place' x) text_is ∙ sym e'))
same_form keywords.Range c d behind h g =
    let (start, end, text, e, f) = parts.parts_range c behind h in
    let (start', end', text', e', f') = parts.parts_range d behind g in
    let s = open_same (fields_of (commands.Range start end text)) (fields_of (commands.Range start' end' text')) text text' behind refl (open_form keywords.Range (commands.Range start end text) text behind f f.formed.2 refl) (open_form keywords.Range (commands.Range start' end' text') text' behind f' f'.formed.2 refl) in
    let start_is : start ≡ start' = same_decimal start start' f.formed.0 f'.formed.0 (ap (λ l. word l 0) s.0) in
    let end_is : end ≡ end' = same_decimal end end' f.formed.1 f'.formed.1 (ap (λ l. word l 1) s.0) in
    let text_is : text ≡ text' = s.1 in
    e ∙ (ap (λ x. commands.Range x end text) start_is ∙ (ap (λ x. commands.Range start' x text) end_is ∙ (ap (λ x. commands.Range start' end' x) text_is ∙ sym e')))
same_form keywords.Show c d behind h g = (parts.parts_show c behind h).0 ∙ sym (parts.parts_show d behind g).0
same_form keywords.Screen c d behind h g =
    let (top, left, rows, cols, e, f) = parts.parts_screen c behind h in
    let (top', left', rows', cols', e', f') = parts.parts_screen d behind g in
    let s = closed keywords.Screen (commands.Screen top left rows cols) (commands.Screen top' left' rows' cols') behind f f' refl refl in
    let top_is : top ≡ top' = same_decimal top top' f.formed.0 f'.formed.0 (ap (λ l. word l 0) s) in
    let left_is : left ≡ left' = same_decimal left left' f.formed.1 f'.formed.1 (ap (λ l. word l 1) s) in
    let rows_is : rows ≡ rows' = same_decimal rows rows' (let p : rows < 2 ^ 32 = omega (arith, f.formed.3) in p) (let p : rows' < 2 ^ 32 = omega (arith, f'.formed.3) in p) (ap (λ l. word l 2) s) in
    let cols_is : cols ≡ cols' = same_decimal cols cols' (let p : cols < 2 ^ 32 = omega (arith, f.formed.5) in p) (let p : cols' < 2 ^ 32 = omega (arith, f'.formed.5) in p) (ap (λ l. word l 3) s) in
    e ∙ (ap (λ x. commands.Screen x left rows cols) top_is ∙ (ap (λ x. commands.Screen top' x rows cols) left_is ∙ (ap (λ x. commands.Screen top' left' x cols) rows_is ∙ (ap (λ x. commands.Screen top' left' rows' x) cols_is ∙ sym e'))))
same_form keywords.Relation c d behind h g =
    let (place, e, f) = parts.parts_relation c behind h in
    let (place', e', f') = parts.parts_relation d behind g in
    let s = closed keywords.Relation (commands.Relation place) (commands.Relation place') behind f f' refl refl in
    let place_is : place ≡ place' = same_place place place' f.formed f'.formed (ap (λ l. word l 0) s) in
    e ∙ (ap (λ x. commands.Relation x) place_is ∙ sym e')
same_form keywords.Own c d behind h g =
    let (place, e, f) = parts.parts_own c behind h in
    let (place', e', f') = parts.parts_own d behind g in
    let s = closed keywords.Own (commands.Own place) (commands.Own place') behind f f' refl refl in
    let place_is : place ≡ place' = same_place place place' f.formed f'.formed (ap (λ l. word l 0) s) in
    e ∙ (ap (λ x. commands.Own x) place_is ∙ sym e')
same_form keywords.Menu c d behind h g =
    let (place, k, e, f) = parts.parts_menu c behind h in
    let (place', k', e', f') = parts.parts_menu d behind g in
    let s = closed keywords.Menu (commands.Menu place k) (commands.Menu place' k') behind f f' refl refl in
    let place_is : place ≡ place' = same_place place place' f.formed.0 f'.formed.0 (ap (λ l. word l 0) s) in
    let k_is : k ≡ k' = same_number_words k k' f.formed.1 f'.formed.1 (ap behind_one s) in
    e ∙ (ap (λ x. commands.Menu x k) place_is ∙ (ap (λ x. commands.Menu place' x) k_is ∙ sym e'))
same_form keywords.Names c d behind h g =
    let (place, k, op, e, f) = parts.parts_names c behind h in
    let (place', k', op', e', f') = parts.parts_names d behind g in
    let s = closed keywords.Names (commands.Names place k op) (commands.Names place' k' op') behind f f' refl refl in
    let place_is : place ≡ place' = same_place place place' f.formed.0 f'.formed.0 (ap (λ l. word l 0) s) in
    let both = same_named k k' op op' f.formed.1 f'.formed.1 (ap behind_one s) in
    let k_is : k ≡ k' = both.0 in
    let op_is : op ≡ op' = both.1 in
    e ∙ (ap (λ x. commands.Names x k op) place_is ∙ (ap (λ x. commands.Names place' x op) k_is ∙ (ap (λ x. commands.Names place' k' x) op_is ∙ sym e')))
same_form keywords.Free c d behind h g = (parts.parts_free c behind h).0 ∙ sym (parts.parts_free d behind g).0
same_form keywords.Undo c d behind h g = (parts.parts_undo c behind h).0 ∙ sym (parts.parts_undo d behind g).0
same_form keywords.Redo c d behind h g = (parts.parts_redo c behind h).0 ∙ sym (parts.parts_redo d behind g).0
same_form keywords.Save c d behind h g =
    let (name, place, e, f) = parts.parts_save c behind h in
    let (name', place', e', f') = parts.parts_save d behind g in
    let s = closed keywords.Save (commands.Save name place) (commands.Save name' place') behind f f' refl refl in
    let name_is : name ≡ name' = ap (λ l. word l 0) s in
    let place_is : place ≡ place' = same_place place place' f.formed.1 f'.formed.1 (ap (λ l. word l 1) s) in
    e ∙ (ap (λ x. commands.Save x place) name_is ∙ (ap (λ x. commands.Save name' x) place_is ∙ sym e'))
same_form keywords.Paste c d behind h g =
    let (place, k, name, e, f) = parts.parts_paste c behind h in
    let (place', k', name', e', f') = parts.parts_paste d behind g in
    let s = closed keywords.Paste (commands.Paste place k name) (commands.Paste place' k' name') behind f f' refl refl in
    let place_is : place ≡ place' = same_place place place' f.formed.0 f'.formed.0 (ap (λ l. word l 0) s) in
    let both = same_named k k' name name' f.formed.1 f'.formed.1 (ap behind_one s) in
    let k_is : k ≡ k' = both.0 in
    let name_is : name ≡ name' = both.1 in
    e ∙ (ap (λ x. commands.Paste x k name) place_is ∙ (ap (λ x. commands.Paste place' x name) k_is ∙ (ap (λ x. commands.Paste place' k' x) name_is ∙ sym e')))
same_form keywords.Keep c d behind h g =
    let (name, file, e, f) = parts.parts_keep c behind h in
    let (name', file', e', f') = parts.parts_keep d behind g in
    let s = closed keywords.Keep (commands.Keep name file) (commands.Keep name' file') behind f f' refl refl in
    let name_is : name ≡ name' = ap (λ l. word l 0) s in
    let file_is : file ≡ file' = ap (λ l. word l 1) s in
    e ∙ (ap (λ x. commands.Keep x file) name_is ∙ (ap (λ x. commands.Keep name' x) file_is ∙ sym e'))
same_form keywords.Fetch c d behind h g =
    let (file, e, f) = parts.parts_fetch c behind h in
    let (file', e', f') = parts.parts_fetch d behind g in
    let s = closed keywords.Fetch (commands.Fetch file) (commands.Fetch file') behind f f' refl refl in
    let file_is : file ≡ file' = ap (λ l. word l 0) s in
    e ∙ (ap (λ x. commands.Fetch x) file_is ∙ sym e')
