-- The parts of commands are words, and a form gives its parts back.
use Rattle.std.proofs.Common.{◌≡◌, ℕ, ◌^◌, ◌<◌, true, false, IsTrue, List, [], ◌∷◌, ◌++◌, Option, Some, None, refl, sym, subst, arith}
use Rattle.std.proofs.lemmas.Bool.{true≢false}
use Rattle.std.specs.Char.{is_ascii_alphabetic}
use Rattle.std.specs.Fmt.{decimal}
use Rattle.std.specs.List.{AllByRecursion}
use Rattle.psg_script.specs.Forms.{Text, IsInWord, IsWord, IsName, IsNumber, IsPlace, IsCommand, goes_on_name, place_text, steps_text, words_of}
use Rattle.psg_script.specs.Keywords.{keyword_of, keyword_text, fields_of}
use Rattle.psg_script.specs.Productions.{IsForm}
use Rattle.psg_script.specs.declared.command.Command.{Command}
use Rattle.psg_script.specs.declared.command.Command.TheVariants as commands
use Rattle.psg_script.specs.declared.command.Where.{Where}
use Rattle.psg_script.specs.declared.command.Where.TheVariants.{Cursor, At}
use Rattle.psg_script.specs.declared.keyword.Keyword.{Keyword}
use Rattle.psg_script.specs.declared.keyword.Keyword.TheVariants as keywords
use Rattle.psg_script.proofs.NumberLemmas.{decimal_word}

-- Words.

letter_in_word : (b : ℕ) → IsTrue (is_ascii_alphabetic b) → IsInWord b
letter_in_word b h e = let p : false ≡ true = subst (λ c. is_ascii_alphabetic c ≡ true) e h in true≢false (sym p)

name_byte_in_word : (b : ℕ) → IsTrue (goes_on_name b) → IsInWord b
name_byte_in_word b h e = let p : false ≡ true = subst (λ c. goes_on_name c ≡ true) e h in true≢false (sym p)

name_bytes : (bs : Text) → AllByRecursion (λ c. IsTrue (goes_on_name c)) bs → AllByRecursion IsInWord bs
name_bytes [] h = tt
name_bytes (b ∷ bs) h = (name_byte_in_word b h.0, name_bytes bs h.1)

pub name_word : (w : Text) → IsName w → IsWord w
name_word [] h = absurd h
name_word (b ∷ bs) h = (omega arith, (letter_in_word b h.0, name_bytes bs h.1))

in_word_append : (x y : Text) → AllByRecursion IsInWord x → AllByRecursion IsInWord y → AllByRecursion IsInWord (x ++ y)
in_word_append [] y h k = k
in_word_append (b ∷ x) y h k = (h.0, in_word_append x y h.1 k)

steps_in_word : (ks : List ℕ) → AllByRecursion IsNumber ks → AllByRecursion IsInWord (steps_text ks)
steps_in_word [] h = tt
steps_in_word (k ∷ ks) h = (λ e. slash e, in_word_append (decimal k) (steps_text ks) (decimal_word k h.0).1 (steps_in_word ks h.1)) where
  slash : ◌≡◌ {A = ℕ} 47 32 → ⊥
  slash e = omega arith

pub place_word : (w : Where) → IsPlace w → IsWord (place_text w)
place_word Cursor h = (omega arith, (λ e. dot e, tt)) where
  dot : ◌≡◌ {A = ℕ} 46 32 → ⊥
  dot e = omega arith
place_word (At []) h = (omega arith, (λ e. slash e, tt)) where
  slash : ◌≡◌ {A = ℕ} 47 32 → ⊥
  slash e = omega arith
place_word (At (k ∷ ks)) h = (omega arith, steps_in_word (k ∷ ks) h)

-- the words behind a command's first one are words
pub fields_words : (c : Command) → IsCommand c → AllByRecursion IsWord (fields_of c)
fields_words (commands.New phylum) h = (name_word phylum h, tt)
fields_words (commands.Goto place) h = (place_word place h, tt)
fields_words (commands.Refine place op args) h = (place_word place h.0, (name_word op h.1, tt))
fields_words (commands.Insert place k op args) h = (place_word place h.0, (decimal_word k h.1, (name_word op h.2, tt)))
fields_words (commands.Cut place) h = (place_word place h, tt)
fields_words (commands.Remove place k) h = (place_word place h.0, (decimal_word k h.1, tt))
fields_words (commands.Close place) h = (place_word place h, tt)
fields_words (commands.Reopen place) h = (place_word place h, tt)
fields_words (commands.Over place text) h = (place_word place h.0, tt)
fields_words (commands.Range start end text) h = (decimal_word start h.0, (decimal_word end h.1, tt))
fields_words commands.Show h = tt
fields_words (commands.Screen top left rows cols) h = (decimal_word top h.0, (decimal_word left h.1, (decimal_word rows (let p : rows < 2 ^ 32 = omega (arith, h.3) in p), (decimal_word cols (let p : cols < 2 ^ 32 = omega (arith, h.5) in p), tt))))
fields_words (commands.Relation place) h = (place_word place h, tt)
fields_words (commands.Own place) h = (place_word place h, tt)
fields_words (commands.Menu place None) h = (place_word place h.0, tt)
fields_words (commands.Menu place (Some k)) h = (place_word place h.0, (decimal_word k h.1, tt))
fields_words (commands.Names place None op) h = (place_word place h.0, (name_word op h.2, tt))
fields_words (commands.Names place (Some k) op) h = (place_word place h.0, (decimal_word k h.1, (name_word op h.2, tt)))
fields_words commands.Free h = tt
fields_words commands.Undo h = tt
fields_words commands.Redo h = tt
fields_words (commands.Save name place) h = (name_word name h.0, (place_word place h.1, tt))
fields_words (commands.Paste place None name) h = (place_word place h.0, (name_word name h.2, tt))
fields_words (commands.Paste place (Some k) name) h = (place_word place h.0, (decimal_word k h.1, (name_word name h.2, tt)))
fields_words (commands.Keep name file) h = (name_word name h.0, (h.1.0, tt))
fields_words (commands.Fetch file) h = (h.0, tt)

-- Keywords.

-- a command's words are its keyword and its fields
pub words_are : (c : Command) → words_of c ≡ keyword_text (keyword_of c) ∷ fields_of c
words_are (commands.New phylum) = refl
words_are (commands.Goto place) = refl
words_are (commands.Refine place op args) = refl
words_are (commands.Insert place k op args) = refl
words_are (commands.Cut place) = refl
words_are (commands.Remove place k) = refl
words_are (commands.Close place) = refl
words_are (commands.Reopen place) = refl
words_are (commands.Over place text) = refl
words_are (commands.Range start end text) = refl
words_are commands.Show = refl
words_are (commands.Screen top left rows cols) = refl
words_are (commands.Relation place) = refl
words_are (commands.Own place) = refl
words_are (commands.Menu place k) = refl
words_are (commands.Names place k op) = refl
words_are commands.Free = refl
words_are commands.Undo = refl
words_are commands.Redo = refl
words_are (commands.Save name place) = refl
words_are (commands.Paste place k name) = refl
words_are (commands.Keep name file) = refl
words_are (commands.Fetch file) = refl

-- what a command with this keyword is
abbrev Held : Keyword → Command → Type 0
Held keywords.New c = (phylum : Text) × (c ≡ commands.New phylum)
Held keywords.Goto c = (place : Where) × (c ≡ commands.Goto place)
Held keywords.Refine c = (place : Where) × (op : Text) × (args : Text) × (c ≡ commands.Refine place op args)
Held keywords.Insert c = (place : Where) × (k : ℕ) × (op : Text) × (args : Text) × (c ≡ commands.Insert place k op args)
Held keywords.Cut c = (place : Where) × (c ≡ commands.Cut place)
Held keywords.Remove c = (place : Where) × (k : ℕ) × (c ≡ commands.Remove place k)
Held keywords.Close c = (place : Where) × (c ≡ commands.Close place)
Held keywords.Reopen c = (place : Where) × (c ≡ commands.Reopen place)
Held keywords.Over c = (place : Where) × (text : Text) × (c ≡ commands.Over place text)
Held keywords.Range c = (start : ℕ) × (end : ℕ) × (text : Text) × (c ≡ commands.Range start end text)
Held keywords.Show c = (c ≡ commands.Show)
Held keywords.Screen c = (top : ℕ) × (left : ℕ) × (rows : ℕ) × (cols : ℕ) × (c ≡ commands.Screen top left rows cols)
Held keywords.Relation c = (place : Where) × (c ≡ commands.Relation place)
Held keywords.Own c = (place : Where) × (c ≡ commands.Own place)
Held keywords.Menu c = (place : Where) × (k : Option ℕ) × (c ≡ commands.Menu place k)
Held keywords.Names c = (place : Where) × (k : Option ℕ) × (op : Text) × (c ≡ commands.Names place k op)
Held keywords.Free c = (c ≡ commands.Free)
Held keywords.Undo c = (c ≡ commands.Undo)
Held keywords.Redo c = (c ≡ commands.Redo)
Held keywords.Save c = (name : Text) × (place : Where) × (c ≡ commands.Save name place)
Held keywords.Paste c = (place : Where) × (k : Option ℕ) × (name : Text) × (c ≡ commands.Paste place k name)
Held keywords.Keep c = (name : Text) × (file : Text) × (c ≡ commands.Keep name file)
Held keywords.Fetch c = (file : Text) × (c ≡ commands.Fetch file)

held : (c : Command) → Held (keyword_of c) c
held (commands.New phylum) = (phylum, refl)
held (commands.Goto place) = (place, refl)
held (commands.Refine place op args) = (place, op, args, refl)
held (commands.Insert place k op args) = (place, k, op, args, refl)
held (commands.Cut place) = (place, refl)
held (commands.Remove place k) = (place, k, refl)
held (commands.Close place) = (place, refl)
held (commands.Reopen place) = (place, refl)
held (commands.Over place text) = (place, text, refl)
held (commands.Range start end text) = (start, end, text, refl)
held commands.Show = refl
held (commands.Screen top left rows cols) = (top, left, rows, cols, refl)
held (commands.Relation place) = (place, refl)
held (commands.Own place) = (place, refl)
held (commands.Menu place k) = (place, k, refl)
held (commands.Names place k op) = (place, k, op, refl)
held commands.Free = refl
held commands.Undo = refl
held commands.Redo = refl
held (commands.Save name place) = (name, place, refl)
held (commands.Paste place k name) = (place, k, name, refl)
held (commands.Keep name file) = (name, file, refl)
held (commands.Fetch file) = (file, refl)

held_form : (k : Keyword) (c : Command) (behind : Text) → IsForm k c behind → Held k c
held_form k c behind h = subst (λ x. Held x c) h.keyword (held c)

same_form_of : (k : Keyword) (c d : Command) (behind : Text) → c ≡ d → IsForm k c behind → IsForm k d behind
same_form_of k c d behind e h = subst (λ x. IsForm k x behind) e h

-- The parts of the command of a form.

pub parts_new : (c : Command) (behind : Text) → IsForm keywords.New c behind → (phylum : Text) × (c ≡ commands.New phylum) × IsForm keywords.New (commands.New phylum) behind
parts_new c behind h =
    let (phylum, e) = held_form keywords.New c behind h in
    (phylum, e, same_form_of keywords.New c (commands.New phylum) behind e h)

pub parts_goto : (c : Command) (behind : Text) → IsForm keywords.Goto c behind → (place : Where) × (c ≡ commands.Goto place) × IsForm keywords.Goto (commands.Goto place) behind
parts_goto c behind h =
    let (place, e) = held_form keywords.Goto c behind h in
    (place, e, same_form_of keywords.Goto c (commands.Goto place) behind e h)

pub parts_refine : (c : Command) (behind : Text) → IsForm keywords.Refine c behind → (place : Where) × (op : Text) × (args : Text) × (c ≡ commands.Refine place op args) × IsForm keywords.Refine (commands.Refine place op args) behind
parts_refine c behind h =
    let (place, op, args, e) = held_form keywords.Refine c behind h in
    (place, op, args, e, same_form_of keywords.Refine c (commands.Refine place op args) behind e h)

pub parts_insert : (c : Command) (behind : Text) → IsForm keywords.Insert c behind → (place : Where) × (k : ℕ) × (op : Text) × (args : Text) × (c ≡ commands.Insert place k op args) × IsForm keywords.Insert (commands.Insert place k op args) behind
parts_insert c behind h =
    let (place, k, op, args, e) = held_form keywords.Insert c behind h in
    (place, k, op, args, e, same_form_of keywords.Insert c (commands.Insert place k op args) behind e h)

pub parts_cut : (c : Command) (behind : Text) → IsForm keywords.Cut c behind → (place : Where) × (c ≡ commands.Cut place) × IsForm keywords.Cut (commands.Cut place) behind
parts_cut c behind h =
    let (place, e) = held_form keywords.Cut c behind h in
    (place, e, same_form_of keywords.Cut c (commands.Cut place) behind e h)

pub parts_remove : (c : Command) (behind : Text) → IsForm keywords.Remove c behind → (place : Where) × (k : ℕ) × (c ≡ commands.Remove place k) × IsForm keywords.Remove (commands.Remove place k) behind
parts_remove c behind h =
    let (place, k, e) = held_form keywords.Remove c behind h in
    (place, k, e, same_form_of keywords.Remove c (commands.Remove place k) behind e h)

pub parts_close : (c : Command) (behind : Text) → IsForm keywords.Close c behind → (place : Where) × (c ≡ commands.Close place) × IsForm keywords.Close (commands.Close place) behind
parts_close c behind h =
    let (place, e) = held_form keywords.Close c behind h in
    (place, e, same_form_of keywords.Close c (commands.Close place) behind e h)

pub parts_reopen : (c : Command) (behind : Text) → IsForm keywords.Reopen c behind → (place : Where) × (c ≡ commands.Reopen place) × IsForm keywords.Reopen (commands.Reopen place) behind
parts_reopen c behind h =
    let (place, e) = held_form keywords.Reopen c behind h in
    (place, e, same_form_of keywords.Reopen c (commands.Reopen place) behind e h)

pub parts_over : (c : Command) (behind : Text) → IsForm keywords.Over c behind → (place : Where) × (text : Text) × (c ≡ commands.Over place text) × IsForm keywords.Over (commands.Over place text) behind
parts_over c behind h =
    let (place, text, e) = held_form keywords.Over c behind h in
    (place, text, e, same_form_of keywords.Over c (commands.Over place text) behind e h)

pub parts_range : (c : Command) (behind : Text) → IsForm keywords.Range c behind → (start : ℕ) × (end : ℕ) × (text : Text) × (c ≡ commands.Range start end text) × IsForm keywords.Range (commands.Range start end text) behind
parts_range c behind h =
    let (start, end, text, e) = held_form keywords.Range c behind h in
    (start, end, text, e, same_form_of keywords.Range c (commands.Range start end text) behind e h)

pub parts_show : (c : Command) (behind : Text) → IsForm keywords.Show c behind → (c ≡ commands.Show) × IsForm keywords.Show commands.Show behind
parts_show c behind h =
    let e : c ≡ commands.Show = held_form keywords.Show c behind h in
    (e, same_form_of keywords.Show c commands.Show behind e h)

pub parts_screen : (c : Command) (behind : Text) → IsForm keywords.Screen c behind → (top : ℕ) × (left : ℕ) × (rows : ℕ) × (cols : ℕ) × (c ≡ commands.Screen top left rows cols) × IsForm keywords.Screen (commands.Screen top left rows cols) behind
parts_screen c behind h =
    let (top, left, rows, cols, e) = held_form keywords.Screen c behind h in
    (top, left, rows, cols, e, same_form_of keywords.Screen c (commands.Screen top left rows cols) behind e h)

pub parts_relation : (c : Command) (behind : Text) → IsForm keywords.Relation c behind → (place : Where) × (c ≡ commands.Relation place) × IsForm keywords.Relation (commands.Relation place) behind
parts_relation c behind h =
    let (place, e) = held_form keywords.Relation c behind h in
    (place, e, same_form_of keywords.Relation c (commands.Relation place) behind e h)

pub parts_own : (c : Command) (behind : Text) → IsForm keywords.Own c behind → (place : Where) × (c ≡ commands.Own place) × IsForm keywords.Own (commands.Own place) behind
parts_own c behind h =
    let (place, e) = held_form keywords.Own c behind h in
    (place, e, same_form_of keywords.Own c (commands.Own place) behind e h)

pub parts_menu : (c : Command) (behind : Text) → IsForm keywords.Menu c behind → (place : Where) × (k : Option ℕ) × (c ≡ commands.Menu place k) × IsForm keywords.Menu (commands.Menu place k) behind
parts_menu c behind h =
    let (place, k, e) = held_form keywords.Menu c behind h in
    (place, k, e, same_form_of keywords.Menu c (commands.Menu place k) behind e h)

pub parts_names : (c : Command) (behind : Text) → IsForm keywords.Names c behind → (place : Where) × (k : Option ℕ) × (op : Text) × (c ≡ commands.Names place k op) × IsForm keywords.Names (commands.Names place k op) behind
parts_names c behind h =
    let (place, k, op, e) = held_form keywords.Names c behind h in
    (place, k, op, e, same_form_of keywords.Names c (commands.Names place k op) behind e h)

pub parts_free : (c : Command) (behind : Text) → IsForm keywords.Free c behind → (c ≡ commands.Free) × IsForm keywords.Free commands.Free behind
parts_free c behind h =
    let e : c ≡ commands.Free = held_form keywords.Free c behind h in
    (e, same_form_of keywords.Free c commands.Free behind e h)

pub parts_undo : (c : Command) (behind : Text) → IsForm keywords.Undo c behind → (c ≡ commands.Undo) × IsForm keywords.Undo commands.Undo behind
parts_undo c behind h =
    let e : c ≡ commands.Undo = held_form keywords.Undo c behind h in
    (e, same_form_of keywords.Undo c commands.Undo behind e h)

pub parts_redo : (c : Command) (behind : Text) → IsForm keywords.Redo c behind → (c ≡ commands.Redo) × IsForm keywords.Redo commands.Redo behind
parts_redo c behind h =
    let e : c ≡ commands.Redo = held_form keywords.Redo c behind h in
    (e, same_form_of keywords.Redo c commands.Redo behind e h)

pub parts_save : (c : Command) (behind : Text) → IsForm keywords.Save c behind → (name : Text) × (place : Where) × (c ≡ commands.Save name place) × IsForm keywords.Save (commands.Save name place) behind
parts_save c behind h =
    let (name, place, e) = held_form keywords.Save c behind h in
    (name, place, e, same_form_of keywords.Save c (commands.Save name place) behind e h)

pub parts_paste : (c : Command) (behind : Text) → IsForm keywords.Paste c behind → (place : Where) × (k : Option ℕ) × (name : Text) × (c ≡ commands.Paste place k name) × IsForm keywords.Paste (commands.Paste place k name) behind
parts_paste c behind h =
    let (place, k, name, e) = held_form keywords.Paste c behind h in
    (place, k, name, e, same_form_of keywords.Paste c (commands.Paste place k name) behind e h)

pub parts_keep : (c : Command) (behind : Text) → IsForm keywords.Keep c behind → (name : Text) × (file : Text) × (c ≡ commands.Keep name file) × IsForm keywords.Keep (commands.Keep name file) behind
parts_keep c behind h =
    let (name, file, e) = held_form keywords.Keep c behind h in
    (name, file, e, same_form_of keywords.Keep c (commands.Keep name file) behind e h)

pub parts_fetch : (c : Command) (behind : Text) → IsForm keywords.Fetch c behind → (file : Text) × (c ≡ commands.Fetch file) × IsForm keywords.Fetch (commands.Fetch file) behind
parts_fetch c behind h =
    let (file, e) = held_form keywords.Fetch c behind h in
    (file, e, same_form_of keywords.Fetch c (commands.Fetch file) behind e h)
