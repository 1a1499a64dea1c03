-- The words of a run.
use Rattle.std.proofs.Common.{◌≡◌, ℕ, ◌<◌, ◌≤◌, List, [], ◌∷◌, length, get_or, true≢false, refl, sym, ap, ap₂, ◌∙◌, subst, arith}
use Rattle.std.specs.Prelude.{Bool, String, bytes_eq, string_bytes, codes, decimal}
use Rattle.std.proofs.lemmas.Fmt.{decimal_injective}
use Rattle.psg_script.specs.Reading.{IsNumeralUpTo}
use Rattle.std.specs.declared.alloc.Global.{Global}
use Rattle.psg_terms.specs.Names.{Name}
use Rattle.psg_run.specs.declared.framing.Framing.{Framing}
use Rattle.psg_run.specs.declared.status.Status.{Status}
use Rattle.psg_run.specs.declared.status.Status.TheVariants as ends_with
use Rattle.psg_run.specs.Wanted.{formatting, living}
use Rattle.psg_run.specs.Worlds.{World, texts_of}
use Rattle.psg_run.specs.Arranging.{most_columns}
use Rattle.psg_run.specs.Promise.{Form, check, edit, framed, live, windows, gen, layout, itself, format, check_format, lint, explain, HasNoForm, IsForm, IsRunOf, IsRun}

pub two_words : (words : List (String Global)) (a b : String Global) → 2 ≤ length words → length words < 3 → a ≡ get_or words 0 a → b ≡ get_or words 1 b
    → texts_of words ≡ string_bytes a ∷ string_bytes b ∷ []
two_words [] a b more less ea eb = absurd (omega (arith, more))
two_words (x ∷ []) a b more less ea eb = absurd (omega (arith, more))
two_words (x ∷ y ∷ []) a b more less ea eb = ap₂ (λ p q. string_bytes p ∷ string_bytes q ∷ []) (sym ea) (sym eb)
two_words (x ∷ y ∷ z ∷ more_words) a b more less ea eb = absurd (omega (arith, less))

pub three_words : (words : List (String Global)) (a b c : String Global) → 3 ≤ length words → length words < 4 → a ≡ get_or words 0 a → b ≡ get_or words 1 b → c ≡ get_or words 2 c
    → texts_of words ≡ string_bytes a ∷ string_bytes b ∷ string_bytes c ∷ []
three_words [] a b c more less ea eb ec = absurd (omega (arith, more))
three_words (x ∷ []) a b c more less ea eb ec = absurd (omega (arith, more))
three_words (x ∷ y ∷ []) a b c more less ea eb ec = absurd (omega (arith, more))
three_words (x ∷ y ∷ z ∷ []) a b c more less ea eb ec =
    ap₂ (λ p q. string_bytes p ∷ string_bytes q ∷ string_bytes z ∷ []) (sym ea) (sym eb) ∙ ap (λ r. string_bytes a ∷ string_bytes b ∷ string_bytes r ∷ []) (sym ec)
three_words (x ∷ y ∷ z ∷ w ∷ more_words) a b c more less ea eb ec = absurd (omega (arith, less))

pub four_words : (words : List (String Global)) (a b c d : String Global) → 4 ≤ length words → length words < 5
    → a ≡ get_or words 0 a → b ≡ get_or words 1 b → c ≡ get_or words 2 c → d ≡ get_or words 3 d
    → texts_of words ≡ string_bytes a ∷ string_bytes b ∷ string_bytes c ∷ string_bytes d ∷ []
four_words [] a b c d more less ea eb ec ed = absurd (omega (arith, more))
four_words (v ∷ []) a b c d more less ea eb ec ed = absurd (omega (arith, more))
four_words (v ∷ w ∷ []) a b c d more less ea eb ec ed = absurd (omega (arith, more))
four_words (v ∷ w ∷ x ∷ []) a b c d more less ea eb ec ed = absurd (omega (arith, more))
four_words (v ∷ w ∷ x ∷ y ∷ []) a b c d more less ea eb ec ed =
    ap₂ (λ p q. string_bytes p ∷ string_bytes q ∷ string_bytes x ∷ string_bytes y ∷ []) (sym ea) (sym eb)
    ∙ ap₂ (λ p q. string_bytes a ∷ string_bytes b ∷ string_bytes p ∷ string_bytes q ∷ []) (sym ec) (sym ed)
four_words (v ∷ w ∷ x ∷ y ∷ z ∷ rest) a b c d more less ea eb ec ed = absurd (omega (arith, less))

pub five_words : (words : List (String Global)) (a b c d e : String Global) → 5 ≤ length words → length words < 6
    → a ≡ get_or words 0 a → b ≡ get_or words 1 b → c ≡ get_or words 2 c → d ≡ get_or words 3 d → e ≡ get_or words 4 e
    → texts_of words ≡ string_bytes a ∷ string_bytes b ∷ string_bytes c ∷ string_bytes d ∷ string_bytes e ∷ []
five_words [] a b c d e more less ea eb ec ed ee = absurd (omega (arith, more))
five_words (v ∷ []) a b c d e more less ea eb ec ed ee = absurd (omega (arith, more))
five_words (v ∷ w ∷ []) a b c d e more less ea eb ec ed ee = absurd (omega (arith, more))
five_words (v ∷ w ∷ x ∷ []) a b c d e more less ea eb ec ed ee = absurd (omega (arith, more))
five_words (v ∷ w ∷ x ∷ y ∷ []) a b c d e more less ea eb ec ed ee = absurd (omega (arith, more))
five_words (v ∷ w ∷ x ∷ y ∷ z ∷ []) a b c d e more less ea eb ec ed ee =
    ap₂ (λ p q. string_bytes p ∷ string_bytes q ∷ string_bytes x ∷ string_bytes y ∷ string_bytes z ∷ []) (sym ea) (sym eb)
    ∙ ap₂ (λ p q. string_bytes a ∷ string_bytes b ∷ string_bytes p ∷ string_bytes q ∷ string_bytes z ∷ []) (sym ec) (sym ed)
    ∙ ap (λ p. string_bytes a ∷ string_bytes b ∷ string_bytes c ∷ string_bytes d ∷ string_bytes p ∷ []) (sym ee)
five_words (v ∷ w ∷ x ∷ y ∷ z ∷ u ∷ rest) a b c d e more less ea eb ec ed ee = absurd (omega (arith, less))

-- ---- forms

first_is : (a b : Name) (xs ys : List Name) → a ∷ xs ≡ b ∷ ys → a ≡ b
first_is a b xs ys e = cc

second_is : (a b c d : Name) → a ∷ c ∷ [] ≡ b ∷ d ∷ [] → c ≡ d
second_is a b c d e = cc

not_check : codes "gen" ≡ codes "check" → ⊥
not_check e = true≢false (ap (λ w. bytes_eq w (codes "gen")) e)

not_live_gen : codes "gen" ≡ codes "live" → ⊥
not_live_gen e = true≢false (ap (λ w. bytes_eq w (codes "gen")) e)

pub two_other : (a b : Name) → (a ≡ codes "check" → ⊥) → (a ≡ codes "live" → ⊥) → (a ≡ codes "gen" → ⊥) → HasNoForm (a ∷ b ∷ [])
two_other a b no_check no_live no_gen (check d) e = no_check cc
two_other a b no_check no_live no_gen (edit d s) e = cc
two_other a b no_check no_live no_gen (live d) e = no_live cc
two_other a b no_check no_live no_gen (framed d) e = cc
two_other a b no_check no_live no_gen (windows d s) e = cc
two_other a b no_check no_live no_gen (gen n) (e, low, high) = no_gen cc
two_other a b no_check no_live no_gen (layout d s l n) (e, low, high) = cc
two_other a b no_check no_live no_gen (itself s f) e = cc
two_other a b no_check no_live no_gen (format d k f) e = cc
two_other a b no_check no_live no_gen (lint d k f) e = cc
two_other a b no_check no_live no_gen (check_format d k f) e = cc
two_other a b no_check no_live no_gen (explain d s) e = cc

-- `gen` and a word that is no number of those for which a script is made
pub no_number : (a b : Name) → a ≡ codes "gen" → ((n : ℕ) → IsNumeralUpTo 1000 n b → ⊥) → HasNoForm (a ∷ b ∷ [])
no_number a b is never (check d) e = not_check (sym is ∙ first_is a (codes "check") (b ∷ []) (d ∷ []) e)
no_number a b is never (edit d s) e = cc
no_number a b is never (windows d s) e = cc
no_number a b is never (live d) e = not_live_gen (sym is ∙ first_is a (codes "live") (b ∷ []) (d ∷ []) e)
no_number a b is never (framed d) e = cc
no_number a b is never (gen n) (e, low, high) = never n ((omega (arith, high), second_is a (codes "gen") b (decimal n) e), low, high)
no_number a b is never (layout d s l n) (e, low, high) = cc
no_number a b is never (itself s f) e = cc
no_number a b is never (format d k f) e = cc
no_number a b is never (lint d k f) e = cc
no_number a b is never (check_format d k f) e = cc
no_number a b is never (explain d s) e = cc

-- `gen` and a number
pub number_wanted : (a b : Name) (n : ℕ) → a ≡ codes "gen" → IsNumeralUpTo 1000 n b → IsForm (a ∷ b ∷ []) (gen n)
number_wanted a b n is (numeral, low, high) = (ap₂ (λ x y. x ∷ y ∷ []) is numeral.1, low, high)

pub three_other : (a b c : Name) → (a ≡ codes "edit" → ⊥) → (a ≡ codes "windows" → ⊥) → (a ≡ codes "self" → ⊥)
    → (a ≡ codes "explain" → ⊥) → (a ≡ codes "live" → ⊥) → HasNoForm (a ∷ b ∷ c ∷ [])
three_other a b c no_edit no_windows no_self no_explain no_live (check d) e = cc
three_other a b c no_edit no_windows no_self no_explain no_live (edit d s) e = no_edit cc
three_other a b c no_edit no_windows no_self no_explain no_live (live d) e = cc
three_other a b c no_edit no_windows no_self no_explain no_live (framed d) e = no_live cc
three_other a b c no_edit no_windows no_self no_explain no_live (windows d s) e = no_windows cc
three_other a b c no_edit no_windows no_self no_explain no_live (gen n) (e, low, high) = cc
three_other a b c no_edit no_windows no_self no_explain no_live (layout d s l n) (e, low, high) = cc
three_other a b c no_edit no_windows no_self no_explain no_live (itself s f) e = no_self cc
three_other a b c no_edit no_windows no_self no_explain no_live (explain d s) e = no_explain cc
three_other a b c no_edit no_windows no_self no_explain no_live (format d k f) e = cc
three_other a b c no_edit no_windows no_self no_explain no_live (lint d k f) e = cc
three_other a b c no_edit no_windows no_self no_explain no_live (check_format d k f) e = cc

pub four_other : (a b c d : Name) → (a ≡ codes "format" → ⊥) → (a ≡ codes "lint" → ⊥) → HasNoForm (a ∷ b ∷ c ∷ d ∷ [])
four_other a b c d no_format no_lint (check x) e = cc
four_other a b c d no_format no_lint (edit x y) e = cc
four_other a b c d no_format no_lint (live x) e = cc
four_other a b c d no_format no_lint (framed x) e = cc
four_other a b c d no_format no_lint (windows x y) e = cc
four_other a b c d no_format no_lint (gen n) (e, low, high) = cc
four_other a b c d no_format no_lint (layout x y z n) (e, low, high) = cc
four_other a b c d no_format no_lint (itself x y) e = cc
four_other a b c d no_format no_lint (explain x y) e = cc
four_other a b c d no_format no_lint (format x k f) e = no_format cc
four_other a b c d no_format no_lint (lint x k f) e = no_lint cc
four_other a b c d no_format no_lint (check_format x k f) e = cc

-- five words of which the first is another one
pub five_other : (a b c d e : Name) → (a ≡ codes "layout" → ⊥) → (a ≡ codes "format" → ⊥)
    → HasNoForm (a ∷ b ∷ c ∷ d ∷ e ∷ [])
five_other a b c d e no_layout no_format (check x) p = cc
five_other a b c d e no_layout no_format (edit x y) p = cc
five_other a b c d e no_layout no_format (live x) p = cc
five_other a b c d e no_layout no_format (framed x) p = cc
five_other a b c d e no_layout no_format (windows x y) p = cc
five_other a b c d e no_layout no_format (gen n) (p, low, high) = cc
five_other a b c d e no_layout no_format (layout x y z n) (p, low, high) = no_layout cc
five_other a b c d e no_layout no_format (itself x y) p = cc
five_other a b c d e no_layout no_format (explain x y) p = cc
five_other a b c d e no_layout no_format (format x k f) p = cc
five_other a b c d e no_layout no_format (lint x k f) p = cc
five_other a b c d e no_layout no_format (check_format x k f) p = no_format cc

not_layout : codes "format" ≡ codes "layout" → ⊥
not_layout e = true≢false (ap (λ w. bytes_eq w (codes "format")) e)

-- `layout` and a word that is no number of columns
pub no_columns : (a b c d e : Name) → a ≡ codes "layout" → ((n : ℕ) → IsNumeralUpTo most_columns n e → ⊥)
    → HasNoForm (a ∷ b ∷ c ∷ d ∷ e ∷ [])
no_columns a b c d e is never (check x) p = cc
no_columns a b c d e is never (edit x y) p = cc
no_columns a b c d e is never (live x) p = cc
no_columns a b c d e is never (framed x) p = cc
no_columns a b c d e is never (windows x y) p = cc
no_columns a b c d e is never (gen n) (p, low, high) = cc
no_columns a b c d e is never (layout x y z n) (p, low, high) =
    let last : e ≡ decimal n = cc in
    never n ((omega (arith, high), last), low, high)
no_columns a b c d e is never (itself x y) p = cc
no_columns a b c d e is never (explain x y) p = cc
no_columns a b c d e is never (format x k f) p = cc
no_columns a b c d e is never (lint x k f) p = cc
no_columns a b c d e is never (check_format x k f) p = let first : a ≡ codes "format" = cc in not_layout (sym first ∙ is)

not_live_edit : codes "live" ≡ codes "edit" → ⊥
not_live_edit e = true≢false (ap (λ w. bytes_eq w (codes "live")) e)

not_live_windows : codes "live" ≡ codes "windows" → ⊥
not_live_windows e = true≢false (ap (λ w. bytes_eq w (codes "live")) e)

not_live_self : codes "live" ≡ codes "self" → ⊥
not_live_self e = true≢false (ap (λ w. bytes_eq w (codes "live")) e)

not_live_explain : codes "live" ≡ codes "explain" → ⊥
not_live_explain e = true≢false (ap (λ w. bytes_eq w (codes "live")) e)

-- `live`, and another word than `--framed` before the file
pub no_frames : (a b c : Name) → a ≡ codes "live" → (b ≡ codes "--framed" → ⊥) → HasNoForm (a ∷ b ∷ c ∷ [])
no_frames a b c is never (check d) e = cc
no_frames a b c is never (edit d s) e = let first : a ≡ codes "edit" = cc in not_live_edit (sym is ∙ first)
no_frames a b c is never (live d) e = cc
no_frames a b c is never (framed d) e = never cc
no_frames a b c is never (windows d s) e = let first : a ≡ codes "windows" = cc in not_live_windows (sym is ∙ first)
no_frames a b c is never (gen n) (e, low, high) = cc
no_frames a b c is never (layout d s l n) (e, low, high) = cc
no_frames a b c is never (itself s f) e = let first : a ≡ codes "self" = cc in not_live_self (sym is ∙ first)
no_frames a b c is never (format d k f) e = cc
no_frames a b c is never (lint d k f) e = cc
no_frames a b c is never (check_format d k f) e = cc
no_frames a b c is never (explain d s) e = let first : a ≡ codes "explain" = cc in not_live_explain (sym is ∙ first)

-- `live` and `--framed`
pub frames_wanted : (a b c : Name) → a ≡ codes "live" → b ≡ codes "--framed" → IsForm (a ∷ b ∷ c ∷ []) (framed c)
frames_wanted a b c is flag = ap₂ (λ x y. x ∷ y ∷ c ∷ []) is flag

-- `format` and another word than `--check`
pub no_check : (a b c d e : Name) → a ≡ codes "format" → (e ≡ codes "--check" → ⊥) → HasNoForm (a ∷ b ∷ c ∷ d ∷ e ∷ [])
no_check a b c d e is never (check x) p = cc
no_check a b c d e is never (edit x y) p = cc
no_check a b c d e is never (live x) p = cc
no_check a b c d e is never (framed x) p = cc
no_check a b c d e is never (windows x y) p = cc
no_check a b c d e is never (gen n) (p, low, high) = cc
no_check a b c d e is never (layout x y z n) (p, low, high) = let first : a ≡ codes "layout" = cc in not_layout (sym is ∙ first)
no_check a b c d e is never (itself x y) p = cc
no_check a b c d e is never (explain x y) p = cc
no_check a b c d e is never (format x k f) p = cc
no_check a b c d e is never (lint x k f) p = cc
no_check a b c d e is never (check_format x k f) p = never cc

-- `format` and `--check`
pub check_wanted : (a b c d e : Name) → a ≡ codes "format" → e ≡ codes "--check"
    → IsForm (a ∷ b ∷ c ∷ d ∷ e ∷ []) (check_format b c d)
check_wanted a b c d e is last = ap₂ (λ x y. x ∷ b ∷ c ∷ d ∷ y ∷ []) is last

-- `layout` and a number of columns
pub columns_wanted : (a b c d e : Name) (n : ℕ) → a ≡ codes "layout" → IsNumeralUpTo most_columns n e
    → IsForm (a ∷ b ∷ c ∷ d ∷ e ∷ []) (layout b c d n)
columns_wanted a b c d e n is (numeral, low, high) = (ap₂ (λ x y. x ∷ b ∷ c ∷ d ∷ y ∷ []) is numeral.1, low, high)

-- neither two words nor three nor four nor five
pub other_count : (words : List (String Global)) → (length words ≡ 2 → ⊥) → (length words ≡ 3 → ⊥)
    → (length words ≡ 4 → ⊥) → (length words ≡ 5 → ⊥) → HasNoForm (texts_of words)
other_count [] two three four five (check d) e = cc
other_count [] two three four five (edit d s) e = cc
other_count [] two three four five (live d) e = cc
other_count [] two three four five (framed d) e = cc
other_count [] two three four five (windows d s) e = cc
other_count [] two three four five (gen n) (e, low, high) = cc
other_count [] two three four five (layout d s l n) (e, low, high) = cc
other_count [] two three four five (itself s f) e = cc
other_count [] two three four five (explain d s) e = cc
other_count [] two three four five (format d k f) e = cc
other_count [] two three four five (lint d k f) e = cc
other_count [] two three four five (check_format d k f) e = cc
other_count (x ∷ []) two three four five (check d) e = cc
other_count (x ∷ []) two three four five (edit d s) e = cc
other_count (x ∷ []) two three four five (live d) e = cc
other_count (x ∷ []) two three four five (framed d) e = cc
other_count (x ∷ []) two three four five (windows d s) e = cc
other_count (x ∷ []) two three four five (gen n) (e, low, high) = cc
other_count (x ∷ []) two three four five (layout d s l n) (e, low, high) = cc
other_count (x ∷ []) two three four five (itself s f) e = cc
other_count (x ∷ []) two three four five (explain d s) e = cc
other_count (x ∷ []) two three four five (format d k f) e = cc
other_count (x ∷ []) two three four five (lint d k f) e = cc
other_count (x ∷ []) two three four five (check_format d k f) e = cc
other_count (x ∷ y ∷ []) two three four five form e = absurd (two refl)
other_count (x ∷ y ∷ z ∷ []) two three four five form e = absurd (three refl)
other_count (x ∷ y ∷ z ∷ w ∷ []) two three four five form e = absurd (four refl)
other_count (x ∷ y ∷ z ∷ w ∷ v ∷ []) two three four five form e = absurd (five refl)
other_count (x ∷ y ∷ z ∷ w ∷ v ∷ u ∷ more) two three four five (check d) e = cc
other_count (x ∷ y ∷ z ∷ w ∷ v ∷ u ∷ more) two three four five (edit d s) e = cc
other_count (x ∷ y ∷ z ∷ w ∷ v ∷ u ∷ more) two three four five (live d) e = cc
other_count (x ∷ y ∷ z ∷ w ∷ v ∷ u ∷ more) two three four five (framed d) e = cc
other_count (x ∷ y ∷ z ∷ w ∷ v ∷ u ∷ more) two three four five (windows d s) e = cc
other_count (x ∷ y ∷ z ∷ w ∷ v ∷ u ∷ more) two three four five (gen n) (e, low, high) = cc
other_count (x ∷ y ∷ z ∷ w ∷ v ∷ u ∷ more) two three four five (layout d s l n) (e, low, high) = cc
other_count (x ∷ y ∷ z ∷ w ∷ v ∷ u ∷ more) two three four five (itself s f) e = cc
other_count (x ∷ y ∷ z ∷ w ∷ v ∷ u ∷ more) two three four five (explain d s) e = cc
other_count (x ∷ y ∷ z ∷ w ∷ v ∷ u ∷ more) two three four five (format d k f) e = cc
other_count (x ∷ y ∷ z ∷ w ∷ v ∷ u ∷ more) two three four five (lint d k f) e = cc
other_count (x ∷ y ∷ z ∷ w ∷ v ∷ u ∷ more) two three four five (check_format d k f) e = cc

-- ---- runs

not_live : codes "check" ≡ codes "live" → ⊥
not_live e = true≢false (ap (λ w. bytes_eq w (codes "check")) e)

check_is : (d e : Name) → codes "check" ∷ d ∷ [] ≡ codes "live" ∷ e ∷ [] → codes "check" ≡ codes "live"
check_is d e whole = cc

not_windows : codes "edit" ≡ codes "windows" → ⊥
not_windows e = true≢false (ap (λ w. bytes_eq w (codes "edit")) e)

three_is : (d s e t : Name) → codes "edit" ∷ d ∷ s ∷ [] ≡ codes "windows" ∷ e ∷ t ∷ [] → codes "edit" ≡ codes "windows"
three_is d s e t whole = cc

not_self : codes "edit" ≡ codes "self" → ⊥
not_self e = true≢false (ap (λ w. bytes_eq w (codes "edit")) e)

edit_is : (d s x y : Name) → codes "edit" ∷ d ∷ s ∷ [] ≡ codes "self" ∷ x ∷ y ∷ [] → codes "edit" ≡ codes "self"
edit_is d s x y whole = cc

not_self_windows : codes "windows" ≡ codes "self" → ⊥
not_self_windows e = true≢false (ap (λ w. bytes_eq w (codes "windows")) e)

windows_is : (d s x y : Name) → codes "windows" ∷ d ∷ s ∷ [] ≡ codes "self" ∷ x ∷ y ∷ [] → codes "windows" ≡ codes "self"
windows_is d s x y whole = cc

not_explain : codes "edit" ≡ codes "explain" → ⊥
not_explain e = true≢false (ap (λ w. bytes_eq w (codes "edit")) e)

not_explain_windows : codes "windows" ≡ codes "explain" → ⊥
not_explain_windows e = true≢false (ap (λ w. bytes_eq w (codes "windows")) e)

not_explain_self : codes "self" ≡ codes "explain" → ⊥
not_explain_self e = true≢false (ap (λ w. bytes_eq w (codes "self")) e)

not_lint : codes "format" ≡ codes "lint" → ⊥
not_lint e = true≢false (ap (λ w. bytes_eq w (codes "format")) e)

format_is : (d m f x k y : Name) → codes "format" ∷ d ∷ m ∷ f ∷ [] ≡ codes "lint" ∷ x ∷ k ∷ y ∷ []
    → codes "format" ≡ codes "lint"
format_is d m f x k y whole = cc

one_form : (words : List Name) (a b : Form) → IsForm words a → IsForm words b → a ≡ b
one_form words (check d) (check e) p q = let whole : codes "check" ∷ d ∷ [] ≡ codes "check" ∷ e ∷ [] = sym p ∙ q in cc
one_form words (check d) (edit e s) p q = let whole : codes "check" ∷ d ∷ [] ≡ codes "edit" ∷ e ∷ s ∷ [] = sym p ∙ q in cc
one_form words (check d) (live e) p q = absurd (not_live (check_is d e (sym p ∙ q)))
one_form words (edit d s) (check e) p q = let whole : codes "edit" ∷ d ∷ s ∷ [] ≡ codes "check" ∷ e ∷ [] = sym p ∙ q in cc
one_form words (edit d s) (edit e t) p q = let whole : codes "edit" ∷ d ∷ s ∷ [] ≡ codes "edit" ∷ e ∷ t ∷ [] = sym p ∙ q in cc
one_form words (edit d s) (live e) p q = let whole : codes "edit" ∷ d ∷ s ∷ [] ≡ codes "live" ∷ e ∷ [] = sym p ∙ q in cc
one_form words (live d) (check e) p q = absurd (not_live (check_is e d (sym q ∙ p)))
one_form words (live d) (edit e s) p q = let whole : codes "live" ∷ d ∷ [] ≡ codes "edit" ∷ e ∷ s ∷ [] = sym p ∙ q in cc
one_form words (check d) (gen n) p (q, low, high) = absurd (not_check (first_is (codes "gen") (codes "check") (decimal n ∷ []) (d ∷ []) (sym q ∙ p)))
one_form words (edit d s) (gen n) p (q, low, high) = let whole : codes "edit" ∷ d ∷ s ∷ [] ≡ codes "gen" ∷ decimal n ∷ [] = sym p ∙ q in cc
one_form words (live d) (gen n) p (q, low, high) = absurd (not_live_gen (first_is (codes "gen") (codes "live") (decimal n ∷ []) (d ∷ []) (sym q ∙ p)))
one_form words (gen n) (check d) (p, low, high) q = absurd (not_check (first_is (codes "gen") (codes "check") (decimal n ∷ []) (d ∷ []) (sym p ∙ q)))
one_form words (gen n) (edit d s) (p, low, high) q = let whole : codes "edit" ∷ d ∷ s ∷ [] ≡ codes "gen" ∷ decimal n ∷ [] = sym q ∙ p in cc
one_form words (gen n) (live d) (p, low, high) q = absurd (not_live_gen (first_is (codes "gen") (codes "live") (decimal n ∷ []) (d ∷ []) (sym p ∙ q)))
one_form words (gen n) (gen m) (p, low, high) (q, low', high') =
    ap gen (decimal_injective n m (omega (arith, high)) (omega (arith, high'))
    (second_is (codes "gen") (codes "gen") (decimal n) (decimal m) (sym p ∙ q)))
one_form words (check d) (windows e s) p q = let whole : codes "check" ∷ d ∷ [] ≡ codes "windows" ∷ e ∷ s ∷ [] = sym p ∙ q in cc
one_form words (windows d s) (check e) p q = let whole : codes "windows" ∷ d ∷ s ∷ [] ≡ codes "check" ∷ e ∷ [] = sym p ∙ q in cc
one_form words (live d) (windows e s) p q = let whole : codes "live" ∷ d ∷ [] ≡ codes "windows" ∷ e ∷ s ∷ [] = sym p ∙ q in cc
one_form words (windows d s) (live e) p q = let whole : codes "windows" ∷ d ∷ s ∷ [] ≡ codes "live" ∷ e ∷ [] = sym p ∙ q in cc
one_form words (windows d s) (gen n) p (q, low, high) = let whole : codes "windows" ∷ d ∷ s ∷ [] ≡ codes "gen" ∷ decimal n ∷ [] = sym p ∙ q in cc
one_form words (gen n) (windows d s) (p, low, high) q = let whole : codes "windows" ∷ d ∷ s ∷ [] ≡ codes "gen" ∷ decimal n ∷ [] = sym q ∙ p in cc
one_form words (edit d s) (windows e t) p q = absurd (not_windows (three_is d s e t (sym p ∙ q)))
one_form words (windows d s) (edit e t) p q = absurd (not_windows (three_is e t d s (sym q ∙ p)))
one_form words (windows d s) (windows e t) p q = let whole : codes "windows" ∷ d ∷ s ∷ [] ≡ codes "windows" ∷ e ∷ t ∷ [] = sym p ∙ q in cc
one_form words (windows x y) (layout d s l n) p (q, low, high) = let whole : codes "windows" ∷ x ∷ y ∷ [] ≡ codes "layout" ∷ d ∷ s ∷ l ∷ decimal n ∷ [] = sym p ∙ q in cc
one_form words (layout d s l n) (windows x y) (p, low, high) q = let whole : codes "layout" ∷ d ∷ s ∷ l ∷ decimal n ∷ [] ≡ codes "windows" ∷ x ∷ y ∷ [] = sym p ∙ q in cc
one_form words (check x) (layout d s l n) p (q, low, high) = let whole : codes "check" ∷ x ∷ [] ≡ codes "layout" ∷ d ∷ s ∷ l ∷ decimal n ∷ [] = sym p ∙ q in cc
one_form words (edit x y) (layout d s l n) p (q, low, high) = let whole : codes "edit" ∷ x ∷ y ∷ [] ≡ codes "layout" ∷ d ∷ s ∷ l ∷ decimal n ∷ [] = sym p ∙ q in cc
one_form words (live x) (layout d s l n) p (q, low, high) = let whole : codes "live" ∷ x ∷ [] ≡ codes "layout" ∷ d ∷ s ∷ l ∷ decimal n ∷ [] = sym p ∙ q in cc
one_form words (gen m) (layout d s l n) (p, small, large) (q, low, high) = let whole : codes "gen" ∷ decimal m ∷ [] ≡ codes "layout" ∷ d ∷ s ∷ l ∷ decimal n ∷ [] = sym p ∙ q in cc
one_form words (layout d s l n) (check x) (p, low, high) q = let whole : codes "layout" ∷ d ∷ s ∷ l ∷ decimal n ∷ [] ≡ codes "check" ∷ x ∷ [] = sym p ∙ q in cc
one_form words (layout d s l n) (edit x y) (p, low, high) q = let whole : codes "layout" ∷ d ∷ s ∷ l ∷ decimal n ∷ [] ≡ codes "edit" ∷ x ∷ y ∷ [] = sym p ∙ q in cc
one_form words (layout d s l n) (live x) (p, low, high) q = let whole : codes "layout" ∷ d ∷ s ∷ l ∷ decimal n ∷ [] ≡ codes "live" ∷ x ∷ [] = sym p ∙ q in cc
one_form words (layout d s l n) (gen m) (p, low, high) (q, small, large) = let whole : codes "layout" ∷ d ∷ s ∷ l ∷ decimal n ∷ [] ≡ codes "gen" ∷ decimal m ∷ [] = sym p ∙ q in cc
one_form words (layout d s l n) (layout d' s' l' m) (p, low, high) (q, low', high') =
    let whole : codes "layout" ∷ d ∷ s ∷ l ∷ decimal n ∷ [] ≡ codes "layout" ∷ d' ∷ s' ∷ l' ∷ decimal m ∷ [] = sym p ∙ q in
    let first : d ≡ d' = cc in
    let second : s ≡ s' = cc in
    let third : l ≡ l' = cc in
    let last : decimal n ≡ decimal m = cc in
    let same : n ≡ m = decimal_injective n m (omega (arith, high)) (omega (arith, high')) last in
    cc
one_form words (check d) (itself s f) p q = let whole : codes "check" ∷ d ∷ [] ≡ codes "self" ∷ s ∷ f ∷ [] = sym p ∙ q in cc
one_form words (edit d t) (itself s f) p q = absurd (not_self (edit_is d t s f (sym p ∙ q)))
one_form words (windows d t) (itself s f) p q = absurd (not_self_windows (windows_is d t s f (sym p ∙ q)))
one_form words (live d) (itself s f) p q = let whole : codes "live" ∷ d ∷ [] ≡ codes "self" ∷ s ∷ f ∷ [] = sym p ∙ q in cc
one_form words (gen n) (itself s f) (p, low, high) q = let whole : codes "gen" ∷ decimal n ∷ [] ≡ codes "self" ∷ s ∷ f ∷ [] = sym p ∙ q in cc
one_form words (layout d s l n) (itself x f) (p, low, high) q = let whole : codes "layout" ∷ d ∷ s ∷ l ∷ decimal n ∷ [] ≡ codes "self" ∷ x ∷ f ∷ [] = sym p ∙ q in cc
one_form words (itself s f) (check d) p q = let whole : codes "self" ∷ s ∷ f ∷ [] ≡ codes "check" ∷ d ∷ [] = sym p ∙ q in cc
one_form words (itself s f) (edit d t) p q = absurd (not_self (edit_is d t s f (sym q ∙ p)))
one_form words (itself s f) (windows d t) p q = absurd (not_self_windows (windows_is d t s f (sym q ∙ p)))
one_form words (itself s f) (live d) p q = let whole : codes "self" ∷ s ∷ f ∷ [] ≡ codes "live" ∷ d ∷ [] = sym p ∙ q in cc
one_form words (itself s f) (gen n) p (q, low, high) = let whole : codes "self" ∷ s ∷ f ∷ [] ≡ codes "gen" ∷ decimal n ∷ [] = sym p ∙ q in cc
one_form words (itself x f) (layout d s l n) p (q, low, high) = let whole : codes "self" ∷ x ∷ f ∷ [] ≡ codes "layout" ∷ d ∷ s ∷ l ∷ decimal n ∷ [] = sym p ∙ q in cc
one_form words (itself s f) (itself x y) p q = let whole : codes "self" ∷ s ∷ f ∷ [] ≡ codes "self" ∷ x ∷ y ∷ [] = sym p ∙ q in cc
one_form words (check d) (explain e s) p q = let whole : codes "check" ∷ d ∷ [] ≡ codes "explain" ∷ e ∷ s ∷ [] = sym p ∙ q in cc
one_form words (explain e s) (check d) p q = let whole : codes "explain" ∷ e ∷ s ∷ [] ≡ codes "check" ∷ d ∷ [] = sym p ∙ q in cc
one_form words (live d) (explain e s) p q = let whole : codes "live" ∷ d ∷ [] ≡ codes "explain" ∷ e ∷ s ∷ [] = sym p ∙ q in cc
one_form words (explain e s) (live d) p q = let whole : codes "explain" ∷ e ∷ s ∷ [] ≡ codes "live" ∷ d ∷ [] = sym p ∙ q in cc
one_form words (gen n) (explain d s) (p, low, high) q = let whole : codes "gen" ∷ decimal n ∷ [] ≡ codes "explain" ∷ d ∷ s ∷ [] = sym p ∙ q in cc
one_form words (explain d s) (gen n) p (q, low, high) = let whole : codes "explain" ∷ d ∷ s ∷ [] ≡ codes "gen" ∷ decimal n ∷ [] = sym p ∙ q in cc
one_form words (layout d s l n) (explain x y) (p, low, high) q = let whole : codes "layout" ∷ d ∷ s ∷ l ∷ decimal n ∷ [] ≡ codes "explain" ∷ x ∷ y ∷ [] = sym p ∙ q in cc
one_form words (explain x y) (layout d s l n) p (q, low, high) = let whole : codes "explain" ∷ x ∷ y ∷ [] ≡ codes "layout" ∷ d ∷ s ∷ l ∷ decimal n ∷ [] = sym p ∙ q in cc
one_form words (edit d s) (explain x y) p q = absurd (not_explain (first_is (codes "edit") (codes "explain") (d ∷ s ∷ []) (x ∷ y ∷ []) (sym p ∙ q)))
one_form words (explain x y) (edit d s) p q = absurd (not_explain (first_is (codes "edit") (codes "explain") (d ∷ s ∷ []) (x ∷ y ∷ []) (sym q ∙ p)))
one_form words (windows d s) (explain x y) p q = absurd (not_explain_windows (first_is (codes "windows") (codes "explain") (d ∷ s ∷ []) (x ∷ y ∷ []) (sym p ∙ q)))
one_form words (explain x y) (windows d s) p q = absurd (not_explain_windows (first_is (codes "windows") (codes "explain") (d ∷ s ∷ []) (x ∷ y ∷ []) (sym q ∙ p)))
one_form words (itself d s) (explain x y) p q = absurd (not_explain_self (first_is (codes "self") (codes "explain") (d ∷ s ∷ []) (x ∷ y ∷ []) (sym p ∙ q)))
one_form words (explain x y) (itself d s) p q = absurd (not_explain_self (first_is (codes "self") (codes "explain") (d ∷ s ∷ []) (x ∷ y ∷ []) (sym q ∙ p)))
one_form words (format d k f) (explain x y) p q = let whole : codes "format" ∷ d ∷ k ∷ f ∷ [] ≡ codes "explain" ∷ x ∷ y ∷ [] = sym p ∙ q in cc
one_form words (explain x y) (format d k f) p q = let whole : codes "explain" ∷ x ∷ y ∷ [] ≡ codes "format" ∷ d ∷ k ∷ f ∷ [] = sym p ∙ q in cc
one_form words (check_format d k f) (explain x y) p q = let whole : codes "format" ∷ d ∷ k ∷ f ∷ codes "--check" ∷ [] ≡ codes "explain" ∷ x ∷ y ∷ [] = sym p ∙ q in cc
one_form words (explain x y) (check_format d k f) p q = let whole : codes "explain" ∷ x ∷ y ∷ [] ≡ codes "format" ∷ d ∷ k ∷ f ∷ codes "--check" ∷ [] = sym p ∙ q in cc
one_form words (explain d s) (explain x y) p q = let whole : codes "explain" ∷ d ∷ s ∷ [] ≡ codes "explain" ∷ x ∷ y ∷ [] = sym p ∙ q in cc
one_form words (live d) (live e) p q = let whole : codes "live" ∷ d ∷ [] ≡ codes "live" ∷ e ∷ [] = sym p ∙ q in cc
one_form words (check d) (framed x) p q = let whole : codes "check" ∷ d ∷ [] ≡ codes "live" ∷ codes "--framed" ∷ x ∷ [] = sym p ∙ q in cc
one_form words (framed x) (check d) p q = let whole : codes "live" ∷ codes "--framed" ∷ x ∷ [] ≡ codes "check" ∷ d ∷ [] = sym p ∙ q in cc
one_form words (live d) (framed x) p q = let whole : codes "live" ∷ d ∷ [] ≡ codes "live" ∷ codes "--framed" ∷ x ∷ [] = sym p ∙ q in cc
one_form words (framed x) (live d) p q = let whole : codes "live" ∷ codes "--framed" ∷ x ∷ [] ≡ codes "live" ∷ d ∷ [] = sym p ∙ q in cc
one_form words (layout d s l n) (framed x) (p, low, high) q = let whole : codes "layout" ∷ d ∷ s ∷ l ∷ decimal n ∷ [] ≡ codes "live" ∷ codes "--framed" ∷ x ∷ [] = sym p ∙ q in cc
one_form words (framed x) (layout d s l n) p (q, low, high) = let whole : codes "live" ∷ codes "--framed" ∷ x ∷ [] ≡ codes "layout" ∷ d ∷ s ∷ l ∷ decimal n ∷ [] = sym p ∙ q in cc
one_form words (gen n) (framed x) (p, low, high) q = let whole : codes "gen" ∷ decimal n ∷ [] ≡ codes "live" ∷ codes "--framed" ∷ x ∷ [] = sym p ∙ q in cc
one_form words (framed x) (gen n) p (q, low, high) = let whole : codes "live" ∷ codes "--framed" ∷ x ∷ [] ≡ codes "gen" ∷ decimal n ∷ [] = sym p ∙ q in cc
one_form words (format d k f) (framed x) p q = let whole : codes "format" ∷ d ∷ k ∷ f ∷ [] ≡ codes "live" ∷ codes "--framed" ∷ x ∷ [] = sym p ∙ q in cc
one_form words (framed x) (format d k f) p q = let whole : codes "live" ∷ codes "--framed" ∷ x ∷ [] ≡ codes "format" ∷ d ∷ k ∷ f ∷ [] = sym p ∙ q in cc
one_form words (check_format d k f) (framed x) p q = let whole : codes "format" ∷ d ∷ k ∷ f ∷ codes "--check" ∷ [] ≡ codes "live" ∷ codes "--framed" ∷ x ∷ [] = sym p ∙ q in cc
one_form words (framed x) (check_format d k f) p q = let whole : codes "live" ∷ codes "--framed" ∷ x ∷ [] ≡ codes "format" ∷ d ∷ k ∷ f ∷ codes "--check" ∷ [] = sym p ∙ q in cc
one_form words (edit d s) (framed x) p q = absurd (not_live_edit (first_is (codes "live") (codes "edit") (codes "--framed" ∷ x ∷ []) (d ∷ s ∷ []) (sym q ∙ p)))
one_form words (framed x) (edit d s) p q = absurd (not_live_edit (first_is (codes "live") (codes "edit") (codes "--framed" ∷ x ∷ []) (d ∷ s ∷ []) (sym p ∙ q)))
one_form words (windows d s) (framed x) p q = absurd (not_live_windows (first_is (codes "live") (codes "windows") (codes "--framed" ∷ x ∷ []) (d ∷ s ∷ []) (sym q ∙ p)))
one_form words (framed x) (windows d s) p q = absurd (not_live_windows (first_is (codes "live") (codes "windows") (codes "--framed" ∷ x ∷ []) (d ∷ s ∷ []) (sym p ∙ q)))
one_form words (itself d s) (framed x) p q = absurd (not_live_self (first_is (codes "live") (codes "self") (codes "--framed" ∷ x ∷ []) (d ∷ s ∷ []) (sym q ∙ p)))
one_form words (framed x) (itself d s) p q = absurd (not_live_self (first_is (codes "live") (codes "self") (codes "--framed" ∷ x ∷ []) (d ∷ s ∷ []) (sym p ∙ q)))
one_form words (explain d s) (framed x) p q = absurd (not_live_explain (first_is (codes "live") (codes "explain") (codes "--framed" ∷ x ∷ []) (d ∷ s ∷ []) (sym q ∙ p)))
one_form words (framed x) (explain d s) p q = absurd (not_live_explain (first_is (codes "live") (codes "explain") (codes "--framed" ∷ x ∷ []) (d ∷ s ∷ []) (sym p ∙ q)))
one_form words (framed x) (framed y) p q = let whole : codes "live" ∷ codes "--framed" ∷ x ∷ [] ≡ codes "live" ∷ codes "--framed" ∷ y ∷ [] = sym p ∙ q in cc
one_form words (check d) (format x k y) p q = let whole : codes "check" ∷ d ∷ [] ≡ codes "format" ∷ x ∷ k ∷ y ∷ [] = sym p ∙ q in cc
one_form words (format x k y) (check d) p q = let whole : codes "format" ∷ x ∷ k ∷ y ∷ [] ≡ codes "check" ∷ d ∷ [] = sym p ∙ q in cc
one_form words (edit d s) (format x k y) p q = let whole : codes "edit" ∷ d ∷ s ∷ [] ≡ codes "format" ∷ x ∷ k ∷ y ∷ [] = sym p ∙ q in cc
one_form words (format x k y) (edit d s) p q = let whole : codes "format" ∷ x ∷ k ∷ y ∷ [] ≡ codes "edit" ∷ d ∷ s ∷ [] = sym p ∙ q in cc
one_form words (live d) (format x k y) p q = let whole : codes "live" ∷ d ∷ [] ≡ codes "format" ∷ x ∷ k ∷ y ∷ [] = sym p ∙ q in cc
one_form words (format x k y) (live d) p q = let whole : codes "format" ∷ x ∷ k ∷ y ∷ [] ≡ codes "live" ∷ d ∷ [] = sym p ∙ q in cc
one_form words (windows d s) (format x k y) p q = let whole : codes "windows" ∷ d ∷ s ∷ [] ≡ codes "format" ∷ x ∷ k ∷ y ∷ [] = sym p ∙ q in cc
one_form words (format x k y) (windows d s) p q = let whole : codes "format" ∷ x ∷ k ∷ y ∷ [] ≡ codes "windows" ∷ d ∷ s ∷ [] = sym p ∙ q in cc
one_form words (gen n) (format x k y) (p, low, high) q = let whole : codes "gen" ∷ decimal n ∷ [] ≡ codes "format" ∷ x ∷ k ∷ y ∷ [] = sym p ∙ q in cc
one_form words (format x k y) (gen n) p (q, low, high) = let whole : codes "format" ∷ x ∷ k ∷ y ∷ [] ≡ codes "gen" ∷ decimal n ∷ [] = sym p ∙ q in cc
one_form words (itself s f) (format x k y) p q = let whole : codes "self" ∷ s ∷ f ∷ [] ≡ codes "format" ∷ x ∷ k ∷ y ∷ [] = sym p ∙ q in cc
one_form words (format x k y) (itself s f) p q = let whole : codes "format" ∷ x ∷ k ∷ y ∷ [] ≡ codes "self" ∷ s ∷ f ∷ [] = sym p ∙ q in cc
one_form words (check d) (check_format x k y) p q = let whole : codes "check" ∷ d ∷ [] ≡ codes "format" ∷ x ∷ k ∷ y ∷ codes "--check" ∷ [] = sym p ∙ q in cc
one_form words (check_format x k y) (check d) p q = let whole : codes "format" ∷ x ∷ k ∷ y ∷ codes "--check" ∷ [] ≡ codes "check" ∷ d ∷ [] = sym p ∙ q in cc
one_form words (edit d s) (check_format x k y) p q = let whole : codes "edit" ∷ d ∷ s ∷ [] ≡ codes "format" ∷ x ∷ k ∷ y ∷ codes "--check" ∷ [] = sym p ∙ q in cc
one_form words (check_format x k y) (edit d s) p q = let whole : codes "format" ∷ x ∷ k ∷ y ∷ codes "--check" ∷ [] ≡ codes "edit" ∷ d ∷ s ∷ [] = sym p ∙ q in cc
one_form words (live d) (check_format x k y) p q = let whole : codes "live" ∷ d ∷ [] ≡ codes "format" ∷ x ∷ k ∷ y ∷ codes "--check" ∷ [] = sym p ∙ q in cc
one_form words (check_format x k y) (live d) p q = let whole : codes "format" ∷ x ∷ k ∷ y ∷ codes "--check" ∷ [] ≡ codes "live" ∷ d ∷ [] = sym p ∙ q in cc
one_form words (windows d s) (check_format x k y) p q = let whole : codes "windows" ∷ d ∷ s ∷ [] ≡ codes "format" ∷ x ∷ k ∷ y ∷ codes "--check" ∷ [] = sym p ∙ q in cc
one_form words (check_format x k y) (windows d s) p q = let whole : codes "format" ∷ x ∷ k ∷ y ∷ codes "--check" ∷ [] ≡ codes "windows" ∷ d ∷ s ∷ [] = sym p ∙ q in cc
one_form words (gen n) (check_format x k y) (p, low, high) q = let whole : codes "gen" ∷ decimal n ∷ [] ≡ codes "format" ∷ x ∷ k ∷ y ∷ codes "--check" ∷ [] = sym p ∙ q in cc
one_form words (check_format x k y) (gen n) p (q, low, high) = let whole : codes "format" ∷ x ∷ k ∷ y ∷ codes "--check" ∷ [] ≡ codes "gen" ∷ decimal n ∷ [] = sym p ∙ q in cc
one_form words (itself s f) (check_format x k y) p q = let whole : codes "self" ∷ s ∷ f ∷ [] ≡ codes "format" ∷ x ∷ k ∷ y ∷ codes "--check" ∷ [] = sym p ∙ q in cc
one_form words (check_format x k y) (itself s f) p q = let whole : codes "format" ∷ x ∷ k ∷ y ∷ codes "--check" ∷ [] ≡ codes "self" ∷ s ∷ f ∷ [] = sym p ∙ q in cc
one_form words (layout d s l n) (format x k y) (p, low, high) q = let whole : codes "layout" ∷ d ∷ s ∷ l ∷ decimal n ∷ [] ≡ codes "format" ∷ x ∷ k ∷ y ∷ [] = sym p ∙ q in cc
one_form words (format x k y) (layout d s l n) p (q, low, high) = let whole : codes "format" ∷ x ∷ k ∷ y ∷ [] ≡ codes "layout" ∷ d ∷ s ∷ l ∷ decimal n ∷ [] = sym p ∙ q in cc
one_form words (layout d s l n) (check_format x k y) (p, low, high) q =
    absurd (not_layout (first_is (codes "format") (codes "layout") (x ∷ k ∷ y ∷ codes "--check" ∷ []) (d ∷ s ∷ l ∷ decimal n ∷ []) (sym q ∙ p)))
one_form words (check_format x k y) (layout d s l n) p (q, low, high) =
    absurd (not_layout (first_is (codes "format") (codes "layout") (x ∷ k ∷ y ∷ codes "--check" ∷ []) (d ∷ s ∷ l ∷ decimal n ∷ []) (sym p ∙ q)))
one_form words (format x k y) (check_format d m f) p q = let whole : codes "format" ∷ x ∷ k ∷ y ∷ [] ≡ codes "format" ∷ d ∷ m ∷ f ∷ codes "--check" ∷ [] = sym p ∙ q in cc
one_form words (check_format d m f) (format x k y) p q = let whole : codes "format" ∷ d ∷ m ∷ f ∷ codes "--check" ∷ [] ≡ codes "format" ∷ x ∷ k ∷ y ∷ [] = sym p ∙ q in cc
one_form words (format d m f) (format x k y) p q = let whole : codes "format" ∷ d ∷ m ∷ f ∷ [] ≡ codes "format" ∷ x ∷ k ∷ y ∷ [] = sym p ∙ q in cc
one_form words (check_format d m f) (check_format x k y) p q =
    let whole : codes "format" ∷ d ∷ m ∷ f ∷ codes "--check" ∷ [] ≡ codes "format" ∷ x ∷ k ∷ y ∷ codes "--check" ∷ [] = sym p ∙ q in cc
one_form words (check d) (lint x k y) p q = let whole : codes "check" ∷ d ∷ [] ≡ codes "lint" ∷ x ∷ k ∷ y ∷ [] = sym p ∙ q in cc
one_form words (lint x k y) (check d) p q = let whole : codes "lint" ∷ x ∷ k ∷ y ∷ [] ≡ codes "check" ∷ d ∷ [] = sym p ∙ q in cc
one_form words (edit d s) (lint x k y) p q = let whole : codes "edit" ∷ d ∷ s ∷ [] ≡ codes "lint" ∷ x ∷ k ∷ y ∷ [] = sym p ∙ q in cc
one_form words (lint x k y) (edit d s) p q = let whole : codes "lint" ∷ x ∷ k ∷ y ∷ [] ≡ codes "edit" ∷ d ∷ s ∷ [] = sym p ∙ q in cc
one_form words (live d) (lint x k y) p q = let whole : codes "live" ∷ d ∷ [] ≡ codes "lint" ∷ x ∷ k ∷ y ∷ [] = sym p ∙ q in cc
one_form words (lint x k y) (live d) p q = let whole : codes "lint" ∷ x ∷ k ∷ y ∷ [] ≡ codes "live" ∷ d ∷ [] = sym p ∙ q in cc
one_form words (framed d) (lint x k y) p q = let whole : codes "live" ∷ codes "--framed" ∷ d ∷ [] ≡ codes "lint" ∷ x ∷ k ∷ y ∷ [] = sym p ∙ q in cc
one_form words (lint x k y) (framed d) p q = let whole : codes "lint" ∷ x ∷ k ∷ y ∷ [] ≡ codes "live" ∷ codes "--framed" ∷ d ∷ [] = sym p ∙ q in cc
one_form words (windows d s) (lint x k y) p q = let whole : codes "windows" ∷ d ∷ s ∷ [] ≡ codes "lint" ∷ x ∷ k ∷ y ∷ [] = sym p ∙ q in cc
one_form words (lint x k y) (windows d s) p q = let whole : codes "lint" ∷ x ∷ k ∷ y ∷ [] ≡ codes "windows" ∷ d ∷ s ∷ [] = sym p ∙ q in cc
one_form words (gen n) (lint x k y) (p, low, high) q = let whole : codes "gen" ∷ decimal n ∷ [] ≡ codes "lint" ∷ x ∷ k ∷ y ∷ [] = sym p ∙ q in cc
one_form words (lint x k y) (gen n) p (q, low, high) = let whole : codes "lint" ∷ x ∷ k ∷ y ∷ [] ≡ codes "gen" ∷ decimal n ∷ [] = sym p ∙ q in cc
one_form words (layout d s l n) (lint x k y) (p, low, high) q = let whole : codes "layout" ∷ d ∷ s ∷ l ∷ decimal n ∷ [] ≡ codes "lint" ∷ x ∷ k ∷ y ∷ [] = sym p ∙ q in cc
one_form words (lint x k y) (layout d s l n) p (q, low, high) = let whole : codes "lint" ∷ x ∷ k ∷ y ∷ [] ≡ codes "layout" ∷ d ∷ s ∷ l ∷ decimal n ∷ [] = sym p ∙ q in cc
one_form words (itself s f) (lint x k y) p q = let whole : codes "self" ∷ s ∷ f ∷ [] ≡ codes "lint" ∷ x ∷ k ∷ y ∷ [] = sym p ∙ q in cc
one_form words (lint x k y) (itself s f) p q = let whole : codes "lint" ∷ x ∷ k ∷ y ∷ [] ≡ codes "self" ∷ s ∷ f ∷ [] = sym p ∙ q in cc
one_form words (explain d s) (lint x k y) p q = let whole : codes "explain" ∷ d ∷ s ∷ [] ≡ codes "lint" ∷ x ∷ k ∷ y ∷ [] = sym p ∙ q in cc
one_form words (lint x k y) (explain d s) p q = let whole : codes "lint" ∷ x ∷ k ∷ y ∷ [] ≡ codes "explain" ∷ d ∷ s ∷ [] = sym p ∙ q in cc
one_form words (check_format d m f) (lint x k y) p q = let whole : codes "format" ∷ d ∷ m ∷ f ∷ codes "--check" ∷ [] ≡ codes "lint" ∷ x ∷ k ∷ y ∷ [] = sym p ∙ q in cc
one_form words (lint x k y) (check_format d m f) p q = let whole : codes "lint" ∷ x ∷ k ∷ y ∷ [] ≡ codes "format" ∷ d ∷ m ∷ f ∷ codes "--check" ∷ [] = sym p ∙ q in cc
one_form words (format d m f) (lint x k y) p q = absurd (not_lint (format_is d m f x k y (sym p ∙ q)))
one_form words (lint x k y) (format d m f) p q = absurd (not_lint (format_is d m f x k y (sym q ∙ p)))
one_form words (lint d m f) (lint x k y) p q = let whole : codes "lint" ∷ d ∷ m ∷ f ∷ [] ≡ codes "lint" ∷ x ∷ k ∷ y ∷ [] = sym p ∙ q in cc

module _ (words : List Name) (old new : World) (status : Status) where
  of_form : (form : Form) → IsForm words form → IsRunOf form old new status → IsRun words old new status
  of_form form is ran = record {
    of_form = λ other wanted. subst (λ f. IsRunOf f old new status) (one_form words form other is wanted) ran;
    no_form = λ never. absurd (never form is);
  }

  pub of_check : (definition : Name) → words ≡ codes "check" ∷ definition ∷ [] → IsRunOf (check definition) old new status → IsRun words old new status
  of_check definition is ran = of_form (check definition) is ran

  pub of_edit : (definition script : Name) → words ≡ codes "edit" ∷ definition ∷ script ∷ [] → IsRunOf (edit definition script) old new status
      → IsRun words old new status
  of_edit definition script is ran = of_form (edit definition script) is ran

  pub of_windows : (definition script : Name) → words ≡ codes "windows" ∷ definition ∷ script ∷ [] → IsRunOf (windows definition script) old new status
      → IsRun words old new status
  of_windows definition script is ran = of_form (windows definition script) is ran

  pub of_live : (framing : Framing) (definition : Name) → IsForm words (living framing definition)
      → IsRunOf (living framing definition) old new status → IsRun words old new status
  of_live framing definition is ran = of_form (living framing definition) is ran

  pub of_gen : (number : ℕ) → IsForm words (gen number) → IsRunOf (gen number) old new status → IsRun words old new status
  of_gen number is ran = of_form (gen number) is ran

  pub of_layout : (definition script rules : Name) (columns : ℕ) → IsForm words (layout definition script rules columns)
      → IsRunOf (layout definition script rules columns) old new status → IsRun words old new status
  of_layout definition script rules columns is ran = of_form (layout definition script rules columns) is ran

  pub of_itself : (script file : Name) → words ≡ codes "self" ∷ script ∷ file ∷ [] → IsRunOf (itself script file) old new status
      → IsRun words old new status
  of_itself script file is ran = of_form (itself script file) is ran

  pub of_format : (checks : Bool) (definition kind program : Name) → IsForm words (formatting checks definition kind program)
      → IsRunOf (formatting checks definition kind program) old new status → IsRun words old new status
  of_format checks definition kind program is ran = of_form (formatting checks definition kind program) is ran

  pub of_explain : (definition script : Name) → words ≡ codes "explain" ∷ definition ∷ script ∷ [] → IsRunOf (explain definition script) old new status
      → IsRun words old new status
  of_explain definition script is ran = of_form (explain definition script) is ran

  pub of_lint : (definition kind program : Name) → words ≡ codes "lint" ∷ definition ∷ kind ∷ program ∷ []
      → IsRunOf (lint definition kind program) old new status → IsRun words old new status
  of_lint definition kind program is ran = of_form (lint definition kind program) is ran

  -- words of a form are not of none
  pub has_form : (form : Form) → IsForm words form → HasNoForm words → ⊥
  has_form form is never = never form is

pub of_no_form : (words : List Name) (w : World) → HasNoForm words → IsRun words w w ends_with.Words
of_no_form words w never = record { of_form = λ form is. absurd (never form is); no_form = λ none. (refl, refl) }
