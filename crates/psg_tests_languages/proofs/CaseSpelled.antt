-- The text spells its lines: the spaces between the parts, what is skipped, where a row may be.
use Rattle.std.proofs.Common.{◌≡◌, ◌≤◌, ℕ, inl, true, false, List, [], ◌∷◌, codes, Some, refl, sym, ap, ◌∙◌, subst, true≢false, nat_eq, length, drop, get_or, replicate, zero, suc, ◌&&◌, ◌++◌, lit<, lit≤}
use Rattle.std.specs.Prelude.{IsUtf8, chars, encode_utf8_all}
use Rattle.std.specs.Str.Lines.{lines as lines_in}
use Rattle.std.proofs.lemmas.Str.{chars-IsAscii, IsUtf8-from_ascii}
use Rattle.unicode_width.specs.Width.{char_width}
use Rattle.psg_lexis.specs.Classes.{All}
use Rattle.psg_lexis.specs.Tokens.{is_content, quoted}
use Rattle.psg_langs.proofs.AsciiTest.{ascii_by_test}
use Rattle.psg_deflines.specs.Written.{IsWritten, ends_word, begins_word}
use Rattle.psg_deflines.specs.WrittenTrees.{IsQuotable, quoted_part}
use Rattle.psg_deflines.specs.Forms.{SpellsLine}
use Rattle.psg_deflines.specs.Entries.{head_parts, IsEntry, AreEntries, AreSpelled}
use Rattle.psg_tests_languages.proofs.CaseFile.{texts, file, entries, head_text, comment_text, sort_text, phylum_text, list_text, one_text, one_row_text, box_text, box_row_text, nil_text, cell_text, hole_text, sort_line, phylum_line, list_line, one_line, one_row_line, box_line, box_row_line, nil_line, cell_line, hole_line}

-- the lines of the file, the carriage return left out
lines_are : lines_in file ≡ texts
lines_are = refl

-- ---- quoted words

comma_chars : chars (codes ",") ≡ codes ","
comma_chars = chars-IsAscii (codes ",") (ascii_by_test (codes ",") refl)

one_chars : chars (codes "one") ≡ codes "one"
one_chars = chars-IsAscii (codes "one") (ascii_by_test (codes "one") refl)

less_chars : chars (codes "<") ≡ codes "<"
less_chars = chars-IsAscii (codes "<") (ascii_by_test (codes "<") refl)

more_chars : chars (codes ">") ≡ codes ">"
more_chars = chars-IsAscii (codes ">") (ascii_by_test (codes ">") refl)

quotable : (w : List ℕ) → IsUtf8 w → chars w ≡ w → All is_content w → length w ≤ 4096 → IsQuotable w
quotable w utf8 same contents short = record { utf8 = utf8; contents = subst (All is_content) (sym same) contents; short = short }

comma_quotable : IsQuotable (codes ",")
unfolding char_width
comma_quotable = quotable (codes ",") (IsUtf8-from_ascii _ (ascii_by_test (codes ",") refl)) comma_chars (refl, tt) (lit≤ tt)

one_quotable : IsQuotable (codes "one")
unfolding char_width
one_quotable = quotable (codes "one") (IsUtf8-from_ascii _ (ascii_by_test (codes "one") refl)) one_chars (refl, (refl, (refl, tt))) (lit≤ tt)

less_quotable : IsQuotable (codes "<")
unfolding char_width
less_quotable = quotable (codes "<") (IsUtf8-from_ascii _ (ascii_by_test (codes "<") refl)) less_chars (refl, tt) (lit≤ tt)

more_quotable : IsQuotable (codes ">")
unfolding char_width
more_quotable = quotable (codes ">") (IsUtf8-from_ascii _ (ascii_by_test (codes ">") refl)) more_chars (refl, tt) (lit≤ tt)

-- how a word is written where it holds no quote, no backslash and no line feed
as_quoted : (w cs : List ℕ) → chars w ≡ cs → quoted_part w ≡ encode_utf8_all (34 ∷ quoted cs ++ 34 ∷ [])
as_quoted w cs e = ap (λ xs. encode_utf8_all (34 ∷ quoted xs ++ 34 ∷ [])) e

quoted_comma : quoted_part (codes ",") ≡ codes "\",\""
unfolding lib.Utf8.encode
quoted_comma = as_quoted (codes ",") (codes ",") comma_chars

quoted_one : quoted_part (codes "one") ≡ codes "\"one\""
unfolding lib.Utf8.encode
quoted_one = as_quoted (codes "one") (codes "one") one_chars

quoted_less : quoted_part (codes "<") ≡ codes "\"<\""
unfolding lib.Utf8.encode
quoted_less = as_quoted (codes "<") (codes "<") less_chars

quoted_more : quoted_part (codes ">") ≡ codes "\">\""
unfolding lib.Utf8.encode
quoted_more = as_quoted (codes ">") (codes ">") more_chars

-- ---- each text is its line: the number before each rest is that of the spaces

head_written : IsWritten (head_parts 1) head_text
head_written = (1, _, refl, refl, refl)

sort_spelled : SpellsLine sort_text sort_line
sort_spelled = record {
  form = (refl, lit< tt, ((refl, tt), ((refl, tt), tt)));
  written = (1, _, refl, refl, (1, _, refl, refl, (1, _, refl, refl, (1, _, refl, refl, refl))));
}

phylum_spelled : SpellsLine phylum_text phylum_line
phylum_spelled = record { form = (refl, refl); written = (1, _, refl, refl, (1, _, refl, refl, (1, _, refl, refl, refl))) }

list_spelled : SpellsLine list_text list_line
list_spelled = record {
  form = (refl, refl, refl, comma_quotable);
  written = subst (λ p. IsWritten (codes "list" ∷ codes "All" ∷ codes ":" ∷ codes "T" ∷ codes "of" ∷ codes "Exp" ∷ p ∷ codes "inline" ∷ codes "fixed" ∷ []) list_text) (sym quoted_comma)
      (1, _, refl, refl, (1, _, refl, refl, (1, _, refl, refl, (1, _, refl, refl, (1, _, refl, refl, (1, _, refl, refl, (1, _, refl, refl, (1, _, refl, refl, refl))))))));
}

one_spelled : SpellsLine one_text one_line
one_spelled = record {
  form = (refl, refl, tt, lit< tt, (one_quotable, tt));
  written = subst (λ p. IsWritten (codes "op" ∷ codes "one" ∷ codes ":" ∷ codes "Exp" ∷ codes "=" ∷ p ∷ []) one_text) (sym quoted_one)
      (1, _, refl, refl, (1, _, refl, refl, (1, _, refl, refl, (1, _, refl, refl, (1, _, refl, refl, refl)))));
}

one_row_spelled : SpellsLine one_row_text one_row_line
one_row_spelled = record { form = (refl, tt); written = (1, _, refl, refl, refl) }

-- beside a mark or a quoted word no space is needed
box_spelled : SpellsLine box_text box_line
box_spelled = record {
  form = (refl, refl, tt, lit< tt, (less_quotable, (refl, (more_quotable, tt))));
  written = subst (λ p. IsWritten (codes "op" ∷ codes "box" ∷ codes ":" ∷ codes "Exp" ∷ codes "=" ∷ p ∷ codes "Exp" ∷ quoted_part (codes ">") ∷ []) box_text) (sym quoted_less)
      (subst (λ p. IsWritten (codes "op" ∷ codes "box" ∷ codes ":" ∷ codes "Exp" ∷ codes "=" ∷ codes "\"<\"" ∷ codes "Exp" ∷ p ∷ []) box_text) (sym quoted_more)
      (1, _, refl, refl, (0, _, refl, refl, (0, _, refl, refl, (1, _, refl, refl, (1, _, refl, refl, (0, _, refl, refl, (1, _, refl, refl, refl))))))));
}

box_row_spelled : SpellsLine box_row_text box_row_line
box_row_spelled = record { form = (refl, (refl, tt)); written = (1, _, refl, refl, (1, _, refl, refl, (1, _, refl, refl, refl))) }

nil_spelled : SpellsLine nil_text nil_line
nil_spelled = record { form = (refl, refl); written = (1, _, refl, refl, (1, _, refl, refl, refl)) }

cell_spelled : SpellsLine cell_text cell_line
cell_spelled = record { form = (refl, refl, refl, refl); written = (1, _, refl, refl, (1, _, refl, refl, (1, _, refl, refl, (1, _, refl, refl, (1, _, refl, refl, refl))))) }

hole_spelled : SpellsLine hole_text hole_line
hole_spelled = record {
  form = (refl, refl, (refl, refl, refl));
  written = (1, _, refl, refl, (2, _, refl, refl, (1, _, refl, refl, (1, _, refl, refl, (0, _, refl, refl, (0, _, refl, refl, (0, _, refl, refl, refl)))))));
}

-- ---- the file

no_comment : (c : ℕ) → nat_eq c 35 ≡ false → c ≡ 35 → ⊥
no_comment c other e = true≢false (sym (ap (λ d. nat_eq d 35) e) ∙ other)

-- Each row has an operator above it; a comment and an empty line are no lines.
each_entry : AreEntries [] (comment_text ∷ sort_text ∷ [] ∷ phylum_text ∷ list_text ∷ one_text ∷ one_row_text ∷ box_text ∷ box_row_text ∷ nil_text ∷ cell_text ∷ hole_text ∷ []) entries
each_entry = (
  refl,
  (
    record { no_comment = no_comment 115 refl; spelled = sort_spelled; place = tt },
    (
      tt,
      (
        record { no_comment = no_comment 112 refl; spelled = phylum_spelled; place = tt },
        (
          record { no_comment = no_comment 108 refl; spelled = list_spelled; place = tt },
          (
            record { no_comment = no_comment 111 refl; spelled = one_spelled; place = tt },
            (
              record { no_comment = no_comment 114 refl; spelled = one_row_spelled; place = refl },
              (
                record { no_comment = no_comment 111 refl; spelled = box_spelled; place = tt },
                (
                  record { no_comment = no_comment 114 refl; spelled = box_row_spelled; place = refl },
                  (
                    record { no_comment = no_comment 110 refl; spelled = nil_spelled; place = tt },
                    (
                      record { no_comment = no_comment 99 refl; spelled = cell_spelled; place = tt },
                      (record { no_comment = no_comment 104 refl; spelled = hole_spelled; place = tt }, tt),
                    ),
                  ),
                ),
              ),
            ),
          ),
        ),
      ),
    ),
  ),
)

pub file_utf8 : IsUtf8 file
file_utf8 = IsUtf8-from_ascii file (ascii_by_test file refl)

pub spelled : AreSpelled 1 (lines_in file) entries
spelled = record {
  head = (inl refl, head_written);
  each = each_entry;
  of_version = (refl, (refl, (refl, (refl, (refl, (refl, (refl, (refl, (refl, (refl, tt))))))))));
}

-- ---- what is no line

-- a row with no operator above it has no place
no_row_first : IsEntry [] one_row_text (Some one_row_line) → ⊥
no_row_first h = true≢false (sym h.place)

-- two words without a space between are one
no_space : IsWritten (codes "row" ∷ codes "int" ∷ []) (codes "rowint") → ⊥
no_space (zero, rest, is, apart, written) =
    let rest_is : codes "int" ≡ rest = cc in
    true≢false (subst (λ (r : List ℕ). (ends_word (codes "row") && begins_word r) ≡ false) (sym rest_is) apart)
no_space (suc n, rest, is, apart, written) = true≢false (ap (λ (t : List ℕ). begins_word (drop 3 t)) is)

-- there are spaces between parts alone, none after the last one
ends_spaces : (c n : ℕ) → ends_word (c ∷ (replicate n 32 ++ codes "int")) ≡ true
ends_spaces c zero = refl
ends_spaces c (suc n) = ends_spaces 32 n

no_space_after : IsWritten (codes "row" ∷ codes "int" ∷ []) (codes "row int ") → ⊥
no_space_after (n, rest, is, apart, written) =
    let whole : codes "row int " ≡ codes "row" ++ (replicate n 32 ++ codes "int") = is ∙ ap (λ (r : List ℕ). codes "row" ++ (replicate n 32 ++ r)) written in
    true≢false (sym (ends_spaces 119 n) ∙ ap ends_word (sym whole))

-- a file that begins with another line has no head
no_head : IsWritten (head_parts 1) sort_text → ⊥
no_head (n, rest, is, apart, written) = true≢false (sym (ap (λ (t : List ℕ). nat_eq (get_or t 0 0) 112) is))
