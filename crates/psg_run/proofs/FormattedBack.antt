-- The text that a program file is to have reads back as the program.
use Rattle.std.proofs.Common.{◌≡◌, ◌⊎◌, inl, inr, ℕ, zero, suc, ◌+◌, ◌<◌, ◌≤◌, ◌==◌, Bool, true, false, true≢false, cond, List, [], ◌∷◌, ◌++◌, take, drop, refl, sym, ap, ◌∙◌, subst, append-nil, arith}
use Rattle.std.specs.Prelude.{bytes_eq, chars, encode_utf8}
use Rattle.std.specs.List.{AllByRecursion}
use Rattle.std.specs.Str.{IsUtf8}
use lib.Utf8.{encode}
use Rattle.std.proofs.lemmas.List.{take-append-drop}
use Rattle.std.proofs.lemmas.Slice.Eq.{bytes_eq-Decides}
use Rattle.std.proofs.lemmas.Str.{IsUtf8-append, chars-append, chars-nil, chars_past_char}
use Rattle.unicode_ident.proofs.Computing.{unicode_ident}
use Rattle.psg_terms.specs.Names.{Name}
use Rattle.psg_terms.specs.Words.{IsWord, goes_on_word, starts_word}
use Rattle.psg_lexis.specs.Classes.{BeginsBy, Chars, is_blank, is_digit, is_solo, is_symbol}
use Rattle.psg_lexis.specs.Tokens.{HasTokens, IsFixedWord, IsToken, blank, bytes_of, dots, hole, more, next, nothing, number, solo, symbol, text, word}
use Rattle.psg_lexis.specs.declared.token.Spanned.{Spanned}
use Rattle.psg_lexis.specs.declared.token.Token.{Token}
use Rattle.psg_lexis.proofs.Joining.{IsApart, joined_tokens}
use Rattle.psg_grammar.specs.declared.types.Definition.{Definition}
use Rattle.psg_grammar.specs.declared.types.Kind.{Kind}
use Rattle.psg_grammar.specs.Fragments.{Fragment}
use Rattle.psg_grammar.specs.Printable.{IsPrintable}
use Rattle.psg_grammar.specs.Sizes.{depth_of}
use Rattle.psg_grammar.specs.Sound.{IsSound}
use Rattle.psg_grammar.specs.WellFormed.{fixed_words}
use Rattle.psg_class.specs.Class.{IsClass}
use Rattle.psg_class.specs.Texts.{TextTokens}
use Rattle.psg_unparse.specs.Back.{ReadsBack}
use Rattle.psg_unparse.specs.Layout.{text_of}
use Rattle.psg_unparse.proofs.Lexing.{chars_gap}
use Rattle.psg_unparse.proofs.PrintedTree.{printed_reads_back}
use Rattle.psg_textedit.proofs.TypedNode.{text_utf8}
use Rattle.psg_session.proofs.PrintableYields.{reads_printable}
use Rattle.psg_session.proofs.TypedLaws.{one_tree}
use Rattle.psg_program.specs.Decoding.{mark, unmarked}
use Rattle.psg_program.specs.Formatted.{formatted}
use Rattle.psg_program.specs.Programs.{IsProgram, IsProgramText}
use Rattle.psg_run.specs.FormatLaws.{FormatsOnce}

at_most : (limit n : ℕ) → (limit < n → ⊥) → n ≤ limit
at_most limit n never = elim (cases limit n) [ inl lt ↦ absurd (never lt) | inr le ↦ le ] where
  cases : (a b : ℕ) → (a < b) ⊎ (b ≤ a)
  cases a zero = inr (omega arith)
  cases zero (suc b) = inl (omega arith)
  cases (suc a) (suc b) = elim (cases a b) [ inl h ↦ inl (omega (arith, h)) | inr h ↦ inr (omega (arith, h)) ]

-- ---- a line feed at the end

feed_ends_words : goes_on_word 10 ≡ false
unfolding unicode_ident
feed_ends_words = refl

-- nothing runs together with a line feed
feed_apart : (xs : Chars) → IsApart xs (10 ∷ [])
feed_apart xs = record {
  apart = λ front behind c d whole is glue.
      let same : d ≡ 10 = cc in
      elim glue [
        | inl both ↦ true≢false (sym both.1 ∙ ap goes_on_word same ∙ feed_ends_words)
        | inr both ↦ true≢false (sym both.1 ∙ ap is_symbol same)
      ];
}

one_feed : chars (10 ∷ []) ≡ 10 ∷ []
one_feed = chars_gap 10 [] (inr refl) ∙ ap (λ cs. 10 ∷ cs) chars-nil

feed_utf8 : IsUtf8 (10 ∷ [])
unfolding encode
feed_utf8 = (10 ∷ [], (refl, refl))

fed_tokens : (fixed : List Name) (bytes : List ℕ) (ts : List Spanned) → IsUtf8 bytes → HasTokens fixed (chars bytes) 0 ts
    → HasTokens fixed (chars (bytes ++ 10 ∷ [])) 0 ts
fed_tokens fixed bytes ts utf8 are =
    subst (λ cs. HasTokens fixed cs 0 ts)
    (sym (chars-append bytes (10 ∷ []) utf8 ∙ ap (λ cs. chars bytes ++ cs) one_feed))
    (subst (HasTokens fixed (chars bytes ++ 10 ∷ []) 0) (append-nil ts)
    (joined_tokens fixed (chars bytes) 0 ts (10 ∷ []) [] (feed_apart (chars bytes)) are
    (blank 10 [] (0 + bytes_of (chars bytes)) [] refl (nothing (0 + bytes_of (chars bytes) + 1)))))

-- ---- no byte order mark at the beginning

mark_starts_none : starts_word 65279 ≡ false
unfolding unicode_ident
mark_starts_none = refl

marked_char : encode_utf8 65279 ≡ mark
unfolding encode
marked_char = refl

-- characters that begin so do not begin with it
by_test : (test : ℕ → Bool) → test 65279 ≡ false → (ds rest cs : Chars) → BeginsBy test ds
    → 65279 ∷ cs ≡ ds ++ rest → ⊥
by_test test none [] rest cs begins e = true≢false (sym begins)
by_test test none (d ∷ ds) rest cs begins e =
    let same : 65279 ≡ d = cc in
    true≢false (sym begins ∙ ap test (sym same) ∙ none)

word_begins : (ds : Chars) → IsWord ds → BeginsBy starts_word ds
word_begins [] w = absurd w
word_begins (d ∷ ds) w = w.0

no_mark_token : (fixed : List Name) (front rest cs : Chars) (t : Token) → IsToken fixed front rest t
    → 65279 ∷ cs ≡ front ++ rest → ⊥
no_mark_token fixed front rest cs t (word ds after is ends short) e =
    by_test starts_word mark_starts_none ds rest cs (word_begins ds is) e
no_mark_token fixed front rest cs t (number ds after run ends small) e = by_test is_digit refl ds rest cs run.begins e
no_mark_token fixed front rest cs t (text ds written after is all short) e =
    by_test (λ d. d == 34) refl (34 ∷ written) rest cs refl e
no_mark_token fixed front rest cs t (solo c after is) e = by_test is_solo refl (c ∷ []) rest cs is e
no_mark_token fixed front rest cs t (symbol ds after run among other) e =
    by_test is_symbol refl ds rest cs run.begins e
no_mark_token fixed front rest cs t (hole ds after is ends short) e =
    by_test (λ d. d == 63) refl (63 ∷ ds) rest cs refl e
no_mark_token fixed front rest cs t (more after ends) e = by_test is_symbol refl dots rest cs refl e

no_mark_tokens : (fixed : List Name) (all : Chars) (from : ℕ) (ts : List Spanned) → HasTokens fixed all from ts
    → (cs : Chars) → 65279 ∷ cs ≡ all → ⊥
no_mark_tokens fixed all from ts (nothing at) cs e = cc
no_mark_tokens fixed all from ts (blank c ds at us is behind) cs e =
    let same : 65279 ≡ c = cc in
    true≢false (sym is ∙ ap is_blank (sym same))
no_mark_tokens fixed all from ts (next whole at s us begins behind) cs e =
    no_mark_token fixed begins.front begins.rest cs s.token begins.token (e ∙ begins.whole)

pub no_mark : (fixed : List Name) (bytes : List ℕ) (ts : List Spanned) → IsUtf8 bytes
    → HasTokens fixed (chars bytes) 0 ts → unmarked bytes ≡ bytes
no_mark fixed bytes ts utf8 are = decide (bytes_eq (take 3 bytes) mark) refl where
  decide : (b : Bool) → bytes_eq (take 3 bytes) mark ≡ b → unmarked bytes ≡ bytes
  decide false e = ap (λ b. cond b (drop 3 bytes) bytes) e
  decide true e =
      let front : take 3 bytes ≡ encode_utf8 65279 = (bytes_eq-Decides (take 3 bytes) mark).0 e ∙ sym marked_char in
      let whole : bytes ≡ encode_utf8 65279 ++ drop 3 bytes =
      sym (take-append-drop 3 bytes) ∙ ap (λ l. l ++ drop 3 bytes) front in
      absurd (no_mark_tokens fixed (chars bytes) 0 ts are (chars (drop 3 bytes))
      (sym (chars_past_char bytes (drop 3 bytes) 65279 utf8 whole)))

-- ---- programs

module _ (def : Definition) (sound : IsSound def) (words : AllByRecursion IsFixedWord (fixed_words def))
    (class : IsClass def) where
  module _ (kind : Kind) (bytes : List ℕ) (f : Fragment) (p : IsProgram def kind bytes f) where
    printable : IsPrintable f
    printable = reads_printable def (unmarked bytes) kind 0 p.is_read.nesting f p.is_text p.is_read.reads

    reads_back : ReadsBack def f kind
    reads_back = printed_reads_back def sound words class f printable kind p.is_read.formed

    utf8 : IsUtf8 (text_of def f)
    utf8 = text_utf8 def sound words class f kind printable p.is_read.formed

    fed : TextTokens def (formatted def f) reads_back.reads.tokens
    fed = fed_tokens (fixed_words def) (text_of def f) reads_back.reads.tokens utf8 reads_back.reads.are

    all_utf8 : IsUtf8 (formatted def f)
    all_utf8 = IsUtf8-append (text_of def f) (10 ∷ []) utf8 feed_utf8

    same : unmarked (formatted def f) ≡ formatted def f
    same = no_mark (fixed_words def) (formatted def f) reads_back.reads.tokens all_utf8 fed

    not_deep : depth_of f ≤ 200
    not_deep = let never = p.is_read.depth in at_most 200 (depth_of f) never

    read_back : IsProgramText def kind (formatted def f) f
    read_back = record {
      nesting = reads_back.nesting;
      reads = record { tokens = reads_back.reads.tokens; are = fed; yields = reads_back.reads.yields };
      formed = p.is_read.formed;
      depth = p.is_read.depth;
      brackets = let less = reads_back.shallow in let le = not_deep in omega (arith, less, le);
      small = p.is_read.small;
    }

    pub program_back : IsProgram def kind (formatted def f) f
    program_back = record {
      is_text = subst IsUtf8 (sym same) all_utf8;
      is_read = subst (λ t. IsProgramText def kind t f) (sym same) read_back;
    }

  -- a file has one program
  pub one_program : (kind : Kind) (bytes : List ℕ) (f g : Fragment) → IsProgram def kind bytes f
      → IsProgram def kind bytes g → f ≡ g
  one_program kind bytes f g p q =
      (one_tree def class kind (unmarked bytes) f g p.is_read.nesting q.is_read.nesting p.is_read.reads q.is_read.reads).tree

  pub formats_once : FormatsOnce def
  formats_once = record {
    back = program_back;
    once = λ kind bytes f g p q.
        ap (formatted def) (one_program kind (formatted def f) g f q (program_back kind bytes f p));
  }
