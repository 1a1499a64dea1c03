-- What is written of a printable fragment keeps it.
use Rattle.std.proofs.Common.{◌≡◌, ◌⊎◌, inl, inr, ℕ, zero, suc, ◌<◌, ◌≤◌, ◌+◌, ◌*◌, Bool, true, false, cond, ◌&&◌, List, [], ◌∷◌, ◌++◌, replicate, Option, Some, None, refl, sym, ap, ◌∙◌, subst, arith, append-nil}
use Rattle.std.specs.Prelude.{map, not, codes}
use Rattle.std.specs.Option.{option_map, unwrap_or}
use Rattle.std.specs.Str.{chars, IsUtf8}
use Rattle.std.specs.Str.Lines.{strip_carriage_return}
use Rattle.std.specs.List.{AllByRecursion, list_any}
use Rattle.std.proofs.lemmas.Bool.{false≢true}
use Rattle.std.proofs.lemmas.Option.{slice_get_within}
use Rattle.std.proofs.lemmas.Str.{chars-append, IsUtf8-append, IsUtf8-nil}
use Rattle.psg_terms.proofs.Lists.{each_at, slice_get_some}
use lib.Utf8.{encode}
use Rattle.unicode_ident.proofs.Computing.{unicode_ident}
use Rattle.psg_terms.specs.Names.{Name}
use Rattle.psg_lexis.specs.Classes.{Glue}
use Rattle.psg_lexis.specs.Tokens.{bytes_of as size_of, HasTokens, nothing, blank, IsFixedWord}
use Rattle.psg_lexis.specs.declared.token.Token.{Token}
use Rattle.psg_lexis.specs.declared.token.Spanned.{Spanned}
use Rattle.psg_lexis.proofs.Joining.{IsApart, joined_tokens}
use Rattle.psg_grammar.specs.declared.types.Kind.{Kind}
use Rattle.psg_grammar.specs.declared.types.Kind.TheVariants as kinds
use Rattle.psg_grammar.specs.declared.types.Item.{Item}
use Rattle.psg_grammar.specs.declared.types.Item.TheVariants as items
use Rattle.psg_grammar.specs.declared.types.Phylum.{Phylum}
use Rattle.psg_grammar.specs.declared.types.ListKind.{ListKind}
use Rattle.psg_grammar.specs.declared.types.Definition.{Definition}
use Rattle.psg_grammar.specs.Fragments.{Fragment, hole, ending, cell, operator, with_child, with_name, with_number, with_text, anything, observed}
use Rattle.psg_grammar.specs.Kinds.{HasKind, kind_name_of}
use Rattle.psg_grammar.specs.Printable.{IsPrintable}
use Rattle.psg_grammar.specs.Sizes.{depth_of}
use Rattle.psg_grammar.specs.Sound.{IsSound, IsKindName, IsPhylum}
use Rattle.psg_grammar.specs.WellFormed.{Fits, WellFormed, fixed_words}
use Rattle.psg_grammar.proofs.SoundParts.{list_sound, phylum_in}
use Rattle.psg_class.specs.Class.{IsClass}
use Rattle.psg_class.specs.Texts.{ReadsAs}
use Rattle.psg_class.proofs.ClassFacts.{facts}
use Rattle.psg_unparse.specs.Rows.{Piece, token, mark, row}
use Rattle.psg_unparse.specs.Layout.{is_line, is_tight, is_space, gap, gap_after, glues_first, laid, last_in, marks_behind, open_behind, text_of}
use Rattle.psg_unparse.proofs.Lexing.{RowTokens, no_pieces, a_mark, a_token}
use Rattle.psg_unparse.proofs.Claims.{WholeBack}
use Rattle.psg_unparse.proofs.FixedTokens.{has_tokens}
use Rattle.psg_unparse.proofs.PrintedTree.{printed_reads_back}
use Rattle.psg_unparse.proofs.Trees.{claim}
use Rattle.psg_script.specs.Forms.{IsName}
use Rattle.psg_library.specs.declared.fragment.SavedFragment.{SavedFragment}
use Rattle.psg_library.specs.Heads.{head_of, first_line, text_in, IsHead}
use Rattle.psg_library.specs.Keeping.{bytes_of, IsKept, IsKeptIfPrintable}
use Rattle.psg_library.proofs.FirstLines.{not_returned}
use Rattle.psg_library.proofs.Plain.{AllAscii, AllPlain, ascii_utf8, all_ascii, name_plain, kind_plain, head_plain, line_of, rest_of, no_return}

-- ---- the text of a row is UTF-8

spaces : (n : ℕ) → AllAscii (replicate n 32)
spaces zero = tt
spaces (suc n) = (refl, spaces n)

gap_ascii : (line tight glued : Bool) (n : ℕ)
    → AllAscii (cond line (10 ∷ replicate n 32) (cond tight (cond glued (32 ∷ []) []) (32 ∷ [])))
gap_ascii true tight glued n = (refl, spaces n)
gap_ascii false true true n = (refl, tt)
gap_ascii false true false n = tt
gap_ascii false false glued n = (refl, tt)

gap_utf8 : (c : Option ℕ) (before : List Piece) (cs : List ℕ) → IsUtf8 (gap_after c before cs)
gap_utf8 None before cs = IsUtf8-nil
gap_utf8 (Some c) before cs = ascii_utf8 (gap_after (Some c) before cs)
    (gap_ascii (list_any is_line (marks_behind [] before))
    (list_any is_tight (marks_behind [] before) && not (list_any is_space (marks_behind [] before))) (glues_first c cs)
    (2 * open_behind 0 before))

laid_utf8 : (fixed : List Name) (before r : List Piece) (ts : List Token) → RowTokens fixed r ts → IsUtf8 (laid before r)
laid_utf8 fixed before _ _ no_pieces = IsUtf8-nil
laid_utf8 fixed before _ _ (a_mark {i = i} {r = r} {ts = ts} y) = laid_utf8 fixed (before ++ mark i ∷ []) r ts y
laid_utf8 fixed before _ _ (a_token {w = w} {t = t} {r = r} {ts = ts} x y) =
    let rest : List ℕ = laid (before ++ token w ∷ []) r in
    IsUtf8-append (gap before w) (w ++ rest) (gap_utf8 (last_in None before) before (chars w))
    (IsUtf8-append w rest x.utf8 (laid_utf8 fixed (before ++ token w ∷ []) r ts y))

-- ---- a line feed behind a text

feed_apart : (c : ℕ) → Glue c 10 → ⊥
unfolding unicode_ident
feed_apart c (inl (p, q)) = false≢true q
feed_apart c (inr (p, q)) = false≢true q

chars_feed : (text : List ℕ) → IsUtf8 text → chars (text ++ 10 ∷ []) ≡ chars text ++ 10 ∷ []
unfolding chars encode
chars_feed text u = chars-append text (10 ∷ []) u

fed_tokens : (fixed : List Name) (cs : List ℕ) (ts : List Spanned) → HasTokens fixed cs 0 ts
    → HasTokens fixed (cs ++ 10 ∷ []) 0 ts
fed_tokens fixed cs ts h =
    let apart : IsApart cs (10 ∷ []) = record {
      apart = λ front behind c d e k g. let same : d ≡ 10 = cc in feed_apart c (subst (Glue c) same g);
    } in
    subst (HasTokens fixed (cs ++ 10 ∷ []) 0) (append-nil ts)
    (joined_tokens fixed cs 0 ts (10 ∷ []) [] apart h (blank 10 [] (0 + size_of cs) [] refl (nothing (0 + size_of cs + 1))))

fed_reads : (def : Definition) (kind : Kind) (text : List ℕ) (f : Fragment) (n : ℕ) → IsUtf8 text
    → ReadsAs def kind 0 text f n → ReadsAs def kind 0 (text ++ 10 ∷ []) f n
fed_reads def kind text f n u r = record {
  tokens = r.tokens;
  are =
      subst (λ cs. HasTokens (fixed_words def) cs 0 r.tokens) (sym (chars_feed text u))
      (fed_tokens (fixed_words def) (chars text) r.tokens r.are);
  yields = r.yields;
}

-- ---- the name of a kind

module _ (def : Definition) (sound : IsSound def) where
  pub kind_there : (f : Fragment) (more : List Item) (kind : Kind) → Fits def f more kind → HasKind def kind
  kind_there (hole p) more kind h = subst (HasKind def) (sym h.1) h.2
  kind_there (ending l u) more kind h =
      subst (HasKind def) (sym h.1) (slice_get_within def.lists l h.2.0 h.2.1)
  kind_there (cell l e r) more kind h = subst (HasKind def) (sym h.1) (slice_get_within def.lists l h.2 h.3)
  kind_there (operator o) more kind h = subst (HasKind def) (sym h.3) (phylum_in def sound o h.0 h.1)
  kind_there (with_child f t) more kind h = kind_there f (items.Slot h.0 ∷ more) kind h.1
  kind_there (with_name f n) more kind (inl (s, h), name) = kind_there f (items.Refers s ∷ more) kind h
  kind_there (with_name f n) more kind (inr (s, h), name) = kind_there f (items.Declares s ∷ more) kind h
  kind_there (with_number f n) more kind h = kind_there f (items.Number ∷ more) kind h.0
  kind_there (with_text f t) more kind h = kind_there f (items.Text ∷ more) kind h.0
  kind_there anything more kind h = absurd h
  kind_there (observed f) more kind h = kind_there f [] kind h.1

  record HasKindWord (kind : Kind) : Type 0 where
    word : List ℕ
    named : kind_name_of def kind ≡ Some word
    formed : IsKindName word

  kind_word : (kind : Kind) → HasKind def kind → HasKindWord kind
  kind_word (kinds.Phylum p) h =
      let k = slice_get_some def.phyla p h in
      record {
        word = k.0.name;
        named = ap (option_map (λ (x : Phylum). x.name)) k.1;
        formed = (each_at (IsPhylum def) def.phyla sound.phyla p k.0 k.1).name;
      }
  kind_word (kinds.List l) h =
      let k = slice_get_some def.lists l h in
      record {
        word = k.0.name;
        named = ap (option_map (λ (x : ListKind). x.name)) k.1;
        formed = (list_sound def sound l k.0 k.1).name;
      }

-- ---- the bytes

module _ (def : Definition) (sound : IsSound def) (words : AllByRecursion IsFixedWord (fixed_words def)) (class : IsClass def) where
  whole_utf8 : (f : Fragment) (kind : Kind) → WholeBack def f kind → IsUtf8 (text_of def f)
  whole_utf8 f (kinds.Phylum p) a = laid_utf8 (fixed_words def) [] (row def f) a.tokens a.has
  whole_utf8 f (kinds.List l) a = laid_utf8 (fixed_words def) [] (row def f) a.tokens a.has

  text_utf8 : (f : Fragment) (kind : Kind) → IsPrintable f → WellFormed def f kind → IsUtf8 (text_of def f)
  text_utf8 f kind printable formed =
      whole_utf8 f kind
      ((claim def sound (facts def class) (has_tokens def words) f [] kind formed.0 formed.1 printable).whole refl)

  pub written_is_kept : (s : SavedFragment) → IsKeptIfPrintable def s
  written_is_kept s name printable formed depth =
      let w = kind_word def sound s.kind (kind_there def sound s.tree [] s.kind formed.0) in
      let plain = kind_plain w.word w.formed in
      let text : List ℕ = text_of def s.tree in
      let head : List ℕ = head_of s.name w.word in
      let heads : AllPlain head = head_plain s.name w.word (name_plain s.name name) plain.0 in
      let utf8 : IsUtf8 text = text_utf8 s.tree s.kind printable formed in
      let back = printed_reads_back def sound words class s.tree printable s.kind formed in
      let rest : List ℕ = text ++ 10 ∷ [] in
      let whole : IsUtf8 (head ++ 10 ∷ rest) =
      IsUtf8-append head (10 ∷ rest) (ascii_utf8 head (all_ascii head heads))
      (IsUtf8-append (10 ∷ []) rest (ascii_utf8 (10 ∷ []) (refl, tt)) (IsUtf8-append text (10 ∷ []) utf8 (ascii_utf8 (10 ∷ []) (refl, tt)))) in
      let line : first_line (head ++ 10 ∷ rest) ≡ head =
      ap strip_carriage_return (line_of head rest heads) ∙ sym (not_returned head (no_return head heads)) in
      let made : IsKept def (head ++ 10 ∷ rest) s =
      record {
        begins = record {
          word = w.word;
          head = record {
            utf8 = whole;
            head = record { named = name; more = plain.1; written = inl line };
          };
          kind_word = w.named;
        };
        reads = record {
          nesting = back.nesting;
          reads = subst (λ t. ReadsAs def s.kind 0 t s.tree back.nesting) (sym (rest_of head rest heads))
              (fed_reads def s.kind text s.tree back.nesting utf8 back.reads);
          depth = depth;
          brackets = let low : back.nesting < depth_of s.tree = back.shallow in omega (arith, low, depth);
        };
      } in
      subst (λ x. IsKept def (head_of s.name x ++ 10 ∷ rest) s) (sym (ap (λ o. unwrap_or o []) w.named)) made
