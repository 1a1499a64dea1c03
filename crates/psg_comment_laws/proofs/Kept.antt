-- A printed text keeps the comments that are put into it.
use Rattle.std.proofs.Common.{◌≡◌, ℕ, ◌≤◌, List, [], ◌∷◌, map, sym, ap, ◌∙◌, subst, refl, arith}
use Rattle.std.specs.Prelude.{chars, count_by, encode_utf8_all}
use Rattle.std.proofs.lemmas.Str.{encodes-chars, scalars-chars}
use Rattle.psg_terms.specs.Names.{Name}
use Rattle.psg_lexis.specs.Classes.{Chars}
use Rattle.psg_lexis.specs.declared.token.Spanned.{Spanned}
use Rattle.psg_comments.specs.Fitting.{IsFit}
use Rattle.psg_comments.specs.declared.finding.Comment.{Comment}
use Rattle.psg_commented.specs.Noting.{counts, notes_of}
use Rattle.psg_commented.specs.Printing.{with_notes}
use Rattle.psg_commented.specs.Keeping.{token_of, Keeps, KeepsBy, DoesNotKeep, no_text, other_text}
use Rattle.psg_commented.specs.declared.noting.Note.{Note}
use Rattle.psg_comment_laws.specs.Laws.{IsPrinting, AreSame, KeepsAll, LosesNone}
use Rattle.psg_comment_laws.proofs.Once.{one_reading}
use Rattle.psg_comment_laws.proofs.Pieces.{bytes_in, seen_by, AreGood, pieces_keep}
use Rattle.psg_comment_laws.proofs.Saying.{AreSaid, notes_said, AreDue, due_from, notes_due}
use Rattle.psg_comment_laws.proofs.Parting.{Part, part_bytes, spans_of, counted, counted_is, AreParts, IsParted, parted, parts_encoded}
use Rattle.psg_comment_laws.proofs.Printed.{all_pieces, with_bytes, part_token, AreTold, all_told}
use Rattle.psg_comment_laws.proofs.Good.{good_all}

span_tokens : (ps : List Part) (from : ℕ) → map part_token ps ≡ map token_of (spans_of from ps)
span_tokens [] from = refl
span_tokens (p ∷ ps) from = ap (λ l. p.token ∷ l) (span_tokens ps _)

-- a higher bound, and none from below
due_higher : (low high more : ℕ) (ns : List Note) → high ≤ more → AreDue low high ns → AreDue low more ns
due_higher low high more [] l d = tt
due_higher low high more (n ∷ ns) l d =
    let k = d.0.1 in ((d.0.0, omega (arith, l, k)), due_higher n.before high more ns l d.1)

due_up : (high more : ℕ) (ns : List Note) → high ≤ more → (low : ℕ) → AreDue low high ns → AreDue 0 more ns
due_up high more ns l low d = due_from low 0 more ns (omega arith) (due_higher low high more ns l d)

module _ (fixed : List Name) (token : List ℕ) (fit : IsFit fixed token) where
  -- the printed text with any comments is the bytes of pieces, and these comments are told by them
  pub record IsMade (printed : List ℕ) (shown : List Spanned) (notes : List Note) : Type 0 where
    pub parts : List Part
    pub tail : Chars
    pub parts_fit : AreParts fixed parts tail
    pub spans : shown ≡ spans_of 0 parts
    pub bytes : printed ≡ part_bytes parts tail
    pub said : AreSaid fixed token fit notes
    pub told : AreTold (all_pieces parts notes) 0 parts notes

  pub made : (text printed : List ℕ) (ts shown : List Spanned) (comments : List Comment)
      → IsPrinting fixed token text ts comments printed shown → IsMade printed shown (notes_of text ts comments)
  made text printed ts shown comments p =
      let notes : List Note = notes_of text ts comments in
      let r : IsParted fixed [] (chars printed) 0 shown =
      parted fixed (chars printed) 0 shown p.are (scalars-chars printed p.printed_utf8) [] 0 tt (omega arith) in
      let sizes : count_by counts shown ≡ counted r.parts = ap (count_by counts) r.spans ∙ counted_is r.parts 0 in
      let due : AreDue 0 (counted r.parts) notes =
      due_up (count_by counts ts) (counted r.parts) notes (let l = p.enough in omega (arith, l, sizes))
      (seen_by ts 0) (notes_due fixed (chars token) ts text (chars text) 0 comments p.found 0 (omega arith)) in
      record {
        parts = r.parts;
        tail = r.tail;
        parts_fit = r.good;
        spans = r.spans;
        bytes =
            sym (encodes-chars printed p.printed_utf8) ∙ ap encode_utf8_all r.chars ∙ parts_encoded fixed r.parts r.tail r.good;
        said =
            notes_said fixed token fit (chars text) 0 comments p.found (scalars-chars text p.utf8) ts [] text
            (sym (encodes-chars text p.utf8)) refl;
        told = all_told r.parts (counted r.parts) notes due refl;
      }

  pub text_of_pieces : (printed : List ℕ) (shown : List Spanned) (notes : List Note) (m : IsMade printed shown notes)
      (others : List Note) → with_notes printed shown others ≡ bytes_in (all_pieces m.parts others)
  text_of_pieces printed shown notes m others =
      ap (λ us. with_notes printed us others) m.spans ∙ with_bytes m.parts m.tail printed others m.bytes

  pub good_of : (printed : List ℕ) (shown : List Spanned) (notes : List Note) (m : IsMade printed shown notes)
      → AreGood fixed token (all_pieces m.parts notes)
  good_of printed shown notes m = good_all fixed token fit m.parts m.tail m.parts_fit notes m.said

  pub keeps : (text printed : List ℕ) (ts shown : List Spanned) (comments : List Comment)
      → IsPrinting fixed token text ts comments printed shown
      → Keeps fixed token shown (notes_of text ts comments) (with_notes printed shown (notes_of text ts comments))
  keeps text printed ts shown comments p =
      let notes : List Note = notes_of text ts comments in
      let m : IsMade printed shown notes = made text printed ts shown comments p in
      subst (Keeps fixed token shown notes) (sym (text_of_pieces printed shown notes m notes))
      (pieces_keep fixed token fit (all_pieces m.parts notes) (good_of printed shown notes m) shown notes
      (m.told.tokens ∙ span_tokens m.parts 0 ∙ ap (map token_of) (sym m.spans)) m.told.places m.told.says)

  pub keeps_all : KeepsAll fixed token
  keeps_all text printed ts shown comments p = record {
    shown = shown;
    are = p.are;
    text_is = refl;
    keeps = keeps text printed ts shown comments p;
  }

  -- what keeps comments does not lose them: it has its comments in one way
  not_both : (shown : List Spanned) (notes : List Note) (text : List ℕ) → Keeps fixed token shown notes text
      → DoesNotKeep fixed token shown notes text → ⊥
  not_both shown notes text k (no_text never) = never k.utf8
  not_both shown notes text k (other_text comments blanked is never) =
      let same : AreSame k.comments comments k.blanked blanked =
      one_reading fixed token fit text k.comments comments k.blanked blanked k.found is in
      never (subst (λ c. KeepsBy fixed shown notes text c blanked) same.same_comments
      (subst (λ b. KeepsBy fixed shown notes text k.comments b) same.same_bytes k.by))

  pub loses_none : LosesNone fixed token
  loses_none text printed ts shown comments p lost =
      not_both shown (notes_of text ts comments) (with_notes printed shown (notes_of text ts comments))
      (keeps text printed ts shown comments p) (lost shown p.are)
