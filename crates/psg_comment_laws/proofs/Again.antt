-- What was printed with comments is printed with its own comments as it is.
use Rattle.std.proofs.Common.{◌≡◌, ℕ, suc, ◌+◌, ◌==◌, Bool, true, false, cond, List, [], ◌∷◌, ◌++◌, length, take, drop, map, replicate, sym, ap, ◌∙◌, subst, refl, append_assoc, arith}
use Rattle.std.specs.Prelude.{chars, nat_le, not, ◌&&◌}
use Rattle.std.specs.List.{prefix_len}
use Rattle.std.proofs.lemmas.List.{take_at, drop_at, take-map, drop-map, length-map, length-take-le}
use Rattle.std.proofs.lemmas.List.Sums.{prefix_len-le-length}
use Rattle.psg_terms.specs.Names.{Name}
use Rattle.psg_lexis.specs.Classes.{Chars}
use Rattle.psg_lexis.specs.Tokens.{HasTokens}
use Rattle.psg_lexis.specs.declared.token.Token.{Token}
use Rattle.psg_lexis.specs.declared.token.Spanned.{Spanned}
use Rattle.psg_lexis.proofs.Laws.{only_tokens}
use Rattle.psg_comments.specs.Fitting.{IsFit}
use Rattle.psg_comments.specs.Blanking.{IsBlanked}
use Rattle.psg_comments.specs.declared.finding.Comment.{Comment}
use Rattle.psg_commented.specs.Noting.{is_counted, notes_of}
use Rattle.psg_commented.specs.Printing.{closes, is_due, due, level_after, comment_level, token_level, with_notes}
use Rattle.psg_commented.specs.Keeping.{place_of, words_of}
use Rattle.psg_commented.specs.declared.noting.Note.{Note}
use Rattle.psg_comment_laws.specs.Laws.{AreSame, PrintsOnce}
use Rattle.psg_comment_laws.proofs.Once.{one_reading}
use Rattle.psg_comment_laws.proofs.Pieces.{Piece, a_blank, a_token, a_comment, bytes_in, blank_bytes, comments_in, own_in, are_said, are_placed, own_seen, pieces_blanked, pieces_tokens}
use Rattle.psg_comment_laws.proofs.Parting.{Part}
use Rattle.psg_comment_laws.proofs.Printed.{line_pieces, lead_pieces, lines_pieces, behind_pieces, gap_pieces, pieces, head_pieces, all_pieces}
use Rattle.psg_comment_laws.proofs.Trails.{trail_of, trails_in, no_token, are_trailed}
use Rattle.psg_comment_laws.proofs.Kept.{IsMade, made, text_of_pieces, good_of}

-- ---- the pieces of comments, by what these say, and whether the first is on the line of its token

abbrev first_trail : List Bool → Bool
first_trail [] = false
first_trail (s ∷ ss) = s

abbrev lines_by : ℕ → List (List ℕ) → List Piece
lines_by level [] = []
lines_by level (b ∷ bs) = line_pieces level ++ (a_comment b ∷ lines_by level bs)

abbrev behind_by : ℕ → List (List ℕ) → Bool → List Piece
behind_by level [] s = []
behind_by level (b ∷ bs) s = lead_pieces level s ++ (a_comment b ∷ lines_by level bs)

abbrev gap_by : ℕ → List ℕ → List (List ℕ) → Bool → List Piece
gap_by level gap [] s = map a_blank gap
gap_by level gap (b ∷ bs) s = behind_by (comment_level level gap) (b ∷ bs) s ++ line_pieces (token_level level gap)

abbrev heads_by : List (List ℕ) → List Piece
heads_by [] = []
heads_by (b ∷ bs) = a_comment b ∷ a_blank 10 ∷ heads_by bs

lines_are : (level : ℕ) (ns : List Note) → lines_pieces level ns ≡ lines_by level (map words_of ns)
lines_are level [] = refl
lines_are level (n ∷ ns) = ap (λ l. line_pieces level ++ (a_comment n.text ∷ l)) (lines_are level ns)

behind_are : (level : ℕ) (ns : List Note)
    → behind_pieces level ns ≡ behind_by level (map words_of ns) (first_trail (map trail_of ns))
behind_are level [] = refl
behind_are level (n ∷ ns) = ap (λ l. lead_pieces level n.trails ++ (a_comment n.text ∷ l)) (lines_are level ns)

gap_are : (level : ℕ) (gap : List ℕ) (ns : List Note)
    → gap_pieces level gap ns ≡ gap_by level gap (map words_of ns) (first_trail (map trail_of ns))
gap_are level gap [] = refl
gap_are level gap (n ∷ ns) =
    ap (λ l. l ++ line_pieces (token_level level gap)) (behind_are (comment_level level gap) (n ∷ ns))

heads_are : (ns : List Note) → head_pieces ns ≡ heads_by (map words_of ns)
heads_are [] = refl
heads_are (n ∷ ns) = ap (λ l. a_comment n.text ∷ a_blank 10 ∷ l) (heads_are ns)

-- ---- which of them are on the line of a token

blanks_off : (bs : List ℕ) (ps : List Piece) → trails_in false (map a_blank bs ++ ps) ≡ trails_in false ps
blanks_off [] ps = refl
blanks_off (b ∷ bs) ps = blanks_off bs ps

and_off : (s : Bool) → (s && false) ≡ false
and_off true = refl
and_off false = refl

line_off : (level : ℕ) (s : Bool) (ps : List Piece) → trails_in s (line_pieces level ++ ps) ≡ trails_in false ps
line_off level s ps =
    ap (λ q. trails_in q (map a_blank (replicate level 32) ++ ps)) (and_off s) ∙ blanks_off (replicate level 32) ps

lead_trails : (level : ℕ) (s : Bool) (ps : List Piece) → trails_in true (lead_pieces level s ++ ps) ≡ trails_in s ps
lead_trails level true ps = refl
lead_trails level false ps = line_off level true ps

abbrev off : Note → Bool
off n = false

abbrev lines_state : Bool → List Note → Bool
lines_state s [] = s
lines_state s (n ∷ ns) = lines_state false ns

lines_trails : (level : ℕ) (ns : List Note) (s : Bool) (ps : List Piece)
    → trails_in s (lines_pieces level ns ++ ps) ≡ map off ns ++ trails_in (lines_state s ns) ps
lines_trails level [] s ps = refl
lines_trails level (n ∷ ns) s ps =
    ap (trails_in s) (append_assoc (line_pieces level) (a_comment n.text ∷ lines_pieces level ns) ps)
    ∙ line_off level s (a_comment n.text ∷ (lines_pieces level ns ++ ps))
    ∙ ap (λ l. false ∷ l) (lines_trails level ns false ps)

behind_trails : (level : ℕ) (n : Note) (ns : List Note) (ps : List Piece)
    → trails_in true (behind_pieces level (n ∷ ns) ++ ps) ≡ n.trails ∷ (map off ns ++ trails_in (lines_state n.trails ns) ps)
behind_trails level n ns ps =
    ap (trails_in true) (append_assoc (lead_pieces level n.trails) (a_comment n.text ∷ lines_pieces level ns) ps)
    ∙ lead_trails level n.trails (a_comment n.text ∷ (lines_pieces level ns ++ ps))
    ∙ ap (λ l. n.trails ∷ l) (lines_trails level ns n.trails ps)

blanks_token : (bs : List ℕ) (s : Bool) (cs : Chars) (t : Token) (ps : List Piece)
    → trails_in s (map a_blank bs ++ (a_token cs t ∷ ps)) ≡ trails_in true ps
blanks_token [] s cs t ps = refl
blanks_token (b ∷ bs) s cs t ps = blanks_token bs (s && not (b == 10)) cs t ps

abbrev own_trails : List Note → List Bool
own_trails [] = []
own_trails (n ∷ ns) = n.trails ∷ map off ns

gap_trails : (level : ℕ) (gap : List ℕ) (ns : List Note) (cs : Chars) (t : Token) (ps : List Piece)
    → trails_in true (gap_pieces level gap ns ++ (a_token cs t ∷ ps)) ≡ own_trails ns ++ trails_in true ps
gap_trails level gap [] cs t ps = blanks_token gap true cs t ps
gap_trails level gap (n ∷ ns) cs t ps =
    ap (trails_in true) (append_assoc (behind_pieces (comment_level level gap) (n ∷ ns)) (line_pieces (token_level level gap)) (a_token cs t ∷ ps))
    ∙ behind_trails (comment_level level gap) n ns (line_pieces (token_level level gap) ++ (a_token cs t ∷ ps))
    ∙ ap (λ l. n.trails ∷ (map off ns ++ l)) (line_off (token_level level gap) (lines_state n.trails ns) (a_token cs t ∷ ps))

heads_trails : (ns : List Note) (ps : List Piece) → trails_in false (head_pieces ns ++ ps) ≡ map off ns ++ trails_in false ps
heads_trails [] ps = refl
heads_trails (n ∷ ns) ps = ap (λ l. false ∷ l) (heads_trails ns ps)

own_size : (ns : List Note) → length (own_trails ns) ≡ length ns
own_size [] = refl
own_size (n ∷ ns) = let k = length-map ns off in omega (arith, k)

own_first : (ns : List Note) → first_trail (own_trails ns) ≡ first_trail (map trail_of ns)
own_first [] = refl
own_first (n ∷ ns) = refl

-- ---- comments that say the same at the same places

due_by : (notes : List Note) (seen : ℕ)
    → prefix_len (is_due seen) notes ≡ prefix_len (λ m. nat_le m seen) (map place_of notes)
due_by [] seen = refl
due_by (n ∷ ns) seen = ap (λ k. cond (nat_le n.before seen) (1 + k) 0) (due_by ns seen)

same_due : (notes others : List Note) (seen : ℕ) → map place_of others ≡ map place_of notes
    → prefix_len (is_due seen) others ≡ prefix_len (is_due seen) notes
same_due notes others seen e =
    due_by others seen ∙ ap (prefix_len (λ m. nat_le m seen)) e ∙ sym (due_by notes seen)

same_take : {Y : Type 0} (f : Note → Y) (k : ℕ) (notes others : List Note) → map f others ≡ map f notes
    → map f (take k others) ≡ map f (take k notes)
same_take f k notes others e = sym (take-map f k others) ∙ ap (take k) e ∙ take-map f k notes

same_drop : {Y : Type 0} (f : Note → Y) (k : ℕ) (notes others : List Note) → map f others ≡ map f notes
    → map f (drop k others) ≡ map f (drop k notes)
same_drop f k notes others e = sym (drop-map f k others) ∙ ap (drop k) e ∙ drop-map f k notes

none_left : (p : Note → Bool) (notes : List Note) → prefix_len p (drop (prefix_len p notes) notes) ≡ 0
none_left p [] = refl
none_left p (n ∷ ns) = by (p n) refl (none_left p ns)
  where
    one : (m : ℕ) → 1 + m ≡ suc m
    one m = omega arith

    by : (b : Bool) → p n ≡ b → prefix_len p (drop (prefix_len p ns) ns) ≡ 0
        → prefix_len p (drop (cond b (1 + prefix_len p ns) 0) (n ∷ ns)) ≡ 0
    by true e later = ap (λ k. prefix_len p (drop k (n ∷ ns))) (one (prefix_len p ns)) ∙ later
    by false e later = ap (λ b. cond b (1 + prefix_len p ns) 0) e

due_within : (t : Token) (seen : ℕ) (notes : List Note) → length (take (due t seen notes) notes) ≡ due t seen notes
due_within t seen notes = by (closes t)
  where
    by : (b : Bool) → length (take (cond b 0 (prefix_len (is_due seen) notes)) notes) ≡ cond b 0 (prefix_len (is_due seen) notes)
    by true = refl
    by false = length-take-le (prefix_len (is_due seen) notes) notes (prefix_len-le-length (is_due seen) notes)

record AreAlike (notes others : List Note) : Type 0 where
  places : map place_of others ≡ map place_of notes
  words : map words_of others ≡ map words_of notes

alike_drop : (k : ℕ) (notes others : List Note) → AreAlike notes others → AreAlike (drop k notes) (drop k others)
alike_drop k notes others a = record {
  places = same_drop place_of k notes others a.places;
  words = same_drop words_of k notes others a.words;
}

-- of the trails of the others those at the beginning, and those after them
trails_take : (k : ℕ) (others : List Note) (own rest : List Bool) → length own ≡ k
    → map trail_of others ≡ own ++ rest → map trail_of (take k others) ≡ own
trails_take k others own rest n e = sym (take-map trail_of k others) ∙ ap (take k) e ∙ take_at own rest k n

trails_drop : (k : ℕ) (others : List Note) (own rest : List Bool) → length own ≡ k
    → map trail_of others ≡ own ++ rest → map trail_of (drop k others) ≡ rest
trails_drop k others own rest n e = sym (drop-map trail_of k others) ∙ ap (drop k) e ∙ drop_at own rest k n

same_end : (notes others : List Note) → AreAlike notes others
    → map trail_of others ≡ trails_in true (behind_pieces 0 notes ++ (a_blank 10 ∷ []))
    → behind_pieces 0 others ≡ behind_pieces 0 notes
same_end [] others a e = behind_are 0 others ∙ ap (λ l. behind_by 0 l (first_trail (map trail_of others))) a.words
same_end (n ∷ ns) others a e =
    let first : first_trail (map trail_of others) ≡ n.trails =
    ap first_trail (e ∙ behind_trails 0 n ns (a_blank 10 ∷ [])) in
    behind_are 0 others ∙ ap (λ l. behind_by 0 l (first_trail (map trail_of others))) a.words
    ∙ ap (behind_by 0 (map words_of (n ∷ ns))) first ∙ sym (behind_are 0 (n ∷ ns))

same_gap : (level : ℕ) (gap : List ℕ) (notes others : List Note) → map words_of others ≡ map words_of notes
    → map trail_of others ≡ own_trails notes → gap_pieces level gap others ≡ gap_pieces level gap notes
same_gap level gap notes others w e =
    gap_are level gap others ∙ ap (λ l. gap_by level gap l (first_trail (map trail_of others))) w
    ∙ ap (λ ss. gap_by level gap (map words_of notes) (first_trail ss)) e
    ∙ ap (gap_by level gap (map words_of notes)) (own_first notes) ∙ sym (gap_are level gap notes)

same_pieces : (ps : List Part) (seen level : ℕ) (notes others : List Note) → AreAlike notes others
    → map trail_of others ≡ trails_in true (pieces seen level ps notes)
    → pieces seen level ps others ≡ pieces seen level ps notes
same_pieces [] seen level notes others a e = ap (λ l. l ++ (a_blank 10 ∷ [])) (same_end notes others a e)
same_pieces (p ∷ ps) seen level notes others a e =
    let k : ℕ = due p.token seen notes in
    let next : ℕ = seen + cond (is_counted p.token) 1 0 in
    let lower : ℕ = level_after level p.gap in
    let rest : List Piece = pieces next lower ps (drop k notes) in
    let same : due p.token seen others ≡ k =
    ap (λ m. cond (closes p.token) 0 m) (same_due notes others seen a.places) in
    let size : length (own_trails (take k notes)) ≡ k = own_size (take k notes) ∙ due_within p.token seen notes in
    let parts : map trail_of others ≡ own_trails (take k notes) ++ trails_in true rest =
    e ∙ gap_trails level p.gap (take k notes) p.front p.token rest in
    let gap : gap_pieces level p.gap (take k others) ≡ gap_pieces level p.gap (take k notes) =
    same_gap level p.gap (take k notes) (take k others) (same_take words_of k notes others a.words)
    (trails_take k others (own_trails (take k notes)) (trails_in true rest) size parts) in
    let later : pieces next lower ps (drop k others) ≡ rest =
    same_pieces ps next lower (drop k notes) (drop k others) (alike_drop k notes others a)
    (trails_drop k others (own_trails (take k notes)) (trails_in true rest) size parts) in
    ap (λ m. gap_pieces level p.gap (take m others) ++ (a_token p.front p.token ∷ pieces next lower ps (drop m others))) same
    ∙ ap (λ l. l ++ (a_token p.front p.token ∷ pieces next lower ps (drop k others))) gap
    ∙ ap (λ l. gap_pieces level p.gap (take k notes) ++ (a_token p.front p.token ∷ l)) later

-- where no comment is due before the first token, it does not matter what is before
first_trails : (p : Part) (ps : List Part) (notes : List Note) → due p.token 0 notes ≡ 0
    → trails_in false (pieces 0 0 (p ∷ ps) notes) ≡ trails_in true (pieces 0 0 (p ∷ ps) notes)
first_trails p ps notes e =
    let next : ℕ = 0 + cond (is_counted p.token) 1 0 in
    let lower : ℕ = level_after 0 p.gap in
    let plain : pieces 0 0 (p ∷ ps) notes ≡ map a_blank p.gap ++ (a_token p.front p.token ∷ pieces next lower ps (drop 0 notes)) =
    ap (λ m. gap_pieces 0 p.gap (take m notes) ++ (a_token p.front p.token ∷ pieces next lower ps (drop m notes))) e in
    let rest : List Piece = pieces next lower ps (drop 0 notes) in
    ap (trails_in false) plain ∙ blanks_token p.gap false p.front p.token rest
    ∙ sym (blanks_token p.gap true p.front p.token rest) ∙ ap (trails_in true) (sym plain)

same_all : (ps : List Part) (notes others : List Note) → AreAlike notes others
    → map trail_of others ≡ trails_in false (all_pieces ps notes) → all_pieces ps others ≡ all_pieces ps notes
same_all [] notes others a e = heads_are others ∙ ap heads_by a.words ∙ sym (heads_are notes)
same_all (p ∷ ps) notes others a e =
    let k : ℕ = prefix_len (is_due 0) notes in
    let left : List Note = drop k notes in
    let rest : List Piece = pieces 0 0 (p ∷ ps) left in
    let same : prefix_len (is_due 0) others ≡ k = same_due notes others 0 a.places in
    let size : length (map off (take k notes)) ≡ k =
    length-map (take k notes) off ∙ length-take-le k notes (prefix_len-le-length (is_due 0) notes) in
    let parts : map trail_of others ≡ map off (take k notes) ++ trails_in false rest =
    e ∙ heads_trails (take k notes) rest in
    let none : due p.token 0 left ≡ 0 = none_due (closes p.token) (prefix_len (is_due 0) left) (none_left (is_due 0) notes) in
    let heads : head_pieces (take k others) ≡ head_pieces (take k notes) =
    heads_are (take k others) ∙ ap heads_by (same_take words_of k notes others a.words) ∙ sym (heads_are (take k notes)) in
    let later : pieces 0 0 (p ∷ ps) (drop k others) ≡ rest =
    same_pieces (p ∷ ps) 0 0 left (drop k others) (alike_drop k notes others a)
    (trails_drop k others (map off (take k notes)) (trails_in false rest) size parts ∙ first_trails p ps left none) in
    ap (λ m. head_pieces (take m others) ++ pieces 0 0 (p ∷ ps) (drop m others)) same
    ∙ ap (λ l. l ++ pieces 0 0 (p ∷ ps) (drop k others)) heads
    ∙ ap (λ l. head_pieces (take k notes) ++ l) later
  where
    none_due : (b : Bool) (m : ℕ) → m ≡ 0 → cond b 0 m ≡ 0
    none_due true m h = refl
    none_due false m h = h

-- ---- the law

module _ (fixed : List Name) (token : List ℕ) (fit : IsFit fixed token) where
  printed_again : (printed : List ℕ) (shown : List Spanned) (notes : List Note) → IsMade fixed token fit printed shown notes
      → (new : List ℕ) → new ≡ with_notes printed shown notes → (own : List Spanned) (others : List Comment) (bytes : List ℕ)
      → IsBlanked fixed token new others bytes → HasTokens fixed (chars bytes) 0 own
      → with_notes printed shown (notes_of new own others) ≡ new
  printed_again printed shown notes m new is own others bytes blanked are =
      let ps : List Piece = all_pieces m.parts notes in
      let good = good_of fixed token fit printed shown notes m in
      let text_is : new ≡ bytes_in ps = is ∙ text_of_pieces fixed token fit printed shown notes m notes in
      let same : AreSame (comments_in 0 ps) others (blank_bytes ps) bytes =
      one_reading fixed token fit (bytes_in ps) (comments_in 0 ps) others (blank_bytes ps) bytes
      (pieces_blanked fixed token fit ps good) (subst (λ t. IsBlanked fixed token t others bytes) text_is blanked) in
      let tokens : own_in 0 ps ≡ own =
      only_tokens fixed (chars bytes) 0 (own_in 0 ps) own
      (subst (λ b. HasTokens fixed (chars b) 0 (own_in 0 ps)) same.same_bytes (pieces_tokens fixed token fit ps good)) are in
      let again : List Note = notes_of (bytes_in ps) (own_in 0 ps) (comments_in 0 ps) in
      let notes_are : notes_of new own others ≡ again =
      ap (λ t. notes_of t own others) text_is ∙ ap (λ us. notes_of (bytes_in ps) us others) (sym tokens)
      ∙ ap (notes_of (bytes_in ps) (own_in 0 ps)) (sym same.same_comments) in
      let alike : AreAlike notes again = record {
        places = are_placed fixed token ps good (bytes_in ps) 0 0 (own_in 0 ps) (own_seen ps) ∙ m.told.places;
        words = are_said fixed token ps good [] (bytes_in ps) 0 (own_in 0 ps) refl refl ∙ m.told.says;
      } in
      let trails : map trail_of again ≡ trails_in false ps =
      are_trailed fixed token ps good [] [] (bytes_in ps) 0 (own_in 0 ps) [] false no_token refl (omega arith) (λ place l. refl) in
      ap (with_notes printed shown) notes_are
      ∙ text_of_pieces fixed token fit printed shown notes m again
      ∙ ap bytes_in (same_all m.parts notes again alike trails) ∙ sym text_is

  pub prints_once : PrintsOnce fixed token
  prints_once text printed ts shown comments p new is own others bytes blanked are =
      printed_again printed shown (notes_of text ts comments) (made fixed token fit text printed ts shown comments p) new is own others bytes blanked are
