-- The pieces of a printed text with comments make a text: each token is one beside what follows it there.
use Rattle.std.proofs.Common.{◌≡◌, ℕ, zero, suc, ◌+◌, Bool, true, false, cond, List, [], ◌∷◌, ◌++◌, take, drop, map, replicate, sym, subst, refl, append_assoc}
use Rattle.std.proofs.lemmas.Bool.{false≢true}
use Rattle.std.specs.List.{prefix_len}
use Rattle.unicode_ident.proofs.Computing.{unicode_ident}
use Rattle.psg_terms.specs.Names.{Name}
use Rattle.psg_terms.specs.Words.{goes_on_word, IsWord}
use Rattle.psg_lexis.specs.Classes.{Chars, is_digit, is_symbol, EndsBy, BeginsBy}
use Rattle.psg_lexis.specs.Tokens.{IsToken, word, number, text, solo, symbol, hole, more}
use Rattle.psg_lexis.specs.declared.token.Token.{Token}
use Rattle.psg_comments.specs.Fitting.{IsFit}
use Rattle.psg_commented.specs.Noting.{is_counted}
use Rattle.psg_commented.specs.Printing.{is_due, due, level_after, comment_level, token_level}
use Rattle.psg_commented.specs.declared.noting.Note.{Note}
use Rattle.psg_comment_laws.proofs.Pieces.{Piece, a_blank, a_token, a_comment, chars_in, blank_chars, BeginsFeed, IsThere, AreGood}
use Rattle.psg_comment_laws.proofs.Saying.{AreSaid}
use Rattle.psg_comment_laws.proofs.Parting.{Part, part_chars, AreBlank, AreParts}
use Rattle.psg_comment_laws.proofs.Printed.{line_pieces, lead_pieces, lines_pieces, behind_pieces, gap_pieces, pieces, head_pieces, all_pieces}

-- ---- what follows a token

-- a run of characters that ends before the old ones ends before the new ones
record Follows (old new : Chars) : Type 0 where
  ends : (test : ℕ → Bool) → test 32 ≡ false → test 10 ≡ false → EndsBy test old → EndsBy test new

word_space : goes_on_word 32 ≡ false
unfolding unicode_ident
word_space = refl

word_feed : goes_on_word 10 ≡ false
unfolding unicode_ident
word_feed = refl

-- the same in the text, and in the text without its comments
record FollowsBoth (old : Chars) (ps : List Piece) : Type 0 where
  full : Follows old (chars_in ps)
  bare : Follows old (blank_chars ps)

same_first : (c : ℕ) (xs : Chars) (ps : List Piece) (ys zs : Chars) → chars_in ps ≡ c ∷ ys → blank_chars ps ≡ c ∷ zs
    → FollowsBoth (c ∷ xs) ps
same_first c xs ps ys zs e d = record {
  full = record { ends = λ test s f h. subst (EndsBy test) (sym e) h };
  bare = record { ends = λ test s f h. subst (EndsBy test) (sym d) h };
}

feed_follows : (old : Chars) (ps : List Piece) → FollowsBoth old (a_blank 10 ∷ ps)
feed_follows old ps = record {
  full = record { ends = λ test s f h. f };
  bare = record { ends = λ test s f h. f };
}

space_follows : (old : Chars) (ps : List Piece) → FollowsBoth old (a_blank 32 ∷ ps)
space_follows old ps = record {
  full = record { ends = λ test s f h. s };
  bare = record { ends = λ test s f h. s };
}

lead_follows : (old : Chars) (level : ℕ) (b : Bool) (xs ys zs : List Piece)
    → FollowsBoth old (((lead_pieces level b ++ xs) ++ ys) ++ zs)
lead_follows old level true xs ys zs = space_follows old ((xs ++ ys) ++ zs)
lead_follows old level false xs ys zs = feed_follows old (((map a_blank (replicate level 32) ++ xs) ++ ys) ++ zs)

end_follows : (old : Chars) (level : ℕ) (b : Bool) (xs ys : List Piece)
    → FollowsBoth old ((lead_pieces level b ++ xs) ++ ys)
end_follows old level true xs ys = space_follows old (xs ++ ys)
end_follows old level false xs ys = feed_follows old ((map a_blank (replicate level 32) ++ xs) ++ ys)

no_cons : (c : ℕ) (cs : Chars) → c ∷ cs ≡ [] → ⊥
no_cons c cs h = cc

module _ (fixed : List Name) where
  token_some : {cs rest : Chars} {t : Token} → IsToken fixed cs rest t → cs ≡ [] → ⊥
  token_some (word cs rest w e l) h = subst IsWord h w
  token_some (number cs rest r e l) h = false≢true (subst (BeginsBy is_digit) h r.begins)
  token_some (text cs written rest e a l) h = no_cons 34 written h
  token_some (solo c rest s) h = no_cons c [] h
  token_some (symbol cs rest r i d) h = false≢true (subst (BeginsBy is_symbol) h r.begins)
  token_some (hole cs rest w e l) h = no_cons 63 cs h
  token_some (more rest e) h = no_cons 46 (46 ∷ 46 ∷ []) h

  token_moved : {front old new : Chars} {t : Token} → Follows old new → IsToken fixed front old t
      → IsToken fixed front new t
  token_moved {new = new} f (word cs rest w e l) = word cs new w (f.ends goes_on_word word_space word_feed e) l
  token_moved {new = new} f (number cs rest r e l) =
      number cs new (record { begins = r.begins; all = r.all; ends = f.ends is_digit refl refl r.ends })
      (f.ends goes_on_word word_space word_feed e) l
  token_moved {new = new} f (text cs written rest e a l) = text cs written new e a l
  token_moved {new = new} f (solo c rest s) = solo c new s
  token_moved {new = new} f (symbol cs rest r i d) =
      symbol cs new (record { begins = r.begins; all = r.all; ends = f.ends is_symbol refl refl r.ends }) i d
  token_moved {new = new} f (hole cs rest w e l) = hole cs new w (f.ends goes_on_word word_space word_feed e) l
  token_moved {new = new} f (more rest e) = more new (f.ends is_symbol refl refl e)

  -- a gap, and then a token
  gap_follows : (gap : List ℕ) (front rest old : Chars) (t : Token) → IsToken fixed front old t → (level : ℕ)
      (ns : List Note) (ps : List Piece)
      → FollowsBoth (gap ++ (front ++ rest)) (gap_pieces level gap ns ++ (a_token front t ∷ ps))
  gap_follows [] [] rest old t k level [] ps = absurd (token_some k refl)
  gap_follows [] (c ∷ front) rest old t k level [] ps =
      same_first c (front ++ rest) (a_token (c ∷ front) t ∷ ps) (front ++ chars_in ps) (front ++ blank_chars ps) refl refl
  gap_follows (c ∷ gap) front rest old t k level [] ps =
      same_first c (gap ++ (front ++ rest)) (a_blank c ∷ (map a_blank gap ++ (a_token front t ∷ ps)))
      (chars_in (map a_blank gap ++ (a_token front t ∷ ps))) (blank_chars (map a_blank gap ++ (a_token front t ∷ ps))) refl refl
  gap_follows gap front rest old t k level (n ∷ ns) ps =
      lead_follows (gap ++ (front ++ rest)) (comment_level level gap) n.trails
      (a_comment n.text ∷ lines_pieces (comment_level level gap) ns) (line_pieces (token_level level gap)) (a_token front t ∷ ps)

  pieces_follow : (ps : List Part) (tail : Chars) → AreParts fixed ps tail → (seen level : ℕ) (notes : List Note)
      → FollowsBoth (part_chars ps tail) (pieces seen level ps notes)
  pieces_follow [] tail g seen level [] = feed_follows tail []
  pieces_follow [] tail g seen level (n ∷ ns) =
      end_follows tail 0 n.trails (a_comment n.text ∷ lines_pieces 0 ns) (a_blank 10 ∷ [])
  pieces_follow (p ∷ ps) tail g seen level notes =
      gap_follows p.gap p.front (part_chars ps tail) (part_chars ps tail) p.token g.0.is level (take (due p.token seen notes) notes)
      (pieces (seen + cond (is_counted p.token) 1 0) (level_after level p.gap) ps (drop (due p.token seen notes) notes))

-- ---- the pieces make a text

spaces_blank : (n : ℕ) → AreBlank (replicate n 32)
spaces_blank zero = tt
spaces_blank (suc n) = (refl, spaces_blank n)

module _ (fixed : List Name) (token : List ℕ) (fit : IsFit fixed token) where
  abbrev Good : List Piece → Type 0
  Good ps = AreGood fixed token ps

  abbrev Said : List Note → Type 0
  Said ns = AreSaid fixed token fit ns

  said_take : (k : ℕ) (ns : List Note) → Said ns → Said (take k ns)
  said_take zero ns a = tt
  said_take (suc k) [] a = tt
  said_take (suc k) (n ∷ ns) a = (a.0, said_take k ns a.1)

  said_drop : (k : ℕ) (ns : List Note) → Said ns → Said (drop k ns)
  said_drop zero ns a = a
  said_drop (suc k) [] a = tt
  said_drop (suc k) (n ∷ ns) a = said_drop k ns a.1

  good_blanks : (bs : List ℕ) → AreBlank bs → (ps : List Piece) → Good ps → Good (map a_blank bs ++ ps)
  good_blanks [] a ps g = g
  good_blanks (b ∷ bs) a ps g = (a.0, good_blanks bs a.1 ps g)

  good_line : (level : ℕ) (ps : List Piece) → Good ps → Good (line_pieces level ++ ps)
  good_line level ps g = (refl, good_blanks (replicate level 32) (spaces_blank level) ps g)

  good_lead : (level : ℕ) (b : Bool) (ps : List Piece) → Good ps → Good (lead_pieces level b ++ ps)
  good_lead level true ps g = (refl, g)
  good_lead level false ps g = good_line level ps g

  -- before a line feed
  abbrev Ends : List Piece → Type 0
  Ends ps = BeginsFeed fixed token (chars_in ps) × Good ps

  good_lines : (level : ℕ) (ns : List Note) → Said ns → (ps : List Piece) → Ends ps → Ends (lines_pieces level ns ++ ps)
  good_lines level [] a ps g = g
  good_lines level (n ∷ ns) a ps g =
      let r : Ends (lines_pieces level ns ++ ps) = good_lines level ns a.1 ps g in
      let rest : List Piece = a_comment n.text ∷ (lines_pieces level ns ++ ps) in
      let good : Good rest = ((a.0, r.0), r.1) in
      subst Ends (sym (append_assoc (line_pieces level) (a_comment n.text ∷ lines_pieces level ns) ps))
      ((chars_in (map a_blank (replicate level 32) ++ rest), refl), good_line level rest good)

  good_behind : (level : ℕ) (ns : List Note) → Said ns → (ps : List Piece) → Ends ps → Good (behind_pieces level ns ++ ps)
  good_behind level [] a ps g = g.1
  good_behind level (n ∷ ns) a ps g =
      let r : Ends (lines_pieces level ns ++ ps) = good_lines level ns a.1 ps g in
      let rest : List Piece = a_comment n.text ∷ (lines_pieces level ns ++ ps) in
      let good : Good rest = ((a.0, r.0), r.1) in
      subst Good (sym (append_assoc (lead_pieces level n.trails) (a_comment n.text ∷ lines_pieces level ns) ps))
      (good_lead level n.trails rest good)

  good_gap : (level : ℕ) (gap : List ℕ) (ns : List Note) → AreBlank gap → Said ns → (ps : List Piece) → Good ps
      → Good (gap_pieces level gap ns ++ ps)
  good_gap level gap [] b a ps g = good_blanks gap b ps g
  good_gap level gap (n ∷ ns) b a ps g =
      let line : List Piece = line_pieces (token_level level gap) in
      let ends : Ends (line ++ ps) =
      ((chars_in (map a_blank (replicate (token_level level gap) 32) ++ ps), refl), good_line (token_level level gap) ps g) in
      subst Good (sym (append_assoc (behind_pieces (comment_level level gap) (n ∷ ns)) line ps))
      (good_behind (comment_level level gap) (n ∷ ns) a (line ++ ps) ends)

  good_pieces : (ps : List Part) (tail : Chars) → AreParts fixed ps tail → (seen level : ℕ) (notes : List Note)
      → Said notes → Good (pieces seen level ps notes)
  good_pieces [] tail g seen level notes a = good_behind 0 notes a (a_blank 10 ∷ []) (([], refl), (refl, tt))
  good_pieces (p ∷ ps) tail g seen level notes a =
      let k : ℕ = due p.token seen notes in
      let next : ℕ = seen + cond (is_counted p.token) 1 0 in
      let rest : List Piece = pieces next (level_after level p.gap) ps (drop k notes) in
      let f : FollowsBoth (part_chars ps tail) rest = pieces_follow fixed ps tail g.1 next (level_after level p.gap) (drop k notes) in
      let there : IsThere fixed token p.front (chars_in rest) (blank_chars rest) p.token = record {
        scalars = g.0.scalars;
        with_comments = token_moved fixed f.full g.0.is;
        without = token_moved fixed f.bare g.0.is;
      } in
      good_gap level p.gap (take k notes) g.0.blanks (said_take k notes a) (a_token p.front p.token ∷ rest)
      (there, good_pieces ps tail g.1 next (level_after level p.gap) (drop k notes) (said_drop k notes a))

  good_heads : (ns : List Note) → Said ns → (ps : List Piece) → Good ps → Good (head_pieces ns ++ ps)
  good_heads [] a ps g = g
  good_heads (n ∷ ns) a ps g =
      ((a.0, (chars_in (head_pieces ns ++ ps), refl)), (refl, good_heads ns a.1 ps g))

  heads_alone : (ns : List Note) → Said ns → Good (head_pieces ns)
  heads_alone [] a = tt
  heads_alone (n ∷ ns) a = ((a.0, (chars_in (head_pieces ns), refl)), (refl, heads_alone ns a.1))

  pub good_all : (ps : List Part) (tail : Chars) → AreParts fixed ps tail → (notes : List Note) → Said notes
      → Good (all_pieces ps notes)
  good_all [] tail g notes a = heads_alone notes a
  good_all (p ∷ ps) tail g notes a =
      let k : ℕ = prefix_len (is_due 0) notes in
      good_heads (take k notes) (said_take k notes a) (pieces 0 0 (p ∷ ps) (drop k notes))
      (good_pieces (p ∷ ps) tail g 0 0 (drop k notes) (said_drop k notes a))
