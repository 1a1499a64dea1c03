-- The span of a node has the node's tokens.
use Rattle.std.proofs.Common.{◌≡◌, ℕ, zero, suc, ◌+◌, ◌-◌, List, [], ◌∷◌, ◌++◌, length, take, drop, Option, Some, None, refl, sym, ap, ap₂, subst, ◌∙◌, append_assoc, length-append, arith}
use Rattle.std.specs.Str.{chars}
use Rattle.std.specs.List.{AllByRecursion}
use Rattle.std.proofs.Math.Seq.{take-append_seam, drop-append_seam}
use Rattle.psg_grammar.specs.declared.types.Definition.{Definition}
use Rattle.psg_grammar.specs.Fragments.{Fragment}
use Rattle.psg_unparse.specs.Rows.{Piece, token, mark, row}
use Rattle.psg_unparse.specs.Layout.{last_in, last_char}
use Rattle.psg_unparse.specs.Nodes.{part_of}
use Rattle.psg_unparse.specs.Spaced.{Put, text_in, AreSpaced}
use Rattle.psg_unparse.specs.Spots.{Placed, placed_in}
use Rattle.psg_unparse.proofs.Rows.{cut_in}
use Rattle.psg_layout.specs.declared.layout.Layout.{Layout}
use Rattle.psg_layout.specs.Arranged.{arranged_puts}
use Rattle.psg_layout.specs.PutSpans.{tokens_in, first_gap}
use Rattle.psg_layout.specs.Laws.{own_text, HasOwnBytes}
use Rattle.psg_layout.proofs.GrowLaws.{arranged_is_spaced}
use Rattle.psg_layout.proofs.PlainLaws.{text-append}

-- ---- the tokens of a part of a row

spaced_front : (c : Option ℕ) (a b : List Piece) (puts : List Put) → AreSpaced c (a ++ b) puts → AreSpaced c a (take (tokens_in a) puts)
spaced_front c [] b puts h = refl
spaced_front c (mark i ∷ a) b puts h = spaced_front c a b puts h
spaced_front c (token t ∷ a) b [] h = absurd h
spaced_front c (token t ∷ a) b (p ∷ puts) h = (h.0, h.1, spaced_front (Some (last_char 0 (chars t))) a b puts h.2)

spaced_back : (c : Option ℕ) (a b : List Piece) (puts : List Put) → AreSpaced c (a ++ b) puts → AreSpaced (last_in c a) b (drop (tokens_in a) puts)
spaced_back c [] b puts h = h
spaced_back c (mark i ∷ a) b puts h = spaced_back c a b puts h
spaced_back c (token t ∷ a) b [] h = absurd h
spaced_back c (token t ∷ a) b (p ∷ puts) h = spaced_back (Some (last_char 0 (chars t))) a b puts h.2

-- ---- the bytes of tokens

pub split_at : (n : ℕ) (puts : List Put) → puts ≡ take n puts ++ drop n puts
split_at zero puts = refl
split_at (suc n) [] = refl
split_at (suc n) (p ∷ puts) = ap (λ z. p ∷ z) (split_at n puts)

take_none : (k : ℕ) → take {A = Put} k [] ≡ []
take_none zero = refl
take_none (suc k) = refl

pub take_both : (n m : ℕ) (puts : List Put) → take (n + m) puts ≡ take n puts ++ take m (drop n puts)
take_both zero m puts = let e : 0 + m ≡ m = omega arith in ap (λ k. take k puts) e
take_both (suc n) m [] = take_none (suc n + m) ∙ sym (take_none m)
take_both (suc n) m (p ∷ puts) =
    let e : suc n + m ≡ suc (n + m) = omega arith in
    ap (λ k. take k (p ∷ puts)) e ∙ ap (λ z. p ∷ z) (take_both n m puts)

pub own_parts : (puts : List Put) → text_in puts ≡ first_gap puts ++ own_text puts
own_parts [] = refl
own_parts (p ∷ puts) = refl

-- between two places of a text
between_places : (a b c text : List ℕ) (m n : ℕ) → text ≡ a ++ (b ++ c) → m ≡ length a → n ≡ length a + length b → part_of m n text ≡ b
between_places a b c text m n e f g =
    let k : n - m ≡ length b = omega (arith, f, g) in
    ap₂ (λ x y. take x (drop y text)) k f
    ∙ ap (λ x. take (length b) (drop (length a) x)) e
    ∙ ap (take (length b)) (drop-append_seam a (b ++ c))
    ∙ take-append_seam b c

pub own_bytes : (n m : ℕ) (puts : List Put)
    → part_of (length (text_in (take n puts)) + length (first_gap (take m (drop n puts)))) (length (text_in (take (n + m) puts))) (text_in puts)
    ≡ own_text (take m (drop n puts))
own_bytes n m puts =
    let front : List Put = take n puts in
    let own : List Put = take m (drop n puts) in
    let behind : List Put = drop m (drop n puts) in
    let whole : text_in puts ≡ (text_in front ++ first_gap own) ++ (own_text own ++ text_in behind) =
    ap text_in (split_at n puts ∙ ap (λ z. take n puts ++ z) (split_at m (drop n puts)))
    ∙ text-append front (own ++ behind) ∙ ap (λ z. text_in front ++ z) (text-append own behind)
    ∙ ap (λ z. text_in front ++ (z ++ text_in behind)) (own_parts own)
    ∙ ap (λ z. text_in front ++ z) (append_assoc (first_gap own) (own_text own) (text_in behind))
    ∙ sym (append_assoc (text_in front) (first_gap own) (own_text own ++ text_in behind)) in
    let start : length (text_in front) + length (first_gap own) ≡ length (text_in front ++ first_gap own) = sym (length-append (text_in front) (first_gap own)) in
    let upto : text_in (take (n + m) puts) ≡ (text_in front ++ first_gap own) ++ own_text own =
    ap text_in (take_both n m puts) ∙ text-append front own ∙ ap (λ z. text_in front ++ z) (own_parts own)
    ∙ sym (append_assoc (text_in front) (first_gap own) (own_text own)) in
    let end : length (text_in (take (n + m) puts)) ≡ length (text_in front ++ first_gap own) + length (own_text own) =
    ap length upto ∙ length-append (text_in front ++ first_gap own) (own_text own) in
    between_places (text_in front ++ first_gap own) (own_text own) (text_in behind) (text_in puts)
    (length (text_in front) + length (first_gap own)) (length (text_in (take (n + m) puts))) whole start end

module _ (def : Definition) (whole : List Piece) (puts : List Put) (spaced : AreSpaced None whole puts) where
  own_span : (p : Placed) → p.spot.before ++ (row def p.node ++ p.spot.behind) ≡ whole → HasOwnBytes def puts p
  own_span p e = record {
    tokens = spaced_front (last_in None p.spot.before) (row def p.node) p.spot.behind (drop (tokens_in p.spot.before) puts)
        (spaced_back None p.spot.before (row def p.node ++ p.spot.behind) puts (subst (λ r. AreSpaced None r puts) (sym e) spaced));
    bytes = own_bytes (tokens_in p.spot.before) (tokens_in (row def p.node)) puts;
  }

  own_spans : (ps : List Placed) → AllByRecursion (λ (p : Placed). p.spot.before ++ (row def p.node ++ p.spot.behind) ≡ whole) ps → AllByRecursion (HasOwnBytes def puts) ps
  own_spans [] a = tt
  own_spans (p ∷ ps) a = (own_span p a.0, own_spans ps a.1)

pub spans_are_own : (def : Definition) (layout : Layout) (cols : ℕ) (f : Fragment) → AllByRecursion (HasOwnBytes def (arranged_puts def layout cols f)) (placed_in def f)
spans_are_own def layout cols f =
    own_spans def (row def f) (arranged_puts def layout cols f) (arranged_is_spaced def layout cols f) (placed_in def f) (cut_in def f)
