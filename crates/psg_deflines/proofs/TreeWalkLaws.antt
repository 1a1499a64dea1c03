-- Laws of the walk over the parts of a specimen.
use Rattle.std.proofs.Common.{◌≡◌, ℕ, ◌≤◌, ◌&&◌, nat_le, true, false, cond, List, [], ◌∷◌, ◌++◌, length, append_assoc, codes, inl, inr, refl, ap, ap₂, sym, ◌∙◌, subst, arith}
use Rattle.std.specs.Prelude.{Some, chars, encode_utf8_all, bytes_eq}
use Rattle.std.specs.List.{list_all}
use Rattle.std.proofs.lemmas.Bool.{false≢true, and_parts, cases_Bool, leb-true}
use Rattle.std.proofs.lemmas.Str.{encodes_same, encodes-chars}
use Rattle.std.proofs.lemmas.Slice.Eq.{bytes_eq-Decides}
use Rattle.psg_terms.specs.Names.{Name}
use Rattle.psg_grammar.specs.Sound.{is_upper, is_lower, is_digit, is_name_from, IsOwnName, goes_on_name, between}
use Rattle.psg_lexis.specs.Tokens.{quoted}
use Rattle.psg_lexis.proofs.Unquoting.{contents_of, contents_of-quoted, contents_small, stops-quote}
use Rattle.psg_deflines.specs.WrittenTerms.{WrittenTerm, term_parts, HasTermForm}
use Rattle.psg_deflines.specs.WrittenTrees.{operator, list_rest, place, place_parts, is_digits, IsQuotable, quoted_part}
use Rattle.psg_deflines.specs.TermWalks as terms
use Rattle.psg_deflines.specs.TermWalks.{Parts, IsNotOpened}
use Rattle.psg_deflines.specs.TreeWalks.{in_operator, TreeStage, expects, after, done, literal_part, IsLiteral, Begin, a_part, a_tree, a_frame, first_of, Begins, a_place, an_empty, a_rest, a_list, an_operator, a_leaf, a_literal, Finish, an_end, Finishes, comma, close, bracket, bar, begun, finished, IsTreeStep}
use Rattle.psg_deflines.specs.declared.trees.LinePart.{LinePart}
use Rattle.psg_deflines.specs.declared.trees.LinePart.TheVariants as parts
use Rattle.psg_deflines.proofs.QuoteLaws.{quoted-whole}
use Rattle.psg_deflines.proofs.TermWalkLaws.{Leads, ends, goes, leads-next, leads-end, walked-over}
use Rattle.psg_deflines.proofs.PartReads.{rest_of, byte_of}

-- ---- places are read in one way

leads-same : (t u : WrittenTerm) (r q : Parts) (s : terms.Stage) (ps : Parts) → Leads t r s ps → Leads u q s ps → (t ≡ u) × (r ≡ q)
leads-same t u r q s ps ends k = let e = leads-end u q s ps k t refl in (sym e.0, sym e.1)
leads-same t u r q s ps (goes s2 n2 p2 b2 step l) k = leads-same t u r q n2 b2 l (leads-next u q s2 p2 k n2 b2 step)

pub not-opened-close : (ps : Parts) → IsNotOpened (codes ")" ∷ ps)
not-opened-close ps rest e = omega (arith, ap (λ x. byte_of (first_of x)) e)

pub terms-same : (t u : WrittenTerm) (r q : Parts) → HasTermForm t → HasTermForm u → term_parts t ++ (codes ")" ∷ r) ≡ term_parts u ++ (codes ")" ∷ q) → (t ≡ u) × (r ≡ q)
terms-same t u r q h k e =
    let a = (walked-over t h).whole [] (codes ")" ∷ r) t (codes ")" ∷ r) (not-opened-close r) ends in
    let b = (walked-over u k).whole [] (codes ")" ∷ q) u (codes ")" ∷ q) (not-opened-close q) ends in
    let same = leads-same t u (codes ")" ∷ r) (codes ")" ∷ q) (terms.expects []) (term_parts t ++ (codes ")" ∷ r)) a (subst (Leads u (codes ")" ∷ q) (terms.expects [])) (sym e) b) in
    (same.0, ap rest_of same.1)

pub place-whole : (k : Name) (t : WrittenTerm) (rest : Parts) → place_parts k t ++ rest ≡ codes "hole" ∷ codes "(" ∷ k ∷ codes "," ∷ (term_parts t ++ (codes ")" ∷ rest))
place-whole k t rest = ap (λ x. codes "hole" ∷ codes "(" ∷ k ∷ codes "," ∷ x) (append_assoc (term_parts t) (codes ")" ∷ []) rest)

pub place-same : (k l : Name) (t u : WrittenTerm) (r q : Parts) → HasTermForm t → HasTermForm u → place_parts k t ++ r ≡ place_parts l u ++ q → (k ≡ l) × (t ≡ u) × (r ≡ q)
place-same k l t u r q h i e =
    let whole = sym (place-whole k t r) ∙ e ∙ place-whole l u q in
    let same = terms-same t u r q h i (ap (λ x. rest_of (rest_of (rest_of (rest_of x)))) whole) in
    (ap (λ x. first_of (rest_of (rest_of x))) whole, same.0, same.1)

-- ---- literals are read in one way

pub quote-same : (w v : List ℕ) → IsQuotable w → IsQuotable v → quoted_part w ≡ quoted_part v → w ≡ v
quote-same w v h k e =
    let whole : 34 ∷ quoted (chars w) ++ 34 ∷ [] ≡ 34 ∷ quoted (chars v) ++ 34 ∷ [] = encodes_same _ _ e in
    let inner : quoted (chars w) ++ 34 ∷ [] ≡ quoted (chars v) ++ 34 ∷ [] = cc in
    let n = length (quoted (chars w) ++ 34 ∷ []) in
    let a = contents_of-quoted n (chars w) (34 ∷ []) (contents_small (chars w) (34 ∷ [])) h.contents (stops-quote []) in
    let b = contents_of-quoted n (chars v) (34 ∷ []) (omega (arith, contents_small (chars v) (34 ∷ []), ap length inner)) k.contents (stops-quote []) in
    let both : (chars w, 34 ∷ []) ≡ (chars v, 34 ∷ []) = sym a ∙ ap (contents_of n) inner ∙ b in
    sym (encodes-chars w h.utf8) ∙ ap encode_utf8_all (ap (λ (r : List ℕ × List ℕ). r.0) both) ∙ encodes-chars v k.utf8

digits-byte : (d : List ℕ) → is_digits d ≡ true → is_digit (byte_of d) ≡ true
digits-byte [] h = absurd (false≢true h)
digits-byte (c ∷ cs) h = (and_parts (is_digit c) (list_all is_digit cs) h).0

not-digit : (d : List ℕ) (c : ℕ) → is_digits d ≡ true → byte_of d ≡ c → is_digit c ≡ false → ⊥
not-digit d c h e f = false≢true (sym f ∙ ap is_digit (sym e) ∙ digits-byte d h)

quote-byte : (w : List ℕ) → byte_of (quoted_part w) ≡ 34
quote-byte w = ap byte_of (quoted-whole w)

pub literal-same : (l m : LinePart) → IsLiteral l → IsLiteral m → literal_part l ≡ literal_part m → l ≡ m
literal-same (parts.Tree t) m h k e = absurd h
literal-same (parts.Name n) (parts.Tree u) h k e = absurd k
literal-same (parts.Name n) (parts.Name o) h k e = let same : n ≡ o = cc in ap parts.Name same
literal-same (parts.Name n) (parts.Number d) h k e = absurd (not-digit d 36 k.0 (ap byte_of (sym e)) refl)
literal-same (parts.Name n) (parts.Text v) h k e = absurd (omega (arith, ap byte_of e, quote-byte v))
literal-same (parts.Number d) (parts.Tree u) h k e = absurd k
literal-same (parts.Number d) (parts.Name o) h k e = absurd (not-digit d 36 h.0 (ap byte_of e) refl)
literal-same (parts.Number d) (parts.Number c) h k e = ap parts.Number e
literal-same (parts.Number d) (parts.Text v) h k e = absurd (not-digit d 34 h.0 (ap byte_of e ∙ quote-byte v) refl)
literal-same (parts.Text w) (parts.Tree u) h k e = absurd k
literal-same (parts.Text w) (parts.Name o) h k e = absurd (omega (arith, ap byte_of e, quote-byte w))
literal-same (parts.Text w) (parts.Number d) h k e = absurd (not-digit d 34 k.0 (sym (ap byte_of e) ∙ quote-byte w) refl)
literal-same (parts.Text w) (parts.Text v) h k e = ap parts.Text (quote-same w v h k e)

-- ---- what begins is told apart by the first three parts

abbrev tag_by : List ℕ → List ℕ → List ℕ → ℕ
tag_by a b c =
    cond (bytes_eq a (codes "[")) (cond (bytes_eq b (codes "]")) 1 (cond (bytes_eq b (codes "|")) 2 3))
    (cond (is_name_from is_lower a) (cond (bytes_eq b (codes "(")) (cond (is_name_from is_upper c) 0 4) 5) 6)

abbrev tag : Parts → ℕ
tag ps = tag_by (first_of ps) (first_of (rest_of ps)) (first_of (rest_of (rest_of ps)))

pub differ : (v w : List ℕ) → (v ≡ w → ⊥) → bytes_eq v w ≡ false
differ v w h = elim (cases_Bool (bytes_eq v w)) [ inl e ↦ absurd (h ((bytes_eq-Decides v w).0 e)) | inr e ↦ e ]

pub own-no_list : (o : Name) → IsOwnName o → bytes_eq o (codes "[") ≡ false
own-no_list o h = differ o (codes "[") (λ e. false≢true (subst IsOwnName e h))

pub literal-no_list : (l : LinePart) → IsLiteral l → bytes_eq (literal_part l) (codes "[") ≡ false
literal-no_list (parts.Tree t) h = absurd h
literal-no_list (parts.Name n) h = refl
literal-no_list (parts.Number d) h = differ d (codes "[") (λ e. not-digit d 91 h.0 (ap byte_of e) refl)
literal-no_list (parts.Text w) h = differ (quoted_part w) (codes "[") (λ e. omega (arith, ap byte_of e, quote-byte w))

not-own : (d : List ℕ) → is_lower (byte_of d) ≡ false → is_name_from is_lower d ≡ false
not-own [] h = refl
not-own (c ∷ cs) h = ap (λ b. (b && list_all goes_on_name cs) && nat_le (length cs) 63) h

between-bounds : (low high c : ℕ) → between low high c ≡ true → (low ≤ c) × (c ≤ high)
between-bounds low high c h = let both = and_parts (nat_le low c) (nat_le c high) h in (leb-true low c both.0, leb-true c high both.1)

lower-digit : (c : ℕ) → is_digit c ≡ true → is_lower c ≡ false
lower-digit c h = elim (cases_Bool (is_lower c)) [ inr e ↦ e | inl e ↦ absurd (omega (arith, (between-bounds 48 57 c h), (between-bounds 97 122 c e))) ]

pub literal-no_own : (l : LinePart) → IsLiteral l → is_name_from is_lower (literal_part l) ≡ false
literal-no_own (parts.Tree t) h = absurd h
literal-no_own (parts.Name n) h = refl
literal-no_own (parts.Number d) h = not-own d (lower-digit (byte_of d) (digits-byte d h.0))
literal-no_own (parts.Text w) h = not-own (quoted_part w) (ap is_lower (quote-byte w))

abbrev number : {ps rest : Parts} {b : Begin} → Begins ps b rest → ℕ
number (a_place xk xt xe xh xf xb) = 0
number (an_empty xe xb) = 1
number (a_rest xk xt xe xh xf xb) = 2
number (a_list xe xg xb) = 3
number (an_operator xo xe xh xn xb) = 4
number (a_leaf xo xe xh xn xb) = 5
number (a_literal xl xe xh xb) = 6

tag-is : (ps rest : Parts) (b : Begin) → (x : Begins ps b rest) → tag ps ≡ number x
tag-is ps rest b (a_place k t e h f c) = ap tag (e ∙ place-whole k t rest) ∙ ap (λ y. cond y 0 4) h
tag-is ps rest b (an_empty e c) = ap tag e
tag-is ps rest b (a_rest k t e h f c) = ap tag e
tag-is ps rest b (a_list e g c) =
    ap tag e ∙ ap₂ (λ y z. cond y 1 (cond z 2 3)) (differ (first_of rest) (codes "]") g.close) (differ (first_of rest) (codes "|") g.bar)
tag-is ps rest b (an_operator o e h n c) =
    ap tag e ∙ ap (λ y. cond y (cond false 1 (cond false 2 3)) (cond (is_name_from is_lower o) (cond (is_name_from is_upper (first_of rest)) 0 4) 6)) (own-no_list o h)
    ∙ ap₂ (λ y z. cond y (cond z 0 4) 6) h n
tag-is ps rest b (a_leaf o e h n c) =
    ap tag e ∙ leaf o (first_of rest) (first_of (rest_of rest)) h (differ (first_of rest) (codes "(") (opened rest n))
  where
    opened : (rest : Parts) → IsNotOpened rest → first_of rest ≡ codes "(" → ⊥
    opened [] n e = omega (arith, ap length e)
    opened (p ∷ ps) n e = n ps (ap (λ x. x ∷ ps) e)

    leaf : (o p q : List ℕ) → IsOwnName o → bytes_eq p (codes "(") ≡ false → tag_by o p q ≡ 5
    leaf o p q h n = rw (own-no_list o h, h, n) refl
tag-is ps rest b (a_literal l e h c) = ap tag e ∙ literal l (first_of rest) (first_of (rest_of rest)) h
  where
    literal : (l : LinePart) (p q : List ℕ) → IsLiteral l → tag_by (literal_part l) p q ≡ 6
    literal l p q h = rw (literal-no_list l h, literal-no_own l h) refl

same-by : (ps r q : Parts) (b c : Begin) → (x : Begins ps b r) (y : Begins ps c q) → number x ≡ number y → (b ≡ c) × (r ≡ q)
same-by ps r q b c (a_place xk xt xe xh xf xb) (a_place yk yt ye yh yf yb) e = let same = place-same xk yk xt yt r q xf yf (sym xe ∙ ye) in (xb ∙ ap₂ (λ m n. a_tree (place m n)) same.0 same.1 ∙ sym yb, same.2)
same-by ps r q b c (a_place xk xt xe xh xf xb) (an_empty ye yb) e = absurd (omega arith)
same-by ps r q b c (a_place xk xt xe xh xf xb) (a_rest yk yt ye yh yf yb) e = absurd (omega arith)
same-by ps r q b c (a_place xk xt xe xh xf xb) (a_list ye yg yb) e = absurd (omega arith)
same-by ps r q b c (a_place xk xt xe xh xf xb) (an_operator yo ye yh yn yb) e = absurd (omega arith)
same-by ps r q b c (a_place xk xt xe xh xf xb) (a_leaf yo ye yh yn yb) e = absurd (omega arith)
same-by ps r q b c (a_place xk xt xe xh xf xb) (a_literal yl ye yh yb) e = absurd (omega arith)
same-by ps r q b c (an_empty xe xb) (a_place yk yt ye yh yf yb) e = absurd (omega arith)
same-by ps r q b c (an_empty xe xb) (an_empty ye yb) e = (xb ∙ sym yb, ap (λ z. rest_of (rest_of z)) (sym xe ∙ ye))
same-by ps r q b c (an_empty xe xb) (a_rest yk yt ye yh yf yb) e = absurd (omega arith)
same-by ps r q b c (an_empty xe xb) (a_list ye yg yb) e = absurd (omega arith)
same-by ps r q b c (an_empty xe xb) (an_operator yo ye yh yn yb) e = absurd (omega arith)
same-by ps r q b c (an_empty xe xb) (a_leaf yo ye yh yn yb) e = absurd (omega arith)
same-by ps r q b c (an_empty xe xb) (a_literal yl ye yh yb) e = absurd (omega arith)
same-by ps r q b c (a_rest xk xt xe xh xf xb) (a_place yk yt ye yh yf yb) e = absurd (omega arith)
same-by ps r q b c (a_rest xk xt xe xh xf xb) (an_empty ye yb) e = absurd (omega arith)
same-by ps r q b c (a_rest xk xt xe xh xf xb) (a_rest yk yt ye yh yf yb) e = let same = place-same xk yk xt yt (codes "]" ∷ r) (codes "]" ∷ q) xf yf (ap (λ z. rest_of (rest_of z)) (sym xe ∙ ye)) in (xb ∙ ap₂ (λ m n. a_tree (list_rest m n)) same.0 same.1 ∙ sym yb, ap rest_of same.2)
same-by ps r q b c (a_rest xk xt xe xh xf xb) (a_list ye yg yb) e = absurd (omega arith)
same-by ps r q b c (a_rest xk xt xe xh xf xb) (an_operator yo ye yh yn yb) e = absurd (omega arith)
same-by ps r q b c (a_rest xk xt xe xh xf xb) (a_leaf yo ye yh yn yb) e = absurd (omega arith)
same-by ps r q b c (a_rest xk xt xe xh xf xb) (a_literal yl ye yh yb) e = absurd (omega arith)
same-by ps r q b c (a_list xe xg xb) (a_place yk yt ye yh yf yb) e = absurd (omega arith)
same-by ps r q b c (a_list xe xg xb) (an_empty ye yb) e = absurd (omega arith)
same-by ps r q b c (a_list xe xg xb) (a_rest yk yt ye yh yf yb) e = absurd (omega arith)
same-by ps r q b c (a_list xe xg xb) (a_list ye yg yb) e = (xb ∙ sym yb, ap rest_of (sym xe ∙ ye))
same-by ps r q b c (a_list xe xg xb) (an_operator yo ye yh yn yb) e = absurd (omega arith)
same-by ps r q b c (a_list xe xg xb) (a_leaf yo ye yh yn yb) e = absurd (omega arith)
same-by ps r q b c (a_list xe xg xb) (a_literal yl ye yh yb) e = absurd (omega arith)
same-by ps r q b c (an_operator xo xe xh xn xb) (a_place yk yt ye yh yf yb) e = absurd (omega arith)
same-by ps r q b c (an_operator xo xe xh xn xb) (an_empty ye yb) e = absurd (omega arith)
same-by ps r q b c (an_operator xo xe xh xn xb) (a_rest yk yt ye yh yf yb) e = absurd (omega arith)
same-by ps r q b c (an_operator xo xe xh xn xb) (a_list ye yg yb) e = absurd (omega arith)
same-by ps r q b c (an_operator xo xe xh xn xb) (an_operator yo ye yh yn yb) e = (xb ∙ ap (λ m. a_frame (in_operator (operator m))) (ap first_of (sym xe ∙ ye)) ∙ sym yb, ap (λ z. rest_of (rest_of z)) (sym xe ∙ ye))
same-by ps r q b c (an_operator xo xe xh xn xb) (a_leaf yo ye yh yn yb) e = absurd (omega arith)
same-by ps r q b c (an_operator xo xe xh xn xb) (a_literal yl ye yh yb) e = absurd (omega arith)
same-by ps r q b c (a_leaf xo xe xh xn xb) (a_place yk yt ye yh yf yb) e = absurd (omega arith)
same-by ps r q b c (a_leaf xo xe xh xn xb) (an_empty ye yb) e = absurd (omega arith)
same-by ps r q b c (a_leaf xo xe xh xn xb) (a_rest yk yt ye yh yf yb) e = absurd (omega arith)
same-by ps r q b c (a_leaf xo xe xh xn xb) (a_list ye yg yb) e = absurd (omega arith)
same-by ps r q b c (a_leaf xo xe xh xn xb) (an_operator yo ye yh yn yb) e = absurd (omega arith)
same-by ps r q b c (a_leaf xo xe xh xn xb) (a_leaf yo ye yh yn yb) e = (xb ∙ ap (λ m. a_tree (operator m)) (ap first_of (sym xe ∙ ye)) ∙ sym yb, ap rest_of (sym xe ∙ ye))
same-by ps r q b c (a_leaf xo xe xh xn xb) (a_literal yl ye yh yb) e = absurd (omega arith)
same-by ps r q b c (a_literal xl xe xh xb) (a_place yk yt ye yh yf yb) e = absurd (omega arith)
same-by ps r q b c (a_literal xl xe xh xb) (an_empty ye yb) e = absurd (omega arith)
same-by ps r q b c (a_literal xl xe xh xb) (a_rest yk yt ye yh yf yb) e = absurd (omega arith)
same-by ps r q b c (a_literal xl xe xh xb) (a_list ye yg yb) e = absurd (omega arith)
same-by ps r q b c (a_literal xl xe xh xb) (an_operator yo ye yh yn yb) e = absurd (omega arith)
same-by ps r q b c (a_literal xl xe xh xb) (a_leaf yo ye yh yn yb) e = absurd (omega arith)
same-by ps r q b c (a_literal xl xe xh xb) (a_literal yl ye yh yb) e = (xb ∙ ap a_part (literal-same xl yl xh yh (ap first_of (sym xe ∙ ye))) ∙ sym yb, ap rest_of (sym xe ∙ ye))

pub begins-only : (ps r q : Parts) (b c : Begin) → Begins ps b r → Begins ps c q → (b ≡ c) × (r ≡ q)
begins-only ps r q b c x y = same-by ps r q b c x y (sym (tag-is ps r b x) ∙ tag-is ps q c y)

-- ---- what ends is told apart by the first part

pub finishes-only : (ps r q : Parts) (d e : Finish) → Finishes ps d r → Finishes ps e q → (d ≡ e) × (r ≡ q)
finishes-only ps r q d e (comma xe xb) (comma ye yb) = (xb ∙ sym yb, ap rest_of (sym xe ∙ ye))
finishes-only ps r q d e (comma xe xb) (close ye yb) = absurd (omega (arith, ap (λ z. byte_of (first_of z)) (sym xe ∙ ye)))
finishes-only ps r q d e (comma xe xb) (bracket ye yb) = absurd (omega (arith, ap (λ z. byte_of (first_of z)) (sym xe ∙ ye)))
finishes-only ps r q d e (comma xe xb) (bar yk yt ye yh yf yb) = absurd (omega (arith, ap (λ z. byte_of (first_of z)) (sym xe ∙ ye)))
finishes-only ps r q d e (close xe xb) (comma ye yb) = absurd (omega (arith, ap (λ z. byte_of (first_of z)) (sym xe ∙ ye)))
finishes-only ps r q d e (close xe xb) (close ye yb) = (xb ∙ sym yb, ap rest_of (sym xe ∙ ye))
finishes-only ps r q d e (close xe xb) (bracket ye yb) = absurd (omega (arith, ap (λ z. byte_of (first_of z)) (sym xe ∙ ye)))
finishes-only ps r q d e (close xe xb) (bar yk yt ye yh yf yb) = absurd (omega (arith, ap (λ z. byte_of (first_of z)) (sym xe ∙ ye)))
finishes-only ps r q d e (bracket xe xb) (comma ye yb) = absurd (omega (arith, ap (λ z. byte_of (first_of z)) (sym xe ∙ ye)))
finishes-only ps r q d e (bracket xe xb) (close ye yb) = absurd (omega (arith, ap (λ z. byte_of (first_of z)) (sym xe ∙ ye)))
finishes-only ps r q d e (bracket xe xb) (bracket ye yb) = (xb ∙ sym yb, ap rest_of (sym xe ∙ ye))
finishes-only ps r q d e (bracket xe xb) (bar yk yt ye yh yf yb) = absurd (omega (arith, ap (λ z. byte_of (first_of z)) (sym xe ∙ ye)))
finishes-only ps r q d e (bar xk xt xe xh xf xb) (comma ye yb) = absurd (omega (arith, ap (λ z. byte_of (first_of z)) (sym xe ∙ ye)))
finishes-only ps r q d e (bar xk xt xe xh xf xb) (close ye yb) = absurd (omega (arith, ap (λ z. byte_of (first_of z)) (sym xe ∙ ye)))
finishes-only ps r q d e (bar xk xt xe xh xf xb) (bracket ye yb) = absurd (omega (arith, ap (λ z. byte_of (first_of z)) (sym xe ∙ ye)))
finishes-only ps r q d e (bar xk xt xe xh xf xb) (bar yk yt ye yh yf yb) =
    let same = place-same xk yk xt yt (codes "]" ∷ r) (codes "]" ∷ q) xf yf (ap rest_of (sym xe ∙ ye)) in (xb ∙ ap₂ (λ m n. an_end (list_rest m n)) same.0 same.1 ∙ sym yb, ap rest_of same.2)

-- ---- a step leads to one place

some-same : (a b : TreeStage) → Some a ≡ Some b → a ≡ b
some-same a b e = cc

pub step-only : (s : TreeStage) (ps : Parts) (n m : TreeStage) (r q : Parts) → IsTreeStep s ps n r → IsTreeStep s ps m q → (n ≡ m) × (r ≡ q)
step-only (expects fs) ps n m r q (b, x, e) (c, y, f) = let same = begins-only ps r q b c x y in (some-same n m (sym e ∙ ap (begun fs) same.0 ∙ f), same.1)
step-only (after fs) ps n m r q (b, x, e) (c, y, f) = let same = finishes-only ps r q b c x y in (some-same n m (sym e ∙ ap (finished fs) same.0 ∙ f), same.1)
step-only (done t) ps n m r q x y = absurd x

-- ---- names of kinds begin nothing

kind-by : (d : List ℕ) → is_upper (byte_of d) ≡ false → is_name_from is_upper d ≡ false
kind-by [] h = refl
kind-by (c ∷ cs) h = ap (λ b. (b && list_all goes_on_name cs) && nat_le (length cs) 63) h

upper-digit : (c : ℕ) → is_digit c ≡ true → is_upper c ≡ false
upper-digit c h = elim (cases_Bool (is_upper c)) [ inr e ↦ e | inl e ↦ absurd (omega (arith, (between-bounds 48 57 c h), (between-bounds 65 90 c e))) ]

upper-lower : (c : ℕ) → is_lower c ≡ true → is_upper c ≡ false
upper-lower c h = elim (cases_Bool (is_upper c)) [ inr e ↦ e | inl e ↦ absurd (omega (arith, (between-bounds 97 122 c h), (between-bounds 65 90 c e))) ]

own-byte : (o : Name) → IsOwnName o → is_lower (byte_of o) ≡ true
own-byte [] h = absurd (false≢true h)
own-byte (c ∷ cs) h = (and_parts (is_lower c) (list_all goes_on_name cs) (and_parts (is_lower c && list_all goes_on_name cs) (nat_le (length cs) 63) h).0).0

pub own-no_kind : (o : Name) → IsOwnName o → is_name_from is_upper o ≡ false
own-no_kind o h = kind-by o (upper-lower (byte_of o) (own-byte o h))

pub literal-no_kind : (l : LinePart) → IsLiteral l → is_name_from is_upper (literal_part l) ≡ false
literal-no_kind (parts.Tree t) h = absurd h
literal-no_kind (parts.Name n) h = refl
literal-no_kind (parts.Number d) h = kind-by d (upper-digit (byte_of d) (digits-byte d h.0))
literal-no_kind (parts.Text w) h = kind-by (quoted_part w) (ap is_upper (quote-byte w))
