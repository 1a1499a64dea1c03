-- What the writer puts down is what the line is spelled by.
use Rattle.std.proofs.Common.{◌≡◌, subst, map, ℕ, zero, suc, ◌+◌, ◌<◌, ◌==◌, cond, List, [], ◌∷◌, ◌++◌, length, take, get_or, refl, ap, ap₂, sym, ◌∙◌, arith, append_assoc, codes, encode_utf8_all, Some, None, Option, ◌≤◌, Result, Ok, Err, OnOk, is_ok, if◌then◌else◌}
use Rattle.std.specs.List.{flat_map}
use Rattle.std.proofs.lemmas.Grind.{flat_map-append}
use Rattle.std.proofs.lemmas.List.{take_more, take_all, append-nil}
use Rattle.std.proofs.lemmas.Str.{encodes-append, encode_ascii}
use Rattle.std.proofs.Math.Bool.{and-false}
use Rattle.psg_terms.proofs.Lists.{suc_is_not_zero}
use Rattle.psg_lexis.specs.Tokens.{escaped, quoted}
use Rattle.psg_terms.specs.Names.{Name}
use Rattle.psg_deflines.specs.Written.{IsWritten, ends_word}
use Rattle.psg_deflines.specs.WrittenTerms.{WrittenTerm, named, apply, applied, term_parts, opened}
use Rattle.psg_deflines.specs.WrittenTrees.{WrittenTree, operator, tree_parts, follow, opened as opened_tree}
use Rattle.psg_deflines.specs.TreeShapes.{with_part, with_parts, list_of, ending, tree_height, tree_of}
use Rattle.psg_deflines.specs.Shapes.{term_of}
use Rattle.psg_deflines.specs.declared.terms.TermShape.{TermShape}
use Rattle.psg_deflines.specs.declared.terms.TermShape.TheVariants.{Named}
use Rattle.psg_deflines.specs.declared.trees.TreeShape.{TreeShape}
use Rattle.psg_deflines.specs.declared.trees.TreeShape.TheVariants.{Operator, List as ListOf}
use Rattle.psg_deflines.specs.Forms.{HasForm, SpellsLine, argument_parts, closed_names, constructor_parts, item_part, parts_of, terms_parts}
use Rattle.psg_deflines.specs.declared.lines.LineItem.{LineItem}
use Rattle.psg_deflines.specs.declared.lines.Line.{Line}
use Rattle.psg_terms.specs.declared.declare.ConDecl.{ConDecl}
use Rattle.psg_deflines.specs.LineTexts.{behind, spaced, mark_at, separated, closing, part_parts, ending_parts}
use Rattle.psg_deflines.specs.declared.trees.LinePart.{LinePart}
use Rattle.psg_deflines.specs.declared.trees.LinePart.TheVariants.{Tree, Name as NamePart, Number, Text}
use Rattle.psg_deflines.specs.declared.trees.LinePlace.{LinePlace}

-- one space between two parts spells them
pub written-spaced : (ps : List (List ℕ)) → IsWritten ps (spaced ps)
written-spaced [] = refl
written-spaced (p ∷ []) = append-nil p
written-spaced (p ∷ q ∷ rest) = (1, spaced (q ∷ rest), refl, and-false (ends_word p), written-spaced (q ∷ rest))

-- ---- elements with a comma between two

mark-more : (m : List ℕ) (n : ℕ) → mark_at m (suc n) ≡ codes ","
mark-more m n = ap (λ b. cond b m (codes ",")) (suc_is_not_zero n)

closing-more : (n : ℕ) → closing (suc n) ≡ codes ")" ∷ []
closing-more n = ap (λ b. cond b [] (codes ")" ∷ [])) (suc_is_not_zero n)

comma-snoc : {X : Type 0} (f : X → List (List ℕ)) (xs : List X) (x : X)
    → flat_map (λ y. codes "," ∷ f y) (xs ++ x ∷ []) ≡ flat_map (λ y. codes "," ∷ f y) xs ++ codes "," ∷ f x
comma-snoc f xs x = flat_map-append (λ y. codes "," ∷ f y) xs (x ∷ []) ∙ ap (λ t. flat_map (λ y. codes "," ∷ f y) xs ++ codes "," ∷ t) (append-nil (f x))

separated-snoc : {X : Type 0} (m : List ℕ) (f : X → List (List ℕ)) (xs : List X) (x : X)
    → separated m f (xs ++ x ∷ []) ≡ separated m f xs ++ mark_at m (length xs) ∷ f x
separated-snoc m f [] x = ap (λ t. m ∷ t) (append-nil (f x))
separated-snoc m f (y ∷ ys) x =
    ap (λ t. m ∷ f y ++ t) (comma-snoc f ys x) ∙ ap (λ t. m ∷ t) (sym (append_assoc (f y) (flat_map (λ z. codes "," ∷ f z) ys) (codes "," ∷ f x)))
    ∙ ap (λ t. separated m f (y ∷ ys) ++ t ∷ f x) (sym (mark-more m (length ys)))

behind-append : (ps qs : List (List ℕ)) → behind (ps ++ qs) ≡ behind ps ++ behind qs
behind-append ps qs = flat_map-append (λ p. 32 ∷ p) ps qs

length-take : {X : Type 0} (xs : List X) (i : ℕ) → i < length xs → length (take i xs) ≡ i
length-take xs zero h = refl
length-take [] (suc i) h = absurd (omega (arith, h))
length-take (x ∷ xs) (suc i) h = ap suc (length-take xs i (omega (arith, h)))

-- one more element was written
pub more : {X : Type 0} (m : List ℕ) (f : X → List (List ℕ)) (xs : List X) (x : X) (i : ℕ) (start before between after sign : List ℕ)
    → i < length xs → x ≡ get_or xs i x → before ≡ start ++ behind (separated m f (take i xs)) → sign ≡ mark_at m i
    → between ≡ before ++ behind (sign ∷ []) → after ≡ between ++ behind (f x) → after ≡ start ++ behind (separated m f (take (i + 1) xs))
more {X = X} m f xs x i start before between after sign h e b s w a =
    let t : take (i + 1) xs ≡ take i xs ++ x ∷ [] = take_more xs i x h ∙ ap (λ y. take i xs ++ y ∷ []) (sym e) in
    let ys : List X = take i xs in
    let k : sign ≡ mark_at m (length ys) = s ∙ ap (mark_at m) (sym (length-take xs i h)) in
    let done : List ℕ = behind (separated m f ys) in
    a ∙ ap (λ y. y ++ behind (f x)) (w ∙ ap₂ (λ y z. y ++ behind (z ∷ [])) b k)
    ∙ append_assoc (start ++ done) (behind (mark_at m (length ys) ∷ [])) (behind (f x))
    ∙ append_assoc start done (behind (mark_at m (length ys) ∷ []) ++ behind (f x))
    ∙ ap (λ y. start ++ (done ++ y)) (sym (behind-append (mark_at m (length ys) ∷ []) (f x)))
    ∙ ap (λ y. start ++ y) (sym (behind-append (separated m f ys) (mark_at m (length ys) ∷ f x)))
    ∙ ap (λ y. start ++ behind y) (sym (ap (separated m f) t ∙ separated-snoc m f ys x))

-- ---- texts in quotes

quoted-snoc : (ys : List ℕ) (c : ℕ) → quoted (ys ++ c ∷ []) ≡ quoted ys ++ escaped c
quoted-snoc [] c = append-nil (escaped c)
quoted-snoc (y ∷ ys) c = ap (λ t. escaped y ++ t) (quoted-snoc ys c) ∙ sym (append_assoc (escaped y) (quoted ys) (escaped c))

pub quoted-more : (start before after ys : List ℕ) (c : ℕ) → before ≡ start ++ encode_utf8_all (quoted ys)
    → after ≡ before ++ encode_utf8_all (escaped c) → after ≡ start ++ encode_utf8_all (quoted (ys ++ c ∷ []))
quoted-more start before after ys c b a =
    a ∙ ap (λ x. x ++ encode_utf8_all (escaped c)) b ∙ append_assoc start (encode_utf8_all (quoted ys)) (encode_utf8_all (escaped c))
    ∙ ap (λ x. start ++ x) (sym (encodes-append (quoted ys) (escaped c)) ∙ ap encode_utf8_all (sym (quoted-snoc ys c)))

quote-one : encode_utf8_all (34 ∷ []) ≡ 34 ∷ []
quote-one = ap (λ t. t ++ []) (encode_ascii 34 (omega arith))

quote-first : (cs : List ℕ) → encode_utf8_all (34 ∷ cs) ≡ 34 ∷ encode_utf8_all cs
quote-first cs = ap (λ t. t ++ encode_utf8_all cs) (encode_ascii 34 (omega arith))

quoted-closed : (cs : List ℕ) → behind (encode_utf8_all (34 ∷ (quoted cs ++ 34 ∷ [])) ∷ []) ≡ 32 ∷ 34 ∷ (encode_utf8_all (quoted cs) ++ 34 ∷ [])
quoted-closed cs =
    append-nil (32 ∷ encode_utf8_all (34 ∷ (quoted cs ++ 34 ∷ [])))
    ∙ ap (λ t. 32 ∷ t) (quote-first (quoted cs ++ 34 ∷ []) ∙ ap (λ t. 34 ∷ t) (encodes-append (quoted cs) (34 ∷ []) ∙ ap (λ t. encode_utf8_all (quoted cs) ++ t) quote-one))

pub quoted-end : (old start before after cs : List ℕ) → start ≡ old ++ 32 ∷ 34 ∷ [] → before ≡ start ++ encode_utf8_all (quoted cs)
    → after ≡ before ++ 34 ∷ [] → after ≡ old ++ behind (encode_utf8_all (34 ∷ (quoted cs ++ 34 ∷ [])) ∷ [])
quoted-end old start before after cs s b a =
    let text : List ℕ = encode_utf8_all (quoted cs) in
    a ∙ ap (λ t. t ++ 34 ∷ []) (b ∙ ap (λ t. t ++ text) s) ∙ append_assoc (old ++ 32 ∷ 34 ∷ []) text (34 ∷ [])
    ∙ append_assoc old (32 ∷ 34 ∷ []) (text ++ 34 ∷ []) ∙ ap (λ t. old ++ t) (sym (quoted-closed cs))

pub on-written : {E : Type 0} (r : Result (Unit {0}) E) (new more old wanted : List ℕ) → new ≡ (if is_ok r then more else old) → (new ≡ more → new ≡ wanted) → OnOk r (new ≡ wanted)
on-written (Ok x) new more old wanted e f = f e
on-written (Err x) new more old wanted e f = tt

-- ---- terms

closed-apply : (args : List WrittenTerm) (f a : WrittenTerm)
    → term_parts (applied (apply f a) args) ≡ opened f ++ (term_parts a ++ (flat_map (λ t. codes "," ∷ term_parts t) args ++ codes ")" ∷ []))
closed-apply [] f a = append_assoc (opened f) (term_parts a) (codes ")" ∷ [])
closed-apply (b ∷ rest) f a =
    let last : List (List ℕ) = flat_map (λ t. codes "," ∷ term_parts t) rest ++ codes ")" ∷ [] in
    closed-apply rest (apply f a) b
    ∙ append_assoc (opened f ++ term_parts a) (codes "," ∷ []) (term_parts b ++ last)
    ∙ append_assoc (opened f) (term_parts a) (codes "," ∷ (term_parts b ++ last))
    ∙ ap (λ t. opened f ++ (term_parts a ++ codes "," ∷ t)) (sym (append_assoc (term_parts b) (flat_map (λ t. codes "," ∷ term_parts t) rest) (codes ")" ∷ [])))

pub term-closed : (n : List ℕ) (args : List WrittenTerm) → term_parts (applied (named n) args) ≡ n ∷ separated (codes "(") term_parts args ++ closing (length args)
term-closed n [] = refl
term-closed n (a ∷ rest) =
    closed-apply rest (named n) a
    ∙ ap (λ t. n ∷ codes "(" ∷ t) (sym (append_assoc (term_parts a) (flat_map (λ t. codes "," ∷ term_parts t) rest) (codes ")" ∷ [])))
    ∙ ap (λ t. n ∷ (separated (codes "(") term_parts (a ∷ rest) ++ t)) (sym (closing-more (length rest)))

-- ---- names in brackets

closed-names : (n : Name) (rest : List Name) → closed_names (n ∷ rest) ≡ n ∷ flat_map (λ m. codes "," ∷ m ∷ []) rest ++ codes ")" ∷ []
closed-names n [] = refl
closed-names n (m ∷ rest) = ap (λ t. n ∷ codes "," ∷ t) (closed-names m rest)

pub names-closed : (ns : List Name) → argument_parts ns ≡ separated (codes "(") (λ n. n ∷ []) ns ++ closing (length ns)
names-closed [] = refl
names-closed (n ∷ rest) =
    ap (λ t. codes "(" ∷ t) (closed-names n rest)
    ∙ ap (λ t. separated (codes "(") (λ m. m ∷ []) (n ∷ rest) ++ t) (sym (closing-more (length rest)))

-- ---- specimens

closed-part : (f : WrittenTree) (p : LinePart) → tree_parts (with_part f p) ≡ opened_tree f ++ (part_parts p ++ codes ")" ∷ [])
closed-part f (Tree t) = append_assoc (opened_tree f) (tree_parts t) (codes ")" ∷ [])
closed-part f (NamePart n) = refl
closed-part f (Number d) = refl
closed-part f (Text w) = refl

opened-part : (f : WrittenTree) (p : LinePart) → opened_tree (with_part f p) ≡ opened_tree f ++ (part_parts p ++ codes "," ∷ [])
opened-part f (Tree t) = append_assoc (opened_tree f) (tree_parts t) (codes "," ∷ [])
opened-part f (NamePart n) = refl
opened-part f (Number d) = refl
opened-part f (Text w) = refl

closed-parts : (ps : List LinePart) (f : WrittenTree) (p : LinePart)
    → tree_parts (with_parts (with_part f p) ps) ≡ opened_tree f ++ (part_parts p ++ (flat_map (λ q. codes "," ∷ part_parts q) ps ++ codes ")" ∷ []))
closed-parts [] f p = closed-part f p
closed-parts (q ∷ rest) f p =
    closed-parts rest (with_part f p) q
    ∙ ap (λ t. t ++ (part_parts q ++ (flat_map (λ r. codes "," ∷ part_parts r) rest ++ codes ")" ∷ []))) (opened-part f p)
    ∙ append_assoc (opened_tree f) (part_parts p ++ codes "," ∷ []) _
    ∙ ap (λ t. opened_tree f ++ t) (append_assoc (part_parts p) (codes "," ∷ []) _
    ∙ ap (λ t. part_parts p ++ codes "," ∷ t) (sym (append_assoc (part_parts q) (flat_map (λ r. codes "," ∷ part_parts r) rest) (codes ")" ∷ []))))

pub operator-closed : (o : List ℕ) (ps : List LinePart) → tree_parts (with_parts (operator o) ps) ≡ o ∷ separated (codes "(") part_parts ps ++ closing (length ps)
operator-closed o [] = refl
operator-closed o (p ∷ rest) =
    closed-parts rest (operator o) p
    ∙ ap (λ t. o ∷ codes "(" ∷ t) (sym (append_assoc (part_parts p) (flat_map (λ q. codes "," ∷ part_parts q) rest) (codes ")" ∷ [])))
    ∙ ap (λ t. o ∷ (separated (codes "(") part_parts (p ∷ rest) ++ t)) (sym (closing-more (length rest)))

follow-ending : (o : Option LinePlace) → follow (ending o) ≡ ending_parts o
follow-ending None = refl
follow-ending (Some p) = refl

follow-elements : (o : Option LinePlace) (es : List WrittenTree) → follow (list_of (ending o) es) ≡ flat_map (λ t. codes "," ∷ tree_parts t) es ++ ending_parts o
follow-elements o [] = follow-ending o
follow-elements o (e ∷ rest) =
    ap (λ t. codes "," ∷ tree_parts e ++ t) (follow-elements o rest)
    ∙ ap (λ t. codes "," ∷ t) (sym (append_assoc (tree_parts e) (flat_map (λ t. codes "," ∷ tree_parts t) rest) (ending_parts o)))

pub list-closed : (o : Option LinePlace) (es : List WrittenTree)
    → tree_parts (list_of (ending o) es) ≡ cond (length es == 0) (codes "[" ∷ []) [] ++ (separated (codes "[") tree_parts es ++ ending_parts o)
list-closed None [] = refl
list-closed (Some p) [] = refl
list-closed o (e ∷ rest) =
    ap (λ t. codes "[" ∷ tree_parts e ++ t) (follow-elements o rest)
    ∙ ap (λ t. codes "[" ∷ t) (sym (append_assoc (tree_parts e) (flat_map (λ t. codes "," ∷ tree_parts t) rest) (ending_parts o)))
    ∙ ap (λ b. cond b (codes "[" ∷ []) [] ++ (separated (codes "[") tree_parts (e ∷ rest) ++ ending_parts o)) (sym (suc_is_not_zero (length rest)))

-- ---- the ends of loops

pub on-ok : {E A B : Type 0} (r : Result (Unit {0}) E) → OnOk r A → (A → B) → OnOk r B
on-ok (Ok x) a f = f a
on-ok (Err x) a f = tt

-- what was written in three goes
pub three : (old first before after : List ℕ) (a b c whole : List (List ℕ)) → first ≡ old ++ behind a → before ≡ first ++ behind b
    → after ≡ before ++ behind c → whole ≡ a ++ (b ++ c) → after ≡ old ++ behind whole
three old first before after a b c whole f g h w =
    h ∙ ap (λ x. x ++ behind c) (g ∙ ap (λ x. x ++ behind b) f) ∙ append_assoc (old ++ behind a) (behind b) (behind c)
    ∙ append_assoc old (behind a) (behind b ++ behind c)
    ∙ ap (λ x. old ++ x) (ap (λ x. behind a ++ x) (sym (behind-append b c)) ∙ sym (behind-append a (b ++ c)) ∙ ap behind (sym w))

pub term-end : (t : WrittenTerm) (sh : TermShape) (n : List ℕ) (kept args : List WrittenTerm) (i : ℕ) (old first before after : List ℕ)
    → sh ≡ Named n kept → term_of sh ≡ t → args ≡ kept → length args ≤ i
    → first ≡ old ++ behind (n ∷ []) → before ≡ first ++ behind (separated (codes "(") term_parts (take i args))
    → after ≡ before ++ behind (closing (length args)) → after ≡ old ++ behind (term_parts t)
term-end t sh n kept args i old first before after s v k l f g h =
    three old first before after (n ∷ []) (separated (codes "(") term_parts args) (closing (length args)) (term_parts t) f
    (g ∙ ap (λ x. first ++ behind (separated (codes "(") term_parts x)) (take_all i args l)) h
    (ap term_parts (sym v ∙ ap term_of s ∙ ap (applied (named n)) (sym k)) ∙ term-closed n args)

pub operator-end : (t : WrittenTree) (sh : TreeShape) (n : List ℕ) (kept ps : List LinePart) (i : ℕ) (old first before after : List ℕ)
    → sh ≡ Operator n kept → tree_of sh ≡ t → ps ≡ kept → length ps ≤ i
    → first ≡ old ++ behind (n ∷ []) → before ≡ first ++ behind (separated (codes "(") part_parts (take i ps))
    → after ≡ before ++ behind (closing (length ps)) → after ≡ old ++ behind (tree_parts t)
operator-end t sh n kept ps i old first before after s v k l f g h =
    three old first before after (n ∷ []) (separated (codes "(") part_parts ps) (closing (length ps)) (tree_parts t) f
    (g ∙ ap (λ x. first ++ behind (separated (codes "(") part_parts x)) (take_all i ps l)) h
    (ap tree_parts (sym v ∙ ap tree_of s ∙ ap (with_parts (operator n)) (sym k)) ∙ operator-closed n ps)

pub list-end : (t : WrittenTree) (sh : TreeShape) (kept es : List WrittenTree) (o : Option LinePlace) (i : ℕ) (old first before after : List ℕ)
    → sh ≡ ListOf kept o → tree_of sh ≡ t → es ≡ kept → length es ≤ i
    → first ≡ old ++ behind (cond (length es == 0) (codes "[" ∷ []) []) → before ≡ first ++ behind (separated (codes "[") tree_parts (take i es))
    → after ≡ before ++ behind (ending_parts o) → after ≡ old ++ behind (tree_parts t)
list-end t sh kept es o i old first before after s v k l f g h =
    three old first before after (cond (length es == 0) (codes "[" ∷ []) []) (separated (codes "[") tree_parts es) (ending_parts o) (tree_parts t) f
    (g ∙ ap (λ x. first ++ behind (separated (codes "[") tree_parts x)) (take_all i es l)) h
    (ap tree_parts (sym v ∙ ap tree_of s ∙ ap (list_of (ending o)) (sym k)) ∙ list-closed o es)

-- ---- heights

part-first : (p : LinePart) (f : WrittenTree) → tree_height (with_part (operator []) p) ≤ tree_height (with_part f p)
part-first (Tree t) f = omega arith
part-first (NamePart n) f = omega arith
part-first (Number d) f = omega arith
part-first (Text w) f = omega arith

grows-part : (p : LinePart) (f : WrittenTree) → tree_height f ≤ tree_height (with_part f p)
grows-part (Tree t) f = omega arith
grows-part (NamePart n) f = omega arith
grows-part (Number d) f = omega arith
grows-part (Text w) f = omega arith

grows : (ps : List LinePart) (f : WrittenTree) → tree_height f ≤ tree_height (with_parts f ps)
grows [] f = omega arith
grows (p ∷ ps) f = omega (arith, grows-part p f, grows ps (with_part f p))

pub part-in : (ps : List LinePart) (f : WrittenTree) (i : ℕ) (p : LinePart) → i < length ps → p ≡ get_or ps i p
    → tree_height (with_part (operator []) p) ≤ tree_height (with_parts f ps)
part-in [] f i p h e = absurd (omega (arith, h))
part-in (q ∷ ps) f zero p h e =
    let k : tree_height (with_part (operator []) p) ≤ tree_height (with_part f p) = part-first p f in
    let m : with_part f p ≡ with_part f q = ap (with_part f) e in
    omega (arith, k, ap tree_height m, grows ps (with_part f q))
part-in (q ∷ ps) f (suc i) p h e = part-in ps (with_part f q) i p (omega (arith, h)) e

pub element-in : (es : List WrittenTree) (end : WrittenTree) (i : ℕ) (e : WrittenTree) → i < length es → e ≡ get_or es i e
    → tree_height e + 1 ≤ tree_height (list_of end es)
element-in [] end i e h k = absurd (omega (arith, h))
element-in (x ∷ es) end zero e h k = omega (arith, ap tree_height k)
element-in (x ∷ es) end (suc i) e h k = omega (arith, element-in es end i e (omega (arith, h)) k)

-- ---- loops over elements that are written one after the other

pub each : {X : Type 0} (f : List X → List (List ℕ)) (g : List (List ℕ)) (xs : List X) (x : X) (i : ℕ) (start before after : List ℕ)
    → i < length xs → x ≡ get_or xs i x → f (take i xs ++ x ∷ []) ≡ f (take i xs) ++ g
    → before ≡ start ++ behind (f (take i xs)) → after ≡ before ++ behind g → after ≡ start ++ behind (f (take (i + 1) xs))
each f g xs x i start before after h e k b a =
    a ∙ ap (λ y. y ++ behind g) b ∙ append_assoc start (behind (f (take i xs))) (behind g)
    ∙ ap (λ y. start ++ y) (sym (behind-append (f (take i xs)) g) ∙ ap behind (sym k ∙ ap (λ y. f (take i xs ++ y ∷ [])) e ∙ ap f (sym (take_more xs i x h))))

pub each-end : {X : Type 0} (f : List X → List (List ℕ)) (xs : List X) (i : ℕ) (start before : List ℕ) → length xs ≤ i
    → before ≡ start ++ behind (f (take i xs)) → before ≡ start ++ behind (f xs)
each-end f xs i start before l b = b ∙ ap (λ y. start ++ behind (f y)) (take_all i xs l)

pub constructor-snoc : (cs : List ConDecl) (c : ConDecl) → constructor_parts (cs ++ c ∷ []) ≡ constructor_parts cs ++ c.name ∷ argument_parts c.args
constructor-snoc [] c = append-nil (c.name ∷ argument_parts c.args)
constructor-snoc (d ∷ cs) c =
    ap (λ y. (d.name ∷ argument_parts d.args) ++ y) (constructor-snoc cs c)
    ∙ sym (append_assoc (d.name ∷ argument_parts d.args) (constructor_parts cs) (c.name ∷ argument_parts c.args))

pub terms-snoc : (ts : List WrittenTerm) (t : WrittenTerm) → terms_parts (ts ++ t ∷ []) ≡ terms_parts ts ++ term_parts t
terms-snoc [] t = append-nil (term_parts t)
terms-snoc (u ∷ ts) t = ap (λ y. term_parts u ++ y) (terms-snoc ts t) ∙ sym (append_assoc (term_parts u) (terms_parts ts) (term_parts t))

pub items-snoc : (ms : List LineItem) (m : LineItem) → map item_part (ms ++ m ∷ []) ≡ map item_part ms ++ item_part m ∷ []
items-snoc [] m = refl
items-snoc (n ∷ ms) m = ap (λ y. item_part n ∷ y) (items-snoc ms m)

pub names-end : (ns : List Name) (i : ℕ) (start before after : List ℕ) → length ns ≤ i
    → before ≡ start ++ behind (separated (codes "(") (λ n. n ∷ []) (take i ns)) → after ≡ before ++ behind (closing (length ns))
    → after ≡ start ++ behind (argument_parts ns)
names-end ns i start before after l b a =
    let front : List (List ℕ) = separated (codes "(") (λ n. n ∷ []) ns in
    a ∙ ap (λ y. y ++ behind (closing (length ns))) (each-end (separated (codes "(") (λ n. n ∷ [])) ns i start before l b)
    ∙ append_assoc start (behind front) (behind (closing (length ns)))
    ∙ ap (λ y. start ++ y) (sym (behind-append front (closing (length ns))) ∙ ap behind (sym (names-closed ns)))

-- the whole line
pub spelled : (line : Line) (old text : List ℕ) → old ≡ [] → (HasForm line → text ≡ old ++ spaced (parts_of line)) → HasForm line → SpellsLine text line
spelled line old text o e h = record {
  form = h;
  written = subst (IsWritten (parts_of line)) (sym (e h ∙ ap (λ x. x ++ spaced (parts_of line)) o)) (written-spaced (parts_of line));
}

pub as_parts : (line : Line) (old text : List ℕ) → old ≡ [] → (HasForm line → text ≡ old ++ spaced (parts_of line)) → HasForm line → text ≡ spaced (parts_of line)
as_parts line old text o e h = e h ∙ ap (λ x. x ++ spaced (parts_of line)) o
