-- The text of a node, part by part and element by element.
use Rattle.std.proofs.Common.{◌≡◌, inl, inr, ℕ, zero, suc, ◌+◌, ◌<◌, ◌≤◌, ◌==◌, Bool, true, false, cond, List, [], ◌∷◌, ◌++◌, length, take, drop, get_or, refl, ap, ap₂, sym, ◌∙◌, arith, append_assoc, codes, if◌then◌else◌, is_ok, OnOk, Result, Ok, Err}
use Rattle.std.proofs.lemmas.Bool.Decides.{eqb_tells}
use Rattle.std.proofs.lemmas.List.{take_more, take_all, drop_more, drop_all, append-nil}
use Rattle.psg_terms.proofs.Lists.{suc_is_not_zero}
use Rattle.psg_grammar.specs.declared.types.Definition.{Definition}
use Rattle.psg_grammar.specs.Fragments.{Fragment, operator}
use Rattle.psg_tree.specs.declared.tree.Part.{Part}
use Rattle.psg_tree.specs.declared.tree.Part.TheVariants.{Sub, Name, Number, Text}
use Rattle.psg_tree.specs.declared.tree.Shape.{Shape}
use Rattle.psg_tree.specs.declared.tree.Shape.TheVariants.{List as ListOf}
use Rattle.psg_tree.specs.Shapes.{with_part, with_parts, list_of, tree_of}
use Rattle.psg_tree.specs.AbstractText.{has_parts, mark, comma, closed, inner, abstract_text}
use Rattle.psg_tree.specs.PartTexts.{part_text}

-- what is still to be written of a list's elements and its end
abbrev pub tail_text : Definition → ℕ → List Fragment → Bool → List ℕ
tail_text def i es u = cond (i == 0) [] (comma (list_of 0 es u)) ++ inner def (list_of 0 es u)

pub with_parts-push : (f : Fragment) (ps : List Part) (p : Part) → with_parts f (ps ++ p ∷ []) ≡ with_part (with_parts f ps) p
with_parts-push f [] p = refl
with_parts-push f (q ∷ ps) p = with_parts-push (with_part f q) ps p

inner-with_part : (def : Definition) (f : Fragment) (p : Part) → inner def (with_part f p) ≡ inner def f ++ (mark f ++ part_text def p)
inner-with_part def f (Sub t) = refl
inner-with_part def f (Name n) = refl
inner-with_part def f (Number n) = refl
inner-with_part def f (Text t) = refl

part_counts : (f : Fragment) (p : Part) → has_parts (with_part f p) ≡ true
part_counts f (Sub t) = refl
part_counts f (Name n) = refl
part_counts f (Number n) = refl
part_counts f (Text t) = refl

parts_count : (f : Fragment) (ps : List Part) → has_parts f ≡ true → has_parts (with_parts f ps) ≡ true
parts_count f [] h = h
parts_count f (p ∷ ps) h = parts_count (with_part f p) ps (part_counts f p)

-- the mark before the part of the number
mark_at : (o i : ℕ) (ps : List Part) → i < length ps → mark (with_parts (operator o) (take i ps)) ≡ cond (i == 0) (codes "(") (codes ",")
mark_at o zero ps h = refl
mark_at o (suc i) [] h = absurd (omega (arith, h))
mark_at o (suc i) (p ∷ ps) h =
    ap (λ b. cond b (codes ",") (codes "(")) (parts_count (with_part (operator o) p) (take i ps) (part_counts (operator o) p))
    ∙ ap (λ b. cond b (codes "(") (codes ",")) (sym (suc_is_not_zero i))

-- one more part
pub part_written : (def : Definition) (o i : ℕ) (ps : List Part) (p : Part) (start before between after sign : List ℕ)
    → i < length ps → p ≡ get_or ps i p → before ≡ start ++ inner def (with_parts (operator o) (take i ps))
    → sign ≡ cond (i == 0) (codes "(") (codes ",") → between ≡ before ++ sign → after ≡ between ++ part_text def p
    → after ≡ start ++ inner def (with_parts (operator o) (take (i + 1) ps))
part_written def o i ps p start before between after sign h e b s m a =
    let f : Fragment = with_parts (operator o) (take i ps) in
    let t : take (i + 1) ps ≡ take i ps ++ p ∷ [] = take_more ps i p h ∙ ap (λ x. take i ps ++ x ∷ []) (sym e) in
    let n : inner def (with_parts (operator o) (take (i + 1) ps)) ≡ inner def f ++ (mark f ++ part_text def p) =
    ap (λ x. inner def (with_parts (operator o) x)) t ∙ ap (inner def) (with_parts-push (operator o) (take i ps) p) ∙ inner-with_part def f p in
    a ∙ ap (λ x. x ++ part_text def p) (m ∙ ap₂ (λ x y. x ++ y) b (s ∙ sym (mark_at o i ps h)))
    ∙ append_assoc (start ++ inner def f) (mark f) (part_text def p) ∙ append_assoc start (inner def f) (mark f ++ part_text def p) ∙ ap (λ x. start ++ x) (sym n)

closed-part : (f : Fragment) (p : Part) (text : List ℕ) → closed (with_part f p) text ≡ text ++ codes ")"
closed-part f (Sub t) text = refl
closed-part f (Name n) text = refl
closed-part f (Number n) text = refl
closed-part f (Text t) text = refl

closed-parts : (f : Fragment) (p : Part) (ps : List Part) (text : List ℕ) → closed (with_parts f (p ∷ ps)) text ≡ text ++ codes ")"
closed-parts f p [] text = closed-part f p text
closed-parts f p (q ∷ ps) text = closed-parts (with_part f p) q ps text

-- the bracket behind the parts
closed-operator : (o : ℕ) (ps : List Part) (text : List ℕ) → closed (with_parts (operator o) ps) text ≡ text ++ cond (length ps == 0) [] (codes ")")
closed-operator o [] text = sym (append-nil text)
closed-operator o (p ∷ ps) text = closed-parts (operator o) p ps text ∙ ap (λ b. text ++ cond b [] (codes ")")) (sym (suc_is_not_zero (length ps)))

-- all parts are written
pub parts_written : (def : Definition) (o i : ℕ) (ps : List Part) (start before after sign : List ℕ)
    → length ps ≤ i → before ≡ start ++ inner def (with_parts (operator o) (take i ps))
    → sign ≡ cond (length ps == 0) [] (codes ")") → after ≡ before ++ sign → after ≡ start ++ abstract_text def (with_parts (operator o) ps)
parts_written def o i ps start before after sign h b s a =
    a ∙ ap₂ (λ x y. x ++ y) (b ∙ ap (λ x. start ++ inner def (with_parts (operator o) x)) (take_all i ps h)) s
    ∙ append_assoc start (inner def (with_parts (operator o) ps)) (cond (length ps == 0) [] (codes ")"))
    ∙ ap (λ x. start ++ x) (sym (closed-operator o ps (inner def (with_parts (operator o) ps))))

one_more : (i : ℕ) → (i + 1 == 0) ≡ false
one_more i = elim (eqb_tells (i + 1) 0) [ inl q ↦ absurd (omega (arith, q.1)) | inr q ↦ q.0 ]

-- one more element
pub element_written : (def : Definition) (i : ℕ) (es : List Fragment) (u : Bool) (e : Fragment) (whole before between after sign : List ℕ)
    → i < length es → e ≡ get_or es i e → before ++ tail_text def i (drop i es) u ≡ whole
    → sign ≡ cond (i == 0) [] (codes ",") → between ≡ before ++ sign → after ≡ between ++ abstract_text def e
    → after ++ tail_text def (i + 1) (drop (i + 1) es) u ≡ whole
element_written def i es u e whole before between after sign h r b s m a =
    let rest : Fragment = list_of 0 (drop (i + 1) es) u in
    let d : drop i es ≡ e ∷ drop (i + 1) es = drop_more es i e h ∙ ap (λ x. x ∷ drop (i + 1) es) (sym r) in
    let n : tail_text def (i + 1) (drop (i + 1) es) u ≡ comma rest ++ inner def rest = ap (λ b. cond b [] (comma rest) ++ inner def rest) (one_more i) in
    ap₂ (λ x y. x ++ y) (a ∙ ap (λ x. x ++ abstract_text def e) (m ∙ ap (λ x. before ++ x) s)) n
    ∙ append_assoc (before ++ cond (i == 0) [] (codes ",")) (abstract_text def e) (comma rest ++ inner def rest)
    ∙ append_assoc before (cond (i == 0) [] (codes ",")) (abstract_text def e ++ (comma rest ++ inner def rest))
    ∙ ap (λ x. before ++ tail_text def i x u) (sym d) ∙ b

closed-list_of : (l : ℕ) (es : List Fragment) (u : Bool) (text : List ℕ) → closed (list_of l es u) text ≡ codes "[" ++ text ++ codes "]"
closed-list_of l [] u text = refl
closed-list_of l (e ∷ es) u text = refl

nothing : (b : Bool) → cond {A = List ℕ} b [] [] ≡ []
nothing true = refl
nothing false = refl

-- all elements are written
pub elements_written : (def : Definition) (i : ℕ) (es : List Fragment) (u : Bool) (start before after sign : List ℕ)
    → length es ≤ i → before ++ tail_text def i (drop i es) u ≡ start ++ (codes "[" ++ inner def (list_of 0 es u))
    → sign ≡ cond u (codes "|...") [] ++ codes "]" → after ≡ before ++ sign → after ≡ start ++ abstract_text def (list_of 0 es u)
elements_written def i es u start before after sign h b s a =
    let last : List ℕ = cond u (codes "|...") [] in
    let text : List ℕ = inner def (list_of 0 es u) in
    let e : before ++ last ≡ start ++ (codes "[" ++ text) =
    ap (λ x. before ++ (x ++ last)) (sym (nothing (i == 0))) ∙ ap (λ x. before ++ tail_text def i x u) (sym (drop_all i es h)) ∙ b in
    a ∙ ap (λ x. before ++ x) s ∙ sym (append_assoc before last (codes "]")) ∙ ap (λ x. x ++ codes "]") e
    ∙ append_assoc start (codes "[" ++ text) (codes "]") ∙ ap (λ x. start ++ x) (sym (closed-list_of 0 es u text))

inner-list_of : (def : Definition) (l : ℕ) (es : List Fragment) (u : Bool)
    → comma (list_of l es u) ++ inner def (list_of l es u) ≡ comma (list_of 0 es u) ++ inner def (list_of 0 es u)
inner-list_of def l [] u = refl
inner-list_of def l (e ∷ es) u = ap (λ x. codes "," ++ (closed e (inner def e) ++ x)) (inner-list_of def l es u)

-- a list's text is the same for each kind of lists
pub text-list_of : (def : Definition) (l : ℕ) (es : List Fragment) (u : Bool) → abstract_text def (list_of 0 es u) ≡ abstract_text def (list_of l es u)
text-list_of def l [] u = refl
text-list_of def l (e ∷ es) u = ap (λ x. codes "[" ++ (closed e (inner def e) ++ x) ++ codes "]") (sym (inner-list_of def l es u))

-- the text of a list that is read
pub list_text : (def : Definition) (s : Shape) (l : ℕ) (es : List Fragment) (u : Bool) (f : Fragment) → s ≡ ListOf l es u → tree_of s ≡ f → abstract_text def (list_of 0 es u) ≡ abstract_text def f
list_text def s l es u f e h = text-list_of def l es u ∙ ap (abstract_text def) (sym (ap tree_of e) ∙ h)

-- what a last write leaves
pub on_written : {E : Type 0} (r : Result (Unit {0}) E) (new more old wanted : List ℕ) → new ≡ (if is_ok r then more else old) → (new ≡ more → new ≡ wanted) → OnOk r (new ≡ wanted)
on_written (Ok x) new more old wanted e f = f e
on_written (Err x) new more old wanted e f = tt
