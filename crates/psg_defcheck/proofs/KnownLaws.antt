-- Terms and specimens whose names lines declare.
use Rattle.std.proofs.Common.{◌≡◌, ◌↔◌, IsTrue, Bool, false, is_some, List, [], ◌∷◌, sym, ◌∙◌, subst, Option, Some, None}
use Rattle.std.proofs.lemmas.Bool.{false≢true}
use Rattle.std.specs.List.{AllByRecursion}
use Rattle.psg_terms.specs.Names.{Name}
use Rattle.psg_deflines.specs.WrittenTerms.{WrittenTerm, named, apply, applied}
use Rattle.psg_deflines.specs.WrittenTrees.{WrittenTree, operator, with_tree, with_name, with_number, with_text}
use Rattle.psg_deflines.specs.TreeShapes.{with_parts, ending, list_of}
use Rattle.psg_deflines.specs.declared.trees.LinePlace.{LinePlace}
use Rattle.psg_deflines.specs.declared.trees.LinePart.{LinePart}
use Rattle.psg_deflines.specs.declared.trees.LinePart.TheVariants as parts
use Rattle.psg_deflines.specs.declared.lines.Line.{Line}
use Rattle.psg_defcheck.specs.Scopes.{constructor_declared, operator_declared}
use Rattle.psg_defcheck.specs.Meanings.{KnowsTerm, KnowsTree}
use Rattle.psg_defcheck.specs.Parts.{KnowsPart, KnowsEnd}

pub knows-applied : (file : List Line) (f : WrittenTerm) (args : List WrittenTerm) → KnowsTerm file (applied f args) ↔ (KnowsTerm file f × AllByRecursion (KnowsTerm file) args)
knows-applied file f [] = (λ k. (k, tt), λ h. h.0)
knows-applied file f (a ∷ args) = let r = knows-applied file (apply f a) args in (
  λ k. let h = r.0 k in (h.0.0, (h.0.1, h.1)),
  λ h. r.1 ((h.0, h.1.0), h.1.1),
)

pub knows-parts : (file : List Line) (f : WrittenTree) (ps : List LinePart) → KnowsTree file (with_parts f ps) ↔ (KnowsTree file f × AllByRecursion (KnowsPart file) ps)
knows-parts file f [] = (λ k. (k, tt), λ h. h.0)
knows-parts file f (parts.Tree t ∷ ps) = let r = knows-parts file (with_tree f t) ps in (
  λ k. let h = r.0 k in (h.0.0, (h.0.1, h.1)),
  λ h. r.1 ((h.0, h.1.0), h.1.1),
)
knows-parts file f (parts.Name n ∷ ps) = let r = knows-parts file (with_name f n) ps in (λ k. let h = r.0 k in (h.0, (tt, h.1)), λ h. r.1 (h.0, h.1.1))
knows-parts file f (parts.Number d ∷ ps) = let r = knows-parts file (with_number f d) ps in (λ k. let h = r.0 k in (h.0, (tt, h.1)), λ h. r.1 (h.0, h.1.1))
knows-parts file f (parts.Text w ∷ ps) = let r = knows-parts file (with_text f w) ps in (λ k. let h = r.0 k in (h.0, (tt, h.1)), λ h. r.1 (h.0, h.1.1))

pub knows-elements : (file : List Line) (end : WrittenTree) (es : List WrittenTree) → KnowsTree file (list_of end es) ↔ (KnowsTree file end × AllByRecursion (KnowsTree file) es)
knows-elements file end [] = (λ k. (k, tt), λ h. h.0)
knows-elements file end (e ∷ es) = let r = knows-elements file end es in (
  λ k. let h = r.0 k.1 in (h.0, (k.0, h.1)),
  λ h. (h.1.0, r.1 (h.0, h.1.1)),
)

knows-end : (file : List Line) (rest : Option LinePlace) → KnowsTree file (ending rest) ↔ KnowsEnd file rest
knows-end file None = (λ h. h, λ h. h)
knows-end file (Some p) = (λ h. h, λ h. h)

-- answers of the tests
pub named_known : (file : List Line) (t : WrittenTerm) (n : Name) (args : List WrittenTerm) (b : Bool) → applied (named n) args ≡ t → IsTrue (is_some (constructor_declared file n)) → IsTrue b ↔ AllByRecursion (KnowsTerm file) args → IsTrue b ↔ KnowsTerm file t
named_known file t n args b e k h = let r = knows-applied file (named n) args in
    subst (λ z. IsTrue b ↔ KnowsTerm file z) e (λ y. r.1 (k, h.0 y), λ z. h.1 (r.0 z).1)

pub named_unknown : (file : List Line) (t : WrittenTerm) (n : Name) (args : List WrittenTerm) (b : Bool) → applied (named n) args ≡ t → b ≡ false → b ≡ is_some (constructor_declared file n) → IsTrue b ↔ KnowsTerm file t
named_unknown file t n args b e f is = let r = knows-applied file (named n) args in
    subst (λ z. IsTrue b ↔ KnowsTerm file z) e (λ y. absurd (false≢true (sym f ∙ y)), λ z. is ∙ (r.0 z).0)

pub operator_known : (file : List Line) (t : WrittenTree) (o : Name) (ps : List LinePart) (b : Bool) → with_parts (operator o) ps ≡ t → IsTrue (is_some (operator_declared file o)) → IsTrue b ↔ AllByRecursion (KnowsPart file) ps → IsTrue b ↔ KnowsTree file t
operator_known file t o ps b e k h = let r = knows-parts file (operator o) ps in
    subst (λ z. IsTrue b ↔ KnowsTree file z) e (λ y. r.1 (k, h.0 y), λ z. h.1 (r.0 z).1)

pub operator_unknown : (file : List Line) (t : WrittenTree) (o : Name) (ps : List LinePart) (b : Bool) → with_parts (operator o) ps ≡ t → b ≡ false → b ≡ is_some (operator_declared file o) → IsTrue b ↔ KnowsTree file t
operator_unknown file t o ps b e f is = let r = knows-parts file (operator o) ps in
    subst (λ z. IsTrue b ↔ KnowsTree file z) e (λ y. absurd (false≢true (sym f ∙ y)), λ z. is ∙ (r.0 z).0)

pub list_known : (file : List Line) (t : WrittenTree) (rest : Option LinePlace) (es : List WrittenTree) (b : Bool) → list_of (ending rest) es ≡ t → KnowsEnd file rest → IsTrue b ↔ AllByRecursion (KnowsTree file) es → IsTrue b ↔ KnowsTree file t
list_known file t rest es b e k h = let r = knows-elements file (ending rest) es in
    subst (λ z. IsTrue b ↔ KnowsTree file z) e (λ y. r.1 ((knows-end file rest).1 k, h.0 y), λ z. h.1 (r.0 z).1)

pub list_unknown : (file : List Line) (t : WrittenTree) (rest : Option LinePlace) (es : List WrittenTree) (b : Bool) → list_of (ending rest) es ≡ t → b ≡ false → IsTrue b ↔ KnowsEnd file rest → IsTrue b ↔ KnowsTree file t
list_unknown file t rest es b e f h = let r = knows-elements file (ending rest) es in
    subst (λ z. IsTrue b ↔ KnowsTree file z) e (λ y. absurd (false≢true (sym f ∙ y)), λ z. h.1 ((knows-end file rest).0 (r.0 z).0))
