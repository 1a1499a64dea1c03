-- What a walk over the parts of a specimen has read, where it leads, and how deep it is.
use Rattle.std.proofs.Common.{◌≡◌, ◌<◌, true, List, [], ◌∷◌, ◌++◌, length, length-append, append_assoc, codes, refl, ap, sym, ◌∙◌, subst, arith}
use Rattle.std.specs.Prelude.{Some}
use Rattle.std.specs.List.{AllByRecursion}
use Rattle.psg_deflines.specs.WrittenTrees.{WrittenTree, operator, with_tree, with_name, with_number, with_text, list_end, list_rest, element, place, tree_parts, opened, follow, place_parts, is_front, is_list, HasTreeForm, quoted_part}
use Rattle.psg_deflines.specs.TreeShapes.{with_part, list_of}
use Rattle.psg_deflines.specs.TermWalks.{Parts}
use Rattle.psg_deflines.specs.TreeWalks.{TreeFrame, in_operator, in_list, TreeStage, expects, after, done, placed, literal_part, IsLiteral, Begin, a_part, a_tree, a_frame, Begins, a_place, an_empty, a_rest, a_list, an_operator, a_leaf, a_literal, Finish, a_comma, a_close, an_end, Finishes, comma, close, bracket, bar, begun, finished, IsTreeStep}
use Rattle.psg_deflines.specs.declared.trees.LinePart.{LinePart}
use Rattle.psg_deflines.specs.declared.trees.LinePart.TheVariants as parts
use Rattle.psg_deflines.proofs.TreeWalkLaws.{step-only}

-- ---- what was read

-- elements, each with a comma behind it, and with a comma between two
abbrev pub listed : List WrittenTree → Parts
listed [] = []
listed (e ∷ es) = tree_parts e ++ (codes "," ∷ listed es)

abbrev pub joined : List WrittenTree → Parts
joined [] = []
joined (e ∷ []) = tree_parts e
joined (e ∷ f ∷ es) = tree_parts e ++ (codes "," ∷ joined (f ∷ es))

-- an operator up to its last part
abbrev pub filled : WrittenTree → Parts
filled (with_tree f t) = opened f ++ tree_parts t
filled (with_name f n) = opened f ++ (36 ∷ n) ∷ []
filled (with_number f d) = opened f ++ d ∷ []
filled (with_text f w) = opened f ++ quoted_part w ∷ []
filled _ = []

abbrev pub IsFilled : WrittenTree → Type 0
IsFilled (with_tree f t) = Unit {0}
IsFilled (with_name f n) = Unit {0}
IsFilled (with_number f d) = Unit {0}
IsFilled (with_text f w) = Unit {0}
IsFilled _ = ⊥

filled-comma : (f : WrittenTree) → IsFilled f → filled f ++ codes "," ∷ [] ≡ opened f
filled-comma (with_tree f t) h = refl
filled-comma (with_name f n) h = append_assoc (opened f) ((36 ∷ n) ∷ []) (codes "," ∷ [])
filled-comma (with_number f d) h = append_assoc (opened f) (d ∷ []) (codes "," ∷ [])
filled-comma (with_text f w) h = append_assoc (opened f) (quoted_part w ∷ []) (codes "," ∷ [])
filled-comma (operator o) h = absurd h
filled-comma list_end h = absurd h
filled-comma (list_rest l t) h = absurd h
filled-comma (element e r) h = absurd h
filled-comma (place k t) h = absurd h

filled-close : (f : WrittenTree) → IsFilled f → filled f ++ codes ")" ∷ [] ≡ tree_parts f
filled-close (with_tree f t) h = refl
filled-close (with_name f n) h = append_assoc (opened f) ((36 ∷ n) ∷ []) (codes ")" ∷ [])
filled-close (with_number f d) h = append_assoc (opened f) (d ∷ []) (codes ")" ∷ [])
filled-close (with_text f w) h = append_assoc (opened f) (quoted_part w ∷ []) (codes ")" ∷ [])
filled-close (operator o) h = absurd h
filled-close list_end h = absurd h
filled-close (list_rest l t) h = absurd h
filled-close (element e r) h = absurd h
filled-close (place k t) h = absurd h

joined-snoc : (es : List WrittenTree) (t : WrittenTree) → joined (es ++ t ∷ []) ≡ listed es ++ tree_parts t
joined-snoc [] t = refl
joined-snoc (e ∷ []) t = sym (append_assoc (tree_parts e) (codes "," ∷ []) (tree_parts t))
joined-snoc (e ∷ f ∷ es) t = ap (λ x. tree_parts e ++ (codes "," ∷ x)) (joined-snoc (f ∷ es) t) ∙ sym (append_assoc (tree_parts e) (codes "," ∷ listed (f ∷ es)) (tree_parts t))

joined-comma : (es : List WrittenTree) → 0 < length es → joined es ++ codes "," ∷ [] ≡ listed es
joined-comma [] h = absurd (omega arith)
joined-comma (e ∷ []) h = refl
joined-comma (e ∷ f ∷ es) h = append_assoc (tree_parts e) (codes "," ∷ joined (f ∷ es)) (codes "," ∷ []) ∙ ap (λ x. tree_parts e ++ (codes "," ∷ x)) (joined-comma (f ∷ es) (omega arith))

joined-follow : (e : WrittenTree) (es : List WrittenTree) (end : WrittenTree) → tree_parts e ++ follow (list_of end es) ≡ joined (e ∷ es) ++ follow end
joined-follow e [] end = refl
joined-follow e (f ∷ es) end = ap (λ x. tree_parts e ++ (codes "," ∷ x)) (joined-follow f es end) ∙ sym (append_assoc (tree_parts e) (codes "," ∷ joined (f ∷ es)) (follow end))

abbrev pub frame_parts : TreeFrame → Parts
frame_parts (in_operator f) = opened f
frame_parts (in_list es) = codes "[" ∷ listed es

abbrev pub inner_parts : TreeFrame → Parts
inner_parts (in_operator f) = filled f
inner_parts (in_list es) = codes "[" ∷ joined es

abbrev pub opens : List TreeFrame → Parts
opens [] = []
opens (f ∷ fs) = opens fs ++ frame_parts f

abbrev pub walked : TreeStage → Parts
walked (expects fs) = opens fs
walked (after []) = []
walked (after (f ∷ fs)) = opens fs ++ inner_parts f
walked (done t) = tree_parts t

abbrev pub IsGoodFrame : TreeFrame → Type 0
IsGoodFrame (in_operator f) = (is_front f ≡ true) × HasTreeForm f
IsGoodFrame (in_list es) = AllByRecursion HasTreeForm es

abbrev pub IsInner : TreeFrame → Type 0
IsInner (in_operator f) = IsFilled f
IsInner (in_list es) = 0 < length es

abbrev pub IsGood : TreeStage → Type 0
IsGood (expects fs) = AllByRecursion IsGoodFrame fs
IsGood (after []) = ⊥
IsGood (after (f ∷ fs)) = AllByRecursion IsGoodFrame (f ∷ fs) × IsInner f
IsGood (done t) = HasTreeForm t

all-snoc : (es : List WrittenTree) (t : WrittenTree) → AllByRecursion HasTreeForm es → HasTreeForm t → AllByRecursion HasTreeForm (es ++ t ∷ [])
all-snoc [] t h k = (k, tt)
all-snoc (e ∷ es) t h k = (h.0, all-snoc es t h.1 k)

placed-good : (fs : List TreeFrame) (t : WrittenTree) → AllByRecursion IsGoodFrame fs → HasTreeForm t → IsGood (placed fs t)
placed-good [] t h k = k
placed-good (in_operator f ∷ fs) t h k = (((refl, (h.0.0, h.0.1, k)), h.1), tt)
placed-good (in_list es ∷ fs) t h k = ((all-snoc es t h.0 k, h.1), omega (arith, length-append es (t ∷ [])))

placed-walked : (fs : List TreeFrame) (t : WrittenTree) → walked (placed fs t) ≡ opens fs ++ tree_parts t
placed-walked [] t = refl
placed-walked (in_operator f ∷ fs) t = sym (append_assoc (opens fs) (opened f) (tree_parts t))
placed-walked (in_list es ∷ fs) t = ap (λ x. opens fs ++ (codes "[" ∷ x)) (joined-snoc es t) ∙ sym (append_assoc (opens fs) (codes "[" ∷ listed es) (tree_parts t))

abbrev pub begin_parts : Begin → Parts
begin_parts (a_part l) = literal_part l ∷ []
begin_parts (a_tree t) = tree_parts t
begin_parts (a_frame f) = frame_parts f

abbrev pub IsBegun : Begin → Type 0
IsBegun (a_part l) = IsLiteral l
IsBegun (a_tree t) = HasTreeForm t
IsBegun (a_frame f) = IsGoodFrame f

begins-parts : (ps rest : Parts) (b : Begin) → Begins ps b rest → ps ≡ begin_parts b ++ rest
begins-parts ps rest b (a_place k t e h f c) = e ∙ ap (λ x. begin_parts x ++ rest) (sym c)
begins-parts ps rest b (an_empty e c) = e ∙ ap (λ x. begin_parts x ++ rest) (sym c)
begins-parts ps rest b (a_rest k t e h f c) = e ∙ ap (λ x. codes "[" ∷ codes "|" ∷ x) (sym (append_assoc (place_parts k t) (codes "]" ∷ []) rest)) ∙ ap (λ x. begin_parts x ++ rest) (sym c)
begins-parts ps rest b (a_list e g c) = e ∙ ap (λ x. begin_parts x ++ rest) (sym c)
begins-parts ps rest b (an_operator o e h n c) = e ∙ ap (λ x. begin_parts x ++ rest) (sym c)
begins-parts ps rest b (a_leaf o e h n c) = e ∙ ap (λ x. begin_parts x ++ rest) (sym c)
begins-parts ps rest b (a_literal l e h c) = e ∙ ap (λ x. begin_parts x ++ rest) (sym c)

begins-good : (ps rest : Parts) (b : Begin) → Begins ps b rest → IsBegun b
begins-good ps rest b (a_place k t e h f c) = subst IsBegun (sym c) (h, f)
begins-good ps rest b (an_empty e c) = subst IsBegun (sym c) tt
begins-good ps rest b (a_rest k t e h f c) = subst IsBegun (sym c) (h, f)
begins-good ps rest b (a_list e g c) = subst IsBegun (sym c) tt
begins-good ps rest b (an_operator o e h n c) = subst IsBegun (sym c) (refl, h)
begins-good ps rest b (a_leaf o e h n c) = subst IsBegun (sym c) h
begins-good ps rest b (a_literal l e h c) = subst IsBegun (sym c) h

-- an operator with one more literal part
part-filled : (f : WrittenTree) (l : LinePart) → IsLiteral l → filled (with_part f l) ≡ opened f ++ literal_part l ∷ []
part-filled f (parts.Tree t) h = absurd h
part-filled f (parts.Name n) h = refl
part-filled f (parts.Number d) h = refl
part-filled f (parts.Text w) h = refl

part-good : (f : WrittenTree) (l : LinePart) → IsLiteral l → (is_front f ≡ true) × HasTreeForm f → IsGoodFrame (in_operator (with_part f l)) × IsFilled (with_part f l)
part-good f (parts.Tree t) h k = absurd h
part-good f (parts.Name n) h k = ((refl, (k.0, k.1, h)), tt)
part-good f (parts.Number d) h k = ((refl, (k.0, k.1, h.0, h.1)), tt)
part-good f (parts.Text w) h k = ((refl, (k.0, k.1, h)), tt)

begun-both : (fs : List TreeFrame) (b : Begin) (next : TreeStage) → begun fs b ≡ Some next → AllByRecursion IsGoodFrame fs → IsBegun b → IsGood next × (walked next ≡ opens fs ++ begin_parts b)
begun-both [] (a_part l) next e h k = absurd (cc)
begun-both (in_list es ∷ fs) (a_part l) next e h k = absurd (cc)
begun-both (in_operator f ∷ fs) (a_part l) next e h k =
    let same : after (in_operator (with_part f l) ∷ fs) ≡ next = cc in
    let good = part-good f l k h.0 in
    (subst IsGood same ((good.0, h.1), good.1), ap walked (sym same) ∙ ap (λ x. opens fs ++ x) (part-filled f l k) ∙ sym (append_assoc (opens fs) (opened f) (literal_part l ∷ [])))
begun-both [] (a_tree t) next e h k = let same : placed [] t ≡ next = cc in (subst IsGood same k, ap walked (sym same))
begun-both (f ∷ fs) (a_tree t) next e h k = let same : placed (f ∷ fs) t ≡ next = cc in (subst IsGood same (placed-good (f ∷ fs) t h k), ap walked (sym same) ∙ placed-walked (f ∷ fs) t)
begun-both [] (a_frame f) next e h k = let same : expects (f ∷ []) ≡ next = cc in (subst IsGood same (k, tt), ap walked (sym same))
begun-both (g ∷ fs) (a_frame f) next e h k = let same : expects (f ∷ g ∷ fs) ≡ next = cc in (subst IsGood same (k, h), ap walked (sym same))

abbrev pub finish_parts : Finish → Parts
finish_parts a_comma = codes "," ∷ []
finish_parts a_close = codes ")" ∷ []
finish_parts (an_end end) = follow end

abbrev pub IsEnding : Finish → Type 0
IsEnding a_comma = Unit {0}
IsEnding a_close = Unit {0}
IsEnding (an_end end) = (is_list end ≡ true) × HasTreeForm end

finishes-both : (ps rest : Parts) (e : Finish) → Finishes ps e rest → (ps ≡ finish_parts e ++ rest) × IsEnding e
finishes-both ps rest e (comma f c) = (f ∙ ap (λ x. finish_parts x ++ rest) (sym c), subst IsEnding (sym c) tt)
finishes-both ps rest e (close f c) = (f ∙ ap (λ x. finish_parts x ++ rest) (sym c), subst IsEnding (sym c) tt)
finishes-both ps rest e (bracket f c) = (f ∙ ap (λ x. finish_parts x ++ rest) (sym c), subst IsEnding (sym c) (refl, tt))
finishes-both ps rest e (bar k t f h g c) =
    (f ∙ ap (λ x. codes "|" ∷ x) (sym (append_assoc (place_parts k t) (codes "]" ∷ []) rest)) ∙ ap (λ x. finish_parts x ++ rest) (sym c), subst IsEnding (sym c) (refl, (h, g)))

list-good : (es : List WrittenTree) (end : WrittenTree) → AllByRecursion HasTreeForm es → is_list end ≡ true → HasTreeForm end → (is_list (list_of end es) ≡ true) × HasTreeForm (list_of end es)
list-good [] end h l k = (l, k)
list-good (e ∷ es) end h l k = let rest = list-good es end h.1 l k in (refl, (rest.0, h.0, rest.1))

list-walked : (es : List WrittenTree) (end : WrittenTree) → 0 < length es → codes "[" ∷ (joined es ++ follow end) ≡ tree_parts (list_of end es)
list-walked [] end h = absurd (omega arith)
list-walked (e ∷ es) end h = ap (λ x. codes "[" ∷ x) (sym (joined-follow e es end))

finished-both : (fs : List TreeFrame) (e : Finish) (next : TreeStage) → finished fs e ≡ Some next → IsGood (after fs) → IsEnding e → IsGood next × (walked next ≡ walked (after fs) ++ finish_parts e)
finished-both [] e next f h k = absurd h
finished-both (in_operator g ∷ fs) a_comma next f h k =
    let same : expects (in_operator g ∷ fs) ≡ next = cc in
    (subst IsGood same h.0, ap walked (sym same) ∙ ap (λ x. opens fs ++ x) (sym (filled-comma g h.1)) ∙ sym (append_assoc (opens fs) (filled g) (codes "," ∷ [])))
finished-both (in_list es ∷ fs) a_comma next f h k =
    let same : expects (in_list es ∷ fs) ≡ next = cc in
    (subst IsGood same h.0, ap walked (sym same) ∙ ap (λ x. opens fs ++ (codes "[" ∷ x)) (sym (joined-comma es h.1)) ∙ sym (append_assoc (opens fs) (codes "[" ∷ joined es) (codes "," ∷ [])))
finished-both (in_operator g ∷ fs) a_close next f h k =
    let same : placed fs g ≡ next = cc in
    (subst IsGood same (placed-good fs g h.0.1 h.0.0.1), ap walked (sym same) ∙ placed-walked fs g ∙ ap (λ x. opens fs ++ x) (sym (filled-close g h.1)) ∙ sym (append_assoc (opens fs) (filled g) (codes ")" ∷ [])))
finished-both (in_list es ∷ fs) a_close next f h k = absurd (cc)
finished-both (in_operator g ∷ fs) (an_end end) next f h k = absurd (cc)
finished-both (in_list es ∷ fs) (an_end end) next f h k =
    let same : placed fs (list_of end es) ≡ next = cc in (
      subst IsGood same (placed-good fs (list_of end es) h.0.1 (list-good es end h.0.0 k.0 k.1).1),
      ap walked (sym same) ∙ placed-walked fs (list_of end es) ∙ ap (λ x. opens fs ++ x) (sym (list-walked es end h.1)) ∙ sym (append_assoc (opens fs) (codes "[" ∷ joined es) (follow end)),
    )

pub step-both : (s : TreeStage) (ps : Parts) (next : TreeStage) (rest : Parts) → IsTreeStep s ps next rest → IsGood s → IsGood next × (walked next ++ rest ≡ walked s ++ ps)
step-both (expects fs) ps next rest (b, x, e) h =
    let both = begun-both fs b next e h (begins-good ps rest b x) in
    (both.0, ap (λ y. y ++ rest) both.1 ∙ append_assoc (opens fs) (begin_parts b) rest ∙ ap (λ y. opens fs ++ y) (sym (begins-parts ps rest b x)))
step-both (after fs) ps next rest (e, x, f) h =
    let ending = finishes-both ps rest e x in
    let both = finished-both fs e next f h ending.1 in
    (both.0, ap (λ y. y ++ rest) both.1 ∙ append_assoc (walked (after fs)) (finish_parts e) rest ∙ ap (λ y. walked (after fs) ++ y) (sym ending.0))
step-both (done t) ps next rest x h = absurd x

begins-shorter : (ps rest : Parts) (b : Begin) → Begins ps b rest → length rest < length ps
begins-shorter ps rest b (a_place k t e h f c) = omega (arith, ap length e, length-append (place_parts k t) rest)
begins-shorter ps rest b (an_empty e c) = omega (arith, ap length e)
begins-shorter ps rest b (a_rest k t e h f c) = omega (arith, ap length e, length-append (place_parts k t) (codes "]" ∷ rest))
begins-shorter ps rest b (a_list e g c) = omega (arith, ap length e)
begins-shorter ps rest b (an_operator o e h n c) = omega (arith, ap length e)
begins-shorter ps rest b (a_leaf o e h n c) = omega (arith, ap length e)
begins-shorter ps rest b (a_literal l e h c) = omega (arith, ap length e)

pub step-shorter : (s : TreeStage) (ps : Parts) (next : TreeStage) (rest : Parts) → IsTreeStep s ps next rest → length rest < length ps
step-shorter (expects fs) ps next rest (b, x, e) = begins-shorter ps rest b x
step-shorter (after fs) ps next rest (e, comma f c, g) = omega (arith, ap length f)
step-shorter (after fs) ps next rest (e, close f c, g) = omega (arith, ap length f)
step-shorter (after fs) ps next rest (e, bracket f c, g) = omega (arith, ap length f)
step-shorter (after fs) ps next rest (e, bar k t f h i c, g) = omega (arith, ap length f, length-append (place_parts k t) (codes "]" ∷ rest))
step-shorter (done t) ps next rest x = absurd x

-- ---- where steps lead

pub data Leads (t : WrittenTree) (rest : Parts) : TreeStage → Parts → Type 0 where
  ends : Leads t rest (done t) rest
  goes : (s next : TreeStage) (ps behind : Parts) → IsTreeStep s ps next behind → Leads t rest next behind → Leads t rest s ps

pub leads-next : (t : WrittenTree) (rest : Parts) (s : TreeStage) (ps : Parts) → Leads t rest s ps → (next : TreeStage) (behind : Parts) → IsTreeStep s ps next behind → Leads t rest next behind
leads-next t rest s ps ends next behind step = absurd step
leads-next t rest s ps (goes s2 n2 p2 b2 other l) next behind step =
    let same = step-only s2 p2 n2 next b2 behind other step in
    subst (λ x. Leads t rest x behind) same.0 (subst (λ x. Leads t rest n2 x) same.1 l)

pub leads-not : (t : WrittenTree) (rest : Parts) (s : TreeStage) (ps : Parts) → Leads t rest s ps → ((next : TreeStage) (behind : Parts) → IsTreeStep s ps next behind → ⊥) → ((u : WrittenTree) → s ≡ done u → ⊥) → ⊥
leads-not t rest s ps ends none going = going t refl
leads-not t rest s ps (goes s2 n2 p2 b2 step l) none going = none n2 b2 step

pub leads-end : (t : WrittenTree) (rest : Parts) (u : WrittenTree) (ps : Parts) → Leads t rest (done u) ps → (t ≡ u) × (rest ≡ ps)
leads-end t rest u ps ends = (refl, refl)
leads-end t rest u ps (goes s2 n2 p2 b2 step l) = absurd step
