-- Lines that are written one piece after the other.
use Rattle.std.proofs.Common.{◌≡◌, ℕ, ◌==◌, cond, List, [], ◌∷◌, ◌++◌, length, map, Option, Some, refl, ap, ap₂, sym, ◌∙◌, append_assoc, append-nil, codes}
use Rattle.std.specs.List.{flat_map}
use Rattle.std.proofs.lemmas.Grind.{flat_map-append}
use Rattle.psg_terms.proofs.Lists.{suc_is_not_zero}
use Rattle.psg_grammar.specs.Fragments.{Fragment}
use Rattle.psg_deflines.specs.Forms.{item_part}
use Rattle.psg_self.specs.declared.form.Form.{Form}
use Rattle.psg_self.specs.declared.form.Form.TheVariants as forms
use Rattle.psg_tree.specs.declared.tree.Part.{Part}
use Rattle.psg_self.specs.NodeParts.{form_of, part_at, name_at, tree_at, elements_at, elements_of}
use Rattle.psg_self.specs.SelfLines.{constructor_of, item_by, item_of, level_in, lines_by, lines_of, row_of, term_of, term_in, specimen_in, sort_line, operator_line, hole_line}
use Rattle.psg_self.specs.Export.{constructor_text, exported, exported_line, level_words, specimen_text, term_text, column_words, spaced, exported_words}
use Rattle.psg_deflines.specs.declared.lines.LineItem.TheVariants as items

abbrev spaced_all : List (List ℕ) → List ℕ
spaced_all ws = flat_map (λ v. 32 ∷ v) ws

spaced-map : {X : Type 0} (f : X → List ℕ) (xs : List X) → spaced_all (map f xs) ≡ flat_map (λ x. 32 ∷ f x) xs
spaced-map f [] = refl
spaced-map f (x ∷ xs) = ap (λ t. (32 ∷ f x) ++ t) (spaced-map f xs)

flat-map : {X Y : Type 0} (f : Y → List ℕ) (g : X → Y) (xs : List X) → flat_map f (map g xs) ≡ flat_map (λ x. f (g x)) xs
flat-map f g [] = refl
flat-map f g (x ∷ xs) = ap (λ t. f (g x) ++ t) (flat-map f g xs)

spaced-twice : {X Y : Type 0} (f : Y → List ℕ) (g : X → Y) (xs : List X) → spaced_all (map f (map g xs)) ≡ flat_map (λ x. 32 ∷ f (g x)) xs
spaced-twice f g xs = spaced-map f (map g xs) ∙ flat-map (λ y. 32 ∷ f y) g xs

-- what is written in two, three and four goes
two : (old a b one new : List ℕ) → one ≡ old ++ a → new ≡ one ++ b → new ≡ old ++ (a ++ b)
two old a b one new f g = g ∙ ap (λ x. x ++ b) f ∙ append_assoc old a b

-- with what an argument is
pub moved : {X : Type 0} (g : X → List ℕ) (x y : X) (old new : List ℕ) → x ≡ y → new ≡ old ++ g x → new ≡ old ++ g y
moved g x y old new e n = n ∙ ap (λ z. old ++ g z) e

pub spaced-piece : (before between after t : List ℕ) → between ≡ before ++ 32 ∷ [] → after ≡ between ++ t → after ≡ before ++ 32 ∷ t
spaced-piece before between after t b a = two before (32 ∷ []) t between after b a

-- ---- sorts

pub sort-line : (f : Fragment) (old one more new : List ℕ) → one ≡ old ++ (codes "sort " ++ (name_at f 0 ++ codes " ="))
    → more ≡ one ++ flat_map (λ c. 32 ∷ constructor_text (constructor_of c)) (elements_at f 1) → new ≡ more ++ 10 ∷ []
    → new ≡ old ++ exported_line (sort_line f)
sort-line f old one more new o m n =
    let head = codes "sort " ++ (name_at f 0 ++ codes " =") in
    let cs : List ℕ = flat_map (λ c. 32 ∷ constructor_text (constructor_of c)) (elements_at f 1) in
    let whole : head ++ cs ≡ spaced (exported_words (sort_line f)) =
    ap (λ x. codes "sort " ++ x) (append_assoc (name_at f 0) (codes " =") cs
    ∙ ap (λ x. name_at f 0 ++ (codes " =" ++ x)) (sym (spaced-twice constructor_text constructor_of (elements_at f 1)))) in
    two old (head ++ cs) (10 ∷ []) more new (two old head cs one more o m) n
    ∙ ap (λ x. old ++ (x ++ 10 ∷ [])) whole

-- ---- rows

columns-is : (ts : List Fragment) → cond (length ts == 0) [] (codes " :") ++ flat_map (λ t. 32 ∷ term_text (term_of t)) ts
    ≡ spaced_all (column_words (map term_of ts))
columns-is [] = refl
columns-is (t ∷ ts) =
    ap (λ b. cond b [] (codes " :") ++ flat_map (λ u. 32 ∷ term_text (term_of u)) (t ∷ ts)) (suc_is_not_zero (length ts))
    ∙ ap (λ x. codes " :" ++ x) (sym (spaced-twice term_text term_of (t ∷ ts)))

pub row-line : (f : Fragment) (old one more last new : List ℕ) → one ≡ old ++ codes "row "
    → more ≡ one ++ term_text (term_in (tree_at f 0))
    → last ≡ more ++ (cond (length (elements_at f 1) == 0) [] (codes " :") ++ flat_map (λ t. 32 ∷ term_text (term_of t)) (elements_at f 1))
    → new ≡ last ++ 10 ∷ [] → new ≡ old ++ exported_line (row_of f)
row-line f old one more last new o m l n =
    let head : List ℕ = term_text (term_in (tree_at f 0)) in
    let cs : List ℕ = cond (length (elements_at f 1) == 0) [] (codes " :") ++ flat_map (λ t. 32 ∷ term_text (term_of t)) (elements_at f 1) in
    let whole : (codes "row " ++ head) ++ cs ≡ spaced (exported_words (row_of f)) =
    append_assoc (codes "row ") head cs ∙ ap (λ x. codes "row " ++ (head ++ x)) (columns-is (elements_at f 1)) in
    two old ((codes "row " ++ head) ++ cs) (10 ∷ []) last new
    (two old (codes "row " ++ head) cs more last (two old (codes "row ") head one more o m) l) n
    ∙ ap (λ x. old ++ (x ++ 10 ∷ [])) whole

-- ---- operators

level-words : (f : Fragment) → spaced_all (level_words (level_in (tree_at f 2)) ++ (codes "=" ∷ map item_part (map item_of (elements_at f 3))))
    ≡ spaced_all (level_words (level_in (tree_at f 2))) ++ (codes " =" ++ flat_map (λ i. 32 ∷ item_part (item_of i)) (elements_at f 3))
level-words f =
    flat_map-append (λ v. 32 ∷ v) (level_words (level_in (tree_at f 2))) (codes "=" ∷ map item_part (map item_of (elements_at f 3)))
    ∙ ap (λ x. spaced_all (level_words (level_in (tree_at f 2))) ++ (codes " =" ++ x)) (spaced-twice item_part item_of (elements_at f 3))

pub operator-line : (f : Fragment) (old one more mid last new : List ℕ)
    → one ≡ old ++ (codes "op " ++ (name_at f 0 ++ (codes " : " ++ name_at f 1)))
    → more ≡ one ++ spaced_all (level_words (level_in (tree_at f 2))) → mid ≡ more ++ codes " ="
    → last ≡ mid ++ flat_map (λ i. 32 ∷ item_part (item_of i)) (elements_at f 3) → new ≡ last ++ 10 ∷ []
    → new ≡ old ++ exported_line (operator_line f)
operator-line f old one more mid last new o m d l n =
    let name = name_at f 0 in
    let phylum = name_at f 1 in
    let head = codes "op " ++ (name ++ (codes " : " ++ phylum)) in
    let level : List ℕ = spaced_all (level_words (level_in (tree_at f 2))) in
    let made : List ℕ = flat_map (λ i. 32 ∷ item_part (item_of i)) (elements_at f 3) in
    let tail = level ++ (codes " =" ++ made) in
    let whole : head ++ tail ≡ spaced (exported_words (operator_line f)) =
    ap (λ x. codes "op " ++ x) (append_assoc name (codes " : " ++ phylum) tail
    ∙ ap (λ x. name ++ (codes " : " ++ (phylum ++ x))) (sym (level-words f))) in
    two old (head ++ tail) (10 ∷ []) last new
    (two old head tail one last o
    (two one level (codes " =" ++ made) more last m (two more (codes " =") made mid last d l))) n
    ∙ ap (λ x. old ++ (x ++ 10 ∷ [])) whole

-- ---- hole rows

pub hole-line : (f : Fragment) (old one more mid last new : List ℕ) → one ≡ old ++ (codes "hole " ++ (name_at f 0 ++ codes " "))
    → more ≡ one ++ term_text (term_in (tree_at f 1)) → mid ≡ more ++ codes " by "
    → last ≡ mid ++ specimen_text (specimen_in (tree_at f 2)) → new ≡ last ++ 10 ∷ [] → new ≡ old ++ exported_line (hole_line f)
hole-line f old one more mid last new o m d l n =
    let name = name_at f 0 in
    let head = codes "hole " ++ (name ++ codes " ") in
    let term : List ℕ = term_text (term_in (tree_at f 1)) in
    let tree : List ℕ = specimen_text (specimen_in (tree_at f 2)) in
    let tail = term ++ (codes " by " ++ tree) in
    let whole : head ++ tail ≡ spaced (exported_words (hole_line f)) =
    ap (λ x. codes "hole " ++ x) (append_assoc name (codes " ") tail
    ∙ ap (λ x. name ++ (codes " " ++ (term ++ (codes " by " ++ x)))) (sym (append-nil tree))) in
    two old (head ++ tail) (10 ∷ []) last new
    (two old head tail one last o
    (two one term (codes " by " ++ tree) more last m (two more (codes " by ") tree mid last d l))) n
    ∙ ap (λ x. old ++ (x ++ 10 ∷ [])) whole

-- ---- the lines of a node

pub operator-lines : (f : Fragment) (old one new : List ℕ) → one ≡ old ++ exported_line (operator_line f)
    → new ≡ one ++ flat_map (λ r. exported_line (row_of r)) (elements_at f 4)
    → new ≡ old ++ (exported_line (operator_line f) ++ flat_map (λ r. exported_line (row_of r)) (elements_at f 4))
operator-lines f old one new o n = two old (exported_line (operator_line f)) (flat_map (λ r. exported_line (row_of r)) (elements_at f 4)) one new o n

-- the form that the program finds is that of the node
pub at-form : (f : Fragment) (o : Option Form) (g form : Form) → o ≡ form_of f → o ≡ Some g → g ≡ form → form_of f ≡ Some form
at-form f o g form e is same = sym e ∙ is ∙ ap Some same

pub one-line : (f : Fragment) (form : Form) (old new text : List ℕ) → form_of f ≡ Some form
    → text ++ [] ≡ flat_map exported_line (lines_by (Some form) f) → new ≡ old ++ text → new ≡ old ++ flat_map exported_line (lines_of f)
one-line f form old new text e is n =
    n ∙ ap (λ x. old ++ x) (sym (append-nil text) ∙ is ∙ ap (λ o. flat_map exported_line (lines_by o f)) (sym e))

pub more-lines : (f : Fragment) (old new : List ℕ) → form_of f ≡ Some forms.OperatorLine
    → new ≡ old ++ (exported_line (operator_line f) ++ flat_map (λ r. exported_line (row_of r)) (elements_at f 4))
    → new ≡ old ++ flat_map exported_line (lines_of f)
more-lines f old new e n =
    n ∙ ap (λ x. old ++ (exported_line (operator_line f) ++ x)) (sym (flat-map exported_line row_of (elements_at f 4)))
    ∙ ap (λ o. old ++ flat_map exported_line (lines_by o f)) (sym e)

pub no-lines : (f : Fragment) (o : Option Form) (old : List ℕ) → o ≡ form_of f → lines_by o f ≡ [] → old ≡ old ++ flat_map exported_line (lines_of f)
no-lines f o old e none =
    sym (append-nil old) ∙ ap (λ x. old ++ flat_map exported_line x) (sym none ∙ ap (λ p. lines_by p f) e)

pub other-lines : (form : Form) (f : Fragment) → (form ≡ forms.SortLine → ⊥) → (form ≡ forms.PhylumLine → ⊥)
    → (form ≡ forms.BracketedLine → ⊥) → (form ≡ forms.OperatorLine → ⊥) → (form ≡ forms.HoleLine → ⊥) → lines_by (Some form) f ≡ []
other-lines forms.SortLine f a b c d e = absurd (a refl)
other-lines forms.PhylumLine f a b c d e = absurd (b refl)
other-lines forms.BracketedLine f a b c d e = absurd (c refl)
other-lines forms.OperatorLine f a b c d e = absurd (d refl)
other-lines forms.HoleLine f a b c d e = absurd (e refl)
other-lines _ f a b c d e = refl

-- ---- items

pub item-is : (f : Fragment) (form : Form) (text : List ℕ) → form_of f ≡ Some form → text ≡ item_part (item_by (Some form) (part_at f 0))
    → text ≡ item_part (item_of f)
item-is f form text e t = t ∙ ap (λ o. item_part (item_by o (part_at f 0))) (sym e)

pub other-item : (form : Form) (part : Option Part) → (form ≡ forms.Word → ⊥) → (form ≡ forms.Slot → ⊥) → (form ≡ forms.Space → ⊥)
    → (form ≡ forms.Tight → ⊥) → (form ≡ forms.Line → ⊥) → (form ≡ forms.In → ⊥) → item_by (Some form) part ≡ items.Out
other-item forms.Word part a b c d e f = absurd (a refl)
other-item forms.Slot part a b c d e f = absurd (b refl)
other-item forms.Space part a b c d e f = absurd (c refl)
other-item forms.Tight part a b c d e f = absurd (d refl)
other-item forms.Line part a b c d e f = absurd (e refl)
other-item forms.In part a b c d e f = absurd (f refl)
other-item _ part a b c d e f = refl

-- ---- the whole

pub whole-text : (f : Fragment) (es : List Fragment) (old new : List ℕ) → old ≡ codes "psg 1\n"
    → new ≡ old ++ flat_map (λ n. flat_map exported_line (lines_of n)) es → es ≡ elements_of f → new ≡ exported f
whole-text f es old new o n is =
    n ∙ ap₂ (λ x ys. x ++ flat_map (λ m. flat_map exported_line (lines_of m)) ys) o is
    ∙ ap (λ x. codes "psg 1\n" ++ x) (sym (flat-flat (elements_of f)))
  where
    flat-flat : (ns : List Fragment) → flat_map exported_line (flat_map lines_of ns) ≡ flat_map (λ m. flat_map exported_line (lines_of m)) ns
    flat-flat [] = refl
    flat-flat (m ∷ ns) =
        flat_map-append exported_line (lines_of m) (flat_map lines_of ns) ∙ ap (λ x. flat_map exported_line (lines_of m) ++ x) (flat-flat ns)
