-- Lines whose terms and specimens stand at places of their own sorts and kinds.
use Rattle.std.proofs.Common.{◌≡◌, ◌↔◌, ℕ, Bool, true, false, IsTrue, List, [], ◌∷◌, length, refl, ap, sym, ◌∙◌, subst, Option, Some, None, arith}
use Rattle.std.proofs.lemmas.Bool.{false≢true}
use Rattle.std.specs.Option.{option_and_then}
use Rattle.std.specs.Borrow.{Bor}
use Rattle.psg_terms.specs.Names.{Name}
use Rattle.psg_deflines.specs.WrittenTerms.{WrittenTerm}
use Rattle.psg_deflines.specs.WrittenTrees.{WrittenTree}
use Rattle.psg_deflines.specs.declared.lines.LineItem.{LineItem}
use Rattle.psg_deflines.specs.declared.lines.LineItem.TheVariants as items
use Rattle.psg_deflines.specs.declared.lines.Line.{Line}
use Rattle.psg_deflines.specs.declared.lines.Line.TheVariants as lines
use Rattle.psg_defcheck.specs.Scopes.{OpDecl, Place, last_operator, last_hole, value_place, kind_place, element_place, entity_place}
use Rattle.psg_defcheck.specs.Meanings.{SortsTerm, SortAll, SortsTree, SortsRow, SortsBehindBy, SortsLine, IsSorted, IsColumnCount, column_places, count_of, has_column}
use Rattle.psg_defcheck.specs.Tables.{found}
use Rattle.psg_defcheck.specs.Sorting.{places_told, Narrows}
use Rattle.psg_defcheck.proofs.SortLaws.{told-length}
use Rattle.psg_defcheck.proofs.NarrowLaws.{Sorts, narrows-then, narrows-as, some-sorts, no-sorts}

pub term_at : (file : List Line) (t : WrittenTerm) (p q : Place) (a b : Sorts) (r : Bool) → p ≡ q → Narrows (λ s. SortsTerm file s [] p t) a b r → Narrows (λ s. SortsTerm file s [] q t) a b r
term_at file t p q a b r e h = subst (λ x. Narrows (λ s. SortsTerm file s [] x t) a b r) e h

pub both : (P Q : (Name → Name) → Type 0) (a b c : Sorts) (r q : Bool) → r ≡ true → Narrows P a b r → Narrows Q b c q → Narrows (λ s. P s × Q s) a c q
both P Q a b c r q e h k = narrows-then P Q a b c q (subst (Narrows P a b) e h) k

pub three : (P Q R : (Name → Name) → Type 0) (a b d : Sorts) (r q : Bool) → r ≡ true → Narrows P a b r → Narrows (λ s. Q s × R s) b d q → Narrows (λ s. P s × Q s × R s) a d q
three P Q R a b d r q e h k =
    narrows-as (λ s. P s × (Q s × R s)) (λ s. P s × Q s × R s) a d q (λ s. (λ h. (h.0, h.1.0, h.1.1), λ h. (h.0, (h.1, h.2)))) (both P (λ s. Q s × R s) a b d r q e h k)

column_places-length : (file : List Line) (made : List LineItem) → length (column_places file made) ≡ count_of has_column made
column_places-length file [] = refl
column_places-length file (items.Slot k ∷ rest) = omega (arith, column_places-length file rest)
column_places-length file (items.Refers spot ∷ rest) = omega (arith, column_places-length file rest)
column_places-length file (items.Declares spot ∷ rest) = omega (arith, column_places-length file rest)
column_places-length file (_ ∷ rest) = column_places-length file rest

pub columns_count : (file : List Line) (o : Option OpDecl) (d : OpDecl) (n : ℕ) (ps : List (Option (Bor (List ℕ)))) → o ≡ Some d → IsColumnCount o n → places_told ps ≡ column_places file d.made → length ps ≡ n
columns_count file o d n ps e h is =
    let count : count_of has_column d.made ≡ n = subst (λ x. IsColumnCount x n) e h in
    sym (told-length ps) ∙ ap length is ∙ column_places-length file d.made ∙ count

pub row_standing : (file : List Line) (o : Option OpDecl) (d : OpDecl) (head : WrittenTerm) (columns : List WrittenTerm) (own : Place) (ps : List (Option (Bor (List ℕ)))) (a b c : Sorts) (r q : Bool) → o ≡ Some d → own ≡ value_place file d.phylum → places_told ps ≡ column_places file d.made
    → r ≡ true → Narrows (λ s. SortsTerm file s [] own head) a b r → Narrows (λ s. SortAll file s (places_told ps) columns) b c q → Narrows (λ s. SortsRow file s o head columns) a c q
row_standing file o d head columns own ps a b c r q e is told f h k =
    subst (λ x. Narrows (λ s. SortsRow file s x head columns) a c q) (sym e)
    (both (λ s. SortsTerm file s [] (value_place file d.phylum) head) (λ s. SortAll file s (column_places file d.made) columns) a b c r q f (term_at file head own (value_place file d.phylum) a b r is h)
    (subst (λ qs. Narrows (λ s. SortAll file s qs columns) b c q) told k))

pub hole_alone : (file : List Line) (p own kind : Place) (t : WrittenTerm) (w : Option WrittenTree) (a b : Sorts) (r : Bool) → w ≡ None → p ≡ own → Narrows (λ s. SortsTerm file s [] p t) a b r → Narrows (λ s. SortsTerm file s [] own t × SortsBehindBy file s kind w) a b r
hole_alone file p own kind t w a b r e is h =
    subst (λ x. Narrows (λ s. SortsTerm file s [] own t × SortsBehindBy file s kind x) a b r) (sym e)
    (narrows-as (λ s. SortsTerm file s [] own t) (λ s. SortsTerm file s [] own t × Unit {0}) a b r (λ s. (λ h. (h, tt), λ h. h.0)) (term_at file t p own a b r is h))

pub hole_by : (file : List Line) (p own q kind : Place) (t : WrittenTerm) (w : Option WrittenTree) (tree : WrittenTree) (a b : Sorts) (r : Bool) → w ≡ Some tree → p ≡ own → q ≡ kind → Narrows (λ s. SortsTerm file s [] p t × SortsTree file s [] q tree) a b r
    → Narrows (λ s. SortsTerm file s [] own t × SortsBehindBy file s kind w) a b r
hole_by file p own q kind t w tree a b r e is also h =
    subst (λ x. Narrows (λ s. SortsTerm file s [] own t × SortsBehindBy file s kind x) a b r) (sym e)
    (subst (λ x. Narrows (λ s. SortsTerm file s [] own t × SortsTree file s [] x tree) a b r) also (subst (λ x. Narrows (λ s. SortsTerm file s [] x t × SortsTree file s [] q tree) a b r) is h))

-- line by line
pub row_line : (file above : List Line) (line : Line) (head : WrittenTerm) (columns taken : List WrittenTerm) (o : Option OpDecl) (a b : Sorts) (r : Bool) → line ≡ lines.Row head columns → taken ≡ columns → o ≡ last_operator None above → Narrows (λ s. SortsRow file s o head taken) a b r
    → Narrows (λ s. SortsLine file s above line) a b r
row_line file above line head columns taken o a b r e t is h =
    subst (λ l. Narrows (λ s. SortsLine file s above l) a b r) (sym e)
    (subst (λ x. Narrows (λ s. SortsRow file s x head columns) a b r) is (subst (λ cs. Narrows (λ s. SortsRow file s o head cs) a b r) t h))

pub nil_line : (file above : List Line) (line : Line) (list : Name) (t : WrittenTerm) (p : Place) (a b : Sorts) (r : Bool) → line ≡ lines.Nil list t → p ≡ value_place file list → Narrows (λ s. SortsTerm file s [] p t) a b r → Narrows (λ s. SortsLine file s above line) a b r
nil_line file above line list t p a b r e is h = subst (λ l. Narrows (λ s. SortsLine file s above l) a b r) (sym e) (term_at file t p (value_place file list) a b r is h)

pub cell_line : (file above : List Line) (line : Line) (list n : Name) (t x u : WrittenTerm) (a b : Sorts) (r : Bool) → line ≡ lines.Cell list t x u → n ≡ list
    → Narrows (λ s. SortsTerm file s [] (value_place file n) t × SortsTerm file s [] (option_and_then (value_place file) (element_place file n)) x × SortsTerm file s [] (value_place file n) u) a b r → Narrows (λ s. SortsLine file s above line) a b r
cell_line file above line list n t x u a b r e is h =
    subst (λ l. Narrows (λ s. SortsLine file s above l) a b r) (sym e)
    (subst (λ m. Narrows (λ s. SortsTerm file s [] (value_place file m) t × SortsTerm file s [] (option_and_then (value_place file) (element_place file m)) x × SortsTerm file s [] (value_place file m) u) a b r) is h)

pub hole_line : (file above : List Line) (line : Line) (kind n : Name) (t : WrittenTerm) (w : Option WrittenTree) (a b : Sorts) (r : Bool) → line ≡ lines.Hole kind t w → n ≡ kind
    → Narrows (λ s. SortsTerm file s [] (value_place file n) t × SortsBehindBy file s (kind_place file n) w) a b r → Narrows (λ s. SortsLine file s above line) a b r
hole_line file above line kind n t w a b r e is h =
    subst (λ l. Narrows (λ s. SortsLine file s above l) a b r) (sym e)
    (subst (λ m. Narrows (λ s. SortsTerm file s [] (value_place file m) t × SortsBehindBy file s (kind_place file m) w) a b r) is h)

pub case_line : (file above : List Line) (line : Line) (t : WrittenTerm) (w : WrittenTree) (hole p k : Place) (a b : Sorts) (r : Bool) → line ≡ lines.Case t w → hole ≡ last_hole None above → p ≡ option_and_then (value_place file) hole → k ≡ option_and_then (kind_place file) hole
    → Narrows (λ s. SortsTerm file s [] p t × SortsTree file s [] k w) a b r → Narrows (λ s. SortsLine file s above line) a b r
case_line file above line t w hole p k a b r e is ep ek h =
    subst (λ l. Narrows (λ s. SortsLine file s above l) a b r) (sym e)
    (subst (λ x. Narrows (λ s. SortsTerm file s [] (option_and_then (value_place file) x) t × SortsTree file s [] (option_and_then (kind_place file) x) w) a b r) is
    (subst (λ x. Narrows (λ s. SortsTerm file s [] (option_and_then (value_place file) hole) t × SortsTree file s [] x w) a b r) ek
    (subst (λ x. Narrows (λ s. SortsTerm file s [] x t × SortsTree file s [] k w) a b r) ep h)))

pub declare_line : (file above : List Line) (line : Line) (space list m n : Name) (x v : WrittenTerm) (w : WrittenTree) (a b : Sorts) (r : Bool) → line ≡ lines.Declare space list x v w → m ≡ space → n ≡ list
    → Narrows (λ s. SortsTerm file s [] (entity_place file m) x × SortsTerm file s [] (option_and_then (value_place file) (element_place file n)) v × SortsTree file s [] (element_place file n) w) a b r → Narrows (λ s. SortsLine file s above line) a b r
declare_line file above line space list m n x v w a b r e is_space is h =
    subst (λ l. Narrows (λ s. SortsLine file s above l) a b r) (sym e)
    (subst (λ k. Narrows (λ s. SortsTerm file s [] (entity_place file k) x × SortsTerm file s [] (option_and_then (value_place file) (element_place file list)) v × SortsTree file s [] (element_place file list) w) a b r) is_space
    (subst (λ k. Narrows (λ s. SortsTerm file s [] (entity_place file m) x × SortsTerm file s [] (option_and_then (value_place file) (element_place file k)) v × SortsTree file s [] (element_place file k) w) a b r) is h))

-- the sorts that are left at the end of a line
pub line_sorted : (file above : List Line) (line : Line) (empty m : Sorts) (b : Bool) → ((n : Name) → found empty n ≡ None) → Narrows (λ s. SortsLine file s above line) empty m b → IsTrue b ↔ IsSorted file above line
line_sorted file above line empty m true none h = (λ _. some-sorts (λ s. SortsLine file s above line) empty m h, λ _. refl)
line_sorted file above line empty m false none h = (λ e. absurd (false≢true e), λ k. absurd (no-sorts (λ s. SortsLine file s above line) empty m none h k))
