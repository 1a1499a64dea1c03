-- A text is at least as long as its specimens have elements of lists.
use Rattle.std.proofs.Common.{◌≡◌, ℕ, ◌+◌, ◌≤◌, true, List, [], ◌∷◌, ◌++◌, codes, arith}
use Rattle.std.proofs.lemmas.Bool.{false≢true}
use Rattle.psg_deflines.specs.WrittenTrees.{WrittenTree, operator, with_tree, with_name, with_number, with_text, list_end, list_rest, element, place, tree_parts, opened, follow, is_front, is_list, HasTreeForm, quoted_part}
use Rattle.psg_defnumber.specs.Soundness.{total}

pub total-append : (xs ys : List (List ℕ)) → total (xs ++ ys) ≡ total xs + total ys
total-append [] ys = omega arith
total-append (x ∷ xs) ys = omega (arith, total-append xs ys)

-- the elements of all lists
abbrev pub weight : WrittenTree → ℕ
weight (operator o) = 0
weight (with_tree f t) = weight f + weight t
weight (with_name f n) = weight f
weight (with_number f d) = weight f
weight (with_text f w) = weight f
weight list_end = 0
weight (list_rest l t) = 0
weight (element e r) = 1 + (weight e + weight r)
weight (place k t) = 0

-- Where it is a front, what it opens is as long as that; where it is a list, what follows an element is.
record IsLong (w : WrittenTree) : Type 0 where
  whole : weight w ≤ total (tree_parts w)
  front : is_front w ≡ true → weight w ≤ total (opened w)
  behind : is_list w ≡ true → weight w ≤ total (follow w)

long-part : (f : WrittenTree) (part close : List ℕ) → weight f ≤ total (opened f)
    → weight f ≤ total (opened f ++ part ∷ close ∷ [])
long-part f part close h = omega (arith, total-append (opened f) (part ∷ close ∷ []))

long-two : (before middle more : List (List ℕ)) (m n : ℕ) → m ≤ total before → n ≤ total middle
    → m + n ≤ total ((before ++ middle) ++ more)
long-two before middle more m n h k = omega (arith, total-append (before ++ middle) more, total-append before middle)

is-long : (w : WrittenTree) → HasTreeForm w → IsLong w
is-long (operator o) form = record { whole = omega arith; front = λ e. omega arith; behind = λ e. omega arith }
is-long (with_tree f t) form =
    let a = is-long f form.1 in
    let b = is-long t form.2 in
    record {
      whole = long-two (opened f) (tree_parts t) (codes ")" ∷ []) (weight f) (weight t) (a.front form.0) b.whole;
      front = λ e. long-two (opened f) (tree_parts t) (codes "," ∷ []) (weight f) (weight t) (a.front form.0) b.whole;
      behind = λ e. absurd (false≢true e);
    }
is-long (with_name f n) form =
    let h = (is-long f form.1).front form.0 in
    record {
      whole = long-part f (36 ∷ n) (codes ")") h;
      front = λ e. long-part f (36 ∷ n) (codes ",") h;
      behind = λ e. absurd (false≢true e);
    }
is-long (with_number f d) form =
    let h = (is-long f form.1).front form.0 in
    record {
      whole = long-part f d (codes ")") h;
      front = λ e. long-part f d (codes ",") h;
      behind = λ e. absurd (false≢true e);
    }
is-long (with_text f w) form =
    let h = (is-long f form.1).front form.0 in
    record {
      whole = long-part f (quoted_part w) (codes ")") h;
      front = λ e. long-part f (quoted_part w) (codes ",") h;
      behind = λ e. absurd (false≢true e);
    }
is-long list_end form = record { whole = omega arith; front = λ e. omega arith; behind = λ e. omega arith }
is-long (list_rest l t) form = record { whole = omega arith; front = λ e. omega arith; behind = λ e. omega arith }
is-long (element e r) form =
    let a = is-long e form.1 in
    let b = is-long r form.2 in
    let size = total-append (tree_parts e) (follow r) in
    let both : weight e + weight r ≤ total (tree_parts e ++ follow r) = omega (arith, size, a.whole, b.behind form.0) in
    record { whole = omega (arith, both); front = λ h. absurd (false≢true h); behind = λ h. omega (arith, both) }
is-long (place k t) form = record { whole = omega arith; front = λ e. omega arith; behind = λ e. omega arith }

pub tree-long : (w : WrittenTree) → HasTreeForm w → weight w ≤ total (tree_parts w)
tree-long w form = (is-long w form).whole
