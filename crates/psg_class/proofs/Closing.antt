-- Steps of the closure of a table along links.
use Rattle.std.proofs.Common.{◌≡◌, ◌≢◌, ◌⊎◌, inl, inr, ℕ, ◌+◌, ◌<◌, ◌≤◌, ◌||◌, Bool, true, false, List, [], ◌∷◌, length, get_or, Contains, Option, Some, None, Bor, refl, ap, sym, ◌∙◌, subst, arith, true≢false}
use Rattle.std.proofs.lemmas.Bool.{cases_Bool, or_parts, cases_eq}
use Rattle.std.specs.Prelude.{◌↔◌}
use Rattle.std.proofs.lemmas.List.{get_or_default}
use Rattle.std.proofs.lemmas.Option.{none-some}
use Rattle.std.specs.Slice.{IsGetResult}
use Rattle.std.specs.Bool.{OnTrue, OnFalse}
use Rattle.psg_class.specs.Grids.{IsGrid, is_set, IsCell, IsSameSize, Keeps, unset, Follows, Derives, given, along, IsSound, IsStep, AreLinks}
use Rattle.psg_class.specs.declared.grid.Grid.{Grid}
use Rattle.psg_class.specs.declared.grid.Link.{Link}

pub cell_cases : (r row c column : ℕ) → ((r ≡ row) × (c ≡ column)) ⊎ ((r ≢ row) ⊎ (c ≢ column))
cell_cases r row c column = elim (cases_eq r row) [
  | inl e ↦ (elim (cases_eq c column) [ inl f ↦ inl (e, f) | inr f ↦ inr (inr f) ])
  | inr e ↦ inr (inl e)
]

pub still : (links : List Link) (g : Grid) → IsGrid g → IsStep links g g false
still links g h = record {
  size = record { height = refl; width = refl; grid = h };
  keeps = λ r c cell e. e;
  right = λ start s. s;
  fewer = λ e. absurd (true≢false (sym e));
  same = λ e. refl;
}

pub same_size : (a b d : Grid) → IsSameSize a b → IsSameSize b d → IsSameSize a d
same_size a b d h k = record { height = k.height ∙ h.height; width = k.width ∙ h.width; grid = k.grid }

pub cell_in : (a b : Grid) (r c : ℕ) → IsSameSize a b → IsCell a r c → IsCell b r c
cell_in a b r c h (x, y) = (subst (λ z. r < z) (sym h.height) x, subst (λ z. c < z) (sym h.width) y)

pub cell_back : (a b : Grid) (r c : ℕ) → IsSameSize a b → IsCell b r c → IsCell a r c
cell_back a b r c h (x, y) = (subst (λ z. r < z) h.height x, subst (λ z. c < z) h.width y)

-- two steps, the second one first in the sum
pub joined : (links : List Link) (a b d : Grid) (m n : Bool) → IsStep links a b m → IsStep links b d n → IsStep links a d (n || m)
joined links a b d m n h k = record {
  size = same_size a b d h.size k.size;
  keeps = λ r c cell e. k.keeps r c (cell_in a b r c h.size cell) (h.keeps r c cell e);
  right = λ start s. k.right start (h.right start s);
  fewer = λ e. fall (cases_Bool m) (cases_Bool n) e;
  same = λ e. let (x, y) = or_parts n m e in k.same x ∙ h.same y;
} where
  fall : (m ≡ true) ⊎ (m ≡ false) → (n ≡ true) ⊎ (n ≡ false) → n || m ≡ true → unset d.cells.items < unset a.cells.items
  fall (inl x) (inl y) e = let p = h.fewer x in let q = k.fewer y in omega (arith, p, q)
  fall (inl x) (inr y) e = let p = h.fewer x in let q = ap (λ g. unset g.cells.items) (k.same y) in omega (arith, p, q)
  fall (inr x) (inl y) e = let p = ap (λ g. unset g.cells.items) (h.same x) in let q = k.fewer y in omega (arith, p, q)
  fall (inr x) (inr y) e = absurd (true≢false (sym e ∙ ap (λ z. z || m) y ∙ x))

-- a cell is set that follows along the link
pub set_step : (links : List Link) (l : Link) → Contains links l → (old new : Grid) (column : ℕ) (changed : Bool) → IsGrid old → l.to < old.height → l.from < old.height → column < old.width → is_set old l.from column ≡ true
    → IsSameSize old new → is_set new l.to column ≡ true → ((r c : ℕ) → c < old.width → (r ≢ l.to) ⊎ (c ≢ column) → is_set new r c ≡ is_set old r c)
    → OnTrue changed (unset new.cells.items + 1 ≡ unset old.cells.items) → OnFalse changed (new ≡ old) → IsStep links old new changed
set_step links l among old new column changed grid to from inside holds size this others fewer same = record {
  size = size;
  keeps = λ r c cell e. elim (cell_cases r l.to c column) [
    | inl (x, y) ↦ subst (λ z. is_set new z c ≡ true) (sym x) (subst (λ z. is_set new l.to z ≡ true) (sym y) this)
    | inr d ↦ others r c cell.1 d ∙ e
  ];
  right = λ start s r c cell e. elim (cell_cases r l.to c column) [
    | inl (x, y) ↦ subst (λ z. Derives start links z c) (sym x) (subst (λ z. Derives start links l.to z) (sym y) (along l among (s l.from column (from, inside) holds)))
    | inr d ↦ (let back : IsCell old r c = cell_back old new r c size cell in s r c back (sym (others r c back.1 d) ∙ e))
  ];
  fewer = λ e. (let h : unset new.cells.items + 1 ≡ unset old.cells.items = subst (λ b. OnTrue b (unset new.cells.items + 1 ≡ unset old.cells.items)) e fewer in omega arith);
  same = λ e. subst (λ b. OnFalse b (new ≡ old)) e same;
}

pub links_one : (l : Link) → Contains (l ∷ []) l
links_one l = (0, omega arith, refl)

-- one column more that needed nothing
pub followed_more : (l : Link) (start now : Grid) (column : ℕ) (more changed : Bool) → IsStep (l ∷ []) start now more → (more ≡ false → (c : ℕ) → c < column → is_set start l.from c ≡ true → is_set start l.to c ≡ true)
    → OnFalse changed (is_set now l.from column ≡ true → is_set now l.to column ≡ true) → changed || more ≡ false → (c : ℕ) → c < column + 1 → is_set start l.from c ≡ true → is_set start l.to c ≡ true
followed_more l start now column more changed step done last e c h k =
    let (x, y) = or_parts changed more e in
    let same : now ≡ start = step.same y in
    let here : is_set now l.from column ≡ true → is_set now l.to column ≡ true = subst (λ b. OnFalse b (is_set now l.from column ≡ true → is_set now l.to column ≡ true)) x last in
    elim (cases_eq c column) [
      | inl at ↦ subst (λ z. is_set start l.to z ≡ true) (sym at) (subst (λ g. is_set g l.to column ≡ true) same (here (subst (λ g. is_set g l.from column ≡ true) (sym same) (subst (λ z. is_set start l.from z ≡ true) at k))))
      | inr off ↦ done y c (omega arith) k
    ]

-- what a slice gives is among its items
pub contains_got : {X : Type 0} (xs : List X) (i : ℕ) (r : Option (Bor X)) (x : Bor X) → IsGetResult xs i i r → r ≡ Some x → Contains xs x.now
contains_got {X} xs i None x h e = absurd (none-some x e)
contains_got {X} xs i (Some y) x h e = let same : y ≡ x = cc in subst (λ (z : Bor X). Contains xs z.now) same (i, h.3.0, sym h.1)

-- what holds of each item up to the end holds of each that there is
pub each_of : {X : Type 0} (P : X → Type 0) (xs : List X) (d : X) (n : ℕ) → length xs ≤ n → ((j : ℕ) → j < n → P (get_or xs j d)) → (x : X) → Contains xs x → P x
each_of P xs d n h all x (i, lt, e) = subst P (get_or_default xs i d x lt ∙ e) (all i (omega arith))

pub one_more : (P : ℕ → Type 0) (n : ℕ) → ((j : ℕ) → j < n → P j) → P n → (j : ℕ) → j < n + 1 → P j
one_more P n below here j h = elim (cases_eq j n) [ inl e ↦ subst P (sym e) here | inr d ↦ below j (omega arith) ]

-- one link more that needed nothing
pub followed_link : (links : List Link) (d : Link) (start now : Grid) (n : ℕ) (more changed : Bool) → IsStep links start now more → (more ≡ false → (j : ℕ) → j < n → Follows start (get_or links j d))
    → OnFalse changed (Follows now (get_or links n d)) → changed || more ≡ false → (j : ℕ) → j < n + 1 → Follows start (get_or links j d)
followed_link links d start now n more changed step done last e =
    let (x, y) = or_parts changed more e in
    let here : Follows now (get_or links n d) = subst (λ b. OnFalse b (Follows now (get_or links n d))) x last in
    one_more (λ j. Follows start (get_or links j d)) n (done y) (subst (λ g. Follows g (get_or links n d)) (step.same y) here)

pub all_followed : (links : List Link) (d : Link) (start : Grid) (n : ℕ) (more : Bool) → length links ≤ n → (more ≡ false → (j : ℕ) → j < n → Follows start (get_or links j d)) → OnFalse more ((l : Link) → Contains links l → Follows start l)
all_followed links d start n true h done = tt
all_followed links d start n false h done = each_of (Follows start) links d n h (done refl)

-- where all links are followed, all that follows is set
pub complete : (links : List Link) (start last : Grid) → IsGrid start → AreLinks start links → IsSameSize start last → Keeps start last → ((l : Link) → Contains links l → Follows last l) → (r c : ℕ) → IsCell start r c → Derives start links r c → is_set last r c ≡ true
complete links start last grid inside size keeps followed r c cell d = go d cell where
  go : {r c : ℕ} → Derives start links r c → IsCell start r c → is_set last r c ≡ true
  go {r = r} {c = c} (given e) cell = keeps r c cell e
  go {c = c} (along l among e) cell = followed l among c (subst (λ w. c < w) (sym size.width) cell.1) (go e ((inside l among).1, cell.1))

-- after a round that changes nothing
pub closed : (links : List Link) (start now last : Grid) → IsGrid start → AreLinks start links → IsSameSize start now → Keeps start now → IsSound start links now → IsStep links now last false
    → ((l : Link) → Contains links l → Follows now l) → (r c : ℕ) → IsCell start r c → (is_set last r c ≡ true) ↔ Derives start links r c
closed links start now last grid inside size keeps sound step followed r c cell =
    let same : last ≡ now = step.same refl in (
      λ e. sound r c (cell_in start now r c size cell) (subst (λ g. is_set g r c ≡ true) same e),
      λ d. subst (λ g. is_set g r c ≡ true) (sym same) (complete links start now grid inside size keeps followed r c cell d),
    )
