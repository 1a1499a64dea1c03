-- What is offered, one operator after the other.
use Rattle.std.proofs.Common.{◌≡◌, ◌<◌, ◌≤◌, ◌+◌, ◌==◌, ◌||◌, Bool, true, false, ℕ, List, [], ◌∷◌, ◌++◌, drop, length, slice_get, Option, Some, None, Result, Ok, Err, refl, sym, ap, subst, ◌∙◌, arith}
use Rattle.std.specs.Prelude.{String, Vec, get_or, map, nat_lt, option_map, string_bytes, take}
use Rattle.std.proofs.lemmas.Bool.{eqb-true, true≢false}
use Rattle.std.proofs.lemmas.Option.{none-some, same_Some}
use Rattle.std.specs.declared.alloc.Global.{Global}
use Rattle.std.proofs.lemmas.List.{append-nil, append_assoc, drop_all}
use Rattle.psg_terms.specs.Names.{Name}
use Rattle.psg_terms.proofs.Lists.{drop_item, drop_there}
use Rattle.psg_grammar.specs.declared.types.Definition.{Definition}
use Rattle.psg_grammar.specs.declared.types.Kind.{Kind}
use Rattle.psg_grammar.specs.Fragments.{Fragment}
use Rattle.psg_keymap.specs.declared.spots.Spot.{Spot}
use Rattle.psg_session.specs.declared.refusal.Refusal.{Refusal}
use Rattle.psg_asking.specs.Told.{names_told, or_none, read_of}
use Rattle.psg_completing.specs.declared.offering.Entry.{Entry}
use Rattle.psg_completing.specs.declared.offering.Offers.{Offers}
use Rattle.psg_pointing.specs.Hovering.{lines_of}
use Rattle.psg_grammar.specs.declared.types.Operator.{Operator}
use Rattle.psg_grammar.specs.Kinds.{op_name_of}
use Rattle.psg_keymap.specs.Leaves.{leaves_of}
use Rattle.psg_asking.specs.Asked.{IsToldOf, Read, names_of}
use Rattle.psg_completing.specs.Offering.{AreJoined, AreOffered, IsOffered, begun, begun_or_all, by_itself, by_names}
use Rattle.psg_completing.specs.Offering.{entries_with, most_names, no_more, one_more, one_name, or_those, unknown}
use Rattle.psg_completing.specs.Offering.{written_names}

-- ---- a row that is mapped, one after the other

module _ {X : Type 0} {Y : Type 0} (f : X → Y) where
  pub mapped_next : (row : List X) (i : ℕ) (x : X) (y : Y) (old new whole : List Y) → i < length row
      → x ≡ get_or row i x → y ≡ f x → new ≡ old ++ y ∷ [] → old ++ map f (drop i row) ≡ whole
      → new ++ map f (drop (i + 1) row) ≡ whole
  mapped_next row i x y old new whole lt is made n h =
      ap (λ l. l ++ map f (drop (i + 1) row)) (n ∙ ap (λ z. old ++ z ∷ []) made)
      ∙ append_assoc old (f x ∷ []) (map f (drop (i + 1) row))
      ∙ ap (λ l. old ++ map f l) (sym (drop_item row i x lt is)) ∙ h

  pub mapped_at : (row : List X) (i : ℕ) (x : X) (y : Y) (old new whole : List Y) → slice_get row i ≡ Some x → y ≡ f x
      → new ≡ old ++ y ∷ [] → old ++ map f (drop i row) ≡ whole → new ++ map f (drop (i + 1) row) ≡ whole
  mapped_at row i x y old new whole at made n h =
      ap (λ l. l ++ map f (drop (i + 1) row)) (n ∙ ap (λ z. old ++ z ∷ []) made)
      ∙ append_assoc old (f x ∷ []) (map f (drop (i + 1) row))
      ∙ ap (λ l. old ++ map f l) (sym (drop_there row i x at)) ∙ h

  pub mapped_end : (row : List X) (i : ℕ) (made whole : List Y) → length row ≤ i → made ++ map f (drop i row) ≡ whole
      → made ≡ whole
  mapped_end row i made whole le h =
      sym (append-nil made) ∙ ap (λ l. made ++ map f l) (sym (drop_all i row le)) ∙ h

-- ---- offers

or_none_right : (b : Bool) → (b || false) ≡ b
or_none_right true = refl
or_none_right false = refl

or_assoc : (a b c : Bool) → ((a || b) || c) ≡ (a || (b || c))
or_assoc true b c = refl
or_assoc false b c = refl

module _ (def : Definition) (kind : Kind) (tree : Fragment) (spot : Spot) (least : ℕ) (sample : Name)
    (prefix : List ℕ) where
  abbrev Offered : List Name → List Entry → Bool → Type 0
  Offered ops entries more = AreOffered def kind tree spot least sample prefix ops entries more

  -- whatever is offered of the rest is, after what is there, offered of all
  abbrev pub AreSoFar : List Name → List Name → Offers → Type 0
  AreSoFar all rest offers = (entries : List Entry) (more : Bool) → Offered rest entries more
      → Offered all (offers.entries.items ++ entries) (offers.more || more)

  pub offers_first : (all : List Name) (offers : Offers) → offers.entries.items ≡ [] → offers.more ≡ false
      → AreSoFar all all offers
  offers_first all offers none few entries more h =
      subst (λ es. Offered all (es ++ entries) (offers.more || more)) (sym none)
      (subst (λ m. Offered all entries (m || more)) (sym few) h)

  pub offers_next : (all : List Name) (row : List (String Global)) (i : ℕ) (x : String Global) (name : Name)
      (old here new : Offers) → i < length row → x ≡ get_or row i x → name ≡ string_bytes x
      → IsOffered def kind tree spot least sample prefix name here.entries.items here.more → AreJoined old here new
      → AreSoFar all (map string_bytes (drop i row)) old → AreSoFar all (map string_bytes (drop (i + 1) row)) new
  offers_next all row i x name old here new lt is same one joined h entries more rest =
      subst (λ es. Offered all es (new.more || more)) (sym row_is)
      (subst (λ m. Offered all (old.entries.items ++ (here.entries.items ++ entries)) m) (sym more_is)
      (h (here.entries.items ++ entries) (here.more || more)
      (subst (λ ops. Offered ops (here.entries.items ++ entries) (here.more || more))
      (ap (λ n. n ∷ map string_bytes (drop (i + 1) row)) same
      ∙ sym (ap (map string_bytes) (drop_item row i x lt is)))
      (one_more one rest)))) where
        row_is : new.entries.items ++ entries ≡ old.entries.items ++ (here.entries.items ++ entries)
        row_is =
            ap (λ l. l ++ entries) joined.entries
            ∙ append_assoc old.entries.items here.entries.items entries

        more_is : (new.more || more) ≡ (old.more || (here.more || more))
        more_is = ap (λ m. m || more) joined.more ∙ or_assoc old.more here.more more

  pub offers_end : (all : List Name) (row : List (String Global)) (i : ℕ) (offers : Offers) → length row ≤ i
      → AreSoFar all (map string_bytes (drop i row)) offers → Offered all offers.entries.items offers.more
  offers_end all row i offers le h =
      subst (λ es. Offered all es offers.more) (append-nil offers.entries.items)
      (subst (λ m. Offered all (offers.entries.items ++ []) m) (or_none_right offers.more)
      (h [] false (subst (λ l. Offered (map string_bytes l) [] false) (sym (drop_all i row le)) no_more)))

-- ---- what was told

abbrev Answer : Type 0
Answer = Result (Vec (String Global) Global) Refusal

pub answered_ok : (answer : Answer) (words : Vec (String Global) Global) → answer ≡ Ok words
    → map string_bytes words.items ≡ or_none (read_of answer)
answered_ok answer words e = ap (λ (a : Answer). or_none (read_of a)) (sym e)

pub answered_err : (answer : Answer) (refusal : Refusal) → answer ≡ Err refusal → [] ≡ or_none (read_of answer)
answered_err answer refusal e = ap (λ (a : Answer). or_none (read_of a)) (sym e)

pub told_some : (read : Option Answer) (answer : Answer) → read ≡ Some answer
    → or_none (read_of answer) ≡ lines_of (option_map read_of read)
told_some read answer e = ap (λ (r : Option Answer). lines_of (option_map read_of r)) (sym e)

pub told_nothing : (read : Option Answer) → read ≡ None → [] ≡ lines_of (option_map read_of read)
told_nothing read e = ap (λ (r : Option Answer). lines_of (option_map read_of r)) (sym e)

-- ---- names that are written

-- each name begins with nothing
begun_nothing : (names : List Name) → begun [] names ≡ names
begun_nothing [] = refl
begun_nothing (name ∷ names) = ap (λ l. name ∷ l) (begun_nothing names)

others_if : (names others : List Name) → (length names == 0) ≡ true → or_those names others ≡ others
others_if [] others e = refl
others_if (name ∷ names) others e =
    let none : length (name ∷ names) ≡ 0 = eqb-true (length (name ∷ names)) 0 e in absurd (omega (arith, none))

those_if : (names others : List Name) → (length names == 0) ≡ false → or_those names others ≡ names
those_if [] others e = absurd (true≢false e)
those_if (name ∷ names) others e = refl

-- what a test of a row says of the names that it has
told_of : (names row : List Name) (none b : Bool) → row ≡ names → none ≡ (length row == 0) → none ≡ b
    → (length names == 0) ≡ b
told_of names row none b is n e = ap (λ l. length l == 0) (sym is) ∙ sym n ∙ e

pub others_of : (names row others : List Name) (none : Bool) → row ≡ names → none ≡ (length row == 0) → none ≡ true
    → others ≡ or_those names others
others_of names row others none is n e = sym (others_if names others (told_of names row none true is n e))

pub those_of : (names row others : List Name) (none : Bool) → row ≡ names → none ≡ (length row == 0) → none ≡ false
    → names ≡ or_those names others
those_of names row others none is n e = sym (those_if names others (told_of names row none false is n e))

pub all_begun : (prefix : List ℕ) (names some row all : List Name) (none : Bool) → some ≡ begun prefix names
    → row ≡ some → none ≡ (length row == 0) → none ≡ true → all ≡ begun [] names → all ≡ begun_or_all prefix names
all_begun prefix names some row all none s is n e a =
    a ∙ begun_nothing names ∙ others_of some row names none is n e ∙ ap (λ l. or_those l names) s

pub some_begun : (prefix : List ℕ) (names some row : List Name) (none : Bool) → some ≡ begun prefix names
    → row ≡ some → none ≡ (length row == 0) → none ≡ false → some ≡ begun_or_all prefix names
some_begun prefix names some row none s is n e =
    those_of some row names none is n e ∙ ap (λ l. or_those l names) s

-- ---- an operator by its name

-- the operator of the number has the name
pub named_operator : (o : Option Operator) (name : Name) → option_map (λ (op : Operator). op.name) o ≡ Some name
    → (op : Operator) × (o ≡ Some op)
named_operator None name e = absurd (none-some name e)
named_operator (Some op) name e = (op, refl)

pub own_name : (o : Option Operator) (op : Operator) (name : Name) → o ≡ Some op
    → option_map (λ (x : Operator). x.name) o ≡ Some name → op.name ≡ name
own_name o op name is e =
    same_Some op.name name (sym (ap (option_map (λ (x : Operator). x.name)) is) ∙ e)

module _ (def : Definition) (kind : Kind) (tree : Fragment) (spot : Spot) (least : ℕ) (sample : Name)
    (prefix : List ℕ) where
  pub by_names_of : (op : ℕ) (own name : Name) (told : Option Read) (names some : List Name) (entries : List Entry)
      (more : Bool) → op_name_of def op ≡ Some name → own ≡ name → one_name (leaves_of def name) ≡ true
      → IsToldOf def kind tree spot (names_of name) (names_told tree) told
      → names ≡ written_names sample prefix (lines_of told)
      → some ≡ take most_names names → entries ≡ entries_with def least own op some
      → more ≡ nat_lt most_names (length names) → IsOffered def kind tree spot least sample prefix name entries more
  by_names_of op own name told names some entries more is same one told_is n s e m =
      subst (λ es. IsOffered def kind tree spot least sample prefix name es more) (sym entries_is)
      (subst (λ b. IsOffered def kind tree spot least sample prefix name
      (entries_with def least name op (take most_names (written_names sample prefix (lines_of told)))) b) (sym more_is)
      (by_names op told is one told_is)) where
        entries_is : entries
            ≡ entries_with def least name op (take most_names (written_names sample prefix (lines_of told)))
        entries_is =
            e ∙ ap (λ x. entries_with def least x op some) same
            ∙ ap (entries_with def least name op) (s ∙ ap (take most_names) n)

        more_is : more ≡ nat_lt most_names (length (written_names sample prefix (lines_of told)))
        more_is = m ∙ ap (λ l. nat_lt most_names (length l)) n

  pub by_itself_of : (op : ℕ) (own name : Name) (entries : List Entry) → op_name_of def op ≡ Some name → own ≡ name
      → one_name (leaves_of def name) ≡ false → entries ≡ entries_with def least own op (sample ∷ [])
      → IsOffered def kind tree spot least sample prefix name entries false
  by_itself_of op own name entries is same one e =
      subst (λ es. IsOffered def kind tree spot least sample prefix name es false)
      (sym (e ∙ ap (λ x. entries_with def least x op (sample ∷ [])) same)) (by_itself op is one)

  pub unknown_of : (name : Name) (offers : Offers) → ((op : ℕ) → op_name_of def op ≡ Some name → ⊥)
      → offers.entries.items ≡ [] → offers.more ≡ false
      → IsOffered def kind tree spot least sample prefix name offers.entries.items offers.more
  unknown_of name offers none e m =
      subst (λ es. IsOffered def kind tree spot least sample prefix name es offers.more) (sym e)
      (subst (λ b. IsOffered def kind tree spot least sample prefix name [] b) (sym m) (unknown none))

  pub nothing_of : (offers : Offers) (ops : List Name) → [] ≡ ops → offers.entries.items ≡ [] → offers.more ≡ false
      → AreOffered def kind tree spot least sample prefix ops offers.entries.items offers.more
  nothing_of offers ops none e m =
      subst (λ l. AreOffered def kind tree spot least sample prefix l offers.entries.items offers.more) none
      (subst (λ es. AreOffered def kind tree spot least sample prefix [] es offers.more) (sym e)
      (subst (λ b. AreOffered def kind tree spot least sample prefix [] [] b) (sym m) no_more))

  pub offered_for : (offers : Offers) (ops others : List Name) → ops ≡ others
      → AreOffered def kind tree spot least sample prefix ops offers.entries.items offers.more
      → AreOffered def kind tree spot least sample prefix others offers.entries.items offers.more
  offered_for offers ops others same h =
      subst (λ l. AreOffered def kind tree spot least sample prefix l offers.entries.items offers.more) same h

-- no operator of the definition has the name
pub not_named : (def d : Definition) (name : Name) (found : Option ℕ) → d ≡ def
    → ((o : ℕ) → op_name_of d o ≡ Some name → found ≡ Some o) → found ≡ None → (o : ℕ) → op_name_of def o ≡ Some name → ⊥
not_named def d name found same only none o is =
    none-some o (sym none ∙ only o (ap (λ x. op_name_of x o) same ∙ is))
