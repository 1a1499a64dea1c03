-- The two parts of a header's keys are in order.
use Rattle.std.proofs.Common.{◌≡◌, ℕ, Bool, true, false, not, List, [], ◌∷◌, bytes_eq, refl, ap, sym, ◌∙◌, subst}
use Rattle.std.specs.Cmp.{tied_itself}
use Rattle.std.specs.Cmp.Lexicographic.{nat_list_cmp_total}
use Rattle.std.specs.Ordering.{nat_cmp}
use Rattle.std.specs.declared.cmp.Ordering.TheVariants.{Less}
use Rattle.psg_terms.specs.Names.{Name}
use Rattle.psg_grammar.specs.Keys.{Key, key_cmp, then_by}
use Rattle.psg_scope.specs.declared.header.NameCol.{NameCol}
use Rattle.psg_scope.specs.declared.header.Header.{Header}
use Rattle.psg_scope.specs.Headers.{AreRising, IsBelow, IsOrdered, keep_if, key_of, keys}
use Rattle.psg_scope.proofs.KeyLists.{key_is}
use Rattle.psg_eval.specs.Renamed.{moved_header, moved_names, other_header, other_names}

-- keys of one name are ordered by their spaces
same_name : (s t : ℕ) (a : Name) → key_cmp (s ∷ a) (t ∷ a) ≡ nat_cmp s t
same_name s t a = ap (λ r. then_by r (nat_cmp s t)) (tied_itself nat_list_cmp_total a)

moved_less : (s t : ℕ) (m n from to : Name) → m ≡ from → n ≡ from → key_cmp (s ∷ m) (t ∷ n) ≡ Less → key_cmp (s ∷ to) (t ∷ to) ≡ Less
moved_less s t m n from to e d h =
    same_name s t to ∙ sym (same_name s t from)
    ∙ subst (λ x. key_cmp (s ∷ x) (t ∷ from) ≡ Less) e (subst (λ y. key_cmp (s ∷ m) (t ∷ y) ≡ Less) d h)

below_kept : (b : Bool) (k : Key) (d : NameCol) (ds : List NameCol) → (b ≡ true → key_cmp k (key_of d) ≡ Less) → IsBelow k (keys ds) → IsBelow k (keys (keep_if b d ds))
below_kept true k d ds f h = (f refl, h)
below_kept false k d ds f h = h

kept_rising : (b : Bool) (d : NameCol) (ds : List NameCol) → (b ≡ true → IsBelow (key_of d) (keys ds)) → AreRising (keys ds) → AreRising (keys (keep_if b d ds))
kept_rising true d ds f s = (f refl, s)
kept_rising false d ds f s = s

module _ (from to : Name) where
  others_below : (k : Key) (cols : List NameCol) → IsBelow k (keys cols) → IsBelow k (keys (other_names from cols))
  others_below k [] h = tt
  others_below k (d ∷ cols) (l, h) = below_kept (not (bytes_eq d.name from)) k d (other_names from cols) (λ e. l) (others_below k cols h)

  others_rising : (cols : List NameCol) → AreRising (keys cols) → AreRising (keys (other_names from cols))
  others_rising [] s = tt
  others_rising (c ∷ cols) (b, s) = kept_rising (not (bytes_eq c.name from)) c (other_names from cols) (λ e. others_below (key_of c) cols b) (others_rising cols s)

  moved_below : (c : NameCol) → c.name ≡ from → (cols : List NameCol) → IsBelow (key_of c) (keys cols) → IsBelow (c.space ∷ to) (keys (moved_names from to cols))
  moved_below c is [] h = tt
  moved_below c is (d ∷ cols) (l, h) =
      below_kept (bytes_eq d.name from) (c.space ∷ to) (record d { name = to }) (moved_names from to cols)
      (λ e. moved_less c.space d.space c.name d.name from to is (key_is d.name from e) l) (moved_below c is cols h)

  moved_rising : (cols : List NameCol) → AreRising (keys cols) → AreRising (keys (moved_names from to cols))
  moved_rising [] s = tt
  moved_rising (c ∷ cols) (b, s) =
      kept_rising (bytes_eq c.name from) (record c { name = to }) (moved_names from to cols) (λ e. moved_below c (key_is c.name from e) cols b) (moved_rising cols s)

  pub moved_ordered : (h made : Header) → made ≡ moved_header from to h → IsOrdered h → IsOrdered made
  moved_ordered h made e o = subst IsOrdered (sym e) (record { keys_rise = moved_rising h.names o.keys_rise; spaces_rise = tt })

  pub other_ordered : (h made : Header) → made ≡ other_header from h → IsOrdered h → IsOrdered made
  other_ordered h made e o = subst IsOrdered (sym e) (record { keys_rise = others_rising h.names o.keys_rise; spaces_rise = o.spaces_rise })
