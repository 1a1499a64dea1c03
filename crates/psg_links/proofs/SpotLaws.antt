-- The name at a byte, and where names are that are together, link by link.
use Rattle.std.proofs.Common.{◌≡◌, ℕ, ◌+◌, ◌<◌, ◌≤◌, Bool, true, false, cond, List, [], ◌++◌, length, drop, get_or, Option, Some, None, ap, ap₂, sym, ◌∙◌, append_assoc, append-nil}
use Rattle.std.specs.Prelude.{option_to_list}
use Rattle.std.proofs.lemmas.List.{drop_all}
use Rattle.psg_terms.proofs.Lists.{drop_item}
use Rattle.psg_lexis.specs.declared.token.Spanned.{Spanned}
use Rattle.psg_ranges.specs.Forests.{Forest}
use Rattle.psg_links.specs.declared.link.Link.{Link}
use Rattle.psg_links.specs.declared.spot.Spot.{Spot}
use Rattle.psg_links.specs.Links.{is_together}
use Rattle.psg_links.specs.Spots.{IsCovering, covers, link_at, link_spot, spots_of}

module _ (tokens : List Spanned) (nodes : Forest) (byte : ℕ) where
  pub covering_next : (ls : List Link) (i : ℕ) (l : Link) (spot : Option Spot) → i < length ls → l ≡ get_or ls i l
      → spot ≡ link_spot tokens nodes l → covers byte spot ≡ false
      → link_at tokens nodes byte ls ≡ link_at tokens nodes byte (drop i ls)
      → link_at tokens nodes byte ls ≡ link_at tokens nodes byte (drop (i + 1) ls)
  covering_next ls i l spot lt at is off h =
      h ∙ ap (link_at tokens nodes byte) (drop_item ls i l lt at)
      ∙ ap (λ c. cond c (Some l) (link_at tokens nodes byte (drop (i + 1) ls))) (ap (covers byte) (sym is) ∙ off)

  pub covering_here : (ls : List Link) (i : ℕ) (l : Link) (spot : Option Spot) (s : Spot) → i < length ls → l ≡ get_or ls i l
      → spot ≡ link_spot tokens nodes l → covers byte spot ≡ true → spot ≡ Some s
      → link_at tokens nodes byte ls ≡ link_at tokens nodes byte (drop i ls) → IsCovering tokens nodes byte ls l s
  covering_here ls i l spot s lt at is on some h = record {
    link =
        h ∙ ap (link_at tokens nodes byte) (drop_item ls i l lt at)
        ∙ ap (λ c. cond c (Some l) (link_at tokens nodes byte (drop (i + 1) ls))) (ap (covers byte) (sym is) ∙ on);
    spot = sym is ∙ some;
  }

  pub covering_none : (ls : List Link) (i : ℕ) → length ls ≤ i
      → link_at tokens nodes byte ls ≡ link_at tokens nodes byte (drop i ls) → link_at tokens nodes byte ls ≡ None
  covering_none ls i le h = h ∙ ap (link_at tokens nodes byte) (drop_all i ls le)

module _ (tokens : List Spanned) (nodes : Forest) (w : Link) where
  pub spots_next : (ls : List Link) (i : ℕ) (l : Link) (spot : Option Spot) (b : Bool) (old new all : List Spot)
      → i < length ls → l ≡ get_or ls i l → spot ≡ link_spot tokens nodes l → b ≡ is_together w l
      → new ≡ old ++ cond b (option_to_list spot) [] → old ++ spots_of tokens nodes w (drop i ls) ≡ all
      → new ++ spots_of tokens nodes w (drop (i + 1) ls) ≡ all
  spots_next ls i l spot b old new all lt at is so grown h =
      let rest = spots_of tokens nodes w (drop (i + 1) ls) in
      ap (λ x. x ++ rest) grown ∙ append_assoc old (cond b (option_to_list spot) []) rest
      ∙ ap₂ (λ c s. old ++ (cond c (option_to_list s) [] ++ rest)) so is
      ∙ ap (λ xs. old ++ spots_of tokens nodes w xs) (sym (drop_item ls i l lt at)) ∙ h

  pub spots_end : (ls : List Link) (i : ℕ) (found all : List Spot) → length ls ≤ i
      → found ++ spots_of tokens nodes w (drop i ls) ≡ all → found ≡ all
  spots_end ls i found all le h =
      sym (append-nil found) ∙ ap (λ xs. found ++ spots_of tokens nodes w xs) (sym (drop_all i ls le)) ∙ h
