-- The link of a name by the regions around it, the innermost first.
use Rattle.std.proofs.Common.{◌≡◌, ℕ, zero, suc, ◌+◌, ◌<◌, Bool, true, false, cond, List, [], ◌∷◌, ◌++◌, length, take, drop, get_or, map, Option, Some, None, refl, ap, sym, ◌∙◌, subst, arith, append_assoc, append-nil}
use Rattle.std.proofs.lemmas.Bool.{true≢false}
use Rattle.std.proofs.lemmas.List.{drop_all, length_push}
use Rattle.psg_terms.proofs.Lists.{drop_item}
use Rattle.psg_grammar.specs.declared.types.Definition.{Definition}
use Rattle.psg_grammar.specs.Fragments.{Fragment}
use Rattle.psg_grammar.specs.Paths.{Path, node_at}
use Rattle.psg_uses.specs.declared.names.Named.{Named}
use Rattle.psg_uses.specs.declared.names.Written.{Written}
use Rattle.psg_uses.specs.Naming.{is_same_key}
use Rattle.psg_uses.specs.Regions.{begins_region, declared_of, declared_on, declared_with, ways_from}
use Rattle.psg_links.specs.declared.around.Region.{Region}
use Rattle.psg_links.specs.declared.link.Link.{Link}
use Rattle.psg_links.specs.Around.{first_in, is_there, or_else, region_by, regions_around, regions_at, regions_upto}
use Rattle.psg_links.specs.Linking.{link_by}
use Rattle.psg_links.specs.Links.{first_key, link_of}

-- ---- the first of two

or_else-none : (o : Option Written) → or_else o None ≡ o
or_else-none None = refl
or_else-none (Some d) = refl

or_else-assoc : (a b c : Option Written) → or_else (or_else a b) c ≡ or_else a (or_else b c)
or_else-assoc None b c = refl
or_else-assoc (Some d) b c = refl

first_step : (b : Bool) (x : Written) (one two : Option Written)
    → or_else (cond b (Some x) one) two ≡ cond b (Some x) (or_else one two)
first_step true x one two = refl
first_step false x one two = refl

first_both : (w : Written) (xs ys : List Written) → first_key w (xs ++ ys) ≡ or_else (first_key w xs) (first_key w ys)
first_both w [] ys = refl
first_both w (x ∷ xs) ys =
    ap (λ o. cond (is_same_key x w) (Some x) o) (first_both w xs ys)
    ∙ sym (first_step (is_same_key x w) x (first_key w xs) (first_key w ys))

pub in_last : (w : Written) (front : List Region) (last : Region)
    → first_in w (front ++ last ∷ []) ≡ or_else (first_key w last.declared) (first_in w front)
in_last w [] last = sym (or_else-none (first_key w last.declared))
in_last w (r ∷ front) last =
    ap (λ o. or_else o (first_key w r.declared)) (in_last w front last)
    ∙ or_else-assoc (first_key w last.declared) (first_in w front) (first_key w r.declared)

pub found_in_last : (w : Written) (all front : List Region) (last : Region) (o : Option Written) → all ≡ front ++ last ∷ []
    → o ≡ first_key w last.declared → is_there o ≡ true → o ≡ first_in w all
found_in_last w all front last None is h t = absurd (true≢false (sym t))
found_in_last w all front last (Some d) is h t =
    ap (λ o. or_else o (first_in w front)) h ∙ sym (ap (first_in w) is ∙ in_last w front last)

pub none_in_last : (w : Written) (all front : List Region) (last : Region) (o : Option Written) → all ≡ front ++ last ∷ []
    → o ≡ first_key w last.declared → is_there o ≡ false → first_in w all ≡ first_in w front
none_in_last w all front last None is h t =
    ap (first_in w) is ∙ in_last w front last ∙ sym (ap (λ o. or_else o (first_in w front)) h)
none_in_last w all front last (Some d) is h t = absurd (true≢false t)

-- ---- the regions around

module _ (def : Definition) (f : Fragment) (w : Written) where
  one_more : (rs : List Region) (q : Path) (b : Bool) → begins_region def f q ≡ b
      → first_in w (rs ++ regions_at def f q) ≡ or_else (first_key w (declared_of def f q)) (first_in w rs)
  one_more rs q true e =
      ap (λ c. first_in w (rs ++ cond c (region_by def f q ∷ []) [])) e ∙ in_last w rs (region_by def f q)
  one_more rs q false e =
      ap (λ c. first_in w (rs ++ cond c (region_by def f q ∷ []) [])) e ∙ ap (first_in w) (append-nil rs)
      ∙ sym (ap (λ c. or_else (first_key w (cond c (declared_with def q (node_at f q)) [])) (first_in w rs)) e)

  by_ways : (p : Path) (n : ℕ) → first_in w (regions_upto def f p (suc n)) ≡ first_key w (declared_on def f (ways_from p n))
  by_ways p zero =
      one_more [] [] (begins_region def f []) refl ∙ or_else-none (first_key w (declared_of def f []))
      ∙ ap (first_key w) (sym (append-nil (declared_of def f [])))
  by_ways p (suc n) =
      let q = take (suc n) p in
      one_more (regions_upto def f p (suc n)) q (begins_region def f q) refl
      ∙ ap (or_else (first_key w (declared_of def f q))) (by_ways p n)
      ∙ sym (first_both w (declared_of def f q) (declared_on def f (ways_from p n)))

abbrev pub link_to : Named → Option Written → Link
link_to n o = record { name = n.name; declares = n.declares; declaration = o }

module _ (def : Definition) (f : Fragment) where
  pub around_is : (regions : List Region) (p q : Path) → regions ≡ regions_around def f p → p ≡ q
      → regions ≡ regions_around def f q
  around_is regions p q h e = h ∙ ap (regions_around def f) e

  pub link_is : (regions : List Region) (n : Named) (l : Link) → regions ≡ regions_around def f n.name.path
      → l ≡ link_by regions n → l ≡ link_of def f n
  link_is regions n l around is =
      is ∙ ap (λ rs. link_to n (first_in n.name rs)) around
      ∙ ap (link_to n) (by_ways def f n.name n.name.path (length n.name.path))

  pub link_turn : (names yielded : List Named) (n : Named) (l : Link) (old new all : List Link) → length yielded < length names
      → n ≡ get_or names (length yielded) n → l ≡ link_of def f n → new ≡ old ++ l ∷ []
      → old ++ map (link_of def f) (drop (length yielded) names) ≡ all
      → new ++ map (link_of def f) (drop (length (yielded ++ n ∷ [])) names) ≡ all
  link_turn names yielded n l old new all lt at is grown h =
      let i = length yielded in
      let rest = map (link_of def f) (drop (i + 1) names) in
      subst (λ k. new ++ map (link_of def f) (drop k names) ≡ all) (sym (length_push yielded n))
      (ap (λ ls. ls ++ rest) grown ∙ append_assoc old (l ∷ []) rest ∙ ap (λ x. old ++ x ∷ rest) is
      ∙ ap (λ ns. old ++ map (link_of def f) ns) (sym (drop_item names i n lt at)) ∙ h)

  pub link_end : (names yielded : List Named) (found all : List Link) → length yielded ≡ length names
      → found ++ map (link_of def f) (drop (length yielded) names) ≡ all → found ≡ all
  link_end names yielded found all e h =
      sym (append-nil found)
      ∙ ap (λ ns. found ++ map (link_of def f) ns) (sym (drop_all (length yielded) names (omega (arith, e)))) ∙ h
