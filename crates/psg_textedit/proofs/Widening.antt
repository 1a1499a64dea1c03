-- From a node outward: what is read of the nodes so far, and what follows once one is clean or none is.
use Rattle.std.proofs.Common.{◌≡◌, ◌⊎◌, inl, inr, ℕ, ◌+◌, ◌<◌, ◌≤◌, max, List, [], ◌∷◌, ◌++◌, length, Option, Some, ap, sym, ◌∙◌, subst, arith}
use Rattle.std.specs.Str.{chars}
use Rattle.std.specs.List.{AllByRecursion}
use Rattle.psg_grammar.specs.declared.limits.TheConstants.{MOST_DEPTH}
use Rattle.psg_grammar.specs.Fragments.{Fragment}
use Rattle.psg_grammar.specs.Paths.{Path, node_at, replaced}
use Rattle.psg_grammar.specs.Sizes.{depth_of}
use Rattle.psg_grammar.specs.WellFormed.{WellFormed, fixed_words}
use Rattle.psg_lexis.specs.declared.token.Spanned.{Spanned}
use Rattle.psg_lexis.proofs.Laws.{only_tokens}
use Rattle.psg_class.specs.Only.{IsValue}
use Rattle.psg_class.specs.Texts.{TextTokens, tokens_of}
use Rattle.psg_class.proofs.ClassFacts.{facts}
use Rattle.psg_class.proofs.FormedLaws.{yields_are_trees}
use Rattle.psg_unparse.specs.Layout.{text_of}
use Rattle.psg_unparse.specs.Spots.{Placed, IsPlacedAt}
use Rattle.psg_unparse.specs.Listing.{IsListing}
use Rattle.psg_unparse.specs.Spans.{span_of}
use Rattle.psg_unparse.proofs.Listed.{listing}
use Rattle.psg_textedit.specs.Regions.{Typing, CountsText, Encloses, IsClean, IsInside, IsOutside, IsTyped, IsUnclean, Widens, stops, gives_up, widens, new_text, region_of}
use Rattle.psg_textedit.specs.Laws.{IsReplacedIn}
use Rattle.psg_textedit.proofs.Depths.{deep, depth_of_change}
use Rattle.psg_textedit.proofs.Nested.{nested}
use Rattle.psg_textedit.proofs.Readings.{counts_once, nil_snoc, placed_once, snoc_once}
use Rattle.psg_textedit.proofs.TypedNode.{typed}
use Rattle.psg_textedit.specs.declared.change.TextFault.{TextFault}
use Rattle.psg_textedit.specs.declared.change.TextFault.TheVariants as faults
use Rattle.psg_textedit.specs.declared.nodes.Job.{Job}
use Rattle.psg_textedit.specs.Jobs.{IsJob, IsHere, IsCleanAt, IsDeepAt, language_of, tree_in, typing_in}
use Rattle.psg_textedit.specs.Typing.{HasRead, IsForNode, IsTextFault, MayRead}
use Rattle.psg_textedit.proofs.JobTokens.{all_tokens, all_are, all_values}

pub not_outside : (e : Typing) (text : List ℕ) → IsInside e text → IsOutside e text → ⊥
not_outside e text i (inl h) = omega (arith, h, i.ordered)
not_outside e text i (inr (inl h)) = omega (arith, h, i.within)
not_outside e text i (inr (inr (inl h))) = h i.start_whole
not_outside e text i (inr (inr (inr h))) = h i.end_whole

module _ (j : Job) (ok : IsJob j) where
  abbrev pub At : Path → Placed → Type 0
  At path p = IsPlacedAt (language_of j) (tree_in j) path p

  abbrev pub Outward : Path → Option Path → ℕ → Type 0
  Outward path found n = Widens (language_of j) (tree_in j) (typing_in j) path found n

  abbrev pub Count : Placed → ℕ → Type 0
  Count p n = CountsText (language_of j) (region_of (language_of j) (tree_in j) (typing_in j) p) n

  pub listed : IsListing (language_of j) (tree_in j)
  listed = listing (language_of j) (tree_in j) j.kind ok.formed

  pub one_place : (path : Path) (p q : Placed) → At path p → At path q → p ≡ q
  one_place path p q a b = placed_once (language_of j) (tree_in j) (typing_in j) listed path p q a b

  same_count : (path : Path) (p q : Placed) (m n : ℕ) → At path p → At path q → Count p m → Count q n → m ≡ n
  same_count path p q m n a b c d =
      counts_once (language_of j) (region_of (language_of j) (tree_in j) (typing_in j) p) m n c
      (subst (λ x. Count x n) (sym (one_place path p q a b)) d)

  -- the first node's tokens are among those of all
  pub record Some1 (path : Path) (k : ℕ) : Type 0 where
    pub p : Placed
    pub at : At path p
    pub count : ℕ
    pub counts : Count p count
    pub low : count ≤ k

  pub first_counts : (path : Path) (found : Option Path) (k : ℕ) → Outward path found k → Some1 path k
  first_counts path _ k (stops p tree d at clean c) =
      record { p = p; at = at; count = k; counts = c; low = omega arith }
  first_counts _ _ k (gives_up p at unclean c) = record { p = p; at = at; count = k; counts = c; low = omega arith }
  first_counts path _ _ (widens m n p parent i is at unclean c w) =
      record { p = p; at = at; count = m; counts = c; low = omega arith }

  -- after a node that is not clean its parent follows
  pub record Rest (parent : Path) (found : Option Path) (m k : ℕ) : Type 0 where
    pub later : ℕ
    pub outward : Outward parent found later
    pub sum : k ≡ m + later

  pub parent_follows : (path parent : Path) (i : ℕ) (found : Option Path) (m k : ℕ) (p : Placed) → path ≡ parent ++ i ∷ []
      → At path p → IsUnclean (language_of j) (tree_in j) (typing_in j) p → Count p m → Outward path found k
      → Rest parent found m k
  parent_follows path parent i _ m k p is at unclean c (stops q tree d there clean cq) =
      absurd (unclean tree d
      (subst (λ x. IsClean (language_of j) (tree_in j) (typing_in j) x tree d) (sym (one_place path p q at there)) clean))
  parent_follows _ parent i _ m k p is at unclean c (gives_up q there spoilt cq) = absurd (nil_snoc parent i is)
  parent_follows path parent i found m _ p is at unclean c (widens x y q other o so there spoilt cq w) =
      let same : parent ≡ other = snoc_once parent other i o (sym is ∙ so) in
      let count : m ≡ x = same_count path p q m x at there c cq in
      record {
        later = y;
        outward = subst (λ r. Outward r found y) (sym same) w;
        sum = ap (λ z. z + y) (sym count);
      }

  -- ---- the nodes read so far

  pub record IsWidened (first path : Path) (start now : ℕ) : Type 0 where
    pub here : IsHere j path
    pub ticks : (found : Option Path) (n : ℕ) → Outward first found n
        → (k : ℕ) × Outward path found k × (now + k ≤ start + n)
    pub back : (found : Option Path) (k : ℕ) → Outward path found k → (n : ℕ) × Outward first found n

  pub widened_first : (first : Path) (start : ℕ) → IsHere j first → IsWidened first first start start
  widened_first first start here = record {
    here = here;
    ticks = λ found n w. (n, w, omega arith);
    back = λ found k w. (k, w);
  }

  pub widened_next : (first path parent : Path) (i start now later : ℕ) → path ≡ parent ++ i ∷ []
      → IsWidened first path start now
      → (p : Placed) × At path p × IsUnclean (language_of j) (tree_in j) (typing_in j) p
      → ((p : Placed) → At path p
      → HasRead (language_of j) (region_of (language_of j) (tree_in j) (typing_in j) p) now later)
      → IsWidened first parent start later
  widened_next first path parent i start now later is h (p, at, unclean) counted =
      let (m, c, low) = counted p at in
      let around : Encloses (typing_in j) (span_of (language_of j) p) =
      subst (λ x. Encloses (typing_in j) (span_of (language_of j) x)) (one_place path h.here.0 p h.here.1 at) h.here.2 in
      let (q, there, start_in, end_in) = nested (language_of j) (facts (language_of j) ok.reader.class) (tree_in j) j.kind
      ok.formed parent i p (subst (λ r. At r p) is at) in
      record {
        here = (q, there, (omega (arith, around.0, start_in), omega (arith, around.1, end_in)));
        ticks = λ found n w.
            let (k, v, bound) = h.ticks found n w in
            let r = parent_follows path parent i found m k p is at unclean c v in
            (r.later, r.outward, omega (arith, bound, low, r.sum));
        back = λ found k w. h.back found (m + k) (widens m k p parent i is at unclean c w);
      }

  -- whatever the node's region counts, all that was read is within the bound
  pub within_ticks : (first path : Path) (start now later : ℕ) → IsWidened first path start now
      → ((p : Placed) → At path p
      → MayRead (language_of j) (region_of (language_of j) (tree_in j) (typing_in j) p) now later)
      → (found : Option Path) (n : ℕ) → Outward first found n → later ≤ start + n
  within_ticks first path start now later h may found n w =
      let (k, v, bound) = h.ticks found n w in
      let s = first_counts path found k v in
      let low : later ≤ now + s.count = may s.p s.at s.count s.counts in
      omega (arith, low, s.low, bound)

  pub has_path : (first path : Path) (start now later : ℕ) (tree : Fragment) → IsWidened first path start now
      → IsCleanAt j path tree
      → ((p : Placed) → At path p
      → HasRead (language_of j) (region_of (language_of j) (tree_in j) (typing_in j) p) now later)
      → (n : ℕ) × Outward first (Some path) n
  has_path first path start now later tree h c counted =
      let (m, counts, low) = counted c.p c.placed in
      h.back (Some path) m (stops c.p tree c.nesting c.placed c.clean counts)

  -- ---- a clean node

  replaced_in : (path : Path) (p : Placed) (tree : Fragment) (m : ℕ) → IsHere j path → At path p
      → IsClean (language_of j) (tree_in j) (typing_in j) p tree m
      → IsReplacedIn (language_of j) (tree_in j) (typing_in j) j.kind path p tree m
  replaced_in path p tree m here at clean =
      let around : Encloses (typing_in j) (span_of (language_of j) p) =
      subst (λ x. Encloses (typing_in j) (span_of (language_of j) x)) (one_place path here.0 p here.1 at) here.2 in
      typed (language_of j) ok.reader.sound ok.reader.tokens ok.reader.class (tree_in j) j.kind ok.printable ok.formed
      (typing_in j) ok.inside ok.new path p tree m at around clean

  pub is_typed : (path : Path) (tree : Fragment) → IsHere j path → IsCleanAt j path tree
      → length path + depth_of tree ≤ MOST_DEPTH
      → IsTyped (language_of j) (tree_in j) (typing_in j) j.kind path tree
  is_typed path tree here c within =
      let r = replaced_in path c.p tree c.nesting here c.placed c.clean in
      let node : node_at (tree_in j) path ≡ Some c.p.node = listed.nodes path c.p c.placed in
      record {
        inside = not_outside (typing_in j) (text_of (language_of j) (tree_in j)) ok.inside;
        nesting = max r.elsewhere (c.p.spot.around + c.nesting);
        reads = r.reads;
        depth = (depth_of_change (language_of j) (tree_in j) MOST_DEPTH ok.shallow path c.p.node tree node).1 within;
        brackets = omega (arith, r.shallow, ok.shallow, c.brackets);
      }

  pub is_formed : (path : Path) (tree : Fragment) → IsHere j path
      → IsCleanAt j path tree → WellFormed (language_of j) (replaced path tree (tree_in j)) j.kind
  is_formed path tree here c =
      let r = replaced_in path c.p tree c.nesting here c.placed c.clean in
      let same : r.reads.tokens ≡ all_tokens j ok = one_text r.reads.tokens (all_tokens j ok) r.reads.are (all_are j ok) in
      yields_are_trees (language_of j) j.kind 0 (max r.elsewhere (c.p.spot.around + c.nesting))
      (replaced path tree (tree_in j)) (tokens_of r.reads.tokens)
      (subst (λ ts. AllByRecursion IsValue (tokens_of ts)) (sym same) (all_values j ok)) r.reads.yields
    where
      one_text : (ts us : List Spanned)
          → TextTokens (language_of j) (new_text (language_of j) (tree_in j) (typing_in j)) ts
          → TextTokens (language_of j) (new_text (language_of j) (tree_in j) (typing_in j)) us → ts ≡ us
      one_text ts us a b =
          only_tokens (fixed_words (language_of j))
          (chars (new_text (language_of j) (tree_in j) (typing_in j))) 0 ts us a b

  -- the clean node's tree is of its kind
  pub is_for_node : (path : Path) (tree : Fragment) → IsCleanAt j path tree
      → IsForNode (language_of j) (tree_in j) path tree
  is_for_node path tree c = record {
    node = c.p.node;
    there = listed.nodes path c.p c.placed;
    kind = c.kind;
    of_kind = c.of_kind;
    formed = c.formed;
  }

  -- a tree that is too deep, or a clean node's tree that makes it so
  pub too_deep : (path : Path) (p : Placed) (tree : Fragment) (m : ℕ) → IsHere j path → At path p
      → IsClean (language_of j) (tree_in j) (typing_in j) p tree m
      → (MOST_DEPTH < length path + depth_of tree) ⊎ (400 < m + p.spot.around)
      → IsTextFault (language_of j) (tree_in j) (typing_in j) j.kind faults.Deep
  too_deep path p tree m here at clean past =
      let r = replaced_in path p tree m here at clean in
      let node : node_at (tree_in j) path ≡ Some p.node = listed.nodes path p at in
      let low = (deep tree path (tree_in j) p.node node).at_least in
      let all : ℕ = max r.elsewhere (p.spot.around + m) in (
        not_outside (typing_in j) (text_of (language_of j) (tree_in j)) ok.inside,
        record {
          tree = replaced path tree (tree_in j);
          nesting = max r.elsewhere (p.spot.around + m);
          reads = r.reads;
          deep = elim past [
            | inl h ↦ inl (omega (arith, h, low))
            | inr h ↦ inr (omega (arith, h))
          ];
        },
      )

  pub deep_at : (path : Path) → IsHere j path → IsDeepAt j path
      → IsTextFault (language_of j) (tree_in j) (typing_in j) j.kind faults.Deep
  deep_at path here d = too_deep path d.p d.tree d.nesting here d.placed d.clean (elim d.deep [
    | inl h ↦ inl (omega (arith, h))
    | inr h ↦ inr h
  ])

  pub clean_too_deep : (path : Path) (tree : Fragment) → IsHere j path → IsCleanAt j path tree
      → MOST_DEPTH < length path + depth_of tree
      → IsTextFault (language_of j) (tree_in j) (typing_in j) j.kind faults.Deep
  clean_too_deep path tree here c past = too_deep path c.p tree c.nesting here c.placed c.clean (inl past)

  pub clean_fault : (path : Path) (tree : Fragment) → IsHere j path → IsCleanAt j path tree → (fault : TextFault)
      → (fault ≡ faults.Memory) ⊎ ((fault ≡ faults.Deep) × (MOST_DEPTH < length path + depth_of tree))
      → IsTextFault (language_of j) (tree_in j) (typing_in j) j.kind fault
  clean_fault path tree here c fault (inl e) =
      subst (IsTextFault (language_of j) (tree_in j) (typing_in j) j.kind) (sym e) tt
  clean_fault path tree here c fault (inr (e, past)) =
      subst (IsTextFault (language_of j) (tree_in j) (typing_in j) j.kind) (sym e) (clean_too_deep path tree here c past)

pub put_so : (P : Path → Fragment → Type 0) (path : Path) (tree : Fragment) (q : Path) (u : Fragment) → q ≡ path → u ≡ tree
    → P path tree → P q u
put_so P path tree q u e f h = subst (λ x. P x u) (sym e) (subst (P path) (sym f) h)
