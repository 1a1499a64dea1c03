-- The steps of a plan node by node: where each node is, and which steps its children's rows are of.
use Rattle.std.proofs.Common.{◌≡◌, ℕ, zero, suc, ◌+◌, ◌-◌, ◌≤◌, Bool, true, false, cond, List, [], ◌∷◌, ◌++◌, map, length, length-append, Option, Some, None, slice_get, refl, ap, ap₂, sym, ◌∙◌, subst, append_assoc, append-nil, arith}
use Rattle.std.specs.Prelude.{option_and_then}
use Rattle.std.specs.List.{AllByRecursion}
use Rattle.std.proofs.lemmas.List.{length-map, map-append}
use Rattle.psg_terms.proofs.Lists.{each_append, slice_get-front, slice_get-middle}
use Rattle.psg_grammar.specs.declared.types.Kind.{Kind}
use Rattle.psg_grammar.specs.declared.types.Kind.TheVariants as kinds
use Rattle.psg_grammar.specs.declared.types.Definition.{Definition}
use Rattle.psg_grammar.specs.Fragments.{Fragment, hole, ending, cell, operator, with_child, with_name, with_number, with_text, anything, observed, children_of}
use Rattle.psg_grammar.specs.Lookups.{is_scope}
use Rattle.psg_grammar.specs.Paths.{Path, node_at}
use Rattle.psg_grammar.specs.Steps.{children_count, last_step}
use Rattle.psg_grammar.specs.WellFormed.{WellFormed}
use Rattle.psg_grammar.specs.Work.{work_of}
use Rattle.psg_cache.specs.AllSummaries.{suffix_of}
use Rattle.psg_cache.proofs.ChildLaws.{formed_below}
use Rattle.psg_explain.specs.Plans.{Below, Done, Step, adding, closing, from_before, from_itself, from_pair, listing, making, planned, planned_below}
use Rattle.psg_explain.specs.Relations.{IsPlaced}
use Rattle.psg_explain.proofs.PlanLaws.{IsFront, IsRest, IsWalked}
use Rattle.psg_explain.proofs.Walking.{added_children}

-- the steps of a node, or of a list's end or cell, after so many others
pub record Block : Type 0 where
  pub base : ℕ
  pub path : Path
  pub cell : Option ℕ
  pub part : Fragment
  pub children : List Done

abbrev pub tree_done : Done → Fragment
tree_done d = d.tree

-- how many cells a list has
abbrev pub cells_in : Fragment → ℕ
cells_in (cell l e r) = cells_in r + 1
cells_in _ = 0

-- a cell comes after the list behind its element
abbrev pub Follows : Option Fragment → Fragment → Type 0
Follows o (cell l e r) = o ≡ Some r
Follows o _ = Unit {0}

counted : (ds : List Done) (trees : List Fragment) → map tree_done ds ≡ trees → length ds ≡ length trees
counted ds trees e = sym (length-map ds tree_done) ∙ ap length e

-- an element of the back, by its place in the whole
behind_at : {X : Type 0} (xs ys : List X) (k : ℕ) → slice_get (xs ++ ys) (length xs + k) ≡ slice_get ys k
behind_at [] ys k = let e : 0 + k ≡ k = omega arith in ap (slice_get ys) e
behind_at {X} (x ∷ xs) ys k =
    let e : length (x ∷ xs) + k ≡ suc (length xs + k) = omega arith in
    ap (slice_get (x ∷ (xs ++ ys))) e ∙ behind_at xs ys k

pub suffix_child : (f : Fragment) (k : ℕ) (l : ℕ) (e r : Fragment) → suffix_of f k ≡ Some (cell l e r) → slice_get (children_of f) k ≡ Some e
suffix_child (cell m x y) zero l e r h = let d : cell m x y ≡ cell l e r = cc in let g : x ≡ e = cc in ap Some g
suffix_child (cell m x y) (suc k) l e r h = suffix_child y k l e r h
suffix_child (ending m u) zero l e r h = absurd (cc)
suffix_child (ending m u) (suc k) l e r h = absurd (cc)
suffix_child (hole p) k l e r h = absurd (cc)
suffix_child (operator o) k l e r h = absurd (cc)
suffix_child (with_child f t) k l e r h = absurd (cc)
suffix_child (with_name f n) k l e r h = absurd (cc)
suffix_child (with_number f n) k l e r h = absurd (cc)
suffix_child (with_text f n) k l e r h = absurd (cc)
suffix_child anything k l e r h = absurd (cc)
suffix_child (observed f) k l e r h = absurd (cc)

suffix_next : (f : Fragment) (k : ℕ) (l : ℕ) (e r : Fragment) → IsRest r → suffix_of f k ≡ Some (cell l e r) → suffix_of f (suc k) ≡ Some r
suffix_next (cell m x y) zero l e r i h = let d : cell m x y ≡ cell l e r = cc in let g : y ≡ r = cc in subst (λ (z : Fragment). suffix_of z 0 ≡ Some r) (sym g) (itself r i)
  where
    itself : (z : Fragment) → IsRest z → suffix_of z 0 ≡ Some z
    itself (ending n u) j = refl
    itself (cell n a b) j = refl
    itself (hole p) j = absurd j
    itself (operator o) j = absurd j
    itself (with_child a t) j = absurd j
    itself (with_name a n) j = absurd j
    itself (with_number a n) j = absurd j
    itself (with_text a n) j = absurd j
    itself anything j = absurd j
    itself (observed a) j = absurd j
suffix_next (cell m x y) (suc k) l e r i h = suffix_next y k l e r i h
suffix_next (ending m u) zero l e r i h = absurd (cc)
suffix_next (ending m u) (suc k) l e r i h = absurd (cc)
suffix_next (hole p) k l e r i h = absurd (cc)
suffix_next (operator o) k l e r i h = absurd (cc)
suffix_next (with_child f t) k l e r i h = absurd (cc)
suffix_next (with_name f n) k l e r i h = absurd (cc)
suffix_next (with_number f n) k l e r i h = absurd (cc)
suffix_next (with_text f n) k l e r i h = absurd (cc)
suffix_next anything k l e r i h = absurd (cc)
suffix_next (observed f) k l e r i h = absurd (cc)

pub node_below : (k : ℕ) (t : Fragment) (above : Path) (f u : Fragment) → node_at f above ≡ Some u → slice_get (children_of u) k ≡ Some t → node_at f (above ++ k ∷ []) ≡ Some t
node_below k t [] f u e s = let d : f ≡ u = cc in ap (option_and_then (λ (n : Fragment). node_at n [])) (ap (λ (n : Fragment). slice_get (children_of n) k) d ∙ s)
node_below k t (a ∷ above) f u e s = under (slice_get (children_of f) a) (λ c h. node_below k t above c u h s) e
  where
    under : (o : Option Fragment) → ((c : Fragment) → node_at c above ≡ Some u → node_at c (above ++ k ∷ []) ≡ Some t) → option_and_then (λ (n : Fragment). node_at n above) o ≡ Some u
        → option_and_then (λ (n : Fragment). node_at n (above ++ k ∷ [])) o ≡ Some t
    under None more h = absurd (cc)
    under (Some c) more h = more c h

module _ (def : Definition) where
  abbrev pub IsFormedNode : Fragment → Type 0
  IsFormedNode f = (kind : Kind) × WellFormed def f kind

  abbrev pub steps_in : Block → List Step
  steps_in b = making def b.base b.path b.cell b.part b.children

  abbrev pub joined : List Block → List Step
  joined [] = []
  joined (b ∷ bs) = steps_in b ++ joined bs

  -- the last step of the child is at the place
  abbrev pub IsDone : List Step → Done → Type 0
  IsDone xs d = (q : Step) × (slice_get xs d.place ≡ Some q) × (q.part ≡ d.tree) × (q.number ≡ last_step def d.tree)

  pub done_more : (xs ys : List Step) (ds : List Done) → AllByRecursion (IsDone xs) ds → AllByRecursion (IsDone (xs ++ ys)) ds
  done_more xs ys [] h = tt
  done_more xs ys (d ∷ ds) ((q, at, p, n), h) = ((q, slice_get-front xs ys d.place q at, p, n), done_more xs ys ds h)

  -- ---- the last step of a node

  -- the last of these steps is one of the part with the number
  abbrev EndsWith : List Step → Fragment → ℕ → Type 0
  EndsWith xs f n = (q : Step) × (slice_get xs (length xs - 1) ≡ Some q) × (q.part ≡ f) × (q.number ≡ n)

  module _ (path : Path) (c : Option ℕ) (f : Fragment) where
    closing_ends : (b : Bool) (n before : ℕ) (s : Step) → s.part ≡ f → s.number ≡ n → EndsWith (s ∷ closing def b path c f n before) f (cond b (n + 1) n)
    closing_ends true n before s p e = (record { path = path; cell = c; part = f; number = n + 1; origin = from_before before }, refl, refl, refl)
    closing_ends false n before s p e = (s, refl, p, e)

    adding_ends : (ds : List Done) (n before : ℕ) (s : Step) → s.part ≡ f → s.number ≡ n → EndsWith (s ∷ adding def path c f n before ds) f (cond (is_scope def f) (n + length ds + 1) (n + length ds))
    adding_ends [] n before s p e =
        let k : n ≡ n + length {A = Done} [] = omega arith in
        subst (λ (m : ℕ). EndsWith (s ∷ closing def (is_scope def f) path c f n before) f (cond (is_scope def f) (m + 1) m)) k (closing_ends (is_scope def f) n before s p e)
    adding_ends (d ∷ ds) n before s p e =
        let next : Step = record { path = path; cell = c; part = f; number = n + 1; origin = from_pair n before d.place d.tree } in
        let rest : List Step = adding def path c f (n + 1) (before + 1) ds in
        let (q, at, part, number) = adding_ends ds (n + 1) (before + 1) next refl refl in
        let k : n + 1 + length ds ≡ n + length (d ∷ ds) = omega arith in
        let place : length (s ∷ next ∷ rest) - 1 ≡ suc (length (next ∷ rest) - 1) = omega arith in
        (q, ap (slice_get (s ∷ next ∷ rest)) place ∙ at, part, number ∙ ap (λ (m : ℕ). cond (is_scope def f) (m + 1) m) k)

  making_ends : (base : ℕ) (path : Path) (c : Option ℕ) (f : Fragment) (ds : List Done) → length ds ≡ children_count f → EndsWith (making def base path c f ds) f (last_step def f)
  making_ends base path c f ds e =
      let (q, at, p, n) = adding_ends path c f ds 0 base (record { path = path; cell = c; part = f; number = 0; origin = from_itself }) refl refl in
      let k : 0 + length ds ≡ children_count f = omega (arith, e) in
      (q, at, p, n ∙ ap (λ (m : ℕ). cond (is_scope def f) (m + 1) m) k)

  -- the last of the whole is the last of the back
  ends_behind : (xs ys : List Step) (f : Fragment) (n place : ℕ) → 1 ≤ length ys → EndsWith ys f n → place ≡ length xs + length ys - 1 → (q : Step) × (slice_get (xs ++ ys) place ≡ Some q) × (q.part ≡ f) × (q.number ≡ n)
  ends_behind xs ys f n place some (q, at, p, e) here =
      let k : place ≡ length xs + (length ys - 1) = omega (arith, here, some) in
      (q, ap (slice_get (xs ++ ys)) k ∙ behind_at xs ys (length ys - 1) ∙ at, p, e)

  -- ---- nodes of a tree

  module _ (root : Fragment) where
    -- a node of the tree, after these steps and this part
    pub record IsBlock (before : List Step) (last : Option Fragment) (b : Block) : Type 0 where
      pub base : b.base ≡ length before
      pub placed : IsPlaced def root b.path b.cell b.part
      pub formed : IsFormedNode b.part
      pub count : length b.children ≡ children_count b.part
      pub children : map tree_done b.children ≡ added_children b.part
      pub done : AllByRecursion (IsDone before) b.children
      pub follows : Follows last b.part

    abbrev pub AreBlocks : List Step → Option Fragment → List Block → Option Fragment → Type 0
    AreBlocks before last [] end = end ≡ last
    AreBlocks before last (b ∷ bs) end = IsBlock before last b × AreBlocks (before ++ steps_in b) (Some b.part) bs end

    blocks_append : (before : List Step) (last middle end : Option Fragment) (xs ys : List Block) → AreBlocks before last xs middle → AreBlocks (before ++ joined xs) middle ys end → AreBlocks before last (xs ++ ys) end
    blocks_append before last middle end [] ys e h =
        subst (λ (l : List Step). AreBlocks l last ys end) (append-nil before) (subst (λ (o : Option Fragment). AreBlocks (before ++ []) o ys end) e h)
    blocks_append before last middle end (b ∷ xs) ys (is, h) k =
        (is, blocks_append (before ++ steps_in b) (Some b.part) middle end xs ys h (subst (λ (l : List Step). AreBlocks l middle ys end) (sym (append_assoc before (steps_in b) (joined xs))) k))

    pub joined-append : (xs ys : List Block) → joined (xs ++ ys) ≡ joined xs ++ joined ys
    joined-append [] ys = refl
    joined-append (b ∷ xs) ys = ap (λ (l : List Step). steps_in b ++ l) (joined-append xs ys) ∙ sym (append_assoc (steps_in b) (joined xs) (joined ys))

    -- these steps, after those before, are those of so many nodes, and come to this part
    pub record HasBlocks (before : List Step) (last : Option Fragment) (steps : List Step) (many : ℕ) (end : Option Fragment) : Type 0 where
      pub blocks : List Block
      pub are : steps ≡ joined blocks
      pub chain : AreBlocks before last blocks end
      pub count : length blocks ≡ many

    both_blocks : (before : List Step) (last middle end : Option Fragment) (xs ys : List Step) (m n : ℕ) → HasBlocks before last xs m middle → HasBlocks (before ++ xs) middle ys n end → HasBlocks before last (xs ++ ys) (m + n) end
    both_blocks before last middle end xs ys m n a b =
        let k = length-append a.blocks b.blocks in
        let p = a.count in
        let q = b.count in
        record {
          blocks = a.blocks ++ b.blocks;
          are = ap₂ (λ (u v : List Step). u ++ v) a.are b.are ∙ sym (joined-append a.blocks b.blocks);
          chain = blocks_append before last middle end a.blocks b.blocks a.chain (subst (λ (l : List Step). AreBlocks (before ++ l) middle b.blocks end) a.are b.chain);
          count = omega (arith, k, p, q);
        }

    one_block : (before : List Step) (last : Option Fragment) (b : Block) → IsBlock before last b → HasBlocks before last (steps_in b) 1 (Some b.part)
    one_block before last b is = record { blocks = b ∷ []; are = sym (append-nil (steps_in b)); chain = (is, refl); count = refl }

    no_block : (before : List Step) (last : Option Fragment) → HasBlocks before last [] 0 last
    no_block before last = record { blocks = []; are = refl; chain = refl; count = refl }

    -- ---- lists

    pub record IsListed (before : List Step) (last : Option Fragment) (steps : List Step) (f : Fragment) : Type 0 where
      pub all : HasBlocks before last steps (cells_in f + 1) (Some f)
      pub ends : EndsWith steps f (last_step def f)
      pub some : 1 ≤ length steps

    listing_blocks : (f : Fragment) (path : Path) (n : ℕ) (list : Fragment) (before : List Step) (last : Option Fragment) (base : ℕ) (ds : List Done) → base ≡ length before → IsRest f → IsFormedNode f → node_at root path ≡ Some list
        → suffix_of list n ≡ Some f → AllByRecursion (IsDone before) ds → map tree_done ds ≡ children_of f → IsListed before last (listing def base path n f ds) f
    listing_blocks (ending l u) path n list before last base ds e i formed at suffix done trees =
        record {
          all = one_block before last (record { base = base; path = path; cell = Some n; part = ending l u; children = [] }) (record {
            base = e;
            placed = (n, list, refl, at, suffix);
            formed = formed;
            count = refl;
            children = refl;
            done = tt;
            follows = tt;
          });
          ends = making_ends base path (Some n) (ending l u) [] refl;
          some = omega arith;
        }
    listing_blocks (cell l e r) path n list before last base [] same i formed at suffix done trees = absurd (cc)
    listing_blocks (cell l e r) path n list before last base (d ∷ ds) same (i, j) (kind, ((a, b, k, found, fe, fr, z), plain)) at suffix (first, done) trees =
        let front : List Step = listing def base path (n + 1) r ds in
        let next : n + 1 ≡ suc n = omega arith in
        let tail : map tree_done ds ≡ children_of r = cc in
        let head : d.tree ≡ e = cc in
        let h = listing_blocks r path (n + 1) list before last base ds same j (kinds.List l, (fr, plain.1)) at (ap (suffix_of list) next ∙ suffix_next list n l e r j suffix) done tail in
        let some = h.some in
        let ending_done : Done = record { tree = r; place = base + length front - 1 } in
        let both : List Done = d ∷ ending_done ∷ [] in
        let many = length-append before front in
        let block : Block = record { base = base + length front; path = path; cell = Some n; part = cell l e r; children = both } in
        let own : List Step = making def (base + length front) path (Some n) (cell l e r) both in
        let is : IsBlock (before ++ front) (Some r) block = record {
          base = omega (arith, many, same);
          placed = (n, list, refl, at, suffix);
          formed = (kind, ((a, b, k, found, fe, fr, z), plain));
          count = refl;
          children = ap (λ (x : Fragment). x ∷ r ∷ []) head;
          done = ((first.0, slice_get-front before front d.place first.0 first.1, first.2, first.3), (ends_behind before front r (last_step def r) (base + length front - 1) some h.ends (ap (λ (m : ℕ). m + length front - 1) same), tt));
          follows = refl;
        } in
        let ended = making_ends (base + length front) path (Some n) (cell l e r) both refl in
        let some_own : 1 ≤ length own = omega arith in
        let place : length (front ++ own) - 1 ≡ length front + length own - 1 = ap (λ (m : ℕ). m - 1) (length-append front own) in
        let total = length-append front own in
        record {
          all = both_blocks before last (Some r) (Some (cell l e r)) front own (cells_in r + 1) 1 h.all (one_block (before ++ front) (Some r) block is);
          ends = ends_behind front own (cell l e r) (last_step def (cell l e r)) (length (front ++ own) - 1) some_own ended place;
          some = omega (arith, total, some);
        }
    listing_blocks (hole p) path n list before last base ds e i formed at suffix done trees = absurd i
    listing_blocks (operator o) path n list before last base ds e i formed at suffix done trees = absurd i
    listing_blocks (with_child f t) path n list before last base ds e i formed at suffix done trees = absurd i
    listing_blocks (with_name f m) path n list before last base ds e i formed at suffix done trees = absurd i
    listing_blocks (with_number f m) path n list before last base ds e i formed at suffix done trees = absurd i
    listing_blocks (with_text f m) path n list before last base ds e i formed at suffix done trees = absurd i
    listing_blocks anything path n list before last base ds e i formed at suffix done trees = absurd i
    listing_blocks (observed f) path n list before last base ds e i formed at suffix done trees = absurd i

    -- ---- trees

    -- the steps of a tree, or those of children with where they end
    pub record IsPlanned (before : List Step) (last : Option Fragment) (steps : List Step) (f : Fragment) : Type 0 where
      pub all : HasBlocks before last steps (work_of f) (Some f)
      pub ends : EndsWith steps f (last_step def f)
      pub some : 1 ≤ length steps

    pub record ArePlanned (before : List Step) (last : Option Fragment) (b : Below) (many : ℕ) (trees : List Fragment) : Type 0 where
      pub end : Option Fragment
      pub all : HasBlocks before last b.steps many end
      pub done : AllByRecursion (IsDone (before ++ b.steps)) b.children
      pub trees_are : map tree_done b.children ≡ trees

    -- a node after its children
    finish : (f : Fragment) (path : Path) (before : List Step) (last : Option Fragment) (base : ℕ) (b : Below) (many : ℕ) → ArePlanned before last b many (added_children f) → base ≡ length before → IsFormedNode f
        → IsPlaced def root path None f → ((o : Option Fragment) → Follows o f) → length b.children ≡ children_count f → many + 1 ≡ work_of f
        → IsPlanned before last (b.steps ++ making def (base + length b.steps) path None f b.children) f
    finish f path before last base b many p e formed placed follows count sum =
        let block : Block = record { base = base + length b.steps; path = path; cell = None; part = f; children = b.children } in
        let own : List Step = making def (base + length b.steps) path None f b.children in
        let k = length-append before b.steps in
        let is : IsBlock (before ++ b.steps) p.end block = record {
          base = omega (arith, k, e);
          placed = placed;
          formed = formed;
          count = count;
          children = p.trees_are;
          done = p.done;
          follows = follows p.end;
        } in
        let ended = making_ends (base + length b.steps) path None f b.children count in
        let some : 1 ≤ length own = omega arith in
        let total = length-append b.steps own in
        let place : length (b.steps ++ own) - 1 ≡ length b.steps + length own - 1 = ap (λ (m : ℕ). m - 1) total in
        record {
          all = subst (λ (m : ℕ). HasBlocks before last (b.steps ++ own) m (Some f)) sum (both_blocks before last p.end (Some f) b.steps own many 1 p.all (one_block (before ++ b.steps) p.end block is));
          ends = ends_behind b.steps own f (last_step def f) (length (b.steps ++ own) - 1) some ended place;
          some = omega (arith, total, some);
        }

    leaf : (f : Fragment) (path : Path) (before : List Step) (last : Option Fragment) (base : ℕ) → base ≡ length before → IsFormedNode f → IsPlaced def root path None f → ((o : Option Fragment) → Follows o f) → 0 ≡ children_count f → [] ≡ added_children f → 1 ≡ work_of f
        → IsPlanned before last (making def base path None f []) f
    leaf f path before last base e formed placed follows count none one =
        let block : Block = record { base = base; path = path; cell = None; part = f; children = [] } in
        let is : IsBlock before last block = record { base = e; placed = placed; formed = formed; count = count; children = none; done = tt; follows = follows last } in
        record {
          all = subst (λ (m : ℕ). HasBlocks before last (steps_in block) m (Some f)) one (one_block before last block is);
          ends = making_ends base path None f [] count;
          some = omega arith;
        }

    each_split : (xs ys : List Fragment) → AllByRecursion IsFormedNode (xs ++ ys) → AllByRecursion IsFormedNode xs × AllByRecursion IsFormedNode ys
    each_split [] ys h = (tt, h)
    each_split (x ∷ xs) ys (p, h) = let (a, b) = each_split xs ys h in ((p, a), b)

    children_formed : (f : Fragment) (kind : Kind) → WellFormed def f kind → AllByRecursion IsFormedNode (children_of f)
    children_formed f kind (fits, plain) = formed_below def f [] kind fits plain

    -- a child's steps, and where they end
    child_done : (before steps more : List Step) (t : Fragment) (base : ℕ) → base ≡ length before → 1 ≤ length more → EndsWith more t (last_step def t) → IsDone (before ++ (steps ++ more)) (record { tree = t; place = base + length steps + length more - 1 })
    child_done before steps more t base e some ends =
        let k = length-append before steps in
        let (q, at, p, n) = ends_behind (before ++ steps) more t (last_step def t) (base + length steps + length more - 1) some ends (omega (arith, e, k)) in
        (q, ap (λ (l : List Step). slice_get l (base + length steps + length more - 1)) (sym (append_assoc before steps more)) ∙ at, p, n)

    moved_done : (before steps more : List Step) (ds : List Done) → AllByRecursion (IsDone (before ++ steps)) ds → AllByRecursion (IsDone (before ++ (steps ++ more))) ds
    moved_done before steps more ds h = subst (λ (l : List Step). AllByRecursion (IsDone l) ds) (append_assoc before steps more) (done_more (before ++ steps) more ds h)

    -- a child after the children before it
    child_more : (f t : Fragment) (before : List Step) (last : Option Fragment) (base : ℕ) (b : Below) (steps : List Step) → base ≡ length before → (many : ℕ) → (p : ArePlanned before last b many (children_of f))
        → IsPlanned (before ++ b.steps) p.end steps t
        → ArePlanned before last (record { steps = b.steps ++ steps; children = b.children ++ record { tree = t; place = base + length b.steps + length steps - 1 } ∷ [] }) (many + work_of t) (children_of f ++ t ∷ [])
    child_more f t before last base b steps e many p h =
        let end_done : Done = record { tree = t; place = base + length b.steps + length steps - 1 } in
        record {
          end = Some t;
          all = both_blocks before last p.end (Some t) b.steps steps many (work_of t) p.all h.all;
          done = each_append (IsDone (before ++ (b.steps ++ steps))) b.children (end_done ∷ []) (moved_done before b.steps steps b.children p.done) (child_done before b.steps steps t base e h.some h.ends, tt);
          trees_are = map-append tree_done b.children (end_done ∷ []) ∙ ap (λ (l : List Fragment). l ++ t ∷ []) p.trees_are;
        }

    mutual
      pub planned_blocks : (f : Fragment) (path : Path) (before : List Step) (last : Option Fragment) (base : ℕ) → base ≡ length before → (kind : Kind) → WellFormed def f kind → IsWalked f → node_at root path ≡ Some f
          → IsPlanned before last (planned def base path f) f
      planned_blocks (hole p) path before last base e kind formed i at = leaf (hole p) path before last base e (kind, formed) at (λ o. tt) refl refl refl
      planned_blocks (operator o) path before last base e kind formed i at = leaf (operator o) path before last base e (kind, formed) at (λ q. tt) refl refl refl
      planned_blocks (ending l u) path before last base e kind formed i at =
          let h = listing_blocks (ending l u) path 0 (ending l u) before last base [] e tt (kind, formed) at refl tt refl in
          record { all = h.all; ends = h.ends; some = h.some }
      planned_blocks (cell l x r) path before last base e kind formed (i, j) at =
          let ((a, b, k, found, fe, fr, z), plain) = formed in
          let first : List Step = planned def base (path ++ 0 ∷ []) x in
          let below : Below = planned_below def (base + length first) path 1 r in
          let h = planned_blocks x (path ++ 0 ∷ []) before last base e (kinds.Phylum k.element) (fe, plain.0) i (node_below 0 x path root (cell l x r) at refl) in
          let count = length-append before first in
          let (many, sum, rest) = rest_blocks r path 1 (cell l x r) (before ++ first) (Some x) (base + length first) (omega (arith, count, e)) j (kinds.List l, (fr, plain.1)) at (suffix_next (cell l x r) 0 l x r j refl) in
          let steps : List Step = first ++ below.steps in
          let ds : List Done = record { tree = x; place = base + length first - 1 } ∷ below.children in
          let own : List Step = listing def (base + length steps) path 0 (cell l x r) ds in
          let assoc : (before ++ first) ++ below.steps ≡ before ++ steps = append_assoc before first below.steps in
          let done_first = ends_behind before first x (last_step def x) (base + length first - 1) h.some h.ends (ap (λ (m : ℕ). m + length first - 1) e) in
          let done : AllByRecursion (IsDone (before ++ steps)) ds = (
            (done_first.0, ap (λ (l : List Step). slice_get l (base + length first - 1)) (sym assoc) ∙ slice_get-front (before ++ first) below.steps (base + length first - 1) done_first.0 done_first.1, done_first.2, done_first.3),
            subst (λ (l : List Step). AllByRecursion (IsDone l) below.children) assoc rest.done,
          ) in
          let all_count = length-append before steps in
          let q = listing_blocks (cell l x r) path 0 (cell l x r) (before ++ steps) rest.end (base + length steps) ds (omega (arith, all_count, e)) (i, j) (kind, formed) at refl done (ap (λ (l : List Fragment). x ∷ l) rest.trees_are) in
          let front : HasBlocks before last steps (work_of x + many) rest.end = both_blocks before last (Some x) rest.end first below.steps (work_of x) many h.all rest.all in
          let all = both_blocks before last rest.end (Some (cell l x r)) steps own (work_of x + many) (cells_in r + 1 + 1) front q.all in
          let total : work_of x + many + (cells_in r + 1 + 1) ≡ work_of (cell l x r) = omega (arith, sum) in
          let length_all = length-append steps own in
          let some_own = q.some in
          record {
            all = subst (λ (m : ℕ). HasBlocks before last (steps ++ own) m (Some (cell l x r))) total all;
            ends = ends_behind steps own (cell l x r) (last_step def (cell l x r)) (length (steps ++ own) - 1) some_own q.ends (ap (λ (m : ℕ). m - 1) length_all);
            some = omega (arith, length_all, some_own);
          }
      planned_blocks (with_child f t) path before last base e kind formed (i, j) at =
          let (fronts, one) = each_split (children_of f) (t ∷ []) (children_formed (with_child f t) kind formed) in
          let b : Below = planned_below def base path 0 f in
          let (many, sum, p) = front_blocks f i path (with_child f t) (t ∷ []) at refl fronts before last base e 0 in
          let pt : Path = path ++ length (children_of f) ∷ [] in
          let k = length-append before b.steps in
          let h = planned_blocks t pt (before ++ b.steps) p.end (base + length b.steps) (omega (arith, k, e)) one.0.0 one.0.1 j (node_below (length (children_of f)) t path root (with_child f t) at (slice_get-middle (children_of f) t [])) in
          let whole : Below = planned_below def base path 0 (with_child f t) in
          let q = child_more f t before last base b (planned def (base + length b.steps) pt t) e many p h in
          let total : many + work_of t + 1 ≡ work_of (with_child f t) = omega (arith, sum) in
          finish (with_child f t) path before last base whole (many + work_of t) q e (kind, formed) at (λ o. tt) (counted whole.children (children_of (with_child f t)) q.trees_are) total
      planned_blocks (with_name f m) path before last base e kind formed i at =
          let b : Below = planned_below def base path 0 f in
          let (many, sum, p) = front_blocks f i path (with_name f m) [] at (sym (append-nil (children_of f))) (children_formed (with_name f m) kind formed) before last base e 0 in
          finish (with_name f m) path before last base b many p e (kind, formed) at (λ o. tt) (counted b.children (children_of f) p.trees_are) sum
      planned_blocks (with_number f m) path before last base e kind formed i at =
          let b : Below = planned_below def base path 0 f in
          let (many, sum, p) = front_blocks f i path (with_number f m) [] at (sym (append-nil (children_of f))) (children_formed (with_number f m) kind formed) before last base e 0 in
          finish (with_number f m) path before last base b many p e (kind, formed) at (λ o. tt) (counted b.children (children_of f) p.trees_are) sum
      planned_blocks (with_text f m) path before last base e kind formed i at =
          let b : Below = planned_below def base path 0 f in
          let (many, sum, p) = front_blocks f i path (with_text f m) [] at (sym (append-nil (children_of f))) (children_formed (with_text f m) kind formed) before last base e 0 in
          finish (with_text f m) path before last base b many p e (kind, formed) at (λ o. tt) (counted b.children (children_of f) p.trees_are) sum
      planned_blocks anything path before last base e kind formed i at = absurd i
      planned_blocks (observed f) path before last base e kind formed i at = absurd i

      front_blocks : (f : Fragment) → IsFront f → (path : Path) (whole : Fragment) (more : List Fragment) → node_at root path ≡ Some whole → children_of whole ≡ children_of f ++ more → AllByRecursion IsFormedNode (children_of f)
          → (before : List Step) (last : Option Fragment) (base : ℕ) → base ≡ length before → (n : ℕ) → (many : ℕ) × (many + 1 ≡ work_of f) × ArePlanned before last (planned_below def base path n f) many (children_of f)
      front_blocks (operator o) i path whole more at are formed before last base e n = (0, refl, record { end = last; all = no_block before last; done = tt; trees_are = refl })
      front_blocks (with_child f t) (i, j) path whole more at are formed before last base e n =
          let (fronts, one) = each_split (children_of f) (t ∷ []) formed in
          let split : children_of whole ≡ children_of f ++ (t ∷ more) = are ∙ append_assoc (children_of f) (t ∷ []) more in
          let b : Below = planned_below def base path n f in
          let (many, sum, p) = front_blocks f i path whole (t ∷ more) at split fronts before last base e n in
          let pt : Path = path ++ length (children_of f) ∷ [] in
          let here : slice_get (children_of whole) (length (children_of f)) ≡ Some t = ap (λ (l : List Fragment). slice_get l (length (children_of f))) split ∙ slice_get-middle (children_of f) t more in
          let k = length-append before b.steps in
          let steps : List Step = planned def (base + length b.steps) pt t in
          let h = planned_blocks t pt (before ++ b.steps) p.end (base + length b.steps) (omega (arith, k, e)) one.0.0 one.0.1 j (node_below (length (children_of f)) t path root whole at here) in
          (many + work_of t, omega (arith, sum), child_more f t before last base b steps e many p h)
      front_blocks (with_name f m) i path whole more at are formed before last base e n = front_blocks f i path whole more at are formed before last base e n
      front_blocks (with_number f m) i path whole more at are formed before last base e n = front_blocks f i path whole more at are formed before last base e n
      front_blocks (with_text f m) i path whole more at are formed before last base e n = front_blocks f i path whole more at are formed before last base e n
      front_blocks (hole p) i path whole more at are formed before last base e n = absurd i
      front_blocks (ending l u) i path whole more at are formed before last base e n = absurd i
      front_blocks (cell l x r) i path whole more at are formed before last base e n = absurd i
      front_blocks anything i path whole more at are formed before last base e n = absurd i
      front_blocks (observed f) i path whole more at are formed before last base e n = absurd i

      rest_blocks : (f : Fragment) (path : Path) (n : ℕ) (list : Fragment) (before : List Step) (last : Option Fragment) (base : ℕ) → base ≡ length before → IsRest f → IsFormedNode f → node_at root path ≡ Some list → suffix_of list n ≡ Some f
          → (many : ℕ) × (many + (cells_in f + 1) ≡ work_of f) × ArePlanned before last (planned_below def base path n f) many (children_of f)
      rest_blocks (ending l u) path n list before last base e i formed at suffix = (0, refl, record { end = last; all = no_block before last; done = tt; trees_are = refl })
      rest_blocks (cell l x r) path n list before last base e (i, j) (kind, ((a, b, k, found, fe, fr, z), plain)) at suffix =
          let first : List Step = planned def base (path ++ n ∷ []) x in
          let below : Below = planned_below def (base + length first) path (n + 1) r in
          let h = planned_blocks x (path ++ n ∷ []) before last base e (kinds.Phylum k.element) (fe, plain.0) i (node_below n x path root list at (suffix_child list n l x r suffix)) in
          let count = length-append before first in
          let next : n + 1 ≡ suc n = omega arith in
          let (many, sum, rest) = rest_blocks r path (n + 1) list (before ++ first) (Some x) (base + length first) (omega (arith, count, e)) j (kinds.List l, (fr, plain.1)) at (ap (suffix_of list) next ∙ suffix_next list n l x r j suffix) in
          let assoc : (before ++ first) ++ below.steps ≡ before ++ (first ++ below.steps) = append_assoc before first below.steps in
          let done_first = ends_behind before first x (last_step def x) (base + length first - 1) h.some h.ends (ap (λ (m : ℕ). m + length first - 1) e) in (
            work_of x + many,
            omega (arith, sum),
            record {
              end = rest.end;
              all = both_blocks before last (Some x) rest.end first below.steps (work_of x) many h.all rest.all;
              done = (
                (done_first.0, ap (λ (l : List Step). slice_get l (base + length first - 1)) (sym assoc) ∙ slice_get-front (before ++ first) below.steps (base + length first - 1) done_first.0 done_first.1, done_first.2, done_first.3),
                subst (λ (l : List Step). AllByRecursion (IsDone l) below.children) assoc rest.done,
              );
              trees_are = ap (λ (l : List Fragment). x ∷ l) rest.trees_are;
            },
          )
      rest_blocks (hole p) path n list before last base e i formed at suffix = absurd i
      rest_blocks (operator o) path n list before last base e i formed at suffix = absurd i
      rest_blocks (with_child f t) path n list before last base e i formed at suffix = absurd i
      rest_blocks (with_name f m) path n list before last base e i formed at suffix = absurd i
      rest_blocks (with_number f m) path n list before last base e i formed at suffix = absurd i
      rest_blocks (with_text f m) path n list before last base e i formed at suffix = absurd i
      rest_blocks anything path n list before last base e i formed at suffix = absurd i
      rest_blocks (observed f) path n list before last base e i formed at suffix = absurd i
