-- Laws of tables from names to what is declared.
use Rattle.std.proofs.Common.{◌≡◌, ℕ, Bool, true, false, cond, ◌||◌, List, [], ◌∷◌, ◌++◌, refl, ap, sym, ◌∙◌, subst, Option, Some, None, is_some, append_assoc}
use Rattle.std.proofs.lemmas.Map.Text.{hash_map_updates_str}
use Rattle.std.specs.Option.{option_map}
use Rattle.std.specs.Str.{bytes_eq}
use Rattle.std.specs.HashMap.{UpdatesBy}
use Rattle.std.specs.Borrow.{Bor}
use Rattle.std.specs.Map.{lookup}
use Rattle.psg_terms.specs.Names.{Name, is_among}
use Rattle.psg_terms.specs.declared.declare.ConDecl.{ConDecl}
use Rattle.psg_terms.specs.declared.declare.SortDecl.{SortDecl}
use Rattle.psg_deflines.specs.Entries.{Entry, written}
use Rattle.psg_deflines.specs.declared.lines.Line.{Line}
use Rattle.psg_deflines.specs.declared.lines.Line.TheVariants as lines
use Rattle.psg_grammar.specs.declared.types.Level.{Level}
use Rattle.psg_deflines.specs.declared.lines.LineItem.{LineItem}
use Rattle.psg_defcheck.specs.Scopes.{Constructor, constructor_among, constructor_declared, a_phylum, a_list, kind_declared, OpDecl, operator_declared, sort_declared, sort_names, space_declared}
use Rattle.psg_defcheck.specs.Tables.{Table, found, Tells, TellsConstructors, AreTables, sort_told, kind_told, operator_told, name_told}
use Rattle.psg_defcheck.specs.declared.tables.DeclaredConstructor.{DeclaredConstructor}
use Rattle.psg_defcheck.specs.declared.tables.Kind.{Kind}
use Rattle.psg_defcheck.specs.declared.tables.Kind.TheVariants as kinds
use Rattle.psg_defcheck.specs.declared.tables.Operator.{Operator}
use Rattle.psg_defcheck.specs.declared.tables.Tables.{Tables}

pub tells-empty : {X Y : Type 0} (read : X → Y) (m : Table X) → m.entries ≡ [] → Tells read m (λ n. None)
tells-empty {X} read m e n = ap (λ (es : List (Bor (List ℕ) × X)). option_map read (lookup (λ k. bytes_eq n k.now) es)) e

-- one more name
pub tells-insert : {X Y : Type 0} (read : X → Y) (old new : Table X) (declared : Name → Option Y) (k : Name) (x : X) → Tells read old declared → UpdatesBy (λ a b. bytes_eq a.now b.now) (λ e. bytes_eq k e.now) old new (Some x)
    → Tells read new (λ n. cond (bytes_eq k n) (Some (read x)) (declared n))
tells-insert read old new declared k x h u n =
    ap (option_map read) (hash_map_updates_str k old new (Some x) u n)
    ∙ elim (bytes_eq k n) as (λ b. option_map read (cond b (Some x) (found old n)) ≡ cond b (Some (read x)) (declared n)) [ true ↦ refl | false ↦ h n ]

pub constructor_among-append : (sort : Name) (xs ys : List ConDecl) (n : Name) (behind : Option Constructor) → constructor_among sort (xs ++ ys) n behind ≡ constructor_among sort xs n (constructor_among sort ys n behind)
constructor_among-append sort [] ys n behind = refl
constructor_among-append sort (x ∷ xs) ys n behind = ap (λ o. cond (bytes_eq x.name n) (Some (sort, x)) o) (constructor_among-append sort xs ys n behind)

-- the last constructors of a sort are in the table already
abbrev pub HasBehind : (old now : Table DeclaredConstructor) (sort : Name) (decls rest : List ConDecl) → Type 0
HasBehind old now sort decls rest =
    (behind : Name → Option Constructor) → TellsConstructors old behind
    → (done : List ConDecl) × (decls ≡ rest ++ done) × TellsConstructors now (λ n. constructor_among sort done n (behind n))

pub behind-step : (old now new : Table DeclaredConstructor) (sort name : Name) (decls rest front : List ConDecl) (decl : ConDecl) (m : DeclaredConstructor) → HasBehind old now sort decls rest → rest ≡ front ++ decl ∷ [] → name ≡ decl.name → m.sort.now ≡ sort → m.decl.now ≡ decl
    → UpdatesBy (λ a b. bytes_eq a.now b.now) (λ e. bytes_eq name e.now) now new (Some m) → HasBehind old new sort decls front
behind-step old now new sort name decls rest front decl m h split at s d u behind t =
    let (done, all, tells) = h behind t in (
      decl ∷ done,
      all ∙ ap (λ xs. xs ++ done) split ∙ append_assoc front (decl ∷ []) done,
      λ n. tells-insert _ now new _ name m tells u n ∙ ap (λ (e : Name). cond (bytes_eq e n) (Some (m.sort.now, m.decl.now)) (constructor_among sort done n (behind n))) at
          ∙ ap (λ (c : Constructor). cond (bytes_eq decl.name n) (Some c) (constructor_among sort done n (behind n))) (pair m.sort.now sort m.decl.now decl s d),
    )
  where
    pair : (a b : Name) (x y : ConDecl) → a ≡ b → x ≡ y → ◌≡◌ {A = Constructor} (a, x) (b, y)
    pair a b x y e f = cc

-- the lines of the last entries are in the tables already
abbrev pub HasLines : (entries rest : List Entry) (t : Tables) → Type 0
HasLines entries rest t = (done : List Entry) × (entries ≡ rest ++ done) × AreTables (written done) t

pub lines-none : (entries rest front : List Entry) (t : Tables) (e : Entry) → HasLines entries rest t → rest ≡ front ++ e ∷ [] → e ≡ None → HasLines entries front t
lines-none entries rest front t e (done, all, are) split none = (
  e ∷ done,
  all ∙ ap (λ xs. xs ++ done) split ∙ append_assoc front (e ∷ []) done,
  subst (λ (x : Entry). AreTables (written (x ∷ done)) t) (sym none) are,
)

pub lines-some : (entries rest front : List Entry) (t u : Tables) (e : Entry) (line : Line) → HasLines entries rest t → rest ≡ front ++ e ∷ [] → e ≡ Some line → ((file : List Line) → AreTables file t → AreTables (line ∷ file) u) → HasLines entries front u
lines-some entries rest front t u e line (done, all, are) split some step = (
  e ∷ done,
  all ∙ ap (λ xs. xs ++ done) split ∙ append_assoc front (e ∷ []) done,
  subst (λ (x : Entry). AreTables (written (x ∷ done)) u) (sym some) (step (written done) are),
)

pub lines-all : (entries rest : List Entry) (t : Tables) → HasLines entries rest t → rest ≡ [] → AreTables (written entries) t
lines-all entries rest t (done, all, are) e = subst (λ es. AreTables (written es) t) (sym (all ∙ ap (λ xs. xs ++ done) e)) are

-- the table takes one more name
abbrev pub Puts : {X : Type 0} → Table X → Table X → Name → X → Type 0
Puts old new k x = UpdatesBy (λ a b. bytes_eq a.now b.now) (λ e. bytes_eq k e.now) old new (Some x)

tells-named : {X Y : Type 0} (read : X → Y) (old new : Table X) (declared : Name → Option Y) (k name : Name) (x : X) (y : Y) → Tells read old declared → k ≡ name → read x ≡ y → Puts old new k x
    → Tells read new (λ n. cond (bytes_eq name n) (Some y) (declared n))
tells-named {X} {Y} read old new declared k name x y h e f u n =
    tells-insert read old new declared k x h u n ∙ ap (λ m. cond (bytes_eq m n) (Some (read x)) (declared n)) e ∙ ap (λ (z : Y). cond (bytes_eq name n) (Some z) (declared n)) f

-- lines put in front of the lines of the tables
pub sort-added : (file : List Line) (t : Tables) (new : Table (Bor SortDecl)) (cons : Table DeclaredConstructor) (line : Line) (d : SortDecl) (sort k : Name) (made : List ConDecl) (x : Bor SortDecl) → AreTables file t → line ≡ lines.Sort d → k ≡ d.name → made ≡ d.constructors → x.now ≡ d → Puts t.sorts new k x
    → ((behind : Name → Option Constructor) → TellsConstructors t.constructors behind → TellsConstructors cons (λ n. constructor_among k made n (behind n)))
    → AreTables (line ∷ file) (record t { sorts = new; constructors = cons })
sort-added file t new cons line d sort k made x h e ek em ex u step =
    subst (λ l. AreTables (l ∷ file) (record t { sorts = new; constructors = cons })) (sym e) (record {
      sorts = tells-named sort_told t.sorts new (sort_declared file) k d.name x d h.sorts ek ex u;
      constructors = λ n. step (constructor_declared file) h.constructors n ∙ ap (λ s. constructor_among s made n (constructor_declared file n)) ek ∙ ap (λ cs. constructor_among d.name cs n (constructor_declared file n)) em;
      kinds = h.kinds;
      operators = h.operators;
      spaces = h.spaces;
      entity = h.entity;
    })

pub space-added : (file : List Line) (t : Tables) (new : Table (Bor (List ℕ))) (line : Line) (name sort k : Name) (s : Bor (List ℕ)) → AreTables file t → line ≡ lines.Space name sort → k ≡ name → s.now ≡ sort → Puts t.spaces new k s
    → AreTables (line ∷ file) (record t { spaces = new; entity = Some s })
space-added file t new line name sort k s h e ek es u =
    subst (λ l. AreTables (l ∷ file) (record t { spaces = new; entity = Some s })) (sym e) (record {
      sorts = h.sorts;
      constructors = h.constructors;
      kinds = h.kinds;
      operators = h.operators;
      spaces = tells-named name_told t.spaces new (space_declared file) k name s sort h.spaces ek es u;
      entity = ap Some es;
    })

pub phylum-added : (file : List Line) (t : Tables) (new : Table Kind) (line : Line) (name sort k : Name) (b : Bool) (s : Bor (List ℕ)) → AreTables file t → line ≡ lines.Phylum name sort b → k ≡ name → s.now ≡ sort → Puts t.kinds new k (kinds.Phylum s)
    → AreTables (line ∷ file) (record t { kinds = new })
phylum-added file t new line name sort k b s h e ek es u =
    subst (λ l. AreTables (l ∷ file) (record t { kinds = new })) (sym e) (record {
      sorts = h.sorts;
      constructors = h.constructors;
      kinds = tells-named kind_told t.kinds new (kind_declared file) k name (kinds.Phylum s) (a_phylum sort) h.kinds ek (ap a_phylum es) u;
      operators = h.operators;
      spaces = h.spaces;
      entity = h.entity;
    })

pub list-added : (file : List Line) (t : Tables) (new : Table Kind) (line : Line) (name sort elements separator k : Name) (b f : Bool) (s x : Bor (List ℕ)) → AreTables file t → line ≡ lines.List name sort elements separator b f → k ≡ name → s.now ≡ sort → x.now ≡ elements → Puts t.kinds new k (kinds.List s x)
    → AreTables (line ∷ file) (record t { kinds = new })
list-added file t new line name sort elements separator k b f s x h e ek es ex u =
    subst (λ l. AreTables (l ∷ file) (record t { kinds = new })) (sym e) (record {
      sorts = h.sorts;
      constructors = h.constructors;
      kinds = tells-named kind_told t.kinds new (kind_declared file) k name (kinds.List s x) (a_list sort elements) h.kinds ek (ap (λ n. a_list n x.now) es ∙ ap (a_list sort) ex) u;
      operators = h.operators;
      spaces = h.spaces;
      entity = h.entity;
    })

pub operator-added : (file : List Line) (t : Tables) (new : Table Operator) (line : Line) (name phylum k : Name) (scope : Bool) (level : Level) (made : List LineItem) (o : Operator) → AreTables file t → line ≡ lines.Operator name phylum scope level made → k ≡ name → o.phylum.now ≡ phylum → o.items.now ≡ made → Puts t.operators new k o
    → AreTables (line ∷ file) (record t { operators = new })
operator-added file t new line name phylum k scope level made o h e ek ep em u =
    subst (λ l. AreTables (l ∷ file) (record t { operators = new })) (sym e) (record {
      sorts = h.sorts;
      constructors = h.constructors;
      kinds = h.kinds;
      operators = tells-named operator_told t.operators new (operator_declared file) k name o (record { phylum = phylum; made = made }) h.operators ek (told o.phylum.now phylum o.items.now made ep em) u;
      spaces = h.spaces;
      entity = h.entity;
    })
  where
    told : (a b : Name) (x y : List LineItem) → a ≡ b → x ≡ y → ◌≡◌ {A = OpDecl} (record { phylum = a; made = x }) (record { phylum = b; made = y })
    told a b x y p q = cc

pub sort-named : (file : List Line) (n : Name) → is_some (sort_declared file n) ≡ is_among (sort_names file) n
sort-named [] n = refl
sort-named (lines.Sort d ∷ rest) n = elim (bytes_eq d.name n) as (λ b. is_some (cond b (Some d) (sort_declared rest n)) ≡ (b || is_among (sort_names rest) n)) [ true ↦ refl | false ↦ sort-named rest n ]
sort-named (lines.Space m s ∷ rest) n = sort-named rest n
sort-named (lines.Phylum m s b ∷ rest) n = sort-named rest n
sort-named (lines.List m s x w b f ∷ rest) n = sort-named rest n
sort-named (lines.Operator m p s l made ∷ rest) n = sort-named rest n
sort-named (lines.Row h cs ∷ rest) n = sort-named rest n
sort-named (lines.Nil l t ∷ rest) n = sort-named rest n
sort-named (lines.Cell l t x r ∷ rest) n = sort-named rest n
sort-named (lines.Hole k t w ∷ rest) n = sort-named rest n
sort-named (lines.Case t w ∷ rest) n = sort-named rest n
sort-named (lines.Declare m l e v w ∷ rest) n = sort-named rest n

some-read : {X Y : Type 0} (read : X → Y) (o : Option X) → is_some (option_map read o) ≡ is_some o
some-read read None = refl
some-read read (Some x) = refl

pub is_among-sort : (file : List Line) (n : Name) (o : Option (Bor SortDecl)) (b : Bool) → option_map sort_told o ≡ sort_declared file n → b ≡ is_some o → b ≡ is_among (sort_names file) n
is_among-sort file n o b e s = s ∙ sym (some-read sort_told o) ∙ ap is_some e ∙ sort-named file n

-- which names a table has
pub found-insert : {X : Type 0} (old new : Table X) (k n : Name) (x : X) → Puts old new k x → is_some (found new n) ≡ (bytes_eq k n || is_some (found old n))
found-insert old new k n x u =
    ap is_some (hash_map_updates_str k old new (Some x) u n) ∙ elim (bytes_eq k n) as (λ b. is_some (cond b (Some x) (found old n)) ≡ (b || is_some (found old n))) [ true ↦ refl | false ↦ refl ]
