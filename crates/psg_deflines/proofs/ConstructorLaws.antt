-- Constructors from parts of a line.
use Rattle.std.proofs.Common.{◌≡◌, ℕ, ◌+◌, ◌<◌, ◌≤◌, List, [], ◌∷◌, ◌++◌, take, drop, get_or, ◌-◌, length, length-drop, codes, refl, ap, ap₂, sym, ◌∙◌, subst, arith}
use Rattle.std.specs.List.{AllByRecursion}
use Rattle.std.proofs.lemmas.List.{drop-drop}
use Rattle.std.proofs.lemmas.Bool.{false≢true}
use Rattle.psg_terms.specs.Names.{Name}
use Rattle.psg_terms.specs.declared.declare.ConDecl.{ConDecl}
use Rattle.psg_grammar.specs.Sound.{IsKindName, IsOwnName}
use Rattle.psg_deflines.specs.Forms.{closed_names, argument_parts, constructor_parts, HasConstructorForm}
use Rattle.psg_deflines.specs.TermWalks.{Parts, IsOpened, IsNotOpened}
use Rattle.psg_deflines.specs.FormReads.{AreNamesRead, HasNoNames, con_parts, IsConRead, HasNoCon, AreCons, HasNoCons}
use Rattle.psg_deflines.specs.Only.{IsOnly}
use Rattle.psg_deflines.proofs.Stages.{IsReadTo, read-more, read-all, read-not}
use Rattle.std.specs.Borrow.{Bor}
use Rattle.psg_deflines.specs.Parts.{texts}
use Rattle.psg_deflines.proofs.TermFound.{texts-length, texts-from}
use Rattle.psg_deflines.proofs.PartReads.{Slices, left-two, rest_of, first_of, byte_of}

-- ---- names to a bracket

pub record AreNames (rest : Parts) (ps : Parts) (names : List Name) : Type 0 where
  pub long : 0 < length names
  pub each : AllByRecursion IsKindName names
  pub written : ps ≡ closed_names names ++ rest

comma≢close : codes "," ≡ codes ")" → ⊥
comma≢close e = omega (arith, ap byte_of e)

first-name : (rest : Parts) (p q : List ℕ) (left : Parts) (names : List Name) → AreNames rest (p ∷ q ∷ left) names
    → (n : Name) × (tail : List Name) × (names ≡ n ∷ tail) × (n ≡ p) × IsKindName n × AllByRecursion IsKindName tail
    × (p ∷ q ∷ left ≡ closed_names (n ∷ tail) ++ rest)
first-name rest p q left [] h = absurd (omega (arith, h.long))
first-name rest p q left (n ∷ []) h = (n, [], refl, sym (ap first_of h.written), h.each.0, tt, h.written)
first-name rest p q left (n ∷ m ∷ tail) h = (n, m ∷ tail, refl, sym (ap first_of h.written), h.each.0, h.each.1, h.written)

pub names-kind : (rest : Parts) (p q : List ℕ) (left : Parts) (names : List Name) → AreNames rest (p ∷ q ∷ left) names → IsKindName p
names-kind rest p q left names h = let first = first-name rest p q left names h in subst IsKindName first.3 first.4

pub names-mark : (rest : Parts) (p q : List ℕ) (left : Parts) (names : List Name) → AreNames rest (p ∷ q ∷ left) names → (q ≡ codes ")" → ⊥) → (q ≡ codes "," → ⊥) → ⊥
names-mark rest p q left [] h close comma = omega (arith, h.long)
names-mark rest p q left (n ∷ []) h close comma = close (ap (λ xs. first_of (rest_of xs)) h.written)
names-mark rest p q left (n ∷ m ∷ tail) h close comma = comma (ap (λ xs. first_of (rest_of xs)) h.written)

pub names-short : (rest : Parts) (left : Parts) (names : List Name) → AreNames rest left names → length left < 2 → ⊥
names-short rest left [] h s = omega (arith, h.long)
names-short rest left (n ∷ []) h s = omega (arith, ap length h.written)
names-short rest left (n ∷ m ∷ tail) h s = omega (arith, ap length h.written, closed-long m tail rest)
  where
    closed-long : (m : Name) (tail : List Name) (rest : Parts) → 1 ≤ length (closed_names (m ∷ tail) ++ rest)
    closed-long m [] rest = omega arith
    closed-long m (k ∷ tail) rest = omega arith

pub names-more : (rest all : Parts) (done : List Name) (p : List ℕ) (left : Parts) → IsReadTo (AreNames rest) all done (p ∷ codes "," ∷ left) → IsKindName p → IsReadTo (AreNames rest) all (done ++ p ∷ []) left
names-more rest all done p left h k = read-more (AreNames rest) all done (p ∷ codes "," ∷ left) p left h sound complete
  where
    sound : (tail : List Name) → AreNames rest left tail → AreNames rest (p ∷ codes "," ∷ left) (p ∷ tail)
    sound [] m = absurd (omega (arith, m.long))
    sound (n ∷ tail) m = record { long = omega arith; each = (k, m.each); written = ap (λ xs. p ∷ codes "," ∷ xs) m.written }

    complete : (whole : List Name) → AreNames rest (p ∷ codes "," ∷ left) whole → (tail : List Name) × (whole ≡ p ∷ tail) × AreNames rest left tail
    complete [] m = absurd (omega (arith, m.long))
    complete (n ∷ []) m = absurd (comma≢close (ap (λ xs. first_of (rest_of xs)) m.written))
    complete (n ∷ o ∷ tail) m =
        (o ∷ tail, ap (λ x. x ∷ o ∷ tail) (sym (ap first_of m.written)), record { long = omega arith; each = m.each.1; written = ap (λ xs. rest_of (rest_of xs)) m.written })

pub names-end : (all : Parts) (done : List Name) (p : List ℕ) (taken : ℕ) → ((rest : Parts) → IsReadTo (AreNames rest) all done (p ∷ codes ")" ∷ drop taken all)) → IsKindName p → taken ≤ length all → AreNamesRead all (done ++ p ∷ []) taken
names-end all done p taken h k fits =
    let whole = (h (drop taken all)).sound (p ∷ []) (record { long = omega arith; each = (k, tt); written = refl }) in
    record {
      fits = fits;
      long = whole.long;
      each = whole.each;
      written = whole.written;
      only = λ others rest long each written.
          let left = (h rest).complete others (record { long = long; each = each; written = written }) in
          last others left.0 left.1 rest left.2;
    }
  where
    last : (others tail : List Name) → others ≡ done ++ tail → (rest : Parts) → AreNames rest (p ∷ codes ")" ∷ drop taken all) tail → (others ≡ done ++ p ∷ []) × (rest ≡ drop taken all)
    last others [] e rest m = absurd (omega (arith, m.long))
    last others (n ∷ []) e rest m = (e ∙ ap (λ x. done ++ x ∷ []) (sym (ap first_of m.written)), sym (ap (λ xs. rest_of (rest_of xs)) m.written))
    last others (n ∷ o ∷ tail) e rest m = absurd (comma≢close (sym (ap (λ xs. first_of (rest_of xs)) m.written)))

pub names-not : (all : Parts) (done : List Name) (left : Parts) → ((rest : Parts) → IsReadTo (AreNames rest) all done left) → ((rest : Parts) (names : List Name) → AreNames rest left names → ⊥) → HasNoNames all
names-not all done left h none = λ names rest long each written. read-not (AreNames rest) all done left (h rest) (none rest) names (record { long = long; each = each; written = written })

-- ---- one constructor

same-con : (a b : ConDecl) → a.name ≡ b.name → a.args ≡ b.args → a ≡ b
same-con a b n m = ap₂ (λ x y. record { name = x; args = y }) n m

own-first : (n : Name) → IsOwnName n → n ≡ codes "(" → ⊥
own-first n h e = false≢true (subst IsOwnName e h)

pub con-plain : (ps rest : Parts) (c : ConDecl) (p : List ℕ) → ps ≡ p ∷ rest → c.name ≡ p → IsOwnName p → c.args ≡ [] → IsNotOpened rest → IsConRead ps c 1
con-plain ps rest c p e name own none apart =
    let left : rest ≡ drop 1 ps = sym (ap (drop 1) e) in
    record {
      fits = omega (arith, ap length e);
      long = omega arith;
      form = (subst IsOwnName (sym name) own, subst (AllByRecursion IsKindName) (sym none) tt);
      written = e ∙ ap (λ x. x ∷ rest) (sym name) ∙ ap (λ xs. c.name ∷ xs) left ∙ ap (λ a. (c.name ∷ argument_parts a) ++ drop 1 ps) (sym none);
      only = λ other behind form f open_rest. others other behind form (sym e ∙ f);
    }
  where
    plain : (other : ConDecl) (args : List Name) (behind : Parts) → other.args ≡ args → p ∷ rest ≡ (other.name ∷ argument_parts args) ++ behind → (other ≡ c) × (behind ≡ rest)
    plain other [] behind a f = (let n : other.name ≡ c.name = sym (ap first_of f) ∙ sym name in let b : other.args ≡ c.args = a ∙ sym none in same-con other c n b, sym (ap rest_of f))
    plain other (x ∷ xs) behind a f = absurd (apart _ (ap rest_of f))

    others : (other : ConDecl) (behind : Parts) → HasConstructorForm other → p ∷ rest ≡ con_parts other ++ behind → (other ≡ c) × (behind ≡ drop 1 ps)
    others other behind form f = let same = plain other other.args behind refl f in (same.0, same.1 ∙ sym (ap (drop 1) e))

pub con-args : (ps rest : Parts) (c : ConDecl) (p : List ℕ) (names : List Name) (taken : ℕ) → ps ≡ p ∷ codes "(" ∷ rest → c.name ≡ p → IsOwnName p → c.args ≡ names → AreNamesRead rest names taken → IsConRead ps c (taken + 2)
con-args ps rest c p names taken e name own same h =
    let left : drop taken rest ≡ drop (taken + 2) ps = ap (drop taken) (sym (ap (drop 2) e)) ∙ drop-drop taken 2 ps ∙ ap (λ n. drop n ps) (swap taken) in
    record {
      fits = omega (arith, h.fits, ap length e);
      long = omega arith;
      form = (subst IsOwnName (sym name) own, subst (AllByRecursion IsKindName) (sym same) h.each);
      written = e ∙ ap (λ x. x ∷ codes "(" ∷ rest) (sym name) ∙ ap (λ xs. c.name ∷ codes "(" ∷ xs) (h.written ∙ ap (λ xs. closed_names names ++ xs) left)
          ∙ ap (λ a. (c.name ∷ a) ++ drop (taken + 2) ps) (with-bracket names h.long ∙ ap argument_parts (sym same));
      only = λ other behind form f apart. (let both = args other other.args behind refl form apart (sym e ∙ f) in (both.0, both.1 ∙ left));
    }
  where
    swap : (n : ℕ) → 2 + n ≡ n + 2
    swap n = omega arith

    with-bracket : (ns : List Name) → 0 < length ns → codes "(" ∷ closed_names ns ≡ argument_parts ns
    with-bracket [] l = absurd (omega arith)
    with-bracket (n ∷ ns) l = refl

    args : (other : ConDecl) (ns : List Name) (behind : Parts) → other.args ≡ ns → HasConstructorForm other → IsNotOpened behind → p ∷ codes "(" ∷ rest ≡ (other.name ∷ argument_parts ns) ++ behind → (other ≡ c) × (behind ≡ drop taken rest)
    args other [] behind a form apart f = absurd (apart rest (sym (ap rest_of f)))
    args other (x ∷ xs) behind a form apart f =
        let both = h.only (x ∷ xs) behind (omega arith) (subst (AllByRecursion IsKindName) a form.1) (ap (λ ys. rest_of (rest_of ys)) f) in
        (let n : other.name ≡ c.name = sym (ap first_of f) ∙ sym name in let b : other.args ≡ c.args = a ∙ both.0 ∙ sym same in same-con other c n b, both.1)

pub con-no_args : (ps rest : Parts) (p : List ℕ) → ps ≡ p ∷ codes "(" ∷ rest → HasNoNames rest → HasNoCon ps
con-no_args ps rest p e none c behind form f apart = args c.args refl (sym e ∙ f)
  where
    args : (ns : List Name) → c.args ≡ ns → p ∷ codes "(" ∷ rest ≡ (c.name ∷ argument_parts ns) ++ behind → ⊥
    args [] a g = apart rest (sym (ap rest_of g))
    args (x ∷ xs) a g = none (x ∷ xs) behind (omega arith) (subst (AllByRecursion IsKindName) a form.1) (ap (λ ys. rest_of (rest_of ys)) g)

-- ---- all constructors

cons-apart : (cs : List ConDecl) → AllByRecursion HasConstructorForm cs → IsNotOpened (constructor_parts cs)
cons-apart [] h rest e = cc
cons-apart (c ∷ cs) h rest e = own-first c.name h.0.0 (ap first_of e)

pub cons-more : (all : Parts) (done : List ConDecl) (left : Parts) (c : ConDecl) (taken : ℕ) → IsReadTo AreCons all done left → IsConRead left c taken → IsReadTo AreCons all (done ++ c ∷ []) (drop taken left)
cons-more all done left c taken h r = read-more AreCons all done left c (drop taken left) h sound complete
  where
    sound : (tail : List ConDecl) → AreCons (drop taken left) tail → AreCons left (c ∷ tail)
    sound tail m = record { each = (r.form, m.each); written = r.written ∙ ap (λ xs. con_parts c ++ xs) m.written }

    complete : (whole : List ConDecl) → AreCons left whole → (tail : List ConDecl) × (whole ≡ c ∷ tail) × AreCons (drop taken left) tail
    complete [] m = absurd (omega (arith, ap length m.written, r.fits, r.long))
    complete (d ∷ ds) m =
        let same = r.only d (constructor_parts ds) m.each.0 m.written (cons-apart ds m.each.1) in
        (ds, ap (λ x. x ∷ ds) same.0, record { each = m.each.1; written = sym same.1 })

pub cons-not : (all : Parts) (done : List ConDecl) (left : Parts) → IsReadTo AreCons all done left → 0 < length left → HasNoCon left → HasNoCons all
cons-not all done left h long none = read-not AreCons all done left h refused
  where
    refused : (tail : List ConDecl) → AreCons left tail → ⊥
    refused [] m = omega (arith, ap length m.written)
    refused (d ∷ ds) m = none d (constructor_parts ds) m.each.0 m.written (cons-apart ds m.each.1)

pub cons-all : (all : Parts) (done : List ConDecl) (left : Parts) → IsReadTo AreCons all done left → left ≡ [] → IsOnly (AreCons all) done
cons-all all done left h e = read-all AreCons all done [] (subst (IsReadTo AreCons all done) e h) (record { each = tt; written = refl }) nothing
  where
    nothing : (tail : List ConDecl) → AreCons [] tail → tail ≡ []
    nothing [] m = refl
    nothing (d ∷ ds) m = absurd (omega (arith, ap length m.written))

-- ---- the loop over names

module _ (ts : Slices) (n : ℕ) (d : Bor (List ℕ)) (done : List Name) (h : (rest : Parts) → IsReadTo (AreNames rest) (texts ts) done (drop n (texts ts))) where
  left-read : n + 2 ≤ length ts → (rest : Parts) → IsReadTo (AreNames rest) (texts ts) done ((get_or ts n d).now ∷ (get_or ts (n + 1) d).now ∷ drop (n + 2) (texts ts))
  left-read fits rest = subst (IsReadTo (AreNames rest) (texts ts) done) (left-two ts n d fits) (h rest)

  pub at-kind : n + 2 ≤ length ts → (IsKindName (get_or ts n d).now → ⊥) → HasNoNames (texts ts)
  at-kind fits none = names-not (texts ts) done _ (left-read fits) (λ rest names m. none (names-kind rest _ _ _ names m))

  pub at-mark : n + 2 ≤ length ts → ((get_or ts (n + 1) d).now ≡ codes ")" → ⊥) → ((get_or ts (n + 1) d).now ≡ codes "," → ⊥) → HasNoNames (texts ts)
  at-mark fits close comma = names-not (texts ts) done _ (left-read fits) (λ rest names m. names-mark rest _ _ _ names m close comma)

  pub at-comma : n + 2 ≤ length ts → (new : List Name) (x : Name) → new ≡ done ++ x ∷ [] → x ≡ (get_or ts n d).now → IsKindName (get_or ts n d).now → (get_or ts (n + 1) d).now ≡ codes ","
      → (rest : Parts) → IsReadTo (AreNames rest) (texts ts) new (drop (n + 2) (texts ts))
  at-comma fits new x e same kind comma rest =
      subst (λ xs. IsReadTo (AreNames rest) (texts ts) xs (drop (n + 2) (texts ts))) (sym (e ∙ ap (λ y. done ++ y ∷ []) same))
      (names-more rest (texts ts) done (get_or ts n d).now (drop (n + 2) (texts ts))
      (subst (λ y. IsReadTo (AreNames rest) (texts ts) done ((get_or ts n d).now ∷ y ∷ drop (n + 2) (texts ts))) comma (left-read fits rest)) kind)

  pub at-close : n + 2 ≤ length ts → (new : List Name) (x : Name) → new ≡ done ++ x ∷ [] → x ≡ (get_or ts n d).now → IsKindName (get_or ts n d).now → (get_or ts (n + 1) d).now ≡ codes ")"
      → AreNamesRead (texts ts) new (n + 2)
  at-close fits new x e same kind close =
      subst (λ xs. AreNamesRead (texts ts) xs (n + 2)) (sym (e ∙ ap (λ y. done ++ y ∷ []) same))
      (names-end (texts ts) done (get_or ts n d).now (n + 2)
      (λ rest. subst (λ y. IsReadTo (AreNames rest) (texts ts) done ((get_or ts n d).now ∷ y ∷ drop (n + 2) (texts ts))) close (left-read fits rest)) kind (omega (arith, texts-length ts)))

  pub at-end : length ts - n < 2 → HasNoNames (texts ts)
  at-end short = names-not (texts ts) done (drop n (texts ts)) h (λ rest names m. names-short rest (drop n (texts ts)) names m (omega (arith, length-drop n (texts ts), texts-length ts)))

-- a constructor with a bracket behind its name
pub opened-two : (ts rest : Slices) (t : Bor (List ℕ)) → ts ≡ t ∷ rest → IsOpened (texts rest) → (texts ts ≡ t.now ∷ codes "(" ∷ texts (take (length ts - 2) (drop 2 ts))) × (2 ≤ length ts)
opened-two ts rest t e opened =
    let whole : texts ts ≡ t.now ∷ codes "(" ∷ opened.0 = ap texts e ∙ ap (λ xs. t.now ∷ xs) opened.1 in
    let left : opened.0 ≡ texts (take (length ts - 2) (drop 2 ts)) = sym (texts-from ts 2 ∙ ap (drop 2) whole) in
    (whole ∙ ap (λ xs. t.now ∷ codes "(" ∷ xs) left, omega (arith, ap length whole, texts-length ts))
