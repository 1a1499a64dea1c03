-- Names that no line above and no constructor before declares.
use Rattle.std.proofs.Common.{◌≡◌, ℕ, ◌+◌, ◌<◌, ◌||◌, Bool, true, false, suc, List, [], ◌∷◌, ◌++◌, take, drop, get_or, length, refl, ap, ap₂, sym, ◌∙◌, subst, append_assoc}
use Rattle.std.proofs.lemmas.Bool.{or_parts, true≢false}
use Rattle.psg_terms.proofs.Lists.{take_item}
use Rattle.std.specs.List.{AllByRecursion}
use Rattle.std.specs.Str.{bytes_eq}
use Rattle.psg_terms.specs.Names.{Name, is_among, has_twice}
use Rattle.psg_terms.specs.declared.declare.ConDecl.{ConDecl}
use Rattle.psg_terms.proofs.DeclareLaws.{around, bytes_eq-sym, is_among-append, has_twice-push, has_twice-front}
use Rattle.psg_defcheck.specs.Scopes.{names_of}
use Rattle.psg_defcheck.specs.NameSets.{has, listed, AreNames, AreFresh}
use Rattle.psg_defcheck.specs.declared.names.Names.{Names}
use Rattle.psg_defcheck.proofs.AboveLaws.{names_of-append, names-insert, Puts}

abbrev pub AreApart : List Name → List Name → Type 0
AreApart before names = AllByRecursion (λ n. is_among before n ≡ false) names

-- so far each name is new
pub record AreNew (names seen : Names) (cs : List ConDecl) : Type 0 where
  pub seen_all : AreNames (names_of cs) seen
  pub once : has_twice (names_of cs) ≡ false
  pub apart : (before : List Name) → AreNames before names → AreApart before (names_of cs)

apart-append : (before xs ys : List Name) → AreApart before xs → AreApart before ys → AreApart before (xs ++ ys)
apart-append before [] ys h k = k
apart-append before (x ∷ xs) ys h k = (h.0, apart-append before xs ys h.1 k)

apart-behind : (before xs ys : List Name) → AreApart before (xs ++ ys) → AreApart before ys
apart-behind before [] ys h = h
apart-behind before (x ∷ xs) ys h = apart-behind before xs ys h.1

pub none-new : (names seen : Names) → listed seen ≡ [] → AreNew names seen []
none-new names seen h = record { seen_all = h; once = refl; apart = λ before _. tt }

next-names : (cs : List ConDecl) (i : ℕ) (c : ConDecl) → i < length cs → c ≡ get_or cs i c → names_of (take (i + 1) cs) ≡ names_of (take i cs) ++ c.name ∷ []
next-names cs i c lt at = ap names_of (take_item cs i c lt at) ∙ names_of-append (take i cs) (c ∷ [])

pub new-step : (names seen after : Names) (cs : List ConDecl) (i : ℕ) (c : ConDecl) (k : Name) (a b : Bool) → AreNew names seen (take i cs) → i < length cs → c ≡ get_or cs i c → k ≡ c.name → a ≡ false → a ≡ has names k → b ≡ false → b ≡ has seen k
    → Puts seen after k → AreNew names after (take (i + 1) cs)
new-step names seen after cs i c k a b h lt at e fa is fb was step =
    let split = sym (next-names cs i c lt at) in record {
      seen_all = subst (λ xs. AreNames xs after) split (names-insert (names_of (take i cs)) seen after k c.name h.seen_all e (sym was ∙ fb) step);
      once = ap has_twice (sym split) ∙ has_twice-push (names_of (take i cs)) c.name h.once (ap (is_among (names_of (take i cs))) (sym e) ∙ sym (ap (λ l. is_among l k) h.seen_all) ∙ sym was ∙ fb);
      apart = λ before are. subst (AreApart before) split (apart-append before (names_of (take i cs)) (c.name ∷ []) (h.apart before are) (ap (is_among before) (sym e) ∙ sym (ap (λ l. is_among l k) are) ∙ sym is ∙ fa, tt));
    }

pub new-all : (names seen : Names) (cs : List ConDecl) (i : ℕ) → AreNew names seen (take i cs) → take i cs ≡ cs → (before : List Name) → AreNames before names → (has_twice (names_of cs) ≡ false) × AreApart before (names_of cs)
new-all names seen cs i h e before are = let k = subst (AreNew names seen) e h in (k.once, k.apart before are)

all-names : (cs : List ConDecl) (i : ℕ) (c : ConDecl) → i < length cs → c ≡ get_or cs i c → names_of cs ≡ names_of (take i cs) ++ c.name ∷ names_of (drop (suc i) cs)
all-names cs i c lt at = ap names_of (around cs i c lt at) ∙ names_of-append (take i cs) (c ∷ drop (suc i) cs)

pub not-apart : (names : Names) (cs : List ConDecl) (i : ℕ) (c : ConDecl) (k : Name) (b : Bool) → i < length cs → c ≡ get_or cs i c → k ≡ c.name → b ≡ true → b ≡ has names k → (before : List Name) → AreNames before names → AreApart before (names_of cs) → ⊥
not-apart names cs i c k b lt at e t is before are h =
    let here = apart-behind before (names_of (take i cs)) (c.name ∷ names_of (drop (suc i) cs)) (subst (AreApart before) (all-names cs i c lt at) h) in
    true≢false (sym t ∙ is ∙ ap (λ l. is_among l k) are ∙ ap (is_among before) e ∙ here.0)

again : (xs : List Name) (n : Name) → has_twice (xs ++ n ∷ []) ≡ false → is_among xs n ≡ false
again [] n h = refl
again (x ∷ xs) n h =
    let p = or_parts (is_among (xs ++ n ∷ []) x) (has_twice (xs ++ n ∷ [])) h in
    let q = or_parts (is_among xs x) (bytes_eq n x || false) (sym (is_among-append xs (n ∷ []) x) ∙ p.0) in
    let r = or_parts (bytes_eq n x) false q.1 in
    ap (λ b. b || is_among xs n) (bytes_eq-sym n x r.0) ∙ again xs n p.1

first-time : (cs : List ConDecl) (i : ℕ) (c : ConDecl) → i < length cs → c ≡ get_or cs i c → has_twice (names_of cs) ≡ false → is_among (names_of (take i cs)) c.name ≡ false
first-time cs i c lt at once =
    again (names_of (take i cs)) c.name
    (has_twice-front (names_of (take i cs) ++ c.name ∷ []) (names_of (drop (suc i) cs)) (ap has_twice (append_assoc (names_of (take i cs)) (c.name ∷ []) (names_of (drop (suc i) cs)) ∙ sym (all-names cs i c lt at)) ∙ once))

pub not-once : (names seen : Names) (cs : List ConDecl) (i : ℕ) (c : ConDecl) (k : Name) (b : Bool) → AreNew names seen (take i cs) → i < length cs → c ≡ get_or cs i c → k ≡ c.name → b ≡ true → b ≡ has seen k → has_twice (names_of cs) ≡ false → ⊥
not-once names seen cs i c k b h lt at e t is once =
    true≢false (sym t ∙ is ∙ ap (λ l. is_among l k) h.seen_all ∙ ap (is_among (names_of (take i cs))) e ∙ first-time cs i c lt at once)

-- names of more constructors
abbrev pub HasNames : (old now : Names) (cs front : List ConDecl) → Type 0
HasNames old now cs front = (before : List Name) → AreNames before old → AreFresh before cs → AreNames (before ++ names_of front) now

pub constructors-step : (old now new : Names) (cs : List ConDecl) (i : ℕ) (c : ConDecl) (k : Name) → HasNames old now cs (take i cs) → i < length cs → c ≡ get_or cs i c → k ≡ c.name → Puts now new k → HasNames old new cs (take (i + 1) cs)
constructors-step old now new cs i c k h lt at e last before are fresh =
    let front = names_of (take i cs) in
    let apart = (apart-behind before front (c.name ∷ names_of (drop (suc i) cs)) (subst (AreApart before) (all-names cs i c lt at) fresh.1)).0 in
    subst (λ xs. AreNames xs new) (append_assoc before front (c.name ∷ []) ∙ ap (λ q. before ++ q) (sym (next-names cs i c lt at)))
    (names-insert (before ++ front) now new k c.name (h before are fresh) e
    (ap (λ l. is_among l k) (h before are fresh) ∙ ap (is_among (before ++ front)) e ∙ is_among-append before front c.name ∙ ap₂ (λ a b. a || b) apart (first-time cs i c lt at fresh.0))
    last)
