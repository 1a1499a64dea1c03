-- Bytes keep at most one fragment, or they have one first fault.
use Rattle.std.proofs.Common.{◌≡◌, ◌⊎◌, inl, inr, ℕ, ◌<◌, ◌≤◌, List, Some, None, refl, sym, ap, ◌∙◌, subst, arith}
use Rattle.std.specs.Prelude.{chars}
use Rattle.psg_grammar.specs.declared.types.Kind.{Kind}
use Rattle.psg_grammar.specs.declared.types.Definition.{Definition}
use Rattle.psg_grammar.specs.Fragments.{Fragment}
use Rattle.psg_grammar.specs.Kinds.{kind_name_of}
use Rattle.psg_grammar.specs.Sizes.{depth_of}
use Rattle.psg_grammar.specs.Sound.{IsSound}
use Rattle.psg_grammar.specs.WellFormed.{fixed_words}
use Rattle.psg_grammar.proofs.NamePlaces.{only_kind}
use Rattle.psg_lexis.specs.declared.token.Spanned.{Spanned}
use Rattle.psg_lexis.proofs.Laws.{only_tokens, no_fault_with_tokens}
use Rattle.psg_class.specs.Class.{IsClass}
use Rattle.psg_class.specs.Only.{IsOnly}
use Rattle.psg_class.specs.Texts.{tokens_of, TextTokens, ReadsAs, HasNoTokens, HasNoTree}
use Rattle.psg_class.specs.Yields.{Yields}
use Rattle.psg_class.proofs.Law.{only_trees}
use Rattle.psg_library.specs.declared.fragment.SavedFragment.{SavedFragment}
use Rattle.psg_library.specs.declared.fragment.KeptFault.{KeptFault}
use Rattle.psg_library.specs.declared.fragment.KeptFault.TheVariants as faults
use Rattle.psg_library.specs.Heads.{HasHead, text_in}
use Rattle.psg_library.specs.Keeping.{BeginsAs, HasOneReading, IsFirstFault, IsKept, IsReadAs, IsTextFault, no_tokens, no_tree, too_deep, no_head, no_kind, unread, OrMemory}
use Rattle.psg_library.proofs.HeadWords.{one_head}

module _ (def : Definition) (class : IsClass def) (kind : Kind) (text : List ℕ) where
  same_tokens : (ts us : List Spanned) → TextTokens def text ts → TextTokens def text us → ts ≡ us
  same_tokens ts us a b = only_tokens (fixed_words def) (chars text) 0 ts us a b

  some_tokens : (ts : List Spanned) → TextTokens def text ts → HasNoTokens def text → ⊥
  some_tokens ts a h = no_fault_with_tokens (fixed_words def) (chars text) 0 ts h.0 a h.1

  some_tree : (f : Fragment) (n : ℕ) → ReadsAs def kind 0 text f n → HasNoTree def kind text → ⊥
  some_tree f n r h =
      h.none f n (subst (λ ts. Yields def f kind 0 n (tokens_of ts)) (same_tokens r.tokens h.tokens r.are h.are) r.yields)

  same_tree : (f g : Fragment) (n m : ℕ) → ReadsAs def kind 0 text f n → ReadsAs def kind 0 text g m → IsOnly f g n m
  same_tree f g n m a b =
      only_trees def class kind 0 (tokens_of b.tokens) f g n m
      (subst (λ ts. Yields def f kind 0 n (tokens_of ts)) (same_tokens a.tokens b.tokens a.are b.are) a.yields) b.yields

  within : (f g : Fragment) (n m : ℕ) → IsOnly f g n m → (200 < depth_of f) ⊎ (400 < n) → depth_of g ≤ 200 → m ≤ 400 → ⊥
  within f g n m same (inl h) d b = let e : depth_of f ≡ depth_of g = ap depth_of same.tree in omega (arith, e, h, d)
  within f g n m same (inr h) d b = let e : n ≡ m = same.nesting in omega (arith, e, h, b)

  pub one_text_fault : (x y : KeptFault) → IsTextFault def kind text x → IsTextFault def kind text y → x ≡ y
  one_text_fault _ _ (no_tokens h) (no_tokens k) = refl
  one_text_fault _ _ (no_tokens h) (no_tree k) = absurd (some_tokens k.tokens k.are h)
  one_text_fault _ _ (no_tokens h) (too_deep f n r d) = absurd (some_tokens r.tokens r.are h)
  one_text_fault _ _ (no_tree h) (no_tokens k) = absurd (some_tokens h.tokens h.are k)
  one_text_fault _ _ (no_tree h) (no_tree k) = refl
  one_text_fault _ _ (no_tree h) (too_deep f n r d) = absurd (some_tree f n r h)
  one_text_fault _ _ (too_deep f n r d) (no_tokens k) = absurd (some_tokens r.tokens r.are k)
  one_text_fault _ _ (too_deep f n r d) (no_tree k) = absurd (some_tree f n r k)
  one_text_fault _ _ (too_deep f n r d) (too_deep g m s e) = refl

  pub tree_or_fault : (f : Fragment) (x : KeptFault) → IsReadAs def kind text f → IsTextFault def kind text x → ⊥
  tree_or_fault f _ a (no_tokens h) = some_tokens a.reads.tokens a.reads.are h
  tree_or_fault f _ a (no_tree h) = some_tree f a.nesting a.reads h
  tree_or_fault f _ a (too_deep g n r d) = within g f n a.nesting (same_tree g f n a.nesting r a.reads) d a.depth a.brackets

module _ (def : Definition) (sound : IsSound def) (class : IsClass def) (bytes : List ℕ) where
  record IsSameHead (n m : List ℕ) (k l : Kind) : Type 0 where
    name : n ≡ m
    kind : k ≡ l

  same_head : (n m : List ℕ) (k l : Kind) → BeginsAs def bytes n k → BeginsAs def bytes m l → IsSameHead n m k l
  same_head n m k l a b =
      let r = one_head _ n a.word m b.word a.head.head b.head.head in
      record {
        name = r.0;
        kind = only_kind def sound.kind_names k l b.word (a.kind_word ∙ ap Some r.1) b.kind_word;
      }

  one_fragment : (s t : SavedFragment) → IsKept def bytes s → IsKept def bytes t → s ≡ t
  one_fragment s t a b =
      let same = same_head s.name t.name s.kind t.kind a.begins b.begins in
      let other : IsReadAs def s.kind (text_in bytes) t.tree =
      subst (λ k. IsReadAs def k (text_in bytes) t.tree) (sym same.kind) b.reads in
      let trees = same_tree def class s.kind (text_in bytes) s.tree t.tree a.reads.nesting other.nesting a.reads.reads other.reads in
      λ i. record { name = same.name i; kind = same.kind i; tree = trees.tree i }

  unread_kind : (w n : List ℕ) (k : Kind) → HasHead bytes n w → ((l : Kind) → kind_name_of def l ≡ Some w → ⊥)
      → (m : List ℕ) → BeginsAs def bytes m k → ⊥
  unread_kind w n k h none m b =
      none k (b.kind_word ∙ ap Some (sym (one_head _ n w m b.word h.head b.head.head).1))

  one_fault : (x y : KeptFault) → IsFirstFault def bytes x → IsFirstFault def bytes y → x ≡ y
  one_fault _ _ (no_head h) (no_head k) = refl
  one_fault _ _ (no_head h) (no_kind n w k none) = absurd (h n w k)
  one_fault _ _ (no_head h) (unread n k y b t) = absurd (h n b.word b.head)
  one_fault _ _ (no_kind n w k none) (no_head h) = absurd (h n w k)
  one_fault _ _ (no_kind n w k none) (no_kind m v l nothing) = refl
  one_fault _ _ (no_kind n w h none) (unread m k y b t) = absurd (unread_kind w n k h none m b)
  one_fault _ _ (unread n k x b t) (no_head h) = absurd (h n b.word b.head)
  one_fault _ _ (unread m k x b t) (no_kind n w h none) = absurd (unread_kind w n k h none m b)
  one_fault _ _ (unread n k x b t) (unread m l y c u) =
      let same = same_head n m k l b c in
      one_text_fault def class k (text_in bytes) x y t
      (subst (λ j. IsTextFault def j (text_in bytes) y) (sym same.kind) u)

  kept_or_fault : (s : SavedFragment) (x : KeptFault) → IsKept def bytes s → IsFirstFault def bytes x → ⊥
  kept_or_fault s _ a (no_head h) = h s.name a.begins.word a.begins.head
  kept_or_fault s _ a (no_kind n w h none) = unread_kind w n s.kind h none s.name a.begins
  kept_or_fault s _ a (unread m l x b t) =
      let same = same_head m s.name l s.kind b a.begins in
      tree_or_fault def class s.kind (text_in bytes) s.tree x a.reads
      (subst (λ j. IsTextFault def j (text_in bytes) x) same.kind t)

  pub one_reading : HasOneReading def bytes
  one_reading = record { fragment = one_fragment; fault = one_fault; either = kept_or_fault }

  -- ---- what no other answer means

  pub kept_alone : (s t : SavedFragment) → IsKept def bytes s → IsKept def bytes t → s ≡ t
  kept_alone s t a b = one_fragment s t a b

  pub no_fault_too : (s : SavedFragment) (x : KeptFault) → IsKept def bytes s → IsFirstFault def bytes x → ⊥
  no_fault_too s x a b = kept_or_fault s x a b

  pub memory_alone : (e : KeptFault) (s : SavedFragment) → OrMemory (IsFirstFault def bytes) e → IsKept def bytes s
      → e ≡ faults.Memory
  memory_alone e s (inl h) a = h
  memory_alone e s (inr h) a = absurd (kept_or_fault s e a h)

  pub fault_alone : (e x : KeptFault) → OrMemory (IsFirstFault def bytes) e → IsFirstFault def bytes x
      → OrMemory (λ y. y ≡ x) e
  fault_alone e x (inl h) a = inl h
  fault_alone e x (inr h) a = inr (one_fault e x h a)
