-- What the calls for tokens and trees say of the text of a fragment.
use Rattle.std.proofs.Common.{◌≡◌, ◌⊎◌, inl, inr, ℕ, ◌<◌, ◌≤◌, ◌+◌, List, length, Some, None, refl, sym, ap, ◌∙◌, subst, arith}
use Rattle.std.specs.Prelude.{chars}
use Rattle.std.proofs.lemmas.Option.{none-some}
use Rattle.psg_grammar.specs.declared.types.Kind.{Kind}
use Rattle.psg_grammar.specs.declared.types.Definition.{Definition}
use Rattle.psg_grammar.specs.Fragments.{Fragment}
use Rattle.psg_grammar.specs.Sizes.{depth_of}
use Rattle.psg_grammar.specs.WellFormed.{fixed_words}
use Rattle.psg_lexis.specs.Tokens.{HasTokens}
use Rattle.psg_lexis.specs.Faults as broken
use Rattle.psg_lexis.specs.Faults.{HasFault}
use Rattle.psg_lexis.specs.declared.token.LexFault.{LexFault}
use Rattle.psg_lexis.specs.declared.token.LexFault.TheVariants as lexical
use Rattle.psg_lexis.specs.declared.token.Spanned.{Spanned}
use Rattle.psg_class.specs.Texts.{TextTokens}
use Rattle.psg_parse.specs.declared.fault.Goal.{Goal}
use Rattle.psg_parse.specs.declared.fault.ParseFault.{ParseFault}
use Rattle.psg_parse.specs.declared.fault.ParseFault.TheVariants as parsing
use Rattle.psg_parse.specs.Answers.{IsFault, IsParsed, IsTooDeep}
use Rattle.psg_library.specs.Faults.{of_tokens, of_tree}
use Rattle.psg_library.specs.declared.fragment.KeptFault.{KeptFault}
use Rattle.psg_library.specs.Heads.{text_in}
use Rattle.psg_library.specs.Keeping.{BeginsAs, IsReadAs, IsTextFault, no_tokens, no_tree, too_deep, IsFirstFault, unread, IsKept, CountsTokens, MayCount, counted, OrMemory}

-- the whole text is to be a tree of the kind
abbrev pub goal_of : Kind → Goal
goal_of kind = record { kind = kind; least = 0; around = 0 }

module _ (def : Definition) (kind : Kind) (text : List ℕ) where
  faulty : (f : LexFault) → HasFault (fixed_words def) (chars text) 0 f → OrMemory (IsTextFault def kind text) (of_tokens f)
  faulty (lexical.BadChar n) h = inr (no_tokens (lexical.BadChar n, h))
  faulty (lexical.BadRun n) h = inr (no_tokens (lexical.BadRun n, h))
  faulty (lexical.Unended n) h = inr (no_tokens (lexical.Unended n, h))
  faulty (lexical.TooLarge n) h = inr (no_tokens (lexical.TooLarge n, h))
  faulty lexical.Memory h = inl refl

  pub lexed_fault : (fixed : List (List ℕ)) → fixed ≡ fixed_words def → (f : LexFault)
      → broken.OrMemory (HasFault fixed (chars text) 0) f → OrMemory (IsTextFault def kind text) (of_tokens f)
  lexed_fault fixed same f (inl e) = inl (ap of_tokens e)
  lexed_fault fixed same f (inr h) = faulty f (subst (λ w. HasFault w (chars text) 0 f) same h)

  deep_of : (f : Fragment) (n : ℕ) → IsTooDeep (goal_of kind) f n → (200 < depth_of f) ⊎ (400 < n)
  deep_of f n (inl h) = inl h
  deep_of f n (inr h) = inr (omega (arith, h))

  module _ (ts : List Spanned) (are : TextTokens def text ts) where
    pub parsed_fault : (f : ParseFault) → IsFault def (goal_of kind) ts f
        → OrMemory (IsTextFault def kind text) (of_tree f)
    parsed_fault parsing.NoTree h = inr (no_tree (record { tokens = ts; are = are; none = h }))
    parsed_fault parsing.Deep h =
        inr (too_deep h.tree h.nesting (record { tokens = ts; are = are; yields = h.reads })
        (deep_of h.tree h.nesting h.deep))
    parsed_fault parsing.Memory h = inl refl

    pub read_as : (f : Fragment) → IsParsed def (goal_of kind) ts f → IsReadAs def kind text f
    read_as f p =
        let brackets : p.nesting + 0 ≤ 400 = p.brackets in
        record {
          nesting = p.nesting;
          reads = record { tokens = ts; are = are; yields = p.reads };
          depth = p.depth;
          brackets = omega (arith, brackets);
        }

-- the tokens that were found are those of the text
pub seen : (def : Definition) (text : List ℕ) (fixed : List (List ℕ)) (ts us : List Spanned) → fixed ≡ fixed_words def → us ≡ ts
    → HasTokens fixed (chars text) 0 ts → TextTokens def text us
seen def text fixed ts us same items h =
    subst (λ w. HasTokens w (chars text) 0 us) same (subst (λ vs. HasTokens fixed (chars text) 0 vs) (sym items) h)

-- ---- behind a head

module _ (def : Definition) (bytes : List ℕ) (name : List ℕ) (kind : Kind) (text : List ℕ) (b : BeginsAs def bytes name kind) (e : text ≡ text_in bytes) where
  pub first_fault : (f : KeptFault) → OrMemory (IsTextFault def kind text) f → OrMemory (IsFirstFault def bytes) f
  first_fault f (inl h) = inl h
  first_fault f (inr h) = inr (unread name kind f b (subst (λ t. IsTextFault def kind t f) e h))

  pub counts : (before after : ℕ) → CountsTokens def text before after → MayCount def bytes before after
  counts before after h = counted name kind b (subst (λ t. CountsTokens def t before after) e h)

  pub kept : (n : List ℕ) (f : Fragment) → n ≡ name → IsReadAs def kind text f
      → IsKept def bytes (record { name = n; kind = kind; tree = f })
  kept n f same h = record {
    begins = subst (λ m. BeginsAs def bytes m kind) (sym same) b;
    reads = subst (λ t. IsReadAs def kind t f) e h;
  }
