-- A text is read as one tree, or has none.
use Rattle.std.proofs.Common.{◌≡◌, inl, inr, ℕ, ◌+◌, ◌<◌, ◌≤◌, List, length, chars, Ok, Err, refl, sym, subst, arith}
use Rattle.psg_grammar.specs.declared.types.Kind.{Kind}
use Rattle.psg_grammar.specs.declared.types.Definition.{Definition}
use Rattle.psg_grammar.specs.Fragments.{Fragment}
use Rattle.psg_grammar.specs.WellFormed.{fixed_words, WellFormed}
use Rattle.psg_cache.proofs.FormedTrees.{kind_once}
use Rattle.psg_class.specs.Class.{IsClass}
use Rattle.psg_class.specs.Only.{IsOnly}
use Rattle.psg_class.specs.Texts.{HasNoTokens, HasNoTree, ReadsAs, TextTokens, tokens_of}
use Rattle.psg_class.specs.Yields.{Yields}
use Rattle.psg_class.proofs.Law.{only_trees}
use Rattle.psg_lexis.specs.Faults.{HasFault, OrMemory}
use Rattle.psg_lexis.specs.declared.token.LexFault.{LexFault}
use Rattle.psg_lexis.specs.declared.token.LexFault.TheVariants as lex_faults
use Rattle.psg_lexis.specs.declared.token.Spanned.{Spanned}
use Rattle.psg_terms.specs.Names.{Name}
use Rattle.psg_lexis.proofs.Laws.{no_fault_with_tokens, only_tokens}
use Rattle.psg_parse.specs.Answers.{IsFault, IsParsed}
use Rattle.psg_parse.specs.declared.fault.Goal.{Goal}
use Rattle.psg_parse.specs.declared.fault.ParseFault.{ParseFault}
use Rattle.psg_parse.specs.declared.fault.ParseFault.TheVariants as parse_faults
use Rattle.psg_session.specs.Stops.{stop_of_parse}
use Rattle.psg_session.specs.Typed.{HasNoTreeFor, HasRead, IsTextAnswer, ReadsFor}

-- what is parsed for a text: a tree of the kind at level 0, with no brackets round it
abbrev pub goal_of : Kind → Goal
goal_of kind = record { kind = kind; least = 0; around = 0 }

module _ (def : Definition) where
  pub one_text : (text : List ℕ) (ts us : List Spanned) → TextTokens def text ts → TextTokens def text us → ts ≡ us
  one_text text ts us a b = only_tokens (fixed_words def) (chars text) 0 ts us a b

  -- a text that has tokens has no fault
  pub no_fault : (text : List ℕ) (ts : List Spanned) → TextTokens def text ts → HasNoTokens def text → ⊥
  no_fault text ts a (fault, h) = no_fault_with_tokens (fixed_words def) (chars text) 0 ts fault a h

  pub read_tokens : {kind : Kind} {level : ℕ} (text : List ℕ) (f : Fragment) (n : ℕ) → ReadsAs def kind level text f n
      → HasNoTokens def text → ⊥
  read_tokens text f n r h = no_fault text r.tokens r.are h

  -- a text that is read as a tree has one
  pub has_tree : (kind : Kind) (text : List ℕ) (f : Fragment) (n : ℕ) → ReadsAs def kind 0 text f n
      → HasNoTree def kind text → ⊥
  has_tree kind text f n r h =
      h.none f n (subst (λ ts. Yields def f kind 0 n (tokens_of ts)) (one_text text r.tokens h.tokens r.are h.are) r.yields)

  module _ (is_class : IsClass def) where
    pub one_tree : (kind : Kind) (text : List ℕ) (f g : Fragment) (n m : ℕ) → ReadsAs def kind 0 text f n
        → ReadsAs def kind 0 text g m → IsOnly f g n m
    one_tree kind text f g n m r q =
        only_trees def is_class kind 0 (tokens_of q.tokens) f g n m
        (subst (λ ts. Yields def f kind 0 n (tokens_of ts)) (one_text text r.tokens q.tokens r.are q.are) r.yields) q.yields

    -- in place of a node a text is read as one tree
    pub read_once : (node : Fragment) (text : List ℕ) (f g : Fragment) (n m : ℕ) → ReadsFor def node text f n
        → ReadsFor def node text g m → IsOnly f g n m
    read_once node text f g n m r q =
        one_tree q.kind text f g n m
        (subst (λ k. ReadsAs def k 0 text f n) (kind_once def node r.kind q.kind r.of_kind q.of_kind) r.reads) q.reads

  -- and where it is read so, it has a tree for the node
  pub has_tree_for : (node : Fragment) (text : List ℕ) (f : Fragment) (n : ℕ) → ReadsFor def node text f n
      → HasNoTreeFor def node text → ⊥
  has_tree_for node text f n r h =
      has_tree h.kind text f n
      (subst (λ k. ReadsAs def k 0 text f n) (kind_once def node r.kind h.kind r.of_kind h.of_kind) r.reads) h.none

  -- ---- what the lexer and the parser say of the text

  -- a fault that is not want of memory
  pub no_tokens : (words : List Name) (text : List ℕ) (fault : LexFault) → words ≡ fixed_words def
      → OrMemory (HasFault words (chars text) 0) fault → (fault ≡ lex_faults.Memory → ⊥) → HasNoTokens def text
  no_tokens words text fault same (inl memory) never = absurd (never memory)
  no_tokens words text fault same (inr h) never = (fault, subst (λ ws. HasFault ws (chars text) 0 fault) same h)

  module _ (kind : Kind) (text : List ℕ) (ts us : List Spanned) (are : TextTokens def text ts) (same : us ≡ ts) where
    are_read : TextTokens def text us
    are_read = subst (TextTokens def text) (sym same) are

    pub parsed_tree : (new : Fragment) → IsParsed def (goal_of kind) us new → WellFormed def new kind
        → IsTextAnswer def kind text (Ok new)
    parsed_tree new p formed = record {
      nesting = p.nesting;
      reads = record { tokens = us; are = are_read; yields = p.reads };
      formed = formed;
      within = let h : p.nesting + 0 ≤ 400 = p.brackets in omega (arith, h);
    }

    pub not_parsed : (fault : ParseFault) → IsFault def (goal_of kind) us fault
        → IsTextAnswer def kind text (Err (stop_of_parse fault))
    not_parsed parse_faults.NoTree none =
        inr (inl (refl, record { tokens = us; are = are_read; none = none }))
    not_parsed parse_faults.Deep h = inr (inr (
      refl,
      record {
        new = h.tree;
        nesting = h.nesting;
        reads = record { tokens = us; are = are_read; yields = h.reads };
        deep = elim h.deep [
          | inl deep ↦ inl deep
          | inr nests ↦ (let n : 400 < h.nesting + 0 = nests in inr (omega (arith, n)))
        ];
      },
    ))
    not_parsed parse_faults.Memory h = tt

    pub ticks_read : (from to : ℕ) → to ≤ from + length us → HasRead def text from to
    ticks_read from to h = inr (us, are_read, h)
