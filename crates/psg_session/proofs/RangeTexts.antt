-- A text in which whole characters are replaced by a text is one.
use Rattle.std.proofs.Common.{◌≡◌, inl, inr, ℕ, List, ◌++◌, length, take, drop, subst, arith}
use Rattle.std.specs.Prelude.{slice_index}
use Rattle.std.specs.List.{AllByRecursion}
use Rattle.std.specs.Str.{IsCharBoundary, IsUtf8}
use Rattle.std.proofs.lemmas.Bool.{cases_lt}
use Rattle.std.proofs.lemmas.Str.{IsUtf8-append, IsUtf8-drop, IsUtf8-take}
use Rattle.psg_grammar.specs.declared.types.Kind.{Kind}
use Rattle.psg_grammar.specs.declared.types.Definition.{Definition}
use Rattle.psg_grammar.specs.Fragments.{Fragment}
use Rattle.psg_grammar.specs.Printable.{IsPrintable}
use Rattle.psg_grammar.specs.Sound.{IsSound}
use Rattle.psg_grammar.specs.WellFormed.{fixed_words, WellFormed}
use Rattle.psg_class.specs.Class.{IsClass}
use Rattle.psg_lexis.specs.Tokens.{IsFixedWord}
use Rattle.psg_unparse.specs.Layout.{text_of}
use Rattle.psg_textedit.specs.Regions.{Typing, IsInside, IsOutside, new_text}
use Rattle.psg_textedit.proofs.TypedNode.{text_utf8}
use Rattle.psg_textedit.specs.Typing.{IsTextFault}
use Rattle.psg_textedit.specs.declared.change.TextFault.{TextFault}
use Rattle.psg_session.specs.PlainState.{Opened}
use Rattle.psg_session.specs.RangeAnswers.{HasNoChange}
use Rattle.psg_session.specs.Ranged.{text_with}

-- why there is no change, said of the same tree
pub no_change : (def : Definition) (e : Typing) (old : Opened) (f : Fragment) (fault : TextFault) → f ≡ old.tree
    → IsTextFault def f e old.kind fault
    → ((IsOutside e (text_of def old.tree) → ⊥) → IsUtf8 (text_with def e old)) → HasNoChange def e old fault
no_change def e old f fault same h utf8 = record {
  reason = subst (λ x. IsTextFault def x e old.kind fault) same h;
  utf8 = utf8;
}

-- a place of which it is impossible that it cuts a character
bound : (text : List ℕ) (i : ℕ) → ((IsCharBoundary text i → ⊥) → ⊥) → IsCharBoundary text i
bound text i never = elim (cases_lt (length text) i) [
  | inl over ↦ absurd (never (λ h. let le = h.0 in omega (arith, over, le)))
  | inr le ↦ (
    le,
    λ lt high. elim (cases_lt (slice_index text i) 192) [
      | inl low ↦ absurd (never (λ h. let more = h.1 lt high in omega (arith, low, more)))
      | inr more ↦ more
    ],
  )
]

pub inside_by : (e : Typing) (text : List ℕ) → (IsOutside e text → ⊥) → IsInside e text
inside_by e text never = record {
  ordered = elim (cases_lt e.end e.start) [
    | inl lt ↦ absurd (never (inl lt))
    | inr le ↦ le
  ];
  within = elim (cases_lt (length text) e.end) [
    | inl lt ↦ absurd (never (inr (inl lt)))
    | inr le ↦ le
  ];
  start_whole = bound text e.start (λ h. never (inr (inr (inl h))));
  end_whole = bound text e.end (λ h. never (inr (inr (inr h))));
}

module _ (def : Definition) (sound : IsSound def) (words : AllByRecursion IsFixedWord (fixed_words def)) (class : IsClass def) where
  -- the printed text of a tree with bytes replaced
  pub new_utf8 : (f : Fragment) (kind : Kind) → IsPrintable f → WellFormed def f kind → (e : Typing) → IsUtf8 e.new
      → (IsOutside e (text_of def f) → ⊥) → IsUtf8 (new_text def f e)
  new_utf8 f kind printable formed e new never =
      let text : List ℕ = text_of def f in
      let all : IsUtf8 (text_of def f) = text_utf8 def sound words class f kind printable formed in
      let inside : IsInside e (text_of def f) = inside_by e (text_of def f) never in
      IsUtf8-append (take e.start text) (e.new ++ drop e.end text)
      (IsUtf8-take text e.start all inside.start_whole)
      (IsUtf8-append e.new (drop e.end text) new (IsUtf8-drop text e.end all inside.end_whole))
