-- A fragment that bytes keep is a tree of its kind.
use Rattle.std.proofs.Common.{◌≡◌, inl, inr, ℕ, ◌+◌, List, length, get_or, IsUtf8, true, true≢false, sym, ◌∙◌, subst, arith}
use Rattle.std.specs.List.{position_or_len}
use Rattle.std.proofs.lemmas.Bool.{cases_lt}
use Rattle.std.proofs.lemmas.Bool.Decides.{eqb_tells}
use Rattle.std.proofs.lemmas.List.{drop_all}
use Rattle.std.proofs.lemmas.List.Sums.{passes_at_first}
use Rattle.std.proofs.lemmas.Str.{IsCharBoundary-after_ascii, IsUtf8-drop, IsUtf8-nil}
use Rattle.psg_grammar.specs.declared.types.Definition.{Definition}
use Rattle.psg_grammar.specs.WellFormed.{fixed_words, WellFormed}
use Rattle.psg_class.specs.Texts.{tokens_of}
use Rattle.psg_class.proofs.FormedLaws.{yields_are_trees}
use Rattle.psg_library.specs.declared.fragment.SavedFragment.{SavedFragment}
use Rattle.psg_library.specs.Heads.{is_feed, text_in}
use Rattle.psg_library.specs.Keeping.{IsKept}
use Rattle.psg_textedit.proofs.TokenValues.{text_values}

feed_is : (b : ℕ) → is_feed b ≡ true → b ≡ 10
feed_is b e = elim (eqb_tells b 10) [ inl y ↦ y.1 | inr n ↦ absurd (true≢false (sym e ∙ n.0)) ]

-- what is behind the first line of a UTF-8 text is one
pub rest_utf8 : (bs : List ℕ) → IsUtf8 bs → IsUtf8 (text_in bs)
rest_utf8 bs utf8 =
    let k : ℕ = position_or_len is_feed bs in
    elim (cases_lt k (length bs)) [
      | inl lt ↦
          let ten : get_or bs k 0 ≡ 10 = feed_is (get_or bs k 0) (passes_at_first is_feed bs 0 lt) in
          IsUtf8-drop bs (k + 1) utf8 (IsCharBoundary-after_ascii bs k utf8 lt (omega (arith, ten)))
      | inr le ↦ subst IsUtf8 (sym (drop_all (k + 1) bs (omega (arith, le)))) IsUtf8-nil
    ]

pub fetched_formed : (def : Definition) (bytes : List ℕ) (x : SavedFragment) → IsKept def bytes x
    → WellFormed def x.tree x.kind
fetched_formed def bytes x kept =
    let reads = kept.reads.reads in
    yields_are_trees def x.kind 0 kept.reads.nesting x.tree (tokens_of reads.tokens)
    (text_values (fixed_words def) (text_in bytes) 0 reads.tokens (rest_utf8 bytes kept.begins.head.utf8) reads.are)
    reads.yields
