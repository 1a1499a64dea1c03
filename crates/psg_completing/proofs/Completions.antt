-- What may be put in place of a word, by the program that was read with a filling.
use Rattle.std.proofs.Common.{◌≡◌, ◌+◌, ℕ, List, Some, None, refl, sym, ap, subst, ◌∙◌}
use Rattle.psg_cache.specs.Annotated.{tree_in}
use Rattle.psg_terms.specs.Names.{Name}
use Rattle.psg_grammar.specs.declared.types.Definition.{Definition}
use Rattle.psg_grammar.specs.declared.types.Kind.{Kind}
use Rattle.psg_grammar.specs.Fragments.{Fragment}
use Rattle.psg_grammar.specs.Paths.{Path}
use Rattle.psg_program.specs.Decoding.{unmarked}
use Rattle.psg_completing.specs.declared.around.Word.{Word}
use Rattle.psg_completing.specs.declared.completing.Completion.{Completion}
use Rattle.psg_completing.specs.declared.fillings.Filling.{Filling}
use Rattle.psg_completing.specs.declared.fitting.Fitted.{Fitted}
use Rattle.psg_pointing.specs.declared.judging.Judged.{Judged}
use Rattle.psg_completing.specs.declared.offering.Offers.{Offers}
use Rattle.psg_completing.specs.Fillings.{Fits, HasPlaceholder, IsFirst, filled, fillings, mark_byte}
use Rattle.psg_completing.specs.Fitted.{IsFitted}
use Rattle.psg_pointing.specs.Judging.{IsJudged, IsKnownOf, IsTooMuch, judged, limited}
use Rattle.psg_completing.specs.Around.{IsWordAround}
use Rattle.psg_pointing.specs.Hovering.{mark_size, own_byte, spot_at}
use Rattle.psg_completing.specs.Offering.{AreOffersIn, IsCompleted, IsCompletedAt, IsCompletion, IsEmpty, IsOfferedAt, inside, none_fits, offers, prefix_of, put_before, put_behind, too_much}
use Rattle.psg_completing.specs.Naming.{IsSampleName}
use Rattle.psg_completing.specs.Samples.{IsLeast}
use Rattle.psg_completing.proofs.Fits.{placed_by}

pub judged_in : (def : Definition) (kind : Kind) (own : List ℕ) (j : Judged) → IsKnownOf def kind own (Some j)
    → IsJudged def kind own j
judged_in def kind own j (judged _ is) = is

pub limited_in : (def : Definition) (kind : Kind) (own : List ℕ) → IsKnownOf def kind own None → IsTooMuch def kind own
limited_in def kind own (limited is) = is

module _ (def : Definition) (kind : Kind) (own : List ℕ) (w : Word) (from to : ℕ) where
  pub completed_none : (c : Completion) → IsFirst (Fits def kind own w) (fillings def) None → IsEmpty from to c
      → IsCompletedAt def kind own w from to c
  completed_none c first e = record {
    from_is = e.from_is;
    to_is = e.to_is;
    completed = none_fits first e.entries e.complete;
  }

  pub completed_much : (f : Filling) (c : Completion) → IsFirst (Fits def kind own w) (fillings def) (Some f)
      → IsTooMuch def kind (filled def own w f) → IsEmpty from to c → IsCompletedAt def kind own w from to c
  completed_much f c first much e = record {
    from_is = e.from_is;
    to_is = e.to_is;
    completed = too_much f first much e.entries e.complete;
  }

  placed : (fit : Fitted) → IsFitted def kind own w fit.filling fit → (j : Judged) → tree_in j.note ≡ fit.program.tree
      → HasPlaceholder def kind (filled def own w fit.filling) (mark_byte def w fit.filling) fit.filling.phylum
      (tree_in j.note) fit.path
  placed fit is j same =
      subst (λ f. HasPlaceholder def kind (filled def own w fit.filling) (mark_byte def w fit.filling)
      fit.filling.phylum f fit.path) (sym same) (placed_by def kind own w fit.filling fit is)

  pub completed_offers : (fit : Fitted) → IsFitted def kind own w fit.filling fit
      → IsFirst (Fits def kind own w) (fillings def) (Some fit.filling) → (j : Judged)
      → IsJudged def kind (filled def own w fit.filling) j → tree_in j.note ≡ fit.program.tree → (o : Offers)
      → AreOffersIn def kind (tree_in j.note) fit.path (prefix_of own w) o → (before behind : List ℕ)
      → before ≡ put_before def own w fit.filling.side → behind ≡ put_behind def own w fit.filling.side
      → IsCompletedAt def kind own w from to (record {
        from = from;
        to = to;
        before = before;
        behind = behind;
        entries = o.entries;
        incomplete = o.more;
      })
  completed_offers fit is first j known same o there before behind b h =
      let (least, level, sample, named, (told, is_told, are)) = there in
      record {
        from_is = refl;
        to_is = refl;
        completed = offers fit.filling j fit.path least sample told first known (placed fit is j same) is_told level named are b h;
      }

-- what is offered at a path, by what is known of the same program
pub offers_for : (def d e : Definition) (kind k : Kind) (tree f g : Fragment) (path : Path) (least : ℕ) (sample : Name)
    (prefix : List ℕ) (o : Offers) → d ≡ def → e ≡ def → k ≡ kind → f ≡ tree → g ≡ tree → IsLeast d f path least
    → IsSampleName def sample → IsOfferedAt e k g (spot_at path) least sample prefix o
    → AreOffersIn def kind tree path prefix o
offers_for def d e kind k tree f g path least sample prefix o a b c x y level named is = (
  least,
  subst (λ t. IsLeast def t path least) x (subst (λ n. IsLeast n f path least) a level),
  sample,
  named,
  subst (λ t. IsOfferedAt def kind t (spot_at path) least sample prefix o) y
      (subst (λ n. IsOfferedAt def n g (spot_at path) least sample prefix o) c
      (subst (λ n. IsOfferedAt n k g (spot_at path) least sample prefix o) b is)),
)

-- the text that a word is completed in
pub completion_is : (def : Definition) (kind : Kind) (text : List ℕ) (byte : ℕ) (own : List ℕ) (place first : ℕ) (w : Word)
    (from to : ℕ) (c : Completion) → own ≡ unmarked text → first ≡ own_byte text byte → place ≡ inside own first
    → IsWordAround own place w → from ≡ mark_size text + w.from → to ≡ mark_size text + w.to
    → IsCompletedAt def kind own w from to c → IsCompletion def kind text byte c
completion_is def kind text byte own place first w from to c same f p around a b done = record {
  word = w;
  around = subst (λ n. IsWordAround (unmarked text) n w)
      (p ∙ ap (λ n. inside own n) f ∙ ap (λ l. inside l (own_byte text byte)) same)
      (subst (λ l. IsWordAround l place w) same around);
  from = done.from_is ∙ a;
  to = done.to_is ∙ b;
  completed = subst (λ l. IsCompleted def kind l w c) same done.completed;
}
