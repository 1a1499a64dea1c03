-- What is tested of a token of comments.
use Rattle.std.proofs.Common.{◌≡◌, Bool, true, false, List, ℕ, sym, ap, ◌∙◌, subst, refl}
use Rattle.std.specs.Prelude.{codes, chars, not, IsTrue, encode_utf8_all}
use Rattle.std.specs.List.{list_any}
use Rattle.std.specs.Str.{IsUtf8}
use lib.Utf8.{encode}
use Rattle.std.proofs.lemmas.Bool.{false≢true, true≢false}
use Rattle.std.proofs.lemmas.Str.{chars_from_encodes}
use Rattle.psg_terms.specs.Names.{Name}
use Rattle.psg_lexis.specs.Classes.{is_symbol, begins_by, All}
use Rattle.psg_lexis.specs.Tokens.{dots}
use Rattle.psg_comments.specs.Fitting.{begins_with, IsFit}

dots_utf8 : IsUtf8 (codes "...")
unfolding encode
dots_utf8 = (dots, (refl, refl))

dots_encoded : encode_utf8_all dots ≡ codes "..."
unfolding encode
dots_encoded = refl

pub dots_chars : chars (codes "...") ≡ dots
dots_chars = sym (chars_from_encodes dots (codes "...") dots_utf8 dots_encoded)

pub fit_by : (words : List Name) (token : List ℕ) → begins_by is_symbol (chars token) ≡ true → All is_symbol (chars token)
    → begins_with (chars (codes "...")) (chars token) ≡ false → (b : Bool)
    → b ≡ list_any (λ word. begins_with (chars word) (chars token)) words
    → (IsTrue (not b) → IsFit words token) × (IsFit words token → IsTrue (not b))
fit_by words token begins all dotted true e = (
  λ h. absurd (false≢true h),
  λ fit. absurd (true≢false (e ∙ fit.no_word)),
)
fit_by words token begins all dotted false e = (
  λ h. record {
    begins = begins;
    symbols = all;
    no_dots = subst (λ cs. begins_with cs (chars token) ≡ false) dots_chars dotted;
    no_word = sym e;
  },
  λ fit. refl,
)

pub unfit_by : (words : List Name) (token : List ℕ) (b : Bool) → b ≡ begins_with (chars (codes "...")) (chars token) → b ≡ true
    → (IsTrue (not b) → IsFit words token) × (IsFit words token → IsTrue (not b))
unfit_by words token true e t = (
  λ h. absurd (false≢true h),
  λ fit. absurd (true≢false (e ∙ ap (λ cs. begins_with cs (chars token)) dots_chars ∙ fit.no_dots)),
)
unfit_by words token false e t = absurd (false≢true t)
