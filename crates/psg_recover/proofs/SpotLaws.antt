-- Bytes of tokens, and of what is found at a path.
use Rattle.std.proofs.Common.{◌≡◌, Bor, ℕ, zero, suc, ◌-◌, ◌<◌, ◌≤◌, List, [], ◌∷◌, length, Option, Some, None, slice_get, refl, ap, ap₂, sym, ◌∙◌, arith}
use Rattle.std.specs.Option.{option_copied}
use Rattle.std.specs.Slice.{IsGetResult}
use Rattle.std.proofs.lemmas.Option.{slice_get_past, slice_get_read}
use Rattle.psg_grammar.specs.Fragments.{Fragment}
use Rattle.psg_lexis.specs.declared.token.Spanned.{Spanned}
use Rattle.psg_ranges.specs.Forests.{Forest}
use Rattle.psg_ranges.specs.Owns.{end_before, end_of}
use Rattle.psg_recover.specs.TextPlaces.{Read, last_of, one_less, token_byte}
use Rattle.psg_recover.specs.declared.spots.Spots.{Spots}
use Rattle.psg_recover.specs.Spotted.{AreNodesOf, IsSpotsOf, read_by}

none_there : {X : Type 0} (xs : List X) (n : ℕ) → length xs ≤ n → slice_get xs n ≡ None
none_there [] n h = refl
none_there (x ∷ xs) zero h = absurd (omega (arith, h))
none_there (x ∷ xs) (suc n) h = none_there xs n (omega (arith, h))

-- no token is before a number that is too large
pub none_before : (ts : List Spanned) (n : ℕ) → length ts < n → 0 ≡ end_before ts n
none_before ts zero h = absurd (omega (arith, h))
none_before ts (suc n) h = sym (ap end_of (none_there ts n (omega (arith, h))))

pub one_less_is : (n : ℕ) → n - 1 ≡ one_less n
one_less_is zero = refl
one_less_is (suc n) = omega arith

pub found_some : {X : Type 0} (o : Option (Bor X)) (x : Bor X) (r : Option X) → o ≡ Some x → option_copied o ≡ r → Some x.now ≡ r
found_some o x r e h = sym (ap option_copied e) ∙ h

pub found_none : {X : Type 0} (o : Option (Bor X)) (r : Option X) → o ≡ None → option_copied o ≡ r → None ≡ r
found_none o r e h = sym (ap option_copied e) ∙ h

pub got_at : {X : Type 0} (xs : List X) (i : ℕ) (r : Option (Bor X)) → IsGetResult xs i i r → option_copied r ≡ slice_get xs i
got_at xs i None h = sym (slice_get_past xs i h.3)
got_at xs i (Some x) h = sym (slice_get_read xs (length xs) i x.now refl h.3.0 h.1)

abbrev read_with : List Spanned → Fragment → Forest → Read
read_with tokens whole nodes = record { tokens = tokens; whole = whole; nodes = nodes }

-- what is kept of a text, as its contracts say it
pub read_is : (s : Spots) (r : Read) → IsSpotsOf s r → read_by s r.nodes ≡ r
read_is s r is = ap₂ (λ t w. read_with t w r.nodes) is.tokens is.whole
