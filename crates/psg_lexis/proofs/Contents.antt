-- The contents of a quoted text, as far as a walk has read them.
use Rattle.std.proofs.Common.{◌≡◌, ℕ, ◌+◌, ◌≤◌, List, [], ◌∷◌, ◌++◌, length, sym, ap, ◌∙◌, refl, append_assoc, append-nil, arith, length-append}
use Rattle.std.specs.Prelude.{encode_utf8, encode_utf8_all}
use Rattle.std.specs.Str.{chars}
use Rattle.std.proofs.lemmas.Str.{encodes-append}
use Rattle.psg_lexis.specs.Classes.{Chars, All}
use Rattle.psg_lexis.specs.Tokens.{bytes_of, is_content, escaped, quoted}
use Rattle.psg_lexis.specs.Pieces.{IsContent}
use Rattle.psg_lexis.proofs.Runs.{All-push}

-- the text is written contents, and then the rest; `kept` are their bytes, unless they are too large
pub record HasContents (text rest : List ℕ) (size : ℕ) (kept : List ℕ) : Type 0 where
  pub before : Chars
  pub contents : All is_content before
  pub bytes : text ≡ encode_utf8_all (quoted before) ++ rest
  pub characters : chars text ≡ quoted before ++ chars rest
  pub counted : size ≡ bytes_of before
  pub small : size ≤ 4096 → kept ≡ encode_utf8_all before
  pub room : size + length rest ≤ length text

pub no_contents : (text : List ℕ) → HasContents text text 0 []
no_contents text = record {
  before = [];
  contents = tt;
  bytes = refl;
  characters = refl;
  counted = refl;
  small =
      λ _. refl;
  room = omega arith;
}

quoted-push : (cs : Chars) (c : ℕ) → quoted (cs ++ c ∷ []) ≡ quoted cs ++ escaped c
quoted-push [] c = append-nil (escaped c)
quoted-push (d ∷ cs) c = ap (λ w. escaped d ++ w) (quoted-push cs c)
    ∙ sym (append_assoc (escaped d) (quoted cs) (escaped c))

bytes-push : (cs : Chars) (c : ℕ) → encode_utf8_all (cs ++ c ∷ []) ≡ encode_utf8_all cs ++ encode_utf8 c
bytes-push cs c = encodes-append cs (c ∷ []) ∙ ap (λ bs. encode_utf8_all cs ++ bs) (append-nil (encode_utf8 c))

-- one character more, which is kept where what came before was
pub more_contents : (text rest after kept kept' : List ℕ) (size c : ℕ) → HasContents text rest size kept
    → IsContent rest c after
    → (size ≤ 4096 → kept' ≡ kept ++ encode_utf8 c) → HasContents text after (size + length (encode_utf8 c)) kept'
more_contents text rest after kept kept' size c h p k = record {
  before = h.before ++ c ∷ [];
  contents = All-push is_content h.before c h.contents p.content;
  bytes = h.bytes ∙ ap (λ bs. encode_utf8_all (quoted h.before) ++ bs) p.bytes
      ∙ sym (append_assoc (encode_utf8_all (quoted h.before)) (encode_utf8_all (escaped c)) after)
      ∙ ap (λ bs. bs ++ after) (sym (encodes-append (quoted h.before) (escaped c))
      ∙ ap encode_utf8_all (sym (quoted-push h.before c)));
  characters = h.characters ∙ ap (λ cs. quoted h.before ++ cs) p.characters
      ∙ sym (append_assoc (quoted h.before) (escaped c) (chars after))
      ∙ ap (λ cs. cs ++ chars after) (sym (quoted-push h.before c));
  counted = ap (λ n. n + length (encode_utf8 c)) h.counted
      ∙ sym (length-append (encode_utf8_all h.before) (encode_utf8 c)) ∙ ap length (sym (bytes-push h.before c));
  small = λ le. k (omega arith) ∙ ap (λ bs. bs ++ encode_utf8 c) (h.small (omega arith))
      ∙ sym (bytes-push h.before c);
  room = omega (arith, h.room, p.size);
}
