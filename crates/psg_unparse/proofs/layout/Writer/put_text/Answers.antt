use Rattle.std.proofs.Common.{refl}
use Rattle.psg_unparse.proofs.Adding.{token_put}
use Rattle.std.proofs.Common.{Some, ◌∷◌, ◌++◌, [], string_bytes}
use Rattle.std.specs.List.{flat_map}
use Rattle.std.proofs.lemmas.Str.{IsUtf8-string_bytes}
use Rattle.psg_lexis.specs.Tokens.{escaped}
use Rattle.psg_tree.specs.AbstractText.{quoted}
use Rattle.psg_unparse.proofs.Tokens.{quote_first, quote_last}
use Rattle.psg_unparse.proofs.layout.Writer.put_text.Goals as goal

pub returns : goal.returns
returns c =
    token_put (quoted c.args.contents.now) (Some 34) 34 c.args.self.now c.begin.new.self (record c.begin.new.self { out = c.write_quoted.new.out }) c.end.new.self
    c.in_ok-begin.ensures (quote_first (flat_map escaped c.args.contents.now ++ 34 ∷ [])) c.in_ok-write_quoted.ensures refl refl refl refl
    (quote_last (string_bytes c.write_quoted.new.out) (string_bytes c.begin.new.self.out) (flat_map escaped c.args.contents.now) (IsUtf8-string_bytes c.write_quoted.new.out) c.in_ok-write_quoted.ensures)
    c.end.ensures
