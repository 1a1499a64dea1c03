use Rattle.std.proofs.Common.{map, subst}
use Rattle.std.specs.Prelude.{string_bytes}
use Rattle.psg_terms.specs.Relations.{IsIn}
use Rattle.psg_stop.specs.Wanted.{wanted_terminals}
use Rattle.psg_program.specs.Expected.{AreTold}
use Rattle.psg_program.proofs.expected.expected_words.Goals as goal

pub returns : goal.returns
returns c =
    let told = subst (λ ws. AreTold (λ t. IsIn t (wanted_terminals c.as_slice-2.result.now)) (wanted_terminals ws) (map string_bytes c.in_ok-words.words.items)) c.as_slice.ensures.value c.in_ok-words.ensures in
    record {
      terminals = map string_bytes c.in_ok-words.words.items;
      ends = c.in_ok-tell_end.ensures.words;
      are_told = subst (λ l. AreTold (λ t. IsIn t (wanted_terminals c.args.stop.now.wanted.items)) l (map string_bytes c.in_ok-words.words.items)) c.in_ok-all.ensures
          (subst (λ us. AreTold (λ t. IsIn t (wanted_terminals us)) (wanted_terminals c.in_ok-all.all.items) (map string_bytes c.in_ok-words.words.items)) c.as_slice-2.ensures.value told);
      is_end_told = c.in_ok-tell_end.ensures.holds;
      whole = c.in_ok-tell_end.ensures.whole;
    }
