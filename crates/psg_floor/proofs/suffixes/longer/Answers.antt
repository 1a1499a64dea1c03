use Rattle.std.proofs.Common.{◌∙◌, ◌∷◌, ap, length}
use Rattle.psg_floor.specs.Suffixes.{all_positions}
use Rattle.psg_floor.proofs.SuffixLaws.{behind_element, key_count-header}
use Rattle.psg_floor.proofs.suffixes.longer.Goals as goal

pub returns-clause-suffix : goal.returns-clause-suffix
returns-clause-suffix c = λ behind is.
    let header = behind_element c.args.element.now (all_positions behind) c.in_ok-joined.joined.header
    (c.in_ok-joined.ensures.region _ _ _ _ _ _ c.header.ensures.header is.header) in
    record {
      header = header;
      row = ap length c.of.ensures ∙ c.in_ok-row.ensures.length ∙ ap length c.as_slice-count.ensures
          ∙ key_count-header (c.args.element.now ∷ behind) c.in_ok-joined.joined.header header;
    }
