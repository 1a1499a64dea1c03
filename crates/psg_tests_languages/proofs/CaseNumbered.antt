-- The lines are together the definition: names are positions, variables are numbered in their line.
use Rattle.std.proofs.Common.{[], ◌∷◌, codes, refl, inl, inr}
use Rattle.psg_terms.specs.Terms.{symbol, variable}
use Rattle.psg_grammar.specs.declared.types.Kind.TheVariants as kinds
use Rattle.psg_grammar.specs.Sound.{HasKindSort}
use Rattle.psg_deflines.specs.WrittenTerms as written_terms
use Rattle.psg_deflines.specs.Entries.{written}
use Rattle.psg_defnumber.specs.Numbers.{IsTerm, IsTree, IsNumbered}
use Rattle.psg_tests_languages.proofs.CaseFile.{entries, box_of_one, types, exp, op_one, op_box, all, specimen, hole_int, boxes}

exp_sort : HasKindSort boxes (kinds.Phylum 0) 0
exp_sort = (exp, refl, refl)

int_term : IsTerm types [] [] 0 (written_terms.named (codes "int")) (symbol 0)
int_term = (0, _, refl, refl, refl, refl, refl)

-- the first name of a line is variable 1, the second one variable 2
rest_term : IsTerm types (codes "rest" ∷ codes "x" ∷ []) [] 0 (written_terms.variable (codes "rest")) (variable 0 1)
rest_term = (refl, inr (0, refl, refl, refl))

x_term : IsTerm types (codes "rest" ∷ codes "x" ∷ []) [] 0 (written_terms.variable (codes "x")) (variable 0 2)
x_term = (refl, inr (1, refl, refl, refl))

a_term : IsTerm types (codes "a" ∷ []) [] 0 (written_terms.variable (codes "a")) (variable 0 1)
a_term = (refl, inr (0, refl, refl, refl))

box_tree : IsTree boxes [] (kinds.Phylum 0) specimen box_of_one
box_tree = (codes "box", op_box, (refl, refl), refl, (_, (_, (codes "one", op_one, (refl, refl), refl, refl), refl), refl))

-- The lines of the file are the definition.
pub numbered : IsNumbered 1 (written entries) boxes
numbered = record {
  sorts_once = refl;
  constructors_once = refl;
  kinds_once = refl;
  operators_once = refl;
  spaces_once = refl;
  same_version = refl;
  signature = record { sorts = refl; symbols = (record { name = refl; arguments = tt; sort = refl }, (record { name = refl; arguments = tt; sort = refl }, tt)) };
  spaces = refl;
  phyla = (exp, [], refl, record { named = refl; of_sort = refl; same_brackets = refl }, refl);
  lists = (
    all,
    [],
    refl,
    record {
      named = refl;
      of_sort = refl;
      of_elements = (exp, refl, refl);
      same_separator = refl;
      same_lines = refl;
      same_end = refl;
      nils = inl (refl, symbol 0, [], refl, record { names = []; of_term = int_term; naming = record { once = refl; first = tt } }, refl);
      element_sort = 0;
      elements_sort = exp_sort;
      cells = inl (
        refl,
        _,
        [],
        refl,
        record {
          names = codes "rest" ∷ codes "x" ∷ [];
          of_head = rest_term;
          of_columns = (variable 0 2, variable 0 1 ∷ [], x_term, (variable 0 1, [], rest_term, refl, refl), refl);
          naming = record { once = refl; first = (refl, (refl, tt)) };
        },
        refl,
      );
    },
    refl,
  );
  operators = (
    op_one,
    op_box ∷ [],
    refl,
    record {
      named = refl;
      of_phylum = (exp, refl, refl);
      same_level = refl;
      same_scope = refl;
      each_item = (_, [], refl, refl, refl);
      sort = 0;
      phylum_sort = exp_sort;
      columns = [];
      are_columns = refl;
      each_row = (_, [], refl, record { names = []; of_head = int_term; of_columns = refl; naming = record { once = refl; first = tt } }, refl);
    },
    (
      op_box,
      [],
      refl,
      record {
        named = refl;
        of_phylum = (exp, refl, refl);
        same_level = refl;
        same_scope = refl;
        each_item = (_, _, refl, refl, (_, _, refl, (kinds.Phylum 0, (exp, refl, refl), refl), (_, [], refl, refl, refl)));
        sort = 0;
        phylum_sort = exp_sort;
        columns = 0 ∷ [];
        are_columns = (0, [], refl, exp_sort, refl);
        each_row = (
          _,
          [],
          refl,
          record { names = codes "a" ∷ []; of_head = a_term; of_columns = (variable 0 1, [], a_term, refl, refl); naming = record { once = refl; first = (refl, tt) } },
          refl,
        );
      },
      refl,
    ),
  );
  hole_rows = (
    hole_int,
    [],
    refl,
    record {
      of_kind = (exp, refl, refl);
      sort = 0;
      kind_sort = exp_sort;
      has_cases = (_, refl, refl, record { names = []; of_term = int_term; of_specimen = box_tree; naming = record { once = refl; first = tt } });
    },
    refl,
  );
  declare_rows = refl;
}
