-- A language of numerals and blocks for the worked case, and that it is sound. A `def` gives a name a numeral, a `use`
-- needs the numeral zero, and a block keeps what its items declare.
use Rattle.std.proofs.Common.{◌≡◌, inl, inr, ℕ, zero, suc, ◌<◌, true, false, List, [], ◌∷◌, codes, Some, None, refl, subst, lit<, lit≤, arith}
use Rattle.psg_terms.specs.Terms.{Term, variable, symbol, apply}
use Rattle.psg_terms.specs.Signature.{Signature, HasSort, only_constructor}
use Rattle.psg_terms.specs.Instances.{IsGround}
use Rattle.psg_terms.specs.Sound.{IsSound as IsSoundSignature}
use Rattle.psg_terms.specs.declared.sorts.SortId.{SortId}
use Rattle.psg_grammar.specs.declared.types.Kind.TheVariants as kinds
use Rattle.psg_grammar.specs.declared.types.Level.TheVariants as levels
use Rattle.psg_grammar.specs.declared.types.Item.{Item}
use Rattle.psg_grammar.specs.declared.types.Item.TheVariants as items
use Rattle.psg_grammar.specs.declared.types.Row.{Row}
use Rattle.psg_grammar.specs.declared.types.Operator.{Operator}
use Rattle.psg_grammar.specs.declared.types.ListKind.{ListKind}
use Rattle.psg_grammar.specs.declared.types.Space.{Space}
use Rattle.psg_grammar.specs.declared.types.Case.{Case}
use Rattle.psg_grammar.specs.declared.types.HoleRow.{HoleRow}
use Rattle.psg_grammar.specs.declared.types.DeclareRow.{DeclareRow}
use Rattle.psg_grammar.specs.declared.types.Definition.{Definition}
use Rattle.psg_grammar.specs.declared.types.SpecimenHole.{SpecimenHole}
use Rattle.psg_grammar.specs.declared.types.Specimen.{Specimen, Op', List', Hole, end_of-Specimen, end_of-SpecimenPart, more_of-SpecimenPart}
use Rattle.psg_grammar.specs.declared.types.SpecimenPart.{Sub, Name}
use Rattle.psg_grammar.specs.Sound.{IsSound, IsTermOf, IsOperator, IsSpecimen, HasKindSort, HasSpaceSort}

abbrev pub sort_id : ℕ → SortId
sort_id n = record { 0 = n }

-- ---- the sorts Unit = ok and Num = z s(Num)

abbrev pub sig : Signature
sig = record {
  sorts = codes "Unit" ∷ codes "Num" ∷ [];
  symbols =
      record { name = codes "ok"; arguments = []; sort = 0 } ∷ record { name = codes "z"; arguments = []; sort = 1 }
      ∷ record { name = codes "s"; arguments = 1 ∷ []; sort = 1 } ∷ [];
}

abbrev pub ok : Term
ok = symbol 0

abbrev pub none : Term
none = symbol 1

abbrev pub next : Term → Term
next t = apply (symbol 2) t

abbrev pub any : Term
any = variable 1 1

-- ---- operators

abbrev pub row_of : Term → List Term → Row
row_of head columns = record { head = head; columns = columns }

abbrev pub op_of : List ℕ → ℕ → List Item → Row → Operator
op_of name phylum parts row =
    record {
      name = name;
      phylum = phylum;
      level = levels.Plain;
      scope = false;
      items = items.Word name ∷ parts;
      rows = row ∷ [];
    }

abbrev pub op_zero : Operator
op_zero = op_of (codes "zero") 0 [] (row_of none [])

abbrev pub op_succ : Operator
op_succ = op_of (codes "succ") 0 (items.Slot (kinds.Phylum 0) ∷ []) (row_of (next any) (any ∷ []))

abbrev pub op_def : Operator
op_def = op_of (codes "def") 1 (items.Declares 0 ∷ items.Slot (kinds.Phylum 0) ∷ []) (row_of ok (any ∷ any ∷ []))

abbrev pub op_use : Operator
op_use = op_of (codes "use") 1 (items.Refers 0 ∷ []) (row_of ok (none ∷ []))

abbrev pub op_blk : Operator
op_blk = record (op_of (codes "blk") 1 (items.Slot (kinds.List 0) ∷ []) (row_of ok (ok ∷ []))) { scope = true }

abbrev pub list_items : ListKind
list_items =
    record {
      name = codes "Items";
      sort = sort_id 0;
      element = 1;
      separator = codes ";";
      lines = true;
      unfinished = true;
      nil_rows = ok ∷ [];
      cell_rows = row_of ok (ok ∷ ok ∷ []) ∷ [];
    }

-- ---- specimens

abbrev pub zero_tree : Specimen
zero_tree = Op' 0 [] end_of-SpecimenPart

abbrev pub place : SpecimenHole
place = record { kind = kinds.Phylum 0; term = any }

abbrev pub succ_tree : Specimen
succ_tree = Op' 1 (tt ∷ []) (more_of-SpecimenPart (Sub (Hole place)) end_of-SpecimenPart)

abbrev pub def_tree : Specimen → Specimen
def_tree s =
    Op' 2 (tt ∷ tt ∷ []) (more_of-SpecimenPart (Name (codes "it")) (more_of-SpecimenPart (Sub s) end_of-SpecimenPart))

abbrev pub use_tree : Specimen
use_tree = Op' 3 (tt ∷ []) (more_of-SpecimenPart (Name (codes "a")) end_of-SpecimenPart)

abbrev pub empty_tree : Specimen
empty_tree = List' 0 [] end_of-Specimen None

-- ---- rows of placeholders and declare rows

abbrev pub case_of : Term → Specimen → Case
case_of t s = record { term = t; specimen = s }

abbrev pub hole_num : HoleRow
hole_num =
    record { kind = kinds.Phylum 0; term = any; cases = case_of none zero_tree ∷ case_of (next any) succ_tree ∷ [] }

abbrev pub hole_item : HoleRow
hole_item = record { kind = kinds.Phylum 1; term = ok; cases = case_of ok use_tree ∷ [] }

abbrev pub hole_items : HoleRow
hole_items = record { kind = kinds.List 0; term = ok; cases = case_of ok empty_tree ∷ [] }

abbrev pub declare_of : Term → Specimen → DeclareRow
declare_of t s = record { space = 0; list = 0; term = t; value = ok; specimen = def_tree s }

abbrev pub the_space : Space
the_space = record { name = []; sort = sort_id 1 }

abbrev pub numerals : Definition
numerals = record {
  version = 1;
  signature = sig;
  spaces = the_space ∷ [];
  phyla =
      record { name = codes "Num"; sort = sort_id 1; bracketed = false } ∷ record
      { name = codes "Item"; sort = sort_id 0; bracketed = false } ∷ [];
  lists = list_items ∷ [];
  operators = op_zero ∷ op_succ ∷ op_def ∷ op_use ∷ op_blk ∷ [];
  hole_rows = hole_num ∷ hole_item ∷ hole_items ∷ [];
  declare_rows = declare_of none zero_tree ∷ declare_of (next any) succ_tree ∷ [];
}

-- ---- terms

pub ok_sorted : HasSort sig ok 0
ok_sorted = (record { name = codes "ok"; arguments = []; sort = 0 }, refl, refl, refl)

pub none_sorted : HasSort sig none 1
none_sorted = (record { name = codes "z"; arguments = []; sort = 1 }, refl, refl, refl)

pub next_sorted : (t : Term) → HasSort sig t 1 → HasSort sig (next t) 1
next_sorted t h = (1, (record { name = codes "s"; arguments = 1 ∷ []; sort = 1 }, refl, refl, refl), h)

any_sorted : HasSort sig any 1
any_sorted = (lit< tt, refl, refl)

ok_term : IsTermOf numerals ok 0
ok_term = (ok_sorted, tt)

none_term : IsTermOf numerals none 1
none_term = (none_sorted, tt)

any_term : IsTermOf numerals any 1
any_term = (any_sorted, refl)

next_term : IsTermOf numerals (next any) 1
next_term = (next_sorted any any_sorted, (tt, refl))

sound_sig : IsSoundSignature sig
sound_sig = record {
  sort_names = refl;
  constructor_names = refl;
  closed = (tt, lit< tt, (tt, lit< tt, ((lit< tt, tt), lit< tt, tt)));
  inhabited = inhabited;
  constant = constant_of;
} where
  inhabited : (s : ℕ) → s < 2 → (t : Term) × IsGround t × HasSort sig t s
  inhabited zero lt = (ok, tt, ok_sorted)
  inhabited (suc zero) lt = (none, tt, none_sorted)
  inhabited (suc (suc s)) lt = absurd (omega arith)

  constant_of : (s c : ℕ) → s < 2 → only_constructor sig s ≡ Some c → HasSort sig (symbol c) s
  constant_of zero c lt e = let f : 0 ≡ c = let g : Some 0 ≡ Some c = e in cc in
      subst (λ k. HasSort sig (symbol k) 0) f ok_sorted
  constant_of (suc zero) c lt e = let g : None ≡ Some c = e in cc
  constant_of (suc (suc s)) c lt e = absurd (omega arith)

-- ---- the parts

num_sort : HasKindSort numerals (kinds.Phylum 0) 1
num_sort = (record { name = codes "Num"; sort = sort_id 1; bracketed = false }, refl, refl)

item_sort : HasKindSort numerals (kinds.Phylum 1) 0
item_sort = (record { name = codes "Item"; sort = sort_id 0; bracketed = false }, refl, refl)

items_sort : HasKindSort numerals (kinds.List 0) 0
items_sort = (list_items, refl, refl)

space_sort : HasSpaceSort numerals 0 1
space_sort = (the_space, refl, refl)

zero_sound : IsOperator numerals op_zero
zero_sound = record {
  name = refl;
  level = tt;
  sort = 1;
  phylum_sort = num_sort;
  few_items = lit< tt;
  few_rows = lit< tt;
  each_item = (tt, tt);
  columns = [];
  are_columns = refl;
  each_row = (record { of_head = none_term; of_columns = tt; written = tt }, tt);
}

succ_sound : IsOperator numerals op_succ
succ_sound = record {
  name = refl;
  level = tt;
  sort = 1;
  phylum_sort = num_sort;
  few_items = lit< tt;
  few_rows = lit< tt;
  each_item = (tt, ((1, num_sort), tt));
  columns = 1 ∷ [];
  are_columns = (1, [], refl, num_sort, refl);
  each_row = (record { of_head = next_term; of_columns = (any_sorted, tt); written = (refl, tt) }, tt);
}

def_sound : IsOperator numerals op_def
def_sound = record {
  name = refl;
  level = tt;
  sort = 0;
  phylum_sort = item_sort;
  few_items = lit< tt;
  few_rows = lit< tt;
  each_item = (tt, ((1, space_sort), ((1, num_sort), tt)));
  columns = 1 ∷ 1 ∷ [];
  are_columns = (1, 1 ∷ [], refl, space_sort, (1, [], refl, num_sort, refl));
  each_row =
      (record { of_head = ok_term; of_columns = (any_sorted, (any_sorted, tt)); written = (refl, (refl, tt)) }, tt);
}

use_sound : IsOperator numerals op_use
use_sound = record {
  name = refl;
  level = tt;
  sort = 0;
  phylum_sort = item_sort;
  few_items = lit< tt;
  few_rows = lit< tt;
  each_item = (tt, ((1, space_sort), tt));
  columns = 1 ∷ [];
  are_columns = (1, [], refl, space_sort, refl);
  each_row = (record { of_head = ok_term; of_columns = (none_sorted, tt); written = (tt, tt) }, tt);
}

blk_sound : IsOperator numerals op_blk
blk_sound = record {
  name = refl;
  level = tt;
  sort = 0;
  phylum_sort = item_sort;
  few_items = lit< tt;
  few_rows = lit< tt;
  each_item = (tt, ((0, items_sort), tt));
  columns = 0 ∷ [];
  are_columns = (0, [], refl, items_sort, refl);
  each_row = (record { of_head = ok_term; of_columns = (ok_sorted, tt); written = (tt, tt) }, tt);
}

zero_specimen : IsSpecimen numerals (kinds.Phylum 0) zero_tree
zero_specimen =
    record { fits = (refl, op_zero, refl, refl, refl); rests = tt; few_elements = tt; names = tt; places = tt }

succ_specimen : IsSpecimen numerals (kinds.Phylum 0) succ_tree
succ_specimen = record {
  fits = (kinds.Phylum 0, kinds.Phylum 0 ∷ [], (refl, op_succ, refl, refl, refl), ((λ h. h), refl, refl));
  rests = (tt, tt);
  few_elements = (tt, tt);
  names = (tt, tt);
  places = ((1, num_sort, any_term), tt);
}

def_zero : IsSpecimen numerals (kinds.Phylum 1) (def_tree zero_tree)
def_zero = record {
  fits = (kinds.Phylum 0, [], inr (0, (refl, op_def, refl, refl, refl)), (refl, op_zero, refl, refl, refl));
  rests = (tt, (tt, tt));
  few_elements = (tt, tt);
  names = ((tt, refl), tt);
  places = tt;
}

def_succ : IsSpecimen numerals (kinds.Phylum 1) (def_tree succ_tree)
def_succ = record {
  fits = (
    kinds.Phylum 0,
    kinds.Phylum 0 ∷ [],
    inr (0, (refl, op_def, refl, refl, refl)),
    (kinds.Phylum 0, kinds.Phylum 0 ∷ [], (refl, op_succ, refl, refl, refl), ((λ h. h), refl, refl)),
  );
  rests = (tt, ((tt, tt), tt));
  few_elements = (tt, (tt, tt));
  names = ((tt, refl), (tt, tt));
  places = ((1, num_sort, any_term), tt);
}

use_specimen : IsSpecimen numerals (kinds.Phylum 1) use_tree
use_specimen =
    record {
      fits = inl (0, (refl, op_use, refl, refl, refl));
      rests = (tt, tt);
      few_elements = tt;
      names = (tt, refl);
      places = tt;
    }

empty_specimen : IsSpecimen numerals (kinds.List 0) empty_tree
empty_specimen =
    record {
      fits = (refl, refl, refl, (list_items, refl, λ e. refl));
      rests = (tt, tt);
      few_elements = tt;
      names = tt;
      places = tt;
    }

pub sound : IsSound numerals
sound = record {
  signature = sound_sig;
  sort_names = (refl, (refl, tt));
  constructor_names = (refl, (refl, (refl, tt)));
  spaces = inl (refl, lit≤ tt, (refl, tt));
  space_sorts = (lit< tt, tt);
  kind_names = refl;
  operator_names = refl;
  phyla = (record { name = refl; sort = lit< tt }, (record { name = refl; sort = lit< tt }, tt));
  lists = (
    record {
      name = refl;
      sort = lit< tt;
      element = 0;
      element_sort = item_sort;
      few_nils = lit< tt;
      few_cells = lit< tt;
      nils = (ok_term, tt);
      cells = (record { of_head = ok_term; of_columns = (ok_sorted, (ok_sorted, tt)); written = (tt, (tt, tt)) }, tt);
    },
    tt,
  );
  operators = (zero_sound, (succ_sound, (def_sound, (use_sound, (blk_sound, tt)))));
  hole_rows = (
    record {
      sort = 1;
      kind_sort = num_sort;
      term = any_term;
      few_cases = lit< tt;
      each_case = (
        record { term = none_term; specimen = zero_specimen },
        (record { term = next_term; specimen = succ_specimen }, tt),
      );
    },
    (
      record {
        sort = 0;
        kind_sort = item_sort;
        term = ok_term;
        few_cases = lit< tt;
        each_case = (record { term = ok_term; specimen = use_specimen }, tt);
      },
      (
        record {
          sort = 0;
          kind_sort = items_sort;
          term = ok_term;
          few_cases = lit< tt;
          each_case = (record { term = ok_term; specimen = empty_specimen }, tt);
        },
        tt,
      ),
    ),
  );
  declare_rows = (
    record {
      entity = 1;
      space_sort = space_sort;
      term = none_term;
      list = list_items;
      list_is = refl;
      element = 0;
      element_sort = item_sort;
      value = ok_term;
      specimen = def_zero;
    },
    (
      record {
        entity = 1;
        space_sort = space_sort;
        term = next_term;
        list = list_items;
        list_is = refl;
        element = 0;
        element_sort = item_sort;
        value = ok_term;
        specimen = def_succ;
      },
      tt,
    ),
  );
  few_sorts = lit< tt;
  few_constructors = lit< tt;
  few_arguments = (lit< tt, (lit< tt, (lit< tt, tt)));
  few_spaces = lit< tt;
  few_phyla = lit< tt;
  few_lists = lit< tt;
  few_operators = lit< tt;
  few_hole_rows = lit< tt;
  few_declare_rows = lit< tt;
}
