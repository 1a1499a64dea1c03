-- The language of the tests is sound.
use Rattle.std.proofs.Common.{◌≡◌, ℕ, zero, suc, ◌<◌, [], ◌∷◌, codes, Some, refl, subst, lit<, inr, arith}
use Rattle.psg_terms.specs.Terms.{Term, symbol}
use Rattle.psg_terms.specs.Signature.{HasSort, only_constructor}
use Rattle.psg_terms.specs.Instances.{IsGround}
use Rattle.psg_terms.specs.Sound.{IsSound as IsSoundSignature}
use Rattle.psg_grammar.specs.declared.types.Kind.TheVariants as kinds
use Rattle.psg_grammar.specs.Sound.{IsSound, HasKindSort, HasSpaceSort}
use Rattle.psg_grammar.specs.Little.{little, unit_signature, space_named, phylum_named, items_list}

ok_sorted : HasSort unit_signature (symbol 0) 0
ok_sorted = (record { name = codes "ok"; arguments = []; sort = 0 }, refl, refl, refl)

pub unit_sound : IsSoundSignature unit_signature
unit_sound = record { sort_names = refl; constructor_names = refl; closed = (tt, lit< tt, tt); inhabited = inhabited; constant = constant } where
  inhabited : (s : ℕ) → s < 1 → (t : Term) × IsGround t × HasSort unit_signature t s
  inhabited zero lt = (symbol 0, tt, ok_sorted)
  inhabited (suc s) lt = absurd (omega arith)

  constant : (s c : ℕ) → s < 1 → only_constructor unit_signature s ≡ Some c → HasSort unit_signature (symbol c) s
  constant zero c lt e = let f : 0 ≡ c = let g : Some 0 ≡ Some c = e in cc in subst (λ k. HasSort unit_signature (symbol k) 0) f ok_sorted
  constant (suc s) c lt e = absurd (omega arith)

exp : HasKindSort little (kinds.Phylum 0) 0
exp = (phylum_named (codes "Exp"), refl, refl)

item : HasKindSort little (kinds.Phylum 1) 0
item = (phylum_named (codes "Item"), refl, refl)

group : HasKindSort little (kinds.Phylum 2) 0
group = (phylum_named (codes "Group"), refl, refl)

list : HasKindSort little (kinds.List 0) 0
list = (items_list, refl, refl)

val : HasSpaceSort little 0 0
val = (space_named (codes "val"), refl, refl)

lab : HasSpaceSort little 1 0
lab = (space_named (codes "lab"), refl, refl)

pub little_sound : IsSound little
little_sound = record {
  signature = unit_sound;
  sort_names = (refl, tt);
  constructor_names = (refl, tt);
  spaces = inr (refl, (refl, (refl, tt)), refl);
  space_sorts = (lit< tt, (lit< tt, tt));
  kind_names = refl;
  operator_names = refl;
  phyla = (record { name = refl; sort = lit< tt }, (record { name = refl; sort = lit< tt }, (record { name = refl; sort = lit< tt }, tt)));
  lists = (record { name = refl; sort = lit< tt; element = 0; element_sort = item; few_nils = lit< tt; few_cells = lit< tt; nils = tt; cells = tt }, tt);
  operators = (
    record { name = refl; level = tt; sort = 0; phylum_sort = exp; few_items = lit< tt; few_rows = lit< tt; each_item = ((0, list), tt); columns = 0 ∷ []; are_columns = (0, [], refl, list, refl); each_row = tt },
    (
      record { name = refl; level = tt; sort = 0; phylum_sort = group; few_items = lit< tt; few_rows = lit< tt; each_item = ((0, list), tt); columns = 0 ∷ []; are_columns = (0, [], refl, list, refl); each_row = tt },
      (
        record { name = refl; level = tt; sort = 0; phylum_sort = item; few_items = lit< tt; few_rows = lit< tt; each_item = ((0, val), ((0, exp), tt)); columns = 0 ∷ 0 ∷ []; are_columns = (0, 0 ∷ [], refl, val, (0, [], refl, exp, refl)); each_row = tt },
        (record { name = refl; level = tt; sort = 0; phylum_sort = item; few_items = lit< tt; few_rows = lit< tt; each_item = ((0, lab), tt); columns = 0 ∷ []; are_columns = (0, [], refl, lab, refl); each_row = tt }, tt),
      ),
    ),
  );
  hole_rows = tt;
  declare_rows = tt;
  few_sorts = lit< tt;
  few_constructors = lit< tt;
  few_arguments = (lit< tt, tt);
  few_spaces = lit< tt;
  few_phyla = lit< tt;
  few_lists = lit< tt;
  few_operators = lit< tt;
  few_hole_rows = lit< tt;
  few_declare_rows = lit< tt;
}
