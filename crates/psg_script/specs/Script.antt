-- The script that builds a program of that many variables, each of which is declared and assigned.
use Rattle.std.specs.Prelude.{ℕ, zero, suc, List, [], ◌∷◌, ◌++◌, codes, decimal}
use Rattle.std.specs.List.{flat_map}
use Rattle.psg_script.specs.Forms.{Text}

-- the numbers below this one, the greatest first
abbrev pub numbers_down : ℕ → List ℕ
numbers_down zero = []
numbers_down (suc i) = i ∷ numbers_down i

-- the lines that declare the variable of this number
abbrev pub declare_lines : ℕ → List Text
declare_lines i = (codes "insert /0 0 vardecl v" ++ decimal i) ∷ codes "refine /0/0/0 tint" ∷ []

-- the lines that assign to the variable of this number the sum of itself and its number
abbrev pub assign_lines : ℕ → List Text
assign_lines i =
    (codes "insert /1 0 assign v" ++ decimal i)
    ∷ codes "refine /1/0/0 plus"
    ∷ (codes "refine /1/0/0/0 ref v" ++ decimal i)
    ∷ (codes "refine /1/0/0/1 num " ++ decimal i)
    ∷ []

-- the lines: a block, its declarations, and its assignments
abbrev pub script_lines : ℕ → List Text
script_lines n =
    (codes "new Stat" ∷ codes "refine / block" ∷ [])
    ++ (flat_map declare_lines (numbers_down n)
    ++ (codes "close /0"
    ∷ (flat_map assign_lines (numbers_down n)
    ++ (codes "insert /1 0 while" ∷ codes "menu /1/0/0" ∷ []))))

-- the lines, each with a line feed after it
abbrev pub with_feeds : List Text → Text
with_feeds [] = []
with_feeds (line ∷ lines) = line ++ 10 ∷ with_feeds lines
