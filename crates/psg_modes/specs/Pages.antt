-- The page of keys.
use Rattle.std.specs.Prelude.{ℕ, List, [], ◌∷◌, codes}

-- the lines of the page of keys
unfoldable pub key_lines : List (List ℕ)
key_lines =
    codes "arrows            the node above, the first one in it, the one before, the next" ∷
    codes "Tab, Shift-Tab    the next open place, the one before" ∷
    codes "Page Down, Up     a screen further down, further up; Home is the whole program" ∷
    codes "Enter             what may be put here: letters narrow it, arrows pick" ∷
    codes "i, a              an element before the chosen one, after it" ∷
    codes "e                 the node as a line of text: Enter takes it, Escape leaves it" ∷
    codes "o                 the same with an empty line; up shows earlier lines" ∷
    codes "x, Backspace      the node goes, and its place is open; an open element goes" ∷
    codes "c                 the list is finished; unfinished again" ∷
    codes "u, Ctrl-R         undo, redo" ∷
    codes "y, p              keeps the node; puts it here, or after the chosen element" ∷
    codes "n, N              the next wrong place and what is wrong, the one before" ∷
    codes "r                 what the node can mean" ∷
    codes "w                 writes the file" ∷
    codes "q                 ends" ∷
    codes "" ∷
    codes "?Word is a place that is still open, and ... the end of a list that may go on." ∷
    codes "The mark at the top right says whether the program can still be completed." ∷
    []
