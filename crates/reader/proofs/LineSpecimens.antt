-- Document 01's example of the listing, and one line of each kind, as a table of theorems: from a clause's bytes to its line. Assumes nothing.
use Prim.Native.Nat.{ℕ}
use Prim.Native.String.{String}
use mathlib.Core.Path.{◌≡◌, refl}
use mathlib.Core.List.{List, [], ◌∷◌}
use Rattle.lexer.specs.Token.{is_comma}
use Rattle.reader.specs.Token.{Token}
use Rattle.reader.specs.Ops.{spell, operators}
use Rattle.reader.specs.Tree.{call, list, list_tail, curly, empty_list, empty_curly, Tree, node, nil, ◌◂◌}
use Rattle.reader.specs.Grammar.{Reads}
use Rattle.reader.specs.Listing.{shape_of, spelled, back, last_separator, separator, front, printed, joined, others, line}
use Rattle.reader.specs.Machine.{State}
use Rattle.reader.proofs.Specimens.{behind, Of, All, all, Test, found, test, tested, machine, accepting, accepted, computes, one, two, x, minus}

-- A clause's text, its tree, its line.
pub data Row : Type 0 where
  row : String → Tree → String → Row

abbrev pub Holds : Row → Type 0
Holds (row text u l) = Of text (λ ts. Reads operators ts u × (line (spell text) ts u ≡ spell l))

abbrev pub table : List Row
table =
    row "a :- b, \\+ c." (two 1 (x 0) (two 3 (x 2) (one 4 (x 5)))) ":-(a,','(b,\\+(c)))"
    ∷ row "- ." (x 0) "-"
    ∷ row "-1^2." (two 2 (minus 0) (x 3)) "^(-1,2)"
    ∷ row "f(:-,a)." (node 0 call (x 2 ◂ x 4 ◂ nil)) "f(:-,a)"
    ∷ row "[a,b|T]." (node 0 list_tail (x 1 ◂ x 3 ◂ x 5 ◂ nil)) "[a,b|T]"
    ∷ row "[a]." (node 0 list (x 1 ◂ nil)) "[a]"
    ∷ row "[ ]." (node 0 empty_list nil) "[]"
    ∷ row "{a,b}." (node 0 curly (two 2 (x 1) (x 3) ◂ nil)) "{','(a,b)}"
    ∷ row "{ }." (node 0 empty_curly nil) "{}"
    -- a quoted comma is a name, and stands as in the source
    ∷ row "','." (x 0) "','"
    ∷ []

-- the machine behind the tokens, and the line of the tree over them
data Seen : Type 0 where
  sees : State → List ℕ → Seen

abbrev seen : String → Tree → List Token → Seen
seen text u ts = sees (machine ts) (line (spell text) ts u)

got : Row → Test Seen
got (row text u l) = test (seen text u) text

due : Row → Test Seen
due (row text u l) = found (sees (accepting u) (spell l)) (behind text)

each : (r : Row) → got r ≡ due r → Holds r
unfolding got due
each (row text u l) e =
    let p = tested (seen text u) text (sees (accepting u) (spell l)) e in
    let h = p.2 in
    (p.0, p.1, (accepted p.0 u cc, cc))

pub lines : All Holds table
unfolding computes got due shape_of is_comma spelled back last_separator separator front printed joined others
lines = all got due each table refl
