-- Document 01's clause specimens, and others beside them, as one table of theorems: from a clause's bytes, by its tokens, to its reading, or to the first
-- token that cannot stand. Assumes nothing.
use Prim.Native.Nat.{ℕ}
use Prim.Native.String.{String}
use mathlib.Core.Path.{◌≡◌, refl, ◌∙◌}
use mathlib.Core.List.{List, [], ◌∷◌, map}
use native.Mathlib.Omega.{arith}
use lib.ListN.{length}
use Rattle.lexer.specs.Chars.{class_of}
use Rattle.lexer.specs.Cursor.{start_cursor, walk, move_to}
use Rattle.lexer.specs.Digits.{digit_of, digits}
use Rattle.lexer.specs.Items.{after, items}
use Rattle.lexer.specs.Layout.{past, comment_opened, slashed, layout_text_of, layout_turn}
use Rattle.lexer.specs.Look.{front, needed}
use Rattle.lexer.specs.Name.{run_end, run_token, name_token}
use Rattle.lexer.specs.Number
use Rattle.lexer.specs.Quoted.{quote_to, item_to, with_char, item_turn}
use Rattle.lexer.specs.Token as L
use Rattle.lexer.specs.declared.cursor.Cursor.{Cursor}
use Rattle.reader.specs.Token.{Token, is_lowest, terminal_as, terminals, same_text}
use Rattle.reader.specs.Ops.{spell, pre_prio, pre_bound, prio, left_bound, right_bound, operators, find_pre, find_inf, prefix_of, infix_of, roled}
use Rattle.reader.specs.Tree.{negative, call, prefix, infx, list, list_tail, curly, empty_list, empty_curly, kind_number, Tree, node, leaf, nil, ◌◂◌, arity}
use Rattle.reader.specs.Grammar.{Reads}
use Rattle.reader.specs.Fault.{FirstFault}
use Rattle.reader.specs.Clause.{Gathered, whole, stopped, too_many, text_in, with, onward, gather, clause_tokens}
use Rattle.reader.specs.Machine
use Rattle.reader.specs.Machine.{State, dead, done, run, start, is_dead}
use Rattle.reader.specs.Gather.{latest_from}
use Rattle.reader.proofs.Basics.{push}
use Rattle.reader.proofs.Unique.{wide}
use Rattle.reader.proofs.Table.{fair, operators-admitted}
use Rattle.reader.proofs.Answer.{accepts, refuses}
use Rattle.reader.proofs.Faults.{first_fault}

-- the cursor behind a text of one line
abbrev pub behind : String → Cursor
behind x = record { offset = length (spell x); line = 0; column = length (spell x) }

-- The text is one clause, up to its end, and P holds of its tokens.
abbrev pub Of : String → (List Token → Type 0) → Type 0
Of x P = (ts : List Token) × (clause_tokens (spell x) start_cursor ≡ whole ts (behind x)) × P ts

-- A clause's text, and its tree, or where the first token stands that cannot.
pub data Row : Type 0 where
  reads : String → Tree → Row
  faulty : String → ℕ → Row

abbrev pub Holds : Row → Type 0
Holds (reads x u) = Of x (λ ts. Reads operators ts u)
Holds (faulty x n) = Of x (λ ts. (t : Token) × FirstFault operators ts t × (t.start ≡ n))

-- every row of a table holds
pub data All {R : Type 0} (P : R → Type 0) : List R → Type 0 where
  end : All P []
  and : {r : R} {rs : List R} → P r → All P rs → All P (r ∷ rs)

abbrev pub one : ℕ → Tree → Tree
one i u = node i prefix (u ◂ nil)

abbrev pub two : ℕ → Tree → Tree → Tree
two i u v = node i infx (u ◂ v ◂ nil)

abbrev pub x : ℕ → Tree
x i = leaf i

abbrev pub minus : ℕ → Tree
minus i = node i negative nil

abbrev pub table : List Row
table =
    reads "a-b-c." (two 3 (two 1 (x 0) (x 2)) (x 4))
    ∷ faulty "a=b=c." 3
    ∷ reads "-1^2." (two 2 (minus 0) (x 3))
    ∷ reads "- 1^2." (one 0 (two 2 (x 1) (x 3)))
    -- 02, request 4: the lowest integer reads, its magnitude alone is no term
    ∷ reads "rain(-9223372036854775808)." (node 0 call (minus 2 ◂ nil))
    ∷ reads "- -9223372036854775808." (one 0 (minus 1))
    ∷ faulty "9223372036854775808." 0
    ∷ faulty "- 9223372036854775808." 2
    ∷ faulty "-(9223372036854775808)." 2
    ∷ faulty "a -9223372036854775808." 3
    ∷ reads "2** -1." (two 1 (x 0) (minus 2))
    ∷ faulty "2** - 1." 6
    ∷ reads "\\+ - a." (one 0 (one 1 (x 2)))
    ∷ faulty "- - - ." 6
    ∷ reads "a =(b)." (two 1 (x 0) (x 3))
    ∷ reads "a :- b, \\+ c." (two 1 (x 0) (two 3 (x 2) (one 4 (x 5))))
    ∷ reads "- ." (x 0)
    ∷ faulty "x y." 2
    -- infix, though the number is glued
    ∷ reads "a -1." (two 1 (x 0) (x 2))
    ∷ reads "-(1)." (node 0 call (x 2 ◂ nil))
    ∷ reads "- (1)." (one 0 (x 2))
    ∷ reads "f(:-,a)." (node 0 call (x 2 ◂ x 4 ◂ nil))
    ∷ faulty "f(a:-b)." 3
    ∷ reads "[a,b|T]." (node 0 list_tail (x 1 ◂ x 3 ◂ x 5 ◂ nil))
    ∷ reads "[a]." (node 0 list (x 1 ◂ nil))
    ∷ reads "[]." (node 0 empty_list nil)
    ∷ reads "{a,b}." (node 0 curly (two 2 (x 1) (x 3) ◂ nil))
    ∷ reads "{}." (node 0 empty_curly nil)
    ∷ reads "a,b,c." (two 1 (x 0) (two 3 (x 2) (x 4)))
    ∷ faulty "a :- b :- c." 7
    ∷ faulty ":- :- a." 6
    -- an operator alone is no operand
    ∷ reads "(-)-(-)." (two 3 (x 1) (x 5))
    ∷ faulty "(-,a)." 2
    -- a quoted comma is no operator
    ∷ faulty "a ',' b." 2
    -- the end mark counts as a token
    ∷ faulty "." 0
    ∷ faulty "f(a." 3
    ∷ faulty "{a." 2
    -- a name can stand wherever an operand is due, since a call may follow
    ∷ faulty "= = a." 2
    ∷ faulty "a = \\+ b." 7
    ∷ faulty "f()." 2
    ∷ faulty "[a|b,c]." 4
    ∷ faulty "X(a)." 1
    ∷ []

-- ---- one computed test for a whole table

pub all : {R A : Type 0} {P : R → Type 0} (got due : R → A) → ((r : R) → got r ≡ due r → P r) → (rs : List R) → map got rs ≡ map due rs → All P rs
all got due each [] e = end
all got due each (r ∷ rs) e = and (each r cc) (all got due each rs cc)

-- what is found of the tokens of a text, and the cursor behind them
pub data Test (A : Type 0) : Type 0 where
  found : A → Cursor → Test A
  none_found : Test A

unfoldable pub test_of : {A : Type 0} → (List Token → A) → Gathered → Test A
test_of f (whole ts e) = found (f ts) e
test_of f (stopped w) = none_found
test_of f too_many = none_found

abbrev pub test : {A : Type 0} → (List Token → A) → String → Test A
test f x = test_of f (clause_tokens (spell x) start_cursor)

pub tested : {A : Type 0} (f : List Token → A) (x : String) (a : A) → test f x ≡ found a (behind x) → Of x (λ ts. f ts ≡ a)
unfolding test_of
tested {A} f x a h = go (clause_tokens (spell x) start_cursor) refl h
  where
    go : (g : Gathered) → clause_tokens (spell x) start_cursor ≡ g → test_of f g ≡ found a (behind x) → Of x (λ ts. f ts ≡ a)
    go (whole ts e) q p = let h : e ≡ behind x = cc in (ts, cc, cc)
    go (stopped w) q p = let z : ◌≡◌ {A = ℕ} 0 1 = cc in absurd (omega arith)
    go too_many q p = let z : ◌≡◌ {A = ℕ} 0 1 = cc in absurd (omega arith)

-- the machine behind tokens, where it accepts a tree
abbrev pub machine : List Token → State
machine ts = run wide operators start (terminals 0 ts)

abbrev pub accepting : Tree → State
accepting u = done (push wide u [])

pub accepted : (ts : List Token) (u : Tree) → machine ts ≡ accepting u → Reads operators ts u
accepted ts u e = accepts operators (fair operators operators-admitted) (terminals 0 ts) u e

-- and where it took the last token alive, with the machine behind them all
data Died : Type 0 where
  died : State → ℕ → Died

data Seen : Type 0 where
  whole_tree : Test State → Seen
  last_alive : Test Died → Seen

abbrev death_of : List Token → Died
death_of ts = died (machine ts) (latest_from start 0 0 ts)

got : Row → Seen
got (reads x u) = whole_tree (test machine x)
got (faulty x n) = last_alive (test death_of x)

due : Row → Seen
due (reads x u) = whole_tree (found (accepting u) (behind x))
due (faulty x n) = last_alive (found (died dead n) (behind x))

pointed : (x : String) (n : ℕ) → Of x (λ ts. death_of ts ≡ died dead n) → Holds (faulty x n)
pointed x n (ts, g, h) =
    let none_reads = refuses operators (fair operators operators-admitted) (terminals 0 ts) cc in
    let f = first_fault (spell x) start_cursor ts (behind x) g none_reads in
    (ts, g, (f.0, f.1, f.2 ∙ cc))

each : (r : Row) → got r ≡ due r → Holds r
unfolding got due
each (reads x u) e = let p = tested machine x (accepting u) cc in (p.0, p.1, accepted p.0 u p.2)
each (faulty x n) e = pointed x n (tested death_of x (died dead n) cc)

-- `unfolding computes` lets the tokens and a run compute
unfoldable pub computes : Unit {0}
unfolding class_of walk move_to digit_of digits after items past comment_opened slashed layout_text_of layout_turn front needed run_end run_token name_token Number.integer_to Number.point_to Number.zero_to quote_to item_to with_char item_turn L.floated L.valued L.numbered L.plain_token L.plain_lexeme L.lexeme_to L.after_layout L.lexeme_since L.mark L.bar_to L.solo_to L.point_to L.quoted_to L.quoted_lexeme gather onward with text_in test_of is_lowest terminal_as terminals same_text pre_prio pre_bound prio left_bound right_bound find_pre find_inf prefix_of infix_of roled kind_number arity push wide Machine.place_of Machine.bound Machine.act_of Machine.separates Machine.inside Machine.shuts Machine.empty_kind Machine.see Machine.stop_of Machine.glues Machine.lt? Machine.push_as Machine.emit Machine.reduce Machine.act Machine.act_if Machine.closing Machine.comma_step Machine.stop_step Machine.infix_step Machine.glued_step Machine.want_step Machine.have_step Machine.prefix_as Machine.prefix_step Machine.op_step Machine.pend_step Machine.begun_on Machine.begun_step Machine.step Machine.run latest_from is_dead
computes = tt

pub specimens : All Holds table
unfolding computes got due
specimens = all got due each table refl
