-- The last rule for tables is needed: with a yfx and an xfy operator of one priority, or a yfx and an fy one, a clause has two readings.
-- Assumes nothing.
use mathlib.Core.Path.{◌≡◌, refl}
use mathlib.Core.Bool.{false}
use mathlib.Core.List.{List, [], ◌∷◌}
use lib.Dec.{lit<, lit≤}
use Rattle.reader.specs.Token.{name, var_or_string, stop, end_mark, Tok, tok, same_text}
use Rattle.reader.specs.Ops.{spell, fy, xfy, yfx, pre_prio, pre_bound, prio, left_bound, right_bound, prefix_op, infix_op, Table, find_pre, find_inf, prefix_of, infix_of, named}
use Rattle.reader.specs.Admitted.{every, any, twice, none_twice, in_range, comma_fits, of_comma, leans_right, clash, none_clash, admits}
use Rattle.reader.specs.Tree.{prefix, infx, node, leaf, nil, ◌◂◌}
use Rattle.reader.specs.Grammar.{a_var_or_string, a_prefix, an_infix, whole, Clause, clause, blocks}

-- right: xfy 500; left: yfx 500; not: fy 500
abbrev mixed : Table
mixed =
    infix_op (spell "right") (xfy 500) ∷ infix_op (spell "left") (yfx 500) ∷ prefix_op (spell "not") (fy 500) ∷ infix_op (spell ",") (xfy 1000) ∷ []

-- `unfolding tested` lets the test compute
tested : Unit {0}
unfolding admits every any twice none_twice in_range comma_fits of_comma leans_right clash none_clash same_text pre_prio prio
tested = tt

-- all but the last rule
refused_for_it : admits mixed ≡ false
unfolding tested
refused_for_it = refl

only_for_it : none_clash mixed ≡ false
unfolding tested
only_for_it = refl

roles : Unit {0}
unfolding find_pre find_inf prefix_of infix_of same_text pre_prio pre_bound prio left_bound right_bound blocks
roles = tt

-- X right Y left Z.
abbrev both : List Tok
both =
    tok 0 var_or_string ∷ tok 1 (name (spell "right") 7) ∷ tok 2 var_or_string ∷ tok 3 (name (spell "left") 14) ∷ tok 4 var_or_string ∷ tok 5 (stop end_mark) ∷ []

pub right_first : Clause mixed both (node 1 infx (leaf 0 ◂ node 3 infx (leaf 2 ◂ leaf 4 ◂ nil) ◂ nil))
unfolding roles
right_first =
    clause
    (whole
    (an_infix a_var_or_string (lit< tt) (named {r = xfy 500} refl) refl
    (an_infix a_var_or_string (lit< tt) (named {r = yfx 500} refl) refl a_var_or_string (lit< tt)) (lit< tt))
    (lit≤ tt))

pub left_first : Clause mixed both (node 3 infx (node 1 infx (leaf 0 ◂ leaf 2 ◂ nil) ◂ leaf 4 ◂ nil))
unfolding roles
left_first =
    clause
    (whole
    (an_infix (an_infix a_var_or_string (lit< tt) (named {r = xfy 500} refl) refl a_var_or_string (lit< tt)) (lit< tt) (named {r = yfx 500} refl) refl
    a_var_or_string (lit< tt))
    (lit≤ tt))

-- not X left Y.
abbrev prefixed : List Tok
prefixed = tok 0 (name (spell "not") 3) ∷ tok 1 var_or_string ∷ tok 2 (name (spell "left") 10) ∷ tok 3 var_or_string ∷ tok 4 (stop end_mark) ∷ []

pub prefix_outside : Clause mixed prefixed (node 0 prefix (node 2 infx (leaf 1 ◂ leaf 3 ◂ nil) ◂ nil))
unfolding roles
prefix_outside =
    clause
    (whole
    (a_prefix {r = fy 500} refl refl refl (an_infix a_var_or_string (lit< tt) (named {r = yfx 500} refl) refl a_var_or_string (lit< tt)) (lit< tt))
    (lit≤ tt))

pub prefix_inside : Clause mixed prefixed (node 2 infx (node 0 prefix (leaf 1 ◂ nil) ◂ leaf 3 ◂ nil))
unfolding roles
prefix_inside =
    clause
    (whole
    (an_infix (a_prefix {r = fy 500} refl refl refl a_var_or_string (lit< tt)) (lit< tt) (named {r = yfx 500} refl) refl a_var_or_string (lit< tt))
    (lit≤ tt))
