-- Which operator tables are admitted: one test. Assumes nothing.
use Rattle.std.specs.Prelude.{ℕ, Bool, true, false, ◌&&◌, ◌||◌, not, [], ◌∷◌, eqb, leb}
use Rattle.reader.specs.Token.{same_text}
use Rattle.reader.specs.Ops.{fx, fy, xfx, xfy, yfx, pre_prio, prio, Entry, prefix_op, infix_op, Table, is_comma}

unfoldable pub every : (Entry → Bool) → Table → Bool
every f [] = true
every f (e ∷ T) = f e && every f T

unfoldable pub any : (Entry → Bool) → Table → Bool
any f [] = false
any f (e ∷ T) = f e || any f T

-- two entries of one name in the same role
unfoldable pub twice : Entry → Entry → Bool
twice (prefix_op x r) (prefix_op y s) = same_text x y
twice (prefix_op x r) (infix_op y s) = false
twice (infix_op x r) (prefix_op y s) = false
twice (infix_op x r) (infix_op y s) = same_text x y

unfoldable pub none_twice : Table → Bool
none_twice [] = true
none_twice (e ∷ T) = every (λ f. not (twice e f)) T && none_twice T

-- priorities run from 1 to 1200
unfoldable pub in_range : Entry → Bool
in_range (prefix_op x r) = leb 1 (pre_prio r) && leb (pre_prio r) 1200
in_range (infix_op x r) = leb 1 (prio r) && leb (prio r) 1200

-- an entry of the comma is xfy 1000
unfoldable pub comma_fits : Entry → Bool
comma_fits (prefix_op x r) = not (is_comma x)
comma_fits (infix_op x (xfx p)) = not (is_comma x)
comma_fits (infix_op x (xfy p)) = not (is_comma x) || eqb p 1000
comma_fits (infix_op x (yfx p)) = not (is_comma x)

unfoldable pub of_comma : Entry → Bool
of_comma (prefix_op x r) = is_comma x
of_comma (infix_op x r) = is_comma x

-- an xfy or fy of priority p
unfoldable pub leans_right : ℕ → Entry → Bool
leans_right p (prefix_op x (fx q)) = false
leans_right p (prefix_op x (fy q)) = eqb p q
leans_right p (infix_op x (xfx q)) = false
leans_right p (infix_op x (xfy q)) = eqb p q
leans_right p (infix_op x (yfx q)) = false

-- a yfx, together with an xfy or fy of its priority
unfoldable pub clash : Entry → Entry → Bool
clash (prefix_op x r) f = false
clash (infix_op x (xfx p)) f = false
clash (infix_op x (xfy p)) f = false
clash (infix_op x (yfx p)) f = leans_right p f

unfoldable pub none_clash : Table → Bool
none_clash T = every (λ e. every (λ f. not (clash e f)) T) T

-- 02, request 10: no name has two entries of the same role, priorities run from 1 to 1200, the comma has just one entry, xfy 1000, and no
-- priority holds a yfx operator together with an xfy or fy one.
unfoldable pub admits : Table → Bool
admits T = none_twice T && every in_range T && every comma_fits T && any of_comma T && none_clash T
