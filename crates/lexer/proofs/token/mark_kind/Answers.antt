-- `lexer::token::mark_kind` meets its contract: between two neighbours in the marks' order stands one mark, by a test over all bytes, which antt computes. Assumes nothing.
use Prim.Native.Nat.{ℕ, ◌<◌, ◌≤◌}
use mathlib.Core.Path.{◌≡◌, sym, ◌∙◌}
use mathlib.Core.Bool.{Bool, true, false, ◌&&◌}
use borrow.Author.Rules.{rules}
use borrow.Author.Tests.{eqb-true, lt-ltb, le-leb}
use lib.Dec.{T, leb, ltb, eqb}
use native.Mathlib.Omega.{arith}
use Rattle.lexer.specs.Chars.{open_paren, close_paren, comma, open_bracket, close_bracket, open_brace, close_brace}
use Rattle.lexer.specs.Token.{mark, is_mark}
use Rattle.lexer.specs.declared.kind.Kind.TheVariants.{Open, OpenCT, Close, OpenList, CloseList, OpenCurly, CloseCurly, Comma}
use Rattle.lexer.proofs.Table.{agree, agreed}
use Rattle.lexer.proofs.token.mark_kind.Goals as goal
use Rattle.std.specs.declared.option.Option.TheVariants.{Some}

abbrev between : ℕ → ℕ → ℕ → Bool
between lo hi x = is_mark (mark false x) && (leb lo x && ltb x hi)

module _ (t : Bool) (b : ℕ) (h : b < 256) (m : is_mark (mark false b) ≡ true) where
  -- the one mark from lo on and before hi is n
  only : (lo hi n : ℕ) → T (agree (between lo hi) (λ x. eqb x n) 256) → lo ≤ b → b < hi → b ≡ n
  only lo hi n c l k =
      let i : between lo hi b ≡ true = cc (m, le-leb lo b l, lt-ltb b hi k) in
      eqb-true b n (sym (agreed (between lo hi) (λ x. eqb x n) 256 c b h) ∙ i)

  module _ (k : b < close_paren) where
    opens : b ≡ open_paren
    unfolding mark
    opens = only 0 close_paren open_paren tt (omega arith) k

    open_after : t ≡ true → Some Open ≡ mark t b
    unfolding mark
    open_after f = cc opens

    open-directly : t ≡ false → Some OpenCT ≡ mark t b
    unfolding mark
    open-directly f = cc opens

  closes : close_paren ≤ b → b < comma → Some Close ≡ mark t b
  unfolding mark
  closes l k = cc (only close_paren comma close_paren tt l k)

  comma_there : comma ≤ b → b < open_bracket → Some Comma ≡ mark t b
  unfolding mark
  comma_there l k = cc (only comma open_bracket comma tt l k)

  list : open_bracket ≤ b → b < close_bracket → Some OpenList ≡ mark t b
  unfolding mark
  list l k = cc (only open_bracket close_bracket open_bracket tt l k)

  list_closes : close_bracket ≤ b → b < open_brace → Some CloseList ≡ mark t b
  unfolding mark
  list_closes l k = cc (only close_bracket open_brace close_bracket tt l k)

  curly : open_brace ≤ b → b < close_brace → Some OpenCurly ≡ mark t b
  unfolding mark
  curly l k = cc (only open_brace close_brace open_brace tt l k)

  curly_closes : close_brace ≤ b → Some CloseCurly ≡ mark t b
  unfolding mark
  curly_closes l = cc (only close_brace 256 close_brace tt l h)

ruleset ways = (open_after, open-directly, closes, comma_there, list, list_closes, curly, curly_closes, rules)

pub returns-then-layout : goal.returns-then-layout
returns-then-layout c = search ways

pub returns-else-layout : goal.returns-else-layout
returns-else-layout c = search ways

pub returns-then-b-lt44 : goal.returns-then-b-lt44
returns-then-b-lt44 c = search ways

pub returns-then-b-lt91 : goal.returns-then-b-lt91
returns-then-b-lt91 c = search ways

pub returns-then-b-lt93 : goal.returns-then-b-lt93
returns-then-b-lt93 c = search ways

pub returns-then-b-lt123 : goal.returns-then-b-lt123
returns-then-b-lt123 c = search ways

pub returns-then-b-lt125 : goal.returns-then-b-lt125
returns-then-b-lt125 c = search ways

pub returns : goal.returns
returns c = search ways
