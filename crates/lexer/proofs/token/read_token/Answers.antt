-- `lexer::token::read_token` meets its contract. Assumes nothing.
use Prim.Native.Nat.{ℕ, ◌<◌, ◌≤◌}
use mathlib.Core.Path.{◌≡◌, refl, sym, ◌∙◌, ap}
use mathlib.Core.List.{List}
use native.Mathlib.Omega.{arith}
use borrow.Author.Rules.{rules}
use lib.Dec.{ltb}
use lib.ListN.{length}
use Rattle.lexer.specs.Cursor.{move_to, Valid}
use Rattle.lexer.specs.Layout.{layout_end, moved}
use Rattle.lexer.specs.Look.{lookahead}
use Rattle.lexer.specs.Token.{Text, Lexeme, lexeme, refused, lexeme_to, after_layout, behind_layout, kept, spelled_to, found, FoundToken}
use Rattle.lexer.specs.declared.refusal.Fault.{Fault}
use Rattle.lexer.specs.declared.cursor.Cursor.{Cursor}
use Rattle.lexer.specs.Cursor.{Moved}
use Rattle.std.specs.declared.result.Result.TheVariants.{Ok, Err}
use Rattle.lexer.specs.Cursor.{Scan}
use Rattle.lexer.specs.declared.token.Token.{Token}
use Rattle.lexer.specs.declared.token.Source.{Source}
use Rattle.lexer.proofs.HandedOn.{handed_on}
use Rattle.lexer.proofs.Cursors.{move_by, move_offset, move_valid}
use Rattle.lexer.proofs.Layouts.{Before, layout_ends}
use Rattle.lexer.proofs.Promises.{LexemeEnds, token_there}
use Rattle.lexer.proofs.token.read_token.Goals as goal

-- layout that ends, at d
record Layout (s : List ℕ) (c d : Cursor) : Type 0 where
  at : ℕ
  ends : layout_end s c.offset ≡ Ok at
  there : d ≡ move_to s c at
  behind : c.offset ≤ at
  inside : at < length s

module _ (s : List ℕ) (c : Cursor) (v : Valid (length s) c) (l : Moved) (e : l ≡ moved s c (layout_end s c.offset)) where
  no-token : (origin : Source) (w : Fault) → l ≡ Err w → Err w ≡ found s c (behind_layout origin s c.offset)
  unfolding after_layout found moved
  no-token origin w f = go (layout_end s c.offset) e
    where
      go : (r : Scan) → l ≡ moved s c r → Err w ≡ found s c (after_layout origin s c.offset r)
      go (Ok x) g = cc
      go (Err x) g = cc

  module _ (d : Cursor) (f : l ≡ Ok d) where
    told : Layout s c d
    unfolding moved
    told = go (layout_end s c.offset) refl (layout_ends s c.offset) e
      where
        go : (r : Scan) → layout_end s c.offset ≡ r → Before c.offset (length s) r → l ≡ moved s c r → Layout s c d
        go (Err x) q b g = let z : ◌≡◌ {A = ℕ} 0 1 = cc in absurd (omega arith)
        go (Ok x) q b g = record { at = x; ends = q; there = cc; behind = b.0; inside = b.1 }

    at_offset : (t : Layout s c d) → d.offset ≡ t.at
    at_offset t = ap (λ (x : Cursor). x.offset) t.there ∙ move_offset s c t.at t.behind (omega (arith, t.inside))

    valid_there : Valid (length s) d
    valid_there = let t = told in rw t.there (move_valid s c t.at t.behind (omega (arith, t.inside)) v)

    -- a token found from d is that token found from c
    module _ (t : Layout s c d) where
      carried : (x : Lexeme) → ((u : Token) (n : ℕ) (y : Text) → x ≡ lexeme u n y → LexemeEnds s t.at u n) → found s d x ≡ found s c x
      unfolding found
      carried (refused w) h = refl
      carried (lexeme u n y) h =
          let b = h u n y refl in
          let a = move_by s c n (omega (arith, t.behind, b.behind, b.ahead)) b.inside t.at t.behind (omega (arith, b.behind, b.ahead)) in
          ap (spelled_to u (kept y)) (ap (λ (x : Cursor). move_to s x n) t.there ∙ sym a)

    read : (origin : Source) (z : FoundToken) → z ≡ found s d (lexeme_to origin s d.offset (ltb c.offset d.offset) (lookahead s d.offset))
        → z ≡ found s c (behind_layout origin s c.offset)
    unfolding after_layout
    read origin z g =
        let t = told in
        let o = at_offset t in
        let layout = ltb c.offset t.at in
        let p = ap (λ (n : ℕ). found s d (lexeme_to origin s n (ltb c.offset n) (lookahead s n))) o in
        let q = carried t (lexeme_to origin s t.at layout (lookahead s t.at)) (λ u n y h. token_there origin layout s t.at u n y h) in
        let m = ap (λ (r : Scan). found s c (after_layout origin s c.offset r)) t.ends in
        g ∙ p ∙ q ∙ sym m

ruleset ways = (handed_on, no-token, valid_there, read, rules)

pub returns-in_err-c : goal.returns-in_err-c
returns-in_err-c c = search (ways, c.in_err-c.was)

pub token_at-requires : goal.token_at-requires
token_at-requires c = search (ways, c.in_ok-c.was)

pub returns : goal.returns
returns c = search ways
