-- What is seen of a token that was read: of the lexer only its promises are used, that is its contracts and the laws of its definitions. Assumes nothing.
use Prim.Native.Nat.{ℕ, ◌<◌, ◌≤◌}
use mathlib.Core.Path.{◌≡◌, refl, sym, ◌∙◌, ap}
use mathlib.Core.Bool.{Bool, true, false, cond}
use mathlib.Core.Option.{Option, none, some}
use mathlib.Core.List.{List}
use native.Mathlib.Omega.{arith}
use lib.ListN.{length}
use Rattle.lexer.specs.Cursor.{move_to, valid}
use Rattle.lexer.specs.Token.{Text, Lexeme, lexeme, refused, read_lexeme, answered, not_valid, next_token, token_read}
use Rattle.lexer.specs.declared.token.Source.TheVariants.{File}
use Rattle.lexer.specs.declared.cursor.Cursor.{Cursor}
use Rattle.lexer.specs.declared.token.Token as lexer
use Rattle.lexer.proofs.Theorems.{token_promises, lexeme_bounds, move_offset, read_parts}
use Rattle.reader.specs.Token.{Kind, terminal_as}
use Rattle.reader.specs.Ops.{Pre, fx, fy, Inf, xfx, xfy, yfx, operators}
use Rattle.reader.specs.Roles.{prefix_role, infix_role}
use Rattle.reader.specs.Layout.{pre_of, inf_of}
use Rattle.reader.specs.Machine.{see}
use Rattle.reader.specs.Clause.{token_in}
use Rattle.reader.specs.Gather.{token_of, token_from, sight_from}
use Rattle.lexer.specs.Refusal.{refuse}

-- what is known of a token that the token call read at c, with the cursor d behind it
pub record Known (s : List ℕ) (c : Cursor) (t : lexer.Token) (d : Cursor) : Type 0 where
  pub valid_cursor : valid (length s) c ≡ true
  pub text : Text
  pub reads : read_lexeme File s c.offset ≡ lexeme t d.offset text
  pub next : d ≡ move_to s c d.offset
  pub ahead : t.start < d.offset
  pub inside : d.offset ≤ length s

module _ (s : List ℕ) (c : Cursor) (t : lexer.Token) (d : Cursor) where
  pub known : next_token File s c ≡ token_read t d → Known s c t d
  unfolding answered
  known r = go (valid (length s) c) (read_lexeme File s c.offset) refl refl r
    where
      go : (v : Bool) (l : Lexeme) → valid (length s) c ≡ v → read_lexeme File s c.offset ≡ l
          → cond v (answered s c l) (refuse not_valid c) ≡ token_read t d → Known s c t d
      go true (lexeme u e x) v f g =
          let parts = read_parts g in
          let same : u ≡ t = parts.0 in
          let moved : d ≡ move_to s c e = sym parts.1 in
          let p = token_promises s c File t d r in
          let b = lexeme_bounds File s c.offset u e x p.from.offset f in
          let ends : d.offset ≡ e = ap (λ (k : Cursor). k.offset) moved ∙ move_offset s c e (omega (arith, b.behind, b.ahead)) b.inside in
          record { valid_cursor = v; text = x; reads = cc (f, same, ends); next = moved ∙ ap (move_to s c) (sym ends); ahead = p.ahead; inside = p.inside }
      go true (refused w) v f g = let z : ◌≡◌ {A = ℕ} 0 1 = cc in absurd (omega arith)
      go false l v f g = let z : ◌≡◌ {A = ℕ} 0 1 = cc in absurd (omega arith)

  module _ (k : Known s c t d) where
    pub token-known : token_from s c ≡ token_in s t d.offset k.text
    unfolding token_of
    token-known = ap (token_of s) k.reads

    pub sight_known : (m : Kind) → t.kind ≡ m → see operators (terminal_as m (token_in s t d.offset k.text)) ≡ sight_from s c
    sight_known m e = cc token-known

-- the roles that the code holds are those of the grammar
pub pre_role : (o : Option Pre) → pre_of (prefix_role o) ≡ o
unfolding pre_of prefix_role
pre_role none = refl
pre_role (some (fx p)) = refl
pre_role (some (fy p)) = refl

pub inf_role : (o : Option Inf) → inf_of (infix_role o) ≡ o
unfolding inf_of infix_role
inf_role none = refl
inf_role (some (xfx p)) = refl
inf_role (some (xfy p)) = refl
inf_role (some (yfx p)) = refl
