-- How a name is spelt: quoted exactly if a single quote begins it. A law of the definitions alone, for the crates above. Assumes nothing.
use mathlib.Core.Path.{◌≡◌, sym, ◌∙◌, subst⁻¹}
use mathlib.Core.Bool.{false}
use mathlib.Core.List.{List}
use Prim.Native.Nat.{ℕ}
use native.Mathlib.Omega.{arith}
use lib.ListN.{get_or}
use Rattle.lexer.specs.Chars.{class_of, is, quote_char, single_quote}
use Rattle.lexer.specs.Token.{plain_token, Text, source, decoded, lexeme, text_of, read_lexeme}
use Rattle.lexer.specs.declared.kind.Kind.{Kind}
use Rattle.lexer.specs.declared.kind.Kind.TheVariants.{Name}
use Rattle.lexer.specs.declared.token.Token.{Token}
use Rattle.lexer.specs.declared.token.Source.{Source}
use Rattle.lexer.proofs.EachToken.{Each, read_each}
use Rattle.lexer.proofs.Looks.{Seen}
use Rattle.lexer.specs.Name.{PlainToken}
use Rattle.std.specs.declared.result.Result.TheVariants.{Ok, Err}

-- the text of a name that begins with the byte b
pub data NameText (b : ℕ) : Text → Type 0 where
  quoted : (bs : List ℕ) → b ≡ single_quote → NameText b (decoded bs)
  unquoted : (b ≡ single_quote → ⊥) → NameText b source

-- a token's kind, where it starts, and its text
abbrev Spelt : List ℕ → Kind → ℕ → Text → Type 0
Spelt s k at x = k ≡ Name → NameText (get_or s at 0) x

not_quote : (x : ℕ) → is quote_char x ≡ false → x ≡ single_quote → ⊥
unfolding class_of
not_quote x f g = let z : ◌≡◌ {A = ℕ} 0 1 = cc in omega arith

module _ (s : List ℕ) where
  plain_spelt : (at x : ℕ) → Seen s at x → (x ≡ single_quote → ⊥) → (p : PlainToken) → Each (λ k v e. Spelt s k at (text_of k)) p
  plain_spelt at x l n (Ok p) = λ g. subst⁻¹ (λ (j : Kind). NameText (get_or s at 0) (text_of j)) g (unquoted (λ q. n (sym l.it ∙ q)))
  plain_spelt at x l n (Err w) = tt

  pub name_text : (origin : Source) (from : ℕ) (t : Token) (e : ℕ) (x : Text) → read_lexeme origin s from ≡ lexeme t e x → t.kind ≡ Name → NameText (get_or s t.start 0) x
  name_text origin from t e x f =
      rw f at (read_each (λ k v at d y. Spelt s k at y) origin s (λ at l bs d h g. quoted bs l.it) (λ at l bs d h g. let z : ◌≡◌ {A = ℕ} 0 1 = cc in absurd (omega arith))
      (λ at y l n layout. plain_spelt at y l (not_quote y n) (plain_token origin s at layout y)) from)
