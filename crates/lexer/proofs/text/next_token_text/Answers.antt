-- `lexer::text::next_token_text` meets its contract. Assumes nothing.
use Prim.Native.Nat.{ℕ}
use mathlib.Core.Path.{◌≡◌}
use mathlib.Core.Bool.{Bool, true, false}
use mathlib.Core.List.{List}
use borrow.Author.Rules.{rules}
use lib.ListN.{length}
use Rattle.lexer.specs.Cursor.{valid}
use Rattle.lexer.specs.Text.{leaves, token_text, next_token_text, TextAnswer}
use Rattle.lexer.specs.Token.{not_valid}
use Rattle.lexer.specs.declared.cursor.Cursor.{Cursor}
use Rattle.lexer.specs.declared.refusal.Fault.{Fault}
use Rattle.lexer.proofs.HandedOn.{handed_on}
use Rattle.lexer.proofs.Cursors.{tested-valid}
use Rattle.lexer.proofs.text.next_token_text.Goals as goal
use Rattle.lexer.specs.Refusal.{refuse}

-- the ways out: b says whether the cursor is valid
module _ (s : List ℕ) (c : Cursor) (b : Bool) (v : b ≡ valid (length s) c) (d : List ℕ) where
  told : (d' : List ℕ) (r : TextAnswer) → b ≡ true → leaves r d' ≡ token_text s c d → leaves r d' ≡ next_token_text s c d
  told d' r g h = cc

  not-valid : (w : Fault) → b ≡ false → w ≡ not_valid → leaves (refuse w c) d ≡ next_token_text s c d
  not-valid w g h = cc

ruleset ways = (handed_on, tested-valid, told, not-valid, rules)

pub text_at-requires : goal.text_at-requires
text_at-requires c = search ways
