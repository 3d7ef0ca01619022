-- `chunks::delivery::offer` meets its contract. Assumes nothing.
use Prim.Native.Nat.{ℕ}
use mathlib.Core.Path.{◌≡◌, sym, ◌∙◌}
use mathlib.Core.Bool.{Bool, true, false}
use mathlib.Core.List.{List}
use borrow.Author.Rules.{rules}
use lib.ListN.{length}
use Rattle.lexer.specs.Token.{not_valid}
use Rattle.chunks.specs.Feed.{at_hand, window_size, admitted, takes, leaves, refusing, took, offered, Admitted}
use Rattle.chunks.specs.declared.delivery.Fed.{Fed}
use Rattle.chunks.specs.declared.delivery.Reader.{Reader}
use Rattle.chunks.proofs.Feeds.{is-admitted}
use Rattle.chunks.proofs.delivery.offer.Goals as goal

module _ (w : List ℕ) (r : Reader) (ended t : Bool) where
  may_come : (n : ℕ) → length w ≡ window_size → t ≡ admitted ended r n → t ≡ true → Admitted w r n
  may_come n l e f = is-admitted w ended r n l (sym e ∙ f)

  module _ (chunk : List ℕ) (e : t ≡ admitted ended r (length chunk)) (y : Fed) where
    takes-it : t ≡ true → (v : List ℕ) → leaves y v ≡ took ended r w chunk (takes (at_hand r) (length chunk)) → leaves y v ≡ offered ended r w chunk
    takes-it f v g = cc

    refuses_it : t ≡ false → y ≡ refusing r 0 not_valid → leaves y w ≡ offered ended r w chunk
    refuses_it f g = cc

ruleset ways = (may_come, takes-it, refuses_it, rules)

pub take_chunk-requires : goal.take_chunk-requires
take_chunk-requires c = search ways
