-- `pack::moves::move_to` meets its contract. Assumes nothing.
use Prim.Native.Nat.{ℕ}
use mathlib.Core.Path.{◌≡◌}
use mathlib.Core.List.{List}
use borrow.Author.Rules.{rules}
use Rattle.lexer.specs.declared.refusal.Fault.{Fault}
use Rattle.pack.specs.Moves.{MoveOutcome, unread}
use Rattle.pack.specs.Passes.{SomePack, PackMoved, version_byte, Judgement}
use Rattle.pack.specs.declared.format.Form.{Form}
use Rattle.pack.specs.declared.format.Version.{Version}
use Rattle.pack.specs.Answers.{PackAnswer, UnpackAnswer}
use Rattle.std.specs.declared.result.Result.TheVariants.{Ok, Err}
use Rattle.pack.specs.declared.answers.Unpacked.{Unpacked}
use Rattle.pack.proofs.Judging.{judged_unread, judged-found, move_written}
use Rattle.pack.proofs.moves.move_to.Goals as goal

module _ (i : List ℕ) (v : Version) (j : UnpackAnswer) (o : Judgement v i j) where
  refused : (g : Form) (d : List ℕ) (w : Fault) → j ≡ Err w → MoveOutcome (version_byte v) g i d (Err w) d
  refused g d w e = unread (judged_unread v i o w e)

  module _ (u : Unpacked) (e : j ≡ Ok u) where
    some : SomePack i u
    some = (judged-found v i o u e).pack

    done : (g : Form) (d : List ℕ) (r : PackAnswer) (x : List ℕ) → PackMoved i u.form g d r x → MoveOutcome (version_byte v) g i d r x
    done g d r x l = move_written i d u v (judged-found v i o u e) l

ruleset ways = (refused, some, done, rules)

pub returns-in_err-pack : goal.returns-in_err-pack
returns-in_err-pack c = search ways

pub returns : goal.returns
returns c = search ways
