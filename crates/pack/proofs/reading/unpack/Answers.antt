-- `pack::reading::unpack` meets its contract. Assumes nothing.
use Prim.Native.Nat.{ℕ}
use mathlib.Core.Path.{◌≡◌}
use mathlib.Core.List.{List}
use borrow.Author.Rules.{rules}
use Rattle.lexer.specs.Refusal.{fault}
use Rattle.lexer.specs.declared.refusal.Fault.{Fault}
use Rattle.lexer.specs.declared.refusal.Refusal.TheVariants.{NoPack}
use Rattle.pack.specs.Calls.{UnpackOutcome}
use Rattle.pack.specs.Passes.{SomePack, PackListed, Judgement}
use Rattle.pack.specs.declared.format.Version.{Version}
use Rattle.pack.specs.Answers.{UnpackAnswer}
use Rattle.std.specs.declared.result.Result.TheVariants.{Ok, Err}
use Rattle.pack.specs.declared.answers.Unpacked.{Unpacked}
use Rattle.pack.proofs.Judging.{judged_unread, judged-found, old_refused, old_listed}
use Rattle.pack.proofs.reading.unpack.Goals as goal

-- by whichever version it was judged
some : (i : List ℕ) (v : Version) (j : UnpackAnswer) → Judgement v i j → (u : Unpacked) → j ≡ Ok u → SomePack i u
some i v j o u e = (judged-found v i o u e).pack

module _ (i : List ℕ) (j : UnpackAnswer) (o : Judgement Version.One i j) where
  refused : (d : List ℕ) (w : Fault) → j ≡ Err w → UnpackOutcome i d (Err (fault NoPack 0)) d
  refused d w e = old_refused i d (judged_unread Version.One i o w e)

  done : (u : Unpacked) → j ≡ Ok u → (d : List ℕ) (r : UnpackAnswer) (x : List ℕ) → PackListed i u.form d r x → UnpackOutcome i d r x
  done u e d r x l = old_listed i d u (judged-found Version.One i o u e) l

ruleset ways = (refused, some, done, rules)

pub returns-in-Err : goal.returns-in-Err
returns-in-Err c = search ways

pub returns-in-Ok : goal.returns-in-Ok
returns-in-Ok c = search ways
