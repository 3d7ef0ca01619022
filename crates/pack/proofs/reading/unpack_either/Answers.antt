-- `pack::reading::unpack_either` meets its contract. Assumes nothing.
use Prim.Native.Nat.{ℕ}
use mathlib.Core.Path.{◌≡◌, subst}
use mathlib.Core.List.{List}
use borrow.Author.Rules.{rules}
use Rattle.lexer.specs.declared.refusal.Fault.{Fault}
use Rattle.pack.specs.Calls.{Unread, EitherOutcome}
use Rattle.pack.specs.Moves.{Only}
use Rattle.pack.specs.Passes.{SomePack, PackListed, version_byte, Judgement, version_in}
use Rattle.pack.specs.declared.format.Version.{Version}
use Rattle.pack.specs.Answers.{UnpackAnswer}
use Rattle.std.specs.declared.result.Result.TheVariants.{Ok, Err}
use Rattle.pack.specs.declared.answers.Unpacked.{Unpacked}
use Rattle.pack.proofs.Judging.{judged_unread, judged-found, either_refused, either_listed}
use Rattle.pack.proofs.reading.unpack_either.Goals as goal

module _ (i : List ℕ) (v : Version) (q : v ≡ version_in i) (j : UnpackAnswer) (o : Judgement v i j) where
  refused : (d : List ℕ) (w : Fault) → j ≡ Err w → EitherOutcome i d (Err w) d
  refused d w e = either_refused i d (subst (λ (z : Version). Unread (Only (version_byte z)) i w) q (judged_unread v i o w e))

  module _ (u : Unpacked) (e : j ≡ Ok u) where
    some : SomePack i u
    some = (judged-found v i o u e).pack

    done : (d : List ℕ) (r : UnpackAnswer) (x : List ℕ) → PackListed i u.form d r x → EitherOutcome i d r x
    done d r x l = either_listed i d u v (judged-found v i o u e) l

ruleset ways = (refused, some, done, rules)

pub returns-in_err-pack : goal.returns-in_err-pack
returns-in_err-pack c = search ways

pub returns : goal.returns
returns c = search ways
