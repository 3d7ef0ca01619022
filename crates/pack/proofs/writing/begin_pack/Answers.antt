-- `pack::writing::begin_pack` meets its contract. Assumes nothing.
use Prim.Native.Nat.{ℕ, ◌+◌, ◌-◌, ◌<◌, ◌≤◌}
use mathlib.Core.Path.{◌≡◌, sym, subst, ap}
use mathlib.Core.List.{List}
use native.Mathlib.Omega.{arith}
use borrow.Author.Rules.{rules}
use lib.ListN.{length}
use lib.Seq.{sets}
use mir.Syntax.{w64}
use mir.Val.{Fits}
use Rattle.lexer.specs.Refusal.{fault}
use Rattle.lexer.specs.declared.refusal.Refusal.TheVariants.{NoRoom, TooLong}
use Rattle.pack.specs.Image.{line_bytes}
use Rattle.pack.specs.Calls.{begins}
use Rattle.pack.specs.Passes.{head_bytes, PutHead, Light, PackBegun, too_long, begun}
use Rattle.pack.specs.declared.format.Form.{Form}
use Rattle.pack.specs.declared.format.Form.TheVariants.{One, Two}
use Rattle.std.specs.declared.result.Result.TheVariants.{Ok, Err}
use Rattle.pack.proofs.writing.begin_pack.Goals as goal

begins-early : (f : Form) → begins f ≤ 7
unfolding line_bytes
begins-early One = omega arith
begins-early (Two l) = omega arith

module _ (f : Form) (at : ℕ) (e : at ≡ begins f) where
  body-behind : 3 ≤ at
  body-behind = omega (arith, e)

  module _ (count size : ℕ) (w : Light count size) where
    body-fits : Fits w64 (at - 3 + size)
    body-fits = record { fits = omega (arith, e, begins-early f, w.light) }

    module _ (d : List ℕ) where
      long : 65535 < at - 3 + size → PackBegun f count (begins f - 3 + size) d (Err (fault TooLong 0)) d
      long h = too_long (omega (arith, e))

      module _ (s : at - 3 + size ≤ 65535) where
        short : length d < at - 3 + size + 3 → PackBegun f count (begins f - 3 + size) d (Err (fault NoRoom 0)) d
        short h = PackBegun.no_room (omega (arith, e)) (omega (arith, e))

        module _ (h : at - 3 + size + 3 ≤ length d) where
          head_asked : PutHead f (at - 3 + size) count (length d)
          head_asked = record { inside = omega (arith, e); body_small = s; count_small = omega (arith, w.few) }

          done : (d' : List ℕ) → d' ≡ sets d 0 (head_bytes f (at - 3 + size) count) → PackBegun f count (begins f - 3 + size) d (Ok (at - 3 + size + 3)) d'
          done d' x =
              subst (λ (b : ℕ). PackBegun f count b d (Ok (at - 3 + size + 3)) d') (ap (λ (a : ℕ). a - 3 + size) e)
              (subst (PackBegun f count (at - 3 + size) d (Ok (at - 3 + size + 3))) (sym x) (begun s h))

ruleset ways = (body-behind, body-fits, long, short, head_asked, done, rules)

pub returns-then-body-gt-LONGEST_BODY : goal.returns-then-body-gt-LONGEST_BODY
returns-then-body-gt-LONGEST_BODY c = search ways

pub returns-then-out-body : goal.returns-then-out-body
returns-then-out-body c = search ways

pub returns : goal.returns
returns c = search ways

pub overflow_add-body : goal.overflow_add-body
overflow_add-body c = search ways
