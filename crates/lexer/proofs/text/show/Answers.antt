-- `lexer::text::show` meets its contract. Assumes nothing.
use Prim.Native.Nat.{ℕ, ◌<◌, ◌≤◌}
use mathlib.Core.Path.{◌≡◌}
use mathlib.Core.List.{List}
use lib.ListN.{length}
use denote.Ref.{Bor}
use borrow.Author.Tests.{le-leb, lt-leb}
use borrow.Author.Rules.{rules}
use Rattle.lexer.specs.Text.{part_of, fitted, shown}
use Rattle.lexer.specs.declared.text.Part.{Part}
use Rattle.lexer.specs.declared.text.Part.TheVariants.{Source, Scratch}
use Rattle.lexer.proofs.text.show.Goals as goal

-- the ways out: x is the slice of which p is a part, from a to e
module _ (s d : Bor (List ℕ)) (p : Part) (a e : ℕ) (x : Bor (List ℕ)) (q : shown s d p ≡ fitted s x a e) where
  back : e < a → part_of s 0 0 ≡ shown s d p
  unfolding fitted
  back h = cc (lt-leb a e h)

  long : a ≤ e → length x.now < e → part_of s 0 0 ≡ shown s d p
  unfolding fitted
  long h k = cc (le-leb a e h, lt-leb e (length x.now) k)

  within : a ≤ e → e ≤ length x.now → part_of x a e ≡ shown s d p
  unfolding fitted
  within h k = cc (le-leb a e h, le-leb e (length x.now) k)

module _ (s d : Bor (List ℕ)) (p : Part) (a e : ℕ) where
  source : p ≡ Source a e → shown s d p ≡ fitted s s a e
  unfolding shown
  source q = cc

  scratch : p ≡ Scratch a e → shown s d p ≡ fitted s d a e
  unfolding shown
  scratch q = cc

  -- nothing but the part itself tells `search` of which slice it is
  source_back : p ≡ Source a e → e < a → part_of s 0 0 ≡ shown s d p
  source_back q h = back s d p a e s (source q) h

  scratch_back : p ≡ Scratch a e → e < a → part_of s 0 0 ≡ shown s d p
  scratch_back q h = back s d p a e d (scratch q) h

ruleset ways = (source_back, scratch_back, long, within, source, scratch, rules)

pub returns-then-end-start : goal.returns-then-end-start
returns-then-end-start c = search ways

pub returns-then-text-end : goal.returns-then-text-end
returns-then-text-end c = search ways

pub returns-then-end-start-2 : goal.returns-then-end-start-2
returns-then-end-start-2 c = search ways

pub returns-then-scratch-end : goal.returns-then-scratch-end
returns-then-scratch-end c = search ways

pub returns-else-text-end : goal.returns-else-text-end
returns-else-text-end c = search ways

pub returns-else-scratch-end : goal.returns-else-scratch-end
returns-else-scratch-end c = search ways
