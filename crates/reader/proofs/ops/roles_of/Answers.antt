-- `reader::ops::roles_of` meets its contract: no operator has more than three bytes, none ends with a space. Assumes nothing.
use Prim.Native.Nat.{ℕ, ◌+◌, ◌-◌, ◌≤◌, ◌<◌}
use mathlib.Core.Path.{◌≡◌, ◌∙◌, sym}
use mathlib.Core.List.{List, [], ◌∷◌}
use native.Mathlib.Numerals.{add-one}
use native.Mathlib.Omega.{arith}
use lib.ListN.{length, get_or, take, drop, length-take, length-drop}
use lib.Seq.{drop-cons}
use borrow.Author.Rules.{rules}
use borrow.Author.Tests.{eq-eqb, ne_eqb}
use Rattle.reader.specs.Ops.{operators}
use Rattle.reader.specs.Roles.{roles_of}
use Rattle.reader.specs.Names.{Part, space, trimmed}
use Rattle.reader.specs.declared.roles.Roles.{Roles}
use Rattle.reader.proofs.Finding.{no_roles, short, no_role, long_name}
use Rattle.reader.proofs.ops.roles_of.Goals as goal

one_more : (s : List ℕ) (n at : ℕ) → at < length s → take (n + 1) (drop at s) ≡ get_or s at 0 ∷ take n (drop (at + 1) s)
one_more s n at h = rw (drop-cons s at 0 h, add-one, add-one)

module _ (s : List ℕ) (from to : ℕ) (part : Part s from to) where
  long : (to - from ≡ 1 → ⊥) → (to - from ≡ 2 → ⊥) → (to - from ≡ 3 → ⊥) → no_roles ≡ roles_of operators (take (to - from) (drop from s))
  long e f g =
      let inside : to ≤ length s = part.inside in
      let size : length (take (to - from) (drop from s)) ≡ to - from = simp (length-take, length-drop) (omega arith) in
      long_name (take (to - from) (drop from s)) (λ w. e (sym size ∙ w)) (λ w. f (sym size ∙ w)) (λ w. g (sym size ∙ w))

  one : (r : Roles) → to - from ≡ 1 → r ≡ roles_of operators (trimmed (get_or s from 0) space space) → r ≡ roles_of operators (take (to - from) (drop from s))
  unfolding trimmed
  one r n e =
      let ahead : from ≤ to = part.ahead in
      let inside : to ≤ length s = part.inside in
      cc (one_more s 0 from (omega arith))

  module _ (n : to - from ≡ 2) where
    two_bytes : take (to - from) (drop from s) ≡ get_or s from 0 ∷ get_or s (from + 1) 0 ∷ []
    two_bytes =
        let ahead : from ≤ to = part.ahead in
        let inside : to ≤ length s = part.inside in
        cc (one_more s 1 from (omega arith), one_more s 0 (from + 1) (omega arith))

    two_spaced : get_or s (from + 1) 0 ≡ space → no_roles ≡ roles_of operators (take (to - from) (drop from s))
    unfolding short
    two_spaced e = rw two_bytes (no_role (get_or s from 0 ∷ get_or s (from + 1) 0 ∷ []) (rw (eq-eqb (get_or s (from + 1) 0) space e)))

    two : (r : Roles) → (get_or s (from + 1) 0 ≡ space → ⊥) → r ≡ roles_of operators (trimmed (get_or s from 0) (get_or s (from + 1) 0) space) → r ≡ roles_of operators (take (to - from) (drop from s))
    unfolding trimmed
    two r e f = rw two_bytes (rw (ne_eqb (get_or s (from + 1) 0) space e) at f)

  module _ (n : to - from ≡ 3) where
    three_bytes : take (to - from) (drop from s) ≡ get_or s from 0 ∷ get_or s (from + 1) 0 ∷ get_or s (from + 2) 0 ∷ []
    three_bytes =
        let ahead : from ≤ to = part.ahead in
        let inside : to ≤ length s = part.inside in
        let next : from + 1 + 1 ≡ from + 2 = omega arith in
        cc (one_more s 2 from (omega arith), one_more s 1 (from + 1) (omega arith), one_more s 0 (from + 2) (omega arith))

    three_spaced : get_or s (from + 2) 0 ≡ space → no_roles ≡ roles_of operators (take (to - from) (drop from s))
    unfolding short
    three_spaced e = rw three_bytes (no_role (get_or s from 0 ∷ get_or s (from + 1) 0 ∷ get_or s (from + 2) 0 ∷ []) (rw (eq-eqb (get_or s (from + 2) 0) space e)))

    three : (r : Roles) → (get_or s (from + 2) 0 ≡ space → ⊥) → r ≡ roles_of operators (trimmed (get_or s from 0) (get_or s (from + 1) 0) (get_or s (from + 2) 0)) → r ≡ roles_of operators (take (to - from) (drop from s))
    unfolding trimmed
    three r e f = rw three_bytes (rw (ne_eqb (get_or s (from + 2) 0) space e) at f)

ruleset ways = (long, one, two_spaced, two, three_spaced, three, rules)

pub returns-then-second-eq32 : goal.returns-then-second-eq32
returns-then-second-eq32 c = search ways

pub returns-then-third-eq32 : goal.returns-then-third-eq32
returns-then-third-eq32 c = search ways

pub returns-in-1 : goal.returns-in-1
returns-in-1 c = search ways

pub returns-else-second-eq32 : goal.returns-else-second-eq32
returns-else-second-eq32 c = search ways

pub returns-else-third-eq32 : goal.returns-else-third-eq32
returns-else-third-eq32 c = search ways

pub returns-in_default : goal.returns-in_default
returns-in_default c = search ways
