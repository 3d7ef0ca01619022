-- `reader::clause::quoted_roles` meets its contract: the name's bytes are in the scratch, or they are too many for an operator. Assumes nothing.
use Prim.Native.Nat.{ℕ, ◌-◌, ◌≤◌}
use mathlib.Core.Path.{◌≡◌, refl, ◌∙◌, ap}
use mathlib.Core.Bool.{Bool, true, false, cond}
use mathlib.Core.List.{List}
use native.Mathlib.Omega.{arith}
use borrow.Author.Rules.{rules}
use borrow.Author.Tests.{leb-true, leb-false}
use lib.Dec.{leb}
use lib.ListN.{length, take, drop}
use lib.Seq.{sets, length-sets}
use Rattle.lexer.specs.Quoted.{Quoted, bytes_of}
use Rattle.lexer.specs.Refusal.{fault}
use Rattle.lexer.specs.Text.{Counted, counts, counted_text, quoted_text, QuotedAnswer}
use Rattle.lexer.specs.declared.refusal.Fault.{Fault}
use Rattle.lexer.specs.declared.refusal.Refusal.TheVariants.{NoRoom}
use Rattle.lexer.proofs.Theorems.{quoted_decoded}
use Rattle.reader.specs.Ops.{operators}
use Rattle.reader.specs.Roles.{roles_of}
use Rattle.reader.specs.Names.{Part}
use Rattle.reader.specs.Gather.{quoted_bytes, QuotedAt}
use Rattle.reader.specs.declared.roles.Roles.{Roles}
use Rattle.reader.proofs.Finding.{no_roles, long_name}
use Rattle.reader.proofs.Puts.{sets-front}
use Rattle.reader.proofs.clause.quoted_roles.Goals as goal
use Rattle.std.specs.declared.result.Result.TheVariants.{Ok, Err}

-- the bytes bs were written to the front of d, which is d' now, and n were counted
record Written (d bs d' : List ℕ) (n : ℕ) : Type 0 where
  room : length bs ≤ length d
  count : n ≡ length bs
  left : d' ≡ sets d 0 bs

module _ (s : List ℕ) (at : ℕ) (q : QuotedAt s at) where
  its_bytes : quoted_bytes s at ≡ q.bytes
  unfolding bytes_of
  its_bytes = ap bytes_of q.decodes

  told : (d : List ℕ) → quoted_text s at d ≡ counted_text at d (Quoted.whole q.bytes q.end)
  told d = cc (quoted_decoded s at q.short q.inside q.quote d, q.quote, q.decodes)

  module _ (d d' : List ℕ) (a : QuotedAnswer) (f : counts a d' ≡ quoted_text s at d) where
    -- the answer, by the room
    by_room : Bool → Counted
    by_room b = cond b (counts (Ok (length q.bytes)) (sets d 0 q.bytes)) (counts (Err (fault NoRoom at)) d)

    by-room : counts a d' ≡ by_room (leb (length q.bytes) (length d))
    unfolding counted_text by_room
    by-room = f ∙ told d

    module _ (n : ℕ) (e : a ≡ Ok n) where
      written : Written d q.bytes d' n
      unfolding by_room
      written = go (leb (length q.bytes) (length d)) refl by-room
        where
          go : (b : Bool) → leb (length q.bytes) (length d) ≡ b → counts a d' ≡ by_room b → Written d q.bytes d' n
          go true l g = record { room = leb-true (length q.bytes) (length d) l; count = cc; left = cc }
          go false l g = let z : ◌≡◌ {A = ℕ} 0 1 = cc in absurd (omega arith)

      there : Part d' 0 n
      there =
          let w = written in
          let k : length d' ≡ length d = ap length w.left ∙ length-sets d 0 q.bytes in
          record { ahead = omega arith; inside = omega (arith, w.room, w.count) }

      found : (x : Roles) → x ≡ roles_of operators (take (n - 0) (drop 0 d')) → x ≡ roles_of operators (quoted_bytes s at)
      found x g = named written
        where
          named : Written d q.bytes d' n → x ≡ roles_of operators (quoted_bytes s at)
          named w =
              let k : n - 0 ≡ length q.bytes = omega (arith, w.count) in
              cc (its_bytes, w.left, sets-front d q.bytes w.room)

    -- no operator has more than three bytes
    no_operator : (w : Fault) → a ≡ Err w → length d ≡ 3 → no_roles ≡ roles_of operators (quoted_bytes s at)
    unfolding by_room
    no_operator w e l = rw its_bytes (go (leb (length q.bytes) (length d)) refl by-room)
      where
        go : (b : Bool) → leb (length q.bytes) (length d) ≡ b → counts a d' ≡ by_room b → no_roles ≡ roles_of operators q.bytes
        go true k g = let z : ◌≡◌ {A = ℕ} 0 1 = cc in absurd (omega arith)
        go false k g =
            let h = leb-false (length q.bytes) (length d) k in
            long_name q.bytes (λ z. omega arith) (λ z. omega arith) (λ z. omega arith)

ruleset ways = (there, found, no_operator, rules)

pub returns-in-Err : goal.returns-in-Err
returns-in-Err c = search ways

pub returns-in-Ok : goal.returns-in-Ok
returns-in-Ok c = search ways

pub roles_of-requires : goal.roles_of-requires
roles_of-requires c = search ways
