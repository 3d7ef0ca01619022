-- `lexer::token::quoted_token` meets its contract. Assumes nothing.
use Prim.Native.Nat.{ℕ, ◌+◌}
use mathlib.Core.Path.{◌≡◌, refl, sym, ◌∙◌, ap}
use mathlib.Core.List.{List}
use native.Mathlib.Omega.{arith}
use borrow.Author.Rules.{rules}
use lib.ListN.{length}
use Rattle.lexer.specs.Cursor.{step, move_to, Valid, Movable}
use Rattle.lexer.specs.Quoted.{Quoted, decode, measured, MeasureRead, measure}
use Rattle.lexer.specs.Token.{token, quoted_to, spelled_to, found, Begins}
use Rattle.lexer.specs.declared.refusal.Fault.{Fault}
use Rattle.lexer.specs.declared.cursor.Cursor.{Cursor}
use Rattle.lexer.specs.declared.kind.Kind.{Kind}
use Rattle.lexer.specs.declared.kind.Value.TheVariants.{Nothing}
use Rattle.lexer.specs.declared.quoted.Measure.{Measure}
use Rattle.lexer.specs.declared.token.Spelling.{Spelling}
use Rattle.lexer.specs.declared.token.Found.{Found}
use Rattle.lexer.proofs.Parts.{measure_parts}
use Rattle.lexer.proofs.HandedOn.{handed_on}
use Rattle.lexer.proofs.Cursors.{movable, step-valid, move_step}
use Rattle.lexer.proofs.Looks.{Seen, look_byte}
use Rattle.lexer.proofs.QuotedItems.{decode_ends}
use Rattle.lexer.proofs.token.quoted_token.Goals as goal
use Rattle.lexer.specs.declared.quoted.Measure.{Measure}
use Rattle.lexer.specs.declared.token.Found.{Found}
use Rattle.std.specs.declared.result.Result.TheVariants.{Ok, Err}

module _ (s : List ℕ) (c : Cursor) (q : ℕ) (w : Begins s c q) where
  seen : Seen s c.offset q
  seen = look_byte s c.offset q w.there

  can_skip : Movable c
  can_skip = movable (length s) c w.valid seen.inside

  module _ (d : Cursor) (m : d ≡ step c q) where
    valid-behind : Valid (length s) d
    valid-behind = rw m (step-valid (length s) c w.valid q seen.inside)

    -- what the items come to, by what was measured behind the quote
    told : (k : Kind) (x : Quoted) → decode q c.offset s (c.offset + 1) ≡ x → (r : MeasureRead) → r ≡ measured s d x
        → ((v : Fault) → r ≡ Err v → Err v ≡ found s c (quoted_to k c.offset x))
        × ((n : ℕ) (z : Cursor) → r ≡ measure n z → spelled_to (token k Nothing c.offset) (Spelling.Decoded n) z ≡ found s c (quoted_to k c.offset x))
    unfolding quoted_to found measured
    told k (Quoted.refused v) e r f = ((λ u g. cc), (λ n z g. cc))
    told k (Quoted.whole bs end) e r f =
        let p = decode_ends q c.offset s (c.offset + 1) bs end e in
        let a = move_step s c end (omega (arith, p.ahead)) p.inside in
        let b = ap (λ (y : ℕ). move_to s (step c y) end) seen.it in
        let g : move_to s d end ≡ move_to s c end = ap (λ (y : Cursor). move_to s y end) m ∙ sym b ∙ sym a in
        ((λ u h. cc), (λ n z h. let j = measure_parts (sym h ∙ f) in cc (j.0, j.1)))

    module _ (k : Kind) (r : MeasureRead) (f : r ≡ measured s d (decode q c.offset s d.offset)) where
      behind : r ≡ measured s d (decode q c.offset s (c.offset + 1))
      behind = f ∙ ap (λ (y : Cursor). measured s d (decode q c.offset s y.offset)) m

      refused : (v : Fault) → r ≡ Err v → Err v ≡ found s c (quoted_to k c.offset (decode q c.offset s (c.offset + 1)))
      refused v g = (told k _ refl r behind).0 v g

      whole : (p : Measure) (y : Found) → r ≡ Ok p → Ok y ≡ spelled_to (token k Nothing c.offset) (Spelling.Decoded p.length) p.next
          → Ok y ≡ found s c (quoted_to k c.offset (decode q c.offset s (c.offset + 1)))
      whole p y g h = h ∙ (told k _ refl r behind).1 p.length p.next g

ruleset ways = (handed_on, can_skip, valid-behind, refused, whole, rules)

pub skip_char-requires : goal.skip_char-requires
skip_char-requires c = search ways

pub measure_quoted-requires : goal.measure_quoted-requires
measure_quoted-requires c = search ways

pub returns-in_err-length : goal.returns-in_err-length
returns-in_err-length c = search (ways, c.in_err-length.was)

pub returns : goal.returns
returns c = search (ways, c.in_ok-length.was)
