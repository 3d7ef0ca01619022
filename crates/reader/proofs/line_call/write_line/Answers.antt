-- `reader::line_call::write_line` meets its contract. Assumes nothing.
use Prim.Native.Nat.{ℕ, ◌<◌, ◌≤◌}
use mathlib.Core.Path.{◌≡◌, refl, sym, ◌∙◌, ap}
use mathlib.Core.Bool.{Bool, true, false, cond}
use mathlib.Core.List.{List}
use native.Mathlib.Omega.{arith}
use borrow.Author.Rules.{rules}
use borrow.Author.Tests.{leb-true, leb-false}
use lib.Dec.{leb}
use lib.ListN.{length}
use lib.Seq.{sets}
use Rattle.lexer.specs.Cursor.{valid}
use Rattle.lexer.specs.Refusal.{fault, refused_at}
use Rattle.lexer.specs.declared.cursor.Cursor.{Cursor}
use Rattle.lexer.specs.declared.refusal.Refusal.TheVariants as refusal
use Rattle.reader.specs.Clause.{most_tokens, first_offset}
use Rattle.reader.specs.Listing.{Within, line, Outcome, leaves, line_outcome, Listable, SomeListable, Lists, Listed}
use Rattle.reader.specs.LineCall.{LineOutcome, no_room, read, ReadTree, Spanning, Fronts, Spans, line_to}
use Rattle.lexer.specs.declared.refusal.Refused.{Refused}
use Rattle.std.specs.Prelude.{Some, None, Ok, Err}
use Rattle.reader.proofs.Lines.{lists_line}
use Rattle.reader.proofs.Spans.{Few, gathered_few}
use Rattle.reader.proofs.TreeRoom.{tree_within, spans_source}
use Rattle.reader.proofs.line_call.write_line.Goals as goal

-- what was listed, taken apart
module _ (bs d : List ℕ) where
  record Fits (n : ℕ) (d' : List ℕ) : Type 0 where
    under : length bs ≤ length d
    many : n ≡ length bs
    slice : d' ≡ sets d 0 bs

  record Over (d' : List ℕ) : Type 0 where
    above : length d < length bs
    slice : d' ≡ d

  abbrev told : Bool → Outcome
  told b = cond b (leaves (Some (length bs)) (sets d 0 bs)) (leaves None d)

  fits_line : (n : ℕ) (d' : List ℕ) → leaves (Some n) d' ≡ line_outcome bs d → Fits n d'
  unfolding line_outcome
  fits_line n d' h = go (leb (length bs) (length d)) refl h
    where
      go : (b : Bool) → leb (length bs) (length d) ≡ b → leaves (Some n) d' ≡ told b → Fits n d'
      go true l g = record { under = leb-true (length bs) (length d) l; many = cc; slice = cc }
      go false l g = let z : ◌≡◌ {A = ℕ} 0 1 = cc in absurd (omega arith)

  over-line : (d' : List ℕ) → leaves None d' ≡ line_outcome bs d → Over d'
  unfolding line_outcome
  over-line d' h = go (leb (length bs) (length d)) refl h
    where
      go : (b : Bool) → leb (length bs) (length d) ≡ b → leaves None d' ≡ told b → Over d'
      go true l g = let z : ◌≡◌ {A = ℕ} 0 1 = cc in absurd (omega arith)
      go false l g = record { above = leb-false (length bs) (length d) l; slice = cc }

module _ (s : List ℕ) (c : Cursor) (ms : List ℕ) (nodes : ℕ) (e : Cursor) (w : ReadTree s c ms nodes e) where
  begins : valid (length s) c ≡ true
  begins = w.valid_cursor

  spanning : (starts ends : List ℕ) → length starts ≡ 1024 → length ends ≡ 1024 → Spanning s c starts ends
  spanning starts ends f g = record { valid_cursor = w.valid_cursor; started = f; ended = g }

  few : Few s c most_tokens w.tokens e
  few = gathered_few most_tokens s c w.tokens e w.valid_cursor w.gathered

  within : Within (length w.tokens) w.tree
  within = tree_within s c w.tokens e w.valid_cursor w.gathered w.tree w.reads

  module _ (starts ends : List ℕ) (p : Spans s c starts ends) (f : length starts ≡ 1024) (g : length ends ≡ 1024) where
    its : Fronts w.tokens starts ends
    its = p.fronts w.tokens e w.gathered

    listable_at : Listable s starts ends ms nodes w.tree
    listable_at =
        record {
          tokens = length w.tokens;
          source =
              spans_source s c w.tokens e w.valid_cursor w.gathered starts ends p (omega arith) (omega arith);
          within = within;
          whole = w.inside;
          same = w.same;
        }

    listable : SomeListable s starts ends ms nodes
    listable = record { tree = w.tree; is = listable_at }

    module _ (d : List ℕ) (r : Listed) (d' : List ℕ) (h : Lists s starts ends ms nodes d r d') where
      its_line : leaves r d' ≡ line_outcome (line s w.tokens w.tree) d
      its_line = lists_line s starts ends w.tokens its.starts_same its.ends_same few.told ms nodes d r d' w.tree listable_at within h

      listed : (n : ℕ) → r ≡ Some n → LineOutcome s c d (Ok (line_to n e)) d'
      listed n k =
          let m = fits_line (line s w.tokens w.tree) d n d' (ap (λ (x : Listed). leaves x d') (sym k) ∙ its_line) in
          rw (m.many, m.slice) (read w.valid_cursor w.gathered w.reads m.under)

      over : (at : ℕ) (x : Refused) → r ≡ None → at ≡ first_offset s c → x ≡ refused_at (fault refusal.NoRoom at) c → LineOutcome s c d (Err x) d'
      over at x k o q =
          let m = over-line (line s w.tokens w.tree) d d' (ap (λ (x : Listed). leaves x d') (sym k) ∙ its_line) in
          rw (q, o, m.slice) (no_room w.valid_cursor w.gathered w.reads m.above)

ruleset ways = (begins, spanning, listable, listed, over, rules)

pub returns-in-Some : goal.returns-in-Some
returns-in-Some c = search ways

pub returns-in-None : goal.returns-in-None
returns-in-None c = search ways

pub list_line-requires : goal.list_line-requires
list_line-requires c = search ways
