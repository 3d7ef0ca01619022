-- `ffi_chunks::thrinvage_feed` meets its contract. Assumes nothing.
use Prim.Native.Nat.{ℕ}
use mathlib.Core.Path.{◌≡◌}
use mathlib.Core.List.{List}
use borrow.Author.Rules.{rules}
use Rattle.chunks.specs.Feed.{leaves, feeding}
use Rattle.chunks.specs.declared.delivery.Fed.{Fed}
use Rattle.chunks.specs.declared.delivery.Reader.{Reader}
use Rattle.fields.specs.Fields.{Outcome}
use Rattle.ffi_chunks.specs.State.{fields_of, reader_of, given_leaves, left, feeding_leaves}
use Rattle.ffi_chunks.proofs.thrinvage_feed.Goals as goal

all_left : (f w chunk d n v : List ℕ) (r : Reader) (x : Fed) (o : Outcome) → r ≡ reader_of f → leaves x v ≡ feeding r w chunk → n ≡ fields_of x.reader x.taken → o ≡ given_leaves x.given d → left o n v ≡ feeding_leaves (feeding (reader_of f) w chunk) d
unfolding feeding_leaves
all_left f w chunk d n v r x o e g h i = cc

ruleset ways = (all_left, rules)

pub returns : goal.returns
returns c = search ways
