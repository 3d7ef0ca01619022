-- A token that was read moves the cursor on, within the text, and so do a layout text and a clause: why a run of calls ends. Assumes nothing.
use Prim.Native.Nat.{ℕ, ◌-◌, ◌<◌}
use mathlib.Core.Path.{◌≡◌, sym, ◌∙◌}
use mathlib.Core.List.{List}
use native.Mathlib.Omega.{arith}
use lib.ListN.{length}
use Rattle.lexer.specs.LayoutCall.{next_layout, LayoutAnswer}
use Rattle.lexer.specs.Token.{next_token, Answer}
use Rattle.lexer.specs.declared.cursor.Cursor.{Cursor}
use Rattle.lexer.specs.declared.layout_call.LayoutKind.{LayoutKind}
use Rattle.lexer.specs.declared.token.TokenRead.{TokenRead}
use Rattle.lexer.specs.declared.token.Source.TheVariants.{File}
use Rattle.lexer.proofs.Theorems.{token_promises, layout_promises}
use Rattle.probe.specs.Nearer.{Nearer}
use Rattle.reader.specs.Clause.{Outcome, ClauseAnswer}
use Rattle.reader.proofs.Theorems.{next_cursor}
use Rattle.lexer.specs.declared.layout_call.LayoutRead.{LayoutRead}
use Rattle.std.specs.declared.result.Result.TheVariants.{Ok}

-- less lies behind the new cursor than behind the old one
pub nearer : (s : List ℕ) (c : Cursor) (r : TokenRead) (a : Answer) → a ≡ next_token File s c → a ≡ Ok r → length s - r.next.offset < length s - c.offset
nearer s c r a e g = let p = token_promises s c File r.token r.next (sym e ∙ g) in omega (arith, p.further, p.inside)

pub layout_nearer : (s : List ℕ) (c n : Cursor) (k : LayoutKind) (o : ℕ) (a : LayoutAnswer) → a ≡ next_layout s c → a ≡ Ok (LayoutRead.Text k o n) → length s - n.offset < length s - c.offset
layout_nearer s c n k o a e g = let p = layout_promises s c k o n (sym e ∙ g) in omega (arith, p.starts, p.ahead, p.next.offset)

pub clause_nearer : (s : List ℕ) (c : Cursor) (d x : List ℕ) (a : ClauseAnswer) → Outcome s c d a x → Nearer s c a
clause_nearer s c d x a o r g = let p = next_cursor s c d {n = r.nodes} {e = r.next} {x = x} (rw g at o) in omega (arith, p.1, p.2)
