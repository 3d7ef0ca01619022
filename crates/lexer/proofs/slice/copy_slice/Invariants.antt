-- `lexer::slice::copy_slice` meets its contract. Assumes nothing.
use Rattle.std.proofs.Common.{◌≡◌}
use Rattle.std.proofs.Math.Seq.{paste}
use Rattle.lexer.proofs.slice.copy_slice.Given as goal

-- the first i items are copied
abbrev pub invariant-loop-i : goal.invariant-loop-i
invariant-loop-i g l = l.to ≡ paste l.initial.to 0 l.from l.i
