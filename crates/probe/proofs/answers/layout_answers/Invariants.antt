-- `layout_answers` is safe and ends. The measure is what lies behind the cursor. Assumes nothing.
use Rattle.std.proofs.Common.{◌-◌, length}
use Rattle.probe.proofs.answers.layout_answers.Given as goal

abbrev pub decreases-loop-kind : goal.decreases-loop-kind
decreases-loop-kind l = length l.text - l.at.offset
