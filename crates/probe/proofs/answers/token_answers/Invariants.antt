-- `token_answers` is safe and ends. The measure is what lies behind the cursor. Assumes nothing.
use Rattle.std.proofs.Common.{◌-◌, length}
use Rattle.probe.proofs.answers.token_answers.Given as goal

abbrev pub decreases-loop-read : goal.decreases-loop-read
decreases-loop-read l = length l.text - l.at.offset
