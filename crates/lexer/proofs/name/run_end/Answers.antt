use Rattle.std.proofs.Common.{rules}
use Rattle.lexer.proofs.Runs.{run-ended, run-stops, run-on}
use Rattle.lexer.proofs.name.run_end.Goals as goal

ruleset ways = (run-stops, run-on, run-ended, rules)

pub loop-at-preserved : goal.loop-at-preserved
loop-at-preserved g c = search ways

pub returns-then-not-contains : goal.returns-then-not-contains
returns-then-not-contains g c =
    run-stops _ _ _ _ _ c.loop-at.invariant _ c.loop-at-test.true c.contains.ensures _ (search rules) c.run_stop.ensures

pub returns : goal.returns
returns g c = search (ways, c.loop-at.auto.at-end)
