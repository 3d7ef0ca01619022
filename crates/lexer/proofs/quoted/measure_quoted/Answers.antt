use borrow.Author.Rules.{rules}
use Rattle.lexer.proofs.HandedOn.{handed_on}
use Rattle.lexer.proofs.quoted.measure_quoted.Invariants.{begin, stretch_before, stretch_along, stretch_fits, refuse, close-along, out, done, skip_first, skip_second, skip, skip_less, char_along, char_fits, char, char_less, beyond-along, out-of-limit, beyond_less}
use Rattle.lexer.proofs.quoted.measure_quoted.Goals as goal

ruleset ways = (
  handed_on,
  begin,
  stretch_before,
  stretch_fits,
  stretch_along,
  refuse,
  close-along,
  out,
  done,
  skip_first,
  skip_second,
  skip,
  skip_less,
  char_along,
  char_fits,
  char,
  char_less,
  beyond-along,
  out-of-limit,
  beyond_less,
  rules,
)

pub loop-next-init : goal.loop-next-init
loop-next-init c = search ways

pub overflow_sub-n : goal.overflow_sub-n
overflow_sub-n c = search ways

pub skip_along-c-requires : goal.skip_along-c-requires
skip_along-c-requires c = search ways

pub returns-in_err-next : goal.returns-in_err-next
returns-in_err-next c = handed_on c.from_residual.ensures.1 (search (ways, c.in_err-next.ensures))

pub returns-then-beyond : goal.returns-then-beyond
returns-then-beyond c = search (ways, c.in_ok-next.ensures)

pub skip_along-requires : goal.skip_along-requires
skip_along-requires c = search (ways, c.in_ok-next.ensures)

pub returns-in-Close : goal.returns-in-Close
returns-in-Close c = search (ways, c.in_ok-next.ensures)

pub skip_char-requires : goal.skip_char-requires
skip_char-requires c = search (ways, c.in_ok-next.ensures)

pub skip_char-c-requires : goal.skip_char-c-requires
skip_char-c-requires c = search (ways, c.in_ok-next.ensures)

pub loop-next-smaller-in-Skip : goal.loop-next-smaller-in-Skip
loop-next-smaller-in-Skip c = search (ways, c.in_ok-next.ensures)

pub loop-next-preserved-in-Skip : goal.loop-next-preserved-in-Skip
loop-next-preserved-in-Skip c = search (ways, c.in_ok-next.ensures)

pub skip_along-c-requires-in-Char : goal.skip_along-c-requires-in-Char
skip_along-c-requires-in-Char c = search (ways, c.in_ok-next.ensures)

pub overflow_add-n-in-Char : goal.overflow_add-n-in-Char
overflow_add-n-in-Char c = search ways

pub loop-next-smaller-in-Char : goal.loop-next-smaller-in-Char
loop-next-smaller-in-Char c = search (ways, c.in_ok-next.ensures)

pub loop-next-preserved-in-Char : goal.loop-next-preserved-in-Char
loop-next-preserved-in-Char c = search (ways, c.in_ok-next.ensures)

pub skip_along-c-requires-in-Beyond : goal.skip_along-c-requires-in-Beyond
skip_along-c-requires-in-Beyond c = search (ways, c.in_ok-next.ensures)

pub loop-next-smaller : goal.loop-next-smaller
loop-next-smaller c = search (ways, c.in_ok-next.ensures)

pub loop-next-preserved : goal.loop-next-preserved
loop-next-preserved c = search (ways, c.in_ok-next.ensures)
