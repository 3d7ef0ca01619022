-- `lexer::slice::copy_slice` meets its contract. Assumes nothing.
use Rattle.std.proofs.Common.{◌≡◌, ◌+◌, slice_index_or, slice_set, ap, ◌∙◌, arith}
use Rattle.std.proofs.Math.Seq.{paste}
use Rattle.std.proofs.lemmas.List.Edits.{paste_more}
use Rattle.lexer.proofs.slice.copy_slice.Goals as goal

-- a turn copies one more
pub loop-i-preserved : goal.loop-i-preserved
loop-i-preserved g c =
    let done = paste c.args.to.now 0 c.args.from.now c.loop-i.i in
    let item = slice_index_or c.args.from.now c.loop-i.i c.index-from-i.result in
    let here : c.loop-i.i ≡ 0 + c.loop-i.i = omega arith in
    let one_more = paste_more c.args.to.now 0 c.args.from.now c.loop-i.i c.index-from-i.result (omega (arith, c.requires, c.loop-i-test.true)) (omega (arith, c.loop-i-test.true)) in
    ap (λ w. slice_set w c.loop-i.i c.index-from-i.result) c.loop-i.invariant
    ∙ ap (slice_set done c.loop-i.i) c.index-from-i.is
    ∙ ap (λ j. slice_set done j item) here
    ∙ one_more
