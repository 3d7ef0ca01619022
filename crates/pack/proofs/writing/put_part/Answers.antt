-- `pack::writing::put_part` meets its contract. Assumes nothing.
use Rattle.std.proofs.Common.{arith, ◌+◌, ◌-◌, ◌≡◌, ◌++◌, length, take, drop, ℕ, List, sym, ap, ◌∙◌}
use mathlib.Core.List.{append_assoc}
use Rattle.std.proofs.lemmas.List.Edits.{sets, sets-eq}
use Rattle.std.proofs.lemmas.List.{drop-drop}
use Rattle.pack.specs.Passes.{PutPart}
use Rattle.pack.proofs.Basics.{part_length}
use Rattle.pack.proofs.writing.put_part.Goals as goal

put : (bytes out : List ℕ) (from size at : ℕ) (p : List ℕ) → PutPart (length bytes) from size (length out) at → p ≡ take (from + size - from) (drop from bytes)
    → take at out ++ (p ++ drop (at + size - at) (drop at out)) ≡ sets out at (take size (drop from bytes))
put bytes out from size at p h e =
    let q = take size (drop from bytes) in
    let f : from + size - from ≡ size = omega arith in
    let k : at + size - at ≡ size = omega arith in
    let l : length q ≡ size = part_length from size bytes h.read in
    let m : at + size ≡ at + length q = omega (arith, l) in
    ap (λ (z : List ℕ). take at out ++ (z ++ drop (at + size - at) (drop at out))) (e ∙ ap (λ (n : ℕ). take n (drop from bytes)) f)
    ∙ ap (λ (z : List ℕ). take at out ++ (q ++ z)) (ap (λ (n : ℕ). drop n (drop at out)) k ∙ drop-drop size at out ∙ ap (λ (n : ℕ). drop n out) m)
    ∙ sym (append_assoc (take at out) q (drop (at + length q) out)) ∙ sym (sets-eq q out at (omega (arith, l, h.write)))

pub returns : goal.returns
returns c = put c.args.bytes.now c.args.out.now c.args.from c.args.size c.args.at c.copy_slice.new.to c.requires c.copy_slice.ensures.after
