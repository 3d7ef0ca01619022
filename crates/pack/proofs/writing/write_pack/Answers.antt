-- `pack::writing::write_pack` meets its contract. Assumes nothing.
use Prim.Native.Nat.{ℕ, ◌+◌, ◌-◌}
use mathlib.Core.Path.{◌≡◌, ap, ◌∙◌}
use mathlib.Core.List.{List}
use native.Mathlib.Omega.{arith}
use borrow.Author.Rules.{rules}
use lib.ListN.{length}
use lib.Seq.{sets}
use Rattle.lexer.specs.declared.refusal.Fault.{Fault}
use Rattle.pack.specs.Node.{Node}
use Rattle.pack.specs.Image.{body}
use Rattle.pack.specs.Calls.{begins, PackOutcome}
use Rattle.pack.specs.Passes.{laid, PutNodes, Weighs, Light, PackBegun}
use Rattle.pack.specs.declared.format.Form.{Form}
use Rattle.pack.specs.Answers.{PackAnswer}
use Rattle.std.specs.declared.result.Result.TheVariants.{Ok, Err}
use Rattle.pack.proofs.Images.{body-length}
use Rattle.pack.proofs.Weights.{weight_light, names_laid}
use Rattle.pack.proofs.Packs.{begun-refused, begun-packed, begun_roomy, found, counted, pack_written}
use Rattle.pack.proofs.writing.write_pack.Goals as goal

module _ (bytes ns : List ℕ) (count size : ℕ) (w : Weighs bytes ns count size) where
  light : Light count size
  light = record { few = w.few; light = omega (arith, weight_light bytes count ns size w.weighs, w.few) }

  abbrev nodes : List Node
  nodes = (found bytes ns count size w).nodes

  count-is : length nodes ≡ count
  count-is = counted bytes ns count size w

  module _ (f : Form) where
    body_is : length (body f nodes) ≡ begins f - 3 + size
    body_is = omega (arith, body-length f nodes, (found bytes ns count size w).size)

    module _ (d d' : List ℕ) (r : PackAnswer) (o : PackBegun f count (begins f - 3 + size) d r d') where
      refused : (q : Fault) → r ≡ Err q → PackOutcome f bytes ns count d (Err q) d'
      refused q x = pack_written bytes ns count size w f (begun-refused f nodes count (begins f - 3 + size) count-is body_is d d' r o q x)

      module _ (l : ℕ) (x : r ≡ Ok l) (at : ℕ) (e : at ≡ begins f) where
        nodes_asked : PutNodes bytes ns count (length d') at
        nodes_asked =
            let m = begun_roomy f nodes count (begins f - 3 + size) count-is body_is d d' r o l x in
            record {
              trees = 0;
              before = 0;
              all = size;
              weighs = w.weighs;
              few = omega (arith, w.few);
              inside = w.inside;
              fits = omega (arith, e, m.fits);
              small = omega (arith, e, m.small);
            }

        packed : (d'' : List ℕ) → d'' ≡ sets d' at (laid bytes count ns) → PackOutcome f bytes ns count d (Ok l) d''
        packed d'' y =
            pack_written bytes ns count size w f
            (begun-packed f nodes count (begins f - 3 + size) count-is body_is d d' r o l x d''
            (y ∙ ap (λ (k : ℕ). sets d' k (laid bytes count ns)) e ∙ ap (sets d' (begins f)) (names_laid (found bytes ns count size w).names)))

ruleset ways = (light, refused, nodes_asked, packed, rules)

pub returns-in_err-length : goal.returns-in_err-length
returns-in_err-length c = search ways

pub returns : goal.returns
returns c = search ways

pub begin_pack-requires : goal.begin_pack-requires
begin_pack-requires c = search ways
