-- `pack::moves::move_pack` meets its contract. Assumes nothing.
use Prim.Native.Nat.{ℕ, ◌+◌, ◌-◌, ◌≤◌}
use mathlib.Core.Path.{◌≡◌, ap, sym, ◌∙◌, subst}
use mathlib.Core.List.{List}
use native.Mathlib.Omega.{arith}
use borrow.Author.Rules.{rules}
use Rattle.std.proofs.lemmas.Result.{err_from_is_err_and}
use lib.ListN.{length, take, drop, length-drop}
use lib.Seq.{sets, take_all}
use Rattle.lexer.specs.declared.refusal.Fault.{Fault}
use Rattle.pack.specs.Node.{Node}
use Rattle.pack.specs.Image.{nodes_bytes, body}
use Rattle.pack.specs.Calls.{begins, Written}
use Rattle.pack.specs.Passes.{PutPart, Light, PackBegun, SomePack, PackMoved}
use Rattle.pack.specs.declared.format.Form.{Form}
use Rattle.pack.specs.Answers.{PackAnswer}
use Rattle.std.specs.declared.result.Result.TheVariants.{Ok, Err}
use Rattle.pack.specs.declared.answers.Unpacked.{Unpacked}
use Rattle.pack.proofs.Images.{body-length, pack_length, pack_long, pack-nodes, pack_one}
use Rattle.pack.proofs.Packs.{begun-refused, begun-packed, begun_roomy}
use Rattle.pack.proofs.moves.move_pack.Goals as goal

module _ (i : List ℕ) (u : Unpacked) (p : SomePack i u) (from : ℕ) (e : from ≡ begins u.form) where
  abbrev ns : List Node
  ns = p.nodes

  long : from ≤ length i
  long = omega (arith, e, pack_long u.form i ns p.is)

  -- the nodes' bytes
  rest : drop from i ≡ nodes_bytes ns
  rest = ap (λ (k : ℕ). drop k i) e ∙ pack-nodes u.form i ns p.is

  size_is : length i - from ≡ length (nodes_bytes ns)
  size_is = sym (length-drop from i) ∙ ap length rest

  light : Light u.count (length i - from)
  light = record { few = omega (arith, p.count, p.is.acceptable.few); light = omega (arith, pack_length u.form i ns p.is, p.is.fits) }

  module _ (g : Form) where
    body_is : length (body g ns) ≡ begins g - 3 + (length i - from)
    body_is = omega (arith, body-length g ns, size_is)

    -- whichever nodes are meant
    whichever : {d d' : List ℕ} {r : PackAnswer} → Written g ns d r d' → PackMoved i u.form g d r d'
    whichever {d} {d'} {r} w = record { left = λ ms q. subst (λ (z : List Node). Written g z d r d') (pack_one u.form u.form i ns ms p.is q) w }

    module _ (d d' : List ℕ) (r : PackAnswer) (o : PackBegun g u.count (begins g - 3 + (length i - from)) d r d') where
      refused : (q : Fault) → r ≡ Err q → PackMoved i u.form g d (Err q) d'
      refused q x = whichever (begun-refused g ns u.count (begins g - 3 + (length i - from)) p.count body_is d d' r o q x)

      module _ (l : ℕ) (x : r ≡ Ok l) (at : ℕ) (k : at ≡ begins g) where
        part_asked : PutPart (length i) from (length i - from) (length d') at
        part_asked =
            let m = begun_roomy g ns u.count (begins g - 3 + (length i - from)) p.count body_is d d' r o l x in
            record { read = omega (arith, long); write = omega (arith, k, m.fits) }

        packed : (d'' : List ℕ) → d'' ≡ sets d' at (take (length i - from) (drop from i)) → PackMoved i u.form g d (Ok l) d''
        packed d'' y =
            let a : take (length i - from) (drop from i) ≡ drop from i = take_all (length i - from) (drop from i) (omega (arith, length-drop from i)) in
            whichever
            (begun-packed g ns u.count (begins g - 3 + (length i - from)) p.count body_is d d' r o l x d''
            (y ∙ ap (λ (z : ℕ). sets d' z (take (length i - from) (drop from i))) k ∙ ap (sets d' (begins g)) (a ∙ rest)))

ruleset ways = (long, light, refused, part_asked, packed, rules)

pub returns-in_err-length : goal.returns-in_err-length
returns-in_err-length c =
    let p = err_from_is_err_and c.from_residual.result c.from_residual.ensures.1 in rw (p.1, p.2)
    (refused c.args.image.now c.args.pack c.requires c.first_node-from.result c.first_node-from.ensures c.args.to c.args.out.now c.begin_pack.new.out c.begin_pack.result c.begin_pack.ensures _ c.in_err-length.was)

pub returns : goal.returns
returns c = search ways

pub overflow_sub-size : goal.overflow_sub-size
overflow_sub-size c = search ways

pub begin_pack-requires : goal.begin_pack-requires
begin_pack-requires c = search ways

pub put_part-requires : goal.put_part-requires
put_part-requires c =
    part_asked c.args.image.now c.args.pack c.requires c.first_node-from.result c.first_node-from.ensures c.args.to c.args.out.now c.begin_pack.new.out c.begin_pack.result c.begin_pack.ensures _ c.in_ok-length.was c.first_node.result c.first_node.ensures
