-- `pack::reading::list_pack` meets its contract. Assumes nothing.
use Prim.Native.Nat.{ℕ, ◌/◌, ◌<◌, ◌≤◌}
use mathlib.Core.Path.{◌≡◌, sym, ◌∙◌, ap, subst}
use mathlib.Core.Bool.{true}
use mathlib.Core.List.{List}
use native.Mathlib.Omega.{arith}
use borrow.Author.Rules.{rules}
use lib.ListN.{length, drop}
use lib.Seq.{sets}
use Rattle.lexer.specs.Refusal.{fault}
use Rattle.lexer.specs.declared.refusal.Refusal.TheVariants.{NoRoom}
use Rattle.pack.specs.Node.{Node}
use Rattle.pack.specs.Image.{IsPack}
use Rattle.pack.specs.Calls.{begins, parts, Listed, unpacked}
use Rattle.pack.specs.Passes.{scanned, listed, Listing, SomePack, PackListed}
use Rattle.pack.specs.Answers.{unpacked_as}
use Rattle.std.specs.declared.result.Result.TheVariants.{Ok, Err}
use Rattle.pack.specs.declared.answers.Unpacked.{Unpacked}
use Rattle.pack.proofs.Images.{pack_listed, pack_scanned, pack_length, pack_long, pack_one}
use Rattle.pack.proofs.reading.list_pack.Goals as goal

module _ (i : List ℕ) (u : Unpacked) (d : List ℕ) (p : SomePack i u) where
  -- any other pack in the image has as many nodes
  as_many : (ns : List Node) → IsPack u.form i ns → length ns ≡ u.count
  as_many ns q = ap length (pack_one u.form u.form i ns p.nodes q p.is) ∙ p.count

  short : length d / 4 < u.count → PackListed i u.form d (Err (fault NoRoom 0)) d
  short h = record { left = λ ns q. Listed.no_room (omega (arith, as_many ns q)) }

  module _ (h : u.count ≤ length d / 4) (from : ℕ) (e : from ≡ begins u.form) where
    listing : Listing i from u.count d
    listing =
        let k = p.count in
        let x : scanned u.count 0 (drop from i) ≡ true = cc (pack_scanned u.form i p.nodes p.is, k, e) in
        record {
          reading =
              record {
                trees = 0;
                reads = x;
                inside = omega (arith, e, pack_long u.form i p.nodes p.is);
                short = omega (arith, pack_length u.form i p.nodes p.is, p.is.fits);
              };
          room = omega arith;
        }

    done : (d' : List ℕ) → d' ≡ sets d 0 (listed u.count from (drop from i)) → PackListed i u.form d (Ok u) d'
    done d' l =
        record {
          left =
              λ ns q.
              let k = as_many ns q in
              let x : d' ≡ sets d 0 (parts (begins u.form) ns) = cc (l, pack_listed u.form i ns q, k, e) in
              let o : Listed u.form ns d (unpacked_as u.form (length ns)) (sets d 0 (parts (begins u.form) ns)) = unpacked (omega (arith, k)) in
              subst (λ (y : List ℕ). Listed u.form ns d (unpacked_as u.form u.count) y) (sym x)
              (subst (λ (m : ℕ). Listed u.form ns d (unpacked_as u.form m) (sets d 0 (parts (begins u.form) ns))) k o);
        }

ruleset ways = (short, listing, done, rules)

pub returns-then-nodes-pack : goal.returns-then-nodes-pack
returns-then-nodes-pack c = search ways

pub returns : goal.returns
returns c = search ways

pub put_numbers-requires : goal.put_numbers-requires
put_numbers-requires c = search ways
