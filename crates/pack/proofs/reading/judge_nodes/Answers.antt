-- `pack::reading::judge_nodes` meets its contract. Assumes nothing.
use Prim.Native.Nat.{ℕ}
use mathlib.Core.Path.{◌≡◌, sym, ap, ◌∙◌, subst}
use mathlib.Core.List.{List}
use native.Mathlib.Omega.{arith}
use borrow.Author.Rules.{rules}
use Rattle.std.specs.Result.{result_ok}
use Rattle.lexer.specs.Refusal.{fault}
use Rattle.lexer.specs.declared.refusal.Refusal.TheVariants.{NoPack}
use Rattle.pack.specs.Passes.{Inside, counted, Skips, line_size, form_in, Begins, Judgement}
use Rattle.pack.specs.declared.format.Form.{Form}
use Rattle.pack.specs.declared.format.Version.{Version}
use Rattle.pack.specs.Answers.{unpacked_as}
use Rattle.std.specs.declared.option.Option.{Option}
use Rattle.std.specs.declared.option.Option.TheVariants.{Some, None}
use Rattle.std.specs.declared.result.Result.TheVariants.{Err}
use Rattle.pack.proofs.Images.{counts}
use Rattle.pack.proofs.Judging.{judge_none, judge_pack}
use Rattle.pack.proofs.reading.judge_nodes.Goals as goal

skips : (v : Version) (k : ℕ) → k ≡ line_size v → Skips k
skips Version.One k e = record { small = omega arith }
skips Version.Two k e = record { small = omega arith }

module _ (i : List ℕ) (v : Version) (b : Begins i v) (k : ℕ) (e : k ≡ line_size v) (c : Option ℕ) (f : c ≡ counted k i) where
  here : counted (line_size v) i ≡ c
  here = ap (λ (n : ℕ). counted n i) (sym e) ∙ sym f

  none : c ≡ None → Judgement v i (Err (fault NoPack 0))
  none g = judge_none v i b.same (here ∙ g)

  module _ (n : ℕ) (g : c ≡ Some n) where
    inside : Inside i 0 5
    inside = record { inside = omega (arith, (counts (line_size v) i n (here ∙ g)).long) }

    pack : (r : Form) → r ≡ form_in v i → Judgement v i (unpacked_as r n)
    pack r q = subst (λ (z : Form). Judgement v i (unpacked_as z n)) (sym q) (judge_pack v i b.same (record { below = b.bytes }) n (here ∙ g))

ruleset ways = (skips, none, inside, pack, rules)

pub returns-in_err-count : goal.returns-in_err-count
returns-in_err-count c = search ways

pub returns : goal.returns
returns c = search ways

pub form_in-requires : goal.form_in-requires
form_in-requires c =
    inside c.args.image.now c.args.version c.requires c.line_size.result c.line_size.ensures c.count_nodes.result c.count_nodes.ensures c.in_ok-count.count
    (c.ok_or.ensures.ok_part ∙ ap result_ok c.in_ok-count.was)
