-- `pack::clause_call::pack_read` meets its contract. Assumes nothing.
use Prim.Native.Nat.{ℕ, ◌+◌, ◌*◌, ◌≤◌}
use mathlib.Core.Path.{◌≡◌, sym, ◌∙◌, ap, subst}
use mathlib.Core.List.{List, ◌++◌, append-nil}
use native.Mathlib.Omega.{arith}
use borrow.Author.Rules.{rules}
use lib.ListN.{length, get_or, drop, take-append-drop}
use lib.Seq.{length-take-le}
use Rattle.lexer.specs.declared.cursor.Cursor.{Cursor}
use Rattle.lexer.specs.declared.refusal.Fault.{Fault}
use Rattle.reader.specs.Tree.{numbers}
use Rattle.reader.specs.Clause.{first_offset}
use Rattle.reader.specs.Listing.{Within, Source}
use Rattle.reader.specs.LineCall.{ReadTree, Spanning, Spans}
use Rattle.reader.proofs.Theorems.{clause_within, span_first, span_part, span_source}
use Rattle.pack.specs.Node.{Node, most_nodes}
use Rattle.pack.specs.Calls.{Written}
use Rattle.pack.specs.ClauseCall.{pack_nodes, source_of, clause_nodes, ClauseAt, form_at, clause_form, told, ClausePack, written}
use Rattle.pack.specs.Walk.{Lying, nothing, Walk, nodes_of, Ahead}
use Rattle.pack.specs.declared.format.Form.{Form}
use Rattle.pack.specs.declared.format.Version.{Version}
use Rattle.pack.specs.Answers.{PackAnswer, packed_as}
use Rattle.std.specs.declared.result.Result.TheVariants.{Ok, Err}
use Rattle.pack.proofs.Clauses.{size, numbers_size, clause_size, lying_tree, spanned, nodes_tree, nodes-same}
use Rattle.pack.proofs.Lines.{clause_ahead}
use Rattle.lexer.specs.Refusal.{refuse}
use Rattle.pack.proofs.clause_call.pack_read.Goals as goal

module _ (s : List ℕ) (c : Cursor) (ms : List ℕ) (nodes : ℕ) (e : Cursor) (w : ReadTree s c ms nodes e) where
  spanning : (starts ends : List ℕ) → length starts ≡ 1024 → length ends ≡ 1024 → Spanning s c starts ends
  spanning starts ends f g = record { valid_cursor = w.valid_cursor; started = f; ended = g }

  at : ClauseAt s c w.tokens e w.tree
  at = record { valid_cursor = w.valid_cursor; gathered = w.gathered; reads = w.reads }

  within : Within (length w.tokens) w.tree
  within = clause_within s c w.tokens e w.valid_cursor w.gathered w.tree w.reads

  size_is : nodes ≡ size w.tree
  size_is = omega (arith, numbers_size w.tree, ap length w.same, length-take-le (nodes * 2) ms w.inside)

  small : nodes ≤ most_nodes
  small = omega (arith, size_is, clause_size s c w.tokens e w.tree at)

  behind : List ℕ
  behind = drop (nodes * 2) ms

  whole : ms ≡ numbers w.tree ++ behind
  unfolding behind
  whole = sym (take-append-drop (nodes * 2) ms) ∙ ap (λ (l : List ℕ). l ++ drop (nodes * 2) ms) w.same

  size_none : nodes ≡ size w.tree + 0
  size_none = omega (arith, size_is)

  module _ (starts ends : List ℕ) (p : Spans s c starts ends) (f : length starts ≡ 1024) (g : length ends ≡ 1024) where
    source : Source s starts ends (length w.tokens)
    source = span_source s c w.tokens e w.valid_cursor w.gathered starts ends p (omega arith) (omega arith)

    walk : Walk s ms 0 nodes starts ends
    walk =
        record {
          tokens = length w.tokens;
          source = source;
          lying = subst (Lying (length w.tokens) nodes) (sym whole) (lying_tree w.tree within 0 nodes behind size_none nothing);
          near = omega (arith, small);
        }

    nodes_are : nodes_of s starts ends nodes ms ≡ clause_nodes s w.tokens w.tree
    unfolding nodes_of
    nodes_are =
        ap (nodes_of s starts ends nodes) whole ∙ nodes_tree s starts ends w.tree within 0 nodes behind size_none
        ∙ append-nil (pack_nodes (spanned s starts ends) w.tree)
        ∙ nodes-same (length w.tokens) (spanned s starts ends) (source_of s w.tokens)
        (span_part s c w.tokens e w.valid_cursor w.gathered starts ends p) w.tree within

    module _ (o : ℕ) (q : o ≡ get_or starts 0 0) where
      first_is : o ≡ first_offset s c
      first_is = q ∙ span_first s c w.tokens e w.valid_cursor w.gathered starts ends p

      ahead : Ahead s c o
      ahead = subst (Ahead s c) (sym first_is) (clause_ahead s c w.tokens e w.tree at)

      module _ (v : Version) (form : Form) (k : form ≡ form_at v s c o) (d d' : List ℕ) (r : PackAnswer) (h : Written form (nodes_of s starts ends nodes ms) d r d') where
        its_pack : Written (clause_form v s c) (clause_nodes s w.tokens w.tree) d r d'
        its_pack =
            subst (λ (z : List Node). Written (clause_form v s c) z d r d') nodes_are
            (subst (λ (z : Form). Written z (nodes_of s starts ends nodes ms) d r d') (k ∙ ap (form_at v s c) first_is) h)

        refused : (x : Fault) → r ≡ Err x → ClausePack (clause_form v s c) s c d (refuse x c) d'
        unfolding told
        refused x y = written at (subst (λ (z : PackAnswer). Written (clause_form v s c) (clause_nodes s w.tokens w.tree) d z d') y its_pack)

        packed : (n : ℕ) → r ≡ Ok n → ClausePack (clause_form v s c) s c d (packed_as n e) d'
        unfolding told
        packed n y = written at (subst (λ (z : PackAnswer). Written (clause_form v s c) (clause_nodes s w.tokens w.tree) d z d') y its_pack)

ruleset ways = (spanning, walk, ahead, refused, packed, rules)

pub returns-in-Ok : goal.returns-in-Ok
returns-in-Ok c = search ways

pub returns-in-Err : goal.returns-in-Err
returns-in-Err c = search ways

pub form_at-form-requires : goal.form_at-form-requires
form_at-form-requires c = search ways

pub pack-requires : goal.pack-requires
pack-requires c = search ways
