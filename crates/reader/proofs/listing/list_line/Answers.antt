-- `reader::listing::list_line` meets its contract. Assumes nothing.
use Prim.Native.Nat.{ℕ, ◌*◌, ◌≤◌}
use mathlib.Core.Path.{◌≡◌, refl, sym, ap, ◌∙◌}
use mathlib.Core.List.{List, [], ◌++◌}
use native.Mathlib.Omega.{arith}
use borrow.Author.Rules.{rules}
use mathlib.Core.List.{append-nil}
use mathlib.Core.Bool.{Bool, true, false, cond}
use borrow.Author.Tests.{leb-true}
use lib.Dec.{leb}
use lib.ListN.{length, take, drop}
use lib.Seq.{sets}
use Rattle.reader.specs.Tree.{Tree, numbers}
use Rattle.reader.specs.Listing.{word, printed, own_all, measured, nothing, leaves, line_outcome, Listable, SomeListable, Lists, Measurable, TermAt, SomeTerm, TermPut, Listed}
use Rattle.reader.specs.declared.listing.Before.{Before}
use Rattle.std.specs.Prelude.{Some, None}
use Rattle.reader.proofs.Puts.{told}
use Rattle.reader.proofs.Prefixes.{some_term_in, term_out}
use Rattle.reader.proofs.Terms.{own_term, term_nodes}
use Rattle.reader.proofs.listing.list_line.Goals as goal

-- what was measured, taken apart
record Fitting (n room length : ℕ) : Type 0 where
  same : n ≡ length
  under : length ≤ room

fitting_as : (v : Bool) (m room n : ℕ) → leb m room ≡ v → cond v (Some m) None ≡ Some n → Fitting n room m
fitting_as true m room n e h = record { same = cc; under = leb-true m room e }
fitting_as false m room n e h = let z : ◌≡◌ {A = ℕ} 0 1 = cc in absurd (omega arith)

fitting : (m room n : ℕ) → measured room m ≡ Some n → Fitting n room m
unfolding measured
fitting m room n h = fitting_as (leb m room) m room n refl h

line_of : (bs d : List ℕ) (n : ℕ) → measured (length d) (length bs) ≡ Some n → leaves (Some n) (sets d 0 bs) ≡ line_outcome bs d
unfolding measured line_outcome
line_of bs d n h = line_of_as (leb (length bs) (length d)) h
  where
    line_of_as : (v : Bool) → cond v (Some (length bs)) None ≡ Some n → leaves (Some n) (sets d 0 bs) ≡ cond v (leaves (Some (length bs)) (sets d 0 bs)) (leaves None d)
    line_of_as true e = cc
    line_of_as false e = cc

none_of : (bs d : List ℕ) → measured (length d) (length bs) ≡ None → leaves None d ≡ line_outcome bs d
unfolding measured line_outcome
none_of bs d h = none_of_as (leb (length bs) (length d)) h
  where
    none_of_as : (v : Bool) → cond v (Some (length bs)) None ≡ None → leaves None d ≡ cond v (leaves (Some (length bs)) (sets d 0 bs)) (leaves None d)
    none_of_as true e = cc
    none_of_as false e = cc

module _ (s starts ends ms : List ℕ) (nodes : ℕ) (d : List ℕ) where
  module _ (t : Tree) (w : Listable s starts ends ms nodes t) where
    summed : own_all (word s starts ends) (take (nodes * 2) ms) ≡ length (printed (word s starts ends) t)
    unfolding own_all
    summed =
        ap (own_all (word s starts ends)) (w.same ∙ sym (append-nil (numbers t))) ∙ own_term (word s starts ends) t w.within []
        ∙ omega arith

    measurable_at : Measurable s starts ends ms nodes
    measurable_at =
        record {
          tokens = w.tokens;
          source = w.source;
          whole = w.whole;
          are = rw (w.same, ← append-nil (numbers t)) (term_nodes (word s starts ends) t w.within [] nothing);
        }

    measured-is : (r : Listed) → r ≡ measured (length d) (own_all (word s starts ends) (take (nodes * 2) ms)) → measured (length d) (length (printed (word s starts ends) t)) ≡ r
    measured-is r e = cc summed

    module _ (n : ℕ) (h : measured (length d) (length (printed (word s starts ends) t)) ≡ Some n) where
      term_at : TermAt s starts ends ms nodes n (length d) t
      term_at =
          let b = fitting (length (printed (word s starts ends) t)) (length d) n h in
          record {
            tokens = w.tokens;
            source = w.source;
            within = w.within;
            stands = record { left = []; whole = w.whole; same = w.same; place = record { fits = omega (arith, b.same); inside = omega (arith, b.same, b.under) } };
          }

      line-put : (r : Before) (d' : List ℕ) → TermPut s starts ends ms nodes n d r d' → leaves (Some n) d' ≡ line_outcome (printed (word s starts ends) t) d
      line-put r d' q =
          let b = fitting (length (printed (word s starts ends) t)) (length d) n h in
          let p = told (printed (word s starts ends) t) n d r.at d' (q.wrote t term_at).written in
          let z : r.at ≡ 0 = omega (arith, b.same, p.start) in
          let y : d' ≡ sets d 0 (printed (word s starts ends) t) = p.slice ∙ ap (λ (k : ℕ). sets d k (printed (word s starts ends) t)) z in
          cc (y, line_of (printed (word s starts ends) t) d n h)

  measurable : SomeListable s starts ends ms nodes → Measurable s starts ends ms nodes
  measurable o = measurable_at o.tree o.is

  module _ (r : Listed) (e : r ≡ measured (length d) (own_all (word s starts ends) (take (nodes * 2) ms))) where
    no-room : r ≡ None → Lists s starts ends ms nodes d None d
    no-room g = record { line = λ t w. none_of (printed (word s starts ends) t) d (measured-is t w r e ∙ g) }

    module _ (n : ℕ) (g : r ≡ Some n) where
      term_there : (o : SomeListable s starts ends ms nodes) → TermAt s starts ends ms nodes n (length d) o.tree
      term_there o = term_at o.tree o.is n (measured-is o.tree o.is r e ∙ g)

      fits : SomeListable s starts ends ms nodes → n ≤ length d
      fits o = (term_there o).stands.place.inside

      term_asks : SomeListable s starts ends ms nodes → SomeTerm s starts ends ms nodes (length (take n d)) (length (take n d))
      term_asks o = some_term_in s starts ends ms nodes n d (record { tree = o.tree; is = term_there o })

      listed : (b : Before) (d' : List ℕ) → TermPut s starts ends ms nodes (length (take n d)) (take n d) b d' → Lists s starts ends ms nodes d (Some n) (d' ++ drop n d)
      listed b d' q = record { line = λ t w. line-put t w n (measured-is t w r e ∙ g) b (d' ++ drop n d) (term_out s starts ends ms nodes n d q) }

ruleset ways = (measurable, no-room, fits, term_asks, listed, rules)

pub returns-in_err-length : goal.returns-in_err-length
returns-in_err-length c = search ways

pub returns : goal.returns
returns c = search ways

pub line_length-requires : goal.line_length-requires
line_length-requires c = search ways

pub put_term-requires : goal.put_term-requires
put_term-requires c = search ways

pub slice_bounds-put_term-end : goal.slice_bounds-put_term-end
slice_bounds-put_term-end c = search ways

pub slice_bounds-put_term-end-2 : goal.slice_bounds-put_term-end-2
slice_bounds-put_term-end-2 c = search ways
