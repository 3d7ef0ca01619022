-- The clause call with a tree slice that has room for every clause, and the spans of the clause's tokens: what the calls above it go by. Assumes nothing.
use Prim.Native.Nat.{ℕ, zero, suc, ◌+◌, ◌*◌, ◌<◌, ◌≤◌}
use mathlib.Core.Path.{◌≡◌, refl, sym, ◌∙◌, ap, subst}
use mathlib.Core.Bool.{Bool, true, false, cond}
use mathlib.Core.List.{List, [], ◌∷◌}
use native.Mathlib.Omega.{arith}
use lib.ListN.{length, get_or, take, get_or-map}
use lib.Seq.{sets, length-sets}
use Rattle.lexer.specs.Cursor.{move_to, valid, part}
use Rattle.lexer.specs.Token.{Lexeme, lexeme, refused, read_lexeme}
use Rattle.lexer.specs.declared.cursor.Cursor.{Cursor}
use Rattle.lexer.specs.declared.refusal.Fault.{Fault}
use Rattle.lexer.specs.declared.token.Source.TheVariants.{File}
use Rattle.lexer.proofs.Theorems.{is-valid}
use Rattle.reader.specs.Token.{Token}
use Rattle.reader.specs.Ops.{Table, operators}
use Rattle.reader.specs.Tree.{Tree, numbers}
use Rattle.reader.specs.Grammar.{Reads}
use Rattle.reader.specs.Clause.{most_tokens, token_in, is_end, Gathered, whole, with, onward, gather, clause_tokens, start_of, first_offset, Outcome, invalid, token, no_mark, no_reading, no_room, read, read_to, ClauseAnswer}
use Rattle.reader.specs.Listing.{token_at, Source, Within}
use Rattle.reader.specs.LineCall.{ReadTree, Spans}
use Rattle.reader.proofs.Answer.{tree_small}
use Rattle.reader.specs.Fault.{Chain, none, more, FirstFault}
use Rattle.reader.proofs.Chains.{begins, within, front_at, source_of}
use Rattle.reader.proofs.Indexes.{reads_within}
use Rattle.reader.proofs.Puts.{sets-front}
use Rattle.reader.proofs.Spans.{terminals-length, tail, gathered_few}
use Rattle.reader.proofs.Table.{fair, operators-admitted}
use Rattle.lexer.specs.declared.refusal.Refused.{Refused}
use Rattle.reader.specs.declared.clause.ClauseRead.{ClauseRead}
use Rattle.lexer.specs.Refusal.{refused_at}
use Rattle.std.specs.Prelude.{Ok, Err}

-- ---- a clause's first token
record First (ts : List Token) (at : ℕ) : Type 0 where
  some : 0 < length ts
  start : (token_at ts 0).start ≡ at

first_with : (t : Token) (g : Gathered) (ts : List Token) (e : Cursor) → with t g ≡ whole ts e → First ts t.start
first_with t g ts e h = let a = tail t ts e g h in subst (λ (l : List Token). First l t.start) (sym a.1) (record { some = omega arith; start = refl })

first_onward : (s : List ℕ) (c : Cursor) (x : Lexeme) (next : Cursor → Gathered) (ts : List Token) (e : Cursor) → onward s c x next ≡ whole ts e → First ts (start_of x)
unfolding onward start_of with
first_onward s c (refused w) next ts e h = let z : ◌≡◌ {A = ℕ} 0 1 = cc in absurd (omega arith)
first_onward s c (lexeme t k x) next ts e h = go (is_end t.kind) h
  where
    go : (b : Bool) → cond b (whole (token_in s t k x ∷ []) (move_to s c k)) (with (token_in s t k x) (next (move_to s c k))) ≡ whole ts e → First ts t.start
    go true q = first_with (token_in s t k x) (whole [] (move_to s c k)) ts e q
    go false q = first_with (token_in s t k x) (next (move_to s c k)) ts e q

first_gathered : (n : ℕ) (s : List ℕ) (c : Cursor) (ts : List Token) (e : Cursor) → gather n s c ≡ whole ts e → First ts (first_offset s c)
unfolding gather
first_gathered zero s c ts e g = let z : ◌≡◌ {A = ℕ} 0 1 = cc in absurd (omega arith)
first_gathered (suc n) s c ts e g = first_onward s c (read_lexeme File s c.offset) (λ d. gather n s d) ts e g

-- tokens that stand one behind the other
record Standing (n from at : ℕ) : Type 0 where
  behind : from ≤ at
  inside : at < n

first_stands : (n from at : ℕ) (ts : List Token) → Chain n from ts → First ts at → Standing n from at
first_stands n from at [] (none h) f = absurd (omega (arith, f.some))
first_stands n from at (t ∷ ts) (more a b d) f = record { behind = omega (arith, f.start); inside = omega (arith, f.start, begins n d) }

module _ (s : List ℕ) (c : Cursor) where
  module _ (ts : List Token) (e : Cursor) (v : valid (length s) c ≡ true) (g : clause_tokens s c ≡ whole ts e) where
    -- two numbers a node, and fewer nodes than tokens
    pub few_numbers : (t : Tree) → Reads operators ts t → length (numbers t) + 2 ≤ 2 * most_tokens
    few_numbers t q =
        omega
        (arith, tree_small operators (fair operators operators-admitted) q, terminals-length 0 ts, (gathered_few most_tokens s c ts e v g).few)

    first : First ts (first_offset s c)
    first = first_gathered most_tokens s c ts e g

    stands : Standing (length s) c.offset (first_offset s c)
    stands = first_stands (length s) c.offset (first_offset s c) ts (gathered_few most_tokens s c ts e v g).chain first

    pub first_behind : c.offset ≤ first_offset s c
    first_behind = stands.behind

    pub first_inside : first_offset s c < length s
    first_inside = stands.inside

    -- so does every token stand
    pub chained : Chain (length s) c.offset ts
    chained = (gathered_few most_tokens s c ts e v g).chain

    pub fault-within : (T : Table) (t : Token) → FirstFault T ts t → (c.offset ≤ t.start) × (t.start < length s)
    fault-within T t f = within (length s) f.before t f.after (subst (Chain (length s) c.offset) f.parts chained)

    pub tree_within : (t : Tree) → Reads operators ts t → Within (length ts) t
    tree_within t q = reads_within operators ts t (gathered_few most_tokens s c ts e v g).few q

    module _ (starts ends : List ℕ) (p : Spans s c starts ends) where
      start-at : (i : ℕ) → i < length ts → get_or starts i 0 ≡ (token_at ts i).start
      start-at i l = front_at (λ (k : Token). k.start) ts starts (p.fronts ts e g).starts_same i l ∙ get_or-map (λ (k : Token). k.start) ts i _

      end_at : (i : ℕ) → i < length ts → get_or ends i 0 ≡ (token_at ts i).end
      end_at i l = front_at (λ (k : Token). k.end) ts ends (p.fronts ts e g).ends_same i l ∙ get_or-map (λ (k : Token). k.end) ts i _

      pub first_span : get_or starts 0 0 ≡ first_offset s c
      first_span = start-at 0 first.some ∙ first.start

      -- from the start of one token to the end of another
      pub spans_part : (i j : ℕ) → i ≤ j → j < length ts → part (get_or starts i 0) (get_or ends j 0) s ≡ part (token_at ts i).start (token_at ts j).end s
      spans_part i j l k = let m : i < length ts = omega arith in cc (start-at i m, end_at j k)

      pub spans_source : most_tokens ≤ length starts → most_tokens ≤ length ends → Source s starts ends (length ts)
      spans_source a b =
          let few = gathered_few most_tokens s c ts e v g in
          source_of s starts ends ts c.offset (is-valid (length s) c v).short (omega (arith, few.few)) (omega (arith, few.few))
          (p.fronts ts e g).starts_same (p.fronts ts e g).ends_same few.chain

  module _ (d : List ℕ) where
    -- what was read stands in front
    pub read-front : (a : ClauseAnswer) (x : List ℕ) (nodes : ℕ) (e : Cursor) → Outcome s c d a x → a ≡ Ok (read_to nodes e) → ReadTree s c x nodes e
    read-front a x nodes e (invalid v) h = let z : ◌≡◌ {A = ℕ} 0 1 = cc in absurd (omega arith)
    read-front a x nodes e (token v g) h = let z : ◌≡◌ {A = ℕ} 0 1 = cc in absurd (omega arith)
    read-front a x nodes e (no_mark v g) h = let z : ◌≡◌ {A = ℕ} 0 1 = cc in absurd (omega arith)
    read-front a x nodes e (no_reading v g q f) h = let z : ◌≡◌ {A = ℕ} 0 1 = cc in absurd (omega arith)
    read-front a x nodes e (no_room v g q l) h = let z : ◌≡◌ {A = ℕ} 0 1 = cc in absurd (omega arith)
    read-front a x nodes e (read {ts} {e = f} {t = t} {n = k} v g q m l) h =
        let both : read_to k f ≡ read_to nodes e = cc in
        let same : k ≡ nodes = ap (λ (z : ClauseRead). z.nodes) both in
        let mark : f ≡ e = ap (λ (z : ClauseRead). z.next) both in
        let many : nodes * 2 ≡ length (numbers t) = omega arith in
        record {
          valid_cursor = v;
          tokens = ts;
          gathered = cc;
          tree = t;
          reads = q;
          inside = omega (arith, length-sets d 0 (numbers t));
          same = ap (λ (i : ℕ). take i (sets d 0 (numbers t))) many ∙ sets-front d (numbers t) l;
        }

    -- refused, and not for room: refused so whatever the slice
    module _ (l : 2 * most_tokens ≤ length d + 2) (w : Fault) (k : Cursor) where
      abbrev Always : Type 0
      Always = (y : List ℕ) → Outcome s c y (Err (refused_at w c)) y

      carry : (u : Fault) → ◌≡◌ {A = ClauseAnswer} (Err (refused_at u c)) (Err (refused_at w k)) → ((y : List ℕ) → Outcome s c y (Err (refused_at u c)) y) → Always
      carry u h o y = let m : refused_at u c ≡ refused_at w k = cc in let e : u ≡ w = ap (λ (z : Refused). z.fault) m in subst (λ (f : Fault). Outcome s c y (Err (refused_at f c)) y) e (o y)

      pub refused_always : (a : ClauseAnswer) (x : List ℕ) → Outcome s c d a x → a ≡ Err (refused_at w k) → Always
      refused_always a x (invalid v) h = carry _ h (λ y. invalid v)
      refused_always a x (token v g) h = carry _ h (λ y. token v g)
      refused_always a x (no_mark v g) h = carry _ h (λ y. no_mark v g)
      refused_always a x (no_reading v g q f) h = carry _ h (λ y. no_reading v g q f)
      refused_always a x (no_room {ts} {e} {t} v g q m) h = absurd (omega (arith, few_numbers ts e v g t q))
      refused_always a x (read v g q m n) h = let z : ◌≡◌ {A = ℕ} 0 1 = cc in absurd (omega arith)

    pub refused-back : {w : Fault} {k : Cursor} {x : List ℕ} → Outcome s c d (Err (refused_at w k)) x → k ≡ c
    refused-back (invalid v) = refl
    refused-back (token v g) = refl
    refused-back (no_mark v g) = refl
    refused-back (no_reading v g q f) = refl
    refused-back (no_room v g q l) = refl
