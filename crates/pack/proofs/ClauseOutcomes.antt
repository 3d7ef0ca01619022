-- Of the pack of a clause one outcome is permitted, and there is one; what was packed is the pack of the clause's nodes. Assumes nothing.
use Prim.Native.Nat.{ℕ, ◌*◌, ◌<◌, ◌≤◌}
use mathlib.Core.Path.{◌≡◌, refl, sym, ◌∙◌, ap, subst}
use mathlib.Core.Logic.{◌⊎◌, inl, inr}
use mathlib.Core.List.{List}
use native.Mathlib.Omega.{arith}
use lib.ListN.{length, take, replicate, length-replicate}
use Rattle.lexer.specs.declared.cursor.Cursor.{Cursor}
use Rattle.lexer.specs.Refusal.{fault, refused_at, refuse}
use Rattle.lexer.specs.declared.refusal.Fault.{Fault}
use Rattle.lexer.specs.declared.refusal.Refusal.TheVariants.{NoRoom, TooLong}
use Rattle.reader.specs.Token.{Token}
use Rattle.reader.specs.Ops.{operators}
use Rattle.reader.specs.Tree.{Tree, numbers}
use Rattle.reader.specs.Grammar.{Reads}
use Rattle.reader.specs.Clause.{whole, Outcome, ClauseAnswer}
use Rattle.lexer.proofs.Theorems.{refuse_parts}
use Rattle.reader.proofs.Theorems.{unambiguity, table-admitted, an_outcome, clause_coincides, room_suffices, clause_refused, clause_front}
use Rattle.pack.specs.Node.{Node, most_nodes}
use Rattle.pack.specs.Image.{image, longest_image, IsPack}
use Rattle.pack.specs.Calls.{Written, packed, Names, EitherOutcome}
use Rattle.pack.specs.ClauseCall.{ClauseAt, ClausePack, clause_form, clause_nodes, told, refused, written}
use Rattle.pack.specs.declared.format.Form.{Form}
use Rattle.pack.specs.declared.format.Version.{Version}
use Rattle.pack.specs.Answers.{PackAnswer, UnpackAnswer, ClausePackAnswer, packed_as, unpacked_as}
use Rattle.std.specs.declared.result.Result.TheVariants.{Ok, Err}
use Rattle.pack.specs.declared.answers.PackedClause.{PackedClause}
use Rattle.lexer.specs.declared.refusal.Refused.{Refused}
use Rattle.pack.proofs.Images.{image-length}
use Rattle.pack.proofs.Trips.{left_name, unpacked_so}
use Rattle.pack.proofs.Packs.{some_written, one_written, front}
use Rattle.pack.proofs.Clauses.{clause_acceptable}
use Rattle.pack.proofs.Lines.{clause_ahead, form_fits}
use Rattle.lexer.specs.declared.refusal.Refused as reader
use Rattle.std.specs.Prelude.{Ok, Err}

-- a tree slice with room for every clause
roomy : List ℕ
roomy = replicate 2048 0

roomy_length : length roomy ≡ 2048
unfolding roomy
roomy_length = length-replicate {A = ℕ} 2048 0

module _ (s : List ℕ) (c : Cursor) where
  -- what is read there, and the refusal there, exclude each other
  module _ {ts : List Token} {e : Cursor} {t : Tree} (o : ClauseAt s c ts e t) where
    never : {w : Fault} → ((tree : List ℕ) → Outcome s c tree (Err (refused_at w c)) tree) → ⊥
    never {w} h =
        let r = room_suffices s c (numbers t) ts e t o.gathered o.reads o.valid_cursor (omega arith) (h (numbers t)) in
        let z : ◌≡◌ {A = ℕ} 0 1 = cc r.1 in
        omega arith

    -- one reading
    module _ {us : List Token} {k : Cursor} {u : Tree} (p : ClauseAt s c us k u) where
      same_end : e ≡ k
      same_end = let a = o.gathered in let b = p.gathered in cc

      same_nodes : clause_nodes s ts t ≡ clause_nodes s us u
      same_nodes =
          let a = o.gathered in
          let b = p.gathered in
          let q : us ≡ ts = cc in
          let r : Reads operators ts u = subst (λ (z : List Token). Reads operators z u) q p.reads in
          cc (q, unambiguity operators table-admitted o.reads r)

  -- two permitted outcomes coincide
  module _ (f : Form) (d : List ℕ) where
    pub one_clause_pack : {r r' : ClausePackAnswer} {x x' : List ℕ} → ClausePack f s c d r x → ClausePack f s c d r' x' → (r ≡ r') × (x ≡ x')
    one_clause_pack (refused {w} g) (refused {w = v} h) = let e = (clause_coincides s c roomy (g roomy) (h roomy)).0 in let m : refused_at w c ≡ refused_at v c = cc in let q : w ≡ v = ap (λ (z : reader.Refused). z.fault) m in (cc, refl)
    one_clause_pack (refused g) (written p l) = absurd (never p g)
    one_clause_pack (written o l) (refused h) = absurd (never o h)
    one_clause_pack (written {ts} {e} {t} o l) (written {ts = us} {e = k} {t = u} p m) =
        let q = one_written f (clause_nodes s ts t) (clause_nodes s us u) d (same_nodes o p) l m in
        let a = q.0 in
        let b = same_end o p in
        (cc, q.1)

    -- and there is one
    by_answer : (a : ClauseAnswer) (x : List ℕ) → Outcome s c roomy a x → (r : ClausePackAnswer) × (x : List ℕ) × ClausePack f s c d r x
    by_answer (Err w) x h = (_, _, refused (clause_refused s c roomy (omega (arith, roomy_length)) w.fault w.cursor _ x h refl))
    by_answer (Ok a) x h =
        let r = clause_front s c roomy _ x a.nodes a.next h refl in
        let o : ClauseAt s c r.tokens a.next r.tree = record { valid_cursor = r.valid_cursor; gathered = r.gathered; reads = r.reads } in
        (_, _, written o (some_written f (clause_nodes s r.tokens r.tree) d).2)

    pub some_clause_pack : (r : ClausePackAnswer) × (x : List ℕ) × ClausePack f s c d r x
    some_clause_pack = let p = an_outcome s c roomy in by_answer p.0 p.1 p.2

-- what was packed is the pack of the clause's nodes
pub record ClauseSent (f : Form) (s : List ℕ) (c : Cursor) (e : Cursor) (i : List ℕ) : Type 0 where
  pub tokens : List Token
  pub tree : Tree
  pub at : ClauseAt s c tokens e tree
  pub is : IsPack f i (clause_nodes s tokens tree)

-- what is told of a pack
told-packed : (c k e : Cursor) (n : ℕ) (r : PackAnswer) → told c k r ≡ packed_as n e → (r ≡ Ok n) × (k ≡ e)
unfolding told
told-packed c k e n (Ok m) h =
    let q : ◌≡◌ {A = PackedClause} (record { length = m; next = k }) (record { length = n; next = e }) = cc in
    (ap (λ (p : PackedClause). Ok p.length) q, ap (λ (p : PackedClause). p.next) q)
told-packed c k e n (Err w) h = let z : ◌≡◌ {A = ℕ} 0 1 = cc in absurd (omega arith)

told-refused : (c k : Cursor) (w : Fault) (r : PackAnswer) → told c k r ≡ refuse w c → r ≡ Err w
unfolding told
told-refused c k w (Ok m) h = let z : ◌≡◌ {A = ℕ} 0 1 = cc in absurd (omega arith)
told-refused c k w (Err v) h = ap Err (refuse_parts h).0

pub clause_sent : (v : Version) (s : List ℕ) (c : Cursor) (d : List ℕ) (r : ClausePackAnswer) (x : List ℕ) (n : ℕ) (e : Cursor) → ClausePack (clause_form v s c) s c d r x → r ≡ packed_as n e
    → ClauseSent (clause_form v s c) s c e (take n x)
clause_sent v s c d r x n e (refused g) h = let z : ◌≡◌ {A = ℕ} 0 1 = cc in absurd (omega arith)
clause_sent v s c d r x n e (written {ts} {e = k} {t = t} {r = a} o w) h =
    let f = clause_form v s c in
    let q = told-packed c k e n a h in
    record {
      tokens = ts;
      tree = t;
      at = record { valid_cursor = o.valid_cursor; gathered = o.gathered ∙ ap (whole ts) q.1; reads = o.reads };
      is =
          front f (clause_nodes s ts t) d x n (subst (λ (z : PackAnswer). Written f (clause_nodes s ts t) d z x) q.0 w) (clause_acceptable s c ts k t o)
          (form_fits v s c _ (clause_ahead s c ts k t o));
    }

-- a clause that has a reading is packed, or 13, or 9
module _ (f : Form) (s : List ℕ) (c : Cursor) (d : List ℕ) where
  module _ (ts : List Token) (e : Cursor) (t : Tree) (o : ClauseAt s c ts e t) where
    written_one : (k : Cursor) (us : List Token) (u : Tree) (p : ClauseAt s c us k u) (r : PackAnswer) {x : List ℕ} → Written f (clause_nodes s us u) d r x
        → (told c k r ≡ packed_as (length (image f (clause_nodes s ts t))) e) ⊎ (told c k r ≡ refuse (fault TooLong 0) c)
        ⊎ ((told c k r ≡ refuse (fault NoRoom 0) c) × (length d < length (image f (clause_nodes s ts t))))
    unfolding told
    written_one k us u p r (Written.too_long h) = inr (inl refl)
    written_one k us u p r (Written.no_room h l) = inr (inr (refl, omega (arith, ap (λ (z : List Node). length (image f z)) (same_nodes s c o p))))
    written_one k us u p r (packed h l) = let q = same_nodes s c o p in let b = same_end s c o p in inl cc

    pub clause_packs : {r : ClausePackAnswer} {x : List ℕ} → ClausePack f s c d r x
        → (r ≡ packed_as (length (image f (clause_nodes s ts t))) e) ⊎ (r ≡ refuse (fault TooLong 0) c) ⊎ ((r ≡ refuse (fault NoRoom 0) c) × (length d < length (image f (clause_nodes s ts t))))
    clause_packs (refused g) = absurd (never s c o g)
    clause_packs (written {ts = us} {e = k} {t = u} {r = a} p w) = written_one k us u p a w

  -- and with room for the longest image 9 does not arise
  long_fits : longest_image ≤ length d → (ns : List Node) {w : Fault} {x : List ℕ} (r : PackAnswer) → Written f ns d r x → r ≡ Err w → w ≡ fault TooLong 0
  long_fits l ns r (Written.too_long h) e = cc
  long_fits l ns r (Written.no_room h m) e = absurd (omega (arith, image-length f ns))
  long_fits l ns r (packed h m) e = let z : ◌≡◌ {A = ℕ} 0 1 = cc in absurd (omega arith)

  pub clause_fits : longest_image ≤ length d → (w : Fault) (r : ClausePackAnswer) {x : List ℕ} → ClausePack f s c d r x → r ≡ refuse w c
      → ((tree : List ℕ) → Outcome s c tree (refuse w c) tree) ⊎ (w ≡ fault TooLong 0)
  clause_fits l w r (refused {w = v} g) e = inl (subst (λ (z : Fault). (tree : List ℕ) → Outcome s c tree (refuse z c) tree) (refuse_parts e).0 g)
  clause_fits l w r (written {ts} {e = k} {t = t} {r = a} o p) e = inr (long_fits l (clause_nodes s ts t) a p (told-refused c k w a e))

-- unpacking the pack of a clause gives its kinds, arities and spellings, in the form that it was packed in
pub record ClauseReceived (f : Form) (s : List ℕ) (c : Cursor) (e : Cursor) (i : List ℕ) (r : UnpackAnswer) (y : List ℕ) : Type 0 where
  pub tokens : List Token
  pub tree : Tree
  pub at : ClauseAt s c tokens e tree
  pub answer : r ≡ unpacked_as f (length (clause_nodes s tokens tree))
  pub names : Names i (length (clause_nodes s tokens tree)) y (clause_nodes s tokens tree)

pub clause_received : (f : Form) (s : List ℕ) (c : Cursor) (e : Cursor) (i d : List ℕ) (r : UnpackAnswer) (y : List ℕ) → ClauseSent f s c e i → 4 * most_nodes ≤ length d
    → EitherOutcome i d r y → ClauseReceived f s c e i r y
clause_received f s c e i d r y p l o =
    let ns = clause_nodes s p.tokens p.tree in
    let k : 4 * length ns ≤ length d = omega (arith, p.is.acceptable.few) in
    let g = unpacked_so f i d ns r y p.is k o in
    record {
      tokens = p.tokens;
      tree = p.tree;
      at = p.at;
      answer = g.answer;
      names = subst (λ (z : List ℕ). Names i (length ns) z ns) (sym g.slice) (left_name f i ns p.is d k);
    }
