-- `reader::listing::Tokens::line_length` meets its contract. The invariant: what is left of the room, and what the nodes from here on take, is what all leave. Assumes nothing.
use Prim.Native.Nat.{ℕ, ◌+◌, ◌-◌, ◌*◌, ◌<◌, ◌≤◌}
use mathlib.Core.Path.{◌≡◌, refl, sym, ap, ◌∙◌}
use mathlib.Core.List.{List, [], ◌∷◌}
use native.Mathlib.Numerals.{add-one}
use native.Mathlib.Omega.{arith}
use borrow.Author.Tests.{le-leb, lt-leb}
use lib.ListN.{length, get_or, take, drop, length-drop, drop_of_length-le}
use lib.Seq.{drop-cons, get_or-take, length-take-le}
use Rattle.reader.specs.Listing.{shape_at, last_token, word, own, own_all, measured, Source, Node, Nodes, nothing, also, Measurable, Listed}
use Rattle.std.specs.Prelude.{Some, None}
use Rattle.reader.proofs.listing.Tokens.line_length.Given as goal

-- the node at an offset, and the numbers behind it
pub record Here (tokens : ℕ) (ns : List ℕ) (at : ℕ) : Type 0 where
  pub token : ℕ
  pub packed : ℕ
  pub rest : List ℕ
  pub both : at + 1 < length ns
  pub numbers : drop at ns ≡ token ∷ packed ∷ rest
  pub behind : drop (at + 2) ns ≡ rest
  pub first : get_or ns at 0 ≡ token
  pub second : get_or ns (at + 1) 0 ≡ packed
  pub lies : last_token (shape_at packed) token < tokens
  pub are : Nodes tokens rest

-- the number at an offset, and those behind it
pub drop_at : (ns : List ℕ) (at : ℕ) → at < length ns → drop at ns ≡ get_or ns at 0 ∷ drop (at + 1) ns
drop_at ns at h = rw add-one (drop-cons ns at 0 h)

pub here : {tokens : ℕ} {l : List ℕ} (ns : List ℕ) (at : ℕ) → at < length ns → Nodes tokens l → drop at ns ≡ l → Here tokens ns at
here ns at h nothing e = absurd (omega (arith, length-drop at ns, ap length e))
here ns at h (also {i} {p} {ns = l} k w) e =
    let b : at + 1 < length ns = omega (arith, length-drop at ns, ap length e) in
    let x = drop_at ns at h in
    let y = drop_at ns (at + 1) b in
    let z : at + 1 + 1 ≡ at + 2 = omega arith in
    record { token = i; packed = p; rest = l; both = b; numbers = e; behind = cc (x, y, z); first = cc x; second = cc (x, y); lies = k; are = w }

-- the numbers of the nodes from one on
abbrev rest : List ℕ → ℕ → ℕ → List ℕ
rest ms nodes node = drop (node * 2) (take (nodes * 2) ms)

pub record Inv (s starts ends ms : List ℕ) (nodes room left node : ℕ) : Type 0 where
  pub tokens : ℕ
  pub source : Source s starts ends tokens
  pub whole : nodes * 2 ≤ length ms
  pub are : Nodes tokens (rest ms nodes node)
  pub sum : room + own_all (word s starts ends) (rest ms nodes node) ≡ left + own_all (word s starts ends) (take (nodes * 2) ms)
  pub low : left ≤ room

pub begin : (s starts ends ms : List ℕ) (nodes room : ℕ) → Measurable s starts ends ms nodes → Inv s starts ends ms nodes room room 0
begin s starts ends ms nodes room h = record { tokens = h.tokens; source = h.source; whole = h.whole; are = h.are; sum = refl; low = omega arith }

pub fitted : (n room : ℕ) → n ≤ room → Some n ≡ measured room n
unfolding measured
fitted n room h = cc (le-leb n room h)

pub beyond : (n room : ℕ) → room < n → None ≡ measured room n
unfolding measured
beyond n room h = cc (lt-leb n room h)

pub own_node : (s starts ends : List ℕ) (i p : ℕ) (ns : List ℕ) → own_all (word s starts ends) (i ∷ p ∷ ns) ≡ own (word s starts ends) i p + own_all (word s starts ends) ns
unfolding own_all
own_node s starts ends i p ns = refl

pub own_none : (s starts ends : List ℕ) → own_all (word s starts ends) [] ≡ 0
unfolding own_all
own_none s starts ends = refl

module _ (s starts ends ms : List ℕ) (nodes room left node : ℕ) (v : Inv s starts ends ms nodes room left node) where
  pub long : length (take (nodes * 2) ms) ≡ nodes * 2
  long = length-take-le (nodes * 2) ms v.whole

  pub done : nodes ≤ node → Some (room - left) ≡ measured room (own_all (word s starts ends) (take (nodes * 2) ms))
  done h =
      let k : length (take (nodes * 2) ms) ≤ node * 2 = omega (arith, long) in
      let z : own_all (word s starts ends) (rest ms nodes node) ≡ 0 =
      ap (own_all (word s starts ends)) (drop_of_length-le (take (nodes * 2) ms) k) ∙ own_none s starts ends in
      let e : room - left ≡ own_all (word s starts ends) (take (nodes * 2) ms) = omega (arith, z, v.sum, v.low) in
      cc (e, fitted (room - left) room (omega arith))

  pub under : left ≤ room
  under = v.low

  module _ (h : node < nodes) where
    pub it : Here v.tokens (take (nodes * 2) ms) (node * 2)
    it = here (take (nodes * 2) ms) (node * 2) (omega (arith, long)) v.are refl

    pub next : node * 2 + 1 < nodes * 2
    next = omega (arith, it.both, long)

    pub second : node * 2 + 1 < length ms
    second = omega (arith, next, v.whole)

    pub token-is : get_or ms (node * 2) 0 ≡ it.token
    token-is = sym (get_or-take (nodes * 2) ms (node * 2) 0 (omega (arith, next))) ∙ it.first

    pub packed-is : get_or ms (node * 2 + 1) 0 ≡ it.packed
    packed-is = sym (get_or-take (nodes * 2) ms (node * 2 + 1) 0 next) ∙ it.second

    pub asks : Node s starts ends (shape_at (get_or ms (node * 2 + 1) 0)) (get_or ms (node * 2) 0)
    asks = record { tokens = v.tokens; source = v.source; within = rw (token-is, packed-is) it.lies }

    module _ (o : ℕ) (e : o ≡ own (word s starts ends) (get_or ms (node * 2) 0) (get_or ms (node * 2 + 1) 0)) where
      next_rest : drop (node * 2 + 2) (take (nodes * 2) ms) ≡ rest ms nodes (node + 1)
      next_rest = let z : node * 2 + 2 ≡ (node + 1) * 2 = omega arith in ap (λ (k : ℕ). drop k (take (nodes * 2) ms)) z

      pub more : own_all (word s starts ends) (rest ms nodes node) ≡ o + own_all (word s starts ends) (rest ms nodes (node + 1))
      more =
          ap (own_all (word s starts ends)) it.numbers ∙ own_node s starts ends it.token it.packed it.rest
          ∙ ap (λ (l : List ℕ). own (word s starts ends) it.token it.packed + own_all (word s starts ends) l) (sym it.behind ∙ next_rest)
          ∙ cc (e, token-is, packed-is)

      pub short : (r : Listed) → r ≡ None → (o ≤ left → ⊥) → r ≡ measured room (own_all (word s starts ends) (take (nodes * 2) ms))
      short r f l = f ∙ beyond (own_all (word s starts ends) (take (nodes * 2) ms)) room (omega (arith, more, v.sum, v.low, l))

      pub again : (left' : ℕ) → left' + o ≡ left → Inv s starts ends ms nodes room left' (node + 1)
      again left' l =
          record {
            tokens = v.tokens;
            source = v.source;
            whole = v.whole;
            are = rw (← next_rest, it.behind) it.are;
            sum = omega (arith, more, v.sum);
            low = omega (arith, v.low);
          }

abbrev pub invariant-loop-node : goal.invariant-loop-node
invariant-loop-node l = Inv l.self.text.now l.self.starts.now l.self.ends.now l.tree l.nodes l.room l.left l.node
