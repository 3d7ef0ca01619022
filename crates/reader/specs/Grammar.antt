-- The clause grammar of document 01, over any table; what is quoted is its text, beside the clause of ISO. It names no machine.
-- `Term T p ts rest t`: the tokens of ts before rest read as the tree t, of priority p. Likewise the others. Assumes nothing.
use Rattle.std.specs.Prelude.{ℕ, ◌≤◌, ◌<◌, ◌≡◌, Bool, true, false, ◌&&◌, List, [], ◌∷◌, eqb}
use Rattle.std.proofs.Math.Option.{some}
use Rattle.reader.specs.Token.{Token, close, close_list, close_curly, bar, comma, end_mark, Terminal, name, number, var_or_string, round, square, brace, stop, Tok, tok, terminals}
use Rattle.reader.specs.Ops.{Pre, Inf, pre_prio, pre_bound, prio, left_bound, right_bound, Table, prefix_of, is_minus, is_op, IsInfix}
use Rattle.reader.specs.Tree.{negative, call, prefix, infx, list, list_tail, curly, empty_list, empty_curly, Tree, node, Forest, nil, ◌◂◌, leaf, snoc}

-- 01: "No prefix application is formed if the next token is OpenCT, or if the operator is `-` and a number begins where it ends."
-- Is it the minus, where it ends, the next token.
unfoldable pub blocks : Bool → ℕ → Terminal → Bool
blocks minus e (name x f) = false
blocks minus e (number s low) = minus && eqb e s
blocks minus e var_or_string = false
blocks minus e (round ct) = ct
blocks minus e square = false
blocks minus e brace = false
blocks minus e (stop x) = false

module _ (T : Table) where
  mutual
    pub data Term : ℕ → List Tok → List Tok → Tree → Type 0 where
      -- 6.3.1.1, 6.3.2, 6.3.7: "number, string, variable"
      -- 02, request 4: "a plain number token of that magnitude is no term"
      a_number : {i s : ℕ} {rest : List Tok} → Term 0 (tok i (number s false) ∷ rest) rest (leaf i)
      a_var_or_string : {i : ℕ} {rest : List Tok} → Term 0 (tok i var_or_string ∷ rest) rest (leaf i)
      -- 6.3.1.3: "name that is no operator"
      a_name : {i e : ℕ} {x : List ℕ} {rest : List Tok} → is_op T x ≡ false → Term 0 (tok i (name x e) ∷ rest) rest (leaf i)
      -- 6.3.3: "a name, OpenCT, one or more places of 999 with commas, `)`"
      a_call : {i e j k : ℕ} {x : List ℕ} {us rest : List Tok} {f : Forest} →
          Args us (tok k (stop close) ∷ rest) f → Term 0 (tok i (name x e) ∷ tok j (round true) ∷ us) rest (node i call f)
      -- 6.3.4.1: "either `(`, place of 1200, `)`"; "Round brackets leave no node."
      a_round : {i k : ℕ} {ct : Bool} {us rest : List Tok} {t : Tree} →
          Place 1200 us (tok k (stop close) ∷ rest) t → Term 0 (tok i (round ct) ∷ us) rest t
      -- 6.3.5: "`[` such places, perhaps `|` and one more, `]`"
      a_list : {i k : ℕ} {us rest : List Tok} {f : Forest} →
          Args us (tok k (stop close_list) ∷ rest) f → Term 0 (tok i square ∷ us) rest (node i list f)
      a_list_tail : {i j k : ℕ} {us vs rest : List Tok} {f g : Forest} {t : Tree} →
          Args us (tok j (stop bar) ∷ vs) f → Place 999 vs (tok k (stop close_list) ∷ rest) t → snoc f t ≡ g →
          Term 0 (tok i square ∷ us) rest (node i list_tail g)
      -- 6.3.6: "`{` place of 1200 `}`"
      a_curly : {i k : ℕ} {us rest : List Tok} {t : Tree} →
          Place 1200 us (tok k (stop close_curly) ∷ rest) t → Term 0 (tok i brace ∷ us) rest (node i curly (t ◂ nil))
      -- 6.3.1.3: "`[` `]`; `{` `}`"
      an_empty_list : {i k : ℕ} {rest : List Tok} → Term 0 (tok i square ∷ tok k (stop close_list) ∷ rest) rest (node i empty_list nil)
      an_empty_curly : {i k : ℕ} {rest : List Tok} → Term 0 (tok i brace ∷ tok k (stop close_curly) ∷ rest) rest (node i empty_curly nil)
      -- 6.3.1.2: "`-` with a number whose span begins where the minus ends"
      a_negative : {i e j : ℕ} {low : Bool} {x : List ℕ} {rest : List Tok} →
          is_minus x ≡ true → Term 0 (tok i (name x e) ∷ tok j (number e low) ∷ rest) rest (node i negative nil)
      -- 6.3.4.2: a prefix operator and its operand
      a_prefix : {i e j p q : ℕ} {x : List ℕ} {r : Pre} {k : Terminal} {us rest : List Tok} {t : Tree} →
          prefix_of T x ≡ some r → pre_prio r ≡ p → blocks (is_minus x) e k ≡ false → Term q (tok j k ∷ us) rest t → q < pre_bound r →
          Term p (tok i (name x e) ∷ tok j k ∷ us) rest (node i prefix (t ◂ nil))
      -- 6.3.4.2: an infix operator between its operands
      an_infix : {i p l q : ℕ} {k : Terminal} {r : Inf} {ts us rest : List Tok} {t u : Tree} →
          Term l ts (tok i k ∷ us) t → l < left_bound r → IsInfix T k r → prio r ≡ p → Term q us rest u → q < right_bound r →
          Term p ts rest (node i infx (t ◂ u ◂ nil))

    -- 6.3.3.1: "one or more places of 999 with commas"
    pub data Args : List Tok → List Tok → Forest → Type 0 where
      one : {ts rest : List Tok} {t : Tree} → Place 999 ts rest t → Args ts rest (t ◂ nil)
      more : {i : ℕ} {ts us rest : List Tok} {t : Tree} {f : Forest} →
          Place 999 ts (tok i (stop comma) ∷ us) t → Args us rest f → Args ts rest (t ◂ f)

    -- "A place of n holds one operator name (never the Comma) alone, or a term of priority n or less."
    pub data Place : ℕ → List Tok → List Tok → Tree → Type 0 where
      alone : {p i e : ℕ} {x : List ℕ} {rest : List Tok} → is_op T x ≡ true → Place p (tok i (name x e) ∷ rest) rest (leaf i)
      whole : {p q : ℕ} {ts rest : List Tok} {t : Tree} → Term q ts rest t → q ≤ p → Place p ts rest t

  -- "A clause is a place of 1200 and an end mark."
  pub data Clause : List Tok → Tree → Type 0 where
    clause : {i : ℕ} {ts : List Tok} {t : Tree} → Place 1200 ts (tok i (stop end_mark) ∷ []) t → Clause ts t

  -- The tokens of a clause read as the tree.
  abbrev pub Reads : List Token → Tree → Type 0
  Reads ts t = Clause (terminals 0 ts) t
