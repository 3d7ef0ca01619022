-- A carriage return in a clause is as a blank, unless a token is refused by 4. By what the lexer's page says of lexemes. Assumes nothing.
use Prim.Native.Nat.{ℕ, zero, suc}
use mathlib.Core.Path.{◌≡◌, refl, sym, ◌∙◌, ap}
use mathlib.Core.Bool.{Bool, true, false, cond}
use mathlib.Core.Logic.{◌⊎◌, inl, inr, ⊎_elim}
use mathlib.Core.List.{List}
use lib.ListN.{length, length-map}
use Rattle.lexer.specs.Cursor.{move_to, valid}
use Rattle.lexer.specs.Refusal.{fault, refused_at}
use Rattle.lexer.specs.Token.{Text, source, decoded, none, Lexeme, lexeme, refused, read_lexeme}
use Rattle.lexer.specs.declared.cursor.Cursor.{Cursor}
use Rattle.lexer.specs.declared.refusal.Refusal.TheVariants.{BadQuoted}
use Rattle.lexer.specs.declared.token.Token as lexer
use Rattle.lexer.specs.declared.token.Source.TheVariants.{File}
use Rattle.lexer.proofs.Theorems.{blank, blanked, returns_read_alike, return_in_no_name, returns_move_alike}
use Rattle.reader.specs.Token.{Token}
use Rattle.reader.specs.Clause.{most_tokens, text_in, token_in, is_end, Gathered, stopped, with, onward, gather, clause_tokens, start_of, first_offset, Outcome, invalid, token, no_mark, no_reading, no_room, read, ClauseAnswer}
use Rattle.reader.proofs.Outcomes.{one_outcome}
use Rattle.std.specs.Prelude.{Err}

-- the same, or the second is refused by 4
abbrev Alike : Gathered → Gathered → Type 0
Alike a b = (a ≡ b) ⊎ ((o : ℕ) × (b ≡ stopped (fault BadQuoted o)))

-- a token before them
with-alike : (t : Token) {a b : Gathered} → Alike a b → Alike (with t a) (with t b)
unfolding with
with-alike t (inl e) = inl (ap (with t) e)
with-alike t (inr f) = inr (f.0, ap (with t) f.1)

-- or an end mark
unless_alike : (t : Bool) (end : Gathered) {a b : Gathered} → Alike a b → Alike (cond t end a) (cond t end b)
unless_alike true end h = inl refl
unless_alike false end h = h

module _ (s : List ℕ) where
  abbrev s' : List ℕ
  s' = blanked s

  -- the text of a token
  text_same : (from : ℕ) (t : lexer.Token) (e : ℕ) (x : Text) → read_lexeme File s from ≡ lexeme t e x → text_in s' t.start e x ≡ text_in s t.start e x
  unfolding text_in
  text_same from t e source f = return_in_no_name File s from t e f
  text_same from t e (decoded bs) f = refl
  text_same from t e none f = refl

  -- a token that was read, and what follows it
  onward-alike : (n : ℕ) (c : Cursor) → ((d : Cursor) → Alike (gather n s' d) (gather n s d)) → (l : Lexeme) → read_lexeme File s c.offset ≡ l
      → Alike (onward s' c l (λ d. gather n s' d)) (onward s c l (λ d. gather n s d))
  unfolding onward
  onward-alike n c h (refused w) f = inl refl
  onward-alike n c h (lexeme t e x) f =
      rw (text_same c.offset t e x f, returns_move_alike s c e) (unless_alike (is_end t.kind) _ (with-alike (token_in s t e x) (h (move_to s c e))))

  -- n tokens at most, and the tokens of a clause
  gather-alike : (n : ℕ) (c : Cursor) → Alike (gather n s' c) (gather n s c)
  unfolding gather onward
  gather-alike zero c = inl refl
  gather-alike (suc n) c =
      ⊎_elim (λ e. rw e (onward-alike n c (gather-alike n) (read_lexeme File s c.offset) refl)) (λ f. inr (f.0, rw f.1))
      (returns_read_alike File s c.offset)

  module _ (c : Cursor) where
    pub tokens_alike : (clause_tokens (blanked s) c ≡ clause_tokens s c) ⊎ ((o : ℕ) × (clause_tokens s c ≡ stopped (fault BadQuoted o)))
    tokens_alike = gather-alike most_tokens c

    -- where the first token starts
    first_alike : (first_offset s' c ≡ first_offset s c) ⊎ ((o : ℕ) × (clause_tokens s c ≡ stopped (fault BadQuoted o)))
    unfolding gather onward
    first_alike = ⊎_elim (λ e. inl (ap start_of e)) (λ f. inr (f.0, rw f.1)) (returns_read_alike File s c.offset)

    -- whether the cursor is valid
    valid_same : {b : Bool} → valid (length s) c ≡ b → valid (length s') c ≡ b
    valid_same e = rw (length-map s blank) e

    module _ {d : List ℕ} where
      -- so what is permitted is permitted of both, where the tokens are the same
      carried : {a : ClauseAnswer} {x : List ℕ} → first_offset s' c ≡ first_offset s c → clause_tokens s' c ≡ clause_tokens s c → Outcome s c d a x → Outcome s' c d a x
      carried f g (invalid v) = invalid (valid_same v)
      carried f g (token v e) = token (valid_same v) (g ∙ e)
      carried f g (no_mark v e) = rw (sym f) (no_mark (valid_same v) (g ∙ e))
      carried f g (no_reading v e n h) = no_reading (valid_same v) (g ∙ e) n h
      carried f g (no_room v e r l) = rw (sym f) (no_room (valid_same v) (g ∙ e) r l)
      carried f g (read v e r m l) = read (valid_same v) (g ∙ e) r m l

      module _ {a : ClauseAnswer} {x : List ℕ} (h : Outcome s c d a x) where
        -- or where one is refused by 4, unless the cursor is not valid
        by_four : (o : ℕ) × (clause_tokens s c ≡ stopped (fault BadQuoted o)) → (Outcome s' c d a x) ⊎ ((o : ℕ) × (a ≡ Err (refused_at (fault BadQuoted o) c)))
        by_four f = go (valid (length s) c) refl
          where
            go : (b : Bool) → valid (length s) c ≡ b → (Outcome s' c d a x) ⊎ ((o : ℕ) × (a ≡ Err (refused_at (fault BadQuoted o) c)))
            go true v = inr (f.0, (one_outcome s c d h (token v f.1)).0)
            go false v = let e = one_outcome s c d h (invalid v) in inl (rw (e.0, e.1) (invalid (valid_same v)))

        -- either way
        pub outcome_alike : (Outcome (blanked s) c d a x) ⊎ ((o : ℕ) × (a ≡ Err (refused_at (fault BadQuoted o) c)))
        outcome_alike = ⊎_elim (λ f. ⊎_elim (λ g. inl (carried f g h)) by_four tokens_alike) by_four first_alike
