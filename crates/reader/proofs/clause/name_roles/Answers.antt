-- `reader::clause::name_roles` meets its contract: a name is quoted exactly if a single quote begins it. Assumes nothing.
use Prim.Native.Nat.{ℕ, ◌-◌, ◌<◌}
use mathlib.Core.Path.{◌≡◌, sym, ◌∙◌, ap}
use mathlib.Core.List.{List}
use native.Mathlib.Omega.{arith}
use borrow.Author.Rules.{rules}
use lib.ListN.{length, get_or, take, drop}
use Rattle.lexer.specs.Chars.{single_quote}
use Rattle.lexer.specs.Quoted.{bytes_of}
use Rattle.lexer.specs.Token.{Text, lexeme, read_lexeme}
use Rattle.lexer.specs.declared.cursor.Cursor.{Cursor}
use Rattle.lexer.specs.declared.token.Token as lexer
use Rattle.lexer.specs.declared.token.Source.TheVariants.{File}
use Rattle.lexer.proofs.Theorems.{NameText, quoted, unquoted, name_spelt, decoded_spelt, is-valid}
use Rattle.reader.specs.Ops.{operators}
use Rattle.reader.specs.Roles.{roles_of}
use Rattle.reader.specs.Names.{Part}
use Rattle.reader.specs.Clause.{text_in, token_in}
use Rattle.reader.specs.Gather.{token_of, token_from, quoted_bytes, NameFrom, QuotedAt}
use Rattle.reader.specs.declared.roles.Roles.{Roles}
use Rattle.reader.proofs.Sights.{Known, known, token-known}
use Rattle.reader.proofs.clause.name_roles.Goals as goal

module _ (s : List ℕ) (c : Cursor) (t : lexer.Token) (d : Cursor) (r : NameFrom s c t d) where
  it : Known s c t d
  it = known s c t d r.reads

  spelt : NameText (get_or s t.start 0) it.text
  spelt = name_spelt File s c.offset t d.offset it.text it.reads r.name

  inside : t.start < length s
  inside = omega (arith, it.ahead, it.inside)

  -- the ways out
  module _ (q : get_or s t.start 0 ≡ single_quote) where
    is_quoted : QuotedAt s t.start
    is_quoted = go spelt it.reads
      where
        go : {x : Text} → NameText (get_or s t.start 0) x → read_lexeme File s c.offset ≡ lexeme t d.offset x → QuotedAt s t.start
        go (quoted bs e) f =
            record { inside = inside; quote = q; short = (is-valid (length s) c it.valid_cursor).short; bytes = bs; end = d.offset; decodes = decoded_spelt File s c.offset t d.offset bs f }
        go (unquoted n) f = absurd (n q)

    its_text : quoted_bytes s t.start ≡ (token_from s c).text
    unfolding token_of text_in bytes_of
    its_text = go spelt it.reads
      where
        go : {x : Text} → NameText (get_or s t.start 0) x → read_lexeme File s c.offset ≡ lexeme t d.offset x → quoted_bytes s t.start ≡ (token_from s c).text
        go (quoted bs e) f = ap bytes_of (decoded_spelt File s c.offset t d.offset bs f) ∙ sym (ap (λ l. (token_of s l).text) f)
        go (unquoted n) f = absurd (n q)

    its_roles : (x : Roles) → x ≡ roles_of operators (quoted_bytes s t.start) → x ≡ roles_of operators (token_from s c).text
    its_roles x g = g ∙ ap (roles_of operators) its_text

  there : Part s t.start d.offset
  there = record { ahead = omega (arith, it.ahead); inside = it.inside }

  own : (get_or s t.start 0 ≡ single_quote → ⊥) → (x : Roles) → x ≡ roles_of operators (take (d.offset - t.start) (drop t.start s)) → x ≡ roles_of operators (token_from s c).text
  unfolding text_in
  own n x g = go spelt (token-known s c t d it)
    where
      go : {y : Text} → NameText (get_or s t.start 0) y → token_from s c ≡ token_in s t d.offset y → x ≡ roles_of operators (token_from s c).text
      go (quoted bs e) f = absurd (n e)
      go (unquoted m) f = cc

ruleset ways = (inside, is_quoted, its_roles, there, own, rules)

pub returns-then-text-start-eq39 : goal.returns-then-text-start-eq39
returns-then-text-start-eq39 c = search ways

pub returns : goal.returns
returns c = search ways

pub bounds-text-start : goal.bounds-text-start
bounds-text-start c = search ways

pub quoted_roles-requires : goal.quoted_roles-requires
quoted_roles-requires c = search ways

pub roles_of-requires : goal.roles_of-requires
roles_of-requires c = search ways
