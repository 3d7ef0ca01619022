-- Answers that are equal have equal parts. Assumes nothing.
use Rattle.std.proofs.Common.{◌≡◌, ap, Result, Ok, Err}
use Rattle.std.specs.Prelude.{ℕ}
use Rattle.lexer.specs.Quoted.{measure}
use Rattle.lexer.specs.Refusal.{refuse}
use Rattle.lexer.specs.Text.{text_read}
use Rattle.lexer.specs.Token.{found_whole, token_read}
use Rattle.lexer.specs.declared.cursor.Cursor.{Cursor}
use Rattle.lexer.specs.declared.quoted.Measure.{Measure}
use Rattle.lexer.specs.declared.refusal.Fault.{Fault}
use Rattle.lexer.specs.declared.refusal.Refused.{Refused}
use Rattle.lexer.specs.declared.text.Part.{Part}
use Rattle.lexer.specs.declared.text.TextRead.{TextRead}
use Rattle.lexer.specs.declared.token.Found.{Found}
use Rattle.lexer.specs.declared.token.Spelling.{Spelling}
use Rattle.lexer.specs.declared.token.Token.{Token}
use Rattle.lexer.specs.declared.token.TokenRead.{TokenRead}

module _ {T E : Type 0} where
  ok_or : T → Result T E → T
  ok_or x (Ok y) = y
  ok_or x (Err e) = x

  err_or : E → Result T E → E
  err_or d (Ok y) = d
  err_or d (Err e) = e

  pub ok_is : {x y : T} → ◌≡◌ {A = Result T E} (Ok x) (Ok y) → x ≡ y
  unfolding ok_or
  ok_is {x = x} h = ap (ok_or x) h

  pub err_is : {x y : E} → ◌≡◌ {A = Result T E} (Err x) (Err y) → x ≡ y
  unfolding err_or
  err_is {x = x} h = ap (err_or x) h

pub refuse_parts : {T : Type 0} {w v : Fault} {c d : Cursor} → refuse {T = T} w c ≡ refuse {T = T} v d → (w ≡ v) × (c ≡ d)
refuse_parts h = let e = err_is h in (ap (λ (x : Refused). x.fault) e, ap (λ (x : Refused). x.cursor) e)

pub read_parts : {t u : Token} {c d : Cursor} → token_read t c ≡ token_read u d → (t ≡ u) × (c ≡ d)
read_parts h = let e = ok_is h in (ap (λ (x : TokenRead). x.token) e, ap (λ (x : TokenRead). x.next) e)

pub text_parts : {t u : Token} {c d : Cursor} {p q : Part} → text_read t c p ≡ text_read u d q → (t ≡ u) × (c ≡ d) × (p ≡ q)
text_parts h = let e = ok_is h in (ap (λ (x : TextRead). x.token) e, ap (λ (x : TextRead). x.next) e, ap (λ (x : TextRead). x.part) e)

pub measure_parts : {n m : ℕ} {c d : Cursor} → measure n c ≡ measure m d → (n ≡ m) × (c ≡ d)
measure_parts h = let e = ok_is h in (ap (λ (x : Measure). x.length) e, ap (λ (x : Measure). x.next) e)

-- what was found: its token and its spelling
pub found_parts : {o a l b k e : ℕ} {t u : Token} {x y : Spelling} → found_whole o t l x k ≡ found_whole a u b y e → (t ≡ u) × (x ≡ y)
found_parts h = let e = ok_is h in (ap (λ (x : Found). x.token) e, ap (λ (x : Found). x.spelling) e)
