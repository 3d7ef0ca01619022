-- `reader::listing::last_separator` meets its contract. Assumes nothing.
use mathlib.Core.Path.{◌≡◌, refl}
use borrow.Author.Rules.{rules}
use Rattle.lexer.specs.Chars.{comma, bar}
use Rattle.reader.specs.Listing.{last_separator}
use Rattle.reader.specs.declared.listing.Shape.{Shape}
use Rattle.reader.specs.declared.listing.Shape.TheVariants.{Word, Negative, Call, Square, Tail, Curly}
use Rattle.reader.proofs.listing.last_separator.Goals as goal

tail : (x : Shape) → x ≡ Tail → bar ≡ last_separator x
unfolding last_separator
tail x e = cc

other : (x : Shape) → (x ≡ Tail → ⊥) → comma ≡ last_separator x
unfolding last_separator
other Word h = refl
other Negative h = refl
other Call h = refl
other Square h = refl
other Tail h = absurd (h refl)
other Curly h = refl

ruleset ways = (tail, other, rules)

pub returns-in-Tail : goal.returns-in-Tail
returns-in-Tail c = search ways

pub returns-in_default : goal.returns-in_default
returns-in_default c = search ways
