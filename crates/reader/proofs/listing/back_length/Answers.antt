-- `reader::listing::back_length` meets its contract. Assumes nothing.
use mathlib.Core.Path.{◌≡◌, refl}
use mathlib.Core.Logic.{◌⊎◌, inl, inr}
use borrow.Author.Rules.{rules}
use lib.ListN.{length}
use Rattle.reader.specs.Listing.{back}
use Rattle.reader.specs.declared.listing.Shape.{Shape}
use Rattle.reader.specs.declared.listing.Shape.TheVariants.{Word, Negative, Call, Square, Tail, Curly}
use Rattle.reader.proofs.listing.back_length.Goals as goal

nothing : (x : Shape) → (x ≡ Word) ⊎ (x ≡ Negative) → 0 ≡ length (back x)
unfolding back
nothing x (inl e) = cc
nothing x (inr e) = cc

bracket : (x : Shape) → (x ≡ Word → ⊥) → (x ≡ Negative → ⊥) → 1 ≡ length (back x)
unfolding back
bracket Word h k = absurd (h refl)
bracket Negative h k = absurd (k refl)
bracket Call h k = refl
bracket Square h k = refl
bracket Tail h k = refl
bracket Curly h k = refl

ruleset ways = (nothing, bracket, rules)

pub returns-in-Word : goal.returns-in-Word
returns-in-Word c = search ways

pub returns-in_default : goal.returns-in_default
returns-in_default c = search ways
