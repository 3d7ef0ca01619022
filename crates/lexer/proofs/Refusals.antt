-- The refusals' numbers: 1 to 15 and 18, each once. Assumes nothing.
use mathlib.Core.Path.{◌≡◌, refl, sym, ◌∙◌, ap}
use mathlib.Core.Bool.{cond}
use mathlib.Core.List.{List, [], ◌∷◌, map}
use Prim.Native.Nat.{ℕ}
use lib.Dec.{eqb}
use Rattle.lexer.specs.Refusal.{number_of}
use Rattle.lexer.specs.declared.refusal.Refusal.{Refusal}
use Rattle.lexer.specs.declared.refusal.Refusal.TheVariants.{EndOfText, UnclosedComment, NoToken, BadQuoted, ForeignByte, SetAside, OutOfLimit, NotValid, NoRoom, TooManyTokens, NoReading, NoText, TooLong, NoPack, TokenTooLong, UnknownVersion}

-- in the order of their numbers
abbrev pub all : List Refusal
all =
    EndOfText ∷ UnclosedComment ∷ NoToken ∷ BadQuoted ∷ ForeignByte ∷ SetAside ∷ OutOfLimit ∷ NotValid ∷ NoRoom ∷ TooManyTokens ∷ NoReading ∷ NoText ∷ TooLong ∷ NoPack ∷ TokenTooLong ∷ UnknownVersion ∷ []

pub numbers : map number_of all ≡ 1 ∷ 2 ∷ 3 ∷ 4 ∷ 5 ∷ 6 ∷ 7 ∷ 8 ∷ 9 ∷ 10 ∷ 11 ∷ 12 ∷ 13 ∷ 14 ∷ 15 ∷ 18 ∷ []
numbers = refl

-- the first refusal of a list that has this number
abbrev numbered : List Refusal → ℕ → Refusal
numbered [] n = EndOfText
numbered (r ∷ rs) n = cond (eqb (number_of r) n) r (numbered rs n)

back : (r : Refusal) → numbered all (number_of r) ≡ r
back EndOfText = refl
back UnclosedComment = refl
back NoToken = refl
back BadQuoted = refl
back ForeignByte = refl
back SetAside = refl
back OutOfLimit = refl
back NotValid = refl
back NoRoom = refl
back TooManyTokens = refl
back NoReading = refl
back NoText = refl
back TooLong = refl
back NoPack = refl
back TokenTooLong = refl
back UnknownVersion = refl

pub number_once : (r q : Refusal) → number_of r ≡ number_of q → r ≡ q
number_once r q e = sym (back r) ∙ ap (numbered all) e ∙ back q
