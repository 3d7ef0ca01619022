-- `reader::machine::top_bound` meets its contract. Assumes nothing.
use Rattle.std.proofs.Common.{rules, ◌≡◌, ℕ, ◌-◌, List, length, Some, None, slice_get, ◌⊎◌, inl, inr}
use Rattle.reader.specs.Machine.{place_of, bound}
use Rattle.reader.specs.Layout.{tag_of, bound_of, frame_as, frame_of, frames_of}
use Rattle.reader.proofs.Stacks.{none_on_top, one_on_top}
use Rattle.reader.specs.declared.machine.Tag.{Tag}
use Rattle.reader.specs.declared.machine.Tag.TheVariants.{Prefix, Infix, Top, Round, Curly, Call, List as ListTag, Tail}
use Rattle.reader.proofs.machine.top_bound.Goals as goal

module _ (st : List ℕ) where
  ended : None ≡ slice_get st (length st - 1) → 0 ≡ bound (frames_of st (length st))
  unfolding bound
  ended h = cc (none_on_top st h)

  -- w is the word on top, t its tag
  module _ (w : ℕ) (t : Tag) (h : Some w ≡ slice_get st (length st - 1)) (e : t ≡ tag_of w) where
    operator : (r : ℕ) → t ≡ Prefix ⊎ t ≡ Infix → r ≡ bound_of w → r ≡ bound (frames_of st (length st))
    unfolding bound frame_of frame_as
    operator r (inl g) f = cc (one_on_top st w h)
    operator r (inr g) f = cc (one_on_top st w h)

    high : t ≡ Top ⊎ t ≡ Round ⊎ t ≡ Curly → 1201 ≡ bound (frames_of st (length st))
    unfolding bound place_of frame_of frame_as
    high (inl g) = cc (one_on_top st w h)
    high (inr (inl g)) = cc (one_on_top st w h)
    high (inr (inr g)) = cc (one_on_top st w h)

    low : t ≡ Call ⊎ t ≡ ListTag ⊎ t ≡ Tail → 1000 ≡ bound (frames_of st (length st))
    unfolding bound place_of frame_of frame_as
    low (inl g) = cc (one_on_top st w h)
    low (inr (inl g)) = cc (one_on_top st w h)
    low (inr (inr g)) = cc (one_on_top st w h)

ruleset ways = (ended, operator, high, low, rules)

pub returns-in_default : goal.returns-in_default
returns-in_default c = search ways

pub returns-in-Prefix : goal.returns-in-Prefix
returns-in-Prefix c = search ways

pub returns-in-Top : goal.returns-in-Top
returns-in-Top c = search ways

pub returns-in-Call : goal.returns-in-Call
returns-in-Call c = search ways
