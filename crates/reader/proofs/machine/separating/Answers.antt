-- `reader::machine::separating` meets its contract. Assumes nothing.
use Rattle.std.proofs.Common.{rules, ◌≡◌, refl, ℕ, ◌-◌, true, false, List, ◌∷◌, length, Some, None, slice_get, ◌⊎◌, inl, inr}
use Rattle.reader.specs.Machine.{Frames, separates}
use Rattle.reader.specs.Layout.{tag_of, index_of, prio_of, bound_of, frame_as, frame_of, frames_of}
use Rattle.reader.proofs.Stacks.{none_on_top, one_on_top}
use Rattle.reader.specs.declared.machine.Tag.{Tag}
use Rattle.reader.specs.declared.machine.Tag.TheVariants.{Prefix, Infix, Top, Round, Curly, Call, List as ListTag, Tail}
use Rattle.reader.proofs.machine.separating.Goals as goal

module _ (i q b : ℕ) (fs : Frames) where
  joined : (t : Tag) → (t ≡ Call → ⊥) → (t ≡ ListTag → ⊥) → (t ≡ Tail → ⊥) → separates (frame_as t i q b ∷ fs) ≡ false
  unfolding separates frame_as
  joined Prefix f g h = refl
  joined Infix f g h = refl
  joined Top f g h = refl
  joined Round f g h = refl
  joined Curly f g h = refl
  joined Call f g h = absurd (f refl)
  joined ListTag f g h = absurd (g refl)
  joined Tail f g h = absurd (h refl)

module _ (st : List ℕ) where
  empty : None ≡ slice_get st (length st - 1) → false ≡ separates (frames_of st (length st))
  unfolding separates
  empty h = cc (none_on_top st h)

  -- w is the word on top, t its tag
  module _ (w : ℕ) (t : Tag) (h : Some w ≡ slice_get st (length st - 1)) (e : t ≡ tag_of w) where
    joins : (t ≡ Call → ⊥) → (t ≡ ListTag → ⊥) → (t ≡ Tail → ⊥) → false ≡ separates (frames_of st (length st))
    unfolding frame_of
    joins f g k = cc (one_on_top st w h, joined (index_of w) (prio_of w) (bound_of w) (frames_of st (length st - 1)) t f g k)

    parts : t ≡ Call ⊎ t ≡ ListTag ⊎ t ≡ Tail → true ≡ separates (frames_of st (length st))
    unfolding separates frame_of frame_as
    parts (inl g) = cc (one_on_top st w h)
    parts (inr (inl g)) = cc (one_on_top st w h)
    parts (inr (inr g)) = cc (one_on_top st w h)

ruleset ways = (empty, joins, parts, rules)

pub returns-in_default : goal.returns-in_default
returns-in_default c = search ways

pub returns-in-Call : goal.returns-in-Call
returns-in-Call c = search ways

pub returns-in_default-matches : goal.returns-in_default-matches
returns-in_default-matches c = search ways
