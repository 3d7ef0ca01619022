-- `reader::machine::at_frame` meets its contract. Assumes nothing.
use Rattle.std.proofs.Common.{rules, ◌≡◌, ◌∙◌, refl, sym, ℕ, ◌+◌, ◌≤◌, List, ◌∷◌, Fits}
use native.Mathlib.Omega.{arith}
use mir.Syntax.{w16}
use Rattle.reader.specs.Token.{close, close_list, close_curly, bar, double_bar, comma, end_mark}
use Rattle.reader.specs.Tree.{packed}
use Rattle.reader.specs.Kinds.{kind_as}
use Rattle.reader.specs.Machine.{nd, Out, Frames, State, have, want, dead, red, act_of, act, act_if, closing, size}
use Rattle.reader.specs.Layout.{tag_of, index_of, prio_of, bound_of, frame_as, frame_of, frames_of, out_of, stop_as, state_of, most}
use Rattle.reader.specs.declared.kinds.NodeKind.TheVariants as NodeKind
use Rattle.reader.specs.declared.machine.Spot.{Spot}
use Rattle.reader.specs.declared.machine.Stop.{Stop}
use Rattle.reader.specs.declared.machine.Stop.TheVariants.{Close, CloseList, CloseCurly, Bar, DoubleBar, Comma, EndMark}
use Rattle.reader.specs.declared.machine.Tag.{Tag}
use Rattle.reader.specs.declared.machine.Tag.TheVariants.{Prefix, Infix, Top, Round, Curly, Call, List as ListTag, Tail}
use Rattle.reader.specs.declared.machine.Mode.TheVariants.{Have, Dead, Done}
use Rattle.reader.proofs.machine.at_frame.Goals as goal

-- the frames at which each stop cannot stand
module _ (i q b : ℕ) (fs : Frames) (out : Out) where
  no-close : (t : Tag) → (t ≡ Round → ⊥) → (t ≡ Call → ⊥) → closing packed close (red (frame_as t i q b ∷ fs) out) ≡ dead
  unfolding closing act_of act_if frame_as
  no-close Prefix f g = refl
  no-close Infix f g = refl
  no-close Top f g = refl
  no-close Round f g = absurd (f refl)
  no-close Curly f g = refl
  no-close Call f g = absurd (g refl)
  no-close ListTag f g = refl
  no-close Tail f g = refl

  no-close-list : (t : Tag) → (t ≡ ListTag → ⊥) → (t ≡ Tail → ⊥) → closing packed close_list (red (frame_as t i q b ∷ fs) out) ≡ dead
  unfolding closing act_of act_if frame_as
  no-close-list Prefix f g = refl
  no-close-list Infix f g = refl
  no-close-list Top f g = refl
  no-close-list Round f g = refl
  no-close-list Curly f g = refl
  no-close-list Call f g = refl
  no-close-list ListTag f g = absurd (f refl)
  no-close-list Tail f g = absurd (g refl)

  no-close-curly : (t : Tag) → (t ≡ Curly → ⊥) → closing packed close_curly (red (frame_as t i q b ∷ fs) out) ≡ dead
  unfolding closing act_of act_if frame_as
  no-close-curly Prefix f = refl
  no-close-curly Infix f = refl
  no-close-curly Top f = refl
  no-close-curly Round f = refl
  no-close-curly Curly f = absurd (f refl)
  no-close-curly Call f = refl
  no-close-curly ListTag f = refl
  no-close-curly Tail f = refl

  no-bar : (t : Tag) → (t ≡ ListTag → ⊥) → closing packed bar (red (frame_as t i q b ∷ fs) out) ≡ dead
  unfolding closing act_of act_if frame_as
  no-bar Prefix f = refl
  no-bar Infix f = refl
  no-bar Top f = refl
  no-bar Round f = refl
  no-bar Curly f = refl
  no-bar Call f = refl
  no-bar ListTag f = absurd (f refl)
  no-bar Tail f = refl

  no-comma : (t : Tag) → (t ≡ Call → ⊥) → (t ≡ ListTag → ⊥) → closing packed comma (red (frame_as t i q b ∷ fs) out) ≡ dead
  unfolding closing act_of act_if frame_as
  no-comma Prefix f g = refl
  no-comma Infix f g = refl
  no-comma Top f g = refl
  no-comma Round f g = refl
  no-comma Curly f g = refl
  no-comma Call f g = absurd (f refl)
  no-comma ListTag f g = absurd (g refl)
  no-comma Tail f g = refl

  no-end-mark : (t : Tag) → (t ≡ Top → ⊥) → closing packed end_mark (red (frame_as t i q b ∷ fs) out) ≡ dead
  unfolding closing act_of act_if frame_as
  no-end-mark Prefix f = refl
  no-end-mark Infix f = refl
  no-end-mark Top f = absurd (f refl)
  no-end-mark Round f = refl
  no-end-mark Curly f = refl
  no-end-mark Call f = refl
  no-end-mark ListTag f = refl
  no-end-mark Tail f = refl

  no-double-bar : (t : Tag) → closing packed double_bar (red (frame_as t i q b ∷ fs) out) ≡ dead
  unfolding closing act_of act_if frame_as
  no-double-bar Prefix = refl
  no-double-bar Infix = refl
  no-double-bar Top = refl
  no-double-bar Round = refl
  no-double-bar Curly = refl
  no-double-bar Call = refl
  no-double-bar ListTag = refl
  no-double-bar Tail = refl

-- what is counted can be counted on
module _ (w : ℕ) (t : Tag) (n : ℕ) (few : size (frame_of w) ≤ most) (e : t ≡ tag_of w) (h : n ≡ prio_of w) where
  call_few : t ≡ Call → n + 1 ≤ most
  unfolding size frame_of frame_as
  call_few k = let u : tag_of w ≡ Call = sym e ∙ k in let m : prio_of w + 1 ≤ most = rw u at few in rw h m

  list_few : t ≡ ListTag → n + 1 ≤ most
  unfolding size frame_of frame_as
  list_few k = let u : tag_of w ≡ ListTag = sym e ∙ k in let m : prio_of w + 1 ≤ most = rw u at few in rw h m

  tail_few : t ≡ Tail → n + 1 ≤ most
  unfolding size frame_of frame_as
  tail_few k = let u : tag_of w ≡ Tail = sym e ∙ k in let m : prio_of w + 1 ≤ most = rw u at few in rw h m

fits : (n : ℕ) → n + 1 ≤ most → Fits w16 (n + 1)
fits n h = record { fits = omega arith }

-- the ways out: t is the frame's tag
module _ (st ns : List ℕ) (s : Spot) (w : ℕ) (x : Stop) (t : Tag) (e : t ≡ tag_of w) where
  abbrev after : State
  after = closing packed (stop_as x) (red (frame_of w ∷ frames_of st s.depth) (out_of ns s.count))

  round : x ≡ Close → t ≡ Round → state_of (Have s) st ns ≡ after
  unfolding state_of closing act_of act_if act stop_as frame_of frame_as
  round f k = let u : tag_of w ≡ Round = sym e ∙ k in rw (f, u)

  ended : x ≡ EndMark → t ≡ Top → state_of (Done s.count) st ns ≡ after
  unfolding state_of closing act_of act_if act stop_as frame_of frame_as
  ended f k = let u : tag_of w ≡ Top = sym e ∙ k in rw (f, u)

  one : (z : State) (i : ℕ) → i ≡ index_of w → x ≡ CloseCurly → t ≡ Curly → z ≡ have (frames_of st s.depth) (nd i (packed (kind_as NodeKind.Curly) 1) ∷ out_of ns s.count) → z ≡ after
  unfolding closing act_of act_if act stop_as kind_as frame_of frame_as
  one z i g f k l = let u : tag_of w ≡ Curly = sym e ∙ k in rw f (rw u (rw (← g) l))

  module _ (z : State) (i n : ℕ) (g : i ≡ index_of w) (h : n ≡ prio_of w) where
    args : x ≡ Close → t ≡ Call → z ≡ have (frames_of st s.depth) (nd i (packed (kind_as NodeKind.Call) (n + 1)) ∷ out_of ns s.count) → z ≡ after
    unfolding closing act_of act_if act stop_as kind_as frame_of frame_as
    args f k l = let u : tag_of w ≡ Call = sym e ∙ k in rw f (rw u (rw (← g) (rw (← h) l)))

    items : x ≡ CloseList → t ≡ ListTag → z ≡ have (frames_of st s.depth) (nd i (packed (kind_as NodeKind.List) (n + 1)) ∷ out_of ns s.count) → z ≡ after
    unfolding closing act_of act_if act stop_as kind_as frame_of frame_as
    items f k l = let u : tag_of w ≡ ListTag = sym e ∙ k in rw f (rw u (rw (← g) (rw (← h) l)))

    tail : x ≡ CloseList → t ≡ Tail → z ≡ have (frames_of st s.depth) (nd i (packed (kind_as NodeKind.ListTail) (n + 1)) ∷ out_of ns s.count) → z ≡ after
    unfolding closing act_of act_if act stop_as kind_as frame_of frame_as
    tail f k l = let u : tag_of w ≡ Tail = sym e ∙ k in rw f (rw u (rw (← g) (rw (← h) l)))

    to_tail : x ≡ Bar → t ≡ ListTag → z ≡ want (frame_as Tail i (n + 1) 0 ∷ frames_of st s.depth) (out_of ns s.count) → z ≡ after
    unfolding closing act_of act_if act stop_as kind_as frame_of frame_as
    to_tail f k l = let u : tag_of w ≡ ListTag = sym e ∙ k in rw f (rw u (rw (← g) (rw (← h) l)))

    argument : x ≡ Comma → t ≡ Call → z ≡ want (frame_as Call i (n + 1) 0 ∷ frames_of st s.depth) (out_of ns s.count) → z ≡ after
    unfolding closing act_of act_if act stop_as kind_as frame_of frame_as
    argument f k l = let u : tag_of w ≡ Call = sym e ∙ k in rw f (rw u (rw (← g) (rw (← h) l)))

    item : x ≡ Comma → t ≡ ListTag → z ≡ want (frame_as ListTag i (n + 1) 0 ∷ frames_of st s.depth) (out_of ns s.count) → z ≡ after
    unfolding closing act_of act_if act stop_as kind_as frame_of frame_as
    item f k l = let u : tag_of w ≡ ListTag = sym e ∙ k in rw f (rw u (rw (← g) (rw (← h) l)))

  dead-close : x ≡ Close → (t ≡ Round → ⊥) → (t ≡ Call → ⊥) → state_of Dead st ns ≡ after
  unfolding state_of stop_as frame_of
  dead-close f j k = rw f (sym (no-close (index_of w) (prio_of w) (bound_of w) (frames_of st s.depth) (out_of ns s.count) (tag_of w) (λ v. j (e ∙ v)) (λ v. k (e ∙ v))))

  dead-close-list : x ≡ CloseList → (t ≡ ListTag → ⊥) → (t ≡ Tail → ⊥) → state_of Dead st ns ≡ after
  unfolding state_of stop_as frame_of
  dead-close-list f j k = rw f (sym (no-close-list (index_of w) (prio_of w) (bound_of w) (frames_of st s.depth) (out_of ns s.count) (tag_of w) (λ v. j (e ∙ v)) (λ v. k (e ∙ v))))

  dead-close-curly : x ≡ CloseCurly → (t ≡ Curly → ⊥) → state_of Dead st ns ≡ after
  unfolding state_of stop_as frame_of
  dead-close-curly f j = rw f (sym (no-close-curly (index_of w) (prio_of w) (bound_of w) (frames_of st s.depth) (out_of ns s.count) (tag_of w) (λ v. j (e ∙ v))))

  dead-bar : x ≡ Bar → (t ≡ ListTag → ⊥) → state_of Dead st ns ≡ after
  unfolding state_of stop_as frame_of
  dead-bar f j = rw f (sym (no-bar (index_of w) (prio_of w) (bound_of w) (frames_of st s.depth) (out_of ns s.count) (tag_of w) (λ v. j (e ∙ v))))

  dead-comma : x ≡ Comma → (t ≡ Call → ⊥) → (t ≡ ListTag → ⊥) → state_of Dead st ns ≡ after
  unfolding state_of stop_as frame_of
  dead-comma f j k = rw f (sym (no-comma (index_of w) (prio_of w) (bound_of w) (frames_of st s.depth) (out_of ns s.count) (tag_of w) (λ v. j (e ∙ v)) (λ v. k (e ∙ v))))

  dead-end-mark : x ≡ EndMark → (t ≡ Top → ⊥) → state_of Dead st ns ≡ after
  unfolding state_of stop_as frame_of
  dead-end-mark f j = rw f (sym (no-end-mark (index_of w) (prio_of w) (bound_of w) (frames_of st s.depth) (out_of ns s.count) (tag_of w) (λ v. j (e ∙ v))))

  dead-double-bar : x ≡ DoubleBar → state_of Dead st ns ≡ after
  unfolding state_of stop_as frame_of
  dead-double-bar f = rw f (sym (no-double-bar (index_of w) (prio_of w) (bound_of w) (frames_of st s.depth) (out_of ns s.count) (tag_of w)))

ruleset ways = (call_few, list_few, tail_few, fits, round, ended, one, args, items, tail, to_tail, argument, item, dead-close, dead-close-list, dead-close-curly, dead-bar, dead-comma, dead-end-mark, dead-double-bar, rules)

pub overflow_add-n : goal.overflow_add-n
overflow_add-n c = search ways

pub have_node-requires-clause-a_bound : goal.have_node-requires-clause-a_bound
have_node-requires-clause-a_bound c = search ways

pub overflow_add-n-in-CloseList-List : goal.overflow_add-n-in-CloseList-List
overflow_add-n-in-CloseList-List c = search ways

pub have_node-requires-in-CloseList-List-clause-a_bound : goal.have_node-requires-in-CloseList-List-clause-a_bound
have_node-requires-in-CloseList-List-clause-a_bound c = search ways

pub overflow_add-n-in-CloseList-Tail : goal.overflow_add-n-in-CloseList-Tail
overflow_add-n-in-CloseList-Tail c = search ways

pub have_node-requires-in-CloseList-Tail-clause-a_bound : goal.have_node-requires-in-CloseList-Tail-clause-a_bound
have_node-requires-in-CloseList-Tail-clause-a_bound c = search ways

pub overflow_add-n-in-Bar-List : goal.overflow_add-n-in-Bar-List
overflow_add-n-in-Bar-List c = search ways

pub overflow_add-n-in-Comma-Call : goal.overflow_add-n-in-Comma-Call
overflow_add-n-in-Comma-Call c = search ways

pub overflow_add-n-in-Comma-List : goal.overflow_add-n-in-Comma-List
overflow_add-n-in-Comma-List c = search ways

pub returns-in-Close-Round : goal.returns-in-Close-Round
returns-in-Close-Round c = search ways

pub returns-in-Close-Call : goal.returns-in-Close-Call
returns-in-Close-Call c = search ways

pub returns-in-CloseList-List : goal.returns-in-CloseList-List
returns-in-CloseList-List c = search ways

pub returns-in-CloseList-Tail : goal.returns-in-CloseList-Tail
returns-in-CloseList-Tail c = search ways

pub returns-in-CloseCurly-Curly : goal.returns-in-CloseCurly-Curly
returns-in-CloseCurly-Curly c = search ways

pub returns-in-Bar-List : goal.returns-in-Bar-List
returns-in-Bar-List c = search ways

pub returns-in-Comma-Call : goal.returns-in-Comma-Call
returns-in-Comma-Call c = search ways

pub returns-in-Comma-List : goal.returns-in-Comma-List
returns-in-Comma-List c = search ways

pub returns-in-EndMark-Top : goal.returns-in-EndMark-Top
returns-in-EndMark-Top c = search ways

pub returns-in_default : goal.returns-in_default
returns-in_default c = search ways

pub returns-in_default-2 : goal.returns-in_default-2
returns-in_default-2 c = search ways

pub returns-in_default-3 : goal.returns-in_default-3
returns-in_default-3 c = search ways

pub returns-in_default-4 : goal.returns-in_default-4
returns-in_default-4 c = search ways

pub returns-in_default-5 : goal.returns-in_default-5
returns-in_default-5 c = search ways

pub returns-in_default-6 : goal.returns-in_default-6
returns-in_default-6 c = search ways

pub returns-in_default-7 : goal.returns-in_default-7
returns-in_default-7 c = search ways
