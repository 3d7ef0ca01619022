-- How the code holds the machine's states: a frame and a node are one word each, a stack is the first so many words of a slice, read from the top.
-- And what the code asks of the slices. Assumes nothing.
use Rattle.std.specs.Prelude.{ℕ, zero, suc, ◌+◌, ◌*◌, ◌/◌, ◌%◌, ◌≤◌, true, false, cond, List, [], ◌∷◌, eqb, length, get_or, Option as CodeOption, Some, None}
use Rattle.std.proofs.Math.Option.{Option, none, some}
use Rattle.reader.specs.Token.{Stop, close, close_list, close_curly, bar, double_bar, comma, end_mark}
use Rattle.reader.specs.Ops.{Pre, fx, fy, Inf, xfx, xfy, yfx}
use Rattle.reader.specs.Machine as M
use Rattle.reader.specs.Machine.{Node, nd, Out, in_call, in_list, Bracket, top, in_round, in_curly, in_seq, in_tail, op, Frame, waiting, opened, Frames, State, want, pend, begun, have, dead, done, squares, braces, Red, red, emit, act_of, act_if, seen_name, seen_number, seen_var_or_string, seen_round, seen_square, seen_brace, seen_stop, laid, size, Numbered}
use Rattle.reader.specs.declared.machine.Spot.{Spot}
use Rattle.reader.specs.declared.machine.Tag.{Tag}
use Rattle.reader.specs.declared.machine.Tag.TheVariants.{Prefix as PrefixTag, Infix as InfixTag, Top as TopTag, Round as RoundTag, Curly as CurlyTag, Call as CallTag, List as ListTag, Tail as TailTag}
use Rattle.reader.specs.declared.machine.Stop.{Stop as CodeStop}
use Rattle.reader.specs.declared.machine.Stop.TheVariants.{Close, CloseList, CloseCurly, Bar, DoubleBar, Comma, EndMark}
use Rattle.reader.specs.declared.roles.Prefix.{Prefix}
use Rattle.reader.specs.declared.roles.Prefix.TheVariants.{Fx, Fy}
use Rattle.reader.specs.declared.roles.Infix.{Infix}
use Rattle.reader.specs.declared.roles.Infix.TheVariants.{Xfx, Xfy, Yfx}
use Rattle.reader.specs.declared.machine.Sight.{Sight}
use Rattle.reader.specs.declared.machine.Sight.TheVariants.{Name, Number, VarOrString, Round, Square, Brace, Stop as Stops}
use Rattle.reader.specs.declared.machine.Shape.{Shape}
use Rattle.reader.specs.declared.machine.Shape.TheVariants.{Squares, Braces}
use Rattle.reader.specs.declared.machine.Mode.{Mode}
use Rattle.reader.specs.declared.machine.Mode.TheVariants.{Want, Pend, Begun, Have, Dead, Done}

-- A frame's word: tag (3 bits), token index (16), priority or place number (16), bound.
abbrev pub index_of : ℕ → ℕ
index_of w = w / 8 % 65536

abbrev pub prio_of : ℕ → ℕ
prio_of w = w / 524288 % 65536

abbrev pub bound_of : ℕ → ℕ
bound_of w = w / 34359738368

-- A tag's number is its place in the code's list: operators come first, then the brackets with a place of 1200, then those with places of 999.
unfoldable pub tag_as : ℕ → Tag
tag_as n =
    cond (eqb n 0) PrefixTag
    (cond (eqb n 1) InfixTag
    (cond (eqb n 2) TopTag
    (cond (eqb n 3) RoundTag
    (cond (eqb n 4) CurlyTag
    (cond (eqb n 5) CallTag
    (cond (eqb n 6) ListTag
    TailTag))))))

abbrev pub tag_of : ℕ → Tag
tag_of w = tag_as (w % 8)

unfoldable pub frame_as : Tag → ℕ → ℕ → ℕ → Frame
frame_as PrefixTag i q b = waiting (op i false q b)
frame_as InfixTag i q b = waiting (op i true q b)
frame_as TopTag i q b = opened top
frame_as RoundTag i q b = opened in_round
frame_as CurlyTag i q b = opened (in_curly i)
frame_as CallTag i q b = opened (in_seq in_call i q)
frame_as ListTag i q b = opened (in_seq in_list i q)
frame_as TailTag i q b = opened (in_tail i q)

unfoldable pub frame_of : ℕ → Frame
frame_of w = frame_as (tag_of w) (index_of w) (prio_of w) (bound_of w)

-- A node's word: token index, then packed kind and arity (16 bits).
unfoldable pub node_of : ℕ → Node
node_of w = nd (w / 65536) (w % 65536)

-- the first d words, from the top
unfoldable pub frames_of : List ℕ → ℕ → Frames
frames_of st zero = []
frames_of st (suc d) = frame_of (get_or st d 0) ∷ frames_of st d

unfoldable pub out_of : List ℕ → ℕ → Out
out_of ns zero = []
out_of ns (suc n) = node_of (get_or ns n 0) ∷ out_of ns n

abbrev pub red_of : List ℕ → List ℕ → Spot → Red
red_of st ns s = red (frames_of st s.depth) (out_of ns s.count)

-- Tokens and roles

unfoldable pub pre_of : CodeOption Prefix → Option Pre
pre_of None = none
pre_of (Some (Fx p)) = some (fx p)
pre_of (Some (Fy p)) = some (fy p)

unfoldable pub inf_of : CodeOption Infix → Option Inf
inf_of None = none
inf_of (Some (Xfx p)) = some (xfx p)
inf_of (Some (Xfy p)) = some (xfy p)
inf_of (Some (Yfx p)) = some (yfx p)

unfoldable pub stop_as : CodeStop → Stop
stop_as Close = close
stop_as CloseList = close_list
stop_as CloseCurly = close_curly
stop_as Bar = bar
stop_as DoubleBar = double_bar
stop_as Comma = comma
stop_as EndMark = end_mark

unfoldable pub halt_of : CodeOption CodeStop → Option Stop
halt_of None = none
halt_of (Some x) = some (stop_as x)

unfoldable pub sight_of : Sight → M.Sight
sight_of (Name e r) = seen_name e r.minus (pre_of r.prefix) (inf_of r.«infix»)
sight_of (Number s low) = seen_number s low
sight_of VarOrString = seen_var_or_string
sight_of (Round ct) = seen_round ct
sight_of Square = seen_square
sight_of Brace = seen_brace
sight_of (Stops x) = seen_stop (stop_as x)

-- States

unfoldable pub shape_of : Shape → M.Shape
shape_of Squares = squares
shape_of Braces = braces

unfoldable pub state_of : Mode → List ℕ → List ℕ → State
state_of (Want s) st ns = want (frames_of st s.depth) (out_of ns s.count)
state_of (Pend s p) st ns = pend p.index p.end p.roles.minus (pre_of p.roles.prefix) (inf_of p.roles.«infix») (frames_of st s.depth) (out_of ns s.count)
state_of (Begun s h i) st ns = begun (shape_of h) i (frames_of st s.depth) (out_of ns s.count)
state_of (Have s) st ns = have (frames_of st s.depth) (out_of ns s.count)
state_of Dead st ns = dead
state_of (Done n) st ns = done (out_of ns n)

-- What the code asks

-- room for k words more in each slice, whatever moves from the frames to the nodes
pub record Room (st ns : List ℕ) (d n k : ℕ) : Type 0 where
  pub frames : d + n + k ≤ length st
  pub nodes : d + n + k ≤ length ns

-- the most that a frame counts for: 01's 1,024 tokens
abbrev pub most : ℕ
most = 1024

-- room, and places that can be counted
pub record Held (st ns : List ℕ) (d n k : ℕ) : Type 0 where
  pub room : Room st ns d n k
  pub places : Numbered most (frames_of st d)

-- how many words more a token may take: the end mark takes none
unfoldable pub stop_takes : CodeStop → ℕ
stop_takes Close = 1
stop_takes CloseList = 1
stop_takes CloseCurly = 1
stop_takes Bar = 1
stop_takes DoubleBar = 1
stop_takes Comma = 1
stop_takes EndMark = 0

unfoldable pub takes : Sight → ℕ
takes (Name e r) = 1
takes (Number s low) = 1
takes VarOrString = 1
takes (Round ct) = 1
takes Square = 1
takes Brace = 1
takes (Stops x) = stop_takes x

abbrev pub spot_of : Mode → Spot
spot_of (Want s) = s
spot_of (Pend s p) = s
spot_of (Begun s h i) = s
spot_of (Have s) = s
spot_of Dead = record { depth = 0; count = 0 }
spot_of (Done n) = record { depth = 0; count = 0 }

-- the token that is kept in the mode itself
abbrev pub keeps : Mode → ℕ
keeps (Want s) = 0
keeps (Pend s p) = 1
keeps (Begun s h i) = 1
keeps (Have s) = 0
keeps Dead = 0
keeps (Done n) = 0

-- what a step asks
abbrev pub Ready : Mode → Sight → List ℕ → List ℕ → Type 0
Ready m k st ns = Held st ns (spot_of m).depth (spot_of m).count (takes k + keeps m)

-- n nodes can be copied to the tree
pub record Copies (ns tree : List ℕ) (n : ℕ) : Type 0 where
  pub words : n ≤ length ns
  pub room : 2 * n ≤ length tree
