-- The moves between the forms. 02, request 13: "Give a move from 1 to 2, which writes 0, and from 2 to 1, which drops the line." Definitions only.
use Rattle.std.specs.Prelude.{ℕ, ◌≡◌, List}
use Rattle.lexer.specs.declared.refusal.Fault.{Fault}
use Rattle.pack.specs.Node.{Node}
use Rattle.pack.specs.Image.{version, IsPack}
use Rattle.pack.specs.Calls.{Written, Unread}
use Rattle.pack.specs.declared.format.Form.{Form}
use Rattle.pack.specs.declared.format.Form.TheVariants.{One, Two}
use Rattle.pack.specs.Answers.{PackAnswer}
use Rattle.std.specs.declared.result.Result.TheVariants.{Err}

-- the version v alone
abbrev pub Only : ℕ → ℕ → Type 0
Only v b = b ≡ v

-- the pack of version v in the image i, written in the form g to the slice d
pub data MoveOutcome (v : ℕ) (g : Form) (i d : List ℕ) : PackAnswer → List ℕ → Type 0 where
  -- 18, 14
  unread : {w : Fault} → Unread (Only v) i w → MoveOutcome v g i d (Err w) d
  -- 13, 9, or the same nodes in the other form
  written : {f : Form} {ns : List Node} {r : PackAnswer} {x : List ℕ} → version f ≡ v → IsPack f i ns → Written g ns d r x → MoveOutcome v g i d r x

abbrev pub MoveUp : List ℕ → List ℕ → PackAnswer → List ℕ → Type 0
MoveUp = MoveOutcome 1 (Two 0)

abbrev pub MoveDown : List ℕ → List ℕ → PackAnswer → List ℕ → Type 0
MoveDown = MoveOutcome 2 One
