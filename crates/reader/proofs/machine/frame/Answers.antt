-- `reader::machine::frame` meets its contract. Assumes nothing.
use Rattle.std.proofs.Common.{◌≡◌, refl, ℕ, ◌+◌, ◌*◌, ◌<◌}
use native.Mathlib.Omega.{arith}
use denote.Enum.Declared.{tag_of as number_of}
use Rattle.reader.specs.Layout.{tag_as, frame_as, frame_of}
use Rattle.reader.specs.contracts.machine.Tag.{the_type}
use Rattle.reader.specs.declared.machine.Tag.{Tag}
use Rattle.reader.specs.declared.machine.Tag.TheVariants.{Prefix, Infix, Top, Round, Curly, Call, List as ListTag, Tail}
use Rattle.reader.proofs.Stacks.{frame_word}
use Rattle.reader.proofs.machine.frame.Goals as goal

made : (t : Tag) (i q b : ℕ) → i < 65536 → q < 65536 → frame_of (number_of the_type t + 8 * i + 524288 * q + 34359738368 * b) ≡ frame_as t i q b
unfolding tag_as
made Prefix i q b h k = frame_word Prefix 0 i q b refl (omega arith) h k
made Infix i q b h k = frame_word Infix 1 i q b refl (omega arith) h k
made Top i q b h k = frame_word Top 2 i q b refl (omega arith) h k
made Round i q b h k = frame_word Round 3 i q b refl (omega arith) h k
made Curly i q b h k = frame_word Curly 4 i q b refl (omega arith) h k
made Call i q b h k = frame_word Call 5 i q b refl (omega arith) h k
made ListTag i q b h k = frame_word ListTag 6 i q b refl (omega arith) h k
made Tail i q b h k = frame_word Tail 7 i q b refl (omega arith) h k

pub returns : goal.returns
returns c = made c.args.t c.args.i c.args.q c.args.b c.ranges.i.fits c.ranges.q.fits
