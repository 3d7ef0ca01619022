-- `ffi::thrinvage_next_token_text` meets its contract. Assumes nothing.
use borrow.Author.Rules.{rules}
use Rattle.ffi.specs.Parts.{with, text_leaves}
use Rattle.ffi.proofs.thrinvage_next_token_text.Goals as goal

pub returns : goal.returns
unfolding text_leaves with
returns c = search rules
