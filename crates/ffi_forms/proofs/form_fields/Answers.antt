-- `ffi_forms::form_fields` meets its contract. Assumes nothing.
use borrow.Author.Rules.{rules}
use Rattle.pack.specs.Image.{version, line}
use Rattle.ffi_forms.proofs.form_fields.Goals as goal

pub returns-in-One : goal.returns-in-One
unfolding version line
returns-in-One c = search rules

pub returns-in-Two : goal.returns-in-Two
unfolding version line
returns-in-Two c = search rules
