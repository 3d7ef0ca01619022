-- `TryFrom` of `reader::kinds::NodeKind` meets its contract. Assumes nothing.
use Rattle.std.proofs.Common.{rules}
use Rattle.reader.specs.Tree.{kind_number}
use Rattle.reader.specs.Kinds.{kind_as}
use Rattle.reader.proofs.kinds.NodeKindTryFromUsize.try_from.Goals as goal

pub returns-in-0 : goal.returns-in-0
unfolding kind_as kind_number
returns-in-0 c = search rules

pub returns-in-1 : goal.returns-in-1
unfolding kind_as kind_number
returns-in-1 c = search rules

pub returns-in-2 : goal.returns-in-2
unfolding kind_as kind_number
returns-in-2 c = search rules

pub returns-in-3 : goal.returns-in-3
unfolding kind_as kind_number
returns-in-3 c = search rules

pub returns-in-4 : goal.returns-in-4
unfolding kind_as kind_number
returns-in-4 c = search rules

pub returns-in-5 : goal.returns-in-5
unfolding kind_as kind_number
returns-in-5 c = search rules

pub returns-in-6 : goal.returns-in-6
unfolding kind_as kind_number
returns-in-6 c = search rules

pub returns-in-7 : goal.returns-in-7
unfolding kind_as kind_number
returns-in-7 c = search rules

pub returns-in-8 : goal.returns-in-8
unfolding kind_as kind_number
returns-in-8 c = search rules

pub returns-in-9 : goal.returns-in-9
unfolding kind_as kind_number
returns-in-9 c = search rules
