-- The code's kinds of nodes, as those of trees and by their numbers. Assumes nothing.
use Rattle.std.specs.Prelude.{ℕ, ◌<◌, ◌≡◌, Result, MatchResult}
use Rattle.reader.specs.Tree.{NodeKind, plain, negative, call, prefix, infx, list, list_tail, curly, empty_list, empty_curly, kind_number}
use Rattle.reader.specs.declared.kinds.NodeKind.{NodeKind as CodeKind}
use Rattle.reader.specs.declared.kinds.NodeKind.TheVariants.{Plain, Negative, Call, Prefix, Infix, List, ListTail, Curly, EmptyList, EmptyCurly}
use Rattle.reader.specs.declared.kinds.UnknownKind.{UnknownKind}

unfoldable pub kind_as : CodeKind → NodeKind
kind_as Plain = plain
kind_as Negative = negative
kind_as Call = call
kind_as Prefix = prefix
kind_as Infix = infx
kind_as List = list
kind_as ListTail = list_tail
kind_as Curly = curly
kind_as EmptyList = empty_list
kind_as EmptyCurly = empty_curly

abbrev pub number_of : CodeKind → ℕ
number_of k = kind_number (kind_as k)

-- the kind that has this number, or none has it
abbrev pub KindOf : ℕ → Result CodeKind UnknownKind → Type 0
KindOf n r = MatchResult r (λ k. number_of k ≡ n) (λ w. 9 < n)
