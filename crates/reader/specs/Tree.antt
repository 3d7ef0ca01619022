-- Trees, and the numbers that stand for them. Assumes nothing.
use Rattle.std.specs.Prelude.{ℕ, ◌+◌, ◌*◌, List, [], ◌∷◌, ◌++◌}

-- 01's kinds 0 to 9, in its order.
pub data NodeKind : Type 0 where
  plain negative call prefix infx list list_tail curly empty_list empty_curly : NodeKind

unfoldable pub kind_number : NodeKind → ℕ
kind_number plain = 0
kind_number negative = 1
kind_number call = 2
kind_number prefix = 3
kind_number infx = 4
kind_number list = 5
kind_number list_tail = 6
kind_number curly = 7
kind_number empty_list = 8
kind_number empty_curly = 9

mutual
  -- a token's index, the kind, the children
  pub data Tree : Type 0 where
    node : ℕ → NodeKind → Forest → Tree

  pub data Forest : Type 0 where
    nil : Forest
    ◌◂◌ : Tree → Forest → Forest

infixr 60 ◌◂◌
abbrev pub leaf : ℕ → Tree
leaf i = node i plain nil

-- one more child, the last
unfoldable pub snoc : Forest → Tree → Forest
snoc nil t = t ◂ nil
snoc (u ◂ f) t = u ◂ snoc f t

-- 01: "Arity counts children, a list's tail among them."
unfoldable pub arity : Forest → ℕ
arity nil = 0
arity (t ◂ f) = arity f + 1

-- 01: "kind times 1,024 plus arity"
unfoldable pub packed : NodeKind → ℕ → ℕ
packed k a = kind_number k * 1024 + a

-- 01: "Children left to right, then the parent; two numbers a node."
unfoldable mutual
  pub numbers : Tree → List ℕ
  numbers (node i k f) = numbers_all f ++ (i ∷ packed k (arity f) ∷ [])

  pub numbers_all : Forest → List ℕ
  numbers_all nil = []
  numbers_all (t ◂ f) = numbers t ++ numbers_all f

mutual
  -- the tree has a node of the kind k at the token i
  pub data Has (i : ℕ) (k : NodeKind) : Tree → Type 0 where
    root : {f : Forest} → Has i k (node i k f)
    below : {j : ℕ} {l : NodeKind} {f : Forest} → HasIn i k f → Has i k (node j l f)

  -- one of the trees has
  pub data HasIn (i : ℕ) (k : NodeKind) : Forest → Type 0 where
    first : {t : Tree} {f : Forest} → Has i k t → HasIn i k (t ◂ f)
    later : {t : Tree} {f : Forest} → HasIn i k f → HasIn i k (t ◂ f)
