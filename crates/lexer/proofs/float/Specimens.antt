-- Known values of float tokens, as one table that antt computes from the definition. Assumes nothing.
use mathlib.Core.Path.{◌≡◌, refl}
use mathlib.Core.Bool.{true, false}
use mathlib.Core.List.{List, [], ◌∷◌, map}
use lib.IntN.{pos, negsuc}
use lib.Ieee.{fin, round}
use Rattle.lexer.specs.Float.{scale, within_limits, float_value}
use Rattle.lexer.specs.Float.{Floated}
use Rattle.std.specs.declared.option.Option.TheVariants.{Some, None}

-- what the definition says, and the value that is known
table : List (Floated × Floated)
table =
    -- 0.0
    (float_value 0 false 0 1, Some (fin false 0 (pos 0))) ∷
    -- 0.1
    (float_value 1 false 0 1, Some (fin false 3602879701896397 (negsuc 54))) ∷
    -- 0.5
    (float_value 5 false 0 1, Some (fin false 1 (negsuc 0))) ∷
    -- 1.0
    (float_value 10 false 0 1, Some (fin false 1 (pos 0))) ∷
    -- 1.0e22, which is exact
    (float_value 10 false 22 1, Some (fin false 2384185791015625 (pos 22))) ∷
    -- 1.0e23
    (float_value 10 false 23 1, Some (fin false 2980232238769531 (pos 25))) ∷
    -- 1.0e24
    (float_value 10 false 24 1, None) ∷
    -- 0.1e-21
    (float_value 1 true 21 1, Some (fin false 4253529586511731 (negsuc 124))) ∷
    -- 0.1e-22
    (float_value 1 true 22 1, None) ∷
    -- 900719925474099.2
    (float_value 9007199254740992 false 0 1, Some (fin false 3602879701896397 (negsuc 1))) ∷
    -- 900719925474099.3
    (float_value 9007199254740993 false 0 1, None) ∷
    -- 900719925474099.2e23
    (float_value 9007199254740992 false 23 1, Some (fin false 2384185791015625 (pos 75))) ∷
    -- 180143985094819.9e2: half way, the even significand is above
    (float_value 1801439850948199 false 2 1, Some (fin false 2251799813685249 (pos 3))) ∷
    -- 180143985094820.1e2: half way, the even significand is below
    (float_value 1801439850948201 false 2 1, Some (fin false 2251799813685251 (pos 3))) ∷
    []

known : map (λ (r : Floated × Floated). r.0) table ≡ map (λ (r : Floated × Floated). r.1) table
unfolding table within_limits scale round
known = refl
