-- Lists in which a later item stands for the earlier ones like it.
use Rattle.std.specs.Prelude.{Bool, cond, List, [], ◌∷◌, Option, Some, None, option_map, ℕ, suc}
use Rattle.std.specs.Prelude.{if◌then◌else◌}
use Rattle.std.specs.List.{list_any}
use Rattle.std.specs.Option.{option_or}

-- the items that no later one replaces
abbrev pub unreplaced : {X : Type 0} → (X → X → Bool) → List X → List X
unreplaced alike [] = []
unreplaced alike (x ∷ xs) = if list_any (alike x) xs then unreplaced alike xs else x ∷ unreplaced alike xs

-- the last item that passes a test
abbrev pub last_that : {X : Type 0} → (X → Bool) → List X → Option X
last_that test [] = None
last_that test (x ∷ xs) = option_or (last_that test xs) (cond (test x) (Some x) None)

-- its place
abbrev pub last_place : {X : Type 0} → (X → Bool) → List X → Option ℕ
last_place test [] = None
last_place test (x ∷ xs) = option_or (option_map suc (last_place test xs)) (cond (test x) (Some 0) None)

-- the value of the last entry whose key passes a test
abbrev pub last_value : {K X : Type 0} → (K → Bool) → List (K × X) → Option X
last_value test [] = None
last_value test (e ∷ es) = option_or (last_value test es) (cond (test e.0) (Some e.1) None)
