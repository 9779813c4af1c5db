-- Words: the worked stay's energies and its plan.
use Rattle.std.specs.Prelude.{ℕ, List, [], ◌∷◌}
use Rattle.pumpplan.specs.declared.Plan.{Plan}

abbrev pub worked_energies : List ℕ
worked_energies = 1 ∷ 4 ∷ 0 ∷ 15 ∷ 0 ∷ 0 ∷ 0 ∷ 0 ∷ 0 ∷ 0 ∷ 0 ∷ 0 ∷ 0 ∷ 0 ∷ 0 ∷ 0 ∷ []

abbrev pub worked_plan : Plan
worked_plan = record { speeds = 0 ∷ 3 ∷ 1 ∷ 1 ∷ []; total = 24 }
