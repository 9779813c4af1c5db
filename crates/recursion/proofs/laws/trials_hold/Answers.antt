use Rattle.std.proofs.Common.{refl, arith}
use Rattle.recursion.proofs.laws.trials_hold.Goals as goal

pub returns : goal.returns
returns c = record {
  planned_by_energy = record { planned = refl; first = 0; least = refl; measure = refl };
  by_peak = record { planned = refl; first = 0; least = refl; measure = refl };
  other_in_time = (omega arith, (omega arith, (omega arith, (omega arith, tt))));
  other_peak = refl;
  other_rest = refl;
  planned_rest = refl;
  priced_late = record { planned = refl; first = 3; least = refl; measure = refl };
  without_work = record { planned = refl; first = 0; least = refl; measure = refl };
  later_alone = record { planned = refl; first = 0; least = refl; measure = refl };
  cubic = refl;
}
