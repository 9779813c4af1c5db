use Rattle.tariff.proofs.Tested.{exact, coefficients_exact}
use Rattle.tariff.proofs.bounds.bounds_are_tested_exactly.Goals as goal

pub returns : goal.returns
returns c = record { lists = exact; coefficients = coefficients_exact }
