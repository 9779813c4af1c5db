-- What a search for a byte comes to.
use Rattle.std.proofs.Common.{◌≡◌, ℕ, ◌≤◌, Bool, List, length, Option, unwrap_or, arith}
use Rattle.std.proofs.lemmas.Bool.Decides.{nat_tests}
use Rattle.std.proofs.lemmas.List.Sums.{prefix_len-le-length}
use Rattle.std.specs.List.{position, position_or_len}

pub found_or_length : (p : ℕ → Bool) (s : List ℕ) (r : Option ℕ) → r ≡ position p s → unwrap_or r (length s) ≡ position_or_len p s
found_or_length p s r e =
    let within : position_or_len p s ≤ length s = prefix_len-le-length _ s in
    grind (arith, nat_tests)
