-- What is asked of a stay: the speed of a slot.
use Rattle.std.proofs.Common.{◌≡◌, ℕ, ◌+◌, ◌-◌, ◌<◌, ◌≤◌, cond, ◌&&◌, ltb, leb, List, length, get_or, take, drop, Some, None, Option, IfSome, is_some, sym, refl, ap, ◌∙◌, arith, get_or-take}
use Rattle.std.proofs.lemmas.List.{get_or-drop}
use Rattle.std.proofs.lemmas.Bool.{and_parts, cond-false, cond_both, leb-true, ltb-true, le-ltb}
use Rattle.std.proofs.lemmas.Bool.Decides.{nat_tests}
use Rattle.std.proofs.lemmas.Option.{slice_get-get_or, slice_get_past}
use Rattle.ledger.specs.Answers.{at}

-- the speed of slot k, where the speeds sp stand
abbrev speed_in : ℕ → ℕ → ℕ → List ℕ → Option ℕ
speed_in slots clock k sp = cond (ltb k clock) None (at (take (slots - clock) (drop clock sp)) (k - clock))

speed_ahead : (slots clock k : ℕ) (sp : List ℕ) → length (take (slots - clock) (drop clock sp)) ≡ slots - clock → clock ≤ k → k < slots → at (take (slots - clock) (drop clock sp)) (k - clock) ≡ Some (get_or sp k 0)
speed_ahead slots clock k sp each from to =
    let at_k : clock + (k - clock) ≡ k = omega arith in
    slice_get-get_or (take (slots - clock) (drop clock sp)) (k - clock) 0 (omega arith)
    ∙ ap Some (get_or-take (slots - clock) (drop clock sp) (k - clock) 0 (omega arith) ∙ get_or-drop clock sp (k - clock) 0 ∙ ap (λ (i : ℕ). get_or sp i 0) at_k)

-- it is told if the slot is still to be run, and else there is none
pub speed_told : (slots clock k : ℕ) (sp : List ℕ) (r : Option ℕ) → length (take (slots - clock) (drop clock sp)) ≡ slots - clock → is_some r ≡ (leb clock k && ltb k slots) → IfSome r (λ s. s ≡ get_or sp k 0) → r ≡ speed_in slots clock k sp
speed_told slots clock k sp None each ahead is =
    sym (cond_both (ltb k clock) None (at (take (slots - clock) (drop clock sp)) (k - clock)) (λ v. v ≡ None) (λ _. refl)
    (λ e. slice_get_past (take (slots - clock) (drop clock sp)) (k - clock) (grind (arith, nat_tests))))
speed_told slots clock k sp (Some s) each ahead is =
    let p = and_parts (leb clock k) (ltb k slots) (sym ahead) in
    let from : clock ≤ k = leb-true clock k p.0 in
    sym (cond-false (ltb k clock) None (at (take (slots - clock) (drop clock sp)) (k - clock)) (le-ltb k clock from)
    ∙ speed_ahead slots clock k sp each from (ltb-true k slots p.1) ∙ ap Some (sym is))
