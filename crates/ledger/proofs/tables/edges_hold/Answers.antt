use Rattle.std.proofs.Common.{refl}
use Rattle.ledger.proofs.tables.edges_hold.Goals as goal

pub returns-clause-rules : goal.returns-clause-rules
returns-clause-rules c = record {
  slots = refl;
  speed_count = refl;
  speed_order = refl;
  number = refl;
  release = refl;
  due = refl;
  work = refl;
  number_open = refl;
  number_withdrawn = refl;
  number_finished = refl;
  last_place = refl;
  no_place = refl;
  work_in_all = refl;
  inside_open = refl;
  open_inside = refl;
  counted_release = refl;
  wide_numbers = refl;
  in_time = refl;
  in_time_beside = refl;
  makes_another_late = refl;
  withdrawing_open = refl;
  withdrawing_gone = refl;
  withdrawing_finished = refl;
  memory = refl;
  memory_later = refl;
  memory_at_end = refl;
  at_last_slot = refl;
  at_end = refl;
  unplanned = refl;
  dropped_by_booking = refl;
  dropped_by_withdrawing = refl;
  dropped_by_opening = refl;
  kept_by_refusals = refl;
}
