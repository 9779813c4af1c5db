use Rattle.ledger.proofs.Served.{first_served_pins, runs_serve_first, in_queue_order, from_the_back}
use Rattle.ledger.proofs.laws.first_served_pins_a_slot.Goals as goal

pub returns : goal.returns
returns c = record {
  pins = first_served_pins;
  runs = runs_serve_first;
  in_queue_order = in_queue_order;
  from_the_back = from_the_back;
}
