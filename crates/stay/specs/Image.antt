-- Words: image, the ledger that the parts of a stay hold; anew, the ledger just opened.
use Rattle.std.specs.Prelude.{ℕ, ◌-◌, List, [], take, drop, Some, None, Option}
use Rattle.ledger.specs.declared.job.Job.{Job}
use Rattle.ledger.specs.Ledger.{Ledger, Standing, no_plan, plan}
use Rattle.stay.specs.declared.plan_record.PlanRecord.{PlanRecord}
use Rattle.stay.specs.declared.speed_list.SpeedList.{SpeedList}
use Rattle.stay.specs.declared.table.Table.{Table}
use Rattle.stay.specs.Jobs.{queue_of}

-- the standing plan is the record's speeds of the slots not yet run
abbrev pub standing_of : ℕ → ℕ → Option PlanRecord → Standing
standing_of slots clock None = no_plan
standing_of slots clock (Some p) = plan p.mark (take (slots - clock) (drop clock p.speeds))

abbrev pub image : ℕ → SpeedList → ℕ → Table Job → Option PlanRecord → Ledger
image slots speeds clock table p = record {
  slots = slots;
  speeds = take speeds.count speeds.speeds;
  clock = clock;
  queue = queue_of table;
  standing = standing_of slots clock p;
}

-- n slots and the speeds ss: clock 0, no job, no plan
abbrev pub anew : ℕ → List ℕ → Ledger
anew n ss = record { slots = n; speeds = ss; clock = 0; queue = []; standing = no_plan }
