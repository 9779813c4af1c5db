use Rattle.columns.proofs.FieldLaws.{wrong_length, taken, refused}
use Rattle.columns.proofs.laws.fields_in_order_holds.Goals as goal

pub returns : goal.returns
returns c = λ line bytes widths. (wrong_length line bytes widths, taken line bytes widths, refused line bytes widths)
