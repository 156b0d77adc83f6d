-- The number of each attribute. Assumes nothing.
use Rattle.std.specs.Prelude.{ℕ}
use Rattle.marks.specs.declared.mark.Attribute.{Attribute}
use Rattle.marks.specs.declared.mark.Attribute.TheVariants.{Carried, Holds, Enabled, Triggered, Created, Ended, Violated, Breached}
use Rattle.marks.specs.Numbers

abbrev pub attribute_number : Attribute → ℕ
attribute_number Carried = Numbers.carried
attribute_number Holds = Numbers.holds
attribute_number Enabled = Numbers.enabled
attribute_number Triggered = Numbers.triggered
attribute_number Created = Numbers.created
attribute_number Ended = Numbers.ended
attribute_number Violated = Numbers.violated
attribute_number Breached = Numbers.breached
