-- What a refusal to join tells. Assumes nothing.
use Rattle.refusals.specs.declared.Told.{Told}
use Rattle.refusals.specs.Telling.{refusal}
use Rattle.joint.specs.declared.fault.JointFault.{JointFault}
use Rattle.joint.specs.declared.fault.JointFault.TheVariants.{TooMany}

abbrev pub joint_told : JointFault → Told
joint_told TooMany = refusal 12 0
