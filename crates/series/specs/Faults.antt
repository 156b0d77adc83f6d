-- What the faults of a series tell. Assumes nothing.
use Rattle.refusals.specs.declared.Told.{Told}
use Rattle.refusals.specs.Telling.{refusal_in}
use Rattle.rows.specs.Faults.{row_told}
use Rattle.series.specs.declared.fault.SeriesFault.{SeriesFault}
use Rattle.series.specs.declared.fault.SeriesFault.TheVariants.{Row, LeftOver, Movement}
use Rattle.series.specs.Checks.{the_row, out_of_bounds}

abbrev pub series_told : SeriesFault → Told
series_told (Row fault) = row_told fault
series_told LeftOver = refusal_in the_row 9 32
series_told Movement = out_of_bounds
