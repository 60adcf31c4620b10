mod CivilLemmas
mod FormatLemmas
mod DayLemmas
mod InstantLemmas
mod SeenLemmas
mod ExistLemmas
