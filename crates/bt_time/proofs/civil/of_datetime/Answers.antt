use Rattle.std.proofs.Common.{◌∙◌, arith}
use Rattle.jiff_core.proofs.DateLemmas.{civil}
use Rattle.jiff_core.proofs.CalendarLemmas.{days_in_month_bounds}
use Rattle.bt_time.proofs.CivilLemmas.{passed_year, passed_i8}
use Rattle.bt_time.proofs.DayLemmas.{parts_second, parts_exist}
use Rattle.bt_time.proofs.civil.of_datetime.Goals as goal

pub returns-clause-second : goal.returns-clause-second
returns-clause-second c =
    let dt = c.args.datetime in
    let date = civil dt.date in
    let most = days_in_month_bounds dt.date.year dt.date.month in
    parts_second _ dt
    (c.year_of.ensures ∙ passed_year dt.date.year _ date.0 c.year.ensures)
    (c.part_of.ensures ∙ passed_i8 dt.date.month _ (omega (arith, date)) c.month.ensures)
    (c.part_of-2.ensures ∙ passed_i8 dt.date.day _ (omega (arith, date, most)) c.day.ensures)
    (c.part_of-3.ensures ∙ passed_i8 dt.time.hour _ (omega (arith, dt.time.hour_in)) c.hour.ensures)
    (c.part_of-4.ensures ∙ passed_i8 dt.time.minute _ (omega (arith, dt.time.minute_in)) c.minute.ensures)
    (c.part_of-5.ensures ∙ passed_i8 dt.time.second _ (omega (arith, dt.time.second_in)) c.second.ensures)

pub returns-clause-exists : goal.returns-clause-exists
returns-clause-exists c =
    let dt = c.args.datetime in
    let date = civil dt.date in
    let most = days_in_month_bounds dt.date.year dt.date.month in
    parts_exist _ dt
    (c.year_of.ensures ∙ passed_year dt.date.year _ date.0 c.year.ensures)
    (c.part_of.ensures ∙ passed_i8 dt.date.month _ (omega (arith, date)) c.month.ensures)
    (c.part_of-2.ensures ∙ passed_i8 dt.date.day _ (omega (arith, date, most)) c.day.ensures)
    (c.part_of-3.ensures ∙ passed_i8 dt.time.hour _ (omega (arith, dt.time.hour_in)) c.hour.ensures)
    (c.part_of-4.ensures ∙ passed_i8 dt.time.minute _ (omega (arith, dt.time.minute_in)) c.minute.ensures)
    (c.part_of-5.ensures ∙ passed_i8 dt.time.second _ (omega (arith, dt.time.second_in)) c.second.ensures)
