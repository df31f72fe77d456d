-- `tables::log_lane_row` meets its contract: each arm by its key, the last by `past`.
-- Written by tools/tables.py.
use mathlib.Core.Path.{refl}
use Rattle.tables.specs.Log.{log_row_of, log_rows}
use Rattle.tables.proofs.Rows.{at, past}
use Rattle.tables.proofs.log.log_lane_row.Goals as goal

pub returns-in-0 : goal.returns-in-0
unfolding log_row_of log_rows
returns-in-0 c = at log_rows _ _ 0 c.in-0.is refl

pub returns-in-1 : goal.returns-in-1
unfolding log_row_of log_rows
returns-in-1 c = at log_rows _ _ 1 c.in-1.is refl

pub returns-in-2 : goal.returns-in-2
unfolding log_row_of log_rows
returns-in-2 c = at log_rows _ _ 2 c.in-2.is refl

pub returns-in-3 : goal.returns-in-3
unfolding log_row_of log_rows
returns-in-3 c = at log_rows _ _ 3 c.in-3.is refl

pub returns-in-4 : goal.returns-in-4
unfolding log_row_of log_rows
returns-in-4 c = at log_rows _ _ 4 c.in-4.is refl

pub returns-in-5 : goal.returns-in-5
unfolding log_row_of log_rows
returns-in-5 c = at log_rows _ _ 5 c.in-5.is refl

pub returns-in-6 : goal.returns-in-6
unfolding log_row_of log_rows
returns-in-6 c = at log_rows _ _ 6 c.in-6.is refl

pub returns-in-7 : goal.returns-in-7
unfolding log_row_of log_rows
returns-in-7 c = at log_rows _ _ 7 c.in-7.is refl

pub returns-in-8 : goal.returns-in-8
unfolding log_row_of log_rows
returns-in-8 c = at log_rows _ _ 8 c.in-8.is refl

pub returns-in-9 : goal.returns-in-9
unfolding log_row_of log_rows
returns-in-9 c = at log_rows _ _ 9 c.in-9.is refl

pub returns-in-10 : goal.returns-in-10
unfolding log_row_of log_rows
returns-in-10 c = at log_rows _ _ 10 c.in-10.is refl

pub returns-in-11 : goal.returns-in-11
unfolding log_row_of log_rows
returns-in-11 c = at log_rows _ _ 11 c.in-11.is refl

pub returns-in-12 : goal.returns-in-12
unfolding log_row_of log_rows
returns-in-12 c = at log_rows _ _ 12 c.in-12.is refl

pub returns-in-13 : goal.returns-in-13
unfolding log_row_of log_rows
returns-in-13 c = at log_rows _ _ 13 c.in-13.is refl

pub returns-in-14 : goal.returns-in-14
unfolding log_row_of log_rows
returns-in-14 c = at log_rows _ _ 14 c.in-14.is refl

pub returns-in-15 : goal.returns-in-15
unfolding log_row_of log_rows
returns-in-15 c = at log_rows _ _ 15 c.in-15.is refl

pub returns-in-16 : goal.returns-in-16
unfolding log_row_of log_rows
returns-in-16 c = at log_rows _ _ 16 c.in-16.is refl

pub returns-in-17 : goal.returns-in-17
unfolding log_row_of log_rows
returns-in-17 c = at log_rows _ _ 17 c.in-17.is refl

pub returns-in-18 : goal.returns-in-18
unfolding log_row_of log_rows
returns-in-18 c = at log_rows _ _ 18 c.in-18.is refl

pub returns-in-19 : goal.returns-in-19
unfolding log_row_of log_rows
returns-in-19 c = at log_rows _ _ 19 c.in-19.is refl

pub returns-in-20 : goal.returns-in-20
unfolding log_row_of log_rows
returns-in-20 c = at log_rows _ _ 20 c.in-20.is refl

pub returns-in-21 : goal.returns-in-21
unfolding log_row_of log_rows
returns-in-21 c = at log_rows _ _ 21 c.in-21.is refl

pub returns-in-22 : goal.returns-in-22
unfolding log_row_of log_rows
returns-in-22 c = at log_rows _ _ 22 c.in-22.is refl

pub returns-in-23 : goal.returns-in-23
unfolding log_row_of log_rows
returns-in-23 c = at log_rows _ _ 23 c.in-23.is refl

pub returns-in-24 : goal.returns-in-24
unfolding log_row_of log_rows
returns-in-24 c = at log_rows _ _ 24 c.in-24.is refl

pub returns-in-25 : goal.returns-in-25
unfolding log_row_of log_rows
returns-in-25 c = at log_rows _ _ 25 c.in-25.is refl

pub returns-in-26 : goal.returns-in-26
unfolding log_row_of log_rows
returns-in-26 c = at log_rows _ _ 26 c.in-26.is refl

pub returns-in-27 : goal.returns-in-27
unfolding log_row_of log_rows
returns-in-27 c = at log_rows _ _ 27 c.in-27.is refl

pub returns-in-28 : goal.returns-in-28
unfolding log_row_of log_rows
returns-in-28 c = at log_rows _ _ 28 c.in-28.is refl

pub returns-in-29 : goal.returns-in-29
unfolding log_row_of log_rows
returns-in-29 c = at log_rows _ _ 29 c.in-29.is refl

pub returns-in-30 : goal.returns-in-30
unfolding log_row_of log_rows
returns-in-30 c = at log_rows _ _ 30 c.in-30.is refl

pub returns-in-31 : goal.returns-in-31
unfolding log_row_of log_rows
returns-in-31 c = at log_rows _ _ 31 c.in-31.is refl

pub returns-in-32 : goal.returns-in-32
unfolding log_row_of log_rows
returns-in-32 c = at log_rows _ _ 32 c.in-32.is refl

pub returns-in-33 : goal.returns-in-33
unfolding log_row_of log_rows
returns-in-33 c = at log_rows _ _ 33 c.in-33.is refl

pub returns-in-34 : goal.returns-in-34
unfolding log_row_of log_rows
returns-in-34 c = at log_rows _ _ 34 c.in-34.is refl

pub returns-in-35 : goal.returns-in-35
unfolding log_row_of log_rows
returns-in-35 c = at log_rows _ _ 35 c.in-35.is refl

pub returns-in-36 : goal.returns-in-36
unfolding log_row_of log_rows
returns-in-36 c = at log_rows _ _ 36 c.in-36.is refl

pub returns-in-37 : goal.returns-in-37
unfolding log_row_of log_rows
returns-in-37 c = at log_rows _ _ 37 c.in-37.is refl

pub returns-in-38 : goal.returns-in-38
unfolding log_row_of log_rows
returns-in-38 c = at log_rows _ _ 38 c.in-38.is refl

pub returns-in-39 : goal.returns-in-39
unfolding log_row_of log_rows
returns-in-39 c = at log_rows _ _ 39 c.in-39.is refl

pub returns-in-40 : goal.returns-in-40
unfolding log_row_of log_rows
returns-in-40 c = at log_rows _ _ 40 c.in-40.is refl

pub returns-in-41 : goal.returns-in-41
unfolding log_row_of log_rows
returns-in-41 c = at log_rows _ _ 41 c.in-41.is refl

pub returns-in-42 : goal.returns-in-42
unfolding log_row_of log_rows
returns-in-42 c = at log_rows _ _ 42 c.in-42.is refl

pub returns-in-43 : goal.returns-in-43
unfolding log_row_of log_rows
returns-in-43 c = at log_rows _ _ 43 c.in-43.is refl

pub returns-in-44 : goal.returns-in-44
unfolding log_row_of log_rows
returns-in-44 c = at log_rows _ _ 44 c.in-44.is refl

pub returns-in-45 : goal.returns-in-45
unfolding log_row_of log_rows
returns-in-45 c = at log_rows _ _ 45 c.in-45.is refl

pub returns-in-46 : goal.returns-in-46
unfolding log_row_of log_rows
returns-in-46 c = at log_rows _ _ 46 c.in-46.is refl

pub returns-in-47 : goal.returns-in-47
unfolding log_row_of log_rows
returns-in-47 c = at log_rows _ _ 47 c.in-47.is refl

pub returns-in-48 : goal.returns-in-48
unfolding log_row_of log_rows
returns-in-48 c = at log_rows _ _ 48 c.in-48.is refl

pub returns-in-49 : goal.returns-in-49
unfolding log_row_of log_rows
returns-in-49 c = at log_rows _ _ 49 c.in-49.is refl

pub returns-in-50 : goal.returns-in-50
unfolding log_row_of log_rows
returns-in-50 c = at log_rows _ _ 50 c.in-50.is refl

pub returns-in-51 : goal.returns-in-51
unfolding log_row_of log_rows
returns-in-51 c = at log_rows _ _ 51 c.in-51.is refl

pub returns-in-52 : goal.returns-in-52
unfolding log_row_of log_rows
returns-in-52 c = at log_rows _ _ 52 c.in-52.is refl

pub returns-in-53 : goal.returns-in-53
unfolding log_row_of log_rows
returns-in-53 c = at log_rows _ _ 53 c.in-53.is refl

pub returns-in-54 : goal.returns-in-54
unfolding log_row_of log_rows
returns-in-54 c = at log_rows _ _ 54 c.in-54.is refl

pub returns-in-55 : goal.returns-in-55
unfolding log_row_of log_rows
returns-in-55 c = at log_rows _ _ 55 c.in-55.is refl

pub returns-in-56 : goal.returns-in-56
unfolding log_row_of log_rows
returns-in-56 c = at log_rows _ _ 56 c.in-56.is refl

pub returns-in-57 : goal.returns-in-57
unfolding log_row_of log_rows
returns-in-57 c = at log_rows _ _ 57 c.in-57.is refl

pub returns-in-58 : goal.returns-in-58
unfolding log_row_of log_rows
returns-in-58 c = at log_rows _ _ 58 c.in-58.is refl

pub returns-in-59 : goal.returns-in-59
unfolding log_row_of log_rows
returns-in-59 c = at log_rows _ _ 59 c.in-59.is refl

pub returns-in-60 : goal.returns-in-60
unfolding log_row_of log_rows
returns-in-60 c = at log_rows _ _ 60 c.in-60.is refl

pub returns-in-61 : goal.returns-in-61
unfolding log_row_of log_rows
returns-in-61 c = at log_rows _ _ 61 c.in-61.is refl

pub returns-in-62 : goal.returns-in-62
unfolding log_row_of log_rows
returns-in-62 c = at log_rows _ _ 62 c.in-62.is refl

pub returns-in-63 : goal.returns-in-63
unfolding log_row_of log_rows
returns-in-63 c = at log_rows _ _ 63 c.in-63.is refl

pub returns-in_default : goal.returns-in_default
unfolding log_row_of log_rows
returns-in_default c = past log_rows _ _ c.in_default.in_default-own.rest
