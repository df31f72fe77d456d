-- `tables::erfc_lane_row` meets its contract: each arm by its key, the last by `past`.
-- Written by tools/tables.py.
use mathlib.Core.Path.{refl}
use Rattle.tables.specs.Erfc.{erfc_row_of, erfc_rows}
use Rattle.tables.proofs.Rows.{at, past}
use Rattle.tables.proofs.erfc.erfc_lane_row.Goals as goal

pub returns-in-0 : goal.returns-in-0
unfolding erfc_row_of erfc_rows
returns-in-0 c = at erfc_rows _ _ 0 c.in-0.is refl

pub returns-in-1 : goal.returns-in-1
unfolding erfc_row_of erfc_rows
returns-in-1 c = at erfc_rows _ _ 1 c.in-1.is refl

pub returns-in-2 : goal.returns-in-2
unfolding erfc_row_of erfc_rows
returns-in-2 c = at erfc_rows _ _ 2 c.in-2.is refl

pub returns-in-3 : goal.returns-in-3
unfolding erfc_row_of erfc_rows
returns-in-3 c = at erfc_rows _ _ 3 c.in-3.is refl

pub returns-in-4 : goal.returns-in-4
unfolding erfc_row_of erfc_rows
returns-in-4 c = at erfc_rows _ _ 4 c.in-4.is refl

pub returns-in-5 : goal.returns-in-5
unfolding erfc_row_of erfc_rows
returns-in-5 c = at erfc_rows _ _ 5 c.in-5.is refl

pub returns-in-6 : goal.returns-in-6
unfolding erfc_row_of erfc_rows
returns-in-6 c = at erfc_rows _ _ 6 c.in-6.is refl

pub returns-in-7 : goal.returns-in-7
unfolding erfc_row_of erfc_rows
returns-in-7 c = at erfc_rows _ _ 7 c.in-7.is refl

pub returns-in-8 : goal.returns-in-8
unfolding erfc_row_of erfc_rows
returns-in-8 c = at erfc_rows _ _ 8 c.in-8.is refl

pub returns-in-9 : goal.returns-in-9
unfolding erfc_row_of erfc_rows
returns-in-9 c = at erfc_rows _ _ 9 c.in-9.is refl

pub returns-in-10 : goal.returns-in-10
unfolding erfc_row_of erfc_rows
returns-in-10 c = at erfc_rows _ _ 10 c.in-10.is refl

pub returns-in-11 : goal.returns-in-11
unfolding erfc_row_of erfc_rows
returns-in-11 c = at erfc_rows _ _ 11 c.in-11.is refl

pub returns-in-12 : goal.returns-in-12
unfolding erfc_row_of erfc_rows
returns-in-12 c = at erfc_rows _ _ 12 c.in-12.is refl

pub returns-in-13 : goal.returns-in-13
unfolding erfc_row_of erfc_rows
returns-in-13 c = at erfc_rows _ _ 13 c.in-13.is refl

pub returns-in-14 : goal.returns-in-14
unfolding erfc_row_of erfc_rows
returns-in-14 c = at erfc_rows _ _ 14 c.in-14.is refl

pub returns-in-15 : goal.returns-in-15
unfolding erfc_row_of erfc_rows
returns-in-15 c = at erfc_rows _ _ 15 c.in-15.is refl

pub returns-in-16 : goal.returns-in-16
unfolding erfc_row_of erfc_rows
returns-in-16 c = at erfc_rows _ _ 16 c.in-16.is refl

pub returns-in-17 : goal.returns-in-17
unfolding erfc_row_of erfc_rows
returns-in-17 c = at erfc_rows _ _ 17 c.in-17.is refl

pub returns-in-18 : goal.returns-in-18
unfolding erfc_row_of erfc_rows
returns-in-18 c = at erfc_rows _ _ 18 c.in-18.is refl

pub returns-in-19 : goal.returns-in-19
unfolding erfc_row_of erfc_rows
returns-in-19 c = at erfc_rows _ _ 19 c.in-19.is refl

pub returns-in-20 : goal.returns-in-20
unfolding erfc_row_of erfc_rows
returns-in-20 c = at erfc_rows _ _ 20 c.in-20.is refl

pub returns-in-21 : goal.returns-in-21
unfolding erfc_row_of erfc_rows
returns-in-21 c = at erfc_rows _ _ 21 c.in-21.is refl

pub returns-in-22 : goal.returns-in-22
unfolding erfc_row_of erfc_rows
returns-in-22 c = at erfc_rows _ _ 22 c.in-22.is refl

pub returns-in-23 : goal.returns-in-23
unfolding erfc_row_of erfc_rows
returns-in-23 c = at erfc_rows _ _ 23 c.in-23.is refl

pub returns-in-24 : goal.returns-in-24
unfolding erfc_row_of erfc_rows
returns-in-24 c = at erfc_rows _ _ 24 c.in-24.is refl

pub returns-in-25 : goal.returns-in-25
unfolding erfc_row_of erfc_rows
returns-in-25 c = at erfc_rows _ _ 25 c.in-25.is refl

pub returns-in-26 : goal.returns-in-26
unfolding erfc_row_of erfc_rows
returns-in-26 c = at erfc_rows _ _ 26 c.in-26.is refl

pub returns-in-27 : goal.returns-in-27
unfolding erfc_row_of erfc_rows
returns-in-27 c = at erfc_rows _ _ 27 c.in-27.is refl

pub returns-in-28 : goal.returns-in-28
unfolding erfc_row_of erfc_rows
returns-in-28 c = at erfc_rows _ _ 28 c.in-28.is refl

pub returns-in-29 : goal.returns-in-29
unfolding erfc_row_of erfc_rows
returns-in-29 c = at erfc_rows _ _ 29 c.in-29.is refl

pub returns-in-30 : goal.returns-in-30
unfolding erfc_row_of erfc_rows
returns-in-30 c = at erfc_rows _ _ 30 c.in-30.is refl

pub returns-in-31 : goal.returns-in-31
unfolding erfc_row_of erfc_rows
returns-in-31 c = at erfc_rows _ _ 31 c.in-31.is refl

pub returns-in-32 : goal.returns-in-32
unfolding erfc_row_of erfc_rows
returns-in-32 c = at erfc_rows _ _ 32 c.in-32.is refl

pub returns-in-33 : goal.returns-in-33
unfolding erfc_row_of erfc_rows
returns-in-33 c = at erfc_rows _ _ 33 c.in-33.is refl

pub returns-in-34 : goal.returns-in-34
unfolding erfc_row_of erfc_rows
returns-in-34 c = at erfc_rows _ _ 34 c.in-34.is refl

pub returns-in-35 : goal.returns-in-35
unfolding erfc_row_of erfc_rows
returns-in-35 c = at erfc_rows _ _ 35 c.in-35.is refl

pub returns-in-36 : goal.returns-in-36
unfolding erfc_row_of erfc_rows
returns-in-36 c = at erfc_rows _ _ 36 c.in-36.is refl

pub returns-in-37 : goal.returns-in-37
unfolding erfc_row_of erfc_rows
returns-in-37 c = at erfc_rows _ _ 37 c.in-37.is refl

pub returns-in-38 : goal.returns-in-38
unfolding erfc_row_of erfc_rows
returns-in-38 c = at erfc_rows _ _ 38 c.in-38.is refl

pub returns-in-39 : goal.returns-in-39
unfolding erfc_row_of erfc_rows
returns-in-39 c = at erfc_rows _ _ 39 c.in-39.is refl

pub returns-in-40 : goal.returns-in-40
unfolding erfc_row_of erfc_rows
returns-in-40 c = at erfc_rows _ _ 40 c.in-40.is refl

pub returns-in-41 : goal.returns-in-41
unfolding erfc_row_of erfc_rows
returns-in-41 c = at erfc_rows _ _ 41 c.in-41.is refl

pub returns-in-42 : goal.returns-in-42
unfolding erfc_row_of erfc_rows
returns-in-42 c = at erfc_rows _ _ 42 c.in-42.is refl

pub returns-in-43 : goal.returns-in-43
unfolding erfc_row_of erfc_rows
returns-in-43 c = at erfc_rows _ _ 43 c.in-43.is refl

pub returns-in-44 : goal.returns-in-44
unfolding erfc_row_of erfc_rows
returns-in-44 c = at erfc_rows _ _ 44 c.in-44.is refl

pub returns-in-45 : goal.returns-in-45
unfolding erfc_row_of erfc_rows
returns-in-45 c = at erfc_rows _ _ 45 c.in-45.is refl

pub returns-in-46 : goal.returns-in-46
unfolding erfc_row_of erfc_rows
returns-in-46 c = at erfc_rows _ _ 46 c.in-46.is refl

pub returns-in-47 : goal.returns-in-47
unfolding erfc_row_of erfc_rows
returns-in-47 c = at erfc_rows _ _ 47 c.in-47.is refl

pub returns-in-48 : goal.returns-in-48
unfolding erfc_row_of erfc_rows
returns-in-48 c = at erfc_rows _ _ 48 c.in-48.is refl

pub returns-in-49 : goal.returns-in-49
unfolding erfc_row_of erfc_rows
returns-in-49 c = at erfc_rows _ _ 49 c.in-49.is refl

pub returns-in-50 : goal.returns-in-50
unfolding erfc_row_of erfc_rows
returns-in-50 c = at erfc_rows _ _ 50 c.in-50.is refl

pub returns-in-51 : goal.returns-in-51
unfolding erfc_row_of erfc_rows
returns-in-51 c = at erfc_rows _ _ 51 c.in-51.is refl

pub returns-in-52 : goal.returns-in-52
unfolding erfc_row_of erfc_rows
returns-in-52 c = at erfc_rows _ _ 52 c.in-52.is refl

pub returns-in-53 : goal.returns-in-53
unfolding erfc_row_of erfc_rows
returns-in-53 c = at erfc_rows _ _ 53 c.in-53.is refl

pub returns-in-54 : goal.returns-in-54
unfolding erfc_row_of erfc_rows
returns-in-54 c = at erfc_rows _ _ 54 c.in-54.is refl

pub returns-in-55 : goal.returns-in-55
unfolding erfc_row_of erfc_rows
returns-in-55 c = at erfc_rows _ _ 55 c.in-55.is refl

pub returns-in-56 : goal.returns-in-56
unfolding erfc_row_of erfc_rows
returns-in-56 c = at erfc_rows _ _ 56 c.in-56.is refl

pub returns-in-57 : goal.returns-in-57
unfolding erfc_row_of erfc_rows
returns-in-57 c = at erfc_rows _ _ 57 c.in-57.is refl

pub returns-in-58 : goal.returns-in-58
unfolding erfc_row_of erfc_rows
returns-in-58 c = at erfc_rows _ _ 58 c.in-58.is refl

pub returns-in-59 : goal.returns-in-59
unfolding erfc_row_of erfc_rows
returns-in-59 c = at erfc_rows _ _ 59 c.in-59.is refl

pub returns-in-60 : goal.returns-in-60
unfolding erfc_row_of erfc_rows
returns-in-60 c = at erfc_rows _ _ 60 c.in-60.is refl

pub returns-in-61 : goal.returns-in-61
unfolding erfc_row_of erfc_rows
returns-in-61 c = at erfc_rows _ _ 61 c.in-61.is refl

pub returns-in-62 : goal.returns-in-62
unfolding erfc_row_of erfc_rows
returns-in-62 c = at erfc_rows _ _ 62 c.in-62.is refl

pub returns-in-63 : goal.returns-in-63
unfolding erfc_row_of erfc_rows
returns-in-63 c = at erfc_rows _ _ 63 c.in-63.is refl

pub returns-in-64 : goal.returns-in-64
unfolding erfc_row_of erfc_rows
returns-in-64 c = at erfc_rows _ _ 64 c.in-64.is refl

pub returns-in-65 : goal.returns-in-65
unfolding erfc_row_of erfc_rows
returns-in-65 c = at erfc_rows _ _ 65 c.in-65.is refl

pub returns-in-66 : goal.returns-in-66
unfolding erfc_row_of erfc_rows
returns-in-66 c = at erfc_rows _ _ 66 c.in-66.is refl

pub returns-in-67 : goal.returns-in-67
unfolding erfc_row_of erfc_rows
returns-in-67 c = at erfc_rows _ _ 67 c.in-67.is refl

pub returns-in-68 : goal.returns-in-68
unfolding erfc_row_of erfc_rows
returns-in-68 c = at erfc_rows _ _ 68 c.in-68.is refl

pub returns-in-69 : goal.returns-in-69
unfolding erfc_row_of erfc_rows
returns-in-69 c = at erfc_rows _ _ 69 c.in-69.is refl

pub returns-in-70 : goal.returns-in-70
unfolding erfc_row_of erfc_rows
returns-in-70 c = at erfc_rows _ _ 70 c.in-70.is refl

pub returns-in-71 : goal.returns-in-71
unfolding erfc_row_of erfc_rows
returns-in-71 c = at erfc_rows _ _ 71 c.in-71.is refl

pub returns-in-72 : goal.returns-in-72
unfolding erfc_row_of erfc_rows
returns-in-72 c = at erfc_rows _ _ 72 c.in-72.is refl

pub returns-in-73 : goal.returns-in-73
unfolding erfc_row_of erfc_rows
returns-in-73 c = at erfc_rows _ _ 73 c.in-73.is refl

pub returns-in-74 : goal.returns-in-74
unfolding erfc_row_of erfc_rows
returns-in-74 c = at erfc_rows _ _ 74 c.in-74.is refl

pub returns-in-75 : goal.returns-in-75
unfolding erfc_row_of erfc_rows
returns-in-75 c = at erfc_rows _ _ 75 c.in-75.is refl

pub returns-in-76 : goal.returns-in-76
unfolding erfc_row_of erfc_rows
returns-in-76 c = at erfc_rows _ _ 76 c.in-76.is refl

pub returns-in-77 : goal.returns-in-77
unfolding erfc_row_of erfc_rows
returns-in-77 c = at erfc_rows _ _ 77 c.in-77.is refl

pub returns-in-78 : goal.returns-in-78
unfolding erfc_row_of erfc_rows
returns-in-78 c = at erfc_rows _ _ 78 c.in-78.is refl

pub returns-in-79 : goal.returns-in-79
unfolding erfc_row_of erfc_rows
returns-in-79 c = at erfc_rows _ _ 79 c.in-79.is refl

pub returns-in-80 : goal.returns-in-80
unfolding erfc_row_of erfc_rows
returns-in-80 c = at erfc_rows _ _ 80 c.in-80.is refl

pub returns-in-81 : goal.returns-in-81
unfolding erfc_row_of erfc_rows
returns-in-81 c = at erfc_rows _ _ 81 c.in-81.is refl

pub returns-in-82 : goal.returns-in-82
unfolding erfc_row_of erfc_rows
returns-in-82 c = at erfc_rows _ _ 82 c.in-82.is refl

pub returns-in-83 : goal.returns-in-83
unfolding erfc_row_of erfc_rows
returns-in-83 c = at erfc_rows _ _ 83 c.in-83.is refl

pub returns-in-84 : goal.returns-in-84
unfolding erfc_row_of erfc_rows
returns-in-84 c = at erfc_rows _ _ 84 c.in-84.is refl

pub returns-in-85 : goal.returns-in-85
unfolding erfc_row_of erfc_rows
returns-in-85 c = at erfc_rows _ _ 85 c.in-85.is refl

pub returns-in-86 : goal.returns-in-86
unfolding erfc_row_of erfc_rows
returns-in-86 c = at erfc_rows _ _ 86 c.in-86.is refl

pub returns-in-87 : goal.returns-in-87
unfolding erfc_row_of erfc_rows
returns-in-87 c = at erfc_rows _ _ 87 c.in-87.is refl

pub returns-in-88 : goal.returns-in-88
unfolding erfc_row_of erfc_rows
returns-in-88 c = at erfc_rows _ _ 88 c.in-88.is refl

pub returns-in-89 : goal.returns-in-89
unfolding erfc_row_of erfc_rows
returns-in-89 c = at erfc_rows _ _ 89 c.in-89.is refl

pub returns-in-90 : goal.returns-in-90
unfolding erfc_row_of erfc_rows
returns-in-90 c = at erfc_rows _ _ 90 c.in-90.is refl

pub returns-in-91 : goal.returns-in-91
unfolding erfc_row_of erfc_rows
returns-in-91 c = at erfc_rows _ _ 91 c.in-91.is refl

pub returns-in_default : goal.returns-in_default
unfolding erfc_row_of erfc_rows
returns-in_default c = past erfc_rows _ _ c.in_default.in_default-own.rest
