mod GuardLaws
mod IntervalLaws
mod TableLaws
