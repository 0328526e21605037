-- The words.
mod Fronts
mod Numbers
mod Options
mod Threes
mod PlainWords
mod PageWords
-- The report.
mod Writing
mod Ending
-- Brackets.
mod Stacks
mod Offences
mod Bounds
mod OneOffence
-- The files that are checked.
mod Passing
-- The report of the offences.
mod Reporting
mod LintWriting
mod LintEnding
