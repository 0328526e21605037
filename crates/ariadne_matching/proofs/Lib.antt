mod HandedLines
mod NoFloats
mod Reported
mod Settled
mod Taken
mod Telling
mod Tried
